-- Lines and texts that are generated, piece by piece and line by line. A generated text is short, and begins with `let`.
use Rattle.std.proofs.Common.{◌≡◌, ℕ, zero, suc, ◌+◌, ◌*◌, ◌/◌, ◌%◌, ◌<◌, ◌≤◌, Bool, true, false, cond, List, [], ◌∷◌, ◌++◌, length, codes, decimal, refl, ap, ◌∙◌, arith, append_assoc, length-append}
use Rattle.std.specs.Prelude.{◌==◌}
use Rattle.std.proofs.lemmas.Fmt.{length-decimal-le}
use Rattle.std.proofs.lemmas.Nat.{mod_below}
use Rattle.mls_top.specs.Generator.{next, state, draw, draws_before, binding, maker, made, label, adder, caller, line_from, line, generated}

-- pieces of a line from the right
pub four_pieces : (a b c d : List ℕ) → a ++ (b ++ (c ++ d)) ≡ a ++ b ++ c ++ d
four_pieces a b c d = simp append_assoc

pub six_pieces : (a b c d e f : List ℕ) → a ++ (b ++ (c ++ (d ++ (e ++ f)))) ≡ a ++ b ++ c ++ d ++ e ++ f
six_pieces a b c d e f = simp append_assoc

pub eight_pieces : (a b c d e f g h : List ℕ) → a ++ (b ++ (c ++ (d ++ (e ++ (f ++ (g ++ h)))))) ≡ a ++ b ++ c ++ d ++ e ++ f ++ g ++ h
eight_pieces a b c d e f g h = simp append_assoc

-- no line at first
pub first_text : (seed : ℕ) (text : List ℕ) → text ≡ [] → text ≡ generated seed 0
unfolding generated
first_text seed text none = none

pub first_state : (seed : ℕ) → seed ≡ state seed (draws_before 0)
unfolding state draws_before
first_state seed = refl

-- one line more
line_added : (seed i s : ℕ) → s ≡ state seed (draws_before i) → (before added after : List ℕ) → before ≡ generated seed i → added ≡ line_from s i → after ≡ before ++ added → after ≡ generated seed (suc i)
unfolding generated
line_added seed i s is before added after front new whole = whole ∙ (λ k. front k ++ (new ∙ ap (λ s. line_from s i) is) k)

pub next_text : (seed i s : ℕ) → s ≡ state seed (draws_before i) → (before added after : List ℕ) → before ≡ generated seed i → added ≡ line_from s i → after ≡ before ++ added → after ≡ generated seed (i + 1)
next_text seed i s is before added after front new whole =
    let more : suc i ≡ i + 1 = omega arith in
    line_added seed i s is before added after front new whole ∙ ap (generated seed) more

-- and the state behind it
draws_added : (seed i s t : ℕ) → s ≡ state seed (draws_before i) → t ≡ (cond (i % 4 == 0) (next s) (next (next s))) → t ≡ state seed (draws_before (suc i))
unfolding state draws_before
draws_added seed i s t is behind = behind ∙ by (i % 4 == 0)
  where
    one : suc (draws_before i) ≡ draws_before i + 1
    one = omega arith

    two : suc (suc (draws_before i)) ≡ draws_before i + 2
    two = omega arith

    by : (b : Bool) → cond b (next s) (next (next s)) ≡ state seed (draws_before i + cond b 1 2)
    by true = ap next is ∙ ap (state seed) one
    by false = ap (λ s. next (next s)) is ∙ ap (state seed) two

pub next_state : (seed i s t : ℕ) → s ≡ state seed (draws_before i) → t ≡ (cond (i % 4 == 0) (next s) (next (next s))) → t ≡ state seed (draws_before (i + 1))
next_state seed i s t is behind =
    let more : suc i ≡ i + 1 = omega arith in
    draws_added seed i s t is behind ∙ ap (λ i. state seed (draws_before i)) more

joined : (a b : List ℕ) (m n : ℕ) → length a ≤ m → length b ≤ n → length (a ++ b) ≤ m + n
joined a b m n h k = let e : length (a ++ b) ≡ length a + length b = length-append a b in omega arith

-- the numbers of lines have at most five digits
short_number : (n : ℕ) → n < 100000 → length (decimal n) ≤ 5
short_number n low = length-decimal-le 5 n (omega arith) low (omega arith)

short_name : (i : ℕ) → i < 100000 → length (binding i) ≤ 6
short_name i low = joined (codes "v") (decimal i) 1 5 (omega arith) (short_number i low)

module _ (i : ℕ) (low : i < 100000) where
  short_maker : (n : ℕ) → n < 100000 → length (maker i n) ≤ 100
  short_maker n small =
      let front = joined (codes "let ") (binding i) 4 6 (omega arith) (short_name i low) in
      let middle = joined (codes "let " ++ binding i) (codes " = fun x -> fun y -> {a = x, b = y, c = ") 10 50 front (omega arith) in
      let number = joined (codes "let " ++ binding i ++ codes " = fun x -> fun y -> {a = x, b = y, c = ") (decimal n) 60 5 middle (short_number n small) in
      joined (codes "let " ++ binding i ++ codes " = fun x -> fun y -> {a = x, b = y, c = " ++ decimal n) (codes "}\n") 65 35 number (omega arith)

  short_made : (j n : ℕ) → j < 100000 → n < 100000 → length (made i j n) ≤ 100
  short_made j n less small =
      let front = joined (codes "let ") (binding i) 4 6 (omega arith) (short_name i low) in
      let middle = joined (codes "let " ++ binding i) (codes " = (") 10 10 front (omega arith) in
      let name = joined (codes "let " ++ binding i ++ codes " = (") (binding j) 20 6 middle (short_name j less) in
      let space = joined (codes "let " ++ binding i ++ codes " = (" ++ binding j) (codes " ") 26 4 name (omega arith) in
      let number = joined (codes "let " ++ binding i ++ codes " = (" ++ binding j ++ codes " ") (decimal n) 30 5 space (short_number n small) in
      joined (codes "let " ++ binding i ++ codes " = (" ++ binding j ++ codes " " ++ decimal n) (codes ") true\n") 35 65 number (omega arith)

  short_adder : (l : List ℕ) (j : ℕ) → length l ≤ 1 → j < 100000 → length (adder i l j) ≤ 100
  short_adder l j one less =
      let front = joined (codes "let ") (binding i) 4 6 (omega arith) (short_name i low) in
      let middle = joined (codes "let " ++ binding i) (codes " = fun r -> r.") 10 20 front (omega arith) in
      let field = joined (codes "let " ++ binding i ++ codes " = fun r -> r.") l 30 1 middle one in
      let plus = joined (codes "let " ++ binding i ++ codes " = fun r -> r." ++ l) (codes " + ") 31 9 field (omega arith) in
      let name = joined (codes "let " ++ binding i ++ codes " = fun r -> r." ++ l ++ codes " + ") (binding j) 40 6 plus (short_name j less) in
      joined (codes "let " ++ binding i ++ codes " = fun r -> r." ++ l ++ codes " + " ++ binding j) (codes ".c\n") 46 54 name (omega arith)

  short_caller : (n j : ℕ) → n < 100000 → j < 100000 → length (caller i n j) ≤ 100
  short_caller n j small less =
      let front = joined (codes "let rec ") (binding i) 8 6 (omega arith) (short_name i low) in
      let middle = joined (codes "let rec " ++ binding i) (codes " = fun n -> if n < ") 14 20 front (omega arith) in
      let number = joined (codes "let rec " ++ binding i ++ codes " = fun n -> if n < ") (decimal n) 34 5 middle (short_number n small) in
      let reached = joined (codes "let rec " ++ binding i ++ codes " = fun n -> if n < " ++ decimal n) (codes " then ") 39 6 number (omega arith) in
      let name = joined (codes "let rec " ++ binding i ++ codes " = fun n -> if n < " ++ decimal n ++ codes " then ") (binding j) 45 6 reached (short_name j less) in
      let made_one = joined (codes "let rec " ++ binding i ++ codes " = fun n -> if n < " ++ decimal n ++ codes " then " ++ binding j) (codes " {a = n, b = n, c = n} else ") 51 30 name (omega arith) in
      let own = joined (codes "let rec " ++ binding i ++ codes " = fun n -> if n < " ++ decimal n ++ codes " then " ++ binding j ++ codes " {a = n, b = n, c = n} else ") (binding i) 81 6 made_one (short_name i low) in
      joined (codes "let rec " ++ binding i ++ codes " = fun n -> if n < " ++ decimal n ++ codes " then " ++ binding j ++ codes " {a = n, b = n, c = n} else " ++ binding i) (codes " (n - 1)\n") 87 13 own (omega arith)

short_label : (l : ℕ) → length (label l) ≤ 1
short_label l = by (l == 0) (l == 1)
  where
    by : (first second : Bool) → length (cond first (codes "a") (cond second (codes "b") (codes "c"))) ≤ 1
    by true second = omega arith
    by false true = omega arith
    by false false = omega arith

short_line : (s i : ℕ) → i < 10000 → length (line_from s i) ≤ 100
short_line s i low = by (i % 4 == 0) (i % 4 == 1) (i % 4 == 2)
  where
    earlier : (s : ℕ) → 4 * draw s (i / 4 + 1) + 2 < 100000
    earlier s = let d : draw s (i / 4 + 1) < i / 4 + 1 = mod_below (next s / 65536) (i / 4 + 1) (omega arith) in omega arith

    small : (s : ℕ) → draw s 1000 < 100000
    small s = let d : draw s 1000 < 1000 = mod_below (next s / 65536) 1000 (omega arith) in omega arith

    by : (first second third : Bool)
        → length (cond first (maker i (draw s 1000)) (cond second (made i (4 * draw s (i / 4 + 1)) (draw (next s) 1000)) (cond third (adder i (label (draw s 3)) (4 * draw (next s) (i / 4 + 1) + 1)) (caller i (draw s 1000) (4 * draw (next s) (i / 4 + 1) + 2))))) ≤ 100
    by true second third = short_maker i (omega arith) (draw s 1000) (small s)
    by false true third = let e = earlier s in short_made i (omega arith) (4 * draw s (i / 4 + 1)) (draw (next s) 1000) (omega arith) (small (next s))
    by false false true = let e = earlier (next s) in short_adder i (omega arith) (label (draw s 3)) (4 * draw (next s) (i / 4 + 1) + 1) (short_label (draw s 3)) (omega arith)
    by false false false = let e = earlier (next s) in short_caller i (omega arith) (draw s 1000) (4 * draw (next s) (i / 4 + 1) + 2) (small s) e

-- a text has at most a hundred bytes for each binding
short_text : (seed count : ℕ) → count ≤ 10000 → length (generated seed count) ≤ 100 * count
unfolding generated
short_text seed zero few = omega arith
short_text seed (suc count) few =
    let h : length (generated seed count) ≤ 100 * count = short_text seed count (omega arith) in
    let l : length (line seed count) ≤ 100 = short_line (state seed (draws_before count)) count (omega arith) in
    let e : length (generated seed count ++ line seed count) ≡ length (generated seed count) + length (line seed count) = length-append (generated seed count) (line seed count) in
    omega arith

pub generated_short : (seed count : ℕ) → count ≤ 10000 → length (generated seed count) ≤ 1048576
generated_short seed count few = let h : length (generated seed count) ≤ 100 * count = short_text seed count few in omega arith

-- the first byte is that of `let`
begins : (seed count : ℕ) → (rest : List ℕ) × (generated seed (suc count) ≡ 108 ∷ rest)
unfolding generated
begins seed zero = (_, refl)
begins seed (suc count) = let h = begins seed count in (h.0 ++ line seed (suc count), ap (λ text. text ++ line seed (suc count)) h.1)

pub generated_begins : (seed count : ℕ) → 1 ≤ count → (rest : List ℕ) × (generated seed count ≡ 108 ∷ rest)
generated_begins seed zero some = absurd (omega arith)
generated_begins seed (suc count) some = begins seed count
