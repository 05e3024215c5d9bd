-- For each phrase of a type the machine tells the pieces of its tree.
use Rattle.std.proofs.Common.{◌≡◌, ℕ, ◌+◌, List, [], ◌∷◌, ◌++◌, refl, sym, ap, ◌∙◌, None, append-nil}
use Rattle.std.proofs.lemmas.List.{append_assoc}
use Rattle.mls_lexer.specs.declared.token.Kind.TheVariants as kind
use Rattle.mls_lexer.specs.Tokens.{Terminal, name, word}
use Rattle.mls_typetext.specs.Phrases.{Sort, whole, codomain, join, join_tail, meet, meet_tail, atom, fields, more_fields, Phrase, recursive, joined, no_codomain, to, joins, no_join, or, meets, no_meet, and, named, boolean, integer, top, bot, parens, braces, no_field, first_field, last_field, next_field, width}
use Rattle.mls_typetext.specs.Trees.{meaning}
use Rattle.mls_typetext.specs.declared.piece.Piece.{Piece}
use Rattle.mls_typetext.specs.declared.piece.Piece.TheVariants as piece
use Rattle.mls_typetext.specs.steps.Pieces.{postorder}
use Rattle.mls_lexer.specs.steps.Placed.{Placed}
use Rattle.mls_typetext.specs.steps.PieceMachine.{Todo, a, the_paren, tell, acts, took, advance, build, last_told}
use Rattle.mls_typetext.proofs.Emitted.{emitted, emitted-meaning}

-- what a phrase spells, with the places of its terminals
unfoldable pub spells : (place : ℕ → ℕ) → {s : Sort} → ℕ → Phrase s → List Placed → List Placed
spells place k (recursive x t) rest = (place k, word kind.WordRec) ∷ (place (k + 1), name x) ∷ (place (k + 2), word kind.Dot) ∷ spells place (k + 3) t rest
spells place k (joined j c) rest = spells place k j (spells place (k + width j) c rest)
spells place k no_codomain rest = rest
spells place k (to t) rest = (place k, word kind.Arrow) ∷ spells place (k + 1) t rest
spells place k (joins m t) rest = spells place k m (spells place (k + width m) t rest)
spells place k no_join rest = rest
spells place k (or m t) rest = (place k, word kind.Bar) ∷ spells place (k + 1) m (spells place (k + 1 + width m) t rest)
spells place k (meets x t) rest = spells place k x (spells place (k + width x) t rest)
spells place k no_meet rest = rest
spells place k (and x t) rest = (place k, word kind.Amp) ∷ spells place (k + 1) x (spells place (k + 1 + width x) t rest)
spells place k (named x) rest = (place k, name x) ∷ rest
spells place k boolean rest = (place k, word kind.WordBool) ∷ rest
spells place k integer rest = (place k, word kind.WordInt) ∷ rest
spells place k top rest = (place k, word kind.WordTop) ∷ rest
spells place k bot rest = (place k, word kind.WordBot) ∷ rest
spells place k (parens t) rest = (place k, word kind.ParenLeft) ∷ spells place (k + 1) t ((place (k + 1 + width t), word kind.ParenRight) ∷ rest)
spells place k (braces f) rest = (place k, word kind.BraceLeft) ∷ spells place (k + 1) f rest
spells place k no_field rest = (place k, word kind.BraceRight) ∷ rest
spells place k (first_field label t f) rest = (place k, name label) ∷ (place (k + 1), word kind.Colon) ∷ spells place (k + 2) t (spells place (k + 2 + width t) f rest)
spells place k last_field rest = (place k, word kind.BraceRight) ∷ rest
spells place k (next_field label t f) rest = (place k, word kind.Comma) ∷ (place (k + 1), name label) ∷ (place (k + 2), word kind.Colon) ∷ spells place (k + 3) t (spells place (k + 3 + width t) f rest)

-- pieces that are told before what is to do
abbrev pub tells : List Piece → List Todo → List Todo
tells [] st = st
tells (piece ∷ pieces) st = tell piece ∷ tells pieces st

tells-append : (xs ys : List Piece) (st : List Todo) → tells xs (tells ys st) ≡ tells (xs ++ ys) st
tells-append [] ys st = refl
tells-append (x ∷ xs) ys st = ap (λ st. tell x ∷ st) (tells-append xs ys st)

advance-tells : (pieces : List Piece) (at : ℕ) (t : Terminal) (st : List Todo) (out : List Piece) → advance at t (tells pieces st) out ≡ advance at t st (out ++ pieces)
advance-tells [] at t st out = ap (advance at t st) (sym (append-nil out))
advance-tells (piece ∷ pieces) at t st out = advance-tells pieces at t st (out ++ piece ∷ []) ∙ ap (advance at t st) (append_assoc out (piece ∷ []) pieces)

build-tells : (pieces : List Piece) (u : Placed) (us : List Placed) (st : List Todo) (out : List Piece) → build (tells pieces st) out (u ∷ us) ≡ build st (out ++ pieces) (u ∷ us)
unfolding build
build-tells pieces u us st out = ap (λ s. build s.stack s.told us) (advance-tells pieces u.0 u.1 st out)

-- what is left behind a phrase: its tails, with what is told between them
abbrev pub Left : Type 0
Left = List Piece × List Piece × List Piece

abbrev pub left : Sort → Left → List Todo → List Todo
left whole it st = tells it.0 (a meet_tail ∷ tells it.1 (a join_tail ∷ a codomain ∷ tells it.2 st))
left codomain it st = tells it.0 (a meet_tail ∷ tells it.1 (a join_tail ∷ a codomain ∷ tells it.2 st))
left join it st = tells it.0 (a meet_tail ∷ tells it.1 (a join_tail ∷ st))
left join_tail it st = tells it.0 (a meet_tail ∷ tells it.1 (a join_tail ∷ st))
left meet it st = tells it.0 (a meet_tail ∷ st)
left meet_tail it st = tells it.0 (a meet_tail ∷ st)
left atom it st = tells it.0 st
left fields it st = tells it.0 st
left more_fields it st = tells it.0 st

-- a part that is to come, behind what its left neighbour left
abbrev pub front : Sort → Left → List Todo → List Todo
front codomain it st = tells it.0 (a meet_tail ∷ tells it.1 (a join_tail ∷ a codomain ∷ st))
front join_tail it st = tells it.0 (a meet_tail ∷ tells it.1 (a join_tail ∷ st))
front meet_tail it st = tells it.0 (a meet_tail ∷ st)
front more_fields it st = tells it.0 (a meet_tail ∷ tells it.1 (a join_tail ∷ a codomain ∷ tells it.2 (a more_fields ∷ st)))
front s it st = a s ∷ st

-- what is told once what is left is over
abbrev pub ended : Sort → Left → List Piece → List Piece
ended whole it out = out ++ (it.0 ++ (it.1 ++ it.2))
ended codomain it out = out ++ (it.0 ++ (it.1 ++ it.2))
ended join it out = out ++ (it.0 ++ it.1)
ended join_tail it out = out ++ (it.0 ++ it.1)
ended meet it out = out ++ it.0
ended meet_tail it out = out ++ it.0
ended atom it out = out ++ it.0
ended fields it out = out ++ it.0
ended more_fields it out = out ++ it.0

abbrev pub begun : Sort → Left → List Piece → List Piece
begun codomain it out = out ++ (it.0 ++ it.1)
begun join_tail it out = out ++ (it.0 ++ it.1)
begun meet_tail it out = out ++ it.0
begun more_fields it out = out ++ (it.0 ++ (it.1 ++ it.2))
begun s it out = out

abbrev pub nothing : Left
nothing = ([], [], [])

-- the machine reads a phrase and tells its pieces
pub record Reads (place : ℕ → ℕ) {s : Sort} (k : ℕ) (p : Phrase s) (before : Left) (out : List Piece) : Type 0 where
  pub after : Left
  pub told : List Piece
  pub goes : (st : List Todo) (ts : List Placed) → build (front s before st) out (spells place k p ts) ≡ build (left s after st) told ts
  pub sum : ended s after told ≡ begun s before out ++ emitted place k p

-- sums of lists
sum-last : (told x o e w : List Piece) → told ++ x ≡ o ++ e → told ++ (x ++ w) ≡ o ++ (e ++ w)
sum-last told x o e w h = sym (append_assoc told x w) ∙ (ap (λ out. out ++ w) h ∙ append_assoc o e w)

sum-whole : (told x y z o e w : List Piece) → told ++ (x ++ (y ++ z)) ≡ o ++ e → told ++ (x ++ (y ++ (z ++ w))) ≡ o ++ (e ++ w)
sum-whole told x y z o e w h =
    ap (λ out. told ++ (x ++ out)) (sym (append_assoc y z w))
    ∙ (ap (λ out. told ++ out) (sym (append_assoc x (y ++ z) w))
    ∙ sum-last told (x ++ (y ++ z)) o e w h)

sum-operand : (told x o m t : List Piece) (piece : Piece) → told ++ x ≡ o ++ m → (told ++ (x ++ piece ∷ [])) ++ t ≡ o ++ (m ++ (piece ∷ t))
sum-operand told x o m t piece h =
    ap (λ out. out ++ t) (sum-last told x o m (piece ∷ []) h)
    ∙ (append_assoc o (m ++ piece ∷ []) t
    ∙ ap (λ out. o ++ out) (append_assoc m (piece ∷ []) t))

sum-both : (all first o e f : List Piece) → all ≡ first ++ f → first ≡ o ++ e → all ≡ o ++ (e ++ f)
sum-both all first o e f h h' = h ∙ (ap (λ out. out ++ f) h' ∙ append_assoc o e f)

-- a piece below what a whole type left
left-whole : (it : Left) (piece : Piece) (st : List Todo) → left whole it (tell piece ∷ st) ≡ left whole (it.0, it.1, it.2 ++ piece ∷ []) st
left-whole it piece st = ap (λ st. tells it.0 (a meet_tail ∷ tells it.1 (a join_tail ∷ a codomain ∷ st))) (tells-append it.2 (piece ∷ []) st)

-- a terminal with which no tail begins
close : (it : Left) (at : ℕ) (t : Terminal) (us : List Placed) (st : List Todo) (out : List Piece)
    → acts (a meet_tail) at t ≡ None → acts (a join_tail) at t ≡ None → acts (a codomain) at t ≡ None
    → build (left whole it st) out ((at, t) ∷ us) ≡ build st (out ++ (it.0 ++ (it.1 ++ it.2))) ((at, t) ∷ us)
unfolding build
close it at t us st out first second third =
    let x = it.0 in
    let y = it.1 in
    let z = it.2 in
    let low : List Todo = tells z st in
    let high : List Todo = tells y (a join_tail ∷ a codomain ∷ low) in
    build-tells x (at, t) us (a meet_tail ∷ high) out
    ∙ (ap (λ o. build (took o high (out ++ x) (advance at t high (out ++ x))).stack (took o high (out ++ x) (advance at t high (out ++ x))).told us) first
    ∙ (build-tells y (at, t) us (a join_tail ∷ a codomain ∷ low) (out ++ x)
    ∙ (ap (λ o. build (took o (a codomain ∷ low) (out ++ x ++ y) (advance at t (a codomain ∷ low) (out ++ x ++ y))).stack (took o (a codomain ∷ low) (out ++ x ++ y) (advance at t (a codomain ∷ low) (out ++ x ++ y))).told us) second
    ∙ (ap (λ o. build (took o low (out ++ x ++ y) (advance at t low (out ++ x ++ y))).stack (took o low (out ++ x ++ y) (advance at t low (out ++ x ++ y))).told us) third
    ∙ (build-tells z (at, t) us st (out ++ x ++ y)
    ∙ ap (λ out. build st out ((at, t) ∷ us)) (append_assoc (out ++ x) y z ∙ append_assoc out x (y ++ z)))))))

-- an operand begins with its first atom
whole_begins : (place : ℕ → ℕ) (k : ℕ) (x : Phrase atom) (st : List Todo) (out : List Piece) (ts : List Placed) → build (a whole ∷ st) out (spells place k x ts) ≡ build (a join ∷ a codomain ∷ st) out (spells place k x ts)
unfolding build spells
whole_begins place k (named x) st out ts = refl
whole_begins place k boolean st out ts = refl
whole_begins place k integer st out ts = refl
whole_begins place k top st out ts = refl
whole_begins place k bot st out ts = refl
whole_begins place k (parens t) st out ts = refl
whole_begins place k (braces f) st out ts = refl

join_begins : (place : ℕ → ℕ) (k : ℕ) (x : Phrase atom) (st : List Todo) (out : List Piece) (ts : List Placed) → build (a join ∷ st) out (spells place k x ts) ≡ build (a meet ∷ a join_tail ∷ st) out (spells place k x ts)
unfolding build spells
join_begins place k (named x) st out ts = refl
join_begins place k boolean st out ts = refl
join_begins place k integer st out ts = refl
join_begins place k top st out ts = refl
join_begins place k bot st out ts = refl
join_begins place k (parens t) st out ts = refl
join_begins place k (braces f) st out ts = refl

meet_begins : (place : ℕ → ℕ) (k : ℕ) (x : Phrase atom) (st : List Todo) (out : List Piece) (ts : List Placed) → build (a meet ∷ st) out (spells place k x ts) ≡ build (a atom ∷ a meet_tail ∷ st) out (spells place k x ts)
unfolding build spells
meet_begins place k (named x) st out ts = refl
meet_begins place k boolean st out ts = refl
meet_begins place k integer st out ts = refl
meet_begins place k top st out ts = refl
meet_begins place k bot st out ts = refl
meet_begins place k (parens t) st out ts = refl
meet_begins place k (braces f) st out ts = refl

whole_begins-join : (place : ℕ → ℕ) (k : ℕ) (j : Phrase join) (st : List Todo) (out : List Piece) (ts : List Placed) → build (a whole ∷ st) out (spells place k j ts) ≡ build (a join ∷ a codomain ∷ st) out (spells place k j ts)
unfolding spells
whole_begins-join place k (joins (meets x t) u) st out ts = whole_begins place k x st out _

join_begins-meet : (place : ℕ → ℕ) (k : ℕ) (m : Phrase meet) (st : List Todo) (out : List Piece) (ts : List Placed) → build (a join ∷ st) out (spells place k m ts) ≡ build (a meet ∷ a join_tail ∷ st) out (spells place k m ts)
unfolding spells
join_begins-meet place k (meets x t) st out ts = join_begins place k x st out _

-- a field with its type, and the fields behind it
read_fields : (place : ℕ → ℕ) (m n : ℕ) (t : Phrase whole) (f : Phrase more_fields) (out : List Piece) (piece : Piece) (rt : Reads place m t nothing out) (rf : Reads place n f rt.after rt.told)
    → (after : Left) × (told : List Piece)
    × ((st : List Todo) (ts : List Placed) → build (a whole ∷ a more_fields ∷ tell piece ∷ st) out (spells place m t (spells place n f ts)) ≡ build (tells after.0 st) told ts)
    × (told ++ after.0 ≡ out ++ (emitted place m t ++ (emitted place n f ++ piece ∷ [])))
read_fields place m n t f out piece rt rf = (
  (rf.after.0 ++ piece ∷ [], [], []),
  rf.told,
  λ st ts.
      rt.goes (a more_fields ∷ tell piece ∷ st) (spells place n f ts)
      ∙ (rf.goes (tell piece ∷ st) ts ∙ ap (λ st. build st rf.told ts) (tells-append rf.after.0 (piece ∷ []) st)),
  sum-last rf.told rf.after.0 out (emitted place m t ++ emitted place n f) (piece ∷ [])
      (sum-both (rf.told ++ rf.after.0) (ended whole rt.after rt.told) out (emitted place m t) (emitted place n f) rf.sum rt.sum)
      ∙ ap (λ told. out ++ told) (append_assoc (emitted place m t) (emitted place n f) (piece ∷ [])),
)

-- the machine reads each phrase
pub builds : (place : ℕ → ℕ) {s : Sort} (k : ℕ) (p : Phrase s) (before : Left) (out : List Piece) → Reads place k p before out
unfolding build spells emitted
builds place k (recursive x t) before out =
    let r = builds place (k + 3) t nothing out in
    record {
      after = (r.after.0, r.after.1, r.after.2 ++ piece.Rec x ∷ []);
      told = r.told;
      goes = λ st ts. r.goes (tell (piece.Rec x) ∷ st) ts ∙ ap (λ st. build st r.told ts) (left-whole r.after (piece.Rec x) st);
      sum = sum-whole r.told r.after.0 r.after.1 r.after.2 out (emitted place (k + 3) t) (piece.Rec x ∷ []) r.sum;
    }
builds place k (joined j c) before out =
    let first = builds place k j nothing out in
    let second = builds place (k + width j) c first.after first.told in
    record {
      after = second.after;
      told = second.told;
      goes = λ st ts. whole_begins-join place k j st out (spells place (k + width j) c ts) ∙ (first.goes (a codomain ∷ st) (spells place (k + width j) c ts) ∙ second.goes st ts);
      sum = sum-both (ended codomain second.after second.told) (ended join first.after first.told) out (emitted place k j) (emitted place (k + width j) c) second.sum first.sum;
    }
builds place k no_codomain before out = record {
  after = (before.0, before.1, []);
  told = out;
  goes = λ st ts. refl;
  sum = ap (λ y. out ++ (before.0 ++ y)) (append-nil before.1) ∙ sym (append-nil (out ++ (before.0 ++ before.1)));
}
builds place k (to t) before out =
    let x = before.0 in
    let y = before.1 in
    let r = builds place (k + 1) t nothing (out ++ x ++ y) in
    record {
      after = (r.after.0, r.after.1, r.after.2 ++ piece.Arrow ∷ []);
      told = r.told;
      goes = λ st ts.
          let u : Placed = (place k, word kind.Arrow) in
          let us : List Placed = spells place (k + 1) t ts in
          build-tells x u us (a meet_tail ∷ tells y (a join_tail ∷ a codomain ∷ st)) out
          ∙ (build-tells y u us (a join_tail ∷ a codomain ∷ st) (out ++ x)
          ∙ (r.goes (tell piece.Arrow ∷ st) ts ∙ ap (λ st. build st r.told ts) (left-whole r.after piece.Arrow st)));
      sum =
          sum-whole r.told r.after.0 r.after.1 r.after.2 (out ++ x ++ y) (emitted place (k + 1) t) (piece.Arrow ∷ []) r.sum
          ∙ ap (λ o. o ++ (emitted place (k + 1) t ++ piece.Arrow ∷ [])) (append_assoc out x y);
    }
builds place k (joins m t) before out =
    let first = builds place k m nothing out in
    let second = builds place (k + width m) t (first.after.0, [], []) first.told in
    record {
      after = second.after;
      told = second.told;
      goes = λ st ts. join_begins-meet place k m st out (spells place (k + width m) t ts) ∙ (first.goes (a join_tail ∷ st) (spells place (k + width m) t ts) ∙ second.goes st ts);
      sum = sum-both (ended join second.after second.told) (ended meet first.after first.told) out (emitted place k m) (emitted place (k + width m) t)
          (second.sum ∙ ap (λ x. (first.told ++ x) ++ emitted place (k + width m) t) (append-nil first.after.0)) first.sum;
    }
builds place k no_join before out = record {
  after = before;
  told = out;
  goes = λ st ts. refl;
  sum = sym (append-nil (out ++ (before.0 ++ before.1)));
}
builds place k (or m t) before out =
    let x = before.0 in
    let y = before.1 in
    let first = builds place (k + 1) m nothing (out ++ x ++ y) in
    let second = builds place (k + 1 + width m) t (first.after.0, piece.Join (place k) ∷ [], []) first.told in
    record {
      after = second.after;
      told = second.told;
      goes = λ st ts.
          let u : Placed = (place k, word kind.Bar) in
          let us : List Placed = spells place (k + 1) m (spells place (k + 1 + width m) t ts) in
          build-tells x u us (a meet_tail ∷ tells y (a join_tail ∷ st)) out
          ∙ (build-tells y u us (a join_tail ∷ st) (out ++ x)
          ∙ (first.goes (tell (piece.Join (place k)) ∷ a join_tail ∷ st) (spells place (k + 1 + width m) t ts) ∙ second.goes st ts));
      sum =
          second.sum
          ∙ (sum-operand first.told first.after.0 (out ++ x ++ y) (emitted place (k + 1) m) (emitted place (k + 1 + width m) t) (piece.Join (place k)) first.sum
          ∙ ap (λ o. o ++ (emitted place (k + 1) m ++ (piece.Join (place k) ∷ emitted place (k + 1 + width m) t))) (append_assoc out x y));
    }
builds place k (meets x t) before out =
    let first = builds place k x nothing out in
    let second = builds place (k + width x) t first.after first.told in
    record {
      after = second.after;
      told = second.told;
      goes = λ st ts. meet_begins place k x st out (spells place (k + width x) t ts) ∙ (first.goes (a meet_tail ∷ st) (spells place (k + width x) t ts) ∙ second.goes st ts);
      sum = sum-both (ended meet second.after second.told) (ended atom first.after first.told) out (emitted place k x) (emitted place (k + width x) t) second.sum first.sum;
    }
builds place k no_meet before out = record { after = before; told = out; goes = λ st ts. refl; sum = sym (append-nil (out ++ before.0)) }
builds place k (and x t) before out =
    let first = builds place (k + 1) x nothing (out ++ before.0) in
    let second = builds place (k + 1 + width x) t (first.after.0 ++ piece.Meet (place k) ∷ [], [], []) first.told in
    record {
      after = second.after;
      told = second.told;
      goes = λ st ts.
          let us : List Placed = spells place (k + 1) x (spells place (k + 1 + width x) t ts) in
          build-tells before.0 (place k, word kind.Amp) us (a meet_tail ∷ st) out
          ∙ (first.goes (tell (piece.Meet (place k)) ∷ a meet_tail ∷ st) (spells place (k + 1 + width x) t ts)
          ∙ (ap (λ st. build st first.told (spells place (k + 1 + width x) t ts)) (tells-append first.after.0 (piece.Meet (place k) ∷ []) (a meet_tail ∷ st))
          ∙ second.goes st ts));
      sum = second.sum ∙ sum-operand first.told first.after.0 (out ++ before.0) (emitted place (k + 1) x) (emitted place (k + 1 + width x) t) (piece.Meet (place k)) first.sum;
    }
builds place k (named x) before out = record { after = nothing; told = out ++ piece.Name (place k) x ∷ []; goes = λ st ts. refl; sum = append-nil (out ++ piece.Name (place k) x ∷ []) }
builds place k boolean before out = record { after = nothing; told = out ++ piece.Bool ∷ []; goes = λ st ts. refl; sum = append-nil (out ++ piece.Bool ∷ []) }
builds place k integer before out = record { after = nothing; told = out ++ piece.Int ∷ []; goes = λ st ts. refl; sum = append-nil (out ++ piece.Int ∷ []) }
builds place k top before out = record { after = nothing; told = out ++ piece.Top (place k) ∷ []; goes = λ st ts. refl; sum = append-nil (out ++ piece.Top (place k) ∷ []) }
builds place k bot before out = record { after = nothing; told = out ++ piece.Bot (place k) ∷ []; goes = λ st ts. refl; sum = append-nil (out ++ piece.Bot (place k) ∷ []) }
builds place k (parens t) before out =
    let r = builds place (k + 1) t nothing out in
    record {
      after = nothing;
      told = ended whole r.after r.told;
      goes = λ st ts.
          r.goes (the_paren ∷ st) ((place (k + 1 + width t), word kind.ParenRight) ∷ ts)
          ∙ close r.after (place (k + 1 + width t)) (word kind.ParenRight) ts (the_paren ∷ st) r.told refl refl refl;
      sum = append-nil (ended whole r.after r.told) ∙ r.sum;
    }
builds place k (braces f) before out =
    let r = builds place (k + 1) f nothing out in
    record {
      after = (r.after.0 ++ piece.Record ∷ [], [], []);
      told = r.told;
      goes = λ st ts. r.goes (tell piece.Record ∷ st) ts ∙ ap (λ st. build st r.told ts) (tells-append r.after.0 (piece.Record ∷ []) st);
      sum = sum-last r.told r.after.0 out (emitted place (k + 1) f) (piece.Record ∷ []) r.sum;
    }
builds place k no_field before out = record { after = nothing; told = out ++ piece.Last ∷ []; goes = λ st ts. refl; sum = append-nil (out ++ piece.Last ∷ []) }
builds place k (first_field label t f) before out =
    let rt = builds place (k + 2) t nothing out in
    let rf = builds place (k + 2 + width t) f rt.after rt.told in
    let it = read_fields place (k + 2) (k + 2 + width t) t f out (piece.Field (place k) label) rt rf in
    record { after = it.0; told = it.1; goes = it.2; sum = it.3 }
builds place k last_field before out =
    let o : List Piece = begun more_fields before out in
    record {
      after = nothing;
      told = o ++ piece.Last ∷ [];
      goes = λ st ts. close before (place k) (word kind.BraceRight) ts (a more_fields ∷ st) out refl refl refl;
      sum = append-nil (o ++ piece.Last ∷ []);
    }
builds place k (next_field label t f) before out =
    let o : List Piece = begun more_fields before out in
    let rt = builds place (k + 3) t nothing o in
    let rf = builds place (k + 3 + width t) f rt.after rt.told in
    let it = read_fields place (k + 3) (k + 3 + width t) t f o (piece.Field (place (k + 1)) label) rt rf in
    record {
      after = it.0;
      told = it.1;
      goes = λ st ts.
          close before (place k) (word kind.Comma)
          ((place (k + 1), name label) ∷ (place (k + 2), word kind.Colon) ∷ spells place (k + 3) t (spells place (k + 3 + width t) f ts))
          (a more_fields ∷ st) out refl refl refl
          ∙ it.2 st ts;
      sum = it.3;
    }

last_told-tells : (pieces : List Piece) (st : List Todo) (out : List Piece) → last_told (tells pieces st) out ≡ last_told st (out ++ pieces)
last_told-tells [] st out = ap (last_told st) (sym (append-nil out))
last_told-tells (piece ∷ pieces) st out = last_told-tells pieces st (out ++ piece ∷ []) ∙ ap (last_told st) (append_assoc out (piece ∷ []) pieces)

last_told-left : (it : Left) (out : List Piece) → last_told (left whole it []) out ≡ ended whole it out
last_told-left it out =
    let x = it.0 in
    let y = it.1 in
    let z = it.2 in
    last_told-tells x (a meet_tail ∷ tells y (a join_tail ∷ a codomain ∷ tells z [])) out
    ∙ (last_told-tells y (a join_tail ∷ a codomain ∷ tells z []) (out ++ x)
    ∙ (last_told-tells z [] (out ++ x ++ y)
    ∙ (append_assoc (out ++ x) y z ∙ append_assoc out x (y ++ z))))

-- from the terminals of a type the machine tells the pieces of its tree
pub built : (place : ℕ → ℕ) (k : ℕ) (p : Phrase whole) → let s = build (a whole ∷ []) [] (spells place k p []) in last_told s.stack s.told ≡ postorder (meaning place k p)
unfolding build
built place k p =
    let r = builds place k p nothing [] in
    ap (λ s. last_told s.stack s.told) (r.goes [] [])
    ∙ (last_told-left r.after r.told
    ∙ (r.sum ∙ sym (emitted-meaning place k p)))
