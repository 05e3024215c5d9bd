-- Words that are a command are taken by the parser, and what it finds stands for them.
use Rattle.std.proofs.Common.{◌≡◌, ◌≢◌, ◌==◌, ◌&&◌, ◌||◌, ◌∙◌, ◌⊎◌, ℕ, Bool, true, false, not, nat_le, nat_eq, List, [], ◌∷◌, Option, Some, None, option_map, codes, refl, rules, arith, sym, ap, ap₂, subst, inl, inr, bytes_eq, length, if◌then◌else◌, true≢false}
use Rattle.std.specs.List.{list_any}
use Rattle.std.specs.Borrow.{Bor}
use Rattle.std.specs.Box.{box_value}
use Rattle.std.specs.Prelude.{Box}
use Rattle.std.specs.Bool.{Decides}
use Rattle.std.specs.Cmp.{unsigned_Decides}
use Rattle.std.specs.Cmp.Lexicographic.{pointwise}
use Rattle.std.proofs.lemmas.Slice.Eq.{bytes_eq-Decides, slice_eq-Decides}
use Rattle.std.specs.Cmp.Derive.Mapped.{pointwise-map}
use Rattle.mls_base.specs.Spelling.{is_spelled, is_reserved, is_lower}
use Rattle.mls_lexer.specs.Tokens.{is_digit}
use Rattle.mls_top.specs.Commands.{command_of, command_of_two, command_of_three, command_named, generate_of, is_name_word}
use Rattle.mls_top.specs.Numbers.{is_number_word, number_between}
use Rattle.mls_top.specs.declared.command.Command.{Command}
use Rattle.clap.specs.Simple.{subcommand_rows, subcommand_rows_of}
use Rattle.clap.specs.Matches.{found_of, subcommand_name_of}
use Rattle.clap.specs.declared.parser.matches.ArgMatches.{ArgMatches}
use Rattle.clap.specs.declared.parser.matches.ArgMatches.TheViews.{out-ArgMatches, out-SubCommand}
use Rattle.clap.specs.declared.parser.matches.SubCommand.{SubCommand}
use Rattle.clap.specs.Walk.{Row, Rule, Text, texts, walked}
use Rattle.clap.specs.Simple.{App, Shape, subcommand_of}
use Rattle.clap.specs.Takes.{takes, walk_passes}
use Rattle.clap.proofs.WalkLemmas.{list_any-map}
use Rattle.mls_top.specs.steps.CommandLines.{is_option, program, words_of}

-- the words that a parse stands for
abbrev pub words_again : App → List Text → Option (List Text)
words_again app words = option_map (λ p. words_of p.0 p.1) (subcommand_of app words)

pub infer_taken : (c : ℕ) (rest : Text) → (c == 45) ≡ false → takes program (codes "infer" ∷ (c ∷ rest) ∷ []) ≡ true
unfolding walked walk_passes
infer_taken c rest h = simp h refl

pub check_taken : (c : ℕ) (rest : Text) → (c == 45) ≡ false → takes program (codes "check" ∷ (c ∷ rest) ∷ []) ≡ true
unfolding walked walk_passes
check_taken c rest h = simp h refl

pub derive_taken : (c : ℕ) (rest : Text) → (c == 45) ≡ false → takes program (codes "derive" ∷ (c ∷ rest) ∷ []) ≡ true
unfolding walked walk_passes
derive_taken c rest h = simp h refl

pub verify_taken : (c : ℕ) (rest : Text) → (c == 45) ≡ false → takes program (codes "verify" ∷ (c ∷ rest) ∷ []) ≡ true
unfolding walked walk_passes
verify_taken c rest h = simp h refl

pub infer_again : (c : ℕ) (rest : Text) → (c == 45) ≡ false
    → words_again program (codes "infer" ∷ (c ∷ rest) ∷ []) ≡ Some (codes "infer" ∷ (c ∷ rest) ∷ [])
unfolding walked
infer_again c rest h = simp h refl

pub check_again : (c : ℕ) (rest : Text) → (c == 45) ≡ false
    → words_again program (codes "check" ∷ (c ∷ rest) ∷ []) ≡ Some (codes "check" ∷ (c ∷ rest) ∷ [])
unfolding walked
check_again c rest h = simp h refl

pub derive_again : (c : ℕ) (rest : Text) → (c == 45) ≡ false
    → words_again program (codes "derive" ∷ (c ∷ rest) ∷ []) ≡ Some (codes "derive" ∷ (c ∷ rest) ∷ [])
unfolding walked
derive_again c rest h = simp h refl

pub verify_again : (c : ℕ) (rest : Text) → (c == 45) ≡ false
    → words_again program (codes "verify" ∷ (c ∷ rest) ∷ []) ≡ Some (codes "verify" ∷ (c ∷ rest) ∷ [])
unfolding walked
verify_again c rest h = simp h refl

pub generate_taken : (c d : ℕ) (rest more : Text) → (c == 45) ≡ false → (d == 45) ≡ false
    → takes program (codes "generate" ∷ (c ∷ rest) ∷ (d ∷ more) ∷ []) ≡ true
unfolding walked walk_passes
generate_taken c d rest more h k = simp (h, k) refl

pub generate_again : (c d : ℕ) (rest more : Text) → (c == 45) ≡ false → (d == 45) ≡ false
    → words_again program (codes "generate" ∷ (c ∷ rest) ∷ (d ∷ more) ∷ []) ≡ Some (codes "generate" ∷ (c ∷ rest) ∷ (d ∷ more) ∷ [])
unfolding walked
generate_again c d rest more h k = simp (h, k) refl

-- the parser takes the words, and what it finds stands for them
pub record IsReadable (words : List Text) : Type 0 where
  pub taken : takes program words ≡ true
  pub again : words_again program words ≡ Some words

-- a small letter is no hyphen
lower_is_no_hyphen : (c : ℕ) → is_lower c ≡ true → (c == 45) ≡ false
lower_is_no_hyphen c h = grind (arith, h)

both_left : (a b : Bool) → (a && b) ≡ true → a ≡ true
both_left true b h = refl
both_left false b h = h

name_is_no_option : (c : ℕ) (rest : Text) → is_name_word (c ∷ rest) ≡ true → (c == 45) ≡ false
name_is_no_option c rest h = lower_is_no_hyphen c (both_left _ _ (both_left _ _ h))

-- a command of one name
named : (c : ℕ) (rest first : Text) → (c == 45) ≡ false → (i k d v : Bool) → bytes_eq first (codes "infer") ≡ i → bytes_eq first (codes "check") ≡ k → bytes_eq first (codes "derive") ≡ d
    → bytes_eq first (codes "verify") ≡ v
    → (command_named first (c ∷ rest) ≡ None) ⊎ IsReadable (first ∷ (c ∷ rest) ∷ [])
named c rest first h true k d v e f p g = inr (subst (λ w. IsReadable (w ∷ (c ∷ rest) ∷ [])) (sym ((bytes_eq-Decides first (codes "infer")).0 e))
    (record { taken = infer_taken c rest h; again = infer_again c rest h }))
named c rest first h false true d v e f p g = inr (subst (λ w. IsReadable (w ∷ (c ∷ rest) ∷ [])) (sym ((bytes_eq-Decides first (codes "check")).0 f))
    (record { taken = check_taken c rest h; again = check_again c rest h }))
named c rest first h false false true v e f p g = inr (subst (λ w. IsReadable (w ∷ (c ∷ rest) ∷ [])) (sym ((bytes_eq-Decides first (codes "derive")).0 p))
    (record { taken = derive_taken c rest h; again = derive_again c rest h }))
named c rest first h false false false true e f p g = inr (subst (λ w. IsReadable (w ∷ (c ∷ rest) ∷ [])) (sym ((bytes_eq-Decides first (codes "verify")).0 g))
    (record { taken = verify_taken c rest h; again = verify_again c rest h }))
named c rest first h false false false false e f p g = inl (rw (e, f, p, g) refl)

two_words : (first second : Text) (b : Bool) → is_name_word second ≡ b → (command_of_two first second ≡ None) ⊎ IsReadable (first ∷ second ∷ [])
two_words first second false e = inl (rw e refl)
two_words first [] true e = absurd (true≢false (sym e))
two_words first (c ∷ rest) true e = rw e (named c rest first (name_is_no_option c rest e) _ _ _ _ refl refl refl refl)

-- a digit is no hyphen
digit_is_no_hyphen : (c : ℕ) → is_digit c ≡ true → (c == 45) ≡ false
digit_is_no_hyphen c h = grind (arith, h)

number_is_no_option : (c : ℕ) (rest : Text) → is_number_word (c ∷ rest) ≡ true → (c == 45) ≡ false
number_is_no_option c rest h = digit_is_no_hyphen c (both_left _ _ (both_left _ _ h))

no_count : (seed : Option ℕ) → generate_of seed None ≡ None
no_count None = refl
no_count (Some seed) = refl

two_numbers : (seed count : Text) (a b : Bool) → is_number_word seed ≡ a → is_number_word count ≡ b
    → (generate_of (number_between 0 2147483647 seed) (number_between 1 10000 count) ≡ None) ⊎ IsReadable (codes "generate" ∷ seed ∷ count ∷ [])
two_numbers seed count false b e f = inl (rw e refl)
two_numbers seed count true false e f = inl (rw f (no_count (number_between 0 2147483647 seed)))
two_numbers [] count true true e f = absurd (true≢false (sym e))
two_numbers (c ∷ rest) [] true true e f = absurd (true≢false (sym f))
two_numbers (c ∷ rest) (d ∷ more) true true e f =
    let h = number_is_no_option c rest e in
    let k = number_is_no_option d more f in
    inr (record { taken = generate_taken c d rest more h k; again = generate_again c d rest more h k })

three_words : (first second third : Text) (g : Bool) → bytes_eq first (codes "generate") ≡ g → (command_of_three first second third ≡ None) ⊎ IsReadable (first ∷ second ∷ third ∷ [])
three_words first second third false e = inl (rw e refl)
three_words first second third true e = elim (two_numbers second third _ _ refl refl) [
  | inl none ↦ inl (rw e none)
  | inr r ↦ inr (subst (λ w. IsReadable (w ∷ second ∷ third ∷ [])) (sym ((bytes_eq-Decides first (codes "generate")).0 e)) r)
]

-- words that are a command are readable
pub no_command_or_readable : (words : List Text) → (command_of words ≡ None) ⊎ IsReadable words
no_command_or_readable [] = inl refl
no_command_or_readable (a ∷ []) = inl refl
no_command_or_readable (a ∷ b ∷ []) = two_words a b _ refl
no_command_or_readable (a ∷ b ∷ c ∷ []) = three_words a b c _ refl
no_command_or_readable (a ∷ b ∷ c ∷ d ∷ rest) = inl refl

-- words that cannot be read are no command
pub unreadable : (words : List Text) → (IsReadable words → ⊥) → None ≡ command_of words
unreadable words h = elim (no_command_or_readable words) [ inl e ↦ sym e | inr r ↦ absurd (h r) ]

-- no words are no command
pub no_words : (words : List (Bor Text)) → true ≡ (length words == 0) → None ≡ command_of (texts words)
no_words [] h = refl
no_words (word ∷ words) h = let bad = (unsigned_Decides (length (word ∷ words)) 0).0 (sym h) in absurd (omega arith)

-- words of which one is an option are no command
option_first : (rest second : Text) (b : Bool) → is_name_word second ≡ b → command_of_two (45 ∷ rest) second ≡ None
option_first rest second true e = rw e refl
option_first rest second false e = rw e refl

option_of_two : (first second : Text) → (is_option first || (is_option second || false)) ≡ true → command_of_two first second ≡ None
option_of_two first [] h = refl
option_of_two [] (d ∷ more) h = go _ refl
  where
    go : (b : Bool) → is_name_word (d ∷ more) ≡ b → command_of_two [] (d ∷ more) ≡ None
    go true e = rw e refl
    go false e = rw e refl
option_of_two (c ∷ rest) (d ∷ more) h = go _ _ refl refl
  where
    go : (b n : Bool) → (c == 45) ≡ b → is_name_word (d ∷ more) ≡ n → command_of_two (c ∷ rest) (d ∷ more) ≡ None
    go true n e f = rw ((unsigned_Decides c 45).0 e) (option_first rest (d ∷ more) n f)
    go false true e f = absurd (true≢false (sym h ∙ rw (e, name_is_no_option d more f) refl))
    go false false e f = rw f refl

number_word_is_no_option : (word : Text) → is_number_word word ≡ true → is_option word ≡ false
number_word_is_no_option [] h = refl
number_word_is_no_option (c ∷ rest) h = number_is_no_option c rest h

option_of_three : (first second third : Text) → (is_option first || (is_option second || (is_option third || false))) ≡ true → command_of_three first second third ≡ None
option_of_three first second third h = go _ _ _ refl refl refl
  where
    go : (g m n : Bool) → bytes_eq first (codes "generate") ≡ g → is_number_word second ≡ m → is_number_word third ≡ n → command_of_three first second third ≡ None
    go false m n e f k = rw e refl
    go true false n e f k = rw (e, f) refl
    go true true false e f k = rw (e, k) (no_count (number_between 0 2147483647 second))
    go true true true e f k = absurd (true≢false (sym h ∙ rw (ap is_option ((bytes_eq-Decides first (codes "generate")).0 e), number_word_is_no_option second f, number_word_is_no_option third k) refl))

pub option_is_no_command : (words : List Text) → list_any is_option words ≡ true → None ≡ command_of words
option_is_no_command [] h = refl
option_is_no_command (a ∷ []) h = refl
option_is_no_command (a ∷ b ∷ []) h = sym (option_of_two a b h)
option_is_no_command (a ∷ b ∷ c ∷ []) h = sym (option_of_three a b c h)
option_is_no_command (a ∷ b ∷ c ∷ d ∷ rest) h = refl

pub has_option : (words : List (Bor Text)) → true ≡ list_any (λ word. is_option word.now) words → None ≡ command_of (texts words)
has_option words h = option_is_no_command (texts words) (sym (list_any-map is_option (λ s. s.now) words) ∙ sym h)

-- lists of texts are compared by their bytes
pub same_words : (xs ys : List (Bor Text)) (r : Bool) → r ≡ pointwise (λ x y. pointwise nat_eq x.now y.now) xs ys → Decides r (texts xs ≡ texts ys)
same_words xs ys r e = slice_eq-Decides bytes_eq-Decides (texts xs) (texts ys) r (e ∙ sym (pointwise-map (λ s. s.now) (pointwise nat_eq) xs ys))

some_is : {X : Type 0} (x y : X) → Some x ≡ Some y → x ≡ y
some_is x y e = ap (λ o. Rattle.std.specs.Option.unwrap_or o x) e

module _ {Z : Type 0} where
  -- the subcommand of a parse, where its name and its rows are known
  rows_met : (o : Option (Box SubCommand Z)) (name : Text) (rows : List Row) → Some name ≡ option_map (λ b. (out-SubCommand (box_value b)).name.now) o
      → Some rows ≡ option_map (λ p. p.1) (subcommand_rows o) → subcommand_rows o ≡ Some (name, rows)
  rows_met None name rows e h = absurd (true≢false (ap Rattle.std.specs.Option.is_some e))
  rows_met (Some b) name rows e h = sym (ap₂ (λ x y. Some (x, y)) (some_is _ _ e) (some_is _ _ h))

  none_met : (o : Option (Box SubCommand Z)) → None ≡ option_map (λ p. p.1) (subcommand_rows o) → subcommand_rows o ≡ None
  none_met None h = refl
  none_met (Some b) h = absurd (true≢false (sym (ap Rattle.std.specs.Option.is_some h)))

module _ (m : ArgMatches) (words : List Text) (parsed : subcommand_rows_of m ≡ subcommand_of program words) where
  -- where the parser found no subcommand, the words are no command
  pub nothing_met : None ≡ option_map (λ p. p.1) (subcommand_rows (out-ArgMatches m).subcommand) → None ≡ command_of words
  nothing_met none = unreadable words (λ r. true≢false (ap Rattle.std.specs.Option.is_some (sym r.again ∙ ap (option_map (λ p. words_of p.0 p.1)) (sym parsed ∙ none_met _ none))))

  -- where what it found stands for other words, they are no command
  pub others_met : (name : Text) (rows : List Row) → Some name ≡ subcommand_name_of m → Some rows ≡ option_map (λ p. p.1) (subcommand_rows (out-ArgMatches m).subcommand)
      → (words_of name rows ≡ words → ⊥) → None ≡ command_of words
  others_met name rows e h differ = unreadable words (λ r. differ (some_is _ _ (ap (option_map (λ p. words_of p.0 p.1)) (sym (rows_met _ name rows e h) ∙ parsed) ∙ r.again)))
