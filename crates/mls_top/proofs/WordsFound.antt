-- The words that are collected from what a parser found.
use Rattle.std.proofs.Common.{◌≡◌, ◌∙◌, ℕ, List, [], ◌∷◌, ◌++◌, map, drop, Option, Some, None, option_map, refl, sym, ap, ap₂, append_assoc, append-nil, true≢false}
use Rattle.std.specs.Prelude.{flat_map, slice_get, unwrap_or, is_some}
use Rattle.std.specs.Borrow.{Bor}
use Rattle.std.proofs.lemmas.List.{map-append}
use Rattle.std.proofs.lemmas.List.Concat.{flat_map-append}
use Rattle.clap.specs.Walk.{Row, Text, all_of, rows_of, texts}
use Rattle.clap.specs.Matches.{found_of, ids_left, matched_of, raw_values}
use Rattle.clap.specs.declared.parser.matches.Found.{Found}
use Rattle.clap.proofs.WalkLemmas.{raw_values-rows}
use Rattle.mls_top.specs.steps.CommandLines.{values_of}

-- the values that the parser gives for an operand
pub values_found : (f : Found) (operand : Text) (o : Option (List Text)) → o ≡ option_map raw_values (matched_of f operand) → unwrap_or o [] ≡ values_of (rows_of f) operand
values_found f operand o e = ap (λ x. unwrap_or x []) (e ∙ raw_values-rows f operand)

-- the values of one more operand are added
pub words_turn : (rows : List Row) (name : Text) (words : List Text) (yielded : List (Bor Text)) (operand : Bor Text) (more : List Text)
    → words ≡ name ∷ flat_map (values_of rows) (texts yielded) → more ≡ values_of rows operand.now
    → words ++ more ≡ name ∷ flat_map (values_of rows) (texts (yielded ++ operand ∷ []))
words_turn rows name words yielded operand more e f =
    ap₂ (λ x y. x ++ y) e (f ∙ sym (append-nil (values_of rows operand.now)))
    ∙ ap (λ l. name ∷ l) (sym (ap (flat_map (values_of rows)) (map-append (λ s. s.now) yielded (operand ∷ [])) ∙ flat_map-append (values_of rows) (texts yielded) (operand.now ∷ [])))

-- one more operand was given, and the others are left
pub ids_turn : (yielded : List (Bor Text)) (operand : Bor Text) (left after start : List Text) → texts yielded ++ left ≡ start → Some operand.now ≡ slice_get left 0 → after ≡ drop 1 left
    → texts (yielded ++ operand ∷ []) ++ after ≡ start
ids_turn yielded operand [] after start e f g = absurd (true≢false (ap is_some f))
ids_turn yielded operand (x ∷ left) after start e f g =
    ap (λ l. l ++ after) (map-append (λ s. s.now) yielded (operand ∷ [])) ∙ append_assoc (texts yielded) (operand.now ∷ []) after
    ∙ ap₂ (λ y l. texts yielded ++ y ∷ l) (ap (λ o. unwrap_or o x) f) g ∙ e
