-- Names and labels that are given twice come in the order of the text.
use Rattle.std.proofs.Common.{◌≡◌, ℕ, suc, ◌+◌, ◌≤◌, List, [], ◌∷◌, ◌++◌, length, refl, subst, arith}
use Rattle.std.specs.Prelude.{bytes_eq}
use Rattle.std.specs.List.{list_any}
use Rattle.mls_lexer.proofs.TextOrder.{places_rise, Rises, rises-low, rises-append, rises-if, rises-least}
use Rattle.mls_grammar.specs.declared.fault.Fault.{Fault}
use Rattle.mls_grammar.specs.declared.fault.Fault.TheVariants.{DuplicateBinding, DuplicateLabel, DuplicateImport}
use Rattle.mls_grammar.specs.Phrases.{Sort, Phrase, whole, no_import, importing, no_binding, binding, simple, recursive, fun, fix, local, choice, plain, simple_in, recursive_in, no_compare, less, equal, summed, no_sum, plus, minus, multiplied, no_product, times, applied, no_argument, argument, posted, no_dot, dot, variable, literal, truth, parens, braces, no_part, first_part, last_part, next_part, width}
use Rattle.mls_lexer.specs.Tokens.{place_of}
use Rattle.mls_grammar.specs.Doubles.{if_seen, doubles}
use Rattle.mls_grammar.specs.Faults.{fault_place}
use Rattle.mls_grammar.specs.GrammarLaws.{FirstDoubleIsLeast}
use Rattle.mls_grammar.proofs.Widths.{width-terminals}

module _ (n : ℕ) (place : ℕ → ℕ) where
  abbrev Up : ℕ → ℕ → List Fault → Type 0
  Up = Rises (fault_place n) place

  both : (low mid high : ℕ) (xs ys : List Fault) → Up low mid xs → Up mid high ys → Up low high (xs ++ ys)
  both = rises-append (fault_place n) place

  from : (low other high : ℕ) (xs : List Fault) → low ≤ other → Up other high xs → Up low high xs
  from = rises-low (fault_place n) place

  -- a name or label at token k, and what comes behind it
  given : (low k high : ℕ) (seen : List (List ℕ)) (x : List ℕ) (fault : Fault) (later : List Fault) → low ≤ k → fault_place n fault ≡ place k → Up (suc k) high later
      → Up low high (if_seen seen x fault ++ later)
  given low k high seen x fault later le is h =
      both low (suc k) high _ _ (rises-if (fault_place n) place low (suc k) k (list_any (bytes_eq x) seen) fault le (omega arith) is) h

  pub doubles-rise : {s : Sort} (seen : List (List ℕ)) (k high : ℕ) (p : Phrase s) → k + width p ≤ high → Up k high (doubles place seen k p)
  unfolding doubles width
  doubles-rise seen k high (whole i b) le = both k (k + width i) high _ _ (doubles-rise [] k (k + width i) i (omega arith)) (doubles-rise [] (k + width i) high b (omega arith))
  doubles-rise seen k high no_import le = omega arith
  doubles-rise seen k high (importing x i) le =
      given k (k + 1) high seen x (DuplicateImport (place (k + 1))) _ (omega arith) refl
      (from (suc (k + 1)) (k + 2) high _ (omega arith) (doubles-rise (x ∷ seen) (k + 2) high i (omega arith)))
  doubles-rise seen k high no_binding le = omega arith
  doubles-rise seen k high (binding r) le = from k (k + 1) high _ (omega arith) (doubles-rise seen (k + 1) high r (omega arith))
  doubles-rise seen k high (simple x e b) le =
      given k k high seen x (DuplicateBinding (place k)) _ (omega arith) refl
      (both (suc k) (k + 2 + width e) high _ _
      (from (suc k) (k + 2) (k + 2 + width e) _ (omega arith) (doubles-rise [] (k + 2) (k + 2 + width e) e (omega arith)))
      (doubles-rise (x ∷ seen) (k + 2 + width e) high b (omega arith)))
  doubles-rise seen k high (recursive x e b) le =
      given k (k + 1) high seen x (DuplicateBinding (place (k + 1))) _ (omega arith) refl
      (both (suc (k + 1)) (k + 3 + width e) high _ _
      (from (suc (k + 1)) (k + 3) (k + 3 + width e) _ (omega arith) (doubles-rise [] (k + 3) (k + 3 + width e) e (omega arith)))
      (doubles-rise (x ∷ seen) (k + 3 + width e) high b (omega arith)))
  doubles-rise seen k high (fun x e) le = from k (k + 3) high _ (omega arith) (doubles-rise [] (k + 3) high e (omega arith))
  doubles-rise seen k high (fix x e) le = from k (k + 3) high _ (omega arith) (doubles-rise [] (k + 3) high e (omega arith))
  doubles-rise seen k high (local r) le = from k (k + 1) high _ (omega arith) (doubles-rise [] (k + 1) high r (omega arith))
  doubles-rise seen k high (choice c e f) le =
      both k (k + 2 + width c) high _ _
      (from k (k + 1) (k + 2 + width c) _ (omega arith) (doubles-rise [] (k + 1) (k + 2 + width c) c (omega arith)))
      (both (k + 2 + width c) (k + 3 + width c + width e) high _ _
      (doubles-rise [] (k + 2 + width c) (k + 3 + width c + width e) e (omega arith))
      (doubles-rise [] (k + 3 + width c + width e) high f (omega arith)))
  doubles-rise seen k high (plain s t) le = both k (k + width s) high _ _ (doubles-rise [] k (k + width s) s (omega arith)) (doubles-rise [] (k + width s) high t (omega arith))
  doubles-rise seen k high (simple_in x e f) le =
      both k (k + 3 + width e) high _ _
      (from k (k + 2) (k + 3 + width e) _ (omega arith) (doubles-rise [] (k + 2) (k + 3 + width e) e (omega arith)))
      (doubles-rise [] (k + 3 + width e) high f (omega arith))
  doubles-rise seen k high (recursive_in x e f) le =
      both k (k + 4 + width e) high _ _
      (from k (k + 3) (k + 4 + width e) _ (omega arith) (doubles-rise [] (k + 3) (k + 4 + width e) e (omega arith)))
      (doubles-rise [] (k + 4 + width e) high f (omega arith))
  doubles-rise seen k high no_compare le = omega arith
  doubles-rise seen k high (less s) le = from k (k + 1) high _ (omega arith) (doubles-rise [] (k + 1) high s (omega arith))
  doubles-rise seen k high (equal s) le = from k (k + 1) high _ (omega arith) (doubles-rise [] (k + 1) high s (omega arith))
  doubles-rise seen k high (summed p t) le = both k (k + width p) high _ _ (doubles-rise [] k (k + width p) p (omega arith)) (doubles-rise [] (k + width p) high t (omega arith))
  doubles-rise seen k high no_sum le = omega arith
  doubles-rise seen k high (plus p t) le =
      both k (k + 1 + width p) high _ _
      (from k (k + 1) (k + 1 + width p) _ (omega arith) (doubles-rise [] (k + 1) (k + 1 + width p) p (omega arith)))
      (doubles-rise [] (k + 1 + width p) high t (omega arith))
  doubles-rise seen k high (minus p t) le =
      both k (k + 1 + width p) high _ _
      (from k (k + 1) (k + 1 + width p) _ (omega arith) (doubles-rise [] (k + 1) (k + 1 + width p) p (omega arith)))
      (doubles-rise [] (k + 1 + width p) high t (omega arith))
  doubles-rise seen k high (multiplied p t) le = both k (k + width p) high _ _ (doubles-rise [] k (k + width p) p (omega arith)) (doubles-rise [] (k + width p) high t (omega arith))
  doubles-rise seen k high no_product le = omega arith
  doubles-rise seen k high (times p t) le =
      both k (k + 1 + width p) high _ _
      (from k (k + 1) (k + 1 + width p) _ (omega arith) (doubles-rise [] (k + 1) (k + 1 + width p) p (omega arith)))
      (doubles-rise [] (k + 1 + width p) high t (omega arith))
  doubles-rise seen k high (applied p t) le = both k (k + width p) high _ _ (doubles-rise [] k (k + width p) p (omega arith)) (doubles-rise [] (k + width p) high t (omega arith))
  doubles-rise seen k high no_argument le = omega arith
  doubles-rise seen k high (argument p t) le = both k (k + width p) high _ _ (doubles-rise [] k (k + width p) p (omega arith)) (doubles-rise [] (k + width p) high t (omega arith))
  doubles-rise seen k high (posted p t) le = both k (k + width p) high _ _ (doubles-rise [] k (k + width p) p (omega arith)) (doubles-rise [] (k + width p) high t (omega arith))
  doubles-rise seen k high no_dot le = omega arith
  doubles-rise seen k high (dot label d) le = from k (k + 2) high _ (omega arith) (doubles-rise [] (k + 2) high d (omega arith))
  doubles-rise seen k high (variable x) le = omega arith
  doubles-rise seen k high (literal value) le = omega arith
  doubles-rise seen k high (truth value) le = omega arith
  doubles-rise seen k high (parens e) le = from k (k + 1) high _ (omega arith) (doubles-rise [] (k + 1) high e (omega arith))
  doubles-rise seen k high (braces p) le = from k (k + 1) high _ (omega arith) (doubles-rise [] (k + 1) high p (omega arith))
  doubles-rise seen k high no_part le = omega arith
  doubles-rise seen k high (first_part label e p) le =
      given k k high seen label (DuplicateLabel (place k)) _ (omega arith) refl
      (both (suc k) (k + 2 + width e) high _ _
      (from (suc k) (k + 2) (k + 2 + width e) _ (omega arith) (doubles-rise [] (k + 2) (k + 2 + width e) e (omega arith)))
      (doubles-rise (label ∷ seen) (k + 2 + width e) high p (omega arith)))
  doubles-rise seen k high last_part le = omega arith
  doubles-rise seen k high (next_part label e p) le =
      given k (k + 1) high seen label (DuplicateLabel (place (k + 1))) _ (omega arith) refl
      (both (suc (k + 1)) (k + 3 + width e) high _ _
      (from (suc (k + 1)) (k + 3) (k + 3 + width e) _ (omega arith) (doubles-rise [] (k + 3) (k + 3 + width e) e (omega arith)))
      (doubles-rise (label ∷ seen) (k + 3 + width e) high p (omega arith)))

pub first_double_is_least : FirstDoubleIsLeast
first_double_is_least text tokens p fault later are spelled first =
    rises-least (fault_place (length text)) (place_of tokens) 0 (width p) fault later
    (subst (Rises (fault_place (length text)) (place_of tokens) 0 (width p)) first
    (doubles-rise (length text) (place_of tokens) [] 0 (width p) p (omega arith)))
    (λ i j first_low below low. places_rise text tokens are i j below (let all = width-terminals text tokens p spelled in omega arith))
