-- Where a related pair clashes, no model satisfies the goals.
use Rattle.std.proofs.Common.{◌≡◌, inl, inr, ℕ, zero, suc, Bool, true, false, List, [], ◌∷◌, refl, sym, ap, ◌∙◌, Some, None}
use Rattle.std.specs.Prelude.{Option, option_map, cond, find, bytes_eq, slice_get}
use Rattle.std.proofs.lemmas.Slice.Eq.{bytes_eq-Decides}
use Rattle.mls_book.specs.Predicates.{Predicate, Implies}
use Rattle.mls_book.proofs.Constructors.{rcd-fieldwise}
use Rattle.mls_automaton.specs.declared.automaton.Polarity.TheVariants.{Positive, Negative}
use Rattle.mls_automaton.specs.declared.automaton.FieldSet.{FieldSet}
use Rattle.mls_automaton.specs.Automata.{Automaton, polarity_at, head_at}
use Rattle.mls_automaton.specs.Heads.{set_value, set_at}
use Rattle.mls_automaton.specs.Models.{IsModel}
use Rattle.mls_automaton.specs.declared.automaton.HeadKind.{HeadKind}
use Rattle.mls_solver.specs.declared.goal.ClashKind.{ClashKind}
use Rattle.mls_solver.specs.declared.goal.ClashKind.TheVariants.{Unlike, Lacks}
use Rattle.mls_automaton.specs.Automata.{has_kind}
use Rattle.mls_solver.specs.Clashes.{LacksField, Clashes}
use Rattle.mls_solver.proofs.Following.{heads-below, records-below}
use Rattle.mls_solver.proofs.PartKinds.{kind_value, kind-inside, kind_test, same_kind, same_kind-is, same_kind-self, kind-tested}

-- a field of a list is found at its label
pub field_found : (fields : List FieldSet) (i : ℕ) (field : FieldSet) → slice_get fields i ≡ Some field → (set : List ℕ) × (set_at fields field.label ≡ Some set)
field_found [] i field e = absurd (cc)
field_found (first ∷ rest) zero field e =
    let is : first ≡ field = cc in
    let yes : bytes_eq first.label field.label ≡ true = (bytes_eq-Decides first.label field.label).1 (ap (λ (f : FieldSet). f.label) is) in
    (first.set, (λ k. option_map (λ (f : FieldSet). f.set) (cond (yes k) (Some first) (find (λ f. bytes_eq f.label field.label) rest))))
field_found (first ∷ rest) (suc i) field e = go (bytes_eq first.label field.label) (field_found rest i field e)
  where
    go : (b : Bool) → (set : List ℕ) × (set_at rest field.label ≡ Some set) → (set : List ℕ) × (option_map (λ (f : FieldSet). f.set) (cond b (Some first) (find (λ f. bytes_eq f.label field.label) rest)) ≡ Some set)
    go true later = (first.set, refl)
    go false later = later

module _ (a : Automaton) (value : ℕ → Predicate) (model : IsModel a value) (p n : ℕ) (is_p : polarity_at a p ≡ Positive) (is_n : polarity_at a n ≡ Negative) (below : Implies (value p) (value n)) where
  unlike-fails : (k j : HeadKind) → has_kind k (head_at a p) ≡ true → has_kind j (head_at a n) ≡ true → (k ≡ j → ⊥) → ⊥
  unlike-fails k j has_k has_j apart =
      let order : Implies (kind_value Positive value (head_at a p) k) (kind_value Negative value (head_at a n) j) =
      heads-below a value model p n is_p is_n below (kind_value Positive value (head_at a p) k) (kind_value Negative value (head_at a n) j)
      (kind-inside Positive value (head_at a p) k)
      (kind-inside Negative value (head_at a n) j) in
      let passed : kind_value Positive value (head_at a p) k (kind_test k) ≡ true = kind-tested Positive value (head_at a p) k k has_k ∙ same_kind-self k in
      let passed' : kind_value Negative value (head_at a n) j (kind_test k) ≡ true = order (kind_test k) passed in
      let answer : kind_value Negative value (head_at a n) j (kind_test k) ≡ same_kind j k = kind-tested Negative value (head_at a n) j k has_j in
      elim (same_kind-is j k) [
        | inl same ↦ apart (sym same)
        | inr other ↦ let no : same_kind j k ≡ false = other.0 in absurd (cc)
      ]

  lacks-fails : (fs gs : List FieldSet) (i : ℕ) → (head_at a p).fields ≡ Some fs → (head_at a n).fields ≡ Some gs → (field : FieldSet) → slice_get gs i ≡ Some field → set_at fs field.label ≡ None → ⊥
  lacks-fails fs gs i e e' field there absent =
      let found = field_found gs i field there in
      let it =
      rcd-fieldwise (λ label. option_map (set_value Positive value) (set_at fs label)) (λ label. option_map (set_value Negative value) (set_at gs label))
      (records-below a value model p n is_p is_n below fs gs e e') field.label (set_value Negative value found.0) (ap (option_map (set_value Negative value)) found.1) in
      let some : option_map (set_value Positive value) (set_at fs field.label) ≡ Some it.0 = it.1 in
      let none : option_map (set_value Positive value) (set_at fs field.label) ≡ None = ap (option_map (set_value Positive value)) absent in
      absurd (cc)

  lacks-by : (o o' : Option (List FieldSet)) (i : ℕ) → (head_at a p).fields ≡ o → (head_at a n).fields ≡ o' → LacksField o o' i → ⊥
  lacks-by (Some fs) (Some gs) i e e' it = lacks-fails fs gs i e e' it.0 it.1 it.2
  lacks-by (Some fs) None i e e' it = it
  lacks-by None (Some gs) i e e' it = it
  lacks-by None None i e e' it = it

  pub clash-fails : (clash : ClashKind) → Clashes (head_at a p) (head_at a n) clash → ⊥
  clash-fails (Unlike k j) it = unlike-fails k j it.0 it.1 it.2
  clash-fails (Lacks i) it = lacks-by (head_at a p).fields (head_at a n).fields i refl refl it
