-- The fields of a record's head, where each label has the root of its part, pass the record of the values of these roots.
--     part_fields
use Rattle.std.proofs.Common.{◌≡◌, inl, inr, ℕ, Bool, true, false, cond, List, [], ◌∷◌, map, refl, sym, ap, ◌∙◌, Some, bytes_eq}
use Rattle.std.specs.Prelude.{Option, None, option_map, find, Contains, IsSome}
use Rattle.std.proofs.lemmas.Slice.Eq.{bytes_eq-Decides}
use Rattle.mls_book.specs.Predicates.{Predicate, rcd}
use Rattle.mls_book.proofs.Lattice.{join_bot, meet_top}
use Rattle.mls_automaton.specs.declared.automaton.FieldSet.{FieldSet}
use Rattle.mls_automaton.specs.declared.automaton.Polarity.{Polarity}
use Rattle.mls_automaton.specs.declared.automaton.Polarity.TheVariants.{Positive, Negative}
use Rattle.mls_automaton.specs.Heads.{set_value, set_at, record_value}
use Rattle.mls_term.specs.declared.term.Part.{Part}
use Rattle.mls_typing.proofs.Lists.{Contains-here, Contains-later, Contains-cases, nothing_in}
use Rattle.mls_parts.specs.NodeTypes.{part_types}

module _ (p : Polarity) (value : ℕ → Predicate) (root : ℕ → ℕ) (fields : List FieldSet) where
  one_state : (q : Polarity) (s : ℕ) → set_value q value (s ∷ []) ≡ value s
  one_state Positive s = join_bot (value s)
  one_state Negative s = meet_top (value s)

  abbrev AreRoots : List Part → Type 0
  AreRoots parts = (part : Part) → Contains parts part → set_at fields part.label ≡ Some (root part.child ∷ [])

  abbrev HasOnly : List Part → List ℕ → Type 0
  HasOnly parts label = IsSome (set_at fields label) → Contains (map (λ (part : Part). part.label) parts) label

  none_there : (label : List ℕ) (o : Option (List ℕ)) → (IsSome o → ⊥) → option_map (set_value p value) o ≡ None
  none_there label None no_set = refl
  none_there label (Some set) no_set = absurd (no_set refl)

  at_label : (label : List ℕ) (parts : List Part) → AreRoots parts → HasOnly parts label
      → option_map (set_value p value) (set_at fields label) ≡ part_types (λ j. value (root j)) parts label
  at_label label [] are only = none_there label (set_at fields label) (λ some. nothing_in label (only some))
  at_label label (part ∷ rest) are only =
      by_label (bytes_eq part.label label) refl (at_label label rest (λ other inside. are other (Contains-later part rest other inside)))
    where
      by_label : (b : Bool) → bytes_eq part.label label ≡ b
          → (HasOnly rest label → option_map (set_value p value) (set_at fields label) ≡ part_types (λ j. value (root j)) rest label)
          → option_map (set_value p value) (set_at fields label)
          ≡ option_map (λ (part : Part). value (root part.child)) (cond b (Some part) (find (λ (part : Part). bytes_eq part.label label) rest))
      by_label true test later =
          let same : part.label ≡ label = (bytes_eq-Decides part.label label).0 test in
          ap (option_map (set_value p value)) (ap (set_at fields) (sym same) ∙ are part (Contains-here part rest)) ∙ ap Some (one_state p (root part.child))
      by_label false test later =
          later
          (λ some. elim (Contains-cases part.label (map (λ (part : Part). part.label) rest) label (only some)) [
            | inl same ↦ (let own : bytes_eq part.label label ≡ true = (bytes_eq-Decides part.label label).1 same in absurd (cc))
            | inr there ↦ there
          ])

  -- by the labels of the parts, and by no others
  pub part_fields : (parts : List Part) → AreRoots parts → ((label : List ℕ) → HasOnly parts label) → record_value p value (set_at fields) ≡ rcd (part_types (λ j. value (root j)) parts)
  part_fields parts are only = ap rcd (λ k label. at_label label parts are (only label) k)
