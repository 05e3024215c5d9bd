-- The fields of a record that is posed: each label has the root of its part.
--     fields_posed
use Rattle.std.proofs.Common.{◌≡◌, ◌⊎◌, inl, inr, ℕ, List, [], ◌∷◌, length, map, Contains, refl, sym, ap, ◌∙◌, subst, arith, ◌<◌, Some}
use Rattle.std.specs.BTreeMap.{IsOrdered}
use Rattle.std.specs.Ordering.{nat_cmp}
use Rattle.std.specs.Cmp.Lexicographic.{slice_cmp}
use Rattle.std.proofs.lemmas.List.{length-map}
use Rattle.mls_automaton.specs.declared.automaton.FieldSet.{FieldSet}
use Rattle.mls_automaton.specs.Heads.{set_at}
use Rattle.mls_automaton.proofs.Lists.{Contains-cases, Contains-map_back}
use Rattle.std.proofs.lemmas.List.Elements.{All-contains}
use Rattle.mls_infer.specs.Constraints.{AreRoots}
use Rattle.mls_infer.specs.Joining.{AreRows, Rows, part_labels, row_field}
use Rattle.mls_infer.proofs.FieldRows.{fields_made}
use Rattle.mls_term.specs.Derivations.{labels_of}
use Rattle.mls_term.specs.Terms.{TermFields, number, no_field, a_field}
use Rattle.mls_term.specs.declared.term.Part.{Part}
use Rattle.mls_parts.specs.Posings.{AreFieldsOf}

-- fields with these labels
abbrev some_parts : List (List ℕ) → TermFields
some_parts [] = no_field
some_parts (label ∷ rest) = a_field label (number 0 0) (some_parts rest)

same_labels : (labels : List (List ℕ)) → labels_of (some_parts labels) ≡ labels
same_labels [] = refl
same_labels (label ∷ rest) = ap (λ ls. label ∷ ls) (same_labels rest)

roots_there : (root : ℕ → ℕ) (fields : List FieldSet) (parts : List Part) → AreRoots (some_parts (part_labels parts)) (map (λ (part : Part). root part.child) parts) fields
    → (part : Part) → Contains parts part → set_at fields part.label ≡ Some (root part.child ∷ [])
roots_there root fields [] are part there = let low : there.0 < 0 = there.1 in absurd (omega arith)
roots_there root fields (first ∷ rest) are part there = go (Contains-cases first rest part there) (λ later. roots_there root fields rest are.1 part later)
  where
    go : (first ≡ part) ⊎ Contains rest part → (Contains rest part → set_at fields part.label ≡ Some (root part.child ∷ [])) → set_at fields part.label ≡ Some (root part.child ∷ [])
    go (inl same) later = subst (λ (p : Part). set_at fields p.label ≡ Some (root p.child ∷ [])) same are.0
    go (inr there) later = later there

pub fields_posed : (root : ℕ → ℕ) (parts : List Part) (rows : Rows) → IsOrdered (slice_cmp nat_cmp) rows
    → AreRows (length parts) (part_labels parts) (map (λ (part : Part). root part.child) parts) rows → AreFieldsOf root parts (map row_field rows.entries)
fields_posed root parts rows ordered are =
    let labels : List (List ℕ) = part_labels parts in
    let roots : List ℕ = map (λ (part : Part). root part.child) parts in
    let as_many : length labels ≡ length parts = length-map parts (λ (part : Part). part.label) in
    let many : length labels ≡ length roots = as_many ∙ sym (length-map parts (λ (part : Part). root part.child)) in
    let made = fields_made labels roots rows ordered many (subst (λ n. AreRows n labels roots rows) (sym as_many) are) (some_parts labels) (same_labels labels) in
    record {
      rising = made.rising;
      there = roots_there root (map row_field rows.entries) parts made.found;
      back = λ label some. subst (λ (ls : List (List ℕ)). Contains ls label) (same_labels labels) ((made.labels label).0 some);
      single = λ field at. one_part field (All-contains (λ (f : FieldSet). (r : ℕ) × Contains roots r × (f.set ≡ r ∷ [])) (map row_field rows.entries) field made.single at);
    }
  where
    one_part : (field : FieldSet) → (r : ℕ) × Contains (map (λ (part : Part). root part.child) parts) r × (field.set ≡ r ∷ []) → (part : Part) × Contains parts part × (field.set ≡ root part.child ∷ [])
    one_part field (r, there, is) =
        let found = Contains-map_back (λ (part : Part). root part.child) parts r there in
        (found.0, found.1, is ∙ ap (λ r. r ∷ []) (sym found.2))
