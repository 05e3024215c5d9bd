use Rattle.std.proofs.Common.{◌≡◌, ◌≢◌, ◌∙◌, ◌<◌, ℕ, List, true, false, ◌≤◌, sym, ap, subst, arith, get_or, length, take, rules, ◌++◌, ◌∷◌, []}
use Rattle.std.specs.List.{AllPairs}
use Rattle.std.specs.Ordering.{nat_cmp}
use Rattle.std.specs.BTreeSet.{contains, Updates}
use Rattle.std.specs.Cmp.Lexicographic.{slice_cmp}
use Rattle.std.proofs.lemmas.List.{length-map, take_all, take_more}
use Rattle.mls_term.specs.declared.term.Part.{Part}
use Rattle.mls_infer.specs.Joining.{part_labels}
use Rattle.mls_infer.proofs.FieldRows.{mapped_at}
use Rattle.mls_layout.specs.steps.Posable.{HasJust}
use Rattle.mls_layout.proofs.KeySets.{apart_more, just_none, just_more, label_same, label_self}
use Rattle.mls_parts.proofs.posable.have_distinct_labels.Goals as goal

pub loop-part-init : goal.loop-part-init
loop-part-init c = record {
  apart = λ i j d before low. absurd (omega (arith, low));
  just = just_none (slice_cmp nat_cmp) label_same label_self c.new-labels.result c.new-labels.ensures.empty;
}

pub loop-part-preserved : goal.loop-part-preserved
loop-part-preserved c =
    let parts : List Part = c.args.parts.now in
    let i : ℕ = c.loop-part.part-index in
    let labels : List (List ℕ) = part_labels parts in
    let label : List ℕ = c.part-item.result.label in
    let low : i < length parts = c.loop-part-test.true in
    let low_label : i < length labels = let same : length labels ≡ length parts = length-map parts (λ (part : Part). part.label) in omega arith in
    let label_is : get_or labels i label ≡ label = mapped_at (λ (part : Part). part.label) parts i label c.part-item.result low ∙ sym (ap (λ (part : Part). part.label) c.part-item.is) in
    let next = take_more labels i label low_label ∙ ap (λ l. take i labels ++ l ∷ []) label_is in
    let absent : contains (slice_cmp nat_cmp) c.loop-part.labels label ≡ false = search rules in
    let updates = subst (λ (l : List ℕ). Updates (slice_cmp nat_cmp) c.loop-part.labels c.insert.new.self l true) c.in_ok-copied_label.ensures c.in_ok-insert.ensures.updates in
    record {
      apart = subst (AllPairs (λ x y. x ≢ y)) (sym next)
          (apart_more (slice_cmp nat_cmp) label_same label_self (take i labels) c.loop-part.labels label c.loop-part.invariant.apart c.loop-part.invariant.just absent);
      just = subst (λ (ls : List (List ℕ)). HasJust (slice_cmp nat_cmp) ls c.insert.new.self) (sym next)
          (just_more (slice_cmp nat_cmp) label_same label_self (take i labels) c.loop-part.labels c.insert.new.self label c.loop-part.invariant.just updates);
    }

pub returns : goal.returns
returns c = λ yes.
    let parts : List Part = c.args.parts.now in
    let same : length (part_labels parts) ≡ length parts = length-map parts (λ (part : Part). part.label) in
    subst (AllPairs (λ x y. x ≢ y)) (take_all c.loop-part.part-index (part_labels parts) (let past : length parts ≤ c.loop-part.part-index = c.loop-part-test.false in omega (arith, past, same))) c.loop-part.invariant.apart
