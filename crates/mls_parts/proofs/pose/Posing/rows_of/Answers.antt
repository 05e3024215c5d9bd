use Rattle.std.proofs.Common.{◌≡◌, ◌∙◌, ◌+◌, ◌<◌, ℕ, suc, List, sym, ap, subst, arith, get_or, length, map, Some}
use Rattle.std.specs.Ordering.{nat_cmp}
use Rattle.std.specs.Cmp.Lexicographic.{slice_cmp}
use Rattle.std.specs.BTreeMap.{Updates}
use Rattle.std.proofs.lemmas.List.{length-map}
use Rattle.mls_automaton.specs.declared.state_set.StateId.{StateId}
use Rattle.mls_term.specs.declared.term.Part.{Part}
use Rattle.mls_infer.specs.Joining.{AreRows, part_labels}
use Rattle.mls_infer.proofs.FieldRows.{mapped_at, rows_more}
use Rattle.mls_parts.specs.Posings.{root_in}
use Rattle.mls_parts.proofs.pose.Posing.rows_of.Goals as goal

pub loop-part-preserved : goal.loop-part-preserved
loop-part-preserved c =
    let parts : List Part = c.args.parts.now in
    let i : ℕ = c.loop-part.part-index in
    let labels : List (List ℕ) = part_labels parts in
    let roots : List ℕ = map (λ (part : Part). root_in c.args.self.now part.child) parts in
    let label : List ℕ = c.in_ok-copied_label.field-0 in
    let root : StateId = record { 0 = c.root.result } in
    let low : i < length parts = c.loop-part-test.true in
    let low_label : i < length labels = let same : length labels ≡ length parts = length-map parts (λ (part : Part). part.label) in omega arith in
    let nothing : Part = c.part-item.result in
    let label_is : (d : List ℕ) → label ≡ get_or labels i d = λ d. c.in_ok-copied_label.ensures ∙ (ap (λ (part : Part). part.label) c.part-item.is ∙ sym (mapped_at (λ (part : Part). part.label) parts i d _ low)) in
    let root_is : (r : ℕ) → root.0 ≡ get_or roots i r = λ r. c.root.ensures ∙ (ap (λ (part : Part). root_in c.args.self.now part.child) c.part-item.is ∙ sym (mapped_at (λ (part : Part). root_in c.args.self.now part.child) parts i r _ low)) in
    let updates : Updates (slice_cmp nat_cmp) c.loop-part.rows c.insert.new.self label (Some root) = c.in_ok-insert.ensures.updates in
    let more : suc i ≡ i + 1 = omega arith in
    subst (λ n. AreRows n labels roots c.insert.new.self) more
    (rows_more i labels roots c.loop-part.rows c.insert.new.self label root low_label c.requires label_is root_is updates c.loop-part.invariant)
