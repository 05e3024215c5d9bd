use Rattle.std.proofs.Common.{◌≡◌, ◌++◌, ◌∷◌, [], ◌<◌, List, length, get_or, take, rules, sym, subst, true}
use Rattle.std.proofs.lemmas.List.{take_more}
use Rattle.std.specs.BTreeSet.{contains, Updates}
use Rattle.std.specs.Ordering.{nat_cmp}
use Rattle.std.specs.Cmp.Lexicographic.{slice_cmp}
use Rattle.mls_term.specs.declared.term.Part.{Part}
use Rattle.mls_deriv.specs.inner.Rules.{AreLabelsOf}
use Rattle.mls_deriv.proofs.PartLabels.{labels_more}
use Rattle.mls_deriv.proofs.rules.labels_of.Goals as goal

pub loop-part-preserved : goal.loop-part-preserved
loop-part-preserved c =
    let parts : List Part = c.args.parts.now in
    let i = c.loop-part.part-index in
    let part : Part = c.part-item.result in
    let low : i < length parts = search rules in
    let here : part ≡ get_or parts i part = search rules in
    let updates : Updates (slice_cmp nat_cmp) c.loop-part.labels c.insert.new.self c.in_ok-copy_of.field-0 true = search rules in
    subst (λ (ps : List Part). AreLabelsOf ps (contains (slice_cmp nat_cmp) c.insert.new.self)) (sym (take_more parts i part low))
    (subst (λ (p : Part). AreLabelsOf (take i parts ++ p ∷ []) (contains (slice_cmp nat_cmp) c.insert.new.self)) here
    (labels_more (take i parts) part c.loop-part.labels c.insert.new.self c.loop-part.invariant
    (subst (λ x. Updates (slice_cmp nat_cmp) c.loop-part.labels c.insert.new.self x true) c.in_ok-copy_of.ensures updates)))
