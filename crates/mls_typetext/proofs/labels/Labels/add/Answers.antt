use Rattle.std.proofs.Common.{◌≡◌, true, not, refl, sym, ap, ◌∙◌}
use Rattle.mls_typetext.proofs.RisingLabels.{pushed, none-above, searched, nothing-added, known-rising, known-others, elsewhere, added-behind}
use Rattle.mls_typetext.specs.steps.LabelLists.{is_among}
use Rattle.mls_typetext.proofs.labels.Labels.add.Goals as goal

there-then-contains : (c : goal.After-drop-label-inside) → is_among c.args.self.now c.args.label ≡ true
there-then-contains c =
    known-others c.self.inside.rising.items c.self.inside.others c.args.self.now c.self.view_is c.args.label (sym c.contains.ensures ∙ c.if-contains.true)

pub returns-then-contains-clause-new : goal.returns-then-contains-clause-new
returns-then-contains-clause-new c = sym (ap not (there-then-contains c))

pub returns-then-contains-clause-labels : goal.returns-then-contains-clause-labels
returns-then-contains-clause-labels c = nothing-added c.args.label c.args.self.now (there-then-contains c)

pub invariant_of-self-then-is_above : goal.invariant_of-self-then-is_above
invariant_of-self-then-is_above c =
    pushed c.self.inside.rising.items c.args.label c.as_slice.result.now c.as_slice.ensures.value c.push.new.self.items c.self.invariant
    (c.if-is_above.ensures refl) c.in_ok-push.ensures.items

pub returns-then-is_above-clause-new : goal.returns-then-is_above-clause-new
returns-then-is_above-clause-new c =
    sym (ap not (elsewhere c.self.inside.rising.items c.self.inside.others c.args.self.now c.self.view_is c.args.label
    (none-above c.self.inside.rising.items c.args.label c.as_slice.result.now c.as_slice.ensures.value (c.if-is_above.ensures refl))
    ∙ (sym c.contains.ensures ∙ c.if-contains.false)))

there-then-is_ok : (c : goal.After-drop-label-inside-then-is_ok) → is_among c.args.self.now c.args.label ≡ true
there-then-is_ok c =
    known-rising c.self.inside.rising.items c.self.inside.others c.args.self.now c.self.view_is c.args.label
    (searched c.self.inside.rising.items c.args.label c.deref.result.now c.deref.ensures.value c.binary_search.result c.self.invariant c.binary_search.ensures.bound c.binary_search.ensures.position
    ∙ (sym c.is_ok.ensures.value ∙ c.if-is_ok.true))

pub returns-then-is_ok-clause-new : goal.returns-then-is_ok-clause-new
returns-then-is_ok-clause-new c = sym (ap not (there-then-is_ok c))

pub returns-then-is_ok-clause-labels : goal.returns-then-is_ok-clause-labels
returns-then-is_ok-clause-labels c = nothing-added c.args.label c.args.self.now (there-then-is_ok c)

pub returns-clause-new : goal.returns-clause-new
returns-clause-new c =
    c.in_ok-insert.ensures.added
    ∙ sym (ap not (elsewhere c.self.inside.rising.items c.self.inside.others c.args.self.now c.self.view_is c.args.label
    (searched c.self.inside.rising.items c.args.label c.deref.result.now c.deref.ensures.value c.binary_search.result c.self.invariant c.binary_search.ensures.bound c.binary_search.ensures.position
    ∙ (sym c.is_ok.ensures.value ∙ c.if-is_ok.false))))

pub returns-clause-labels : goal.returns-clause-labels
returns-clause-labels c =
    added-behind c.self.inside.rising.items c.self.inside.others c.args.self.now c.self.view_is c.args.label c.insert.new.self c.in_ok-insert.ensures.updates
