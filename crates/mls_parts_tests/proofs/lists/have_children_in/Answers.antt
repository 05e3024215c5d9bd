use Rattle.std.proofs.Common.{IsTrue, rules, All, subst}
use Rattle.std.proofs.lemmas.List.{take_all}
use Rattle.std.proofs.lemmas.List.Elements.{All-more}
use Rattle.mls_term.specs.declared.term.Part.{Part}
use Rattle.mls_layout.specs.steps.Posable.{Has}
use Rattle.mls_parts_tests.proofs.lists.have_children_in.Goals as goal

pub loop-part-preserved : goal.loop-part-preserved
loop-part-preserved c =
    let has : IsTrue c.has.result = search rules in
    All-more (λ (part : Part). Has c.args.done.now part.child) c.args.parts.now c.loop-part.part-index c.part-item.result c.loop-part-test.true c.loop-part.invariant
    (subst (λ (part : Part). Has c.args.done.now part.child) c.part-item.is (c.has.ensures.0 has))

pub returns : goal.returns
returns c = λ yes. subst (All (λ (part : Part). Has c.args.done.now part.child)) (take_all c.loop-part.part-index c.args.parts.now c.loop-part-test.false) c.loop-part.invariant
