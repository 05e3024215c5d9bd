use Rattle.std.proofs.Common.{◌∙◌, rules, All, subst, get_or}
use Rattle.std.proofs.lemmas.List.{take_all}
use Rattle.std.proofs.lemmas.List.Elements.{All-more}
use Rattle.mls_layout.specs.steps.Posable.{IsFree}
use Rattle.mls_parts.proofs.posable.is_free_set.Goals as goal

pub loop-s-preserved : goal.loop-s-preserved
loop-s-preserved c =
    let free : IsFree c.args.states.now (get_or c.as_slice-s-items.result.now c.loop-s.s-index 0) = search rules in
    All-more (IsFree c.args.states.now) c.as_slice-s-items.result.now c.loop-s.s-index 0 c.loop-s-test.true c.loop-s.invariant free

pub returns : goal.returns
returns c = λ yes. subst (All (IsFree c.args.states.now)) (take_all c.loop-s.s-index c.as_slice-s-items.result.now c.loop-s-test.false ∙ c.as_slice-s-items.ensures.members) c.loop-s.invariant
