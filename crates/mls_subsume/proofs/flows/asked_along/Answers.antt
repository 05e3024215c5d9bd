use Rattle.std.proofs.Common.{◌∙◌, ap, sym, subst, length, get_or, map, Contains, take, ◌++◌}
use Rattle.std.specs.Prelude.{◌↔◌}
use Rattle.std.proofs.lemmas.List.{take_all}
use Rattle.std.proofs.lemmas.List.Elements.{Contains-get_or}
use Rattle.mls_automaton.specs.Automata.{flow}
use Rattle.mls_subsume.specs.steps.Asked.{AreAskedBy}
use Rattle.mls_subsume.specs.steps.Queues.{IsMet}
use Rattle.mls_subsume.proofs.AskedFlows.{asked-more}
use Rattle.mls_subsume.proofs.flows.asked_along.Goals as goal

pub partners-partners-requires : goal.partners-partners-requires
partners-partners-requires c = c.requires (get_or c.args.ends.now c.loop-end.end-index 0) (Contains-get_or c.args.ends.now c.loop-end.end-index 0 c.loop-end-test.true)

pub loop-end-preserved : goal.loop-end-preserved
loop-end-preserved c =
    asked-more c.args.queue.now.met c.args.positive.0 c.args.ends.now c.as_slice.result.now c.loop-end.end-index c.loop-end.flows c.add_flows.new.flows c.loop-end-test.true c.loop-end.invariant
    (λ t. subst (λ xs. Contains xs t ↔ IsMet c.args.queue.now.met (get_or c.args.ends.now c.loop-end.end-index 0) t) (sym c.as_slice.ensures.members) (c.partners-partners.ensures t))
    c.in_ok-add_flows.ensures

pub returns : goal.returns
returns c = subst (λ ends. AreAskedBy c.args.queue.now.met c.args.positive.0 ends c.loop-end.flows) (take_all c.loop-end.end-index c.args.ends.now c.loop-end-test.false) c.loop-end.invariant
