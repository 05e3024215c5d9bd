use Rattle.std.proofs.Common.{◌∙◌}
use Rattle.mls_automaton.specs.Automata.{HasFlow}
use Rattle.mls_solver.proofs.Marking.{marked-first, marked-next, marked-last}
use Rattle.mls_solver.proofs.materialise.mark_targets.Goals as goal

pub loop-m-init : goal.loop-m-init
loop-m-init c = marked-first c.args.members.now (HasFlow c.args.a.now) c.args.marks.now

pub mark_partners-requires-clause-limit : goal.mark_partners-requires-clause-limit
mark_partners-requires-clause-limit c = c.loop-m.invariant.limit ∙ c.requires.limit

pub loop-m-preserved : goal.loop-m-preserved
loop-m-preserved c = marked-next c.args.members.now (HasFlow c.args.a.now) c.args.marks.now c.loop-m.marks c.mark_partners.new.marks c.loop-m.m-index c.loop-m-test.true c.loop-m.invariant c.mark_partners.ensures

pub returns : goal.returns
returns c = marked-last c.args.members.now (HasFlow c.args.a.now) c.args.marks.now c.loop-m.marks c.loop-m.m-index c.loop-m-test.false c.loop-m.invariant
