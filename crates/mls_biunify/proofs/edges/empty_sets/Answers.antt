use Rattle.mls_solver.proofs.Relating.{take-all}
use Rattle.mls_biunify.proofs.CutSets.{empties-all, empties-low, empties-more, empties-none}
use Rattle.mls_biunify.proofs.edges.empty_sets.Goals as goal

pub loop-s-init : goal.loop-s-init
loop-s-init c = empties-none c.args.sets.now.items c.args.numbers.now

pub clear_set-requires : goal.clear_set-requires
clear_set-requires c = empties-low c.args.sets.now.items c.loop-s.sets.items c.args.numbers.now c.loop-s.s-index c.loop-s-test.true c.loop-s.invariant c.requires

pub loop-s-preserved : goal.loop-s-preserved
loop-s-preserved c = empties-more c.args.sets.now.items c.loop-s.sets.items c.clear_set.new.sets.items c.args.numbers.now c.loop-s.s-index c.loop-s-test.true c.loop-s.invariant c.clear_set.ensures

pub returns : goal.returns
returns c = empties-all c.args.sets.now.items c.loop-s.sets.items c.args.numbers.now c.loop-s.s-index (take-all c.args.numbers.now c.loop-s.s-index c.loop-s-test.false) c.loop-s.invariant
