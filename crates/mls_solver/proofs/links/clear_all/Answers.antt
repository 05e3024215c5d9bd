use Rattle.std.proofs.Common.{◌<◌, ◌≤◌, subst, sym}
use Rattle.mls_solver.proofs.LinkSteps.{zeros-more, zeros-all}
use Rattle.mls_solver.proofs.links.clear_all.Goals as goal

pub loop-i-preserved : goal.loop-i-preserved
loop-i-preserved c = zeros-more c.loop-i.numbers c.loop-i.i (subst (λ n. c.loop-i.i < n) (sym c.loop-i.auto.numbers) c.loop-i-test.true) c.loop-i.invariant

pub returns : goal.returns
returns c = zeros-all c.loop-i.numbers c.loop-i.i (subst (λ n. n ≤ c.loop-i.i) (sym c.loop-i.auto.numbers) c.loop-i-test.false) c.loop-i.invariant
