use Rattle.mls_biunify.proofs.TwoWays.{grown-none, grown-then}
use Rattle.mls_biunify.proofs.edges.Edges.grow.Goals as goal

pub loop-self-init : goal.loop-self-init
loop-self-init c = grown-none c.args.self.now

pub loop-self-preserved : goal.loop-self-preserved
loop-self-preserved c = grown-then c.args.self.now c.loop-self.self c.add_number.new.self c.loop-self.invariant c.add_number.ensures.grown

pub returns-in_err-add_number-clause-grown : goal.returns-in_err-add_number-clause-grown
returns-in_err-add_number-clause-grown c = grown-then c.args.self.now c.loop-self.self c.add_number.new.self c.loop-self.invariant c.add_number.ensures.grown
