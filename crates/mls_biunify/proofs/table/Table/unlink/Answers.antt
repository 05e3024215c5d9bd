use Rattle.std.proofs.Common.{subst}
use Rattle.mls_biunify.specs.steps.Tables.{Numbered, RemovesFlow, numbered_of}
use Rattle.mls_biunify.proofs.TableSteps.{flow-removes, flow-gone}
use Rattle.mls_biunify.proofs.table.Table.unlink.Goals as goal

pub invariant_of-self : goal.invariant_of-self
invariant_of-self c = flow-gone c.self.inside.states c.self.inside.flows c.remove.new.self c.self.invariant c.args.negative.0 c.args.positive.0 c.remove.ensures

pub returns-clause-removes : goal.returns-clause-removes
returns-clause-removes c =
    subst (λ (t : Numbered). RemovesFlow t (numbered_of c.self.inside.states c.remove.new.self) c.args.negative.0 c.args.positive.0) c.self.view_is
    (flow-removes c.self.inside.states c.self.inside.flows c.remove.new.self c.self.invariant c.args.negative.0 c.args.positive.0 c.remove.ensures)

pub returns-clause-is : goal.returns-clause-is
returns-clause-is c = flow-gone c.self.inside.states c.self.inside.flows c.remove.new.self c.self.invariant c.args.negative.0 c.args.positive.0 c.remove.ensures
