use Rattle.std.proofs.Common.{◌↔◌, IsTrue, subst}
use Rattle.mls_automaton.specs.Automata.{HasFlow}
use Rattle.mls_biunify.specs.steps.Tables.{Numbered}
use Rattle.mls_biunify.proofs.TableSteps.{flow-in}
use Rattle.mls_biunify.proofs.table.Table.has_flow.Goals as goal

pub returns : goal.returns
returns c =
    subst (λ (t : Numbered). IsTrue c.contains.result ↔ HasFlow t.automaton c.args.negative.0 c.args.positive.0) c.self.view_is (
      λ it. (flow-in c.self.inside.states c.self.inside.flows c.args.negative.0 c.args.positive.0).1 (c.contains.ensures.0 it),
      λ it. c.contains.ensures.1 ((flow-in c.self.inside.states c.self.inside.flows c.args.negative.0 c.args.positive.0).0 it),
    )
