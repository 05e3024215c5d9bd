use Rattle.std.proofs.Common.{◌↔◌, Contains, subst}
use Rattle.mls_automaton.specs.Automata.{HasFlow}
use Rattle.mls_biunify.specs.steps.Tables.{Numbered}
use Rattle.mls_biunify.proofs.TableSteps.{flow-in}
use Rattle.mls_biunify.proofs.table.Table.after.Goals as goal

pub returns-clause-partners : goal.returns-clause-partners
returns-clause-partners c p =
    subst (λ (t : Numbered). Contains c.after.result.now p ↔ HasFlow t.automaton c.args.n.0 p) c.self.view_is (
      λ it. (flow-in c.self.inside.states c.self.inside.flows c.args.n.0 p).1 ((c.after.ensures.members p).0 it),
      λ it. (c.after.ensures.members p).1 ((flow-in c.self.inside.states c.self.inside.flows c.args.n.0 p).0 it),
    )
