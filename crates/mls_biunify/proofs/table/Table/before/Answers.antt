use Rattle.std.proofs.Common.{◌↔◌, Contains, subst}
use Rattle.mls_automaton.specs.Automata.{HasFlow}
use Rattle.mls_biunify.specs.steps.Tables.{Numbered}
use Rattle.mls_biunify.proofs.TableSteps.{flow-in}
use Rattle.mls_biunify.proofs.table.Table.before.Goals as goal

pub returns-clause-partners : goal.returns-clause-partners
returns-clause-partners c n =
    subst (λ (t : Numbered). Contains c.before-2.result.now n ↔ HasFlow t.automaton n c.args.p.0) c.self.view_is (
      λ it. (flow-in c.self.inside.states c.self.inside.flows n c.args.p.0).1 ((c.before-2.ensures.members n).0 it),
      λ it. (c.before-2.ensures.members n).1 ((flow-in c.self.inside.states c.self.inside.flows n c.args.p.0).0 it),
    )
