use Rattle.std.proofs.Common.{subst}
use Rattle.mls_automaton.specs.Models.{IsClosed}
use Rattle.mls_biunify.specs.Live.{Live}
use Rattle.mls_biunify.proofs.TableSteps.{table-closed}
use Rattle.mls_biunify.proofs.live.Live.ready.Goals as goal

pub returns-clause-closed : goal.returns-clause-closed
returns-clause-closed c =
    subst (λ (live : Live). IsClosed live.table) c.self.view_is
    (table-closed c.self.inside.table.automaton c.self.inside.table.there c.limit-limit.ensures.is.is)
