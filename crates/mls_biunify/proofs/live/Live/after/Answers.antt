use Rattle.std.proofs.Common.{◌↔◌, ℕ, Contains, subst}
use Rattle.mls_automaton.specs.Automata.{HasFlow}
use Rattle.mls_biunify.specs.Live.{Live}
use Rattle.mls_biunify.proofs.live.Live.after.Goals as goal

pub returns-clause-partners : goal.returns-clause-partners
returns-clause-partners c = subst (λ (live : Live). (p : ℕ) → Contains c.after.result.now p ↔ HasFlow live.table c.args.n.0 p) c.self.view_is c.after.ensures.partners
