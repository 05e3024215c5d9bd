use Rattle.std.proofs.Common.{◌≡◌, ◌↔◌, ◌<◌, ℕ, length, subst, sym}
use Rattle.mls_automaton.specs.Automata.{HasFlow, state_at}
use Rattle.mls_biunify.specs.Live.{IsThere, Live}
use Rattle.mls_biunify.proofs.Copied.{copy_closed}
use Rattle.mls_biunify.proofs.live.Live.copied.Goals as goal

pub returns-clause-states : goal.returns-clause-states
returns-clause-states c = subst (λ (live : Live). (s : ℕ) → state_at c.in_ok-copy.copy s ≡ state_at live.table s) c.self.view_is c.in_ok-copy.ensures.states

pub returns-clause-there : goal.returns-clause-there
returns-clause-there c =
    subst (λ (live : Live). (s : ℕ) → IsThere live s → s < length c.in_ok-copy.copy.states) c.self.view_is
    (λ s there. subst (λ n. s < n) (sym c.in_ok-copy.ensures.size) (c.limit-limit.ensures.is.low s there))

pub returns-clause-flows : goal.returns-clause-flows
returns-clause-flows c = subst (λ (live : Live). (n p : ℕ) → HasFlow c.in_ok-copy.copy n p ↔ HasFlow live.table n p) c.self.view_is c.in_ok-copy.ensures.flows

pub returns-clause-closed : goal.returns-clause-closed
returns-clause-closed c = copy_closed c.self.inside.table c.limit-limit.ensures.is c.in_ok-copy.copy c.in_ok-copy.ensures
