use Rattle.mls_automaton.proofs.IndexedFlows.{closed-states, states-closed}
use Rattle.mls_automaton.proofs.automaton.Automaton.is_closed.Goals as goal

pub returns : goal.returns
returns c = (
  λ h. closed-states c.args.self.now c.are_closed_states.ensures.flows (c.are_closed_states.ensures.closed.0 h),
  λ h. c.are_closed_states.ensures.closed.1 (states-closed c.args.self.now h),
)
