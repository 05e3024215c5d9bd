use Rattle.mls_automaton.proofs.IndexedFlows.{single-states, states-single}
use Rattle.mls_automaton.proofs.automaton.Automaton.is_deterministic.Goals as goal

pub returns : goal.returns
returns c = (
  λ h. single-states c.args.self.now (c.are_single_states.ensures.0 h),
  λ h. c.are_single_states.ensures.1 (states-single c.args.self.now h),
)
