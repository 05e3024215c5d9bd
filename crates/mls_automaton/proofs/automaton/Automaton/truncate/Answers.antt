use Rattle.mls_automaton.proofs.Truncated.{all-sets-there, indexed-truncated}
use Rattle.mls_automaton.proofs.automaton.Automaton.truncate.Goals as goal

pub forget_states-requires : goal.forget_states-requires
forget_states-requires c =
    all-sets-there (record { states = c.self.inside.states.items; flows = c.self.inside.flows.items }) c.self.inside.partners.items c.as_slice.result.now c.self.invariant c.as_slice.ensures.value

pub invariant_of-self : goal.invariant_of-self
invariant_of-self c =
    indexed-truncated c.args.states (record { states = c.self.inside.states.items; flows = c.self.inside.flows.items })
    c.self.inside.partners.items c.forget_states.new.partners.items c.truncate.new.self.items c.as_slice.result.now
    (record { states = c.truncate-2.new.self.items; flows = c.keep_low.new.flows.items })
    c.self.invariant c.as_slice.ensures.value c.forget_states.ensures c.truncate.ensures.items
    (λ i. record { states = c.truncate-2.ensures.items i; flows = c.keep_low.ensures i })
