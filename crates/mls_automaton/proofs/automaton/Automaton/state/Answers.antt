use Rattle.std.proofs.Common.{◌≡◌, [], ◌∷◌, ◌++◌}
use Rattle.mls_automaton.proofs.IndexedFlows.{indexed-state}
use Rattle.mls_automaton.proofs.automaton.Automaton.state.Goals as goal

pub invariant_of-self-2 : goal.invariant_of-self-2
invariant_of-self-2 c =
    let partners : c.push-2.new.self.items ≡ c.self.inside.partners.items ++ [] ∷ [] = cc (c.in_ok-push-2.ensures.items, c.reserve.ensures.items) in
    rw (c.in_ok-push.ensures.items, partners)
    (indexed-state (record { states = c.self.inside.states.items; flows = c.self.inside.flows.items }) c.self.inside.partners.items _ c.self.invariant)
