use Rattle.std.proofs.Common.{◌≡◌, ◌+◌, List, ◌++◌, map, length, ap, ◌∙◌}
use Rattle.mls_automaton.specs.declared.automaton.State.{State}
use Rattle.mls_automaton.specs.declared.automaton.Flow.{Flow}
use Rattle.mls_automaton.specs.Embeddings.{appended, renamed_flow, renamed_state}
use Rattle.mls_automaton.proofs.IndexedAppends.{indexed-append}
use Rattle.mls_automaton.proofs.automaton.Automaton.append.Goals as goal

pub invariant_of-self : goal.invariant_of-self
invariant_of-self c =
    let n = length c.self.inside.states.items in
    let states : c.push_all.new.states.items ≡ c.self.inside.states.items ++ map (renamed_state (λ s. n + s)) c.other.inside.states.items =
    c.in-Ok.ensures.states ∙ ap (λ (xs : List State). c.self.inside.states.items ++ map (renamed_state (λ s. n + s)) xs) c.as_slice.ensures.value in
    let flows : c.push_all.new.flows.items ≡ c.self.inside.flows.items ++ map (renamed_flow (λ s. n + s)) c.other.inside.flows.items =
    c.in-Ok.ensures.flows ∙ ap (λ (xs : List Flow). c.self.inside.flows.items ++ map (renamed_flow (λ s. n + s)) xs) c.as_slice-2.ensures.value in
    let sets : c.push_all.new.sets.items ≡ c.self.inside.partners.items ++ map (map (λ s. n + s)) c.other.inside.partners.items =
    c.in-Ok.ensures.sets ∙ ap (λ xs. c.self.inside.partners.items ++ map (map (λ s. n + s)) xs) c.as_slice-3.ensures.value in
    rw (states, flows, sets)
    (indexed-append (record { states = c.self.inside.states.items; flows = c.self.inside.flows.items }) (record { states = c.other.inside.states.items; flows = c.other.inside.flows.items }) c.self.inside.partners.items c.other.inside.partners.items c.self.invariant c.other.invariant)

pub returns-in-Ok-clause-ok : goal.returns-in-Ok-clause-ok
returns-in-Ok-clause-ok c =
    let n = length c.self.inside.states.items in
    let states : c.push_all.new.states.items ≡ c.self.inside.states.items ++ map (renamed_state (λ s. n + s)) c.other.inside.states.items =
    c.in-Ok.ensures.states ∙ ap (λ (xs : List State). c.self.inside.states.items ++ map (renamed_state (λ s. n + s)) xs) c.as_slice.ensures.value in
    let flows : c.push_all.new.flows.items ≡ c.self.inside.flows.items ++ map (renamed_flow (λ s. n + s)) c.other.inside.flows.items =
    c.in-Ok.ensures.flows ∙ ap (λ (xs : List Flow). c.self.inside.flows.items ++ map (renamed_flow (λ s. n + s)) xs) c.as_slice-2.ensures.value in
    (λ i. record { states = states i; flows = flows i }) ∙ (λ i. appended (c.self.view_is i) (c.other.view_is i))
