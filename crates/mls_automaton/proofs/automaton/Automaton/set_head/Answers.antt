use Rattle.std.proofs.Common.{◌≡◌, ◌∙◌, ◌<◌, ℕ, List, length, get_or, refl, sym, ap, rules, slice_set}
use Rattle.std.proofs.lemmas.List.{get_or_default}
use Rattle.mls_automaton.specs.declared.automaton.Polarity.TheVariants.{Positive}
use Rattle.mls_automaton.specs.declared.automaton.State.{State}
use Rattle.mls_automaton.specs.Automata.{Automaton, empty_head, polarity_at}
use Rattle.mls_automaton.proofs.IndexedFlows.{indexed-same, polarity-set}
use Rattle.mls_automaton.proofs.automaton.Automaton.set_head.Goals as goal

pub invariant_of-self : goal.invariant_of-self
invariant_of-self c =
    let states : List State = c.self.inside.states.items in
    let state : State = record { polarity = c.index_mut.result.now.polarity; head = c.args.head } in
    let old : Automaton = record { states = states; flows = c.self.inside.flows.items } in
    let new : Automaton = record { states = slice_set states c.args.s.0 state; flows = c.self.inside.flows.items } in
    let size : length new.states ≡ length old.states = search rules in
    let low : c.args.s.0 < length states = search rules in
    let is : c.index_mut.result.now ≡ get_or states c.args.s.0 c.index_mut.result.now = c.index_mut.ensures.value in
    let this : polarity_at old c.args.s.0 ≡ c.index_mut.result.now.polarity = sym (ap (λ (x : State). x.polarity) (is ∙ get_or_default states c.args.s.0 c.index_mut.result.now (record { polarity = Positive; head = empty_head }) low)) in
    indexed-same old new c.self.inside.partners.items refl size (polarity-set old c.args.s.0 state this) c.self.invariant
