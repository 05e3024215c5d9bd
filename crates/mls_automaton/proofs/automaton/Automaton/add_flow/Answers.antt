use Rattle.std.proofs.Common.{◌≡◌, ◌≢◌, ◌↔◌, ◌⊎◌, ℕ, true, false, List, [], ◌∷◌, ◌++◌, Contains, sym, ◌∙◌, ap, subst}
use Rattle.mls_automaton.specs.declared.automaton.Flow.{Flow}
use Rattle.mls_automaton.proofs.Refusals.{refused, accepted}
use Rattle.mls_automaton.specs.declared.automaton.Polarity.TheVariants.{Positive, Negative}
use Rattle.mls_automaton.specs.Automata.{Automaton, HasFlow, IsState, flow}
use Rattle.mls_automaton.proofs.IndexedFlows.{flows-there, flows-added, indexed-flow, indexed-undone, undone-read}
use Rattle.mls_automaton.proofs.automaton.Automaton.add_flow.Goals as goal

pub invariant_of-self-then-is_err : goal.invariant_of-self-then-is_err
invariant_of-self-then-is_err c =
    let a : Automaton = record { states = c.self.inside.states.items; flows = c.self.inside.flows.items } in
    let negative : IsState a Negative c.args.negative.0 = subst (λ (x : Automaton). IsState x Negative c.args.negative.0) (sym c.self.view_is) c.requires.negative in
    let positive : IsState a Positive c.args.positive.0 = subst (λ (x : Automaton). IsState x Positive c.args.positive.0) (sym c.self.view_is) c.requires.positive in
    indexed-undone a c.self.inside.partners.items c.args.negative.0 c.args.positive.0 c.self.invariant negative positive
    c.insert.new.self c.insert-2.new.self c.index_mut.result.now c.index_mut-2.result.now c.remove.new.self c.reserve.new.self.items
    c.reserve.ensures.items
    (λ h. let t : c.has_flow.result ≡ true = c.has_flow.ensures.1 (subst (λ (x : Automaton). HasFlow x c.args.negative.0 c.args.positive.0) c.self.view_is h) in let f : c.has_flow.result ≡ false = c.if-has_flow.false in absurd (cc))
    c.index_mut.ensures.value
    c.index_mut-2.ensures.value
    (refused c.insert-2.result (c.insert-2.new.self ≡ c.index_mut-2.result.now) (sym c.is_err.ensures.value ∙ c.if-is_err.true) c.insert-2.ensures.err)
    c.in_ok-insert.ensures.ok
    c.remove.ensures.rises
    (let read : c.index_mut-then-is_err.result.now ≡ c.insert.new.self = undone-read a c.self.inside.partners.items c.args.negative.0 c.args.positive.0 c.self.invariant negative positive c.insert.new.self c.insert-2.new.self c.index_mut-then-is_err.result.now c.index_mut-then-is_err.ensures.value in
    subst (λ (set : List ℕ). (j : ℕ) → Contains c.remove.new.self j ↔ Contains set j × (j ≢ c.args.positive.0)) read c.remove.ensures.members)

pub invariant_of-self-2 : goal.invariant_of-self-2
invariant_of-self-2 c =
    let a : Automaton = record { states = c.self.inside.states.items; flows = c.self.inside.flows.items } in
    let negative : IsState a Negative c.args.negative.0 = subst (λ (x : Automaton). IsState x Negative c.args.negative.0) (sym c.self.view_is) c.requires.negative in
    let positive : IsState a Positive c.args.positive.0 = subst (λ (x : Automaton). IsState x Positive c.args.positive.0) (sym c.self.view_is) c.requires.positive in
    indexed-flow a c.self.inside.partners.items c.args.negative.0 c.args.positive.0 c.self.invariant negative positive
    c.insert.new.self c.insert-2.new.self c.index_mut.result.now c.index_mut-2.result.now c.push.new.self.items
    (c.in_ok-push.ensures.items ∙ ap (λ (fs : List Flow). fs ++ flow c.args.negative.0 c.args.positive.0 ∷ []) c.reserve.ensures.items)
    c.index_mut.ensures.value
    c.index_mut-2.ensures.value
    c.in_ok-insert.ensures.rises
    c.in_ok-insert.ensures.ok
    c.insert-2.ensures.rises
    (accepted c.insert-2.result ((j : ℕ) → Contains c.insert-2.new.self j ↔ (j ≡ c.args.negative.0) ⊎ Contains c.index_mut-2.result.now j) (sym c.is_err.ensures.value ∙ c.if-is_err.false) c.insert-2.ensures.ok)

pub returns-then-has_flow-clause-flows : goal.returns-then-has_flow-clause-flows
returns-then-has_flow-clause-flows c = flows-there c.args.self.now c.args.negative.0 c.args.positive.0 (c.has_flow.ensures.0 c.if-has_flow.true)

pub returns-clause-flows : goal.returns-clause-flows
returns-clause-flows c =
    let f : Flow = flow c.args.negative.0 c.args.positive.0 in
    flows-added c.args.self.now c.args.negative.0 c.args.positive.0 c.push.new.self.items
    (c.in_ok-push.ensures.items ∙ ap (λ (fs : List Flow). fs ++ f ∷ []) c.reserve.ensures.items ∙ ap (λ (x : Automaton). x.flows ++ f ∷ []) c.self.view_is)
