use Rattle.std.proofs.Common.{◌≡◌, inl, ℕ, List, [], ◌∷◌, ◌++◌, ◌∙◌, sym, ap, get_or, Contains, subst}
use Rattle.std.proofs.lemmas.List.Elements.{Contains-get_or}
use Rattle.mls_automaton.specs.declared.automaton.Polarity.TheVariants.{Negative, Positive}
use Rattle.mls_automaton.specs.declared.automaton.Head.{Head}
use Rattle.mls_automaton.specs.Automata.{Automaton, head_at}
use Rattle.mls_parts.proofs.OwnStates.{partner_edge, twin_added}
use Rattle.mls_parts.proofs.Twins.{partner_positive, twin_there, twin_wider, wider_then}
use Rattle.mls_parts.proofs.first_type.push_twin.Goals as goal

pub push_edges-requires-clause-closed : goal.push_edges-requires-clause-closed
push_edges-requires-clause-closed c =
    (twin_wider c.args.automaton.now c.state.new.self c.args.state.0 c.in_ok-head.head c.requires.closed c.requires.state (c.in_ok-head.ensures ∙ c.head.ensures) c.in_ok-twin.ensures.ok).closed

pub push_edges-requires-clause-from : goal.push_edges-requires-clause-from
push_edges-requires-clause-from c = twin_there c.args.automaton.now c.state.new.self c.in_ok-twin.twin.0 c.in_ok-head.head c.in_ok-twin.ensures.number c.in_ok-twin.ensures.ok

pub push_edges-requires-clause-ends : goal.push_edges-requires-clause-ends
push_edges-requires-clause-ends c k d low =
    let ends : List ℕ = c.as_slice.result.now in
    let j : ℕ = get_or ends k d in
    let there : Contains c.partners.result.now j = subst (λ (xs : List ℕ). Contains xs j) (c.as_slice.ensures.members ∙ c.in_ok-ends.ensures) (Contains-get_or ends k d low) in
    (twin_wider c.args.automaton.now c.state.new.self c.args.state.0 c.in_ok-head.head c.requires.closed c.requires.state (c.in_ok-head.ensures ∙ c.head.ensures) c.in_ok-twin.ensures.ok).kept Positive j
    (partner_positive c.args.automaton.now c.requires.closed c.args.state.0 j c.requires.state ((c.partners.ensures.partners j).0 there))

pub returns-clause-wider : goal.returns-clause-wider
returns-clause-wider c =
    wider_then c.args.automaton.now c.state.new.self c.push_edges.new.automaton
    (twin_wider c.args.automaton.now c.state.new.self c.args.state.0 c.in_ok-head.head c.requires.closed c.requires.state (c.in_ok-head.ensures ∙ c.head.ensures) c.in_ok-twin.ensures.ok)
    c.in_ok-push_edges.ensures.wider

pub returns-clause-twin : goal.returns-clause-twin
returns-clause-twin c =
    c.in_ok-push_edges.ensures.wider.kept Negative c.in_ok-twin.twin.0
    (twin_there c.args.automaton.now c.state.new.self c.in_ok-twin.twin.0 c.in_ok-head.head c.in_ok-twin.ensures.number c.in_ok-twin.ensures.ok)

pub returns-clause-adds : goal.returns-clause-adds
returns-clause-adds c =
    let a : Automaton = c.args.automaton.now in
    let n : ℕ = c.args.state.0 in
    let ends : List ℕ = c.as_slice.result.now in
    let head : c.in_ok-head.head ≡ head_at a n = c.in_ok-head.ensures ∙ c.head.ensures in
    twin_added a c.state.new.self c.push_edges.new.automaton n c.in_ok-twin.twin.0 ends c.in_ok-twin.ensures.number
    (ap (λ (b : Automaton). b.states) c.in_ok-twin.ensures.ok ∙ ap (λ (h : Head). a.states ++ record { polarity = Negative; head = h } ∷ []) head)
    (ap (λ (b : Automaton). b.flows) c.in_ok-twin.ensures.ok) c.in_ok-push_edges.ensures.adds
    (λ p there.
    let inside : Contains c.partners.result.now p = subst (λ (xs : List ℕ). Contains xs p) (c.as_slice.ensures.members ∙ c.in_ok-ends.ensures) there in
    partner_edge a c.requires.closed n p c.requires.state ((c.partners.ensures.partners p).0 inside))
    (λ p edge. subst (λ (xs : List ℕ). Contains xs p) (sym (c.as_slice.ensures.members ∙ c.in_ok-ends.ensures)) ((c.partners.ensures.partners p).1 (inl edge)))
