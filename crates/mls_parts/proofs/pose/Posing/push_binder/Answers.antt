use Rattle.std.proofs.Common.{◌↔◌, ◌<◌, ℕ, List, length, Contains, get_or, subst, ap, sym, ◌∙◌}
use Rattle.std.proofs.lemmas.List.Elements.{Contains-get_or}
use Rattle.mls_automaton.specs.declared.automaton.Polarity.TheVariants.{Negative}
use Rattle.mls_automaton.specs.Automata.{head_at, IsPartner, IsState}
use Rattle.mls_parts.proofs.Copies.{binder_bound, ends_above}
use Rattle.mls_parts.proofs.Posings.{state_there}
use Rattle.mls_parts.proofs.pose.Posing.push_binder.Goals as goal

pub push_edges-requires-clause-from : goal.push_edges-requires-clause-from
push_edges-requires-clause-from c = subst (IsState c.args.self.now.automaton Negative) (sym c.binder-from.ensures) c.requires.binder

pub push_edges-requires-clause-ends : goal.push_edges-requires-clause-ends
push_edges-requires-clause-ends c = λ i d low.
    let ends : List ℕ = c.as_slice.result.now in
    ends_above c.args.self.now c.args.first c.args.known.now c.args.entry c.requires (get_or ends i d)
    ((c.partners.ensures.partners (get_or ends i d)).0 (subst (λ (xs : List ℕ). Contains xs (get_or ends i d)) c.as_slice.ensures.members (Contains-get_or ends i d low)))

pub head-requires : goal.head-requires
head-requires c =
    subst (λ s. s < length c.push_edges.new.self.automaton.states) (sym c.in_ok-own.ensures)
    (state_there c.args.self.now.automaton c.push_edges.new.self.automaton Negative _ c.in_ok-push_edges.ensures.states (c.requires.above Negative c.args.entry.state.0 c.requires.state)).in_range

pub returns : goal.returns
returns c =
    let partners : (l : ℕ) → Contains c.as_slice.result.now l ↔ IsPartner c.args.known.now.automaton c.args.entry.state.0 l =
    λ l. subst (λ (xs : List ℕ). (Contains xs l ↔ IsPartner c.args.known.now.automaton c.args.entry.state.0 l)) (sym c.as_slice.ensures.members) (c.partners.ensures.partners l) in
    binder_bound c.args.self.now c.push_edges.new.self c.args.first c.args.known.now c.args.entry c.binder-from.result c.as_slice.result.now c.in_ok-head.head c.push.new.self
    c.requires c.binder-from.ensures partners c.in_ok-push_edges.ensures
    (c.in_ok-head.ensures ∙ (c.head.ensures ∙ ap (head_at c.push_edges.new.self.automaton) c.in_ok-own.ensures)) c.in_ok-push.ensures.ok
