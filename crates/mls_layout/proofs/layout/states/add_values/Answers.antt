use Rattle.std.proofs.Common.{List, ℕ, Contains, ap, ◌∙◌, subst, sym}
use Rattle.std.specs.Prelude.{◌↔◌}
use Rattle.mls_book.specs.declared.book.NodeId.{NodeId}
use Rattle.mls_automaton.specs.declared.automaton.Polarity.{Polarity}
use Rattle.mls_automaton.specs.Automata.{IsPartner}
use Rattle.mls_layout.specs.LaidOut.{place_of}
use Rattle.mls_layout.specs.steps.Sources.{Gathers, IsValued}
use Rattle.mls_layout.proofs.Entering.{positive_valued, negative_valued}
use Rattle.mls_layout.proofs.layout.states.add_values.Goals as goal

pub returns-in_ok-add_nodes-in-Positive : goal.returns-in_ok-add_nodes-in-Positive
returns-in_ok-add_nodes-in-Positive c =
    let is = sym c.polarity.ensures ∙ c.in-Positive.is in
    subst (λ (p : Polarity). Gathers (IsValued c.args.a.now (place_of c.args.values.now) p c.args.s.0) c.args.ids.now c.add_nodes.new.ids) (sym is)
    (positive_valued c.args.a.now c.requires.closed (place_of c.args.values.now) c.args.s.0 is c.as_slice.result.now
    (λ j. subst (λ (xs : List ℕ). Contains xs j ↔ IsPartner c.args.a.now c.args.s.0 j) (sym c.as_slice.ensures.members) (c.partners.ensures.partners j))
    c.args.ids.now c.add_nodes.new.ids c.in_ok-add_nodes-in-Positive.ensures)

pub returns-in_ok-push-in-Negative : goal.returns-in_ok-push-in-Negative
returns-in_ok-push-in-Negative c =
    let is = sym c.polarity.ensures ∙ c.in-Negative.is in
    subst (λ (p : Polarity). Gathers (IsValued c.args.a.now (place_of c.args.values.now) p c.args.s.0) c.args.ids.now c.push.new.self) (sym is)
    (negative_valued c.args.a.now c.requires.closed (place_of c.args.values.now) c.args.s.0 c.node.result (ap (λ (id : NodeId). id.0) c.node.ensures) c.args.ids.now c.push.new.self
    c.in_ok-push-in-Negative.ensures.ok)
