use Rattle.std.proofs.Common.{List, ℕ, ◌++◌, Contains, ap, ◌∙◌, subst, sym}
use Rattle.std.specs.Prelude.{◌↔◌}
use Rattle.mls_automaton.specs.Automata.{IsPartner}
use Rattle.mls_book.specs.declared.book.NodeId.{NodeId}
use Rattle.mls_layout.proofs.Entering.{of_state}
use Rattle.mls_layout.proofs.layout.values.add_state.Goals as goal

pub returns : goal.returns
returns c =
    of_state c.args.a.now c.requires.closed c.args.sources.now c.args.p c.requires.state.polarity c.as_slice.result.now
    (λ j. subst (λ (xs : List ℕ). Contains xs j ↔ IsPartner c.args.a.now c.args.p j) (sym c.as_slice.ensures.members) (c.partners.ensures.partners j))
    c.args.ids.now c.add_all.new.ids c.add_partners.new.ids
    (c.in_ok-add_all.ensures ∙ ap (λ (ids : List NodeId). c.args.ids.now ++ ids) c.parts.ensures)
    c.in_ok-add_partners.ensures
