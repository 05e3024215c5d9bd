use Rattle.std.proofs.Common.{◌↔◌, ◌∙◌, ◌<◌, Contains, sym, subst, arith, length}
use Rattle.mls_automaton.specs.Automata.{IsPartner}
use Rattle.mls_automaton.proofs.Lists.{All-contained}
use Rattle.mls_print.proofs.VariableNumbers.{partner_low, positive_flows, negative_flows}
use Rattle.mls_print.proofs.variables.has_variable.Goals as goal

pub any_visited-requires : goal.any_visited-requires
any_visited-requires c =
    All-contained (λ s. s < length c.args.order.now.numbers.items) c.as_slice.result.now
    (λ j it. let low = partner_low c.args.automaton.now c.requires.closed c.args.s.0 j ((c.partners.ensures.partners j).0 (subst (λ xs. Contains xs j) c.as_slice.ensures.members it)) in omega (arith, low, c.requires.numbered.size))

pub returns-in-Positive : goal.returns-in-Positive
returns-in-Positive c = sym (positive_flows c.args.automaton.now c.requires.closed c.args.order.now.states.items c.args.s.0 (sym c.polarity.ensures ∙ c.in-Positive.is))

pub returns-in-Negative : goal.returns-in-Negative
returns-in-Negative c =
    c.any_visited.ensures
    ∙ negative_flows c.args.automaton.now c.requires.closed c.args.order.now.states.items c.args.order.now.numbers.items c.requires.numbered c.args.s.0 (sym c.polarity.ensures ∙ c.in-Negative.is) c.as_slice.result.now
    (λ j. subst (λ xs. Contains xs j ↔ IsPartner c.args.automaton.now c.args.s.0 j) (sym c.as_slice.ensures.members) (c.partners.ensures.partners j))
