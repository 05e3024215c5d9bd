use Rattle.std.proofs.Common.{ℕ, List, All, subst, sym, ◌∙◌}
use Rattle.mls_automaton.specs.declared.automaton.Polarity.TheVariants.{Positive}
use Rattle.mls_automaton.specs.Automata.{IsState}
use Rattle.mls_solver.specs.steps.Settling.{IsFitting}
use Rattle.mls_solver.proofs.Settling.{makes-head, makes-flows, fitting-later}
use Rattle.mls_solver.proofs.settle.make.Goals as goal

pub returns-then-is_empty : goal.returns-then-is_empty
returns-then-is_empty c =
    makes-head c.args.change.now c.args.a.now c.set_head.new.self c.set_head.ensures.size c.set_head.ensures.polarity (c.set_head.ensures.head ∙ c.in_ok-head.ensures) c.set_head.ensures.others c.set_head.ensures.flows
    (c.is_empty.ensures.0 c.if-is_empty.true)

pub add_flows_to-requires-clause-negative : goal.add_flows_to-requires-clause-negative
add_flows_to-requires-clause-negative c =
    let fits : IsFitting c.set_head.new.self c.args.change.now = fitting-later c.args.a.now c.set_head.new.self c.set_head.ensures.size c.set_head.ensures.polarity c.args.change.now c.requires in
    fits.negative (λ none. let yes = c.is_empty.ensures.1 none in let no = c.if-is_empty.false in absurd (cc))

pub add_flows_to-requires-clause-positive : goal.add_flows_to-requires-clause-positive
add_flows_to-requires-clause-positive c =
    let fits : IsFitting c.set_head.new.self c.args.change.now = fitting-later c.args.a.now c.set_head.new.self c.set_head.ensures.size c.set_head.ensures.polarity c.args.change.now c.requires in
    subst (λ (xs : List ℕ). All (IsState c.set_head.new.self Positive) xs) (sym c.as_slice.ensures.members) fits.positive

pub returns : goal.returns
returns c =
    makes-flows c.args.change.now c.args.a.now c.set_head.new.self c.set_head.ensures.size c.set_head.ensures.polarity (c.set_head.ensures.head ∙ c.in_ok-head.ensures) c.set_head.ensures.others c.set_head.ensures.flows
    c.add_flows_to.new.solved c.as_slice.result.now c.as_slice.ensures.members c.in_ok-add_flows_to.ensures
