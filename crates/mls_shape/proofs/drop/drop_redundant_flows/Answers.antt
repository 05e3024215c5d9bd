use Rattle.std.proofs.Common.{◌∙◌, subst, refl, Contains}
use Rattle.mls_automaton.specs.declared.scheme.Scheme.{Scheme}
use Rattle.mls_shape.proofs.KeptFlows.{drops, pairs-there}
use Rattle.mls_shape.proofs.Dropping.{dropped_scheme, dropped_deterministic, dropped_irredundant}
use Rattle.mls_shape.proofs.Equivalences.{dropped-equivalent, dropped-binders}
use Rattle.mls_shape.proofs.drop.drop_redundant_flows.Goals as goal

pub add_each-requires : goal.add_each-requires
add_each-requires c =
    pairs-there c.args.s.now.automaton c.in_ok-automaton.automaton c.in_ok-automaton.ensures.states c.as_slice.result.now
    (λ f there.
    let edge = (c.in_ok-flows.ensures.kept f.negative.0 f.positive.0 (subst (λ fs. Contains fs f) c.as_slice.ensures.value there)).0 in
    (c.requires.scheme.automaton.negative f edge, c.requires.scheme.automaton.positive f edge))

abbrev answer : (c : goal.After-drop-flows-2) → Scheme
answer c = record { automaton = c.add_each.new.automaton; env = c.in_ok-env.env; root = c.args.s.now.root }

pub returns-clause-drops : goal.returns-clause-drops
returns-clause-drops c =
    drops c.args.s.now (answer c) c.in_ok-automaton.automaton c.in_ok-flows.flows.items c.as_slice.result.now c.as_slice.ensures.value
    (c.in_ok-add_each.ensures.states ∙ c.in_ok-automaton.ensures.states) c.in_ok-env.ensures refl c.in_ok-automaton.ensures.flows
    c.in_ok-add_each.ensures.flows c.in_ok-flows.ensures.kept c.in_ok-flows.ensures.dropped

pub returns-clause-scheme : goal.returns-clause-scheme
returns-clause-scheme c = dropped_scheme c.args.s.now (answer c) c.requires.scheme (returns-clause-drops c)

pub returns-clause-equivalent : goal.returns-clause-equivalent
returns-clause-equivalent c = dropped-equivalent c.args.s.now (answer c) c.requires.scheme (returns-clause-drops c)

pub returns-clause-binders : goal.returns-clause-binders
returns-clause-binders c = dropped-binders c.args.s.now (answer c) (returns-clause-drops c)

pub returns-clause-deterministic : goal.returns-clause-deterministic
returns-clause-deterministic c =
    dropped_deterministic c.args.s.now (answer c) c.requires.scheme (returns-clause-drops c) c.requires.deterministic

pub returns-clause-irredundant : goal.returns-clause-irredundant
returns-clause-irredundant c = dropped_irredundant c.args.s.now (answer c) c.requires.scheme (returns-clause-drops c)
