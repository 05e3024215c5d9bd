use Rattle.std.proofs.Common.{◌<◌, ℕ, List, All, length, sym, subst}
use Rattle.std.proofs.lemmas.List.{get_or_default}
use Rattle.mls_automaton.specs.declared.scheme.Scheme.{Scheme}
use Rattle.mls_shape.specs.steps.Classes.{class_in}
use Rattle.mls_shape.specs.steps.Classed.{HasClassEnds}
use Rattle.mls_shape.proofs.ClassedSchemes.{class_ends, put_together, classed_scheme, classed_minimised}
use Rattle.mls_shape.proofs.Equivalences.{minimised-equivalent, minimised-binders}
use Rattle.mls_shape.proofs.Minimising.{minimised_deterministic, minimised_distinct}
use Rattle.mls_shape.proofs.minimise.minimise.Goals as goal

pub classed_states-requires : goal.classed_states-requires
classed_states-requires c = λ k d low.
    let chosen : List ℕ = c.in_ok-classes.classes.chosen.items in
    subst (λ s. s < length c.args.s.now.automaton.states) (get_or_default chosen k 0 d low) (c.in_ok-classes.ensures.chosen k low).0

pub add_class_flows-requires : goal.add_class_flows-requires
add_class_flows-requires c =
    let s : Scheme = c.args.s.now in
    let ends : All (HasClassEnds c.in_ok-automaton.automaton (class_in c.in_ok-classes.classes.numbers.items)) s.automaton.flows =
    class_ends s.automaton c.requires.scheme.automaton c.requires.deterministic c.in_ok-classes.classes c.in_ok-classes.ensures c.in_ok-automaton.automaton c.in_ok-automaton.ensures.states in
    subst (λ (numbers : List ℕ). All (HasClassEnds c.in_ok-automaton.automaton (class_in numbers)) c.flows.result.now) (sym c.as_slice-numbers.ensures.value)
    (subst (All (HasClassEnds c.in_ok-automaton.automaton (class_in c.in_ok-classes.classes.numbers.items))) (sym c.flows.ensures.flows) ends)

pub returns-clause-form : goal.returns-clause-form
returns-clause-form c =
    let s : Scheme = c.args.s.now in
    let m : Scheme = record { automaton = c.add_class_flows.new.d; env = c.in_ok-env.env; root = record { 0 = c.class_of-root.result } } in
    classed_minimised s m c.requires.scheme c.requires.deterministic
    (put_together s m c.in_ok-classes.classes c.in_ok-classes.ensures c.in_ok-automaton.automaton c.in_ok-automaton.ensures.states c.in_ok-automaton.ensures.flows
    c.as_slice-numbers.result.now c.flows.result.now c.as_slice-numbers.ensures.value c.flows.ensures.flows c.in_ok-add_class_flows.ensures c.in_ok-env.ensures c.class_of-root.ensures)

pub returns-clause-scheme : goal.returns-clause-scheme
returns-clause-scheme c =
    let s : Scheme = c.args.s.now in
    let m : Scheme = record { automaton = c.add_class_flows.new.d; env = c.in_ok-env.env; root = record { 0 = c.class_of-root.result } } in
    classed_scheme s m c.requires.scheme c.requires.deterministic
    (put_together s m c.in_ok-classes.classes c.in_ok-classes.ensures c.in_ok-automaton.automaton c.in_ok-automaton.ensures.states c.in_ok-automaton.ensures.flows
    c.as_slice-numbers.result.now c.flows.result.now c.as_slice-numbers.ensures.value c.flows.ensures.flows c.in_ok-add_class_flows.ensures c.in_ok-env.ensures c.class_of-root.ensures)

pub returns-clause-deterministic : goal.returns-clause-deterministic
returns-clause-deterministic c =
    minimised_deterministic c.args.s.now (record { automaton = c.add_class_flows.new.d; env = c.in_ok-env.env; root = record { 0 = c.class_of-root.result } })
    c.requires.scheme (returns-clause-scheme c) (returns-clause-form c) c.requires.deterministic

pub returns-clause-distinct : goal.returns-clause-distinct
returns-clause-distinct c =
    minimised_distinct c.args.s.now (record { automaton = c.add_class_flows.new.d; env = c.in_ok-env.env; root = record { 0 = c.class_of-root.result } })
    c.requires.scheme (returns-clause-scheme c) (returns-clause-form c)

pub returns-clause-equivalent : goal.returns-clause-equivalent
returns-clause-equivalent c =
    minimised-equivalent c.args.s.now (record { automaton = c.add_class_flows.new.d; env = c.in_ok-env.env; root = record { 0 = c.class_of-root.result } })
    c.requires.scheme (returns-clause-scheme c) (returns-clause-form c)

pub returns-clause-binders : goal.returns-clause-binders
returns-clause-binders c =
    minimised-binders c.args.s.now (record { automaton = c.add_class_flows.new.d; env = c.in_ok-env.env; root = record { 0 = c.class_of-root.result } })
    (returns-clause-form c)
