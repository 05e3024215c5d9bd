use Rattle.std.proofs.Common.{◌∙◌, Bool, List, subst, refl}
use Rattle.mls_automaton.specs.steps.Numbers.{number_in}
use Rattle.mls_automaton.specs.steps.Keeping.{AreKept}
use Rattle.mls_automaton.proofs.Kept.{kept_equivalent}
use Rattle.mls_automaton.proofs.KeptSchemes.{ends-of, flows-of, kept-states, kept-ends, kept-scheme, keeps-reached}
use Rattle.mls_automaton.proofs.scheme.Scheme.keep_reachable.Goals as goal

pub keep_states-requires : goal.keep_states-requires
keep_states-requires c =
    let places = c.in_ok-kept.kept.places.items in
    let number = number_in c.in_ok-kept.kept.numbers in
    let are : AreKept c.in_ok-marks.marks.items places number = subst (λ (ms : List Bool). AreKept ms places number) c.as_slice.ensures.value c.in_ok-kept.ensures in
    kept-states c.args.self.now c.in_ok-marks.marks.items places number c.requires c.in_ok-marks.ensures are

pub keep_flows-requires-clause-ends : goal.keep_flows-requires-clause-ends
keep_flows-requires-clause-ends c =
    let places = c.in_ok-kept.kept.places.items in
    let number = number_in c.in_ok-kept.kept.numbers in
    let are : AreKept c.in_ok-marks.marks.items places number = subst (λ (ms : List Bool). AreKept ms places number) c.as_slice.ensures.value c.in_ok-kept.ensures in
    ends-of c.in_ok-marks.marks.items c.as_slice-2.result.now number c.in_ok-automaton.automaton c.args.self.now.automaton.flows c.flows-flows.result.now c.as_slice-2.ensures.value c.flows-flows.ensures.flows
    (λ f it. kept-ends c.args.self.now c.in_ok-marks.marks.items places number c.requires c.in_ok-marks.ensures are c.in_ok-automaton.automaton c.in_ok-automaton.ensures.states f it)

pub returns-clause-scheme : goal.returns-clause-scheme
returns-clause-scheme c =
    let places = c.in_ok-kept.kept.places.items in
    let number = number_in c.in_ok-kept.kept.numbers in
    let are : AreKept c.in_ok-marks.marks.items places number = subst (λ (ms : List Bool). AreKept ms places number) c.as_slice.ensures.value c.in_ok-kept.ensures in
    kept-scheme c.args.self.now c.in_ok-marks.marks.items places number c.requires c.in_ok-marks.ensures are c.keep_flows.new.into (c.in_ok-keep_flows.ensures.states ∙ c.in_ok-automaton.ensures.states)
    (flows-of c.in_ok-marks.marks.items c.as_slice-2.result.now number c.keep_flows.new.into c.args.self.now.automaton.flows c.flows-flows.result.now c.as_slice-2.ensures.value c.flows-flows.ensures.flows c.in_ok-keep_flows.ensures.flows)
    (record { automaton = c.keep_flows.new.into; env = c.in_ok-env.env; root = record { 0 = c.in_ok-root.root } }) refl c.in_ok-env.ensures c.in_ok-root.ensures

pub returns-clause-kept : goal.returns-clause-kept
returns-clause-kept c =
    let places = c.in_ok-kept.kept.places.items in
    let number = number_in c.in_ok-kept.kept.numbers in
    let are : AreKept c.in_ok-marks.marks.items places number = subst (λ (ms : List Bool). AreKept ms places number) c.as_slice.ensures.value c.in_ok-kept.ensures in
    keeps-reached c.args.self.now c.in_ok-marks.marks.items places number c.requires c.in_ok-marks.ensures are c.keep_flows.new.into (c.in_ok-keep_flows.ensures.states ∙ c.in_ok-automaton.ensures.states)
    (flows-of c.in_ok-marks.marks.items c.as_slice-2.result.now number c.keep_flows.new.into c.args.self.now.automaton.flows c.flows-flows.result.now c.as_slice-2.ensures.value c.flows-flows.ensures.flows c.in_ok-keep_flows.ensures.flows)
    (record { automaton = c.keep_flows.new.into; env = c.in_ok-env.env; root = record { 0 = c.in_ok-root.root } }) refl c.in_ok-env.ensures c.in_ok-root.ensures

pub returns-clause-equivalent : goal.returns-clause-equivalent
returns-clause-equivalent c = λ old new is-old is-new.
    let both = kept_equivalent (record { automaton = c.keep_flows.new.into; env = c.in_ok-env.env; root = record { 0 = c.in_ok-root.root } }) c.args.self.now new old (returns-clause-scheme c) c.requires is-new is-old (returns-clause-kept c) in
    (both.1, both.0)
