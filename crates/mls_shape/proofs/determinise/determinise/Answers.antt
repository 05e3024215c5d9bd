use Rattle.std.proofs.Common.{List, subst}
use Rattle.mls_automaton.specs.declared.scheme.Scheme.{Scheme}
use Rattle.mls_shape.specs.declared.register.SetState.{SetState}
use Rattle.mls_shape.specs.steps.Built.{IsBuilt}
use Rattle.mls_shape.specs.steps.Edges.{AddsFlows, IsEdge}
use Rattle.mls_shape.specs.steps.Registers.{sets_in}
use Rattle.mls_shape.proofs.Built.{numbered_root, first_sets, built_scheme, built_determinised}
use Rattle.mls_shape.proofs.Equivalences.{determinised-equivalent, determinised-binders}
use Rattle.mls_shape.proofs.determinise.determinise.Goals as goal

pub states_of-requires-clause-sets : goal.states_of-requires-clause-sets
states_of-requires-clause-sets c =
    let s : Scheme = c.args.s.now in
    let root = numbered_root s.root.0 c.in_ok-root.root c.in_ok-first.first (sets_in c.new-register.result) (sets_in c.number_of.new.self) c.new-register.ensures.sets c.in_ok-first.ensures c.in_ok-root.ensures.number in
    first_sets s c.requires c.in_ok-env.ensures.rises c.in_ok-root.root (sets_in c.number_of.new.self) (sets_in c.numbered_env.new.register) c.in_ok-env.env root c.in_ok-env.ensures.env

pub returns-clause-form : goal.returns-clause-form
returns-clause-form c =
    let s : Scheme = c.args.s.now in
    let d : Scheme = record { automaton = c.add_flows.new.d; env = c.in_ok-env.env; root = record { 0 = c.in_ok-root.root } } in
    let it : IsBuilt s d = record {
      register = c.states_of.new.register;
      is = c.in_ok-automaton.ensures.register;
      of_root = sets_in c.number_of.new.self;
      of_binders = sets_in c.numbered_env.new.register;
      without_flows = c.in_ok-automaton.automaton;
      rises = c.in_ok-env.ensures.rises;
      root = numbered_root s.root.0 c.in_ok-root.root c.in_ok-first.first (sets_in c.new-register.result) (sets_in c.number_of.new.self) c.new-register.ensures.sets c.in_ok-first.ensures c.in_ok-root.ensures.number;
      env = c.in_ok-env.ensures.env;
      states = c.in_ok-automaton.ensures.states;
      flows = subst (λ (sets : List SetState). AddsFlows c.in_ok-automaton.automaton c.add_flows.new.d (IsEdge s.automaton sets)) c.as_slice.ensures.value c.in_ok-add_flows.ensures;
    } in
    built_determinised s d c.requires it

pub returns-clause-scheme : goal.returns-clause-scheme
returns-clause-scheme c =
    let s : Scheme = c.args.s.now in
    let d : Scheme = record { automaton = c.add_flows.new.d; env = c.in_ok-env.env; root = record { 0 = c.in_ok-root.root } } in
    let it : IsBuilt s d = record {
      register = c.states_of.new.register;
      is = c.in_ok-automaton.ensures.register;
      of_root = sets_in c.number_of.new.self;
      of_binders = sets_in c.numbered_env.new.register;
      without_flows = c.in_ok-automaton.automaton;
      rises = c.in_ok-env.ensures.rises;
      root = numbered_root s.root.0 c.in_ok-root.root c.in_ok-first.first (sets_in c.new-register.result) (sets_in c.number_of.new.self) c.new-register.ensures.sets c.in_ok-first.ensures c.in_ok-root.ensures.number;
      env = c.in_ok-env.ensures.env;
      states = c.in_ok-automaton.ensures.states;
      flows = subst (λ (sets : List SetState). AddsFlows c.in_ok-automaton.automaton c.add_flows.new.d (IsEdge s.automaton sets)) c.as_slice.ensures.value c.in_ok-add_flows.ensures;
    } in
    built_scheme s d c.requires it

pub returns-clause-deterministic : goal.returns-clause-deterministic
returns-clause-deterministic c = (returns-clause-form c).deterministic

pub returns-clause-equivalent : goal.returns-clause-equivalent
returns-clause-equivalent c =
    determinised-equivalent c.args.s.now (record { automaton = c.add_flows.new.d; env = c.in_ok-env.env; root = record { 0 = c.in_ok-root.root } })
    c.requires (returns-clause-scheme c) (returns-clause-form c)

pub returns-clause-binders : goal.returns-clause-binders
returns-clause-binders c =
    determinised-binders c.args.s.now (record { automaton = c.add_flows.new.d; env = c.in_ok-env.env; root = record { 0 = c.in_ok-root.root } })
    (returns-clause-form c)
