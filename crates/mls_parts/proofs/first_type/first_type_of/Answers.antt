use Rattle.std.proofs.Common.{◌∙◌, List, subst, sym}
use Rattle.std.specs.Prelude.{IsSome}
use Rattle.mls_automaton.specs.declared.scheme.EnvEntry.{EnvEntry}
use Rattle.mls_automaton.specs.declared.scheme.Scheme.{Scheme}
use Rattle.mls_automaton.specs.Automata.{Automaton}
use Rattle.mls_automaton.specs.Schemes.{AreEquivalentSchemes, state_of}
use Rattle.mls_parts.specs.SolvedTypes.{solved_scheme}
use Rattle.mls_parts.proofs.OwnStates.{equivalent_subsumes, subsumes_equivalent}
use Rattle.mls_parts.proofs.first_type.first_type_of.Goals as goal

pub returns-clause-binders : goal.returns-clause-binders
returns-clause-binders c x some =
    let own : IsSome (state_of c.in_ok-simple.simple.env x) = c.in_ok-own.ensures.binders x some in
    subst (λ (env : List EnvEntry). IsSome (state_of env x)) c.in_ok-env_of.ensures (c.in_ok-simple.ensures.binders x ∙ own)

pub returns-clause-subsumes : goal.returns-clause-subsumes
returns-clause-subsumes c =
    let simple : Scheme = c.in_ok-simple.simple in
    let over : Automaton → List EnvEntry → Scheme = λ a env. record { automaton = a; env = env; root = record { 0 = c.args.root } } in
    let same : AreEquivalentSchemes (solved_scheme c.args.solved.now c.args.root c.args.binders.now) simple =
    subst (λ (env : List EnvEntry). AreEquivalentSchemes (over c.args.solved.now env) simple) c.in_ok-env_of.ensures
    (subst (λ (a : Automaton). AreEquivalentSchemes (over a c.in_ok-env_of.field-0) simple) c.in_ok-copy.ensures c.in_ok-simple.ensures.equivalent) in
    subsumes_equivalent c.in_ok-own.own simple (solved_scheme c.args.solved.now c.args.root c.args.binders.now) c.in_ok-simple.ensures.scheme c.in_ok-own.ensures.subsumes same

pub returns-clause-all : goal.returns-clause-all
returns-clause-all c x some =
    let given : IsSome (state_of c.in_ok-env_of.field-0 x) = subst (λ (env : List EnvEntry). IsSome (state_of env x)) (sym c.in_ok-env_of.ensures) some in
    c.in_ok-own.ensures.all x (sym (c.in_ok-simple.ensures.binders x) ∙ given)

pub returns-clause-deterministic : goal.returns-clause-deterministic
returns-clause-deterministic c = c.in_ok-own.ensures.deterministic c.in_ok-simple.ensures.simplified.deterministic

pub returns-clause-subsumed : goal.returns-clause-subsumed
returns-clause-subsumed c =
    let simple : Scheme = c.in_ok-simple.simple in
    let over : Automaton → List EnvEntry → Scheme = λ a env. record { automaton = a; env = env; root = record { 0 = c.args.root } } in
    let same : AreEquivalentSchemes (solved_scheme c.args.solved.now c.args.root c.args.binders.now) simple =
    subst (λ (env : List EnvEntry). AreEquivalentSchemes (over c.args.solved.now env) simple) c.in_ok-env_of.ensures
    (subst (λ (a : Automaton). AreEquivalentSchemes (over a c.in_ok-env_of.field-0) simple) c.in_ok-copy.ensures c.in_ok-simple.ensures.equivalent) in
    equivalent_subsumes c.in_ok-own.own simple (solved_scheme c.args.solved.now c.args.root c.args.binders.now) c.in_ok-simple.ensures.scheme c.in_ok-own.ensures.subsumed same
