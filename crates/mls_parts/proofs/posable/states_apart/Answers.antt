use Rattle.std.proofs.Common.{List, take, get_or, sym, subst, rules}
use Rattle.std.proofs.lemmas.List.{take_all, take_more}
use Rattle.mls_automaton.specs.declared.scheme.EnvEntry.{EnvEntry}
use Rattle.mls_layout.specs.steps.Posable.{AreApart, Has}
use Rattle.mls_parts.proofs.PosableTypes.{apart_none, apart_more}
use Rattle.mls_parts.proofs.posable.states_apart.Goals as goal

abbrev nowhere : EnvEntry
nowhere = record { binder = 0; state = record { 0 = 0 } }

pub loop-entry-init : goal.loop-entry-init
loop-entry-init c = apart_none c.new-states.result c.new-states.ensures.empty

pub loop-entry-preserved : goal.loop-entry-preserved
loop-entry-preserved c =
    let env : List EnvEntry = c.args.env.now in
    let i = c.loop-entry.entry-index in
    let absent : Has c.loop-entry.states (get_or env i nowhere).state.0 → ⊥ = search rules in
    subst (λ (es : List EnvEntry). AreApart es c.insert.new.self) (sym (take_more env i nowhere c.loop-entry-test.true))
    (apart_more (take i env) c.loop-entry.states c.insert.new.self (get_or env i nowhere) c.loop-entry.invariant absent c.in_ok-insert.ensures.updates)

pub returns : goal.returns
returns c =
    subst (λ (es : List EnvEntry). AreApart es c.loop-entry.states) (take_all c.loop-entry.entry-index c.args.env.now c.loop-entry-test.false) c.loop-entry.invariant
