use Rattle.std.proofs.Common.{ℕ, List, take, get_or, sym, subst, rules}
use Rattle.std.proofs.lemmas.List.{take_all, take_more}
use Rattle.mls_automaton.specs.declared.scheme.EnvEntry.{EnvEntry}
use Rattle.mls_layout.specs.steps.Walking.{AreStatesOf}
use Rattle.mls_layout.proofs.MetPairs.{states_none, states_more, earlier_below}
use Rattle.mls_layout.proofs.walk.states_of.Goals as goal

abbrev nowhere : EnvEntry
nowhere = record { binder = 0; state = record { 0 = 0 } }

pub loop-entry-init : goal.loop-entry-init
loop-entry-init c = states_none c.new-states.result (search rules)

pub loop-entry-preserved : goal.loop-entry-preserved
loop-entry-preserved c =
    let env : List EnvEntry = c.args.env.now in
    let i : ℕ = c.loop-entry.entry-index in
    subst (λ (es : List EnvEntry). AreStatesOf es c.insert.new.self) (sym (take_more env i nowhere c.loop-entry-test.true))
    (states_more (take i env) (get_or env i nowhere) c.loop-entry.states c.insert.new.self c.loop-entry.invariant (earlier_below env c.requires i nowhere c.loop-entry-test.true) c.in_ok-insert.ensures.updates)

pub returns : goal.returns
returns c = subst (λ (es : List EnvEntry). AreStatesOf es c.loop-entry.states) (take_all c.loop-entry.entry-index c.args.env.now c.loop-entry-test.false) c.loop-entry.invariant
