use Rattle.std.proofs.Common.{ℕ, List, take, get_or, sym, subst}
use Rattle.std.proofs.lemmas.List.{take_all, take_more}
use Rattle.mls_automaton.specs.declared.scheme.EnvEntry.{EnvEntry}
use Rattle.mls_layout.specs.steps.Walking.{IsOfEntries, IsOfEntry, Lists}
use Rattle.mls_layout.proofs.MetPairs.{any_none, any_more}
use Rattle.mls_layout.proofs.walk.push_ends.Goals as goal

abbrev nowhere : EnvEntry
nowhere = record { binder = 0; state = record { 0 = 0 } }

pub loop-entry-init : goal.loop-entry-init
loop-entry-init c = any_none (IsOfEntry c.args.states.now) c.args.ends.now

pub loop-entry-preserved : goal.loop-entry-preserved
loop-entry-preserved c =
    let env : List EnvEntry = c.args.env.now in
    let i : ℕ = c.loop-entry.entry-index in
    subst (λ (es : List EnvEntry). Lists (IsOfEntries c.args.states.now es) c.args.ends.now c.push_end.new.ends) (sym (take_more env i nowhere c.loop-entry-test.true))
    (any_more (IsOfEntry c.args.states.now) (take i env) (get_or env i nowhere) c.args.ends.now c.loop-entry.ends c.push_end.new.ends c.loop-entry.invariant c.in_ok-push_end.ensures)

pub returns : goal.returns
returns c =
    subst (λ (es : List EnvEntry). Lists (IsOfEntries c.args.states.now es) c.args.ends.now c.loop-entry.ends) (take_all c.loop-entry.entry-index c.args.env.now c.loop-entry-test.false) c.loop-entry.invariant
