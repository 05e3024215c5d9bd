use Rattle.std.proofs.Common.{◌∙◌, List, take, get_or, sym, ap}
use Rattle.std.specs.BTreeMap.{get}
use Rattle.std.specs.Ordering.{nat_cmp}
use Rattle.std.proofs.lemmas.List.{take_more}
use Rattle.mls_automaton.specs.declared.scheme.EnvEntry.{EnvEntry}
use Rattle.mls_parts.specs.steps.MetBinders.{met_env, met_named}
use Rattle.mls_parts.proofs.PartBinders.{met_env-push}
use Rattle.mls_parts.proofs.binders.meet_env.Goals as goal

pub loop-entry-preserved : goal.loop-entry-preserved
loop-entry-preserved c y =
    let env : List EnvEntry = c.args.env.now in
    let i = c.loop-entry.entry-index in
    let entry : EnvEntry = get_or env i (record { binder = 0; state = record { 0 = 0 } }) in
    c.in_ok-meet_named.ensures y ∙ ap (met_named y entry.binder) (c.loop-entry.invariant y)
    ∙ sym (met_env-push y (take i env) entry (get nat_cmp c.args.met.now y))
    ∙ ap (λ (es : List EnvEntry). met_env y es (get nat_cmp c.args.met.now y)) (sym (take_more env i (record { binder = 0; state = record { 0 = 0 } }) c.loop-entry-test.true))
