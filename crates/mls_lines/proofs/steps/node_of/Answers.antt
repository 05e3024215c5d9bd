use Rattle.std.proofs.Common.{◌∙◌, ◌<◌, sym, length, get_or, rules, of_calls}
use Rattle.std.proofs.lemmas.Fn.{always_returns_same}
use Rattle.std.proofs.lemmas.List.{get_or_default}
use Rattle.mls_deriv.proofs.Lookups.{binder_place, binders_rise, binder_found, binder_lacking}
use Rattle.mls_deriv.proofs.StepEnvironments.{env_get}
use Rattle.mls_lines.proofs.steps.node_of.Goals as goal

pub returns-in-Ok : goal.returns-in-Ok
returns-in-Ok c = λ rising.
    let low : c.in-Ok.at < length c.args.env.now = c.in-Ok.ensures.bound in
    let entry = get_or c.args.env.now c.in-Ok.at (record { binder = 0; node = record { 0 = 0 } }) in
    let equal = c.in-Ok.ensures.position (binder_place c.args.binder) (always_returns_same _ _ _ (λ a r f k. search (rules, of_calls))) (record { binder = 0; node = record { 0 = 0 } }) in
    sym (env_get c.args.env.now c.args.binder
    ∙ binder_found c.args.env.now rising c.args.binder c.in-Ok.at entry low (sym (get_or_default c.args.env.now c.in-Ok.at entry (record { binder = 0; node = record { 0 = 0 } }) low)) equal)

pub returns-in-Err : goal.returns-in-Err
returns-in-Err c = λ rising.
    let split = c.in-Err.ensures.position (binder_place c.args.binder) (always_returns_same _ _ _ (λ a r f k. search (rules, of_calls)))
    (binders_rise c.args.env.now rising c.args.binder) in
    sym (env_get c.args.env.now c.args.binder ∙ binder_lacking c.args.env.now rising c.args.binder c.in-Err.field-0 split)
