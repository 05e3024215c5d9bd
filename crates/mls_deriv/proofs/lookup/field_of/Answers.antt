use Rattle.std.proofs.Common.{◌<◌, sym, length, get_or, rules, of_calls}
use Rattle.std.proofs.lemmas.Fn.{always_returns_same}
use Rattle.std.proofs.lemmas.List.{get_or_default}
use Rattle.mls_deriv.proofs.Lookups.{label_place, labels_rise, label_found, label_lacking}
use Rattle.mls_deriv.proofs.lookup.field_of.Goals as goal

pub returns-in-Ok : goal.returns-in-Ok
returns-in-Ok c =
    let low : c.in-Ok.at < length c.args.fields.now = c.in-Ok.ensures.bound in
    let equal = c.in-Ok.ensures.position (label_place c.args.label.now) (always_returns_same _ _ _ (λ a r f k. search (rules, of_calls))) c.index-fields-at.result in
    sym (label_found c.args.fields.now c.requires c.args.label.now c.in-Ok.at (get_or c.args.fields.now c.in-Ok.at c.index-fields-at.result) low
    (sym (get_or_default c.args.fields.now c.in-Ok.at (get_or c.args.fields.now c.in-Ok.at c.index-fields-at.result) c.index-fields-at.result low)) equal)

pub returns-in-Err : goal.returns-in-Err
returns-in-Err c =
    let split = c.in-Err.ensures.position (label_place c.args.label.now) (always_returns_same _ _ _ (λ a r f k. search (rules, of_calls)))
    (labels_rise c.args.fields.now c.requires c.args.label.now) in
    sym (label_lacking c.args.fields.now c.requires c.args.label.now c.in-Err.field-0 split)
