use Rattle.std.proofs.Common.{◌<◌, sym, length, get_or, rules, of_calls}
use Rattle.std.proofs.lemmas.Fn.{always_returns_same}
use Rattle.std.proofs.lemmas.List.{get_or_default}
use Rattle.mls_automaton.proofs.Labels.{label-found, label-lacking, labels-rise, place_of}
use Rattle.mls_automaton.proofs.lookup.set_of.Goals as goal

pub returns-in-Ok : goal.returns-in-Ok
returns-in-Ok c =
    let low : c.in-Ok.at < length c.args.fields.now = c.in-Ok.ensures.bound in
    let equal = c.in-Ok.ensures.position (place_of c.args.label.now) (always_returns_same _ _ _ (λ a r f k. search (rules, of_calls))) c.index-fields-at.result in
    sym (label-found c.args.fields.now c.requires c.args.label.now c.in-Ok.at (get_or c.args.fields.now c.in-Ok.at c.index-fields-at.result) low
    (sym (get_or_default c.args.fields.now c.in-Ok.at (get_or c.args.fields.now c.in-Ok.at c.index-fields-at.result) c.index-fields-at.result low)) equal)

pub returns-in-Err : goal.returns-in-Err
returns-in-Err c =
    let split =
    c.in-Err.ensures.position (place_of c.args.label.now) (always_returns_same _ _ _ (λ a r f k. search (rules, of_calls)))
    (labels-rise c.args.fields.now c.requires c.args.label.now) in
    sym (label-lacking c.args.fields.now c.requires c.args.label.now c.in-Err.field-0 split)
