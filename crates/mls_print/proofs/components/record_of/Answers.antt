use Rattle.std.proofs.Common.{◌∙◌, ◌++◌, ◌∷◌, [], ◌==◌, ◌<◌, ◌≤◌, ap, sym, rules, length, map, codes, List}
use Rattle.std.proofs.lemmas.List.{map-append, take_all}
use Rattle.mls_print.specs.declared.row.RowField.{RowField}
use Rattle.mls_print.specs.steps.Printing.{text}
use Rattle.mls_print.specs.steps.Tables.{labelled}
use Rattle.mls_print.specs.steps.Items.{item_of, items_told, push_field}
use Rattle.mls_print.proofs.RowItems.{started, started_step, fields-over}
use Rattle.mls_print.proofs.components.record_of.Goals as goal

pub loop-i-preserved : goal.loop-i-preserved
loop-i-preserved c = λ sets around.
    let all : List RowField = c.args.fields.now in
    let one : RowField = c.index-fields-i.result in
    let low : c.loop-i.i < length all = search rules in
    c.in_ok-add_field.ensures sets around
    ∙ ((λ k. c.loop-i.invariant sets around k ++ push_field around c.args.polarity (c.loop-i.i == 0) (labelled sets (c.index-fields-i.is k)))
    ∙ ap (λ rest. text (codes "{") ∷ rest) (sym (started_step around c.args.polarity (labelled sets) all c.loop-i.i one low)))

pub returns : goal.returns
returns c = λ sets around.
    let all : List RowField = c.args.fields.now in
    let over : length all ≤ c.loop-i.i = search rules in
    ap (items_told sets around) c.in_ok-push.ensures.items
    ∙ (map-append (item_of sets around) c.loop-i.items.items _
    ∙ (ap (λ front. front ++ text (codes "}") ∷ []) (c.loop-i.invariant sets around ∙ ap (λ fields. text (codes "{") ∷ started around c.args.polarity (map (labelled sets) fields)) (take_all c.loop-i.i all over))
    ∙ ap (λ rest. text (codes "{") ∷ rest) (sym (fields-over around c.args.polarity (map (labelled sets) all)))))
