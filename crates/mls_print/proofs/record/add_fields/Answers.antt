use Rattle.std.proofs.Common.{◌≡◌, ◌∙◌, ◌<◌, ap, rules, List, Some, None, get_or, length, take, bytes_eq}
use Rattle.std.specs.Prelude.{cond}
use Rattle.mls_automaton.specs.declared.automaton.FieldSet.{FieldSet}
use Rattle.mls_automaton.specs.Heads.{set_at}
use Rattle.mls_print.specs.steps.Grouping.{grown}
use Rattle.mls_print.proofs.Grouped.{at, fields_more}
use Rattle.mls_print.proofs.record.add_fields.Goals as goal

pub loop-field-preserved : goal.loop-field-preserved
loop-field-preserved c = λ label.
    let fields : List FieldSet = c.args.fields.now in
    let f : FieldSet = c.field-item.result in
    let low : c.loop-field.field-index < length fields = search rules in
    let is : f ≡ get_or fields c.loop-field.field-index f = search rules in
    c.in_ok-add_field.ensures label
    ∙ (ap (grown (cond (bytes_eq f.label label) (Some f.set) None)) (c.loop-field.invariant label)
    ∙ (ap (λ (g : FieldSet). grown (cond (bytes_eq g.label label) (Some g.set) None) (grown (set_at (take c.loop-field.field-index fields) label) (at c.args.groups.now label))) is
    ∙ fields_more fields c.loop-field.field-index f c.requires low label (at c.args.groups.now label)))
