use Rattle.std.proofs.Common.{◌≡◌, List, sym, subst, rules, Option, Some}
use Rattle.std.specs.Prelude.{OnOk}
use Rattle.mls_automaton.specs.declared.automaton.FieldSet.{FieldSet}
use Rattle.mls_layout.specs.Walks.{IsOfFields, IsOfRecords}
use Rattle.mls_layout.specs.steps.Walking.{Lists}
use Rattle.mls_layout.proofs.walk.push_records.Goals as goal

pub returns-in-Some-special : goal.returns-in-Some-special
returns-in-Some-special c =
    let one : c.args.general.now ≡ Some c.in-Some.fields = search rules in
    let two : c.args.special.now ≡ Some c.in-Some-special.others = search rules in
    subst (λ (o : Option (List FieldSet)). OnOk c.push_fields.result (Lists (IsOfRecords o c.args.special.now) c.args.into.now c.push_fields.new.into)) (sym one)
    (subst (λ (o : Option (List FieldSet)). OnOk c.push_fields.result (Lists (IsOfRecords (Some c.in-Some.fields) o) c.args.into.now c.push_fields.new.into)) (sym two)
    (subst (λ (others : List FieldSet). OnOk c.push_fields.result (Lists (IsOfFields c.in-Some.fields others) c.args.into.now c.push_fields.new.into)) c.as_slice.ensures c.push_fields.ensures))
