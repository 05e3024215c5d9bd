use Rattle.std.proofs.Common.{◌≡◌, ◌+◌, ◌++◌, ◌∷◌, [], List, take, get_or, sym, subst, rules, Some}
use Rattle.std.proofs.lemmas.List.{take_all, take_more}
use Rattle.mls_book.specs.declared.book.NodeId.{NodeId}
use Rattle.mls_book.specs.Books.{field_at}
use Rattle.mls_term.specs.declared.term.Part.{Part}
use Rattle.mls_lines.specs.PlainRecords.{AreFieldsOf}
use Rattle.mls_lines.proofs.PlainRecords.{fields_more}
use Rattle.mls_lines.proofs.writer.records.fields_at.Goals as goal

pub loop-part-preserved : goal.loop-part-preserved
loop-part-preserved c =
    let part : Part = c.part-item.result in
    let found : field_at part.label c.args.fields.now ≡ Some c.in_ok-ok_or.field-0 = search rules in
    subst (λ (nodes : List NodeId). AreFieldsOf c.args.fields.now (take (c.loop-part.part-index + 1) c.args.parts.now) nodes) (sym c.in_ok-push.ensures.ok)
    (subst (λ (parts : List Part). AreFieldsOf c.args.fields.now parts (c.loop-part.nodes ++ c.in_ok-ok_or.field-0 ∷ [])) (sym (take_more c.args.parts.now c.loop-part.part-index part c.loop-part-test.true))
    (fields_more c.args.fields.now (take c.loop-part.part-index c.args.parts.now) c.loop-part.nodes (get_or c.args.parts.now c.loop-part.part-index part) c.in_ok-ok_or.field-0 c.loop-part.invariant
    (subst (λ (one : Part). field_at one.label c.args.fields.now ≡ Some c.in_ok-ok_or.field-0) c.part-item.is found)))

pub returns : goal.returns
returns c = subst (λ (parts : List Part). AreFieldsOf c.args.fields.now parts c.loop-part.nodes) (take_all c.loop-part.part-index c.args.parts.now c.loop-part-test.false) c.loop-part.invariant
