use Rattle.std.proofs.Common.{◌≤◌, List, length, sym, subst}
use Rattle.mls_book.specs.declared.book.NodeId.{NodeId}
use Rattle.mls_solver.proofs.Answered.{always_ok}
use Rattle.mls_layout.specs.declared.layout.LaidOut.{LaidOut}
use Rattle.mls_lines.specs.Writer.{Lengthens}
use Rattle.mls_lines.proofs.Lengthening.{lengthens_grown, lengthens_kept, lengthens_then}
use Rattle.mls_lines.proofs.PlainRecords.{fields_long}
use Rattle.mls_lines.proofs.writer.Writer.make.Goals as goal
use Rattle.mls_lines.proofs.writer.Writer.make.Goals.{in-true, in-false+in_ok-root-in-false}

-- there is a field, and a type, for each part
pub own_fields-requires : goal.own_fields-requires
own_fields-requires c =
    subst (λ (nodes : List NodeId). length c.args.parts.now ≤ length nodes) (sym c.as_slice.ensures) (fields_long c.in_ok-fields.ensures.0 c.args.parts.now c.in_ok-fields.fields c.in_ok-fields.ensures.2)

pub env_of_parts-requires : goal.env_of_parts-requires
env_of_parts-requires c = subst (λ (nodes : List NodeId). length c.args.parts.now ≤ length nodes) (sym c.as_slice-2.ensures) c.in_ok-own.ensures

pub parts-requires : goal.parts-requires
parts-requires c = subst (λ (nodes : List NodeId). length c.args.parts.now ≤ length nodes) (sym c.as_slice-3.ensures) c.in_ok-own.ensures

pub returns : goal.returns
returns c =
    let old : LaidOut = c.args.self.now.laid in
    let now : LaidOut = c.parts.new.self.laid in
    let last : LaidOut = c.if-eq.self.laid in
    let so_far : Lengthens old now = lengthens_kept old c.env_of_parts.new.self.laid now (lengthens_grown c.args.self.now c.env_of_parts.new.self c.in_ok-env.ensures.grows) c.in_ok-steps.ensures.laid in
    let all : Lengthens old last = elim c.if-eq.branch [
      | in-true w ↦ lengthens_kept old now last so_far (λ n. (w.self-is n).laid)
      | in-false+in_ok-root-in-false w ↦
          lengthens_kept old w.own_record.new.self.laid last (lengthens_then old now w.own_record.new.self.laid so_far w.in_ok-root-in-false.ensures) (λ n. (w.self-is n).laid)
    ] in
    always_ok c.step.result (Lengthens old last) all
