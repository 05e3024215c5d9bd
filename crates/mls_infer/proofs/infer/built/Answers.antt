use Rattle.std.proofs.Common.{◌≡◌, rules}
use Rattle.std.proofs.lemmas.Result.{IfOk-weaker}
use Rattle.mls_term.specs.declared.term.TermForm.TheVariants as form
use Rattle.mls_infer.specs.Doing.{finished_in}
use Rattle.mls_infer.specs.Pending.{part_in}
use Rattle.mls_infer.proofs.NamedParts.{let_numbered}
use Rattle.mls_infer.proofs.infer.built.Goals as goal

pub returns-in_ok-of_number-in-Number-clause-part : goal.returns-in_ok-of_number-in-Number-clause-part
returns-in_ok-of_number-in-Number-clause-part c =
    rw c.in-Number.is
    c.in_ok-of_number-in-Number.ensures

pub returns-in_ok-of_truth-in-Truth-clause-part : goal.returns-in_ok-of_truth-in-Truth-clause-part
returns-in_ok-of_truth-in-Truth-clause-part c =
    rw c.in-Truth.is
    c.in_ok-of_truth-in-Truth.ensures

pub returns-in_ok-of_function-in-Fun-clause-part : goal.returns-in_ok-of_function-in-Fun-clause-part
returns-in_ok-of_function-in-Fun-clause-part c =
    rw c.in-Fun.is
    c.in_ok-of_function-in-Fun.ensures

pub returns-in-Rec-clause-part : goal.returns-in-Rec-clause-part
returns-in-Rec-clause-part c =
    IfOk-weaker c.of_recursion.result _ _
    (λ part built. rw c.in-Rec.is built) c.of_recursion.ensures.part

pub returns-in-Project-clause-part : goal.returns-in-Project-clause-part
returns-in-Project-clause-part c =
    IfOk-weaker c.of_projection.result _ _
    (λ part built. rw c.in-Project.is built) c.of_projection.ensures.part

pub returns-in-Apply-clause-part : goal.returns-in-Apply-clause-part
returns-in-Apply-clause-part c =
    IfOk-weaker c.of_application.result _ _
    (λ part built. rw c.in-Apply.is built) c.of_application.ensures.part

pub returns-in-If-clause-part : goal.returns-in-If-clause-part
returns-in-If-clause-part c =
    IfOk-weaker c.of_conditional.result _ _
    (λ part built. rw c.in-If.is built) c.of_conditional.ensures.part

pub returns-in_ok-of_record-in-Make-clause-part : goal.returns-in_ok-of_record-in-Make-clause-part
returns-in_ok-of_record-in-Make-clause-part c =
    let is : c.args.node.now ≡ form.Make c.as_slice.result.now = search rules in
    rw is
    c.in_ok-of_record-in-Make.ensures

pub returns-in_ok-end_let-in-Let-clause-part : goal.returns-in_ok-end_let-in-Let-clause-part
returns-in_ok-end_let-in-Let-clause-part c =
    rw c.in-Let.is
    (let_numbered 0 c.in-Let.field-0 c.in-Let.e c.in-Let.f (finished_in c.args.done.now) c.end_let.new.self.live c.end_let.new.self.nodes.items (part_in c.in_ok-end_let-in-Let.field-0) c.in_ok-end_let-in-Let.ensures)
