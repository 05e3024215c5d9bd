use Rattle.mls_solver.proofs.Answered.{always_ok}
use Rattle.mls_layout.specs.declared.layout.LaidOut.{LaidOut}
use Rattle.mls_lines.specs.Writer.{Lengthens}
use Rattle.mls_lines.proofs.Lengthening.{lengthens_itself, lengthens_kept, lengthens_then}
use Rattle.mls_lines.proofs.writer.Writer.fun.Goals as goal
use Rattle.mls_lines.proofs.writer.Writer.fun.Goals.{in-Some, in-None+in_ok-domain-in-None}

pub returns : goal.returns
returns c =
    let old : LaidOut = c.args.self.now.laid in
    let first : LaidOut = c.match-node_of.self.laid in
    let last : LaidOut = c.changed.new.self.laid in
    let kept : Lengthens old c.adapted.new.self.laid = lengthens_kept old old c.adapted.new.self.laid (lengthens_itself old) c.in_ok-step.ensures.laid in
    let one : Lengthens old first = elim c.match-node_of.branch [
      | in-Some w ↦ lengthens_kept old c.adapted.new.self.laid first kept (λ n. (w.self-is n).laid)
      | in-None+in_ok-domain-in-None w ↦
          lengthens_kept old w.greatest.new.self.laid first (lengthens_then old c.adapted.new.self.laid w.greatest.new.self.laid kept w.in_ok-domain-in-None.ensures) (λ n. (w.self-is n).laid)
    ] in
    always_ok c.step.result (Lengthens old last) (lengthens_then old first last one c.in_ok-own_arrow.ensures)
