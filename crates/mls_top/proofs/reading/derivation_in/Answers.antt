use Rattle.std.proofs.Common.{refl, subst}
use Rattle.mls_deriv.specs.BadLines.{IsDerivFault}
use Rattle.mls_top.specs.Refusals.{bad_line}
use Rattle.mls_top.proofs.reading.derivation_in.Goals as goal

pub returns-in_ok-bad_line_text-in-Err-BadLine-clause-refused : goal.returns-in_ok-bad_line_text-in-Err-BadLine-clause-refused
returns-in_ok-bad_line_text-in-Err-BadLine-clause-refused c = (
  bad_line c.args.file.now c.in-Err-BadLine.line,
  record { status = refl; text = c.in_ok-bad_line_text-in-Err-BadLine.ensures },
  (c.in-Err-BadLine.line, subst (IsDerivFault c.args.text.now) c.in-Err-BadLine.field-0-is c.in-Err-BadLine.ensures.bad, refl),
)
