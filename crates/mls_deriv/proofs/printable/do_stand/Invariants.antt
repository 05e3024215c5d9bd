use Rattle.std.proofs.Common.{take}
use Rattle.mls_deriv.specs.Texts.{none_given, AllStand}
use Rattle.mls_deriv.specs.BadLines.{given_by}
use Rattle.mls_deriv.specs.inner.GivenLines.{IsGiven}
use Rattle.mls_deriv.proofs.printable.do_stand.Given as goal

-- the lines so far stand, and they gave what is noted
abbrev pub invariant-loop-line : goal.invariant-loop-line
invariant-loop-line l = record {
  stand : AllStand l.nodes none_given (take l.line-index l.lines);
  given : IsGiven (given_by none_given (take l.line-index l.lines)) l.given;
}
