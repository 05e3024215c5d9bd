use Rattle.std.proofs.Common.{◌↔◌, drop}
use Rattle.mls_deriv.specs.inner.Rules.{AreShown}
use Rattle.mls_deriv.specs.inner.Tables.{Holds, put_in}
use Rattle.mls_deriv.proofs.sub.are_shown.Given as goal

-- all lines are shown exactly if those that are left are
abbrev pub invariant-loop-line : goal.invariant-loop-line
invariant-loop-line l = AreShown l.book (put_in l.table) (Holds l.table) (drop l.line-index l.lines) ↔ AreShown l.book (put_in l.table) (Holds l.table) l.lines
