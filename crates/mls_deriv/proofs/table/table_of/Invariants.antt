use Rattle.std.proofs.Common.{drop}
use Rattle.mls_deriv.specs.inner.Tables.{IsTableWith}
use Rattle.mls_deriv.proofs.table.table_of.Given as goal

-- what the table has and what the lines behind give is what all lines give
abbrev pub invariant-loop-line : goal.invariant-loop-line
invariant-loop-line l = IsTableWith (drop l.line-index l.lines) l.table l.lines
