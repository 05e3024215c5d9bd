use Rattle.std.proofs.Common.{drop, ◌++◌}
use Rattle.std.specs.BTreeMap.{get}
use Rattle.std.specs.Ordering.{nat_cmp}
use Rattle.mls_deriv.specs.Sections.{at_start, schemes_of}
use Rattle.mls_deriv.specs.inner.Walks.{HasCome}
use Rattle.mls_deriv.proofs.walk.check_lines.Given as goal

-- the lines so far are allowed
abbrev pub invariant-loop-i : goal.invariant-loop-i
invariant-loop-i l = HasCome (at_start (schemes_of (l.declared ++ l.earlier)) l.binding l.section) l.section.lines (drop l.i l.section.lines) l.steps (get nat_cmp l.lets)
