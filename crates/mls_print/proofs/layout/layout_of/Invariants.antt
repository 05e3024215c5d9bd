use Rattle.std.proofs.Common.{reverse}
use Rattle.mls_print.specs.steps.Progress.{Plan, IsPlan, IsOnPlan, IsSafe}
use Rattle.mls_print.proofs.layout.layout_of.Given as goal

abbrev pub invariant-loop : goal.invariant-loop
invariant-loop l = IsSafe l.table l.printer × ((plan : Plan) → IsPlan plan l.table → IsOnPlan plan l.table (reverse l.printer.items.items) l.printer)
