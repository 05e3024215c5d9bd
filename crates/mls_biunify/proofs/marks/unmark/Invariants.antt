use Rattle.std.proofs.Common.{take}
use Rattle.mls_biunify.specs.steps.Marking.{IsUnmarked}
use Rattle.mls_biunify.proofs.marks.unmark.Given as goal

-- the marks of the numbers so far are gone
abbrev pub invariant-loop-s : goal.invariant-loop-s
invariant-loop-s l = IsUnmarked l.fn.marks.items (take l.s-index l.numbers) l.marks.items
