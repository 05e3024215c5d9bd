use Rattle.std.proofs.Common.{take}
use Rattle.mls_biunify.proofs.SettledLinks.{AreLinked}
use Rattle.mls_biunify.proofs.settlement.link_all.Given as goal

abbrev pub invariant-loop-i : goal.invariant-loop-i
invariant-loop-i l = AreLinked l.initial.table (take l.i l.edges) l.table l.added.items
