use Rattle.mls_iface.specs.steps.Comparing.{AreNumbers}
use Rattle.mls_iface.proofs.matching.numbers_of.Given as goal

-- the map has the numbers of the entries before this one
abbrev pub invariant-loop-number : goal.invariant-loop-number
invariant-loop-number l = AreNumbers l.number l.entries l.numbers
