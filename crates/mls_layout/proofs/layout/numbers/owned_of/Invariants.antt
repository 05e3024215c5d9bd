use Rattle.mls_layout.specs.steps.OwnNumbers.{HasNumbers}
use Rattle.mls_layout.proofs.layout.numbers.owned_of.Given as goal

-- the numbers of the first states
abbrev pub invariant-loop-s : goal.invariant-loop-s
invariant-loop-s l = HasNumbers l.a l.start l.s l.end l.owned
