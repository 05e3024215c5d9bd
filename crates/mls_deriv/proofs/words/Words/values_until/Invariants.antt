use Rattle.std.proofs.Common.{◌≡◌, ◌++◌, drop}
use Rattle.mls_deriv.specs.inner.Guesses.{values_until}
use Rattle.mls_deriv.proofs.words.Words.values_until.Given as goal

-- the numbers so far, with those that are left
abbrev pub invariant-loop-i : goal.invariant-loop-i
invariant-loop-i l = l.values ++ values_until l.stop (drop l.i l.self) ≡ values_until l.stop (drop l.first l.self)
