use Rattle.std.proofs.Common.{◌≡◌, ◌++◌, ◌*◌, drop}
use Rattle.mls_deriv.specs.inner.Guesses.{fields_guess}
use Rattle.mls_deriv.proofs.node_line.fields_of.Given as goal

-- the fields so far, with those that are left
abbrev pub invariant-loop-i : goal.invariant-loop-i
invariant-loop-i l = l.fields ++ fields_guess (drop (2 * l.i) l.words) ≡ fields_guess (drop 2 l.words)
