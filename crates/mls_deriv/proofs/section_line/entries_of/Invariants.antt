use Rattle.std.proofs.Common.{◌≡◌, ◌++◌, ◌*◌, drop}
use Rattle.mls_deriv.specs.inner.Guesses.{env_guess}
use Rattle.mls_deriv.proofs.section_line.entries_of.Given as goal

-- the entries so far, with those that are left
abbrev pub invariant-loop-i : goal.invariant-loop-i
invariant-loop-i l = l.entries.items ++ env_guess (drop (2 * l.i) l.numbers) ≡ env_guess l.numbers
