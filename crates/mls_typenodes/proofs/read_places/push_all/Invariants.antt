use Rattle.std.proofs.Common.{◌≡◌, ◌++◌, take}
use Rattle.mls_typenodes.proofs.read_places.push_all.Given as goal

-- the numbers so far
abbrev pub invariant-loop-number : goal.invariant-loop-number
invariant-loop-number l = l.into ≡ l.fn.into ++ take l.number-index l.numbers
