use Rattle.std.proofs.Common.{◌≡◌, ℕ, ◌<◌, length, get_or, take, false}
use Rattle.mls_typenodes.specs.ReadPlaces.{is_in}
use Rattle.mls_typenodes.proofs.read_places.marks_of.Given as goal

-- those among the numbers so far
abbrev pub invariant-loop-number : goal.invariant-loop-number
invariant-loop-number l =
    (length l.marks.items ≡ l.count) × ((q : ℕ) → q < l.count → get_or l.marks.items q false ≡ is_in (take l.number-index l.numbers) q)
