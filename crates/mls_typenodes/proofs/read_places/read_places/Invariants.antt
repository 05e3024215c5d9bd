use Rattle.std.proofs.Common.{◌≡◌, ℕ, ◌<◌, length, get_or}
use Rattle.mls_typenodes.specs.ReadPlaces.{used_place}
use Rattle.mls_typenodes.proofs.read_places.read_places.Given as goal

-- the states so far
abbrev pub invariant-loop-s : goal.invariant-loop-s
invariant-loop-s l =
    (length l.nodes ≡ l.s) × ((q : ℕ) → q < l.s → (get_or l.nodes q l.bot).0 ≡ used_place l.scheme l.bot.0 l.top.0 q)
