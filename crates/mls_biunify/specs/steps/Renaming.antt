-- Which numbers states get.
use Rattle.std.specs.Prelude.{ℕ, suc, cond, nat_lt, List, [], ◌∷◌}
use Rattle.mls_biunify.specs.Live.{number_of}
use Rattle.mls_biunify.specs.declared.rename.Numbers.{Numbers}
use Rattle.mls_biunify.specs.declared.rename.Numbers.TheVariants.{At, PlaceIn}

-- how many numbers at the front of the list are below this one
abbrev pub place_among : List ℕ → ℕ → ℕ
place_among [] s = 0
place_among (x ∷ rest) s = cond (nat_lt x s) (suc (place_among rest s)) 0

abbrev pub list_in : Numbers → List ℕ
list_in (At numbers) = numbers.now
list_in (PlaceIn numbers) = numbers.now

abbrev pub number_by : Numbers → ℕ → ℕ
number_by (At numbers) s = number_of numbers.now s
number_by (PlaceIn numbers) s = place_among numbers.now s
