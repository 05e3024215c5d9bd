-- What holds of the parts of a table of found pairs.
use Rattle.std.specs.Prelude.{◌↔◌, ℕ}
use Rattle.mls_solver.specs.Rooms.{Room, Holds}
use Rattle.mls_solver.specs.steps.Finding.{HasMember}
use Rattle.mls_solver.specs.declared.found.Found.TheInside.{Inside}

abbrev pub found_view : Inside → Room
found_view a = a.forward

-- the sets have just the pairs, by their second states
abbrev pub IsFound : Inside → Type 0
IsFound a = (p n : ℕ) → HasMember a.above.items n p ↔ Holds a.forward p n
