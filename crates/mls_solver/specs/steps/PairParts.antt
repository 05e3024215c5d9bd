-- What holds of the parts of pairs that are found by their first states.
use Rattle.std.specs.Prelude.{◌↔◌, ℕ, [], Contains}
use Rattle.mls_solver.specs.Rooms.{Room}
use Rattle.mls_solver.specs.steps.Finding.{HasMember}
use Rattle.mls_solver.specs.declared.pairs.Pairs.TheInside.{Inside}

abbrev pub pairs_view : Inside → Room
pairs_view a = record { positives = 0; negatives = 0; rows = []; columns = []; pairs = a.list.items }

-- the sets have just the pairs of the list, by their first states
abbrev pub ArePairs : Inside → Type 0
ArePairs a = (p n : ℕ) → HasMember a.below.items p n ↔ Contains a.list.items (p, n)
