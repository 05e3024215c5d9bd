-- The first clash among some pairs of a room.
use Rattle.std.specs.Prelude.{◌≡◌, ◌⊎◌, ℕ, ◌<◌, get_or, Option, Some, None}
use Rattle.mls_automaton.specs.Automata.{Automaton}
use Rattle.mls_solver.specs.declared.goal.Clash.{Clash}
use Rattle.mls_solver.specs.Clashes.{HasNoClash, IsFirstClash, IsAtMost}
use Rattle.mls_solver.specs.Rooms.{Room}

-- the first clash of a relation, if there is one
abbrev pub IsFirstOf : Automaton → (ℕ → ℕ → Type 0) → Option Clash → Type 0
IsFirstOf a IsRelated None = HasNoClash a IsRelated
IsFirstOf a IsRelated (Some c) = IsFirstClash a IsRelated c

-- of two clashes that may be there, one that comes first
abbrev pub IsEarlier : Automaton → Option Clash → Option Clash → Option Clash → Type 0
IsEarlier a None other earlier = earlier ≡ other
IsEarlier a (Some c) None earlier = earlier ≡ Some c
IsEarlier a (Some c) (Some d) earlier = ((earlier ≡ Some c) × IsAtMost a c d) ⊎ ((earlier ≡ Some d) × IsAtMost a d c)

-- the pair stands at this place, and at a place below this one
abbrev pub IsPairAt : Room → ℕ → ℕ → ℕ → Type 0
IsPairAt room k p n = let pair : ℕ × ℕ = (p, n) in get_or room.pairs k (0, 0) ≡ pair

abbrev pub IsPairBelow : Room → ℕ → ℕ → ℕ → Type 0
IsPairBelow room i p n = (k : ℕ) × (k < i) × IsPairAt room k p n
