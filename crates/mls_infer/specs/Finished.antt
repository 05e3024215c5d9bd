-- The schemes of finished parts.
use Rattle.std.specs.Prelude.{◌≡◌, ℕ, List, [], ◌∷◌, slice_get, Option, Some}
use Rattle.mls_automaton.specs.declared.scheme.Scheme.{Scheme}
use Rattle.mls_term.specs.declared.term.Part.{Part}

-- The schemes of finished parts, each under the number of its root, until the node above takes it.
abbrev pub Finished : Type 0
Finished = List (Option Scheme)

-- the scheme of the part with this root is there
abbrev pub Has : Finished → ℕ → Scheme → Type 0
Has done i s = slice_get done i ≡ Some (Some s)

abbrev pub HasEach : Finished → List ℕ → List Scheme → Type 0
HasEach done [] [] = Unit {0}
HasEach done (i ∷ is) (s ∷ ss) = Has done i s × HasEach done is ss
HasEach done _ _ = ⊥

-- the root of a part of a record
abbrev pub child_of : Part → ℕ
child_of part = part.child
