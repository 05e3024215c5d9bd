-- The pairs and the nodes of variables that follow a step, as they are looked up.
use Rattle.std.specs.Prelude.{◌≡◌, ◌↔◌, ◌⊎◌, ℕ, List, Option, Some, None, IsTrue, Bool, true, false, if◌then◌else◌}
use Rattle.std.specs.Prelude.{nat_eq, not, ◌&&◌, ◌||◌}
use Rattle.std.specs.List.{list_any}
use Rattle.std.specs.BTreeMap as tree
use Rattle.std.specs.BTreeSet.{contains}
use Rattle.std.specs.Ordering.{nat_cmp, ordering_then}
use Rattle.std.specs.declared.cmp.Ordering.{Ordering}
use Rattle.mls_deriv.specs.declared.derivation.Mode.{Mode}
use Rattle.mls_deriv.specs.declared.derivation.Mode.TheVariants.{Lr, Rl, Pp}
use Rattle.mls_deriv.specs.declared.derivation.SectionLine.{SectionLine}
use Rattle.mls_deriv.specs.declared.derivation.SectionLine.TheVariants as line
use Rattle.mls_deriv.specs.declared.pair_set.PairSet.{PairSet}
use Rattle.mls_deriv.specs.declared.table.Table.{Table}
use Rattle.mls_deriv.specs.Pairs.{Claims, put_at}
use Rattle.mls_deriv.specs.Steps.{puts_of, pairs_of}

-- pairs of numbers are ordered by the first, and then by the second
abbrev pub numbers_cmp : ℕ × ℕ → ℕ × ℕ → Ordering
numbers_cmp x y = ordering_then (nat_cmp x.0 y.0) (nat_cmp x.1 y.1)

-- the pair is this one, or another one
abbrev pub is_pair : ℕ → ℕ → ℕ × ℕ → Bool
is_pair i j p = nat_eq p.0 i && nat_eq p.1 j

abbrev pub is_other : ℕ → ℕ → ℕ × ℕ → Bool
is_other i j p = not (nat_eq p.0 i) || not (nat_eq p.1 j)

-- a set has a pair in one of its two places
abbrev pub HasPair : PairSet → ℕ → ℕ → Type 0
HasPair s i j = IsTrue (list_any (is_pair i j) s.few.items || contains numbers_cmp s.others (i, j))

-- the set has what it had, and this pair
abbrev pub GetsPair : ℕ → ℕ → PairSet → PairSet → Type 0
GetsPair i j old new = (k l : ℕ) → HasPair new k l ↔ (HasPair old k l ⊎ ((i ≡ k) × (j ≡ l)))

-- the set has what it had but this pair
abbrev pub LosesPair : ℕ → ℕ → PairSet → PairSet → Type 0
LosesPair i j old new = (k l : ℕ) → HasPair new k l ↔ (HasPair old k l × ((i ≡ k) × (j ≡ l) → ⊥))

-- the pairs of a mode
abbrev pub set_of : Mode → Table → PairSet
set_of Lr t = t.lr
set_of Rl t = t.rl
set_of Pp t = t.pp

-- the table has the pair
abbrev pub Holds : Table → Mode → ℕ → ℕ → Type 0
Holds t mode i j = HasPair (set_of mode t) i j

-- the node of a variable
abbrev pub put_in : Table → ℕ → Option ℕ
put_in t x = tree.get nat_cmp t.puts x

-- the first of two that is there
abbrev pub or_else : Option ℕ → Option ℕ → Option ℕ
or_else (Some n) other = Some n
or_else None other = other

-- the table has what it had, and this pair
abbrev pub AddsPair : Mode → ℕ → ℕ → Table → Table → Type 0
AddsPair mode i j old new =
    ((m : Mode) (k l : ℕ) → Holds new m k l ↔ (Holds old m k l ⊎ ((mode ≡ m) × (i ≡ k) × (j ≡ l))))
    × ((y : ℕ) → put_in new y ≡ put_in old y)

-- the table has what it had but this pair
abbrev pub RemovesPair : Mode → ℕ → ℕ → Table → Table → Type 0
RemovesPair mode i j old new =
    ((m : Mode) (k l : ℕ) → Holds new m k l ↔ Holds old m k l × ((mode ≡ m) × (i ≡ k) × (j ≡ l) → ⊥))
    × ((y : ℕ) → put_in new y ≡ put_in old y)

-- the table has what it had, and this node for a variable that had none
abbrev pub AddsPut : ℕ → ℕ → Table → Table → Type 0
AddsPut x n old new =
    ((m : Mode) (k l : ℕ) → Holds new m k l ↔ Holds old m k l)
    × ((y : ℕ) → put_in new y ≡ or_else (put_in old y) (if nat_eq x y then Some n else None))

-- the table has what these lines and the table together have
abbrev pub IsTableWith : List SectionLine → Table → List SectionLine → Type 0
IsTableWith lines t whole =
    ((m : Mode) (k l : ℕ) → (Holds t m k l ⊎ Claims (pairs_of lines) m k l) ↔ Claims (pairs_of whole) m k l)
    × ((x : ℕ) → or_else (put_in t x) (put_at (puts_of lines) x) ≡ put_at (puts_of whole) x)

-- the table has what follows a step
abbrev pub IsTableOf : List SectionLine → Table → Type 0
IsTableOf lines t =
    ((m : Mode) (k l : ℕ) → Holds t m k l ↔ Claims (pairs_of lines) m k l)
    × ((x : ℕ) → put_in t x ≡ put_at (puts_of lines) x)

-- A line that belongs to a step is added, and another one is not.
abbrev pub Adds : SectionLine → Table → Table → Bool → Type 0
Adds (line.Let k number) old new added = (added ≡ false) × (new ≡ old)
Adds (line.Step step) old new added = (added ≡ false) × (new ≡ old)
Adds (line.Put x n) old new added = (added ≡ true) × AddsPut x n.0 old new
Adds (line.Pair mode i j) old new added = (added ≡ true) × AddsPair mode i.0 j.0 old new
