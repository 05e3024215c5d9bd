-- How pairs are taken out of a table, one after another.
use Rattle.std.specs.Prelude.{◌≡◌, Bool, true, false, List, Contains}
use Rattle.mls_book.specs.declared.book.Node.{Node}
use Rattle.mls_deriv.specs.declared.claim.Pair.{Pair}
use Rattle.mls_deriv.specs.declared.table.Table.{Table}
use Rattle.mls_deriv.specs.inner.Tables.{Holds, RemovesPair}
use Rattle.mls_pairs.specs.steps.Rounds.{IsShownBy}

-- the table has the pair
abbrev pub IsHeldBy : Table → Pair → Type 0
IsHeldBy table pair = Holds table pair.mode pair.left pair.right

-- pairs were taken out, each when the table did not show it
pub data Deletes (book : List Node) : Table → Table → Type 0 where
  nothing : {table : Table} → Deletes book table table
  one_more : {old mid new : Table} (pair : Pair) → Deletes book old mid → (IsShownBy book mid pair → ⊥)
      → RemovesPair pair.mode pair.left pair.right mid new → Deletes book old new

-- Those of these pairs were taken out that the table did not show when they were looked at. Either one of them is gone, or
-- the table is as it was and shows each of them that it has.
pub record Sweeps (book : List Node) (pairs : List Pair) (old new : Table) (is_less : Bool) : Type 0 where
  pub deletes : Deletes book old new
  pub some : is_less ≡ true → (pair : Pair) × Contains pairs pair × (IsHeldBy new pair → ⊥)
  pub same : is_less ≡ false → new ≡ old
  pub shown : is_less ≡ false → (pair : Pair) → Contains pairs pair → IsHeldBy new pair → IsShownBy book new pair
