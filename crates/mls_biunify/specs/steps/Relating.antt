-- What holds of the parts of a relation that grows.
use Rattle.std.specs.Prelude.{◌↔◌, ℕ, List, [], length, Contains}
use Rattle.mls_solver.specs.Rooms.{Room}
use Rattle.mls_biunify.specs.steps.TwoWay.{TwoWay, HasPair}
use Rattle.mls_biunify.specs.declared.relation.Relation.TheInside.{Inside}

-- the index has just the pairs of the list
abbrev pub IsIndexOf : List (ℕ × ℕ) → TwoWay → Type 0
IsIndexOf pairs index = (p n : ℕ) → HasPair index p n ↔ Contains pairs (p, n)

abbrev pub IsRelation : Inside → Type 0
IsRelation a = IsIndexOf a.pairs.items a.index

-- A relation is seen as a room without rows and columns, for numbers below a limit that rises.
abbrev pub relation_view : Inside → Room
relation_view a = record {
  positives = length a.index.forward;
  negatives = length a.index.forward;
  rows = [];
  columns = [];
  pairs = a.pairs.items;
}
