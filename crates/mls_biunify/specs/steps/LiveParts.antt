-- What holds of the parts of a table of states.
use Rattle.std.specs.Prelude.{Bool, cond, Some, None}
use Rattle.mls_solver.specs.Rooms.{Room}
use Rattle.mls_biunify.specs.Live.{Live}
use Rattle.mls_biunify.specs.steps.Tables.{Numbered}
use Rattle.mls_biunify.specs.declared.live.Live.TheInside.{Inside}

-- the parts as values
pub record Parts : Type 0 where
  pub table : Numbered
  pub relation : Room
  pub is_solved : Bool
  pub is_ready : Bool

abbrev pub live_of : Parts → Live
live_of t = record {
  table = t.table.automaton;
  there = t.table.there;
  related = cond t.is_solved (Some t.relation.pairs) None;
  is_ready = t.is_ready;
}

abbrev pub parts_of : Inside → Parts
parts_of a = record { table = a.table; relation = a.relation; is_solved = a.is_solved; is_ready = a.is_ready }

abbrev pub live_view : Inside → Live
live_view a = live_of (parts_of a)
