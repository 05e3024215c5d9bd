use Rattle.mls_layout.specs.LaidOut.{place_of}
use Rattle.mls_layout.specs.steps.Planned.{Extends}
use Rattle.mls_layout.specs.steps.Owned.{AddsStates}
use Rattle.mls_layout.proofs.layout.owned.push_own.Given as goal

-- the nodes of the first states
abbrev pub invariant-loop-s : goal.invariant-loop-s
invariant-loop-s l = record {
  extends : Extends l.fn.trees l.trees;
  adds : AddsStates l.trees (place_of l.places) l.a l.s l.fn.book l.book;
}
