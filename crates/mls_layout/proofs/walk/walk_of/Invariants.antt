use Rattle.mls_layout.specs.steps.Walking.{AreMeeting, IsMarked}
use Rattle.mls_layout.proofs.walk.walk_of.Given as goal

-- what is behind the pairs so far is met
abbrev pub invariant-loop-place : goal.invariant-loop-place
invariant-loop-place l = record {
  marked : IsMarked l.met.marked l.met.pairs;
  meeting : AreMeeting l.general l.special l.met.pairs l.place;
}
