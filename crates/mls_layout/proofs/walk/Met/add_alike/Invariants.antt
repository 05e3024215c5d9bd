use Rattle.std.proofs.Common.{take}
use Rattle.mls_layout.specs.steps.Walking.{IsAlikeIn, IsMarked, Meets}
use Rattle.mls_layout.proofs.walk.Met.add_alike.Given as goal

-- the pairs so far that are alike
abbrev pub invariant-loop-pair : goal.invariant-loop-pair
invariant-loop-pair l = record {
  marked : IsMarked l.self.marked l.self.pairs;
  meets : Meets (IsAlikeIn l.general l.special (take l.pair-index l.pairs)) l.initial.self.pairs l.self.pairs;
}
