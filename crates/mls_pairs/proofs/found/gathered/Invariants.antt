use Rattle.std.proofs.Common.{◌-◌, ◌^◌}
use Rattle.mls_deriv.specs.Pairs.{put_at}
use Rattle.mls_pairs.specs.steps.Growth.{IsGrowing}
use Rattle.mls_pairs.proofs.found.gathered.Given as goal

-- what the rules name for the pairs so far is found
abbrev pub invariant-loop-next : goal.invariant-loop-next
invariant-loop-next l = IsGrowing l.alone l.book (put_at l.puts) l.wanted l.next l.found

abbrev pub decreases-loop-next : goal.decreases-loop-next
decreases-loop-next l = 2 ^ 64 - l.next
