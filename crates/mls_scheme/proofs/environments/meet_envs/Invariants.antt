use Rattle.std.proofs.Common.{◌≡◌, ◌+◌, ◌-◌, length}
use Rattle.mls_scheme.specs.steps.Environments.{IsMeeting}
use Rattle.mls_scheme.proofs.environments.meet_envs.Given as goal

-- the entries so far
abbrev pub invariant-loop-i : goal.invariant-loop-i
invariant-loop-i l =
    IsMeeting l.first l.second l.i l.j l.start l.met.env l.met.shared.items × (l.met.start ≡ l.start)

abbrev pub decreases-loop-i : goal.decreases-loop-i
decreases-loop-i l = (length l.first + length l.second) - (l.i + l.j)
