use Rattle.std.proofs.Common.{◌≡◌, length}
use Rattle.mls_lines.specs.Showing.{ShowTopsTo}
use Rattle.mls_lines.proofs.showing.shown_tops.Given as goal

-- the tops so far
abbrev pub invariant-loop-top : goal.invariant-loop-top
invariant-loop-top l = (l.visits.limit ≡ length l.book) × ShowTopsTo l.top l.book l.signs l.showing
