use Rattle.std.proofs.Common.{List, ℕ, ◌<◌, All, length, subst, sym}
use Rattle.mls_solver.specs.Rooms.{Holds}
use Rattle.mls_solver.proofs.Members.{members-low}
use Rattle.mls_solver.proofs.Settling.{change_any, in_polarity}
use Rattle.mls_solver.proofs.settle.change_of.Goals as goal

pub combined_head-requires-clause-in_range : goal.combined_head-requires-clause-in_range
combined_head-requires-clause-in_range c =
    subst (λ (xs : List ℕ). All (λ j. j < length c.args.a.now.states) xs) (sym c.as_slice.ensures.value)
    (members-low c.args.a.now (Holds c.args.found.now) c.requires.states c.args.s.0 c.requires.in_range c.in_ok-all.all.items c.in_ok-all.ensures.members)

pub ends_of-requires-clause-states : goal.ends_of-requires-clause-states
ends_of-requires-clause-states c = in_polarity c.args.a.now c.polarity-polarity.result c.args.s.0 c.polarity-polarity.ensures c.in_ok-all.all.items c.as_slice-2.result.now c.as_slice-2.ensures.value c.in_ok-all.ensures.states

pub returns-clause-change : goal.returns-clause-change
returns-clause-change c =
    change_any c.args.a.now (Holds c.args.found.now) c.requires.closed c.requires.states c.args.s.0 c.requires.in_range c.polarity-polarity.result c.polarity-polarity.ensures
    c.in_ok-all.all.items c.in_ok-all.ensures.members c.as_slice.result.now c.as_slice.ensures.value c.as_slice-2.result.now c.as_slice-2.ensures.value
    c.in_ok-head.head c.in_ok-head.ensures.parts c.in_ok-head.ensures.labels c.in_ok-ends.ends c.in_ok-ends.ensures.positive c.in_ok-ends.ensures.negative
