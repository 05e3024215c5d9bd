use Rattle.std.proofs.Common.{◌≡◌, get_or, take}
use Rattle.mls_solver.specs.Rooms.{Holds}
use Rattle.mls_solver.proofs.Relating.{Relates-more, Relates-all}
use Rattle.mls_solver.proofs.Searching.{column_before, to_edges}
use Rattle.mls_solver.proofs.search.add_before.Goals as goal

pub loop-m-preserved : goal.loop-m-preserved
loop-m-preserved c =
    Relates-more c.args.found.now c.loop-m.found c.add_column.new.found c.as_slice-m-items.result.now c.loop-m.m-index 0 (λ m p n. (n ≡ c.args.negative.0) × Holds c.args.found.now p m)
    c.loop-m-test.true c.loop-m.invariant
    (column_before c.args.found.now c.loop-m.found c.add_column.new.found (get_or c.as_slice-m-items.result.now c.loop-m.m-index 0) c.args.negative.0
    (take c.loop-m.m-index c.as_slice-m-items.result.now) c.loop-m.invariant c.in_ok-add_column.ensures)

pub returns : goal.returns
returns c =
    to_edges c.args.a.now c.requires.closed (Holds c.args.found.now) c.args.found.now c.loop-m.found c.args.positive.0 c.args.negative.0
    c.as_slice-m-items.result.now c.partners.result.now c.as_slice-m-items.ensures.members c.requires.positive c.partners.ensures.partners
    (Relates-all c.args.found.now c.loop-m.found c.as_slice-m-items.result.now c.loop-m.m-index (λ m p n. (n ≡ c.args.negative.0) × Holds c.args.found.now p m)
    c.loop-m-test.false c.loop-m.invariant)
