use Rattle.std.proofs.Common.{◌≡◌, get_or}
use Rattle.mls_solver.specs.Rooms.{Holds}
use Rattle.mls_solver.proofs.Relating.{Relates-more, Relates-all}
use Rattle.mls_solver.proofs.Searching.{from_edges, row_to}
use Rattle.mls_solver.proofs.search.add_after.Goals as goal

pub loop-q-preserved : goal.loop-q-preserved
loop-q-preserved c =
    Relates-more c.args.found.now c.loop-q.found c.relate_to_all.new.found c.as_slice-q-items.result.now c.loop-q.q-index 0 (λ q p n. (p ≡ c.args.positive.0) × Holds c.args.direct.now q n)
    c.loop-q-test.true c.loop-q.invariant
    (row_to c.loop-q.found c.relate_to_all.new.found c.args.direct.now (get_or c.as_slice-q-items.result.now c.loop-q.q-index 0) c.args.positive.0
    c.below.result.now c.below.ensures c.in_ok-relate_to_all.ensures)

pub returns : goal.returns
returns c =
    from_edges c.args.a.now c.requires.closed (Holds c.args.direct.now) c.args.found.now c.loop-q.found c.args.positive.0 c.args.negative.0
    c.as_slice-q-items.result.now c.partners.result.now c.as_slice-q-items.ensures.members c.requires.negative c.partners.ensures.partners
    (Relates-all c.args.found.now c.loop-q.found c.as_slice-q-items.result.now c.loop-q.q-index (λ q p n. (p ≡ c.args.positive.0) × Holds c.args.direct.now q n)
    c.loop-q-test.false c.loop-q.invariant)
