use Rattle.std.proofs.Common.{List, ◌++◌, ap, ◌∙◌, get_or}
use Rattle.mls_solver.specs.Rooms.{Holds}
use Rattle.mls_solver.proofs.Relating.{element}
use Rattle.mls_book.specs.declared.book.NodeId.{NodeId}
use Rattle.mls_layout.specs.steps.Sources.{IsOfState}
use Rattle.mls_layout.proofs.Gathering.{gathers_first, gathers_more, gathers_all}
use Rattle.mls_layout.proofs.Entering.{entering_made}
use Rattle.mls_layout.proofs.layout.values.entering.Goals as goal

pub loop-p-init : goal.loop-p-init
loop-p-init c = gathers_first (IsOfState c.args.a.now c.args.sources.now) c.above-p-items.result.now c.add_all.new.ids

pub add_state-requires-clause-state : goal.add_state-requires-clause-state
add_state-requires-clause-state c =
    (c.requires.related (get_or c.above-p-items.result.now c.loop-p.p-index 0) c.args.n.0
    ((c.above-p-items.ensures (get_or c.above-p-items.result.now c.loop-p.p-index 0)).0 (element c.above-p-items.result.now c.loop-p.p-index c.loop-p-test.true))).0

pub loop-p-preserved : goal.loop-p-preserved
loop-p-preserved c =
    gathers_more (IsOfState c.args.a.now c.args.sources.now) c.above-p-items.result.now c.loop-p.p-index 0 c.add_all.new.ids c.loop-p.ids c.add_state.new.ids c.loop-p-test.true
    c.loop-p.invariant c.in_ok-add_state.ensures

pub returns : goal.returns
returns c =
    entering_made c.args.a.now c.requires.closed c.args.sources.now (Holds c.args.found.now) c.args.n.0 c.above-p-items.result.now c.above-p-items.ensures
    c.new-ids.result c.add_all.new.ids c.loop-p.ids c.new-ids.ensures
    (c.in_ok-add_all.ensures ∙ ap (λ (ids : List NodeId). c.new-ids.result ++ ids) c.partners.ensures)
    (gathers_all (IsOfState c.args.a.now c.args.sources.now) c.above-p-items.result.now c.loop-p.p-index c.add_all.new.ids c.loop-p.ids c.loop-p-test.false c.loop-p.invariant)
