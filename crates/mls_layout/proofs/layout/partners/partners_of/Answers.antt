use Rattle.std.proofs.Common.{ap}
use Rattle.mls_book.specs.declared.book.NodeId.{NodeId}
use Rattle.mls_layout.specs.LaidOut.{place_of}
use Rattle.mls_layout.proofs.KnownNodes.{partners_none, partners_more}
use Rattle.mls_layout.proofs.layout.partners.partners_of.Goals as goal

pub loop-pair-init : goal.loop-pair-init
loop-pair-init c = partners_none c.args.pairs.now (place_of c.args.type_places.now) c.args.states c.in_ok-lists.lists.items c.in_ok-lists.ensures.length c.in_ok-lists.ensures.none

pub loop-pair-preserved : goal.loop-pair-preserved
loop-pair-preserved c =
    partners_more c.args.pairs.now (place_of c.args.type_places.now) c.args.states c.loop-pair.pair-index _ c.node-id.result c.loop-pair.lists.items c.add.new.lists.items
    c.loop-pair-test.true (ap (λ (id : NodeId). id.0) c.node-id.ensures) c.loop-pair.invariant c.in_ok-add.ensures.length c.in_ok-add.ensures.added
