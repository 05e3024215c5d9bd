use Rattle.std.proofs.Common.{◌≡◌, subst}
use Rattle.mls_book.specs.declared.book.NodeId.{NodeId}
use Rattle.mls_layout.specs.LaidOut.{place_of}
use Rattle.mls_layout.specs.steps.Sources.{Gathers}
use Rattle.mls_layout.proofs.Gathering.{gathers_first, gathers_more, gathers_all, gathers_one}
use Rattle.mls_layout.proofs.layout.states.add_nodes.Goals as goal

pub loop-s-init : goal.loop-s-init
loop-s-init c = gathers_first (λ s i. place_of c.args.places.now s ≡ i) c.args.states.now c.args.ids.now

pub loop-s-preserved : goal.loop-s-preserved
loop-s-preserved c =
    gathers_more (λ s i. place_of c.args.places.now s ≡ i) c.args.states.now c.loop-s.s-index 0 c.args.ids.now c.loop-s.ids c.push.new.self c.loop-s-test.true c.loop-s.invariant
    (subst (λ (id : NodeId). Gathers (λ i. id.0 ≡ i) c.loop-s.ids c.push.new.self) c.node.ensures (gathers_one c.loop-s.ids c.push.new.self c.node.result c.in_ok-push.ensures.ok))

pub returns : goal.returns
returns c = gathers_all (λ s i. place_of c.args.places.now s ≡ i) c.args.states.now c.loop-s.s-index c.args.ids.now c.loop-s.ids c.loop-s-test.false c.loop-s.invariant
