use Rattle.std.proofs.Common.{◌+◌, refl, arith, subst, sym, get_or, List}
use Rattle.mls_shape.specs.declared.graph.Edge.{Edge}
use Rattle.mls_shape.proofs.Graphs.{AddsPlaces, places_more, places_all}
use Rattle.mls_shape.proofs.graph.add_edges.Goals as goal

pub loop-place-preserved : goal.loop-place-preserved
loop-place-preserved c =
    subst (λ (edges : List Edge). AddsPlaces c.args.source c.args.children.now (c.loop-place.place + 1) c.args.edges.now.items edges) (sym c.in_ok-push.ensures.items)
    (places_more c.args.source c.args.children.now c.loop-place.place (get_or c.args.children.now c.loop-place.place 0) c.args.edges.now.items c.loop-place.edges.items refl c.loop-place.invariant)

pub returns : goal.returns
returns c =
    places_all c.args.source c.args.children.now c.loop-place.place c.args.edges.now.items c.loop-place.edges.items (omega (arith, c.loop-place-test.false, c.loop-place.auto.place-end)) c.loop-place.invariant
