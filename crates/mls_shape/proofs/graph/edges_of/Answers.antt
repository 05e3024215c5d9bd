use Rattle.std.proofs.Common.{◌≡◌, ◌∙◌, arith, length, subst, ap, List, ℕ}
use Rattle.mls_shape.specs.steps.Graphs.{children, AddsEdges, AreEdges}
use Rattle.mls_shape.proofs.Graphs.{edges_more}
use Rattle.mls_shape.proofs.graph.edges_of.Goals as goal

pub loop-s-preserved : goal.loop-s-preserved
loop-s-preserved c =
    edges_more c.args.a.now c.loop-s.s c.loop-s.edges.items c.add_edges.new.edges.items c.loop-s.invariant
    (subst (λ (named : List ℕ). AddsEdges c.loop-s.s named c.loop-s.edges.items c.add_edges.new.edges.items)
    (c.as_slice.ensures.value ∙ (c.in_ok-children.ensures ∙ ap children c.head.ensures)) c.in_ok-add_edges.ensures)

pub returns : goal.returns
returns c =
    let all : c.loop-s.s ≡ length c.args.a.now.states = omega (arith, c.loop-s-test.false, c.loop-s.auto.s-end, c.len-s-end.ensures.len) in
    subst (λ n. AreEdges c.args.a.now n c.loop-s.edges.items) all c.loop-s.invariant
