use Rattle.std.proofs.Common.{◌≡◌, refl, arith, length, subst}
use Rattle.mls_shape.specs.steps.Graphs.{AreParents, edge_at}
use Rattle.mls_shape.proofs.Graphs.{parents_more}
use Rattle.mls_shape.proofs.graph.parents_of.Goals as goal

pub loop-k-preserved : goal.loop-k-preserved
loop-k-preserved c =
    parents_more c.args.states c.args.edges.now c.loop-k.k (edge_at c.args.edges.now c.loop-k.k) c.loop-k.parents.items c.add_parents.new.parents.items c.loop-k.invariant refl c.in_ok-add_parents.ensures

pub returns : goal.returns
returns c =
    let all : c.loop-k.k ≡ length c.args.edges.now = omega (arith, c.loop-k-test.false, c.loop-k.auto.k-end) in
    subst (λ n. AreParents c.args.states c.args.edges.now n c.loop-k.parents.items) all c.loop-k.invariant
