use Rattle.std.proofs.Common.{◌≡◌, ◌∙◌, ◌++◌, [], List, ℕ, All, refl, sym, length, map, subst}
use Rattle.mls_shape.specs.declared.graph.Edge.{Edge}
use Rattle.mls_shape.specs.steps.Classes.{AreClassesBy, KeepsAlike, LookAlike}
use Rattle.mls_shape.specs.steps.Graphs.{colour, AreParents, HasEndsBelow}
use Rattle.mls_shape.specs.steps.Partitions.{AreNodes, IsRefinement}
use Rattle.mls_shape.proofs.Settled.{finer_keeps}
use Rattle.mls_shape.proofs.Graphs.{edges_below, parents_nodes}
use Rattle.mls_shape.proofs.NodePairs.{blocks_keep}
use Rattle.mls_shape.proofs.classes.parted.Goals as goal

pub parents_of-requires : goal.parents_of-requires
parents_of-requires c =
    let n : ℕ = length c.args.a.now.states in
    let edges : List Edge = c.in_ok-edges.edges.items in
    subst (λ n. All (HasEndsBelow n) c.as_slice-2.result.now) (sym c.len.ensures.len)
    (subst (λ (xs : List Edge). All (HasEndsBelow n) xs) (sym c.as_slice-2.ensures.value)
    (edges_below c.args.a.now c.requires.closed c.requires.deterministic edges c.in_ok-edges.ensures))

pub refine-requires-clause-nodes : goal.refine-requires-clause-nodes
refine-requires-clause-nodes c =
    let edges : List Edge = c.in_ok-edges.edges.items in
    let are : AreParents c.len.result edges (length edges) c.in_ok-parents.parents.items =
    subst (λ (xs : List Edge). AreParents c.len.result xs (length xs) c.in_ok-parents.parents.items) c.as_slice-2.ensures.value c.in_ok-parents.ensures in
    let below : All (HasEndsBelow c.len.result) edges =
    subst (λ n. All (HasEndsBelow n) edges) (sym c.len.ensures.len) (edges_below c.args.a.now c.requires.closed c.requires.deterministic edges c.in_ok-edges.ensures) in
    subst (λ (xs : List (List ℕ)). AreNodes xs) (sym c.as_slice-5.ensures.value) (parents_nodes c.len.result edges c.in_ok-parents.parents.items below are)

pub returns : goal.returns
returns c =
    let n : ℕ = length c.args.a.now.states in
    let edges : List Edge = c.in_ok-edges.edges.items in
    let classes : List ℕ = c.in_ok-first.first.numbers.items in
    let parents : List (List ℕ) = c.in_ok-parents.parents.items in
    let are : AreParents n edges (length edges) parents =
    subst (λ n. AreParents n edges (length edges) parents) c.len.ensures.len
    (subst (λ (xs : List Edge). AreParents c.len.result xs (length xs) parents) c.as_slice-2.ensures.value c.in_ok-parents.ensures) in
    let keeps : KeepsAlike c.args.a.now classes =
    finer_keeps c.args.a.now c.requires.closed [] c.in_ok-first.first
    (subst (λ (xs : List ℕ). AreClassesBy c.args.a.now (LookAlike c.args.a.now xs) c.in_ok-first.first) (c.as_slice.ensures.value ∙ c.new-none.ensures.items) c.in_ok-first.ensures)
    (λ x y low low' it. refl) in
    let is : c.in_ok-colours.colours.items ≡ classes ++ map (colour c.len-count.result) edges =
    c.in_ok-colours.ensures ∙ (λ i. c.as_slice-3.ensures.value i ++ map (colour c.len-count.result) (c.as_slice-4.ensures.value i)) in
    let refines : IsRefinement parents c.in_ok-colours.colours.items c.refine.new.self.blocks.items =
    subst (λ (xs : List ℕ). IsRefinement parents xs c.refine.new.self.blocks.items) c.in_ok-partition.ensures.blocks
    (subst (λ (xs : List (List ℕ)). IsRefinement xs c.in_ok-partition.partition.blocks.items c.refine.new.self.blocks.items) c.as_slice-5.ensures.value c.in_ok-refine.ensures) in
    blocks_keep c.args.a.now c.requires.closed c.requires.deterministic edges c.in_ok-edges.ensures parents are
    classes c.len-count.result c.in_ok-colours.colours.items c.refine.new.self.blocks.items c.in_ok-first.ensures.size keeps is refines
