use Rattle.std.proofs.Common.{◌≡◌, ◌≤◌, ℕ, List, length, get_or, refl, subst, arith}
use Rattle.std.specs.BTreeMap.{get}
use Rattle.std.specs.Ordering.{nat_cmp}
use Rattle.mls_parts.specs.steps.Owners.{IsSplit}
use Rattle.mls_parts.proofs.Owners.{split_more}
use Rattle.mls_parts.proofs.split.split.Goals as goal

pub loop-node-preserved : goal.loop-node-preserved
loop-node-preserved c =
    let owners : List ℕ = c.args.owners.now in
    split_more owners c.loop-node.node (get_or owners c.loop-node.node 0) (get nat_cmp c.loop-node.parts) (get nat_cmp c.add_node.new.parts) refl c.loop-node.invariant c.in_ok-add_node.ensures

pub returns : goal.returns
returns c =
    let over : length c.args.owners.now ≤ c.loop-node.node = c.loop-node-test.false in
    let inside : c.loop-node.node ≤ length c.args.owners.now = c.loop-node.auto.node-end in
    let all : c.loop-node.node ≡ length c.args.owners.now = omega arith in
    subst (λ n. IsSplit c.args.owners.now n (get nat_cmp c.loop-node.parts)) all c.loop-node.invariant
