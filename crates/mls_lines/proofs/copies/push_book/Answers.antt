use Rattle.std.proofs.Common.{rules, ◌∙◌, ℕ, List, ◌+◌, ◌<◌, ◌≤◌, ◌++◌, length, map, ap, sym, subst}
use Rattle.mls_book.specs.declared.book.Node.{Node}
use Rattle.mls_book.specs.Books.{node_at, IsOrdered}
use Rattle.mls_deriv.specs.Steps.{raised}
use Rattle.mls_automaton.proofs.Searches.{take-all}
use Rattle.mls_lines.proofs.CopiedNodes.{copied_length, raised_ordered}
use Rattle.mls_lines.proofs.Lengthening.{copied_closed, copied_more}
use Rattle.mls_lines.proofs.copies.push_book.Goals as goal

-- a copy may stand as far behind the first one as its node does
pub push-requires : goal.push-requires
push-requires c =
    let n : ℕ = c.len-first.result in
    let i : ℕ = c.loop-i.i in
    let other : List Node = c.args.other.now in
    let low : i < length other = subst (λ m. i < m) c.len-i-end.ensures.len c.loop-i-test.true in
    subst (λ k. IsOrdered k c.in_ok-node.node) (sym (copied_length c.args.book.now c.loop-i.book other n i low c.len-first.ensures.len c.loop-i.invariant))
    (subst (λ (x : Node). IsOrdered (n + i) x) (sym (c.in_ok-node.ensures ∙ ap (raised n) c.node.ensures.node)) (raised_ordered n i (node_at other i) (c.node.ensures.book i)))

pub loop-i-preserved : goal.loop-i-preserved
loop-i-preserved c =
    copied_more c.args.book.now c.loop-i.book c.push.new.self c.args.other.now c.len-first.result c.loop-i.i c.in_ok-node.node (subst (λ n. c.loop-i.i < n) c.len-i-end.ensures.len c.loop-i-test.true) c.loop-i.invariant c.in_ok-push.ensures.ok
    (c.in_ok-node.ensures ∙ ap (raised c.len-first.result) c.node.ensures.node)

-- all nodes are copied
pub returns-clause-closed : goal.returns-clause-closed
returns-clause-closed c =
    let all : length c.args.other.now ≤ c.loop-i.i = search rules in
    copied_closed c.args.book.now c.loop-i.book c.args.other.now c.len-first.result c.len-first.ensures.len
    (c.loop-i.invariant ∙ ap (λ nodes. c.args.book.now ++ map (raised c.len-first.result) nodes) (take-all c.args.other.now c.loop-i.i all))
