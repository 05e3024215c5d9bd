use Rattle.std.proofs.Common.{◌≡◌, ◌∙◌, ◌-◌, ℕ, suc, List, sym, subst, arith, length}
use Rattle.mls_term.specs.declared.term.TermNode.{TermNode}
use Rattle.mls_term.specs.Terms.{TermTree, before, postorder}
use Rattle.mls_term.specs.WellFormed.{IsTerm}
use Rattle.mls_infer.specs.Doing.{schemes_known}
use Rattle.mls_infer.specs.Finished.{Finished, Has}
use Rattle.mls_infer.specs.Inference.{schemes_in}
use Rattle.mls_infer.proofs.NodeLoop.{begins, last_node, whole_answer, whole_known}
use Rattle.mls_infer.proofs.infer.infer_whole.Goals as goal

pub infer_nodes-requires-clause-goes : goal.infer_nodes-requires-clause-goes
infer_nodes-requires-clause-goes c =
    let nodes : List TermNode = c.as_slice-nodes.result.now in
    let it : IsTerm (length c.args.names.now.schemes) nodes c.args.term.now.binders c.args.term.now.lets =
    subst (λ (nodes : List TermNode). IsTerm (length c.args.names.now.schemes) nodes c.args.term.now.binders c.args.term.now.lets) (sym c.as_slice-nodes.ensures) c.requires.term in
    begins c.args.names.now c.in_ok-firsts.firsts nodes c.args.term.now.binders c.args.term.now.lets c.requires.names it c.in_ok-firsts.ensures

pub overflow_sub-nodes : goal.overflow_sub-nodes
overflow_sub-nodes c =
    let nodes : List TermNode = c.as_slice-nodes.result.now in
    let t : TermTree = c.requires.term.tree in
    let size : length nodes ≡ suc (before t) = last_node nodes t (c.as_slice-nodes.ensures ∙ c.requires.term.nodes_are) in
    omega arith

pub whole-requires-clause-there : goal.whole-requires-clause-there
whole-requires-clause-there c =
    let nodes : List TermNode = c.as_slice-nodes.result.now in
    let t : TermTree = c.requires.term.tree in
    let are : nodes ≡ postorder 0 t = c.as_slice-nodes.ensures ∙ c.requires.term.nodes_are in
    let size : length nodes ≡ suc (before t) = last_node nodes t are in
    let known : Finished = schemes_known c.in_ok-done.done.live c.in_ok-done.done.nodes.items in
    let last : before t ≡ length nodes - 1 = omega arith in
    let told = c.in_ok-done.ensures.ok t are in
    let it = whole_known (schemes_in c.args.names.now) t told.0 known told.2 told.1 in
    (it.0, subst (λ (i : ℕ). Has known i it.0) last it.1)

pub returns-clause-best : goal.returns-clause-best
returns-clause-best c = λ t u term_are is_book.
    let nodes : List TermNode = c.as_slice-nodes.result.now in
    let are : nodes ≡ postorder 0 t = c.as_slice-nodes.ensures ∙ term_are in
    let size : length nodes ≡ suc (before t) = last_node nodes t are in
    let known : Finished = schemes_known c.in_ok-done.done.live c.in_ok-done.done.nodes.items in
    let last : before t ≡ length nodes - 1 = omega arith in
    let told = c.in_ok-done.ensures.ok t are in
    whole_answer (schemes_in c.args.names.now) t told.0 known told.2 told.1 c.in_ok-whole.whole c.in_ok-whole.ensures.scheme c.in_ok-whole.ensures.env
    (λ s has. c.in_ok-whole.ensures.alike s (subst (λ (i : ℕ). Has known i s) last has)) u is_book
