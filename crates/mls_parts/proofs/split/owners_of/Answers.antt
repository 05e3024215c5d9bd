use Rattle.std.proofs.Common.{◌≡◌, ◌∙◌, ◌<◌, ◌≤◌, ◌+◌, ◌-◌, suc, ℕ, List, length, get_or, ap, subst, arith, rules, Some}
use Rattle.std.specs.Prelude.{replicate}
use Rattle.std.proofs.lemmas.List.{length-replicate, get_or-replicate, get_or_default}
use Rattle.mls_term.specs.declared.term.TermForm.{TermForm}
use Rattle.mls_term.specs.declared.term.TermNode.{TermNode}
use Rattle.mls_deriv.specs.Steps.{form_at}
use Rattle.mls_parts.specs.steps.Owners.{AreSettled, Gives, IsChildOf}
use Rattle.mls_parts.proofs.Owners.{settled_start, settled_more, settled_all}
use Rattle.mls_parts.proofs.PosedParts.{form_there}
use Rattle.mls_parts.proofs.split.owners_of.Goals as goal

pub loop-back-init : goal.loop-back-init
loop-back-init c =
    let owners : List ℕ = c.in_ok-owners.owners.items in
    let count : ℕ = length c.args.nodes.now in
    let last : ℕ = c.saturating_sub-last.result in
    let copies : owners ≡ replicate count last = c.in_ok-owners.ensures.items_if_clones_equal (λ y h. h) in
    let many : length owners ≡ count = ap length copies ∙ length-replicate count last in
    let end : last ≡ count - 1 = search rules in
    settled_start c.args.nodes.now owners many
    (λ j at.
    let is : get_or owners j 0 ≡ last = ap (λ (xs : List ℕ). get_or xs j 0) copies ∙ get_or-replicate count j last 0 (omega (arith, at)) in
    omega (arith, is, end, at))

pub loop-back-preserved : goal.loop-back-preserved
loop-back-preserved c =
    let nodes : List TermNode = c.args.nodes.now in
    let node : TermNode = c.index-nodes-i.result in
    let i : ℕ = length nodes - 1 - c.loop-back.back in
    let at : i + suc c.loop-back.back ≡ length nodes = omega (arith, c.loop-back-test.true) in
    let f : TermForm = (get_or nodes i node).form in
    let form : form_at nodes i ≡ Some f = form_there nodes i node (omega (arith, at)) in
    let low : i < length c.loop-back.owners.items = omega (arith, at, c.loop-back.invariant.same_length) in
    let root : c.index-root.result.now ≡ get_or c.loop-back.owners.items i 0 = c.index-root.ensures ∙ get_or_default c.loop-back.owners.items i c.index-root.result.now 0 low in
    settled_more nodes c.requires c.loop-back.back i f c.loop-back.owners.items c.own_children.new.owners.items at form c.loop-back.invariant
    (subst (λ r. Gives (IsChildOf f r) c.loop-back.owners.items c.own_children.new.owners.items) root
    c.own_children.ensures)

pub returns : goal.returns
returns c =
    let over : length c.args.nodes.now ≤ c.loop-back.back = c.loop-back-test.false in
    let inside : c.loop-back.back ≤ length c.args.nodes.now = c.loop-back.auto.back-end in
    let all : c.loop-back.back ≡ length c.args.nodes.now = omega arith in
    settled_all c.args.nodes.now c.requires c.loop-back.owners.items (subst (λ n. AreSettled c.args.nodes.now n c.loop-back.owners.items) all c.loop-back.invariant)
