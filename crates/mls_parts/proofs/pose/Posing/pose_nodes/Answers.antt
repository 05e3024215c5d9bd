use Rattle.std.proofs.Common.{◌≡◌, ◌<◌, ◌∙◌, ℕ, List, length, take, get_or, Contains, sym, subst, Some, None}
use Rattle.std.proofs.lemmas.List.{take_more}
use Rattle.std.proofs.lemmas.List.Elements.{Contains-get_or}
use Rattle.mls_term.specs.declared.term.TermForm.{TermForm}
use Rattle.mls_term.specs.declared.term.TermNode.{TermNode}
use Rattle.mls_deriv.specs.Steps.{form_at}
use Rattle.mls_parts.specs.PosedParts.{HavePosed, IsPosable}
use Rattle.mls_parts.specs.steps.Sharing.{AreShared}
use Rattle.mls_parts.proofs.PosedParts.{can_pose, form_there, has_binder, not_before, pose_none, pose_either}
use Rattle.mls_parts.proofs.pose.Posing.pose_nodes.Goals as goal

pub loop-node-init : goal.loop-node-init
loop-node-init c = (
  pose_none c.args.nodes.now c.args.known.now.globals c.args.known.now.lets c.args.self.now c.requires.begun.0 c.requires.begun.1,
  λ f j e. let none : None ≡ Some j = sym (c.new-shared.ensures f) ∙ e in absurd (cc),
)

pub pose_next-requires : goal.pose_next-requires
pose_next-requires c =
    let nodes : List TermNode = c.args.nodes.now in
    let part : List ℕ = c.args.part.now in
    let i : ℕ = get_or part c.loop-node.node-index 0 in
    let there : Contains part i = Contains-get_or part c.loop-node.node-index 0 c.loop-node-test.true in
    let low : i < length nodes = c.requires.list.in_range c.loop-node.node-index 0 c.loop-node-test.true in
    let f : TermForm = (get_or nodes i c.index-nodes-node.result).form in
    let before = c.loop-node.invariant.0 in
    can_pose c.requires.begun.0 c.args.known.now.globals c.args.known.now.lets c.args.self.now c.loop-node.self c.requires.begun.1 before.extends before.good
    f (c.requires.begun.2 i f there (form_there nodes i c.index-nodes-node.result low))

pub loop-node-preserved : goal.loop-node-preserved
loop-node-preserved c =
    let nodes : List TermNode = c.args.nodes.now in
    let part : List ℕ = c.args.part.now in
    let k : ℕ = c.loop-node.node-index in
    let i : ℕ = get_or part k 0 in
    let there : Contains part i = Contains-get_or part k 0 c.loop-node-test.true in
    let low : i < length nodes = c.requires.list.in_range k 0 c.loop-node-test.true in
    let f : TermForm = (get_or nodes i c.index-nodes-node.result).form in
    let form_is : form_at nodes i ≡ Some f = form_there nodes i c.index-nodes-node.result low in
    let posable : IsPosable c.requires.begun.0 c.args.known.now.globals c.args.known.now.lets f = c.requires.begun.2 i f there form_is in
    let before = c.loop-node.invariant.0 in
    subst (λ (done : List ℕ). HavePosed nodes c.args.known.now.globals c.args.known.now.lets c.args.self.now c.pose_next.new.self done × AreShared nodes c.args.known.now.globals c.args.known.now.lets done c.pose_next.new.shared)
    (sym (take_more part k 0 c.loop-node-test.true))
    (pose_either nodes c.args.known.now.globals c.args.known.now.lets c.args.self.now c.loop-node.self c.pose_next.new.self (take k part) i f before
    form_is (not_before part k 0 c.requires.list.once c.loop-node-test.true) (c.requires.list.behind k f c.loop-node-test.true form_is)
    c.loop-node.shared c.pose_next.new.shared c.loop-node.invariant.1 c.in_ok-pose_next.ensures
    (has_binder c.requires.begun.0 c.args.known.now.globals c.args.known.now.lets c.args.self.now c.loop-node.self c.requires.begun.1 before.extends before.good f posable)
    (can_pose c.requires.begun.0 c.args.known.now.globals c.args.known.now.lets c.args.self.now c.loop-node.self c.requires.begun.1 before.extends before.good f posable))
