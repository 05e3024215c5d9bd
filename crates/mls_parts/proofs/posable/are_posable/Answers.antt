use Rattle.std.proofs.Common.{◌≡◌, ◌∙◌, inl, inr, ℕ, List, take, get_or, sym, ap, subst, rules, Contains, Some}
use Rattle.std.specs.Prelude.{IsTrue}
use Rattle.std.proofs.lemmas.List.{take_all, take_more}
use Rattle.std.proofs.lemmas.List.Elements.{Contains-push_cases}
use Rattle.mls_term.specs.declared.term.TermNode.{TermNode}
use Rattle.mls_deriv.specs.Steps.{form_at}
use Rattle.mls_parts.specs.PosedParts.{ArePosable, IsPosable}
use Rattle.mls_parts.proofs.PosedParts.{form_there}
use Rattle.mls_parts.proofs.posable.are_posable.Goals as goal

some_is : {X : Type 0} {x y : X} → Some x ≡ Some y → x ≡ y
some_is e = cc

pub loop-node-preserved : goal.loop-node-preserved
loop-node-preserved c i f there e =
    let part : List ℕ = c.args.part.now in
    let k : ℕ = c.loop-node.node-index in
    let node : TermNode = c.index-nodes-node.result in
    let yes : IsTrue c.in_ok-is_posable.field-0 = search rules in
    let last : get_or part k 0 ≡ i → IsPosable c.args.binders.now c.args.known.now.globals c.args.known.now.lets f = λ same.
    let is : form_at c.args.nodes.now (get_or part k 0) ≡ Some (get_or c.args.nodes.now (get_or part k 0) node).form = form_there c.args.nodes.now (get_or part k 0) node (c.requires k 0 c.loop-node-test.true) in
    subst (IsPosable c.args.binders.now c.args.known.now.globals c.args.known.now.lets) (some_is (sym is ∙ (ap (form_at c.args.nodes.now) same ∙ e)))
    (c.in_ok-is_posable.ensures yes c.args.binders.now c.in_ok-around.ensures) in
    elim (Contains-push_cases (take k part) (get_or part k 0) i (subst (λ (xs : List ℕ). Contains xs i) (take_more part k 0 c.loop-node-test.true) there)) [
      | inl before ↦ c.loop-node.invariant i f before e
      | inr same ↦ last same
    ]

pub returns : goal.returns
returns c = λ yes.
    subst (λ (xs : List ℕ). ArePosable c.args.binders.now c.args.nodes.now xs c.args.known.now.globals c.args.known.now.lets)
    (take_all c.loop-node.node-index c.args.part.now c.loop-node-test.false) c.loop-node.invariant
