use Rattle.std.proofs.Common.{◌≡◌, suc, [], ◌∷◌, ◌++◌, ◌∙◌, ap, subst, Some, None}
use Rattle.std.specs.BTreeMap.{Updates}
use Rattle.std.specs.Ordering.{nat_cmp}
use Rattle.mls_solver.specs.declared.goal.Goal.{Goal}
use Rattle.mls_parts.specs.declared.pose.Posing.{Posing}
use Rattle.mls_parts.specs.Posings.{function_head, goal, root_in, size}
use Rattle.mls_parts.specs.steps.Results.{HasResult}
use Rattle.mls_parts.proofs.Posings.{result_added, result_root, result_size}
use Rattle.mls_parts.proofs.pose.Posing.pose_apply.Goals as goal_of

pub returns : goal_of.returns
returns c =
    let p : Posing = c.args.self.now in
    let m : Posing = c.push_result.new.self in
    let it : HasResult p m = c.in_ok-root.ensures.result in
    let into_is : c.in_ok-root.into.0 ≡ suc (size p) = c.in_ok-root.ensures.states.1 in
    let upper_is : c.in_ok-upper.upper.0 ≡ suc (suc (size p)) = c.in_ok-upper.ensures.number ∙ result_size p m it in
    let argument_is : c.root.result ≡ root_in p c.args.argument = c.root.ensures ∙ result_root p m c.args.argument it in
    let head_is : c.in_ok-head.head ≡ function_head (root_in p c.args.argument) (suc (size p)) = c.in_ok-head.ensures ∙ (λ i. function_head (argument_is i) (into_is i)) in
    let function_is : c.root-2.result ≡ root_in p c.args.function = c.root-2.ensures ∙ result_root p m c.args.function it in
    let goal_is : goal c.root-2.result c.in_ok-upper.upper.0 ≡ goal (root_in p c.args.function) (suc (suc (size p))) = λ i. goal (function_is i) (upper_is i) in
    let posed : c.push_goal.new.self ≡ record m { automaton = c.state.new.self; goals = m.goals ++ goal c.root-2.result c.in_ok-upper.upper.0 ∷ [] } = c.in_ok-push_goal.ensures in
    result_added p m _ c.args.node c.in_ok-root.root.0 c.state.new.self c.in_ok-head.head (function_head (root_in p c.args.argument) (suc (size p))) (goal (root_in p c.args.function) (suc (suc (size p))) ∷ []) None
    it c.in_ok-root.ensures.states.0 c.in_ok-upper.ensures.ok head_is (ap (λ (q : Posing). q.automaton) posed)
    (ap (λ (q : Posing). q.goals) posed ∙ ap (λ (g : Goal). m.goals ++ g ∷ []) goal_is) (ap (λ (q : Posing). q.needs) posed)
    (subst (λ rs. Updates nat_cmp rs c.insert.new.self c.args.node (Some c.in_ok-root.root.0)) (ap (λ (q : Posing). q.roots) posed) c.in_ok-insert.ensures.updates)
    (ap (λ (q : Posing). q.binders) posed) (ap (λ (q : Posing). q.copies) posed) (ap (λ (q : Posing). q.results) posed)
