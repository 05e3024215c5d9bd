use Rattle.std.proofs.Common.{◌≡◌, suc, ◌++◌, ◌∙◌, ap, subst, Some}
use Rattle.std.specs.BTreeMap.{Updates}
use Rattle.std.specs.Ordering.{nat_cmp}
use Rattle.mls_parts.specs.declared.pose.Posing.{Posing}
use Rattle.mls_parts.specs.Posings.{bool_head, choice_goals, number_at, root_in, size}
use Rattle.mls_parts.specs.steps.Results.{HasResult}
use Rattle.mls_parts.proofs.Posings.{result_added, result_size}
use Rattle.mls_parts.proofs.pose.Posing.pose_own_choice.Goals as goal

pub returns : goal.returns
returns c =
    let p : Posing = c.args.self.now in
    let m : Posing = c.push_result.new.self in
    let it : HasResult p m = c.in_ok-root.ensures.result in
    let into_is : c.in_ok-root.into.0 ≡ suc (size p) = c.in_ok-root.ensures.states.1 in
    let bit_is : c.in_ok-bit.bit.0 ≡ suc (suc (size p)) = c.in_ok-bit.ensures.number ∙ result_size p m it in
    let posed : c.push_choice_goals.new.self ≡ record m { automaton = c.state.new.self; goals = m.goals ++ choice_goals (root_in m c.args.condition) (root_in m c.args.first) (root_in m c.args.second) c.in_ok-bit.bit.0 c.in_ok-root.into.0 } =
    c.in_ok-push_choice_goals.ensures in
    let goals_are : choice_goals (root_in m c.args.condition) (root_in m c.args.first) (root_in m c.args.second) c.in_ok-bit.bit.0 c.in_ok-root.into.0
    ≡ choice_goals (root_in p c.args.condition) (root_in p c.args.first) (root_in p c.args.second) (suc (suc (size p))) (suc (size p)) =
    λ i. choice_goals (number_at (it.roots i) c.args.condition) (number_at (it.roots i) c.args.first) (number_at (it.roots i) c.args.second) (bit_is i) (into_is i) in
    result_added p m _ c.args.node c.in_ok-root.root.0 c.state.new.self c.bool_head.result bool_head
    (choice_goals (root_in p c.args.condition) (root_in p c.args.first) (root_in p c.args.second) (suc (suc (size p))) (suc (size p))) (Some (suc (size p)))
    it c.in_ok-root.ensures.states.0 c.in_ok-bit.ensures.ok c.bool_head.ensures (ap (λ (q : Posing). q.automaton) posed)
    (ap (λ (q : Posing). q.goals) posed ∙ ap (λ gs. m.goals ++ gs) goals_are) (ap (λ (q : Posing). q.needs) posed)
    (subst (λ rs. Updates nat_cmp rs c.insert.new.self c.args.node (Some c.in_ok-root.root.0)) (ap (λ (q : Posing). q.roots) posed) c.in_ok-insert.ensures.updates)
    (ap (λ (q : Posing). q.binders) posed) (ap (λ (q : Posing). q.copies) posed)
    (subst (λ n. Updates nat_cmp m.results c.insert-2.new.self c.args.node (Some n)) into_is
    (subst (λ rs. Updates nat_cmp rs c.insert-2.new.self c.args.node (Some c.in_ok-root.into.0)) (ap (λ (q : Posing). q.results) posed) c.in_ok-insert-2.ensures.updates))
