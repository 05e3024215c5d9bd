use Rattle.std.proofs.Common.{◌≡◌, sym, subst, rules, Option, Some}
use Rattle.std.specs.Prelude.{OnOk}
use Rattle.mls_automaton.specs.declared.automaton.Arms.{Arms}
use Rattle.mls_layout.specs.Walks.{IsOfFunctions}
use Rattle.mls_layout.specs.steps.Walking.{Lists}
use Rattle.mls_layout.proofs.walk.push_functions.Goals as goal

pub returns-in-Some-special : goal.returns-in-Some-special
returns-in-Some-special c =
    let one : c.args.general.now ≡ Some c.in-Some.arms = search rules in
    let two : c.args.special.now ≡ Some c.in-Some-special.others = search rules in
    subst (λ (o : Option Arms). OnOk c.push_arms.result (Lists (IsOfFunctions o c.args.special.now) c.args.into.now c.push_arms.new.into)) (sym one)
    (subst (λ (o : Option Arms). OnOk c.push_arms.result (Lists (IsOfFunctions (Some c.in-Some.arms) o) c.args.into.now c.push_arms.new.into)) (sym two) c.push_arms.ensures)
