use Rattle.std.proofs.Common.{◌≡◌, ℕ, List, sym, subst, rules, Option, Some, None}
use Rattle.std.specs.Prelude.{OnOk}
use Rattle.mls_automaton.specs.Heads.{set_at}
use Rattle.mls_layout.specs.Walks.{IsOfSet}
use Rattle.mls_layout.specs.steps.Walking.{Lists}
use Rattle.mls_layout.proofs.MetPairs.{lists_none}
use Rattle.mls_layout.proofs.walk.push_field.Goals as goal

pub returns-in-None : goal.returns-in-None
returns-in-None c =
    let is : set_at c.args.general.now c.args.special.now.label ≡ None = search rules in
    subst (λ (o : Option (List ℕ)). Lists (IsOfSet o c.args.special.now.set) c.args.into.now c.args.into.now) (sym is)
    (lists_none (IsOfSet None c.args.special.now.set) (λ g s is. is) c.args.into.now)

pub returns-in-Some : goal.returns-in-Some
returns-in-Some c =
    let is : set_at c.args.general.now c.args.special.now.label ≡ Some c.in-Some.set.now = search rules in
    subst (λ (o : Option (List ℕ)). OnOk c.push_sets.result (Lists (IsOfSet o c.args.special.now.set) c.args.into.now c.push_sets.new.into)) (sym is) c.push_sets.ensures
