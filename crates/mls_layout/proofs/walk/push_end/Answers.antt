use Rattle.std.proofs.Common.{◌≡◌, ◌∙◌, ℕ, sym, rules, Some, None}
use Rattle.std.specs.BTreeMap.{get}
use Rattle.std.specs.Ordering.{nat_cmp}
use Rattle.mls_layout.specs.Walks.{IsThis}
use Rattle.mls_layout.specs.steps.Walking.{IsOfEntry}
use Rattle.mls_layout.proofs.MetPairs.{lists_none, lists_as, lists_one}
use Rattle.mls_layout.proofs.walk.push_end.Goals as goal

pub returns-in-None : goal.returns-in-None
returns-in-None c =
    let none : get nat_cmp c.args.states.now c.args.entry.binder ≡ None = search rules in
    lists_none (IsOfEntry c.args.states.now c.args.entry) (λ g s is. let wrong : None ≡ Some s = sym none ∙ is.1 in absurd (cc)) c.args.ends.now

pub returns-in_ok-push-in-Some : goal.returns-in_ok-push-in-Some
returns-in_ok-push-in-Some c =
    let state : ℕ = c.in-Some.state.now in
    let found : get nat_cmp c.args.states.now c.args.entry.binder ≡ Some state = search rules in
    lists_as (IsThis (c.args.entry.state.0, state)) (IsOfEntry c.args.states.now c.args.entry)
    (λ g s is. (is.0, found ∙ (λ i. Some (sym is.1 i)))) (λ g s is. (is.0, let same : Some s ≡ Some state = sym is.1 ∙ found in let it : s ≡ state = cc in it))
    c.args.ends.now c.push.new.self (lists_one (c.args.entry.state.0, state) c.args.ends.now c.push.new.self c.in_ok-push-in-Some.ensures.ok)
