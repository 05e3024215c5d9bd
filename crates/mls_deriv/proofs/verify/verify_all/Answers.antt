use Rattle.std.proofs.Common.{◌≡◌, ◌+◌, ◌<◌, ◌≤◌, ◌∷◌, ◌++◌, List, ℕ, suc, drop, length, get_or, subst, sym, rules, arith}
use Rattle.std.proofs.lemmas.List.{drop_all}
use Rattle.mls_term.specs.declared.term.ResolvedBinding.{ResolvedBinding}
use Rattle.mls_deriv.specs.declared.derivation.Section.{Section}
use Rattle.mls_deriv.specs.declared.walk.Checked.TheVariants.{Allowed, Refused}
use Rattle.mls_deriv.specs.Sections.{schemes_of, HasRefusedStep, IsSectionAllowed}
use Rattle.mls_deriv.specs.inner.Walks.{HavePassed, IsHead, IsChecked}
use Rattle.mls_deriv.proofs.Passed.{rest_is, missing, no_head_read, stopped, passed_one, surplus_at, passed_at_end}
use Rattle.mls_deriv.proofs.verify.verify_all.Goals as goal

pub returns-then-i-sections : goal.returns-then-i-sections
returns-then-i-sections c =
    let binding : ResolvedBinding = c.index-bindings-i.result in
    let is : get_or c.args.bindings.now c.loop-i.i binding ≡ binding = search rules in
    let at = rest_is c.args.bindings.now c.loop-i.i binding c.loop-i-test.true is in
    missing c.args.declared.now c.args.bindings.now c.args.sections.now c.loop-i.earlier.items c.loop-i.count binding (drop (c.loop-i.i + 1) c.args.bindings.now)
    (subst (λ ss. HavePassed c.args.declared.now c.loop-i.earlier.items c.loop-i.count c.args.bindings.now (binding ∷ drop (c.loop-i.i + 1) c.args.bindings.now) c.args.sections.now ss) (drop_all c.loop-i.i c.args.sections.now c.if-i-sections.true)
    (subst (λ bs. HavePassed c.args.declared.now c.loop-i.earlier.items c.loop-i.count c.args.bindings.now bs c.args.sections.now (drop c.loop-i.i c.args.sections.now)) at c.loop-i.invariant))

pub returns-in-None : goal.returns-in-None
returns-in-None c =
    let binding : ResolvedBinding = c.index-bindings-i.result in
    let section : Section = c.index-sections-i.result in
    let is : get_or c.args.bindings.now c.loop-i.i binding ≡ binding = search rules in
    let is' : get_or c.args.sections.now c.loop-i.i section ≡ section = search rules in
    let at = rest_is c.args.bindings.now c.loop-i.i binding c.loop-i-test.true is in
    let at' = rest_is c.args.sections.now c.loop-i.i section c.if-i-sections.false is' in
    no_head_read c.args.declared.now c.args.bindings.now c.args.sections.now c.loop-i.earlier.items c.loop-i.count binding (drop (c.loop-i.i + 1) c.args.bindings.now) section (drop (c.loop-i.i + 1) c.args.sections.now)
    (subst (λ ss. HavePassed c.args.declared.now c.loop-i.earlier.items c.loop-i.count c.args.bindings.now (binding ∷ drop (c.loop-i.i + 1) c.args.bindings.now) c.args.sections.now ss) at'
    (subst (λ bs. HavePassed c.args.declared.now c.loop-i.earlier.items c.loop-i.count c.args.bindings.now bs c.args.sections.now (drop c.loop-i.i c.args.sections.now)) at c.loop-i.invariant))
    (subst (IsHead section) c.in-None.is c.in_ok-head_of.ensures)

pub returns-in-Refused : goal.returns-in-Refused
returns-in-Refused c =
    let binding : ResolvedBinding = c.index-bindings-i.result in
    let section : Section = c.index-sections-i.result in
    let rest : List ResolvedBinding = drop (c.loop-i.i + 1) c.args.bindings.now in
    let others : List Section = drop (c.loop-i.i + 1) c.args.sections.now in
    let is : get_or c.args.bindings.now c.loop-i.i binding ≡ binding = search rules in
    let is' : get_or c.args.sections.now c.loop-i.i section ≡ section = search rules in
    let at = rest_is c.args.bindings.now c.loop-i.i binding c.loop-i-test.true is in
    let at' = rest_is c.args.sections.now c.loop-i.i section c.if-i-sections.false is' in
    let it : HavePassed c.args.declared.now c.loop-i.earlier.items c.loop-i.count c.args.bindings.now (binding ∷ rest) c.args.sections.now (section ∷ others) =
    subst (λ ss. HavePassed c.args.declared.now c.loop-i.earlier.items c.loop-i.count c.args.bindings.now (binding ∷ rest) c.args.sections.now ss) at'
    (subst (λ bs. HavePassed c.args.declared.now c.loop-i.earlier.items c.loop-i.count c.args.bindings.now bs c.args.sections.now (drop c.loop-i.i c.args.sections.now)) at c.loop-i.invariant) in
    let refused : ℕ = c.in_ok-sum-in-Refused.field-0 in
    let checked : IsChecked (schemes_of (c.args.declared.now ++ c.as_slice.result.now)) binding section c.in-Some.read (Refused c.in-Refused.steps) =
    subst (IsChecked (schemes_of (c.args.declared.now ++ c.as_slice.result.now)) binding section c.in-Some.read) c.in-Refused.is c.in_ok-steps.ensures in
    stopped c.args.declared.now c.args.bindings.now c.args.sections.now c.loop-i.earlier.items c.loop-i.count binding rest section others refused it
    (subst (λ es. HasRefusedStep (schemes_of (c.args.declared.now ++ es)) c.loop-i.count binding section refused) c.as_slice.ensures.value
    (subst (λ r. HasRefusedStep (schemes_of (c.args.declared.now ++ c.as_slice.result.now)) c.loop-i.count binding section r) (sym c.in_ok-sum-in-Refused.ensures) (checked c.loop-i.count)))

pub loop-i-preserved : goal.loop-i-preserved
loop-i-preserved c =
    let binding : ResolvedBinding = c.index-bindings-i.result in
    let section : Section = c.index-sections-i.result in
    let rest : List ResolvedBinding = drop (c.loop-i.i + 1) c.args.bindings.now in
    let others : List Section = drop (c.loop-i.i + 1) c.args.sections.now in
    let is : get_or c.args.bindings.now c.loop-i.i binding ≡ binding = search rules in
    let is' : get_or c.args.sections.now c.loop-i.i section ≡ section = search rules in
    let at = rest_is c.args.bindings.now c.loop-i.i binding c.loop-i-test.true is in
    let at' = rest_is c.args.sections.now c.loop-i.i section c.if-i-sections.false is' in
    let it : HavePassed c.args.declared.now c.loop-i.earlier.items c.loop-i.count c.args.bindings.now (binding ∷ rest) c.args.sections.now (section ∷ others) =
    subst (λ ss. HavePassed c.args.declared.now c.loop-i.earlier.items c.loop-i.count c.args.bindings.now (binding ∷ rest) c.args.sections.now ss) at'
    (subst (λ bs. HavePassed c.args.declared.now c.loop-i.earlier.items c.loop-i.count c.args.bindings.now bs c.args.sections.now (drop c.loop-i.i c.args.sections.now)) at c.loop-i.invariant) in
    let checked : IsChecked (schemes_of (c.args.declared.now ++ c.as_slice.result.now)) binding section c.in-Some.read (Allowed c.in-Allowed.steps) =
    subst (IsChecked (schemes_of (c.args.declared.now ++ c.as_slice.result.now)) binding section c.in-Some.read) c.in-Allowed.is c.in_ok-steps.ensures in
    let allowed = subst (λ es. IsSectionAllowed (schemes_of (c.args.declared.now ++ es)) binding section c.in-Some.read) c.as_slice.ensures.value checked.0 in
    let first : c.in_ok-sum-in-Allowed.field-0 ≡ c.loop-i.count + c.in-Allowed.steps = c.in_ok-sum-in-Allowed.ensures in
    let second : c.in_ok-count-in-Allowed.count ≡ c.in_ok-sum-in-Allowed.field-0 + 1 = c.in_ok-count-in-Allowed.ensures in
    let next : c.in_ok-count-in-Allowed.count ≡ c.loop-i.count + suc c.in-Allowed.steps = omega arith in
    subst (λ es. HavePassed c.args.declared.now es c.in_ok-count-in-Allowed.count c.args.bindings.now rest c.args.sections.now others) (sym c.in_ok-push-in-Allowed.ensures.items)
    (passed_one c.args.declared.now c.args.bindings.now c.args.sections.now c.loop-i.earlier.items c.loop-i.count binding rest section others c.in-Some.read c.in-Allowed.steps c.in_ok-count-in-Allowed.count
    it allowed checked.1 next)

pub returns-then-sections-bindings : goal.returns-then-sections-bindings
returns-then-sections-bindings c =
    let low : c.loop-i.i ≤ length c.args.bindings.now = c.loop-i.auto.i-end in
    let more : length c.args.bindings.now < length c.args.sections.now = c.if-sections-bindings.true in
    surplus_at c.args.declared.now c.args.bindings.now c.args.sections.now c.loop-i.earlier.items c.loop-i.count c.loop-i.i c.loop-i-test.false (omega arith) c.loop-i.invariant

pub returns : goal.returns
returns c =
    let all : length c.args.bindings.now ≤ c.loop-i.i = c.loop-i-test.false in
    let no_more : length c.args.sections.now ≤ length c.args.bindings.now = c.if-sections-bindings.false in
    passed_at_end c.args.declared.now c.args.bindings.now c.args.sections.now c.loop-i.earlier.items c.loop-i.count c.loop-i.i all (omega arith) c.loop-i.invariant
