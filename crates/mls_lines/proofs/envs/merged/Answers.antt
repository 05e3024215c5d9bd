use Rattle.std.proofs.Common.{◌≡◌, ◌<◌, ◌≤◌, ◌+◌, ◌++◌, List, inl, inr, arith, drop, map, length, sym, ap, ◌∙◌, subst}
use Rattle.mls_deriv.specs.declared.derivation.BinderNode.{BinderNode}
use Rattle.mls_lines.specs.declared.envs.Needed.{Needed}
use Rattle.mls_lines.specs.declared.envs.Needed.TheVariants as needed
use Rattle.mls_lines.specs.Environments.{AreNeeded}
use Rattle.mls_lines.proofs.MergedEnvironments.{Completes, complete_none, complete_more, needs_all, next_counts, rest_whole}
use Rattle.mls_lines.proofs.envs.merged.Goals as goal
use Rattle.mls_lines.proofs.envs.merged.Goals.{then-loop-i-test+else-j-second, else-loop-i-test}

pub loop-i-init : goal.loop-i-init
loop-i-init c = (subst (λ (all : List Needed). Completes c.args.first.now c.args.second.now 0 0 all) (sym c.new-all.ensures) (complete_none c.args.first.now c.args.second.now), omega arith, omega arith)

pub loop-i-smaller : goal.loop-i-smaller
loop-i-smaller c =
    let low : c.loop-i.i < length c.args.first.now = c.loop-i-test.true in
    let low' : c.loop-i.j < length c.args.second.now = c.if-j-second.true in
    let counts = next_counts _ _ c.next_of-next.result.0 c.next_of-next.result.1 c.next_of-next.result.2 c.next_of-next.ensures in
    omega (arith, low, low', counts.0, counts.1, counts.2)

pub loop-i-preserved : goal.loop-i-preserved
loop-i-preserved c =
    let low : c.loop-i.i < length c.args.first.now = c.loop-i-test.true in
    let low' : c.loop-i.j < length c.args.second.now = c.if-j-second.true in
    let counts = next_counts _ _ c.next_of-next.result.0 c.next_of-next.result.1 c.next_of-next.result.2 c.next_of-next.ensures in (
      subst (λ (all : List Needed). Completes c.args.first.now c.args.second.now (c.loop-i.i + c.next_of-next.result.1) (c.loop-i.j + c.next_of-next.result.2) all) (sym c.in_ok-push.ensures.ok)
          (complete_more c.args.first.now c.args.second.now c.loop-i.i c.loop-i.j (record { binder = 0; node = record { 0 = 0 } }) c.loop-i.all low low' c.loop-i.invariant.0 c.next_of-next.result.0 c.next_of-next.result.1 c.next_of-next.result.2 c.next_of-next.ensures),
      omega (arith, low, counts.1),
      omega (arith, low', counts.2),
    )

pub returns : goal.returns
returns c = λ rising rising'.
    let d : List BinderNode = c.args.first.now in
    let e : List BinderNode = c.args.second.now in
    let first : c.push_alone.new.all ≡ c.loop-i.all ++ map needed.One (drop c.loop-i.i d) =
    c.in_ok-push_alone.ensures ∙ ap (λ (rest : List BinderNode). c.loop-i.all ++ map needed.One rest) (rest_whole d c.loop-i.i) in
    let second : c.push_alone-2.new.all ≡ c.push_alone.new.all ++ map needed.One (drop c.loop-i.j e) =
    c.in_ok-push_alone-2.ensures ∙ ap (λ (rest : List BinderNode). c.push_alone.new.all ++ map needed.One rest) (rest_whole e c.loop-i.j) in
    subst (AreNeeded d e) (sym (second ∙ ap (λ (all : List Needed). all ++ map needed.One (drop c.loop-i.j e)) first))
    (needs_all d e c.loop-i.i c.loop-i.j c.loop-i.all
    (elim c.loop-i-test.branch [
      | then-loop-i-test+else-j-second w ↦ (let past : length e ≤ c.loop-i.j = omega (arith, w.if-j-second.false) in inr past)
      | else-loop-i-test w ↦ (let past : length d ≤ c.loop-i.i = omega (arith, w.loop-i-test.false) in inl past)
    ])
    c.loop-i.invariant.0 rising rising')
