use Rattle.std.proofs.Common.{◌≡◌, ◌∙◌, ◌+◌, ◌-◌, ℕ, suc, length, arith, sym, subst}
use Rattle.mls_shape.specs.steps.Upwards.{AreKeyed, IsLeafOrLast}
use Rattle.mls_shape.proofs.FromLast.{others_none, others_more, others_skip}
use Rattle.mls_shape.proofs.upwards.add_others.Goals as goal
use Rattle.mls_shape.proofs.upwards.add_others.Goals.{then-not-is_leaf+in_ok-classify, else-not-is_leaf}

pub loop-k-init : goal.loop-k-init
loop-k-init c = others_none c.args.a.now c.requires.deterministic c.args.classes.now.items c.args.known.now c.requires.keyed

pub loop-k-preserved : goal.loop-k-preserved
loop-k-preserved c =
    let a = c.args.a.now in
    let k = c.loop-k.k in
    let s : ℕ = c.len-count.result - 1 - c.loop-k.k in
    let place : suc (s + k) ≡ length a.states = omega (arith, c.loop-k-test.true, c.loop-k.auto.k-end, c.len-count.ensures.len) in
    elim c.if-not-is_leaf.branch [
      | then-not-is_leaf+in_ok-classify w ↦
          subst (λ v. AreKeyed a (IsLeafOrLast a (k + 1)) v.items c.if-not-is_leaf.known) (sym w.classes-is)
          (subst (AreKeyed a (IsLeafOrLast a (k + 1)) w.classify.new.classes.items) (sym w.known-is)
          (others_more a c.requires.deterministic c.requires.later k s c.loop-k.classes.items w.classify.new.classes.items c.loop-k.known w.classify.new.known place (sym c.is_leaf.ensures ∙ w.if-not-is_leaf.true) c.loop-k.invariant w.in_ok-classify.ensures))
      | else-not-is_leaf w ↦
          subst (λ v. AreKeyed a (IsLeafOrLast a (k + 1)) v.items c.if-not-is_leaf.known) (sym w.classes-is)
          (subst (AreKeyed a (IsLeafOrLast a (k + 1)) c.loop-k.classes.items) (sym w.known-is)
          (others_skip a c.requires.deterministic k s c.loop-k.classes.items c.loop-k.known place (sym c.is_leaf.ensures ∙ w.if-not-is_leaf.false) c.loop-k.invariant))
    ]

pub returns : goal.returns
returns c =
    let all : c.loop-k.k ≡ length c.args.a.now.states = omega (arith, c.loop-k-test.false, c.loop-k.auto.k-end, c.len-count.ensures.len) in
    subst (λ k. AreKeyed c.args.a.now (IsLeafOrLast c.args.a.now k) c.loop-k.classes.items c.loop-k.known) all c.loop-k.invariant
