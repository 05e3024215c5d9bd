use Rattle.std.proofs.Common.{◌≡◌, ◌∙◌, ◌+◌, length, arith, sym, subst}
use Rattle.mls_shape.specs.steps.Upwards.{AreKeyed, IsLeafBelow}
use Rattle.mls_shape.proofs.FromLast.{keyed_none, leaf_more, leaf_skip}
use Rattle.mls_shape.proofs.upwards.add_leaves.Goals as goal
use Rattle.mls_shape.proofs.upwards.add_leaves.Goals.{then-is_leaf+in_ok-classify, else-is_leaf}

pub loop-s-init : goal.loop-s-init
loop-s-init c = keyed_none c.args.a.now c.args.classes.now.items c.args.known.now c.requires.size

pub loop-s-preserved : goal.loop-s-preserved
loop-s-preserved c =
    let a = c.args.a.now in
    let s = c.loop-s.s in
    elim c.if-is_leaf.branch [
      | then-is_leaf+in_ok-classify w ↦
          subst (λ v. AreKeyed a (IsLeafBelow a (s + 1)) v.items c.if-is_leaf.known) (sym w.classes-is)
          (subst (AreKeyed a (IsLeafBelow a (s + 1)) w.classify.new.classes.items) (sym w.known-is)
          (leaf_more a c.requires.deterministic s c.loop-s.classes.items w.classify.new.classes.items c.loop-s.known w.classify.new.known (omega (arith, c.loop-s-test.true, c.len-s-end.ensures.len)) c.loop-s.invariant w.in_ok-classify.ensures))
      | else-is_leaf w ↦
          subst (λ v. AreKeyed a (IsLeafBelow a (s + 1)) v.items c.if-is_leaf.known) (sym w.classes-is)
          (subst (AreKeyed a (IsLeafBelow a (s + 1)) c.loop-s.classes.items) (sym w.known-is)
          (leaf_skip a c.requires.deterministic s c.loop-s.classes.items c.loop-s.known (sym c.is_leaf.ensures ∙ w.if-is_leaf.false) c.loop-s.invariant))
    ]

pub returns : goal.returns
returns c =
    let all : c.loop-s.s ≡ length c.args.a.now.states = omega (arith, c.loop-s-test.false, c.loop-s.auto.s-end, c.len-s-end.ensures.len) in
    subst (λ k. AreKeyed c.args.a.now (IsLeafBelow c.args.a.now k) c.loop-s.classes.items c.loop-s.known) all c.loop-s.invariant
