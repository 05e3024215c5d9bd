use Rattle.std.proofs.Common.{◌≡◌, length, subst, arith}
use Rattle.mls_shape.specs.steps.Classes.{class_in, IsKeyOf, IsNumbering, LookAlike}
use Rattle.mls_shape.proofs.Numberings.{numbering_none, numbering_more, numbered_classes}
use Rattle.mls_shape.proofs.StateKeys.{key_unique, key_alike, alike_key}
use Rattle.mls_shape.proofs.classes.refined.Goals as goal

pub loop-s-init : goal.loop-s-init
loop-s-init c =
    numbering_none (IsKeyOf c.args.a.now (class_in c.args.classes.now)) c.new-numbering.result c.new-numbering.ensures.numbers c.new-numbering.ensures.chosen c.new-numbering.ensures.known

pub add-requires : goal.add-requires
add-requires c = λ key k e. (c.loop-s.invariant.found key k e).0

pub loop-s-preserved : goal.loop-s-preserved
loop-s-preserved c =
    numbering_more (IsKeyOf c.args.a.now (class_in c.args.classes.now)) c.loop-s.s c.loop-s.numbering c.add.new.self c.loop-s.invariant c.in_ok-key.key c.in_ok-key.ensures c.in_ok-add.ensures

pub returns : goal.returns
returns c =
    let all : c.loop-s.s ≡ length c.args.a.now.states = omega (arith, c.loop-s-test.false, c.loop-s.auto.s-end, c.len-s-end.ensures.len) in
    numbered_classes (IsKeyOf c.args.a.now (class_in c.args.classes.now)) c.args.a.now (LookAlike c.args.a.now c.args.classes.now)
    (key_unique c.args.a.now c.requires.closed c.requires.deterministic (class_in c.args.classes.now))
    (key_alike c.args.a.now c.requires.closed c.requires.deterministic (class_in c.args.classes.now))
    (alike_key c.args.a.now c.requires.closed c.requires.deterministic (class_in c.args.classes.now))
    c.loop-s.numbering
    (subst (λ n. IsNumbering (IsKeyOf c.args.a.now (class_in c.args.classes.now)) n c.loop-s.numbering) all c.loop-s.invariant)
