use Rattle.std.proofs.Common.{ℕ, List, Vec, Global, subst}
use Rattle.std.specs.Prelude.{Option, IfSome}
use Rattle.mls_shape.specs.steps.Classes.{KeepsAlike}
use Rattle.mls_shape.specs.steps.Upwards.{AreJoined}
use Rattle.mls_shape.proofs.FromLast.{joined_keep}
use Rattle.mls_shape.proofs.classes.first_classes.Goals as goal

pub returns-in-Some : goal.returns-in-Some
returns-in-Some c =
    let keeps : KeepsAlike c.args.a.now c.in-Some.found.items = subst (λ (o : Option (Vec ℕ Global)). IfSome o (λ v. KeepsAlike c.args.a.now v.items)) c.in-Some.is c.in_ok-found.ensures in
    joined_keep c.args.a.now c.in-Some.found.items c.in_ok-first.first.items
    (subst (λ n. AreJoined n c.in-Some.found.items c.in_ok-first.first.items) c.len.ensures.len
    (subst (λ (xs : List ℕ). AreJoined c.len.result xs c.in_ok-first.first.items) c.as_slice.ensures.value c.in_ok-first.ensures)) keeps

pub returns : goal.returns
returns c =
    joined_keep c.args.a.now c.in_ok-found-2.found.items c.in_ok-first-2.first.items
    (subst (λ n. AreJoined n c.in_ok-found-2.found.items c.in_ok-first-2.first.items) c.len-3.ensures.len
    (subst (λ (xs : List ℕ). AreJoined c.len-3.result xs c.in_ok-first-2.first.items) c.as_slice-2.ensures.value c.in_ok-first-2.ensures)) c.in_ok-found-2.ensures
