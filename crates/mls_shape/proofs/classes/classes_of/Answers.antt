use Rattle.std.proofs.Common.{◌≡◌, length, rules, subst}
use Rattle.mls_shape.specs.steps.Classes.{AreApart}
use Rattle.mls_shape.specs.steps.Upwards.{AreCounted}
use Rattle.mls_shape.proofs.FromLast.{own_classes}
use Rattle.mls_shape.proofs.classes.classes_of.Goals as goal

pub returns-then-are_apart : goal.returns-then-are_apart
returns-then-are_apart c =
    let size : length c.in_ok-first.first.items ≡ length c.args.a.now.states = search rules in
    own_classes c.args.a.now (record { numbers = c.in_ok-first.first; chosen = c.in_ok-chosen.chosen }) size
    (subst AreApart c.as_slice.ensures.value (c.are_apart.ensures c.if-are_apart.true)) c.in_ok-first.ensures
    (subst (λ n. AreCounted n c.in_ok-chosen.chosen.items) c.len-then-are_apart.ensures.len c.in_ok-chosen.ensures)
