use Rattle.std.proofs.Common.{◌≡◌, List, rules, subst, ℕ}
use Rattle.mls_shape.specs.steps.Classes.{AreApart, AreClassesBy, LookAlike}
use Rattle.mls_shape.proofs.Settled.{finer_keeps, settled, settled_apart}
use Rattle.mls_shape.proofs.classes.by_rounds.Goals as goal

pub loop-init : goal.loop-init
loop-init c = c.requires.first

pub loop-preserved : goal.loop-preserved
loop-preserved c =
    finer_keeps c.args.a.now c.requires.closed c.loop.classes.items c.in_ok-finer.finer
    (subst (λ (xs : List ℕ). AreClassesBy c.args.a.now (LookAlike c.args.a.now xs) c.in_ok-finer.finer) c.as_slice.ensures.value c.in_ok-finer.ensures)
    c.loop.invariant

pub returns-then-are_apart : goal.returns-then-are_apart
returns-then-are_apart c =
    settled_apart c.args.a.now c.requires.closed c.loop.classes.items c.in_ok-finer.finer
    (subst (λ (xs : List ℕ). AreClassesBy c.args.a.now (LookAlike c.args.a.now xs) c.in_ok-finer.finer) c.as_slice.ensures.value c.in_ok-finer.ensures)
    c.loop.invariant (subst AreApart c.as_slice-in-loop.ensures.value (c.are_apart.ensures c.if-are_apart.true))

pub returns-then-eq : goal.returns-then-eq
returns-then-eq c =
    let same : c.in_ok-finer.finer.numbers.items ≡ c.loop.classes.items = search rules in
    settled c.args.a.now c.requires.closed c.loop.classes.items c.in_ok-finer.finer
    (subst (λ (xs : List ℕ). AreClassesBy c.args.a.now (LookAlike c.args.a.now xs) c.in_ok-finer.finer) c.as_slice.ensures.value c.in_ok-finer.ensures)
    c.loop.invariant same
