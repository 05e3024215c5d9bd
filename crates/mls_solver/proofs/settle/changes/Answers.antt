use Rattle.std.proofs.Common.{◌≡◌, ◌∷◌}
use Rattle.std.specs.Map.Iter.{deref}
use Rattle.std.proofs.lemmas.Map.Iter.{rest_more, rest_all}
use Rattle.mls_solver.specs.Rooms.{Holds}
use Rattle.mls_solver.proofs.Settling.{changes-none, changes-more, left-all, left-next, left-less, left-none}
use Rattle.mls_solver.proofs.settle.changes.Goals as goal

pub loop-s-init : goal.loop-s-init
loop-s-init c = record {
  changes = changes-none c.args.a.now (Holds c.args.found.now) c.new-all.result c.new-all.ensures;
  left = left-all c.args.touched.now.keys c.into_iter-s-iterator.result c.new-all.result c.into_iter-s-iterator.ensures.into_iter_gives.0;
}

pub change_of-requires-clause-in_range : goal.change_of-requires-clause-in_range
change_of-requires-clause-in_range c =
    let is : c.loop-s.s-iterator ≡ c.in-Some.s.now ∷ c.next.new.self = rest_more deref c.loop-s.s-iterator c.next.new.self c.next.result c.in-Some.s c.in-Some.is c.next.ensures.steps in
    c.requires.in_range c.in-Some.s.now (left-next c.args.touched.now.keys c.loop-s.s-iterator c.next.new.self c.loop-s.all c.in-Some.s.now is c.loop-s.invariant.left)

pub loop-s-preserved : goal.loop-s-preserved
loop-s-preserved c =
    let is : c.loop-s.s-iterator ≡ c.in-Some.s.now ∷ c.next.new.self = rest_more deref c.loop-s.s-iterator c.next.new.self c.next.result c.in-Some.s c.in-Some.is c.next.ensures.steps in
    record {
      changes = changes-more c.args.a.now (Holds c.args.found.now) c.loop-s.all c.push.new.self c.in_ok-change.change c.in_ok-push.ensures.ok c.loop-s.invariant.changes c.in_ok-change.ensures.change;
      left = left-less c.args.touched.now.keys c.loop-s.s-iterator c.next.new.self c.in-Some.s.now is c.loop-s.all c.push.new.self c.in_ok-change.change c.in_ok-push.ensures.ok c.loop-s.invariant.left c.in_ok-change.ensures.state;
    }

pub returns-clause-changes : goal.returns-clause-changes
returns-clause-changes c = c.loop-s.invariant.changes

pub returns-clause-all : goal.returns-clause-all
returns-clause-all c =
    left-none c.args.touched.now.keys c.loop-s.s-iterator c.loop-s.all
    (rest_all deref c.loop-s.s-iterator c.next.new.self c.next.result c.in-None.is c.next.ensures.steps) c.loop-s.invariant.left
