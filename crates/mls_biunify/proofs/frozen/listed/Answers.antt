use Rattle.std.proofs.Common.{◌++◌, ◌∙◌, ap, sym}
use Rattle.std.specs.Map.Iter.{deref}
use Rattle.std.proofs.lemmas.Map.Iter.{rest_more, rest_all}
use Rattle.mls_solver.proofs.Settling.{listed_more, listed_all}
use Rattle.mls_biunify.proofs.frozen.listed.Goals as goal

pub loop-number-init : goal.loop-number-init
loop-number-init c = sym c.into_iter-number-iterator.ensures.into_iter_gives.0 ∙ sym (ap (λ xs. xs ++ c.into_iter-number-iterator.result) c.new-list.ensures.items)

pub loop-number-preserved : goal.loop-number-preserved
loop-number-preserved c =
    listed_more c.args.set.now.keys c.loop-number.number-iterator c.next.new.self c.loop-number.list.items c.push.new.self.items c.in-Some.number.now c.loop-number.invariant
    (rest_more deref c.loop-number.number-iterator c.next.new.self c.next.result c.in-Some.number c.in-Some.is c.next.ensures.steps) c.in_ok-push.ensures.items

pub returns : goal.returns
returns c =
    listed_all c.args.set.now.keys c.loop-number.number-iterator c.loop-number.list.items c.loop-number.invariant
    (rest_all deref c.loop-number.number-iterator c.next.new.self c.next.result c.in-None.is c.next.ensures.steps)
