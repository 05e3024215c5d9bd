use Rattle.std.proofs.Common.{◌≡◌, take, Contains}
use Rattle.mls_flow.specs.Needs.{AreNumbers, Extends}
use Rattle.mls_flow.proofs.claims.number_each.Given as goal

abbrev pub invariant-loop-need : goal.invariant-loop-need
invariant-loop-need l =
    (l.pairs.states ≡ l.fn.pairs.states)
    × Extends (Contains l.needs) l.fn.pairs.list l.pairs.list
    × AreNumbers l.pairs.list l.numbers (take l.need-index l.needs)
