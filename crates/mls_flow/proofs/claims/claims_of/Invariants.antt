use Rattle.std.proofs.Common.{◌≡◌, ◌≤◌, length}
use Rattle.mls_flow.specs.Needs.{AreClaimsOf, Extends, IsPair}
use Rattle.mls_flow.proofs.claims.claims_of.Given as goal

abbrev pub invariant-loop-next : goal.invariant-loop-next
invariant-loop-next l =
    (l.pairs.states ≡ l.fn.pairs.states)
    × Extends (IsPair l.a) l.fn.pairs.list l.pairs.list
    × AreClaimsOf l.a l.pairs.list l.claims.items
    × (length l.claims.items ≡ l.next)
    × (l.next ≤ length l.pairs.list)
