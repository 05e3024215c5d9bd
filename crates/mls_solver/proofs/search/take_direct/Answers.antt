use Rattle.std.proofs.Common.{◌≡◌, inl, inr}
use Rattle.mls_solver.specs.Rooms.{Holds}
use Rattle.mls_solver.specs.steps.Chains.{ByDirect, ByEdgeTo}
use Rattle.mls_solver.proofs.Relating.{Relates-then}
use Rattle.mls_solver.proofs.search.take_direct.Goals as goal

pub returns : goal.returns
returns c =
    Relates-then c.args.found.now c.add_before.new.found c.add.new.self
    (ByEdgeTo c.args.a.now (Holds c.args.found.now) c.args.pair.0.0 c.args.pair.1.0) (λ p n. (p ≡ c.args.pair.0.0) × (n ≡ c.args.pair.1.0))
    (ByDirect c.args.a.now (Holds c.args.found.now) c.args.pair.0.0 c.args.pair.1.0) c.in_ok-add_before.ensures c.in_ok-add.ensures
    (λ p n it. inl it) (λ p n it. inr it) (λ p n it. it)
