use Rattle.std.proofs.Common.{◌≡◌, Contains, subst, rules}
use Rattle.std.specs.Prelude.{◌↔◌}
use Rattle.mls_solver.specs.Rooms.{Room, Holds}
use Rattle.mls_solver.proofs.found.Found.below.Goals as goal

pub returns : goal.returns
returns c =
    let is : c.self.inside.forward ≡ c.args.self.now = search rules in
    λ n. subst (λ (room : Room). Contains c.below.result.now n ↔ Holds room c.args.p.0 n) is (c.below.ensures n)
