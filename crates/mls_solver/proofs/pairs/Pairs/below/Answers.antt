use Rattle.std.proofs.Common.{◌≡◌, ℕ, List, Contains, subst, rules}
use Rattle.std.specs.Prelude.{◌↔◌}
use Rattle.mls_solver.specs.steps.Finding.{HasMember}
use Rattle.mls_solver.proofs.Finding.{by_pairs}
use Rattle.mls_solver.proofs.pairs.Pairs.below.Goals as goal

pub returns : goal.returns
returns c =
    let is : c.self.inside.list.items ≡ c.args.self.now.pairs = search rules in
    let sets : c.as_slice.result.now ≡ c.self.inside.below.items = search rules in
    λ n. by_pairs c.self.inside.list.items c.args.self.now.pairs is c.args.p.0 n _ _
    (subst (λ (xs : List (List ℕ)). Contains c.members.result.now n ↔ HasMember xs c.args.p.0 n) sets (c.members.ensures n)) (c.self.invariant c.args.p.0 n)
