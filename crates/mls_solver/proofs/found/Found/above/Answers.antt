use Rattle.std.proofs.Common.{◌≡◌, ℕ, List, Contains, subst, rules}
use Rattle.std.specs.Prelude.{◌↔◌}
use Rattle.mls_solver.specs.steps.Finding.{HasMember}
use Rattle.mls_solver.proofs.Finding.{by_pairs}
use Rattle.mls_solver.proofs.found.Found.above.Goals as goal

pub returns : goal.returns
returns c =
    let is : c.self.inside.forward.pairs ≡ c.args.self.now.pairs = search rules in
    let sets : c.as_slice.result.now ≡ c.self.inside.above.items = search rules in
    λ p. by_pairs c.self.inside.forward.pairs c.args.self.now.pairs is p c.args.n.0 _ _
    (subst (λ (xs : List (List ℕ)). Contains c.members.result.now p ↔ HasMember xs c.args.n.0 p) sets (c.members.ensures p)) (c.self.invariant p c.args.n.0)
