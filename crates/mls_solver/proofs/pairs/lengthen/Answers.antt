use Rattle.std.proofs.Common.{◌≡◌, ◌<◌, ◌+◌, ◌++◌, ◌∷◌, [], ℕ, length, arith, rules}
use Rattle.std.specs.Prelude.{◌↔◌}
use Rattle.mls_solver.specs.steps.Finding.{HasMember}
use Rattle.mls_solver.proofs.Finding.{empty_more}
use Rattle.mls_solver.proofs.pairs.lengthen.Goals as goal

pub loop-alloc-smaller : goal.loop-alloc-smaller
loop-alloc-smaller c =
    let longer : length c.push.new.self.items ≡ length c.loop-alloc.sets.items + 1 = search rules in
    let low : length c.loop-alloc.sets.items < c.args.number + 1 = search rules in
    omega arith

pub loop-alloc-preserved : goal.loop-alloc-preserved
loop-alloc-preserved c =
    let is : c.push.new.self.items ≡ c.loop-alloc.sets.items ++ [] ∷ [] = search rules in
    let same : (k m : ℕ) → HasMember c.push.new.self.items k m ↔ HasMember c.loop-alloc.sets.items k m = empty_more c.loop-alloc.sets.items c.push.new.self.items is in
    λ k m. (
      λ it. (c.loop-alloc.invariant k m).0 ((same k m).0 it),
      λ it. (same k m).1 ((c.loop-alloc.invariant k m).1 it),
    )
