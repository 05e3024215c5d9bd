use Rattle.std.proofs.Common.{◌≡◌, ◌⊎◌, ◌↔◌, [], ℕ, List, take, refl, Contains, subst, sym}
use Rattle.mls_solver.specs.steps.Numbers.{ByOne}
use Rattle.mls_solver.proofs.Settling.{grow-none, grow-more, grow-all}
use Rattle.mls_biunify.proofs.KeptTables.{unfound-all}
use Rattle.mls_biunify.proofs.keep.unfound.Goals as goal

pub loop-s-init : goal.loop-s-init
loop-s-init c =
    subst (λ (xs : List ℕ). (j : ℕ) → Contains xs j ↔ Contains [] j ⊎ ByOne (take 0 c.args.states.now) (λ s k. (k ≡ s) × (Contains c.args.found.now k → ⊥)) j) (sym c.in_ok-gone.ensures.items)
    (grow-none (λ s k. (k ≡ s) × (Contains c.args.found.now k → ⊥)) [] c.args.states.now)

pub loop-s-preserved : goal.loop-s-preserved
loop-s-preserved c =
    grow-more (λ s k. (k ≡ s) × (Contains c.args.found.now k → ⊥)) [] c.args.states.now c.loop-s.s-index c.loop-s-test.true c.loop-s.gone.items c.push_unfound.new.gone.items c.loop-s.invariant c.in_ok-push_unfound.ensures

pub returns : goal.returns
returns c =
    unfound-all c.args.states.now c.args.found.now c.loop-s.gone.items c.loop-s.gone.items refl
    (grow-all (λ s k. (k ≡ s) × (Contains c.args.found.now k → ⊥)) [] c.args.states.now c.loop-s.s-index c.loop-s-test.false c.loop-s.gone.items c.loop-s.invariant)
