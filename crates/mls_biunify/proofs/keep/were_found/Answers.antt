use Rattle.std.proofs.Common.{List, ℕ, All, get_or, rules, subst}
use Rattle.mls_solver.proofs.Relating.{take-all}
use Rattle.mls_biunify.specs.steps.Marking.{WasFound}
use Rattle.mls_biunify.proofs.KeptTables.{found-first}
use Rattle.mls_biunify.proofs.keep.were_found.Goals as goal

pub loop-s-preserved : goal.loop-s-preserved
loop-s-preserved c =
    let here : WasFound c.args.found.now (get_or c.args.states.now c.loop-s.s-index 0) = search rules in
    found-first c.args.found.now c.args.states.now c.loop-s.s-index c.loop-s-test.true c.loop-s.invariant here

pub returns : goal.returns
returns c _ = subst (λ (xs : List ℕ). All (WasFound c.args.found.now) xs) (take-all c.args.states.now c.loop-s.s-index c.loop-s-test.false) c.loop-s.invariant
