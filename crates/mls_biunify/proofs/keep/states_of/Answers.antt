use Rattle.std.proofs.Common.{◌++◌, ◌∷◌, [], ◌∙◌, List, ℕ, ap, get_or, sym}
use Rattle.mls_automaton.proofs.Searches.{next-is}
use Rattle.mls_solver.proofs.Relating.{take-all}
use Rattle.mls_biunify.proofs.Regions.{numbers-more}
use Rattle.mls_biunify.proofs.keep.states_of.Goals as goal

pub loop-s-preserved : goal.loop-s-preserved
loop-s-preserved c =
    numbers-more c.loop-s.states.items c.push.new.self.items (record { 0 = get_or c.as_slice-s-items.result.now c.loop-s.s-index 0 }) c.in_ok-push.ensures.items
    ∙ (ap (λ (xs : List ℕ). xs ++ get_or c.as_slice-s-items.result.now c.loop-s.s-index 0 ∷ []) c.loop-s.invariant
    ∙ sym (next-is c.as_slice-s-items.result.now c.loop-s.s-index 0 c.loop-s-test.true))

pub returns : goal.returns
returns c = c.loop-s.invariant ∙ (take-all c.as_slice-s-items.result.now c.loop-s.s-index c.loop-s-test.false ∙ c.as_slice-s-items.ensures)
