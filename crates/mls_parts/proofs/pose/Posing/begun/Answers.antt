use Rattle.std.proofs.Common.{ℕ, List, take, sym, subst}
use Rattle.std.proofs.lemmas.List.{take_more}
use Rattle.mls_parts.specs.PosedParts.{IsBegun}
use Rattle.mls_parts.proofs.BegunPosings.{begun_none, begun_next}
use Rattle.mls_parts.proofs.pose.Posing.begun.Goals as goal

pub loop-binder-init : goal.loop-binder-init
loop-binder-init c = begun_none _ c.in_ok-automaton.ensures c.new.ensures c.new-4.ensures c.new-2.ensures.empty c.new-3.ensures.empty c.new-5.ensures.empty c.new-6.ensures.empty

pub loop-binder-preserved : goal.loop-binder-preserved
loop-binder-preserved c =
    let binders : List ℕ = c.args.binders.now in
    let i : ℕ = c.loop-binder.binder-index in
    subst (λ (xs : List ℕ). IsBegun xs c.push_binder_state.new.self) (sym (take_more binders i 0 c.loop-binder-test.true))
    (begun_next (take i binders) c.loop-binder.posing c.loop-binder.invariant _ c.push_binder_state.new.self c.in_ok-push_binder_state.ensures)
