use Rattle.std.proofs.Common.{◌↔◌, ◌⊎◌, ℕ, Contains, sym, ◌∙◌, subst}
use Rattle.mls_automaton.specs.Sets.{Rises}
use Rattle.mls_automaton.specs.steps.Merging.{AreMerged}
use Rattle.mls_automaton.proofs.MergedSets.{merged-next, merged-all}
use Rattle.mls_automaton.proofs.state_set.StateSet.union.Goals as goal

pub loop-i-preserved : goal.loop-i-preserved
loop-i-preserved c =
    let first : Rises c.as_slice-first.result.now = subst Rises (sym c.as_slice-first.ensures) c.self.invariant in
    let second : Rises c.as_slice-second.result.now = subst Rises (sym c.as_slice-second.ensures) c.other.invariant in
    subst (λ xs. AreMerged c.as_slice-first.result.now c.as_slice-second.result.now c.past-i.result c.past-j.result xs) (sym c.in_ok-push.ensures.ok)
    (merged-next c.as_slice-first.result.now c.as_slice-second.result.now c.loop-i.both c.loop-i.i c.loop-i.j c.least-s.result c.loop-i.invariant c.least-s.ensures.there c.past-i.result c.past-j.result first second c.past-i.ensures c.past-j.ensures)

pub returns : goal.returns
returns c =
    subst (λ xs. (j : ℕ) → Contains c.loop-i.both j ↔ Contains c.args.self.now j ⊎ Contains xs j) (c.as_slice-second.ensures ∙ c.other.view_is)
    (subst (λ xs. (j : ℕ) → Contains c.loop-i.both j ↔ Contains xs j ⊎ Contains c.as_slice-second.result.now j) (c.as_slice-first.ensures ∙ c.self.view_is)
    (merged-all c.as_slice-first.result.now c.as_slice-second.result.now c.loop-i.both c.loop-i.i c.loop-i.j c.loop-i.invariant c.if-i-first.false c.if-j-second.false))
