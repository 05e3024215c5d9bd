use Rattle.std.proofs.Common.{◌∙◌, ◌++◌, ◌↔◌, ℕ, List, Contains, ap, subst}
use Rattle.mls_infer.proofs.MetTogether.{ends_all, ends_step}
use Rattle.mls_infer.proofs.meets.ends_together.Goals as goal

pub loop-entry-preserved : goal.loop-entry-preserved
loop-entry-preserved c =
    ends_step c.args.live.now.table c.args.entries.now c.loop-entry.entry-index _ c.loop-entry-test.true c.loop-entry.numbers.items c.extend_from_slice.new.self.items c.after.result.now
    c.loop-entry.invariant (c.in_ok-extend_from_slice.ensures.items ∙ ap (λ (ns : List ℕ). c.loop-entry.numbers.items ++ ns) c.as_slice.ensures.members) c.after.ensures.partners

pub returns : goal.returns
returns c =
    ends_all c.args.live.now.table c.args.entries.now c.loop-entry.entry-index c.loop-entry-test.false c.loop-entry.numbers.items c.loop-entry.invariant
    c.sort_unstable.new.self.items c.sort_unstable.ensures.permutation c.in_ok-ends.ends
    (subst (λ (ns : List ℕ). (s : ℕ) → Contains c.in_ok-ends.ends s ↔ Contains ns s) c.as_slice-2.ensures.value c.in_ok-ends.ensures)
