use Rattle.std.proofs.Common.{subst, List}
use Rattle.mls_automaton.specs.declared.automaton.Head.{Head}
use Rattle.mls_automaton.specs.Heads.{IsSameParts}
use Rattle.mls_scheme.proofs.CombinedAll.{all_parts, same-trans}
use Rattle.mls_scheme.proofs.heads.combine_all.Goals as goal

pub loop-alloc-preserved : goal.loop-alloc-preserved
loop-alloc-preserved c = (
  same-trans (all_parts c.args.p c.in_ok-left.left.items) (all_parts c.args.p c.loop-alloc.left.items) (all_parts c.args.p c.args.heads.items)
      (subst (λ (hs : List Head). IsSameParts (all_parts c.args.p c.in_ok-left.left.items) (all_parts c.args.p hs)) c.as_slice.ensures.value c.in_ok-left.ensures.same)
      c.loop-alloc.invariant.0,
  c.in_ok-left.ensures.labels,
)
