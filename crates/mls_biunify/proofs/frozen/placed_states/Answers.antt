use Rattle.std.proofs.Common.{sym, subst}
use Rattle.mls_automaton.specs.declared.automaton.Head.{Head}
use Rattle.mls_automaton.specs.steps.Numbers.{KeepsOrderInHead}
use Rattle.mls_biunify.specs.steps.Renaming.{place_among}
use Rattle.mls_biunify.proofs.frozen.placed_states.Goals as goal

pub rename_head-requires-clause-order : goal.rename_head-requires-clause-order
rename_head-requires-clause-order c =
    subst (λ (h : Head). KeepsOrderInHead (place_among c.args.numbers.now) h) (sym c.head-head.ensures.head)
    (c.requires.order c.loop-s.s-index 0 c.loop-s-test.true)
