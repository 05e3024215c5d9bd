use Rattle.std.proofs.Common.{◌∙◌, rules}
use Rattle.mls_print.specs.steps.Grouping.{set_in_record, grown}
use Rattle.mls_print.proofs.Grouped.{sets_more}
use Rattle.mls_print.proofs.record.grouped.Goals as goal

pub loop-s-preserved : goal.loop-s-preserved
loop-s-preserved c = λ label.
    let a = c.args.automaton.now in
    c.in_ok-add_record.ensures label
    ∙ ((λ i. grown (set_in_record label (c.head.ensures i).fields) (c.loop-s.invariant label i))
    ∙ sets_more a label c.args.set.now c.loop-s.s-index 0 (search rules))
