use Rattle.std.proofs.Common.{◌∙◌, ◌<◌, rules, length}
use Rattle.mls_print.proofs.VariableNumbers.{found_more}
use Rattle.mls_print.proofs.variables.numbers_of.Goals as goal

pub loop-s-preserved : goal.loop-s-preserved
loop-s-preserved c =
    let low : c.loop-s.s-index < length c.args.states.now = search rules in
    c.in_ok-push_some.ensures ∙ found_more c.args.numbers.now c.args.states.now c.loop-s.found.items c.loop-s.s-index _ low (c.requires c.loop-s.s-index 0 low) c.loop-s.invariant
