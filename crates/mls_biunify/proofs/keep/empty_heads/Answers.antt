use Rattle.std.proofs.Common.{get_or, subst}
use Rattle.mls_automaton.specs.declared.automaton.Head.{Head}
use Rattle.mls_biunify.specs.steps.Tables.{SetsHead}
use Rattle.mls_biunify.proofs.KeptTables.{emptied-none, emptied-more}
use Rattle.mls_biunify.proofs.keep.empty_heads.Goals as goal

pub loop-s-init : goal.loop-s-init
loop-s-init c = emptied-none c.args.table.now c.args.states.now

pub loop-s-preserved : goal.loop-s-preserved
loop-s-preserved c =
    emptied-more c.args.table.now c.loop-s.table c.set_head.new.self c.args.states.now c.loop-s.s-index c.loop-s-test.true c.loop-s.invariant
    (subst (λ (h : Head). SetsHead c.loop-s.table c.set_head.new.self (get_or c.args.states.now c.loop-s.s-index 0) h) c.empty.ensures c.set_head.ensures.sets)
