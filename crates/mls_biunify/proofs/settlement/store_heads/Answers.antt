use Rattle.std.proofs.Common.{◌≡◌, [], arith}
use Rattle.std.proofs.lemmas.Grind.{common_steps}
use Rattle.mls_biunify.proofs.StoredHeads.{storing-none, storing-next, storing-done, fit-now, popped-less}
use Rattle.mls_biunify.proofs.settlement.store_heads.Goals as goal

pub loop-change-init : goal.loop-change-init
loop-change-init c = storing-none c.args.table.now c.args.heads.items

pub set_head-requires-clause-there : goal.set_head-requires-clause-there
set_head-requires-clause-there c = (fit-now c.args.table.now c.args.heads.items c.loop-change.heads.items c.pop.new.self.items c.loop-change.table c.in-Some.change.0 c.in-Some.change.1 c.requires c.loop-change.invariant c.in-Some.ensures.items).0

pub set_head-requires-clause-states : goal.set_head-requires-clause-states
set_head-requires-clause-states c = (fit-now c.args.table.now c.args.heads.items c.loop-change.heads.items c.pop.new.self.items c.loop-change.table c.in-Some.change.0 c.in-Some.change.1 c.requires c.loop-change.invariant c.in-Some.ensures.items).1

pub set_head-requires-clause-labels : goal.set_head-requires-clause-labels
set_head-requires-clause-labels c = (fit-now c.args.table.now c.args.heads.items c.loop-change.heads.items c.pop.new.self.items c.loop-change.table c.in-Some.change.0 c.in-Some.change.1 c.requires c.loop-change.invariant c.in-Some.ensures.items).2

pub loop-change-preserved : goal.loop-change-preserved
loop-change-preserved c = storing-next c.args.table.now c.args.heads.items c.loop-change.heads.items c.pop.new.self.items c.loop-change.table c.in-Some.change.0 c.in-Some.change.1 c.set_head.new.self c.loop-change.invariant c.in-Some.ensures.items c.set_head.ensures.sets

pub loop-change-smaller : goal.loop-change-smaller
loop-change-smaller c = popped-less c.loop-change.heads.items c.pop.new.self.items c.in-Some.change c.in-Some.ensures.items

pub returns : goal.returns
returns c =
    let none : c.loop-change.heads.items ≡ [] = grind (arith, common_steps) in
    storing-done c.args.table.now c.args.heads.items c.loop-change.heads.items c.loop-change.table none c.loop-change.invariant
