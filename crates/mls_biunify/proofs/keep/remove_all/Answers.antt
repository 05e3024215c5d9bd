use Rattle.std.proofs.Common.{◌≡◌, ◌∙◌, false, [], get_or, sym, arith}
use Rattle.std.proofs.lemmas.Grind.{common_steps}
use Rattle.mls_biunify.proofs.Removals.{removing-none, removing-skip, removing-unnamed, removing-unlinked, removing-next, removing-done, popped-shorter}
use Rattle.mls_biunify.proofs.keep.remove_all.Goals as goal

pub loop-s-init : goal.loop-s-init
loop-s-init c = removing-none c.args.table.now c.limit-limit.ensures.is c.args.states.items

pub remove-requires-clause-unnamed : goal.remove-requires-clause-unnamed
remove-requires-clause-unnamed c = removing-unnamed c.args.table.now c.args.states.items c.loop-s.states.items c.pop.new.self.items c.loop-s.table c.in-Some.s c.requires c.loop-s.invariant c.in-Some.ensures.items

pub remove-requires-clause-unlinked : goal.remove-requires-clause-unlinked
remove-requires-clause-unlinked c = removing-unlinked c.args.table.now c.args.states.items c.loop-s.states.items c.pop.new.self.items c.loop-s.table c.in-Some.s c.requires c.loop-s.invariant c.in-Some.ensures.items

pub loop-s-preserved-then-contains : goal.loop-s-preserved-then-contains
loop-s-preserved-then-contains c = removing-next c.args.table.now c.args.states.items c.loop-s.states.items c.pop.new.self.items c.loop-s.table c.in-Some.s c.requires c.loop-s.invariant c.in-Some.ensures.items c.remove.new.self c.remove.ensures.removes c.remove.ensures.is

pub loop-s-preserved : goal.loop-s-preserved
loop-s-preserved c =
    let none : get_or c.loop-s.table.there c.in-Some.s false ≡ false = sym c.contains.ensures ∙ c.if-contains.false in
    removing-skip c.args.table.now c.args.states.items c.loop-s.states.items c.pop.new.self.items c.loop-s.table c.in-Some.s c.requires c.loop-s.invariant c.in-Some.ensures.items none

pub loop-s-smaller : goal.loop-s-smaller
loop-s-smaller c = popped-shorter c.loop-s.states.items c.pop.new.self.items c.in-Some.s c.in-Some.ensures.items

pub returns-clause-removes : goal.returns-clause-removes
returns-clause-removes c =
    let none : c.loop-s.states.items ≡ [] = grind (arith, common_steps) in
    removing-done c.args.table.now c.args.states.items c.loop-s.states.items c.loop-s.table none c.loop-s.invariant
