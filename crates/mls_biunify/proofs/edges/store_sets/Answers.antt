use Rattle.std.proofs.Common.{◌≡◌, ◌<◌, [], length, arith, rules}
use Rattle.std.proofs.lemmas.Grind.{common_steps}
use Rattle.mls_biunify.proofs.CutSets.{popped-less, stored-low, storing-done, storing-next, storing-none}
use Rattle.mls_biunify.proofs.edges.store_sets.Goals as goal

pub loop-change-init : goal.loop-change-init
loop-change-init c = storing-none c.args.sets.now.items c.args.changes.items

pub index_mut-requires : goal.index_mut-requires
index_mut-requires c =
    let low : c.in-Some.change.0 < length c.loop-change.sets.items =
    stored-low c.args.sets.now.items c.args.changes.items c.loop-change.changes.items c.pop.new.self.items c.loop-change.sets.items c.in-Some.change.0 c.in-Some.change.1 c.loop-change.invariant c.in-Some.ensures.items c.requires in
    search rules

pub loop-change-preserved-in-Some : goal.loop-change-preserved-in-Some
loop-change-preserved-in-Some c =
    storing-next c.args.sets.now.items c.args.changes.items c.loop-change.changes.items c.pop.new.self.items c.loop-change.sets.items c.in-Some.change.0 c.in-Some.change.1 c.loop-change.invariant c.in-Some.ensures.items
    (stored-low c.args.sets.now.items c.args.changes.items c.loop-change.changes.items c.pop.new.self.items c.loop-change.sets.items c.in-Some.change.0 c.in-Some.change.1 c.loop-change.invariant c.in-Some.ensures.items c.requires)

pub loop-change-preserved : goal.loop-change-preserved
loop-change-preserved c =
    storing-next c.args.sets.now.items c.args.changes.items c.loop-change.changes.items c.pop.new.self.items c.loop-change.sets.items c.in-Some.change.0 c.in-Some.change.1 c.loop-change.invariant c.in-Some.ensures.items
    (stored-low c.args.sets.now.items c.args.changes.items c.loop-change.changes.items c.pop.new.self.items c.loop-change.sets.items c.in-Some.change.0 c.in-Some.change.1 c.loop-change.invariant c.in-Some.ensures.items c.requires)

pub loop-change-smaller : goal.loop-change-smaller
loop-change-smaller c = popped-less c.loop-change.changes.items c.pop.new.self.items c.in-Some.change c.in-Some.ensures.items

pub returns : goal.returns
returns c =
    let none : c.loop-change.changes.items ≡ [] = grind (arith, common_steps) in
    storing-done c.args.sets.now.items c.args.changes.items c.loop-change.changes.items c.loop-change.sets.items none c.loop-change.invariant
