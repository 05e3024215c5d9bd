use Rattle.std.proofs.Common.{ℕ, List, subst}
use Rattle.mls_solver.specs.Rooms.{Holds}
use Rattle.mls_solver.proofs.Relating.{take-all}
use Rattle.mls_biunify.specs.steps.Settlement.{AreNewHeads}
use Rattle.mls_biunify.proofs.SettledHeads.{heads-none, heads-more}
use Rattle.mls_biunify.proofs.settlement.new_heads.Goals as goal

pub loop-s-init : goal.loop-s-init
loop-s-init c = heads-none c.args.table.now (Holds c.args.relation.now) c.args.states.now c.in_ok-heads.heads.items c.in_ok-heads.ensures.items

pub push_head-requires-clause-there : goal.push_head-requires-clause-there
push_head-requires-clause-there c = c.requires.there c.loop-s.s-index 0 c.loop-s-test.true

pub loop-s-preserved : goal.loop-s-preserved
loop-s-preserved c =
    heads-more c.args.table.now (Holds c.args.relation.now) c.args.states.now c.loop-s.s-index c.loop-s-test.true c.loop-s.heads.items c.push_head.new.heads.items
    (c.requires.there c.loop-s.s-index 0 c.loop-s-test.true) c.loop-s.invariant c.in_ok-push_head.ensures

pub returns : goal.returns
returns c = subst (λ (xs : List ℕ). AreNewHeads c.args.table.now (Holds c.args.relation.now) xs c.loop-s.heads.items) (take-all c.args.states.now c.loop-s.s-index c.loop-s-test.false) c.loop-s.invariant
