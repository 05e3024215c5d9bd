use Rattle.std.proofs.Common.{◌<◌, List, ℕ, get_or, length, rules, subst}
use Rattle.mls_solver.proofs.Relating.{take-all}
use Rattle.mls_biunify.specs.steps.Marking.{IsUnmarked}
use Rattle.mls_biunify.proofs.FoundMarks.{unmarked-here, unmarked-low, unmarked-more, unmarked-none}
use Rattle.mls_biunify.proofs.marks.unmark.Goals as goal

pub loop-s-init : goal.loop-s-init
loop-s-init c = unmarked-none c.args.marks.now.items c.args.numbers.now

pub index_mut-requires : goal.index_mut-requires
index_mut-requires c =
    let low : get_or c.args.numbers.now c.loop-s.s-index 0 < length c.loop-s.marks.items = unmarked-low c.args.marks.now.items c.loop-s.marks.items c.args.numbers.now c.loop-s.s-index c.loop-s-test.true c.loop-s.invariant c.requires in
    search rules

pub loop-s-preserved : goal.loop-s-preserved
loop-s-preserved c =
    unmarked-more c.args.marks.now.items c.loop-s.marks.items c.args.numbers.now c.loop-s.s-index c.loop-s-test.true
    (unmarked-here c.args.marks.now.items c.args.numbers.now c.loop-s.s-index c.loop-s-test.true c.requires) c.loop-s.invariant

pub returns : goal.returns
returns c = subst (λ (xs : List ℕ). IsUnmarked c.args.marks.now.items xs c.loop-s.marks.items) (take-all c.args.numbers.now c.loop-s.s-index c.loop-s-test.false) c.loop-s.invariant
