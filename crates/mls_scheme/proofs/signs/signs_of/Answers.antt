use Rattle.std.proofs.Common.{◌∙◌}
use Rattle.mls_scheme.proofs.FoundSigns.{signing-first, signing-next}
use Rattle.mls_scheme.proofs.signs.signs_of.Goals as goal

pub loop-task-init : goal.loop-task-init
loop-task-init c = (
  c.in_ok-visits.ensures.limit ∙ c.len.ensures.len,
  signing-first c.args.book.now c.requires.book c.args.root c.in_ok-signs.signs.items c.in_ok-work.work.items c.requires.root (c.in_ok-signs.ensures.size ∙ c.len-2.ensures.len)
      c.in_ok-signs.ensures.none c.in_ok-work.ensures.items,
)

pub loop-task-smaller : goal.loop-task-smaller
loop-task-smaller c =
    (signing-next c.args.book.now c.requires.book c.args.root c.loop-task.signs.items c.loop-task.work.items c.pop.new.self.items c.in-Some.task c.loop-task.invariant.1 c.in-Some.ensures.items
    c.visit.new.signs.items c.visit.new.work.items
    c.in_ok-visit.ensures.seen c.in_ok-visit.ensures.seen_work c.in_ok-visit.ensures.signs c.in_ok-visit.ensures.work).1

pub loop-task-preserved : goal.loop-task-preserved
loop-task-preserved c = (
  c.in_ok-visit.ensures.limit ∙ c.loop-task.invariant.0,
  (signing-next c.args.book.now c.requires.book c.args.root c.loop-task.signs.items c.loop-task.work.items c.pop.new.self.items c.in-Some.task c.loop-task.invariant.1 c.in-Some.ensures.items
      c.visit.new.signs.items c.visit.new.work.items
      c.in_ok-visit.ensures.seen c.in_ok-visit.ensures.seen_work c.in_ok-visit.ensures.signs c.in_ok-visit.ensures.work).0,
)
