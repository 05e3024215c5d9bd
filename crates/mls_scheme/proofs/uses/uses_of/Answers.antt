use Rattle.std.proofs.Common.{◌∙◌, None}
use Rattle.mls_scheme.proofs.UsedVariables.{uses-all, uses-first, uses-more}
use Rattle.mls_scheme.proofs.uses.uses_of.Goals as goal

pub loop-i-init : goal.loop-i-init
loop-i-init c = (
  c.in_ok-visits.ensures.limit ∙ c.len.ensures.len,
  uses-first c.args.book.now c.args.signs.now c.args.p c.args.vars c.in_ok-uses.uses.items c.in_ok-uses.ensures.size c.in_ok-uses.ensures.none,
)

pub loop-i-preserved : goal.loop-i-preserved
loop-i-preserved c = (
  c.in_ok-add_top.ensures.limit ∙ c.loop-i.invariant.0,
  uses-more c.args.book.now c.args.signs.now c.args.p c.args.vars c.loop-i.i None c.loop-i.uses.items c.add_top.new.uses.items c.loop-i-test.true c.loop-i.invariant.1 c.in_ok-add_top.ensures.uses,
)

pub returns : goal.returns
returns c = uses-all c.args.book.now c.args.signs.now c.args.p c.args.vars c.loop-i.i c.loop-i.uses.items c.loop-i-test.false c.loop-i.invariant.1
