use Rattle.std.proofs.Common.{◌≡◌, ◌≤◌, ◌∙◌, length, subst, arith, None}
use Rattle.mls_lines.specs.Showing.{ShowTopsTo}
use Rattle.mls_lines.proofs.ShownTops.{tops_first, tops_more}
use Rattle.mls_lines.proofs.showing.shown_tops.Goals as goal

pub loop-top-init : goal.loop-top-init
loop-top-init c = (
  c.in_ok-visits.ensures.limit ∙ c.len.ensures.len,
  tops_first c.args.book.now c.args.signs.now c.new-showing.result c.new-showing.ensures.empty,
)

pub loop-top-preserved : goal.loop-top-preserved
loop-top-preserved c = (
  c.in_ok-add_top.ensures.limit ∙ c.loop-top.invariant.0,
  tops_more c.args.book.now c.args.signs.now c.loop-top.top None c.loop-top.showing c.add_top.new.showing c.loop-top-test.true c.loop-top.invariant.1 c.in_ok-add_top.ensures.shown,
)

pub returns : goal.returns
returns c =
    let past : length c.args.signs.now ≤ c.loop-top.top = c.loop-top-test.false in
    let inside : c.loop-top.top ≤ length c.args.signs.now = c.loop-top.auto.top-end in
    let all : c.loop-top.top ≡ length c.args.signs.now = omega arith in
    subst (λ n. ShowTopsTo n c.args.book.now c.args.signs.now c.loop-top.showing) all c.loop-top.invariant.1
