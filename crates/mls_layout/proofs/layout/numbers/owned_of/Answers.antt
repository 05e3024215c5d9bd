use Rattle.std.proofs.Common.{◌≤◌, length, arith}
use Rattle.mls_layout.proofs.OwnNumbers.{all_owned, numbers_next, numbers_none}
use Rattle.mls_layout.proofs.layout.numbers.owned_of.Goals as goal

pub loop-s-init : goal.loop-s-init
loop-s-init c = numbers_none c.args.a.now c.args.start c.in_ok-owned.owned c.in_ok-owned.ensures.functions c.in_ok-owned.ensures.records

pub loop-s-preserved : goal.loop-s-preserved
loop-s-preserved c =
    numbers_next c.args.a.now c.args.start c.loop-s.s c.loop-s.end c.in_ok-end.end c.loop-s.owned c.push.new.self c.head-head.result.now
    c.loop-s.invariant c.head-head.ensures c.in_ok-push.ensures c.in_ok-end.ensures

pub returns : goal.returns
returns c =
    let all : length c.args.a.now.states ≤ c.loop-s.s = let size = c.len-s-end.ensures.len in omega (arith, size, c.loop-s-test.false) in
    all_owned c.args.a.now c.args.start c.loop-s.s c.loop-s.end c.loop-s.owned all c.loop-s.invariant
