use Rattle.std.proofs.Common.{ℕ, List, Contains, get_or, ◌<◌, inr, subst, sym, arith}
use Rattle.mls_automaton.specs.Automata.{HasFlow, flow}
use Rattle.mls_solver.proofs.Relating.{element, take-all}
use Rattle.mls_solver.proofs.Taking.{Follows-none, partner_below, before-follows, before-more}
use Rattle.mls_solver.proofs.saturate.add_before.Goals as goal

pub loop-m-init : goal.loop-m-init
loop-m-init c = record {
  follows = Follows-none c.args.a.now c.args.room.now;
  has = λ q m before none. let low : none.0 < 0 = none.1 in absurd (omega arith);
}

pub copy_column-requires-clause-from : goal.copy_column-requires-clause-from
copy_column-requires-clause-from c =
    let m : ℕ = get_or c.as_slice-m-items.result.now c.loop-m.m-index 0 in
    let member : Contains c.partners.result.now m = subst (λ (xs : List ℕ). Contains xs m) c.as_slice-m-items.ensures.members (element c.as_slice-m-items.result.now c.loop-m.m-index c.loop-m-test.true) in
    let edge : HasFlow c.args.a.now m c.args.positive.0 = partner_below c.args.a.now c.requires.closed c.args.room.now c.args.positive.0 c.args.negative.0 c.requires.held m c.requires.positive ((c.partners.ensures.partners m).0 member) in
    subst (λ (columns : List ℕ). Contains columns m) (sym c.loop-m.invariant.follows.columns)
    (c.requires.states.column m (c.requires.closed.negative (flow m c.args.positive.0) edge))

pub loop-m-preserved : goal.loop-m-preserved
loop-m-preserved c =
    let m : ℕ = get_or c.as_slice-m-items.result.now c.loop-m.m-index 0 in
    let member : Contains c.partners.result.now m = subst (λ (xs : List ℕ). Contains xs m) c.as_slice-m-items.ensures.members (element c.as_slice-m-items.result.now c.loop-m.m-index c.loop-m-test.true) in
    let edge : HasFlow c.args.a.now m c.args.positive.0 = partner_below c.args.a.now c.requires.closed c.args.room.now c.args.positive.0 c.args.negative.0 c.requires.held m c.requires.positive ((c.partners.ensures.partners m).0 member) in
    record {
      follows = before-follows c.args.a.now c.requires.closed c.args.room.now c.args.positive.0 c.args.negative.0 c.requires.held c.loop-m.room c.copy_column.new.self m edge c.loop-m.invariant.follows c.copy_column.ensures;
      has = before-more c.args.a.now c.requires.closed c.args.room.now c.args.positive.0 c.args.negative.0 c.requires.held c.loop-m.room c.copy_column.new.self c.as_slice-m-items.result.now c.loop-m.m-index c.loop-m-test.true c.loop-m.invariant.follows c.loop-m.invariant.has c.copy_column.ensures;
    }

pub returns-clause-has : goal.returns-clause-has
returns-clause-has c q m before edge =
    let member : Contains c.as_slice-m-items.result.now m = subst (λ (xs : List ℕ). Contains xs m) (sym c.as_slice-m-items.ensures.members) ((c.partners.ensures.partners m).1 (inr edge)) in
    c.loop-m.invariant.has q m before (subst (λ (xs : List ℕ). Contains xs m) (sym (take-all c.as_slice-m-items.result.now c.loop-m.m-index c.loop-m-test.false)) member)
