use Rattle.std.proofs.Common.{ℕ, List, Contains, get_or, ◌<◌, ◌≤◌, subst, sym, arith}
use Rattle.mls_automaton.specs.Automata.{HasFlow}
use Rattle.mls_solver.proofs.Relating.{element, take-all}
use Rattle.mls_solver.proofs.Taking.{Follows-none, before-follows, before-more}
use Rattle.mls_biunify.proofs.TableSteps.{table-closed}
use Rattle.mls_biunify.proofs.worklist.add_before.Goals as goal

pub loop-m-init : goal.loop-m-init
loop-m-init c = record {
  follows = Follows-none c.args.table.now.automaton c.args.room.now;
  has = λ q m before none. let low : none.0 < 0 = none.1 in absurd (omega arith);
}

pub copy_column-requires-clause-from : goal.copy_column-requires-clause-from
copy_column-requires-clause-from c =
    let m : ℕ = get_or c.as_slice-m-items.result.now c.loop-m.m-index 0 in
    let member : Contains c.before-2.result.now m = subst (λ (xs : List ℕ). Contains xs m) c.as_slice-m-items.ensures.members (element c.as_slice-m-items.result.now c.loop-m.m-index c.loop-m-test.true) in
    let edge : HasFlow c.args.table.now.automaton m c.args.positive.0 = (c.before-2.ensures.partners m).0 member in
    let low : m < c.args.table.now.limit = c.before-2.ensures.is.low m (c.before-2.ensures.is.is.negative m c.args.positive.0 edge).there in
    let fits : c.args.table.now.limit ≤ c.args.room.now.negatives = c.requires.columns in
    subst (λ k. m < k) (sym c.loop-m.invariant.follows.negatives) (omega arith)

pub copy_column-requires-clause-to : goal.copy_column-requires-clause-to
copy_column-requires-clause-to c =
    let low : c.args.negative.0 < c.args.table.now.limit = c.before-2.ensures.is.low c.args.negative.0 c.requires.negative.there in
    let fits : c.args.table.now.limit ≤ c.args.room.now.negatives = c.requires.columns in
    subst (λ k. c.args.negative.0 < k) (sym c.loop-m.invariant.follows.negatives) (omega arith)

pub loop-m-preserved : goal.loop-m-preserved
loop-m-preserved c =
    let m : ℕ = get_or c.as_slice-m-items.result.now c.loop-m.m-index 0 in
    let member : Contains c.before-2.result.now m = subst (λ (xs : List ℕ). Contains xs m) c.as_slice-m-items.ensures.members (element c.as_slice-m-items.result.now c.loop-m.m-index c.loop-m-test.true) in
    let edge : HasFlow c.args.table.now.automaton m c.args.positive.0 = (c.before-2.ensures.partners m).0 member in
    let closed = table-closed c.args.table.now.automaton c.args.table.now.there c.before-2.ensures.is.is in
    record {
      follows = before-follows c.args.table.now.automaton closed c.args.room.now c.args.positive.0 c.args.negative.0 c.requires.held c.loop-m.room c.copy_column.new.room m edge c.loop-m.invariant.follows c.in_ok-copy_column.ensures;
      has = before-more c.args.table.now.automaton closed c.args.room.now c.args.positive.0 c.args.negative.0 c.requires.held c.loop-m.room c.copy_column.new.room c.as_slice-m-items.result.now c.loop-m.m-index c.loop-m-test.true c.loop-m.invariant.follows c.loop-m.invariant.has c.in_ok-copy_column.ensures;
    }

pub returns-clause-has : goal.returns-clause-has
returns-clause-has c q m before edge =
    let member : Contains c.as_slice-m-items.result.now m = subst (λ (xs : List ℕ). Contains xs m) (sym c.as_slice-m-items.ensures.members) ((c.before-2.ensures.partners m).1 edge) in
    c.loop-m.invariant.has q m before (subst (λ (xs : List ℕ). Contains xs m) (sym (take-all c.as_slice-m-items.result.now c.loop-m.m-index c.loop-m-test.false)) member)
