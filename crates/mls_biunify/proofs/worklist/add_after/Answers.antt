use Rattle.std.proofs.Common.{ℕ, List, Contains, get_or, ◌<◌, ◌≤◌, subst, sym, arith}
use Rattle.mls_automaton.specs.Automata.{HasFlow}
use Rattle.mls_solver.proofs.Relating.{element, take-all}
use Rattle.mls_solver.proofs.Taking.{Follows-none, after-follows, after-more}
use Rattle.mls_biunify.proofs.TableSteps.{table-closed}
use Rattle.mls_biunify.proofs.worklist.add_after.Goals as goal

pub loop-q-init : goal.loop-q-init
loop-q-init c = record {
  follows = Follows-none c.args.table.now.automaton c.args.room.now;
  has = λ q m none before. let low : none.0 < 0 = none.1 in absurd (omega arith);
}

pub copy_row-requires-clause-from : goal.copy_row-requires-clause-from
copy_row-requires-clause-from c =
    let q : ℕ = get_or c.as_slice-q-items.result.now c.loop-q.q-index 0 in
    let member : Contains c.after.result.now q = subst (λ (xs : List ℕ). Contains xs q) c.as_slice-q-items.ensures.members (element c.as_slice-q-items.result.now c.loop-q.q-index c.loop-q-test.true) in
    let edge : HasFlow c.args.table.now.automaton c.args.negative.0 q = (c.after.ensures.partners q).0 member in
    let low : q < c.args.table.now.limit = c.after.ensures.is.low q (c.after.ensures.is.is.positive c.args.negative.0 q edge).there in
    let fits : c.args.table.now.limit ≤ c.args.room.now.positives = c.requires.rows in
    subst (λ k. q < k) (sym c.loop-q.invariant.follows.positives) (omega arith)

pub copy_row-requires-clause-to : goal.copy_row-requires-clause-to
copy_row-requires-clause-to c =
    let low : c.args.positive.0 < c.args.table.now.limit = c.after.ensures.is.low c.args.positive.0 c.requires.positive.there in
    let fits : c.args.table.now.limit ≤ c.args.room.now.positives = c.requires.rows in
    subst (λ k. c.args.positive.0 < k) (sym c.loop-q.invariant.follows.positives) (omega arith)

pub loop-q-preserved : goal.loop-q-preserved
loop-q-preserved c =
    let q : ℕ = get_or c.as_slice-q-items.result.now c.loop-q.q-index 0 in
    let member : Contains c.after.result.now q = subst (λ (xs : List ℕ). Contains xs q) c.as_slice-q-items.ensures.members (element c.as_slice-q-items.result.now c.loop-q.q-index c.loop-q-test.true) in
    let edge : HasFlow c.args.table.now.automaton c.args.negative.0 q = (c.after.ensures.partners q).0 member in
    let closed = table-closed c.args.table.now.automaton c.args.table.now.there c.after.ensures.is.is in
    record {
      follows = after-follows c.args.table.now.automaton closed c.args.room.now c.args.positive.0 c.args.negative.0 c.requires.held c.loop-q.room c.copy_row.new.room q edge c.loop-q.invariant.follows c.in_ok-copy_row.ensures;
      has = after-more c.args.table.now.automaton closed c.args.room.now c.args.positive.0 c.args.negative.0 c.requires.held c.loop-q.room c.copy_row.new.room c.as_slice-q-items.result.now c.loop-q.q-index c.loop-q-test.true c.loop-q.invariant.follows c.loop-q.invariant.has c.in_ok-copy_row.ensures;
    }

pub returns-clause-has : goal.returns-clause-has
returns-clause-has c q m edge before =
    let member : Contains c.as_slice-q-items.result.now q = subst (λ (xs : List ℕ). Contains xs q) (sym c.as_slice-q-items.ensures.members) ((c.after.ensures.partners q).1 edge) in
    c.loop-q.invariant.has q m (subst (λ (xs : List ℕ). Contains xs q) (sym (take-all c.as_slice-q-items.result.now c.loop-q.q-index c.loop-q-test.false)) member) before
