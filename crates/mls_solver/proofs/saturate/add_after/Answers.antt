use Rattle.std.proofs.Common.{ℕ, List, Contains, get_or, ◌<◌, inl, subst, sym, arith}
use Rattle.mls_automaton.specs.Automata.{HasFlow, flow}
use Rattle.mls_solver.proofs.Relating.{element, take-all}
use Rattle.mls_solver.proofs.Taking.{Follows-none, partner_above, after-follows, after-more}
use Rattle.mls_solver.proofs.saturate.add_after.Goals as goal

pub loop-q-init : goal.loop-q-init
loop-q-init c = record {
  follows = Follows-none c.args.a.now c.args.room.now;
  has = λ q m none before. let low : none.0 < 0 = none.1 in absurd (omega arith);
}

pub copy_row-requires-clause-from : goal.copy_row-requires-clause-from
copy_row-requires-clause-from c =
    let q : ℕ = get_or c.as_slice-q-items.result.now c.loop-q.q-index 0 in
    let member : Contains c.partners.result.now q = subst (λ (xs : List ℕ). Contains xs q) c.as_slice-q-items.ensures.members (element c.as_slice-q-items.result.now c.loop-q.q-index c.loop-q-test.true) in
    let edge : HasFlow c.args.a.now c.args.negative.0 q = partner_above c.args.a.now c.requires.closed c.args.room.now c.args.positive.0 c.args.negative.0 c.requires.held q c.requires.negative ((c.partners.ensures.partners q).0 member) in
    subst (λ (rows : List ℕ). Contains rows q) (sym c.loop-q.invariant.follows.rows)
    (c.requires.states.row q (c.requires.closed.positive (flow c.args.negative.0 q) edge))

pub loop-q-preserved : goal.loop-q-preserved
loop-q-preserved c =
    let q : ℕ = get_or c.as_slice-q-items.result.now c.loop-q.q-index 0 in
    let member : Contains c.partners.result.now q = subst (λ (xs : List ℕ). Contains xs q) c.as_slice-q-items.ensures.members (element c.as_slice-q-items.result.now c.loop-q.q-index c.loop-q-test.true) in
    let edge : HasFlow c.args.a.now c.args.negative.0 q = partner_above c.args.a.now c.requires.closed c.args.room.now c.args.positive.0 c.args.negative.0 c.requires.held q c.requires.negative ((c.partners.ensures.partners q).0 member) in
    record {
      follows = after-follows c.args.a.now c.requires.closed c.args.room.now c.args.positive.0 c.args.negative.0 c.requires.held c.loop-q.room c.copy_row.new.self q edge c.loop-q.invariant.follows c.copy_row.ensures;
      has = after-more c.args.a.now c.requires.closed c.args.room.now c.args.positive.0 c.args.negative.0 c.requires.held c.loop-q.room c.copy_row.new.self c.as_slice-q-items.result.now c.loop-q.q-index c.loop-q-test.true c.loop-q.invariant.follows c.loop-q.invariant.has c.copy_row.ensures;
    }

pub returns-clause-has : goal.returns-clause-has
returns-clause-has c q m edge before =
    let member : Contains c.as_slice-q-items.result.now q = subst (λ (xs : List ℕ). Contains xs q) (sym c.as_slice-q-items.ensures.members) ((c.partners.ensures.partners q).1 (inl edge)) in
    c.loop-q.invariant.has q m (subst (λ (xs : List ℕ). Contains xs q) (sym (take-all c.as_slice-q-items.result.now c.loop-q.q-index c.loop-q-test.false)) member) before
