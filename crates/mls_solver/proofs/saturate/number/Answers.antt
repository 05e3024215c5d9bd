use Rattle.std.proofs.Common.{◌≡◌, ◌+◌, ◌<◌, ◌≤◌, count_by, length, subst, sym, ◌∙◌, arith}
use Rattle.mls_solver.specs.Rooms.{Room, Fits, is_positive, is_negative}
use Rattle.mls_solver.specs.steps.Numbering.{AreNumbered}
use Rattle.mls_solver.proofs.NumberedStates.{rows_below, columns_below, state_fits, row_numbered, column_numbered, all_numbered}
use Rattle.mls_solver.proofs.saturate.number.Goals as goal
use Rattle.mls_solver.proofs.saturate.number.Goals.{in-Positive, in-Negative}

pub add_row-requires-clause-in_range : goal.add_row-requires-clause-in_range
add_row-requires-clause-in_range c =
    let fits : Fits c.args.a.now c.loop-s.room = record {
      positives = subst (λ n. count_by is_positive c.args.a.now.states ≤ n) (sym (c.loop-s.invariant.positives ∙ c.clear.ensures.positives)) c.requires.positives;
      negatives = subst (λ n. count_by is_negative c.args.a.now.states ≤ n) (sym (c.loop-s.invariant.negatives ∙ c.clear.ensures.negatives)) c.requires.negatives;
    } in
    let len : c.len-s-end.result ≡ length c.args.a.now.states = c.len-s-end.ensures.len in
    state_fits c.args.a.now c.clear.new.self c.loop-s.s c.loop-s.room c.loop-s.invariant fits (omega arith)

pub add_row-requires-clause-rows : goal.add_row-requires-clause-rows
add_row-requires-clause-rows c = rows_below c.args.a.now c.clear.new.self c.loop-s.s c.loop-s.room c.loop-s.invariant

pub add_row-requires-clause-columns : goal.add_row-requires-clause-columns
add_row-requires-clause-columns c = columns_below c.args.a.now c.clear.new.self c.loop-s.s c.loop-s.room c.loop-s.invariant

pub add_column-requires-clause-in_range : goal.add_column-requires-clause-in_range
add_column-requires-clause-in_range c =
    let fits : Fits c.args.a.now c.loop-s.room = record {
      positives = subst (λ n. count_by is_positive c.args.a.now.states ≤ n) (sym (c.loop-s.invariant.positives ∙ c.clear.ensures.positives)) c.requires.positives;
      negatives = subst (λ n. count_by is_negative c.args.a.now.states ≤ n) (sym (c.loop-s.invariant.negatives ∙ c.clear.ensures.negatives)) c.requires.negatives;
    } in
    let len : c.len-s-end.result ≡ length c.args.a.now.states = c.len-s-end.ensures.len in
    state_fits c.args.a.now c.clear.new.self c.loop-s.s c.loop-s.room c.loop-s.invariant fits (omega arith)

pub add_column-requires-clause-rows : goal.add_column-requires-clause-rows
add_column-requires-clause-rows c = rows_below c.args.a.now c.clear.new.self c.loop-s.s c.loop-s.room c.loop-s.invariant

pub add_column-requires-clause-columns : goal.add_column-requires-clause-columns
add_column-requires-clause-columns c = columns_below c.args.a.now c.clear.new.self c.loop-s.s c.loop-s.room c.loop-s.invariant

pub loop-s-preserved : goal.loop-s-preserved
loop-s-preserved c =
    let len : c.len-s-end.result ≡ length c.args.a.now.states = c.len-s-end.ensures.len in
    let low : c.loop-s.s < length c.args.a.now.states = omega arith in
    elim c.match-polarity.branch [
      | in-Positive w ↦
          subst (λ (r : Room). AreNumbered c.args.a.now c.clear.new.self (c.loop-s.s + 1) r) (sym w.room-is)
          (row_numbered c.args.a.now c.clear.new.self c.loop-s.s c.loop-s.room c.loop-s.invariant w.add_row.new.self low w.add_row.ensures.positives w.add_row.ensures.negatives w.add_row.ensures.pairs
          (sym w.in-Positive.ensures) w.add_row.ensures.rows w.add_row.ensures.columns)
      | in-Negative w ↦
          subst (λ (r : Room). AreNumbered c.args.a.now c.clear.new.self (c.loop-s.s + 1) r) (sym w.room-is)
          (column_numbered c.args.a.now c.clear.new.self c.loop-s.s c.loop-s.room c.loop-s.invariant w.add_column.new.self low w.add_column.ensures.positives w.add_column.ensures.negatives w.add_column.ensures.pairs
          (sym w.in-Negative.ensures) w.add_column.ensures.rows w.add_column.ensures.columns)
    ]

pub returns-clause-states : goal.returns-clause-states
returns-clause-states c =
    let len : c.len-s-end.result ≡ length c.args.a.now.states = c.len-s-end.ensures.len in
    all_numbered c.args.a.now c.clear.new.self c.loop-s.s c.loop-s.room c.loop-s.invariant (omega arith) (omega arith)
