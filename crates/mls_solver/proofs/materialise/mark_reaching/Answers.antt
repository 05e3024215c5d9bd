use Rattle.std.proofs.Common.{◌<◌, sym, subst}
use Rattle.mls_automaton.specs.Automata.{polarity_at}
use Rattle.mls_solver.specs.Rooms.{Holds}
use Rattle.mls_solver.specs.Solved.{ReachesBy}
use Rattle.mls_solver.specs.steps.Numbers.{ByOne}
use Rattle.mls_solver.proofs.Marking.{Inserts-same}
use Rattle.mls_solver.proofs.Members.{reaches_positive, reaches_negative}
use Rattle.mls_solver.proofs.materialise.mark_reaching.Goals as goal

pub mark_above_all-requires : goal.mark_above_all-requires
mark_above_all-requires c p n held = subst (λ k. p < k) (sym c.requires.limit) (c.requires.states p n held).0.in_range

pub mark_below_all-requires : goal.mark_below_all-requires
mark_below_all-requires c p n held = subst (λ k. n < k) (sym c.requires.limit) (c.requires.states p n held).1.in_range

pub returns-in-Positive : goal.returns-in-Positive
returns-in-Positive c =
    Inserts-same c.args.marks.now c.mark_above_all.new.marks (ByOne c.as_slice.result.now (λ n p. Holds c.args.room.now p n)) (ReachesBy c.args.a.now (Holds c.args.room.now) (polarity_at c.args.a.now c.args.s.0) c.args.s.0) c.mark_above_all.ensures
    (λ j it. (reaches_positive c.args.a.now c.requires.closed (Holds c.args.room.now) c.args.s.0 c.as_slice.result.now c.partners.result.now c.as_slice.ensures.members c.partners.ensures.partners (sym c.in-Positive.ensures) j).0 it)
    (λ j it. (reaches_positive c.args.a.now c.requires.closed (Holds c.args.room.now) c.args.s.0 c.as_slice.result.now c.partners.result.now c.as_slice.ensures.members c.partners.ensures.partners (sym c.in-Positive.ensures) j).1 it)

pub returns-in-Negative : goal.returns-in-Negative
returns-in-Negative c =
    Inserts-same c.args.marks.now c.mark_below_all.new.marks (ByOne c.as_slice-in-Negative.result.now (λ p n. Holds c.args.room.now p n)) (ReachesBy c.args.a.now (Holds c.args.room.now) (polarity_at c.args.a.now c.args.s.0) c.args.s.0) c.mark_below_all.ensures
    (λ j it. (reaches_negative c.args.a.now c.requires.closed (Holds c.args.room.now) c.args.s.0 c.as_slice-in-Negative.result.now c.partners-in-Negative.result.now c.as_slice-in-Negative.ensures.members c.partners-in-Negative.ensures.partners (sym c.in-Negative.ensures) j).0 it)
    (λ j it. (reaches_negative c.args.a.now c.requires.closed (Holds c.args.room.now) c.args.s.0 c.as_slice-in-Negative.result.now c.partners-in-Negative.result.now c.as_slice-in-Negative.ensures.members c.partners-in-Negative.ensures.partners (sym c.in-Negative.ensures) j).1 it)
