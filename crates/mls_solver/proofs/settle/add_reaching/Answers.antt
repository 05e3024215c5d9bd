use Rattle.std.proofs.Common.{sym}
use Rattle.mls_automaton.specs.Automata.{polarity_at}
use Rattle.mls_solver.specs.Rooms.{Holds}
use Rattle.mls_solver.specs.Solved.{ReachesBy}
use Rattle.mls_solver.specs.steps.Numbers.{ByOne}
use Rattle.mls_solver.proofs.Members.{reaches_positive, reaches_negative}
use Rattle.mls_solver.proofs.Settling.{grow-as}
use Rattle.mls_solver.proofs.settle.add_reaching.Goals as goal

pub returns-in_ok-add_above-in-Positive : goal.returns-in_ok-add_above-in-Positive
returns-in_ok-add_above-in-Positive c =
    grow-as c.args.members.now.items c.add_above.new.members.items (ByOne c.as_slice.result.now (λ n p. Holds c.args.found.now p n)) (ReachesBy c.args.a.now (Holds c.args.found.now) (polarity_at c.args.a.now c.args.s.0) c.args.s.0) c.in_ok-add_above-in-Positive.ensures
    (reaches_positive c.args.a.now c.requires.closed (Holds c.args.found.now) c.args.s.0 c.as_slice.result.now c.partners.result.now c.as_slice.ensures.members c.partners.ensures.partners (sym c.in-Positive.ensures))

pub returns-in_ok-add_below-in-Negative : goal.returns-in_ok-add_below-in-Negative
returns-in_ok-add_below-in-Negative c =
    grow-as c.args.members.now.items c.add_below.new.members.items (ByOne c.as_slice-in-Negative.result.now (λ p n. Holds c.args.found.now p n)) (ReachesBy c.args.a.now (Holds c.args.found.now) (polarity_at c.args.a.now c.args.s.0) c.args.s.0) c.in_ok-add_below-in-Negative.ensures
    (reaches_negative c.args.a.now c.requires.closed (Holds c.args.found.now) c.args.s.0 c.as_slice-in-Negative.result.now c.partners-in-Negative.result.now c.as_slice-in-Negative.ensures.members c.partners-in-Negative.ensures.partners (sym c.in-Negative.ensures))
