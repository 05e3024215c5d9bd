use Rattle.std.proofs.Common.{[], ◌∷◌}
use Rattle.mls_automaton.specs.declared.automaton.Polarity.TheVariants.{Negative}
use Rattle.mls_infer.specs.Constraints.{negative, positive}
use Rattle.mls_infer.proofs.Growths.{grows_passage}
use Rattle.mls_infer.proofs.LinkedStates.{grown_state, state_came}
use Rattle.mls_infer.proofs.region.Region.add_passage.Goals as goal

pub edge-requires-clause-negative : goal.edge-requires-clause-negative
edge-requires-clause-negative c =
    grown_state c.add.new.live c.add-2.new.live ((c.in_ok-positive.positive.0, positive c.empty-2.result) ∷ []) [] c.in_ok-positive.ensures.grows Negative c.in_ok-negative.negative.0
    (state_came c.args.live.now c.add.new.live c.in_ok-negative.negative.0 (negative c.empty.result) c.in_ok-negative.ensures.grows)

pub edge-requires-clause-positive : goal.edge-requires-clause-positive
edge-requires-clause-positive c = state_came c.add.new.live c.add-2.new.live c.in_ok-positive.positive.0 (positive c.empty-2.result) c.in_ok-positive.ensures.grows

pub returns-clause-grows : goal.returns-clause-grows
returns-clause-grows c =
    grows_passage c.args.live.now c.add.new.live c.add-2.new.live c.edge.new.self c.in_ok-negative.negative.0 c.in_ok-positive.positive.0 c.empty.result c.empty-2.result
    c.empty.ensures c.empty-2.ensures c.in_ok-negative.ensures.grows c.in_ok-positive.ensures.grows
    c.ready-linked.ensures.live c.in_ok-edge.ensures.states c.in_ok-edge.ensures.numbers c.in_ok-edge.ensures.flows
