use Rattle.std.proofs.Common.{◌≢◌, ◌<◌, arith, [], ◌∷◌, length}
use Rattle.mls_infer.specs.Constraints.{negative}
use Rattle.mls_infer.specs.Pending.{states_in}
use Rattle.mls_infer.proofs.LinkedStates.{ends_live, met_by, met_states, state_came}
use Rattle.mls_infer.proofs.MeetSteps.{meets_all, meets_one, of_first}
use Rattle.mls_infer.proofs.meets.met.Goals as goal

pub returns-then-entries-eq1 : goal.returns-then-entries-eq1
returns-then-entries-eq1 c = meets_one c.args.live.now (states_in c.args.region.now) c.args.entries.now _ c.if-entries-eq1.true c.requires.states

pub add-requires-clause-states : goal.add-requires-clause-states
add-requires-clause-states c =
    met_states c.args.live.now c.args.entries.now c.in_ok-head.head c.in_ok-head.ensures.parts c.in_ok-head.ensures.live c.requires.states c.in_ok-head.ensures.labels

pub link-requires-clause-state : goal.link-requires-clause-state
link-requires-clause-state c = state_came c.args.live.now c.add.new.live c.in_ok-state.state.0 (negative c.in_ok-head.head) c.in_ok-state.ensures.grows

pub link-requires-clause-ends : goal.link-requires-clause-ends
link-requires-clause-ends c =
    ends_live c.args.live.now c.add.new.live ((c.in_ok-state.state.0, negative c.in_ok-head.head) ∷ []) [] c.in_ok-head.ensures.live c.in_ok-state.ensures.grows
    c.args.entries.now c.in_ok-ends.ends c.in_ok-ends.ensures

pub returns : goal.returns
returns c =
    let some : 0 < length c.args.entries.now = c.requires.some in
    let unlike : length c.args.entries.now ≢ 1 = c.if-entries-eq1.false in
    let several : 1 < length c.args.entries.now = omega arith in
    meets_all c.args.live.now c.link.new.live c.in_ok-head.ensures.live c.ready-linked.ensures.live c.args.entries.now _
    (of_first c.args.entries.now c.requires.binder.0 c.requires.binder.1 _ some) several c.in_ok-state.state
    (met_by c.args.live.now c.args.entries.now c.in_ok-head.head c.in_ok-head.ensures.parts c.add.new.live c.link.new.live c.in_ok-state.state.0 c.in_ok-state.ensures.grows
    c.in_ok-ends.ends c.in_ok-ends.ensures c.in_ok-link.ensures.states c.in_ok-link.ensures.numbers c.in_ok-link.ensures.flows)
    (states_in c.args.region.now) (states_in c.add.new.self) c.in_ok-state.ensures.states
