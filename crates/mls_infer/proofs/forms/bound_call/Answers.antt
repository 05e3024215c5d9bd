use Rattle.mls_infer.specs.Pending.{part_in, states_in}
use Rattle.mls_infer.proofs.BoundParts.{call_made, call_states}
use Rattle.mls_infer.proofs.forms.bound_call.Goals as goal

pub add-requires-clause-states : goal.add-requires-clause-states
add-requires-clause-states c =
    call_states c.args.live.now c.add_passage.new.live c.args.binder (part_in c.args.argument) c.requires c.in_ok-codomain.codomain c.in_ok-codomain.root c.in_ok-head.head c.in_ok-domain.domain
    c.in_ok-domain.ensures c.in_ok-head.ensures c.in_ok-codomain.ensures.grows

pub returns : goal.returns
returns c =
    call_made c.args.live.now c.add_passage.new.live c.args.binder (part_in c.args.argument) c.requires c.in_ok-codomain.codomain c.in_ok-codomain.root c.in_ok-head.head c.in_ok-domain.domain
    c.in_ok-domain.ensures c.in_ok-head.ensures c.in_ok-codomain.ensures.grows
    c.add.new.live c.in_ok-state.state c.in_ok-state.ensures.grows (states_in c.add_passage.new.self) (states_in c.add.new.self) c.in_ok-codomain.ensures.states c.in_ok-state.ensures.states
    c.push.new.self c.in_ok-push.ensures.ok
