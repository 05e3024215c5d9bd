use Rattle.mls_parts.proofs.Posings.{result_made}
use Rattle.mls_parts.proofs.pose.Posing.push_result.Goals as goal

pub returns-clause-result : goal.returns-clause-result
returns-clause-result c =
    result_made c.args.self.now c.state.new.self c.state-2.new.self c.add_flow.new.self c.empty.result c.empty-2.result c.in_ok-root.root.0 c.in_ok-into.into.0
    c.empty.ensures c.empty-2.ensures c.in_ok-root.ensures.ok c.in_ok-into.ensures.ok c.in_ok-root.ensures.number c.in_ok-into.ensures.number
    c.in_ok-add_flow.ensures.states c.in_ok-add_flow.ensures.flows
