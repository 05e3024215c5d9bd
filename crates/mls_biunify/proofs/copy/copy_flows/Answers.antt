use Rattle.std.proofs.Common.{◌∙◌, refl, arith}
use Rattle.mls_biunify.proofs.Copied.{has-kept, flows-first, flows-more, flows-last}
use Rattle.mls_biunify.proofs.copy.copy_flows.Goals as goal

pub loop-n-init : goal.loop-n-init
loop-n-init c = record { states = refl; flows = flows-first c.args.table.now c.args.copy.now c.requires.none }

pub copy_flows_at-requires : goal.copy_flows_at-requires
copy_flows_at-requires c = has-kept c.args.table.now c.args.copy.now c.loop-n.copy c.loop-n.invariant.states c.requires.states

pub loop-n-preserved : goal.loop-n-preserved
loop-n-preserved c = record {
  states = c.in_ok-copy_flows_at.ensures.states ∙ c.loop-n.invariant.states;
  flows = flows-more c.args.table.now c.loop-n.n c.loop-n.copy c.copy_flows_at.new.copy c.loop-n.invariant.flows c.in_ok-copy_flows_at.ensures;
}

pub returns-clause-flows : goal.returns-clause-flows
returns-clause-flows c =
    flows-last c.args.table.now c.limit-n-end.ensures.is c.loop-n.copy c.loop-n.n (omega (arith, c.limit-n-end.ensures.limit)) c.loop-n.invariant.flows
