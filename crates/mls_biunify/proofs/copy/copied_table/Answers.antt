use Rattle.mls_biunify.proofs.Copied.{copied-has, copied-is}
use Rattle.mls_biunify.proofs.copy.copied_table.Goals as goal

pub copy_flows-requires-clause-states : goal.copy_flows-requires-clause-states
copy_flows-requires-clause-states c = copied-has c.args.table.now c.limit-limit.ensures.is c.in_ok-copy.copy c.in_ok-copy.ensures

pub returns : goal.returns
returns c = copied-is c.args.table.now c.limit-limit.ensures.is c.in_ok-copy.copy c.copy_flows.new.copy c.in_ok-copy.ensures c.in_ok-copy_flows.ensures.states c.in_ok-copy_flows.ensures.flows
