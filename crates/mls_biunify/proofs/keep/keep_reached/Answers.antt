use Rattle.mls_biunify.proofs.KeptTables.{all-flows, all-heads, all-kept, all-roots, all-there}
use Rattle.mls_biunify.proofs.keep.keep_reached.Goals as goal

pub keep_among-requires-clause-states : goal.keep_among-requires-clause-states
keep_among-requires-clause-states c = all-there c.args.table.now c.limit-limit.ensures.is c.in_ok-all.all c.as_slice.result.now c.as_slice.ensures.members c.in_ok-all.ensures

pub keep_among-requires-clause-roots : goal.keep_among-requires-clause-roots
keep_among-requires-clause-roots c = all-roots c.args.table.now c.limit-limit.ensures.is c.in_ok-all.all c.as_slice.result.now c.as_slice.ensures.members c.in_ok-all.ensures c.args.roots.now c.requires

pub keep_among-requires-clause-heads : goal.keep_among-requires-clause-heads
keep_among-requires-clause-heads c = all-heads c.args.table.now c.limit-limit.ensures.is c.in_ok-all.all c.as_slice.result.now c.as_slice.ensures.members c.in_ok-all.ensures

pub keep_among-requires-clause-flows : goal.keep_among-requires-clause-flows
keep_among-requires-clause-flows c = all-flows c.args.table.now c.limit-limit.ensures.is c.in_ok-all.all c.as_slice.result.now c.as_slice.ensures.members c.in_ok-all.ensures

pub returns-clause-ok : goal.returns-clause-ok
returns-clause-ok c = all-kept c.args.table.now c.limit-limit.ensures.is c.in_ok-all.all c.as_slice.result.now c.as_slice.ensures.members c.in_ok-all.ensures c.args.roots.now c.requires c.keep_among.new.table c.in_ok-keep_among.ensures.ok
