use Rattle.mls_infer.proofs.JoinedLists.{members_joined, members_turned}
use Rattle.mls_infer.proofs.pending.joined.Goals as goal

pub returns-then-len : goal.returns-then-len
returns-then-len c = members_turned c.in_ok-all.all c.args.second c.args.first c.as_slice.result.now c.as_slice.ensures c.in_ok-all.ensures

pub returns : goal.returns
returns c = members_joined c.in_ok-both.both c.args.first c.args.second c.as_slice-2.result.now c.as_slice-2.ensures c.in_ok-both.ensures
