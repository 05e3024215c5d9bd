use Rattle.mls_infer.proofs.JoinedLists.{rise_taken}
use Rattle.mls_infer.proofs.meets.env_of.Goals as goal

pub push-requires : goal.push-requires
push-requires c =
    rise_taken c.args.entries.now c.loop-entry.env c.loop-entry.entry-index (record { binder = 0; state = record { 0 = 0 } })
    c.requires c.loop-entry.invariant c.loop-entry-test.true
