use Rattle.mls_infer.proofs.Growths.{grows_inserted}
use Rattle.mls_infer.proofs.region.Region.add.Goals as goal

pub returns-clause-grows : goal.returns-clause-grows
returns-clause-grows c =
    grows_inserted c.args.live.now c.insert.new.self c.in_ok-state.state.0 (record { polarity = c.args.polarity; head = c.args.head })
    c.ready-before.ensures.live c.ready-after.ensures.live c.in_ok-state.ensures.inserts
