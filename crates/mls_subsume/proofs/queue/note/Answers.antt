use Rattle.mls_subsume.proofs.Visits.{set-noted}
use Rattle.mls_subsume.proofs.queue.note.Goals as goal

pub returns-clause-added : goal.returns-clause-added
returns-clause-added c =
    set-noted c.args.partners.now.items c.args.pair.general.0 c.args.pair.special.0 c.index_mut.result.now c.insert.new.self c.requires
    c.index_mut.ensures.value c.in_ok-insert.ensures.ok
