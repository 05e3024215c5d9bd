use Rattle.std.proofs.Common.{refl, None}
use Rattle.mls_subsume.specs.declared.queue.Visit.{Visit}
use Rattle.mls_subsume.proofs.Visits.{queue-first}
use Rattle.mls_subsume.proofs.queue.Queue.new.Goals as goal

pub invariant_of-result : goal.invariant_of-result
invariant_of-result c =
    let first : Visit = record { pair = c.args.roots; link = None } in
    queue-first c.in_ok-visits.visits.items c.in_ok-partners.partners.items c.note.new.partners.items first c.in_ok-visits.ensures.items refl
    c.in_ok-partners.ensures.none c.in_ok-note.ensures.added
