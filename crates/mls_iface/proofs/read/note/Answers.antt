use Rattle.std.proofs.Common.{true, subst}
use Rattle.std.specs.Ordering.{nat_cmp}
use Rattle.std.specs.Cmp.Lexicographic.{slice_cmp}
use Rattle.std.specs.BTreeSet.{Updates}
use Rattle.mls_iface.proofs.NamesNoted.{noted}
use Rattle.mls_iface.proofs.read.note.Goals as goal

pub returns : goal.returns
returns c =
    noted c.args.name.now c.args.known.now c.insert.new.self
    (subst (λ x. Updates (slice_cmp nat_cmp) c.args.known.now c.insert.new.self x true) c.in_ok-copy.ensures c.in_ok-insert.ensures.updates)
