use Rattle.std.proofs.Common.{refl}
use Rattle.mls_automaton.proofs.JoinedFields.{united-same}
use Rattle.mls_automaton.proofs.combine.unite_fields.Goals as goal

pub returns : goal.returns
returns c = record {
  label = refl;
  set = united-same c.in_ok-set.set c.args.first.set c.args.second.now.set c.in_ok-set.ensures;
}
