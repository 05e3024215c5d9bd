use Rattle.mls_automaton.proofs.JoinedFields.{united-same}
use Rattle.mls_automaton.proofs.combine.unite_arms.Goals as goal

pub returns : goal.returns
returns c = (
  united-same c.in_ok-domain.domain c.args.first.now.domain c.args.second.now.domain c.in_ok-domain.ensures,
  united-same c.in_ok-codomain.codomain c.args.first.now.codomain c.args.second.now.codomain c.in_ok-codomain.ensures,
)
