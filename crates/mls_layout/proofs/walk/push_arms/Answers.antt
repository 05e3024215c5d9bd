use Rattle.mls_layout.specs.Walks.{IsOfSets}
use Rattle.mls_layout.proofs.MetPairs.{lists_then}
use Rattle.mls_layout.proofs.walk.push_arms.Goals as goal

pub returns : goal.returns
returns c =
    lists_then (IsOfSets c.args.general.now.domain c.args.special.now.domain) (IsOfSets c.args.general.now.codomain c.args.special.now.codomain)
    c.args.into.now c.push_sets.new.into c.push_sets-2.new.into c.in_ok-push_sets.ensures c.in_ok-push_sets-2.ensures
