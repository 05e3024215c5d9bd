use Rattle.std.proofs.Common.{rules}
use Rattle.mls_layout.specs.Walks.{AreAlike}
use Rattle.mls_layout.proofs.MetPairs.{this_alike}
use Rattle.mls_layout.proofs.walk.Met.add_if_alike.Goals as goal

pub returns-clause-meets : goal.returns-clause-meets
returns-clause-meets c =
    let alike : AreAlike c.args.general.now c.args.special.now c.args.pair.0 c.args.pair.1 = search rules in
    this_alike c.args.general.now c.args.special.now c.args.pair c.args.self.now.pairs c.add.new.self.pairs alike c.in_ok-add.ensures.meets
