use Rattle.std.proofs.Common.{sym, subst, rules}
use Rattle.std.specs.Prelude.{IsTrue}
use Rattle.std.specs.BTreeSet.{contains}
use Rattle.mls_deriv.specs.inner.Tables.{numbers_cmp}
use Rattle.mls_layout.specs.steps.Walking.{IsMarked}
use Rattle.mls_layout.proofs.MetPairs.{marked_more, meets_one, this_there}
use Rattle.mls_layout.proofs.walk.Met.add.Goals as goal

pub returns-then-contains-clause-meets : goal.returns-then-contains-clause-meets
returns-then-contains-clause-meets c =
    let marked : IsTrue (contains numbers_cmp c.args.self.now.marked (c.args.pair.0, c.args.pair.1)) = search rules in
    this_there c.args.pair c.args.self.now.pairs ((c.requires c.args.pair.0 c.args.pair.1).0 marked)

pub returns-clause-marked : goal.returns-clause-marked
returns-clause-marked c =
    subst (IsMarked c.insert.new.self) (sym c.in_ok-push.ensures.ok) (marked_more c.args.self.now.marked c.insert.new.self c.args.self.now.pairs c.args.pair c.requires c.in_ok-insert.ensures.updates)

pub returns-clause-meets : goal.returns-clause-meets
returns-clause-meets c = meets_one c.args.pair c.args.self.now.pairs c.push.new.self c.in_ok-push.ensures.ok
