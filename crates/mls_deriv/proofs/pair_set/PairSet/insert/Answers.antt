use Rattle.mls_deriv.proofs.PairSets.{others_added}
use Rattle.mls_deriv.proofs.pair_set.PairSet.insert.Goals as goal

pub returns-clause-adds : goal.returns-clause-adds
returns-clause-adds c = λ k l.
    others_added c.args.self.now.few.items c.args.self.now.others c.insert.new.self c.args.left c.args.right c.in_ok-is_new.ensures.updates k l
