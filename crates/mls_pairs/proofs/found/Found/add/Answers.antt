use Rattle.mls_pairs.proofs.Growing.{found_new, found_there}
use Rattle.mls_pairs.proofs.found.Found.add.Goals as goal

pub returns-in_ok-push : goal.returns-in_ok-push
returns-in_ok-push c = found_new c.args.self.now c.add_pair.new.self c.push.new.self c.args.pair c.requires c.in_ok-add_pair.ensures.adds c.in_ok-push.ensures.ok

pub returns-else-branch : goal.returns-else-branch
returns-else-branch c = found_there c.args.self.now c.add_pair.new.self c.args.pair c.requires c.in_ok-add_pair.ensures.adds (c.in_ok-add_pair.ensures.new c.if-branch.false)
