use Rattle.mls_shape.specs.steps.Registers.{sets_in}
use Rattle.mls_shape.proofs.NumberedHeads.{one_set_ok}
use Rattle.mls_shape.proofs.heads.numbered_set.Goals as goal

pub returns-clause-set : goal.returns-clause-set
returns-clause-set c =
    one_set_ok c.args.polarity c.args.set.now c.in_ok-members.members (sets_in c.args.register.now) (sets_in c.number_of.new.self) c.in_ok-number.number c.one.result
    c.in_ok-members.ensures c.one.ensures c.in_ok-number.ensures.number
