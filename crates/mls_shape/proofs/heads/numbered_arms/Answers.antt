use Rattle.std.proofs.Common.{subst}
use Rattle.mls_shape.specs.steps.Registers.{sets_in}
use Rattle.mls_shape.specs.steps.NumberedHeads.{NumbersSet}
use Rattle.mls_shape.proofs.NumberedHeads.{two_sets}
use Rattle.mls_shape.proofs.heads.numbered_arms.Goals as goal

pub returns-clause-arms : goal.returns-clause-arms
returns-clause-arms c =
    two_sets c.args.polarity c.args.arms.now (record { domain = c.in_ok-domain.domain; codomain = c.in_ok-codomain.codomain }) (sets_in c.args.register.now) (sets_in c.numbered_set.new.register) (sets_in c.numbered_set-2.new.register)
    (subst (λ q. NumbersSet q c.args.arms.now.domain (sets_in c.args.register.now) (sets_in c.numbered_set.new.register) c.in_ok-domain.domain) c.opposite.ensures c.in_ok-domain.ensures.set)
    c.in_ok-codomain.ensures.set
