use Rattle.std.proofs.Common.{Some, sym, subst}
use Rattle.mls_shape.specs.steps.Registers.{sets_in}
use Rattle.mls_shape.specs.steps.NumberedHeads.{NumbersFunction}
use Rattle.mls_shape.proofs.NumberedHeads.{some_function}
use Rattle.mls_shape.proofs.heads.numbered_function.Goals as goal

pub returns-in_ok-arms-in-Some-clause-function : goal.returns-in_ok-arms-in-Some-clause-function
returns-in_ok-arms-in-Some-clause-function c =
    subst (λ function. NumbersFunction c.args.polarity function (sets_in c.args.register.now) (sets_in c.numbered_arms.new.register) (Some c.in_ok-arms-in-Some.arms)) (sym c.in-Some.is)
    (some_function c.args.polarity c.in-Some.arms c.in_ok-arms-in-Some.arms (sets_in c.args.register.now) (sets_in c.numbered_arms.new.register) c.in_ok-arms-in-Some.ensures.arms)
