use Rattle.std.proofs.Common.{Some, sym, ap, subst}
use Rattle.std.specs.Prelude.{Option, option_map}
use Rattle.mls_print.specs.declared.row.RowArms.{RowArms}
use Rattle.mls_print.specs.steps.Joining.{arms_in}
use Rattle.mls_print.specs.steps.Registers.{sets_in, NumbersArms}
use Rattle.mls_print.proofs.Registered.{two_numbers}
use Rattle.mls_print.proofs.register.Register.numbered_arms.Goals as goal

pub returns-in_ok-codomain-in-Some-clause-arms : goal.returns-in_ok-codomain-in-Some-clause-arms
returns-in_ok-codomain-in-Some-clause-arms c =
    let row : Option RowArms = Some (record { domain = c.in_ok-domain-in-Some.domain; codomain = c.in_ok-codomain-in-Some.codomain }) in
    subst (λ arms. NumbersArms arms (sets_in c.args.self.now) (sets_in c.number_of-in-Some.new.self) row) (sym (ap (option_map arms_in) c.in-Some.is))
    (two_numbers (arms_in c.in-Some.arms) (sets_in c.args.self.now) (sets_in c.number_of.new.self) (sets_in c.number_of-in-Some.new.self) c.in_ok-domain-in-Some.domain c.in_ok-codomain-in-Some.codomain c.in_ok-domain-in-Some.ensures.number c.in_ok-codomain-in-Some.ensures.number)
