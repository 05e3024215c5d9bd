use Rattle.std.proofs.Common.{sym, subst}
use Rattle.std.specs.Prelude.{Some, option_map}
use Rattle.mls_subsume.specs.Failures.{FailsByLabel, IsLeast}
use Rattle.mls_subsume.proofs.reasons.missing_among.Goals as goal

pub returns-in-Positive : goal.returns-in-Positive
returns-in-Positive c =
    subst (λ p. IsLeast (FailsByLabel p (Some c.args.fields.now) (Some c.args.others.now)) (option_map (λ label. label.now) c.first_alone.result)) (sym c.in-Positive.is)
    c.first_alone.ensures

pub returns-in-Negative : goal.returns-in-Negative
returns-in-Negative c =
    subst (λ p. IsLeast (FailsByLabel p (Some c.args.fields.now) (Some c.args.others.now)) (option_map (λ label. label.now) c.first_alone-in-Negative.result)) (sym c.in-Negative.is)
    c.first_alone-in-Negative.ensures
