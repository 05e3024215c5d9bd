use Rattle.std.proofs.Common.{subst, sym}
use Rattle.mls_typetext.specs.Schemes.{scheme_of}
use Rattle.mls_subsume.specs.Failures.{IsFirstFailure}
use Rattle.mls_subsume.specs.Verdicts.{DoesNotSubsume, IfNo, IsYes}
use Rattle.mls_iface.proofs.ReadAutomata.{is_enough, is_too_special}
use Rattle.mls_iface.proofs.matching.first_failure.Goals as goal

pub returns-in-Yes : goal.returns-in-Yes
returns-in-Yes c =
    is_enough (scheme_of c.args.general.now) (scheme_of c.args.special.now) c.in_ok-wide.wide c.in_ok-narrow.narrow c.in_ok-wide.ensures c.in_ok-narrow.ensures
    (c.in_ok-subsumes.ensures.exactly.0 (subst IsYes (sym c.in-Yes.is) tt))

pub returns : goal.returns
returns c =
    is_too_special (scheme_of c.args.general.now) (scheme_of c.args.special.now) c.in_ok-wide.wide c.in_ok-narrow.narrow c.in_ok-wide.ensures c.in_ok-narrow.ensures
    c.in-No.path
    (subst (λ verdict. IfNo verdict (λ path. DoesNotSubsume c.in_ok-wide.wide c.in_ok-narrow.narrow)) c.in-No.is c.in_ok-subsumes.ensures.does_not_subsume)
    (subst (λ verdict. IfNo verdict (IsFirstFailure c.in_ok-wide.wide c.in_ok-narrow.narrow)) c.in-No.is c.in_ok-subsumes.ensures.first)
