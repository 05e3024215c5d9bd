use Rattle.std.proofs.Common.{subst, ap, ◌∙◌, refl}
use Rattle.mls_iface.specs.declared.matching.MatchAnswer.{MatchAnswer}
use Rattle.mls_iface.specs.Matches.{IsMatchAnswer}
use Rattle.mls_top.specs.declared.answer.Answer.{Answer}
use Rattle.mls_top.specs.Outcomes.{matching, refused, all_match, one_is_absent, one_is_too_special}
use Rattle.mls_top.specs.Refusals.{absent, too_special}
use Rattle.mls_top.proofs.check.compared.Goals as goal

pub returns-in_ok-matches_line-in-All : goal.returns-in_ok-matches_line-in-All
returns-in_ok-matches_line-in-All c =
    let P : MatchAnswer → Type 0 = λ a. IsMatchAnswer c.args.signature.now.entries c.args.own.now.vals a in
    record {
      outcome = matching;
      compares = all_match (subst P c.in-All.is c.in_ok-matches.ensures);
      tells = record { status = refl; text = c.in_ok-matches_line-in-All.ensures };
    }

pub returns-in_ok-absent_line-in-Missing : goal.returns-in_ok-absent_line-in-Missing
returns-in_ok-absent_line-in-Missing c =
    let P : MatchAnswer → Type 0 = λ a. IsMatchAnswer c.args.signature.now.entries c.args.own.now.vals a in
    record {
      outcome = refused (absent c.args.name.now c.in-Missing.declared);
      compares = one_is_absent (subst P c.in-Missing.is c.in_ok-matches.ensures);
      tells = record {
        status = ap (λ (a : Answer). a.status) c.mismatch.ensures;
        text = ap (λ (a : Answer). a.text.items) c.mismatch.ensures ∙ c.in_ok-absent_line-in-Missing.ensures;
      };
    }

pub returns-in_ok-too_special_line-in-TooSpecial : goal.returns-in_ok-too_special_line-in-TooSpecial
returns-in_ok-too_special_line-in-TooSpecial c =
    let P : MatchAnswer → Type 0 = λ a. IsMatchAnswer c.args.signature.now.entries c.args.own.now.vals a in
    record {
      outcome = refused (too_special c.args.name.now c.in-TooSpecial.declared c.in-TooSpecial.path);
      compares = one_is_too_special (subst P c.in-TooSpecial.is c.in_ok-matches.ensures);
      tells = record {
        status = ap (λ (a : Answer). a.status) c.mismatch-in-TooSpecial.ensures;
        text = ap (λ (a : Answer). a.text.items) c.mismatch-in-TooSpecial.ensures ∙ c.in_ok-too_special_line-in-TooSpecial.ensures;
      };
    }
