use Rattle.std.proofs.Common.{List, subst}
use Rattle.std.specs.Prelude.{IfSome, Option}
use Rattle.mls_deriv.specs.declared.claim.Pair.{Pair}
use Rattle.mls_pairs.specs.steps.Growth.{Finds}
use Rattle.mls_pairs.specs.steps.Reasons.{IsReasonOf}
use Rattle.mls_pairs.proofs.chosen.add_reason.Goals as goal

pub returns-in_ok-add_all-in-Some : goal.returns-in_ok-add_all-in-Some
returns-in_ok-add_all-in-Some c = λ yes. (
  c.in-Some.reason,
  subst (λ (o : Option (List Pair)). IfSome o (IsReasonOf c.args.book.now c.args.table.now c.args.pair)) c.in-Some.is c.in_ok-reason.ensures,
  subst (λ (l : List Pair). Finds c.args.chosen.now c.add_all.new.self l) c.as_slice.ensures c.in_ok-add_all-in-Some.ensures,
)
