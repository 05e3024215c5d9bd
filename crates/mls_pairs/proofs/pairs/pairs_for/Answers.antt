use Rattle.std.proofs.Common.{List, subst}
use Rattle.std.specs.Prelude.{IfSome, Option}
use Rattle.mls_deriv.specs.declared.claim.Pair.{Pair}
use Rattle.mls_pairs.specs.steps.Deleting.{nothing}
use Rattle.mls_pairs.specs.steps.Reasons.{IsChosen}
use Rattle.mls_pairs.proofs.FirstChoice.{first_inside, first_list}
use Rattle.mls_pairs.proofs.pairs.pairs_for.Goals as goal

pub returns-in-Some-clause-list : goal.returns-in-Some-clause-list
returns-in-Some-clause-list c =
    first_list c.args.book.now c.args.puts.now c.args.wanted.now c.in_ok-found.found.pairs c.in_ok-found.found.table c.in_ok-found.found.table c.in_ok-found.ensures.whole c.in_ok-found.ensures.table
    nothing c.in-Some.chosen
    (subst (λ (o : Option (List Pair)). IfSome o (IsChosen c.args.book.now c.in_ok-found.found.table c.args.wanted.now)) c.in-Some.is c.in_ok-chosen.ensures)

pub returns-in-Some-clause-inside : goal.returns-in-Some-clause-inside
returns-in-Some-clause-inside c =
    first_inside c.args.book.now c.args.puts.now c.args.wanted.now c.in_ok-found.found.pairs c.in_ok-found.found.table c.in_ok-found.found.table c.in_ok-found.ensures.whole c.in_ok-found.ensures.table
    nothing c.in-Some.chosen
    (subst (λ (o : Option (List Pair)). IfSome o (IsChosen c.args.book.now c.in_ok-found.found.table c.args.wanted.now)) c.in-Some.is c.in_ok-chosen.ensures)
