use Rattle.std.proofs.Common.{List, subst}
use Rattle.std.specs.Prelude.{IfSome, Option}
use Rattle.mls_deriv.specs.declared.claim.Pair.{Pair}
use Rattle.mls_pairs.specs.steps.Reasons.{IsChosen}
use Rattle.mls_pairs.proofs.Choosing.{chosen_inside, chosen_list}
use Rattle.mls_pairs.proofs.pairs.chosen_of_all.Goals as goal

pub returns-in-Some-clause-list : goal.returns-in-Some-clause-list
returns-in-Some-clause-list c =
    chosen_list c.args.book.now c.args.puts.now c.in_ok-listed.listed.pairs c.in_ok-listed.listed.table c.in_ok-listed.ensures.table c.args.wanted.now c.in-Some.pairs
    c.in_ok-listed.ensures.pairs.has
    (subst (λ (o : Option (List Pair)). IfSome o (IsChosen c.args.book.now c.in_ok-listed.listed.table c.args.wanted.now)) c.in-Some.is c.in_ok-pairs.ensures)

pub returns-in-Some-clause-inside : goal.returns-in-Some-clause-inside
returns-in-Some-clause-inside c =
    chosen_inside c.args.book.now c.args.puts.now c.in_ok-listed.listed.pairs c.in_ok-listed.listed.table c.in_ok-listed.ensures.table c.args.wanted.now c.in-Some.pairs
    c.in_ok-listed.ensures.inside
    (subst (λ (o : Option (List Pair)). IfSome o (IsChosen c.args.book.now c.in_ok-listed.listed.table c.args.wanted.now)) c.in-Some.is c.in_ok-pairs.ensures)
