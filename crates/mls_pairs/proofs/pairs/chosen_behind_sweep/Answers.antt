use Rattle.std.proofs.Common.{List, subst}
use Rattle.std.specs.Prelude.{IfSome, Option}
use Rattle.mls_deriv.specs.declared.claim.Pair.{Pair}
use Rattle.mls_pairs.specs.steps.Reasons.{IsChosen}
use Rattle.mls_pairs.proofs.FirstChoice.{first_inside, first_list}
use Rattle.mls_pairs.proofs.pairs.chosen_behind_sweep.Goals as goal

pub returns-in-Some-clause-list : goal.returns-in-Some-clause-list
returns-in-Some-clause-list c =
    first_list c.args.book.now c.args.puts.now c.args.wanted.now c.args.found.pairs c.args.found.table c.sweep.new.table c.requires.whole c.requires.table
    c.sweep.ensures.deletes c.in-Some.chosen
    (subst (λ (o : Option (List Pair)). IfSome o (IsChosen c.args.book.now c.sweep.new.table c.args.wanted.now)) c.in-Some.is c.in_ok-chosen.ensures)

pub returns-in-Some-clause-inside : goal.returns-in-Some-clause-inside
returns-in-Some-clause-inside c =
    first_inside c.args.book.now c.args.puts.now c.args.wanted.now c.args.found.pairs c.args.found.table c.sweep.new.table c.requires.whole c.requires.table
    c.sweep.ensures.deletes c.in-Some.chosen
    (subst (λ (o : Option (List Pair)). IfSome o (IsChosen c.args.book.now c.sweep.new.table c.args.wanted.now)) c.in-Some.is c.in_ok-chosen.ensures)
