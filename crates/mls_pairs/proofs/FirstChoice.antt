-- What is chosen of a table, or of what a sweep leaves of it, before each of its pairs is known to be shown.
--     first_list          it is a list for the wanted pairs
--     first_inside        and has nodes of the book
use Rattle.std.proofs.Common.{List}
use Rattle.mls_book.specs.declared.book.Node.{Node}
use Rattle.mls_deriv.specs.declared.claim.Pair.{Pair}
use Rattle.mls_deriv.specs.declared.claim.Put.{Put}
use Rattle.mls_deriv.specs.declared.table.Table.{Table}
use Rattle.mls_deriv.specs.Pairs.{put_at}
use Rattle.mls_pairs.specs.Lines.{IsTable}
use Rattle.mls_pairs.specs.PairLists.{IsPairList, StaysInside}
use Rattle.mls_pairs.specs.steps.Deleting.{Deletes}
use Rattle.mls_pairs.specs.steps.Reasons.{IsChosen}
use Rattle.mls_pairs.specs.steps.Rounds.{IsWhole}
use Rattle.mls_pairs.proofs.Choosing.{chosen_inside, chosen_list}
use Rattle.mls_pairs.proofs.Deletions.{IsLeftBy, left_by}
use Rattle.mls_pairs.proofs.Rounding.{left_first, left_has, left_inside}

module _ (book : List Node) (puts : List Put) (wanted pairs : List Pair) (old new : Table) (whole : IsWhole book puts wanted pairs) (is : IsTable puts pairs old)
    (deletes : Deletes book old new) (chosen : List Pair) (chosen_is : IsChosen book new wanted chosen) where
  rest : IsLeftBy book puts wanted pairs new
  rest = left_by book puts wanted pairs old new (record { left = pairs; is = left_first book puts wanted pairs whole; of = is; within = λ pair there. there }) deletes

  pub first_list : IsPairList book puts wanted chosen
  first_list = chosen_list book puts rest.left new rest.of wanted chosen (left_has book puts wanted rest.left rest.is) chosen_is

  pub first_inside : StaysInside book (put_at puts) wanted chosen
  first_inside = chosen_inside book puts rest.left new rest.of wanted chosen (left_inside book puts wanted rest.left rest.is) chosen_is
