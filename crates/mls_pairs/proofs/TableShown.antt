-- What the table of a list shows is justified by the list.
--     justified_shown     what the list justifies, its table shows
--     those_justified     and the other way round, for all of them
use Rattle.std.proofs.Common.{◌≡◌, List, sym, subst}
use Rattle.mls_book.specs.declared.book.Node.{Node}
use Rattle.mls_deriv.specs.declared.table.Table.{Table}
use Rattle.mls_deriv.specs.declared.claim.Pair.{Pair}
use Rattle.mls_deriv.specs.declared.claim.Put.{Put}
use Rattle.mls_deriv.specs.Pairs.{put_at, Claims}
use Rattle.mls_deriv.specs.inner.Tables.{Holds, put_in}
use Rattle.mls_deriv.specs.inner.PairRules.{IsShown}
use Rattle.mls_deriv.proofs.PairRules.{by_nodes, from_nodes}
use Rattle.mls_deriv.proofs.CheckedSubs.{justified_more}
use Rattle.mls_pairs.specs.Lines.{IsTable}
use Rattle.mls_pairs.specs.steps.Rounds.{AreThose, IsShownBy, IsJustifiedBy}
use Rattle.mls_pairs.proofs.Rounding.{those_same}

module _ (book : List Node) (puts : List Put) (pairs : List Pair) (table : Table) (is : IsTable puts pairs table) where
  same_puts : put_in table ≡ put_at puts
  same_puts = λ n x. is.put x n

  shown_justified : (pair : Pair) → IsShownBy book table pair → IsJustifiedBy book puts pairs pair
  shown_justified pair h =
      justified_more book puts (Holds table) (Claims pairs) (λ m k l. (is.holds m k l).0) pair.mode pair.left pair.right
      (from_nodes book puts (Holds table) pair.mode pair.left pair.right (subst (λ put. IsShown book put (Holds table) pair.mode pair.left pair.right) same_puts h))

  pub justified_shown : (pair : Pair) → IsJustifiedBy book puts pairs pair → IsShownBy book table pair
  justified_shown pair h =
      subst (λ put. IsShown book put (Holds table) pair.mode pair.left pair.right) (sym same_puts)
      (by_nodes book puts (Holds table) pair.mode pair.left pair.right
      (justified_more book puts (Claims pairs) (Holds table) (λ m k l. (is.holds m k l).1) pair.mode pair.left pair.right h))

  -- what the table shows of the list, the list justifies
  pub those_justified : (items left : List Pair) → items ≡ pairs → AreThose (IsShownBy book table) items left → AreThose (IsJustifiedBy book puts pairs) pairs left
  those_justified items left e those =
      subst (λ (ps : List Pair). AreThose (IsJustifiedBy book puts pairs) ps left) e
      (those_same (IsShownBy book table) (IsJustifiedBy book puts pairs) (λ pair. (shown_justified pair, justified_shown pair)) items left those)
