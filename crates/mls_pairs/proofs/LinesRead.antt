-- What lines of puts and pairs are read as.
--     table_is
use Rattle.std.proofs.Common.{◌≡◌, List, [], ◌∷◌, ◌++◌, refl, sym, ap, ◌∙◌, subst}
use Rattle.mls_deriv.specs.declared.derivation.SectionLine.{SectionLine}
use Rattle.mls_deriv.specs.declared.table.Table.{Table}
use Rattle.mls_deriv.specs.declared.claim.Pair.{Pair}
use Rattle.mls_deriv.specs.declared.claim.Put.{Put}
use Rattle.mls_deriv.specs.Pairs.{put_at, Claims}
use Rattle.mls_deriv.specs.Steps.{puts_of, pairs_of}
use Rattle.mls_deriv.specs.inner.Tables.{IsTableOf}
use Rattle.mls_pairs.specs.Lines.{put_lines, pair_lines, IsTable}

pairs_read : (pairs : List Pair) → pairs_of (pair_lines pairs) ≡ pairs
pairs_read [] = refl
pairs_read (pair ∷ pairs) = ap (λ ps. pair ∷ ps) (pairs_read pairs)

no_puts : (pairs : List Pair) → puts_of (pair_lines pairs) ≡ []
no_puts [] = refl
no_puts (pair ∷ pairs) = no_puts pairs

all_pairs : (puts : List Put) (pairs : List Pair) → pairs_of (put_lines puts ++ pair_lines pairs) ≡ pairs
all_pairs [] pairs = pairs_read pairs
all_pairs (put ∷ puts) pairs = all_pairs puts pairs

all_puts : (puts : List Put) (pairs : List Pair) → puts_of (put_lines puts ++ pair_lines pairs) ≡ puts
all_puts [] pairs = no_puts pairs
all_puts (put ∷ puts) pairs = ap (λ ps. put ∷ ps) (all_puts puts pairs)

pub table_is : (puts : List Put) (pairs : List Pair) (lines : List SectionLine) (table : Table) → lines ≡ put_lines puts ++ pair_lines pairs → IsTableOf lines table → IsTable puts pairs table
table_is puts pairs lines table are is = record {
  holds = λ mode i j. (
    λ h. subst (λ ps. Claims ps mode i j) same_pairs ((is.0 mode i j).0 h),
    λ h. (is.0 mode i j).1 (subst (λ ps. Claims ps mode i j) (sym same_pairs) h),
  );
  put = λ x. is.1 x ∙ ap (λ ps. put_at ps x) (ap puts_of are ∙ all_puts puts pairs);
}
  where
    same_pairs : pairs_of lines ≡ pairs
    same_pairs = ap pairs_of are ∙ all_pairs puts pairs
