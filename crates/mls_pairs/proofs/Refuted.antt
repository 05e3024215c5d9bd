-- Claims that justify themselves have no refuted pair.
--     not_refuted                 of any claims
--     justified_is_not_refuted    of a list
--     list_has                    so wanted ones stand in a list for them
use Rattle.std.proofs.Common.{◌⊎◌, inl, inr, ℕ, List}
use Rattle.std.specs.Prelude.{Contains}
use Rattle.std.proofs.lemmas.List.Elements.{All-contains}
use Rattle.mls_book.specs.declared.book.Node.{Node}
use Rattle.mls_deriv.specs.declared.derivation.Mode.{Mode}
use Rattle.mls_deriv.specs.declared.claim.Pair.{Pair}
use Rattle.mls_deriv.specs.declared.claim.Put.{Put}
use Rattle.mls_deriv.specs.Pairs.{Claims, IsJustified}
use Rattle.mls_deriv.proofs.CheckedSubs.{justified_more}
use Rattle.mls_pairs.specs.PairLists.{pair_of, IsOutside, IsRefuted, refuted, IsPairList, JustifiedIsNotRefuted}

pub not_refuted : (book : List Node) (puts : List Put) (claims : Mode → ℕ → ℕ → Type 0)
    → ((mode : Mode) (i j : ℕ) → claims mode i j → IsJustified book puts claims mode i j)
    → (pair : Pair) → claims pair.mode pair.left pair.right → IsRefuted book puts pair → ⊥
not_refuted book puts claims justified pair h (refuted others all none) =
    none
    (justified_more book puts claims (IsOutside others)
    (λ m k l claim there. not_refuted book puts claims justified (pair_of m k l) claim (all (pair_of m k l) there))
    pair.mode pair.left pair.right (justified pair.mode pair.left pair.right h))

pub justified_is_not_refuted : JustifiedIsNotRefuted
justified_is_not_refuted book puts pairs pair justified there is =
    not_refuted book puts (Claims pairs)
    (λ mode i j claim. All-contains (λ (q : Pair). IsJustified book puts (Claims pairs) q.mode q.left q.right) pairs (pair_of mode i j) justified claim)
    pair there is

-- A wanted pair of claims that justify themselves stands in the list.
pub list_has : (book : List Node) (puts : List Put) (wanted pairs : List Pair) → IsPairList book puts wanted pairs
    → (claims : Mode → ℕ → ℕ → Type 0) → ((mode : Mode) (i j : ℕ) → claims mode i j → IsJustified book puts claims mode i j)
    → (mode : Mode) (i j : ℕ) → Claims wanted mode i j → claims mode i j → Claims pairs mode i j
list_has book puts wanted pairs list claims justified mode i j there claim = go (list.has (pair_of mode i j) there)
  where
    go : Contains pairs (pair_of mode i j) ⊎ IsRefuted book puts (pair_of mode i j) → Claims pairs mode i j
    go (inl h) = h
    go (inr is) = absurd (not_refuted book puts claims justified (pair_of mode i j) claim is)
