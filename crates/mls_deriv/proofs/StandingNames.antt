-- One more name whose nodes stand in a book.
use Rattle.std.proofs.Common.{◌≡◌, ◌⊎◌, inl, inr, ℕ, true, List, subst, slice_get}
use Rattle.std.specs.Prelude.{IsTrue}
use Rattle.std.specs.BTreeSet.{BTreeSet, contains, Updates}
use Rattle.mls_book.specs.declared.book.Node.{Node}
use Rattle.mls_typetext.specs.declared.scheme.ReadScheme.{ReadScheme}
use Rattle.mls_deriv.specs.inner.Names.{DoStand, StandsAt}
use Rattle.mls_deriv.specs.inner.Tables.{numbers_cmp}
use Rattle.mls_deriv.proofs.Tables.{set_added}

pub stand_more : (book : List Node) (known : List ReadScheme) (g n : ℕ) (old new : BTreeSet (ℕ × ℕ)) → DoStand book known old
    → Updates numbers_cmp old new (g, n) true → StandsAt book n (slice_get known g) → DoStand book known new
stand_more book known g n old new all updates stands k l h = go ((set_added g n old new updates k l).0 h)
  where
    go : IsTrue (contains numbers_cmp old (k, l)) ⊎ ((g ≡ k) × (n ≡ l)) → StandsAt book l (slice_get known k)
    go (inl there) = all k l there
    go (inr same) = subst (λ (m : ℕ). StandsAt book m (slice_get known k)) same.1 (subst (λ (m : ℕ). StandsAt book n (slice_get known m)) same.0 stands)
