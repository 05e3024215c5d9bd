-- The types that are known of lets have books, and there is what is known of these.
--     known_books
use Rattle.std.proofs.Common.{◌≡◌, ℕ, Bool, true, false, cond, List, [], ◌∷◌, refl, sym, ap, ◌∙◌, subst, Option, Some, None}
use Rattle.std.specs.BTreeMap.{BTreeMap, is_at}
use Rattle.std.specs.Map.{lookup}
use Rattle.std.specs.FinMap as env
use Rattle.std.specs.FinMap.{get-insert}
use Rattle.std.specs.Ordering.{nat_cmp, eq_by_cmp, is_eq}
use Rattle.std.proofs.lemmas.Cmp.{nat_cmp_total}
use Rattle.mls_book.specs.Schemes as book
use Rattle.mls_automaton.specs.declared.scheme.Scheme.{Scheme}
use Rattle.mls_automaton.specs.Schemes.{IsScheme, IsSchemeOf}
use Rattle.mls_automaton.proofs.BooksExist.{scheme_exists}
use Rattle.mls_term.specs.Derivations.{Known}
use Rattle.mls_layout.proofs.KeySets.{number_same}
use Rattle.mls_parts.specs.Posings.{known_in}
use Rattle.mls_allowed.specs.FirstTypes.{HaveBooks}

module _ (lets : BTreeMap ℕ Scheme) (schemes : (k : ℕ) (s : Scheme) → known_in lets k ≡ Some s → IsScheme s) where
  -- a book of the type that is known of a let
  book_at : (k : ℕ) (o : Option Scheme) → known_in lets k ≡ o → book.Scheme
  book_at k None e = record { book = []; env = env.empty; root = 0 }
  book_at k (Some s) e = (scheme_exists s (schemes k s e)).0

  abbrev own_book : ℕ → book.Scheme
  own_book k = book_at k (known_in lets k) refl

  is_book : (k : ℕ) (o : Option Scheme) (e : known_in lets k ≡ o) (s : Scheme) → o ≡ Some s → IsSchemeOf s (book_at k o e)
  unfolding book_at
  is_book k None e s same = absurd (cc)
  is_book k (Some u) e s same =
      let alike : u ≡ s = cc in
      let P : Scheme → Type 0 = λ z. IsSchemeOf z (scheme_exists u (schemes k u e)).0 in
      subst P alike (scheme_exists u (schemes k u e)).1

  -- the books of these entries
  books_of : List (ℕ × Scheme) → env.FinMap nat_cmp book.Scheme
  books_of [] = env.empty
  books_of (e ∷ rest) = env.insert (books_of rest) e.0 (own_book e.0)

  found : (entries : List (ℕ × Scheme)) (k : ℕ) (s : Scheme) → lookup (is_at (nat_cmp k)) entries ≡ Some s → env.get (books_of entries) k ≡ Some (own_book k)
  unfolding books_of
  found [] k s e = absurd (cc)
  found (x ∷ rest) k s e = go (is_eq (nat_cmp k x.0)) refl e (found rest k s)
    where
      at : env.get (env.insert (books_of rest) x.0 (own_book x.0)) k ≡ cond (eq_by_cmp nat_cmp k x.0) (Some (own_book x.0)) (env.get (books_of rest) k)
      at = get-insert nat_cmp_total (books_of rest) x.0 (own_book x.0) k

      go : (b : Bool) → is_eq (nat_cmp k x.0) ≡ b → cond (is_eq (nat_cmp k x.0)) (Some x.1) (lookup (is_at (nat_cmp k)) rest) ≡ Some s → (lookup (is_at (nat_cmp k)) rest ≡ Some s → env.get (books_of rest) k ≡ Some (own_book k))
          → env.get (env.insert (books_of rest) x.0 (own_book x.0)) k ≡ Some (own_book k)
      go true same is later = at ∙ (ap (λ b. cond b (Some (own_book x.0)) (env.get (books_of rest) k)) same ∙ ap (λ z. Some (own_book z)) (sym (number_same k x.0 same)))
      go false other is later =
          at ∙ (ap (λ b. cond b (Some (own_book x.0)) (env.get (books_of rest) k)) other
          ∙ later (sym (ap (λ b. cond b (Some x.1) (lookup (is_at (nat_cmp k)) rest)) other) ∙ is))

  pub known_books : (globals : List book.Scheme) → (known : Known) × (known.globals ≡ globals) × HaveBooks known lets
  known_books globals = (
    record { globals = globals; lets = books_of lets.entries },
    refl,
    λ k s e. (own_book k, found lets.entries k s e, is_book k (known_in lets k) refl s e),
  )
