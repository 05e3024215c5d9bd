-- Schemes whose book's values another book holds, and schemes with other variables.
use Rattle.std.proofs.Common.{◌≡◌, ℕ, ◌<◌, true, false, List, [], ◌∷◌, map, length, refl, sym, ap, ◌∙◌, Some, None}
use Rattle.std.specs.Prelude.{Option, option_map, cond}
use Rattle.std.specs.FinMap as finmap
use Rattle.std.specs.Ordering.{nat_cmp, eq_by_cmp}
use Rattle.std.specs.Cmp.{nat_cmp_total}
use Rattle.mls_book.specs.declared.book.Node.{Node}
use Rattle.mls_book.specs.Books.{IsClosedBook}
use Rattle.mls_book.specs.Predicates.{Predicate}
use Rattle.mls_book.specs.Passes.{passes_by}
use Rattle.mls_book.specs.Schemes.{Env, Scheme, IsScheme, AreEquivalent, binder_passes}
use Rattle.std.proofs.lemmas.List.{length-map}
use Rattle.mls_book.proofs.LongerBooks.{Extends, Extends-holds, Holds, renamed, renamed_book, closed-renamed_book, value-renamed_book}
use Rattle.mls_book.proofs.Variables.{variables_of, has}
use Rattle.mls_book.proofs.Subsumption.{HaveSameValues, IsRenamed, moved_same, Equivalent-same, Equivalent-renamed}

-- each node of an environment at its place
abbrev moved_entry : (ℕ → ℕ) → ℕ × ℕ → ℕ × ℕ
moved_entry place entry = (entry.0, place entry.1)

abbrev pub moved_env : (ℕ → ℕ) → Env → Env
moved_env place env = finmap.from_entries (map (moved_entry place) (finmap.entries env))

find-moved : (place : ℕ → ℕ) (x : ℕ) (entries : List (ℕ × ℕ)) → finmap.find nat_cmp x (map (moved_entry place) entries) ≡ option_map place (finmap.find nat_cmp x entries)
find-moved place x [] = refl
find-moved place x (entry ∷ rest) =
    elim (eq_by_cmp nat_cmp x entry.0) as (λ b. cond b (Some (place entry.1)) (finmap.find nat_cmp x (map (moved_entry place) rest)) ≡ option_map place (cond b (Some entry.1) (finmap.find nat_cmp x rest))) [
      | true ↦ refl
      | false ↦ find-moved place x rest
    ]

pub get-moved_env : (place : ℕ → ℕ) (env : Env) (x : ℕ) → finmap.get (moved_env place env) x ≡ option_map place (finmap.get env x)
get-moved_env place env x =
    finmap.get-from_entries nat_cmp_total (map (moved_entry place) (finmap.entries env)) x
    ∙ (find-moved place x (finmap.entries env)
    ∙ ap (option_map place) (sym (finmap.get-entries env x)))

-- the scheme in a book that holds its book's values
abbrev pub moved : (ℕ → ℕ) → List Node → Scheme → Scheme
moved place c s = record { book = c; env = moved_env place s.env; root = place s.root }

module _ (place : ℕ → ℕ) (c : List Node) (s : Scheme) (is : IsScheme s) (closed : IsClosedBook c) (holds : Holds s.book c place) where
  in_range : (o : Option ℕ) → ((i : ℕ) → o ≡ Some i → i < length s.book) → (j : ℕ) → option_map place o ≡ Some j → j < length c
  in_range None low j e = absurd (cc)
  in_range (Some i) low j e = let there : place i < length c = holds.in_range i (low i refl) in let same : place i ≡ j = cc in rw (sym same) there

  pub IsScheme-moved : IsScheme (moved place c s)
  IsScheme-moved = record {
    book = closed;
    root = holds.in_range s.root is.root;
    env = λ x j e. in_range (finmap.get s.env x) (is.env x) j (sym (get-moved_env place s.env x) ∙ e);
  }

  pub moved_values : HaveSameValues s (moved place c s)
  moved_values = moved_same s (moved place c s) place is holds refl (get-moved_env place s.env)

  pub Equivalent-moved_scheme : AreEquivalent s (moved place c s)
  Equivalent-moved_scheme = Equivalent-same s (moved place c s) moved_values

-- the scheme in a longer book, under the same numbers
abbrev pub lengthened : List Node → Scheme → Scheme
lengthened c s = record s { book = c }

module _ (c : List Node) (s : Scheme) (is : IsScheme s) (more : Extends s.book c) where
  pub IsScheme-lengthened : IsScheme (lengthened c s)
  IsScheme-lengthened =
      let holds : Holds s.book c (λ i. i) = Extends-holds s.book c is.book more in
      record {
        book = more.closed;
        root = holds.in_range s.root is.root;
        env = λ x i e. holds.in_range i (is.env x i e);
      }

  option_map-id : (o : Option ℕ) → o ≡ option_map (λ i. i) o
  option_map-id None = refl
  option_map-id (Some i) = refl

  pub lengthened_values : HaveSameValues s (lengthened c s)
  lengthened_values = moved_same s (lengthened c s) (λ i. i) is (Extends-holds s.book c is.book more) refl (λ x. option_map-id (finmap.get s.env x))

  pub Equivalent-lengthened : AreEquivalent s (lengthened c s)
  Equivalent-lengthened = Equivalent-same s (lengthened c s) lengthened_values

-- the scheme with other variables
abbrev pub renamed_scheme : (ℕ → ℕ) → Scheme → Scheme
renamed_scheme variable s = record s { book = renamed_book variable s.book }

module _ (variable : ℕ → ℕ) (s : Scheme) (is : IsScheme s) where
  binder_renamed : (v : ℕ → Predicate) (o : Option ℕ) → ((i : ℕ) → o ≡ Some i → i < length s.book) → binder_passes (passes_by (λ x. v (variable x)) s.book) o ≡ binder_passes (passes_by v (renamed_book variable s.book)) o
  binder_renamed v None low = refl
  binder_renamed v (Some i) low = sym (value-renamed_book variable s.book is.book v i (low i refl))

  pub IsRenamed-renamed : IsRenamed variable s (renamed_scheme variable s)
  IsRenamed-renamed = record {
    root = λ v. sym (value-renamed_book variable s.book is.book v s.root is.root);
    env = λ v x. binder_renamed v (finmap.get s.env x) (is.env x);
  }

  pub IsScheme-renamed : IsScheme (renamed_scheme variable s)
  IsScheme-renamed = record {
    book = closed-renamed_book variable s.book is.book;
    root = rw (length-map s.book (renamed (λ i. i) variable)) is.root;
    env = λ x i e. rw (length-map s.book (renamed (λ i. i) variable)) (is.env x i e);
  }

  pub Equivalent-renamed_scheme : (back : ℕ → ℕ) → ((x : ℕ) → has x (variables_of s.book) ≡ true → back (variable x) ≡ x) → AreEquivalent s (renamed_scheme variable s)
  Equivalent-renamed_scheme back undone = Equivalent-renamed variable back s (renamed_scheme variable s) undone IsRenamed-renamed
