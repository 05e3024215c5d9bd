-- The names of the environment, with books of the types that are known of them.
--     own_scheme          a known type is a scheme
--     name_books          books of the names of the environment
--     are_over            what is known by such books is over the types
--     books_general       it is as general as what was read
use Rattle.std.proofs.Common.{◌≡◌, ℕ, zero, suc, ◌+◌, List, [], ◌∷◌, refl, sym, ap, ◌∙◌, subst, arith, Contains, slice_get, Option, Some, None}
use Rattle.std.specs.Prelude.{option_map}
use Rattle.std.specs.BTreeMap.{BTreeMap}
use Rattle.std.specs.FinMap as env
use Rattle.std.specs.FinMap.{get-empty}
use Rattle.std.specs.Ordering.{nat_cmp}
use Rattle.std.proofs.lemmas.Option.{slice_get-map}
use Rattle.mls_book.specs.Schemes as book
use Rattle.mls_book.specs.Schemes.{AreEquivalent, Subsumes}
use Rattle.mls_book.proofs.Subsumption.{Subsumes-refl}
use Rattle.mls_automaton.specs.declared.automaton.Polarity.TheVariants.{Negative}
use Rattle.mls_automaton.specs.declared.scheme.EnvEntry.{EnvEntry}
use Rattle.mls_automaton.specs.declared.scheme.Scheme.{Scheme}
use Rattle.mls_automaton.specs.Automata.{IsState}
use Rattle.mls_automaton.specs.Schemes.{state_of, IsScheme, IsSchemeOf}
use Rattle.mls_automaton.proofs.BooksExist.{scheme_exists}
use Rattle.mls_typetext.specs.declared.scheme.ReadScheme.{ReadScheme}
use Rattle.mls_typetext.specs.Laws.{IsReadScheme}
use Rattle.mls_typetext.specs.Schemes.{scheme_of}
use Rattle.mls_term.specs.Derivations.{Known}
use Rattle.mls_term.specs.TypingLaws.{IsMoreGeneral}
use Rattle.mls_typing.specs.InferenceLaws.{at_start, AllSchemes}
use Rattle.mls_deriv.specs.Sections.{schemes_of}
use Rattle.mls_deriv.proofs.AllowedSections.{read_scheme}
use Rattle.mls_parts.specs.PosedModels.{AreOver}
use Rattle.mls_parts.specs.PosedParts.{IsKnownType}
use Rattle.mls_parts.specs.Posings.{known_in}
use Rattle.mls_allowed.specs.FirstTypes.{HaveBooks}
use Rattle.mls_sections.specs.KnownNames.{AreNameTypes, IsNameType}
use Rattle.mls_allowed.proofs.ModelledConstraints.{book_scheme}
use Rattle.mls_allowed.proofs.ReadUses.{state_entry}

-- a known type is a scheme
pub own_scheme : (binders : List ℕ) (s : Scheme) → IsKnownType binders s → IsScheme s
own_scheme binders s it = record {
  automaton = it.closed;
  root = it.root;
  env = λ x q found. let (entry, there, is_binder, is_state) = state_entry s.env x q found in subst (IsState s.automaton Negative) is_state (it.states entry there);
}

-- where no binder is around it has none
no_binders : (s : Scheme) → IsKnownType [] s → s.env ≡ []
no_binders s it = go s.env it.around
  where
    go : (entries : List EnvEntry) → ((entry : EnvEntry) → Contains entries entry → Contains {X = ℕ} [] entry.binder) → entries ≡ []
    go [] around = refl
    go (first ∷ rest) around = absurd (let low = (around first (0, omega arith, refl)).1 in omega (arith, low))

-- the book of such a type, which has no binders
bare_book : (s : Scheme) → IsScheme s → book.Scheme
bare_book s is = record { book = (scheme_exists s is).0.book; env = env.empty; root = (scheme_exists s is).0.root }

bare_is : (s : Scheme) (is : IsScheme s) → s.env ≡ [] → IsSchemeOf s (bare_book s is)
unfolding bare_book
bare_is s is free =
    let it = (scheme_exists s is).1 in
    record {
      variable = it.variable;
      place = it.place;
      book = it.book;
      root = it.root;
      env = λ x. get-empty nat_cmp x ∙ sym (ap (λ (entries : List EnvEntry). option_map it.place (state_of entries x)) free);
    }

module _ (reads : List ReadScheme) (good : (g : ℕ) (read : ReadScheme) → slice_get reads g ≡ Some read → IsReadScheme read) (types : BTreeMap ℕ Scheme) (names : AreNameTypes reads types) where
  book_of : (g : ℕ) (o : Option Scheme) → known_in types g ≡ o → ReadScheme → book.Scheme
  book_of g None e read = scheme_of read
  book_of g (Some s) e read = bare_book s (own_scheme [] s (names g s e).known)

  abbrev book_at : ℕ → ReadScheme → book.Scheme
  book_at g read = book_of g (known_in types g) refl read

  books_from : ℕ → List ReadScheme → List book.Scheme
  books_from g [] = []
  books_from g (read ∷ rest) = book_at g read ∷ books_from (suc g) rest

  pub name_books : List book.Scheme
  name_books = books_from 0 reads

  -- what a book is of
  record IsBookAt (g : ℕ) (read : ReadScheme) (b : book.Scheme) : Type 0 where
    pub is : book.IsScheme b
    pub free : b.env ≡ env.empty
    pub equivalent : AreEquivalent b (scheme_of read)
    pub of : (s : Scheme) → known_in types g ≡ Some s → IsSchemeOf s b

  book_is : (g : ℕ) (read : ReadScheme) → slice_get reads g ≡ Some read → (o : Option Scheme) (e : known_in types g ≡ o) → IsBookAt g read (book_of g o e read)
  unfolding book_of bare_book
  book_is g read there None e = record {
    is = read_scheme read (good g read there);
    free = refl;
    equivalent = (Subsumes-refl (scheme_of read), Subsumes-refl (scheme_of read));
    of = λ s known. absurd (cc);
  }
  book_is g read there (Some s) e =
      let it : IsNameType reads g s = names g s e in
      let is : IsScheme s = own_scheme [] s it.known in
      let of : IsSchemeOf s (bare_book s is) = bare_is s is (no_binders s it.known) in
      let both : Some it.read ≡ Some read = sym it.is ∙ there in
      let same : it.read ≡ read = cc in
      record {
        is = book_scheme s is (bare_book s is) of;
        free = refl;
        equivalent = subst (λ (r : ReadScheme). AreEquivalent (bare_book s is) (scheme_of r)) same (it.equivalent (bare_book s is) of);
        of = λ u known.
            let alike : s ≡ u = (let two : Some s ≡ Some u = sym e ∙ known in cc) in
            subst (λ (z : Scheme). IsSchemeOf z (bare_book s is)) alike of;
      }

  -- the book of a name
  books_back : (n : ℕ) (rest : List ReadScheme) (g m : ℕ) (b : book.Scheme) → m ≡ n + g → slice_get (books_from n rest) g ≡ Some b → (read : ReadScheme) × (slice_get rest g ≡ Some read) × (b ≡ book_at m read)
  unfolding books_from
  books_back n [] g m b at e = absurd (cc)
  books_back n (read ∷ rest) zero m b at e =
      let same : n ≡ m = omega (arith, at) in
      let is : book_at n read ≡ b = cc in
      (read, refl, sym is ∙ ap (λ k. book_at k read) same)
  books_back n (read ∷ rest) (suc g) m b at e = books_back (suc n) rest g m b (omega (arith, at)) e

  books_there : (n : ℕ) (rest : List ReadScheme) (g m : ℕ) (read : ReadScheme) → m ≡ n + g → slice_get rest g ≡ Some read → slice_get (books_from n rest) g ≡ Some (book_at m read)
  unfolding books_from
  books_there n [] g m read at e = absurd (cc)
  books_there n (first ∷ rest) zero m read at e =
      let same : n ≡ m = omega (arith, at) in
      let is : first ≡ read = cc in
      ap (λ (r : ReadScheme). Some (book_at n r)) is ∙ ap (λ k. Some (book_at k read)) same
  books_there n (first ∷ rest) (suc g) m read at e = books_there (suc n) rest g m read (omega (arith, at)) e

  found : (g : ℕ) (b : book.Scheme) → slice_get name_books g ≡ Some b → (read : ReadScheme) × (slice_get reads g ≡ Some read) × IsBookAt g read b
  unfolding name_books
  found g b e =
      let (read, there, is) = books_back 0 reads g g b (omega arith) e in
      (read, there, subst (IsBookAt g read) (sym is) (book_is g read there (known_in types g) refl))

  pub books_schemes : AllSchemes name_books
  books_schemes g b e = (found g b e).2.is

  pub books_free : (g : ℕ) (b : book.Scheme) → slice_get name_books g ≡ Some b → b.env ≡ env.empty
  books_free g b e = (found g b e).2.free

  -- what is known by them, and by books of the types of lets, is over the types
  pub are_over : (known : Known) → known.globals ≡ name_books → (lets : BTreeMap ℕ Scheme) → ((k : ℕ) (s : Scheme) → known_in lets k ≡ Some s → IsScheme s) → HaveBooks known lets → AreOver known types lets
  are_over known same lets schemes books = record {
    globals = λ g s b is at. (
      own_scheme [] s (names g s is).known,
      (found g b (sym (ap (λ (gs : List book.Scheme). slice_get gs g) same) ∙ at)).2.of s is,
    );
    lets = λ k s b is at.
        let it = books k s is in
        let both : Some it.0 ≡ Some b = sym it.1 ∙ at in
        let alike : it.0 ≡ b = cc in
        (schemes k s is, subst (IsSchemeOf s) alike it.2);
  }

  -- it is as general as what was read
  pub books_general : IsMoreGeneral (at_start name_books) (at_start (schemes_of reads))
  unfolding name_books
  books_general = record {
    globals = λ g s at. by_read g s (slice_get reads g) refl (sym (slice_get-map scheme_of reads g) ∙ at);
    lets = λ k s at. absurd (let none : env.get (env.empty {X = book.Scheme} {R = nat_cmp}) k ≡ None = get-empty nat_cmp k in let wrong : None ≡ Some s = sym none ∙ at in cc);
  }
    where
      by_read : (g : ℕ) (s : book.Scheme) (o : Option ReadScheme) → slice_get reads g ≡ o → option_map scheme_of (slice_get reads g) ≡ Some s → (u : book.Scheme) × (slice_get name_books g ≡ Some u) × Subsumes u s
      by_read g s None none at = absurd (let nothing : option_map scheme_of (slice_get reads g) ≡ None = ap (option_map scheme_of) none in cc)
      by_read g s (Some read) some at =
          let there : option_map scheme_of (slice_get reads g) ≡ Some (scheme_of read) = ap (option_map scheme_of) some in
          let is : scheme_of read ≡ s = cc in (
            book_at g read,
            books_there 0 reads g g read (omega arith) some,
            subst (Subsumes (book_at g read)) is (book_is g read some (known_in types g) refl).equivalent.0,
          )
