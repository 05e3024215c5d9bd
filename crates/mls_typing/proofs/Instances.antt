-- Schemes and expressions by the types that they have: what a derivable scheme allows an expression has, and a best scheme allows
-- just that.
--     Allows-subsumes, Subsumes-allows   an instance by types is a subsumption
--     instance                what a scheme allows is an instance of it
--     Allows-equivalent       equivalent schemes allow the same
--     typed_under             what a derivable scheme allows, the expression has
--     typed_derives           what an expression has, is derivable, at every node with this type
--     best_allows             a best scheme allows just what the expression has
--     best_by_types           and the other way round
use Rattle.std.proofs.Common.{◌≡◌, ◌↔◌, ℕ, ◌<◌, List, length, refl, sym, ap, ◌∙◌, Some}
use Rattle.std.specs.Prelude.{Option, None, option_map}
use Rattle.std.specs.FinMap as finmap
use Rattle.mls_book.specs.declared.book.Node.{Node}
use Rattle.mls_book.specs.Books.{IsClosedBook}
use Rattle.mls_book.specs.Predicates.{Predicate, Implies, var}
use Rattle.mls_book.specs.Passes.{passes, passes_by}
use Rattle.mls_book.specs.Schemes.{Scheme, IsScheme, Substitution, Subsumes, AreEquivalent, binder_passes}
use Rattle.mls_book.proofs.Depths.{Implies-refl, Implies-trans, Implies-same, Implies-same_back}
use Rattle.mls_book.proofs.Representation.{substituted_held}
use Rattle.mls_book.proofs.MovedSchemes.{moved, get-moved_env}
use Rattle.mls_book.proofs.Subsumption.{IsReadIn, subsumed_where, subsumes_where, Subsumes-below, Subsumes-refl, Subsumes-trans}
use Rattle.mls_term.specs.Terms.{TermTree}
use Rattle.mls_term.specs.Derivations.{Known, Derives, sub, IsBest, HasNone}
use Rattle.mls_term.specs.TypingLaws.{AreSchemes}
use Rattle.mls_term.proofs.Metatheory.{derived_scheme}
use Rattle.mls_typing.specs.Typed.{type_of, needs_of, IsType, AreBelow, IsTyped, Allows}

-- an instance is a scheme that is subsumed
pub Subsumes-allows : (s u : Scheme) → Subsumes s u → Allows s (needs_of u) (type_of u)
Subsumes-allows s u h =
    let it : IsReadIn s u = subsumed_where s u h in
    record { book = it.book; closed = it.closed; reading = it.reading; held = it.held; root = it.below.root; env = it.below.env }

pub Allows-subsumes : (s u : Scheme) → Allows s (needs_of u) (type_of u) → Subsumes s u
Allows-subsumes s u a = subsumes_where s u a.book a.closed a.reading a.held (record { root = a.root; env = a.env })

-- lower types of the binders and a greater type
pub Allows-more : (s : Scheme) (types others : ℕ → Predicate) (f g : Predicate) → AreBelow others types → Implies f g → Allows s types f → Allows s others g
Allows-more s types others f g lower greater a = record {
  book = a.book;
  closed = a.closed;
  reading = a.reading;
  held = a.held;
  root = Implies-trans (passes_by a.reading s.book s.root) f g a.root greater;
  env = λ x. Implies-trans (others x) (types x) (binder_passes (passes_by a.reading s.book) (finmap.get s.env x)) (lower x) (a.env x);
}

pub IsTyped-more : (known : Known) (types others : ℕ → Predicate) (t : TermTree) (f g : Predicate) → AreBelow others types → Implies f g → IsTyped known types t f → IsTyped known others t g
IsTyped-more known types others t f g lower greater h = record {
  scheme = h.scheme;
  is = h.is;
  derives = h.derives;
  root = Implies-trans (type_of h.scheme) f g h.root greater;
  env = λ x. Implies-trans (others x) (types x) (needs_of h.scheme x) (lower x) (h.env x);
}

-- a derivable scheme, as types
pub IsTyped-derived : (known : Known) (t : TermTree) (s : Scheme) → IsScheme s → Derives known t s → IsTyped known (needs_of s) t (type_of s)
IsTyped-derived known t s is h = record { scheme = s; is = is; derives = h; root = Implies-refl (type_of s); env = λ x. Implies-refl (needs_of s x) }

-- and back: what an expression has, is derivable at every scheme of these types
pub typed_derives : (known : Known) (t : TermTree) (s : Scheme) → IsScheme s → IsTyped known (needs_of s) t (type_of s) → Derives known t s
typed_derives known t s is h = sub h.scheme h.derives (Subsumes-below h.scheme s (record { root = h.root; env = h.env })) is

-- an instance of a scheme, below a type and above the types of the binders
pub record InstanceOf (s : Scheme) (types : ℕ → Predicate) (f : Predicate) : Type 0 where
  pub scheme : Scheme
  pub is : IsScheme scheme
  pub subsumed : Subsumes s scheme
  pub root : Implies (type_of scheme) f
  pub env : AreBelow types (needs_of scheme)

-- what a scheme allows is an instance of it
module _ (s : Scheme) (is : IsScheme s) (types : ℕ → Predicate) (f : Predicate) (a : Allows s types f) where
  r : Substitution
  r = record {
    book = a.book;
    node_of = λ x. (a.held x).0;
    closed = a.closed;
    in_range = λ x. (a.held x).1;
  }

  same : (λ x. passes a.book (a.held x).0) ≡ a.reading
  same = λ k x. (a.held x).2 k

  -- the nodes of the scheme are types
  pub instance_types : (c : List Node) × IsClosedBook c × ((place : ℕ → ℕ) × ((i : ℕ) → i < length s.book → place i < length c) × ((i : ℕ) → i < length s.book → passes c (place i) ≡ passes_by a.reading s.book i))
  unfolding r same
  instance_types =
      let it = substituted_held r s.book is.book in (
        it.0,
        it.1.closed,
        (it.2.0, it.2.1.in_range, λ i low. it.2.1.value var i low ∙ (λ k. passes_by (same k) s.book i)),
      )

  pub instance_is_type : (i : ℕ) → i < length s.book → IsType (passes_by a.reading s.book i)
  instance_is_type i low = let it = instance_types in (it.0, it.1, (it.2.0 i, it.2.1 i low, it.2.2 i low))

  moved_binder : (c : List Node) (place : ℕ → ℕ) → ((i : ℕ) → i < length s.book → passes c (place i) ≡ passes_by a.reading s.book i) → (o : Option ℕ) → ((i : ℕ) → o ≡ Some i → i < length s.book) → binder_passes (passes c) (option_map place o) ≡ binder_passes (passes_by a.reading s.book) o
  moved_binder c place value None low = refl
  moved_binder c place value (Some i) low = value i (low i refl)

  moved_low : (c : List Node) (place : ℕ → ℕ) → ((i : ℕ) → i < length s.book → place i < length c) → (o : Option ℕ) → ((i : ℕ) → o ≡ Some i → i < length s.book) → (j : ℕ) → option_map place o ≡ Some j → j < length c
  moved_low c place within None low j e = absurd (cc)
  moved_low c place within (Some i) low j e = let there : place i < length c = within i (low i refl) in let is_j : place i ≡ j = cc in rw (sym is_j) there

  -- the instance, over the book of its types
  pub instance : InstanceOf s types f
  instance =
      let it = instance_types in
      let c = it.0 in
      let place = it.2.0 in
      let u : Scheme = moved place c s in
      let needs : (x : ℕ) → needs_of u x ≡ binder_passes (passes_by a.reading s.book) (finmap.get s.env x) =
      (λ x. ap (binder_passes (passes c)) (get-moved_env place s.env x) ∙ moved_binder c place it.2.2 (finmap.get s.env x) (is.env x)) in
      record {
        scheme = u;
        is = record {
          book = it.1;
          root = it.2.1 s.root is.root;
          env = λ x j e. moved_low c place it.2.1 (finmap.get s.env x) (is.env x) j (sym (get-moved_env place s.env x) ∙ e);
        };
        subsumed = Allows-subsumes s u (record {
          book = a.book;
          closed = a.closed;
          reading = a.reading;
          held = a.held;
          root = Implies-same_back (type_of u) (passes_by a.reading s.book s.root) (it.2.2 s.root is.root);
          env = λ x. Implies-same (needs_of u x) (binder_passes (passes_by a.reading s.book) (finmap.get s.env x)) (needs x);
        });
        root = Implies-trans (type_of u) (passes_by a.reading s.book s.root) f (Implies-same (type_of u) (passes_by a.reading s.book s.root) (it.2.2 s.root is.root)) a.root;
        env = λ x. Implies-trans (types x) (binder_passes (passes_by a.reading s.book) (finmap.get s.env x)) (needs_of u x) (a.env x) (Implies-same_back (needs_of u x) (binder_passes (passes_by a.reading s.book) (finmap.get s.env x)) (needs x));
      }

  -- what a derivable scheme allows, the expression has
  pub typed_under : (known : Known) (t : TermTree) → Derives known t s → IsTyped known types t f
  typed_under known t h =
      let it : InstanceOf s types f = instance in
      record { scheme = it.scheme; is = it.is; derives = sub s h it.subsumed it.is; root = it.root; env = it.env }

  -- and what subsumes it allows
  pub Allows-subsumed : (t : Scheme) → Subsumes t s → Allows t types f
  Allows-subsumed t h =
      let it : InstanceOf s types f = instance in
      Allows-more t (needs_of it.scheme) types (type_of it.scheme) f it.env it.root (Subsumes-allows t it.scheme (Subsumes-trans t s it.scheme h it.subsumed))

-- equivalent schemes allow the same
pub Allows-equivalent : (s t : Scheme) → IsScheme s → IsScheme t → AreEquivalent s t → (types : ℕ → Predicate) (f : Predicate) → Allows s types f ↔ Allows t types f
Allows-equivalent s t is_s is_t same types f = (λ a. Allows-subsumed s is_s types f a t same.1, λ a. Allows-subsumed t is_t types f a s same.0)

-- a best scheme allows just what the expression has
pub best_allows : (known : Known) (t : TermTree) (s : Scheme) → IsScheme s → IsBest known t s → (types : ℕ → Predicate) (f : Predicate) → IsTyped known types t f ↔ Allows s types f
best_allows known t s is best types f = (
  λ h. Allows-more s (needs_of h.scheme) types (type_of h.scheme) f h.env h.root (Subsumes-allows s h.scheme (best.least h.scheme h.derives)),
  λ a. typed_under s is types f a known t best.derives,
)

-- and a scheme that does is best
pub best_by_types : (known : Known) (t : TermTree) (s : Scheme) → AreSchemes known → IsScheme s → ((types : ℕ → Predicate) (f : Predicate) → IsTyped known types t f ↔ Allows s types f) → IsBest known t s
best_by_types known t s all is just = record {
  derives = typed_derives known t s is ((just (needs_of s) (type_of s)).1 (Subsumes-allows s s (Subsumes-refl s)));
  least = λ other h. Allows-subsumes s other ((just (needs_of other) (type_of other)).0 (IsTyped-derived known t other (derived_scheme known t other all h) h));
}

-- an expression that has no type has no scheme
pub none_by_types : (known : Known) (t : TermTree) → AreSchemes known → ((types : ℕ → Predicate) (f : Predicate) → IsTyped known types t f → ⊥) → HasNone known t
none_by_types known t all none s h = none (needs_of s) (type_of s) (IsTyped-derived known t s (derived_scheme known t s all h) h)
