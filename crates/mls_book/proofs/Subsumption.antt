-- Which scheme subsumes which. No lemma here names a node of a substitution: its variables are read as predicates that
-- nodes of a closed book have.
--     subsumes_where, subsumes_where_known     such a reading shows that one scheme subsumes another
--     subsumed_where         and each substitution gives one
--     Subsumes-below         schemes whose types are in order
--     Subsumes-renamed       other variables
--     Subsumes-refl, Subsumes-trans
--     HaveSameValues         schemes of different books that stand for the same: they subsume, and are subsumed by, the same
--     Equivalent-..          equivalence, of such schemes, of a scheme in a longer book or moved, of one with other variables
use Rattle.std.proofs.Common.{◌≡◌, inl, inr, ℕ, zero, suc, ◌+◌, ◌<◌, Bool, true, false, List, [], ◌∷◌, ◌++◌, map, length, refl, sym, ap, ◌∙◌, subst, arith, Some, None}
use Rattle.std.specs.Prelude.{Option, option_map}
use Rattle.std.specs.FinMap as finmap
use Rattle.mls_book.specs.declared.book.Node.{Node}
use Rattle.mls_book.specs.declared.book.Node.TheVariants as node
use Rattle.mls_book.specs.Books.{node_at, IsClosedBook}
use Rattle.mls_book.specs.Predicates.{Predicate, Implies, bot, var}
use Rattle.mls_book.specs.Passes.{passes, passes_by}
use Rattle.mls_book.specs.Schemes.{Scheme, IsScheme, Substitution, SubsumesBy, Subsumes, AreEquivalent, binder_passes, passes_at}
use Rattle.mls_book.proofs.Table.{value-var, value-bot}
use Rattle.mls_book.proofs.Depths.{Implies-refl, Implies-trans, Implies-same, Implies-same_back}
use Rattle.mls_book.proofs.LongerBooks.{AllFrom, IsGood, closed_from, Extends, extended_with, Holds}
use Rattle.mls_book.proofs.Variables.{variables_of, has, has_left, has_right, has_cases, passes_by-agree}
use Rattle.mls_book.proofs.Pulls.{pulled, Implies-pulled, passes_by-pulled, passes-pulled}
use Rattle.mls_book.proofs.Representation.{IsIn, IsIn-longer, substituted_held}

-- the first scheme, whose nodes pass this, is below the second
pub record IsBelowAt (value : ℕ → Predicate) (s u : Scheme) : Type 0 where
  pub root : Implies (value s.root) (passes u.book u.root)
  pub env : (x : ℕ) → Implies (binder_passes (passes u.book) (finmap.get u.env x)) (binder_passes value (finmap.get s.env x))

-- where each variable is read as what a node of one closed book passes, that is a substitution
pub subsumes_where : (s u : Scheme) (c : List Node) → IsClosedBook c → (v : ℕ → Predicate) → ((x : ℕ) → IsIn c (v x)) → IsBelowAt (passes_by v s.book) s u → Subsumes s u
subsumes_where s u c closed v held below =
    let same : v ≡ (λ x. passes c (held x).0) = λ k x. sym (held x).2 k in
    let it : IsBelowAt (passes_by (λ x. passes c (held x).0) s.book) s u = subst (λ w. IsBelowAt (passes_by w s.book) s u) same below in (
      record {
        book = c;
        node_of = λ x. (held x).0;
        closed = closed;
        in_range = λ x. (held x).1;
      },
      record { root = it.root; env = it.env },
    )

-- and each substitution is such a reading
pub record IsReadIn (s u : Scheme) : Type 0 where
  pub book : List Node
  pub closed : IsClosedBook book
  pub reading : ℕ → Predicate
  pub held : (x : ℕ) → IsIn book (reading x)
  pub below : IsBelowAt (passes_by reading s.book) s u

pub subsumed_where : (s u : Scheme) → Subsumes s u → IsReadIn s u
subsumed_where s u it =
    let r : Substitution = it.0 in
    record {
      book = r.book;
      closed = r.closed;
      reading = λ x. passes r.book (r.node_of x);
      held = λ x. (r.node_of x, r.in_range x, refl);
      below = record { root = it.1.root; env = it.1.env };
    }

-- it is enough so to read the variables of the first scheme
pub subsumes_where_known : (s u : Scheme) (c : List Node) → IsClosedBook c → (v : ℕ → Predicate) → ((x : ℕ) → has x (variables_of s.book) ≡ true → IsIn c (v x)) → IsBelowAt (passes_by v s.book) s u → Subsumes s u
subsumes_where_known s u c closed v held below =
    let more = extended_with c node.Bot closed tt tt in
    let is_bot : IsIn more.0 bot = (more.2.0, more.2.1, value-bot var more.0 more.1.closed.book more.2.0 more.2.2) in
    go more.0 more.1 is_bot
  where
    chosen : (d : List Node) → Extends c d → IsIn d bot → (x : ℕ) (b : Bool) → has x (variables_of s.book) ≡ b → (f : Predicate) × IsIn d f × (has x (variables_of s.book) ≡ true → v x ≡ f)
    chosen d more is_bot x true e = (v x, IsIn-longer c d (v x) closed more (held x e), λ h. refl)
    chosen d more is_bot x false e = (bot, is_bot, λ h. absurd (cc))

    go : (d : List Node) → Extends c d → IsIn d bot → Subsumes s u
    go d more is_bot =
        let w : ℕ → Predicate = λ x. (chosen d more is_bot x (has x (variables_of s.book)) refl).0 in
        let same : passes_by v s.book ≡ passes_by w s.book = passes_by-agree v w s.book (λ x h. (chosen d more is_bot x (has x (variables_of s.book)) refl).2 h) in
        subsumes_where s u d more.closed w (λ x. (chosen d more is_bot x (has x (variables_of s.book)) refl).1) (subst (λ value. IsBelowAt value s u) same below)

-- a closed book with these variables
variables_book : (ℕ → ℕ) → List ℕ → List Node
variables_book rename names = map (λ x. node.Var (rename x)) names

variables_good : (n a : ℕ) (rename : ℕ → ℕ) (names : List ℕ) → AllFrom (IsGood n) a (variables_book rename names)
unfolding variables_book
variables_good n a rename [] i low = absurd (omega arith)
variables_good n a rename (x ∷ rest) zero low = record { ordered = tt; below = tt }
variables_good n a rename (x ∷ rest) (suc i) low =
    let at : suc a + i ≡ a + suc i = omega arith in
    subst (λ j. IsGood n j (node_at (variables_book rename rest) i)) at (variables_good n (suc a) rename rest i (omega arith))

variable_found : (rename : ℕ → ℕ) (x : ℕ) (names : List ℕ) → has x names ≡ true → (i : ℕ) × (i < length (variables_book rename names)) × (node_at (variables_book rename names) i ≡ node.Var (rename x))
unfolding variables_book
variable_found rename x [] e = absurd (has_cases x [] e)
variable_found rename x (y ∷ rest) e =
    elim (has_cases x (y ∷ rest) e) [
      | inl same ↦ (0, omega arith, ap (λ z. node.Var (rename z)) same)
      | inr later ↦ let it = variable_found rename x rest later in (suc it.0, (let low : it.0 < length (variables_book rename rest) = it.1 in omega arith), it.2)
    ]

variables_held : (rename : ℕ → ℕ) (names : List ℕ) → (c : List Node) × IsClosedBook c × ((x : ℕ) → has x names ≡ true → IsIn c (var (rename x)))
variables_held rename names =
    let c : List Node = variables_book rename names in
    let closed : IsClosedBook c = closed_from c (variables_good (length c) 0 rename names) in (
      c,
      closed,
      λ x known.
          let it = variable_found rename x names known in
          (it.0, it.1, value-var var c closed.book it.0 (rename x) it.2),
    )

-- other variables give a scheme that is subsumed, and so do types that are in order
pub Subsumes-renamed : (rename : ℕ → ℕ) (s u : Scheme) → IsBelowAt (passes_by (λ x. var (rename x)) s.book) s u → Subsumes s u
Subsumes-renamed rename s u below =
    let it = variables_held rename (variables_of s.book) in
    subsumes_where_known s u it.0 it.1 (λ x. var (rename x)) it.2 below

pub Subsumes-below : (s u : Scheme) → IsBelowAt (passes s.book) s u → Subsumes s u
Subsumes-below s u below = Subsumes-renamed (λ x. x) s u below

pub Subsumes-refl : (s : Scheme) → Subsumes s s
Subsumes-refl s = Subsumes-below s s (record { root = Implies-refl (passes s.book s.root); env = λ x. Implies-refl (binder_passes (passes s.book) (finmap.get s.env x)) })

-- a binder at pulled tests
binder-pulled : (v : ℕ → Predicate) (names : List ℕ) (f : ℕ → Predicate) (o : Option ℕ) → pulled v names (binder_passes f o) ≡ binder_passes (λ i. pulled v names (f i)) o
binder-pulled v names f None = refl
binder-pulled v names f (Some i) = refl

-- two substitutions one after the other are one
module _ (s t u : Scheme) (first second : Substitution) (by_first : SubsumesBy s t first) (by_second : SubsumesBy t u second) where
  w : ℕ → Predicate
  w x = passes second.book (second.node_of x)

  v : ℕ → Predicate
  v x = passes_by w first.book (first.node_of x)

  names : List ℕ
  names = variables_of t.book ++ variables_of first.book

  -- the nodes of the first scheme under both are the nodes under the first, at pulled tests
  at_s : (λ i. pulled w names (passes_at first s.book i)) ≡ passes_by v s.book
  unfolding v w names
  at_s =
      (λ k i. passes_by-pulled w names (λ x. passes first.book (first.node_of x)) s.book i k)
      ∙ (λ k. passes_by (λ x. passes-pulled w names first.book (λ y. has_right y (variables_of t.book) (variables_of first.book)) (first.node_of x) k) s.book)

  at_t : (λ i. pulled w names (passes t.book i)) ≡ passes_at second t.book
  unfolding w names
  at_t = λ k i. passes-pulled w names t.book (λ y. has_left y (variables_of t.book) (variables_of first.book)) i k

  below : IsBelowAt (passes_by v s.book) s u
  below = record {
    root =
        Implies-trans (passes_by v s.book s.root) (passes_at second t.book t.root) (passes u.book u.root)
        (subst (λ f. Implies (passes_by v s.book s.root) (f t.root)) at_t
        (subst (λ f. Implies (f s.root) (pulled w names (passes t.book t.root))) at_s
        (Implies-pulled w names (passes_at first s.book s.root) (passes t.book t.root) by_first.root)))
        by_second.root;
    env = λ x.
        let o : Option ℕ = finmap.get s.env x in
        let p : Option ℕ = finmap.get t.env x in
        Implies-trans (binder_passes (passes u.book) (finmap.get u.env x)) (binder_passes (passes_at second t.book) p) (binder_passes (passes_by v s.book) o)
        (by_second.env x)
        (subst (λ f. Implies (binder_passes f p) (binder_passes (passes_by v s.book) o)) at_t
        (subst (λ f. Implies (binder_passes (λ i. pulled w names (passes t.book i)) p) (binder_passes f o)) at_s
        (subst (λ f. Implies f (binder_passes (λ i. pulled w names (passes_at first s.book i)) o)) (binder-pulled w names (passes t.book) p)
        (subst (λ f. Implies (pulled w names (binder_passes (passes t.book) p)) f) (binder-pulled w names (passes_at first s.book) o)
        (Implies-pulled w names (binder_passes (passes t.book) p) (binder_passes (passes_at first s.book) o) (by_first.env x))))));
  }

  Subsumes-both : Subsumes s u
  unfolding v w
  Subsumes-both =
      let it = substituted_held second first.book first.closed in
      subsumes_where s u it.0 it.1.closed v (λ x. (it.2.0 (first.node_of x), it.2.1.in_range (first.node_of x) (first.in_range x), it.2.1.value var (first.node_of x) (first.in_range x))) below

pub Subsumes-trans : (s t u : Scheme) → Subsumes s t → Subsumes t u → Subsumes s u
Subsumes-trans s t u first second = Subsumes-both s t u first.0 second.0 first.1 second.1

-- schemes, of whatever books, that stand for the same
pub record HaveSameValues (s t : Scheme) : Type 0 where
  pub root : (v : ℕ → Predicate) → passes_by v s.book s.root ≡ passes_by v t.book t.root
  pub env : (v : ℕ → Predicate) (x : ℕ) → binder_passes (passes_by v s.book) (finmap.get s.env x) ≡ binder_passes (passes_by v t.book) (finmap.get t.env x)

pub HaveSameValues-sym : (s t : Scheme) → HaveSameValues s t → HaveSameValues t s
HaveSameValues-sym s t same = record { root = λ v. sym (same.root v); env = λ v x. sym (same.env v x) }

-- subsumption asks for nothing else
pub Subsumes-same_left : (s t u : Scheme) → HaveSameValues s t → Subsumes s u → Subsumes t u
Subsumes-same_left s t u same it =
    let r : Substitution = it.0 in
    let v : ℕ → Predicate = λ x. passes r.book (r.node_of x) in (
      r,
      record {
        root = subst (λ f. Implies f (passes u.book u.root)) (same.root v) it.1.root;
        env = λ x. subst (Implies (binder_passes (passes u.book) (finmap.get u.env x))) (same.env v x) (it.1.env x);
      },
    )

pub Subsumes-same_right : (s t u : Scheme) → HaveSameValues t u → Subsumes s t → Subsumes s u
Subsumes-same_right s t u same it =
    let r : Substitution = it.0 in (
      r,
      record {
        root = subst (Implies (passes_at r s.book s.root)) (same.root var) it.1.root;
        env = λ x. subst (λ f. Implies f (binder_passes (passes_at r s.book) (finmap.get s.env x))) (same.env var x) (it.1.env x);
      },
    )

pub Equivalent-refl : (s : Scheme) → AreEquivalent s s
Equivalent-refl s = (Subsumes-refl s, Subsumes-refl s)

pub Equivalent-sym : (s t : Scheme) → AreEquivalent s t → AreEquivalent t s
Equivalent-sym s t it = (it.1, it.0)

pub Equivalent-trans : (s t u : Scheme) → AreEquivalent s t → AreEquivalent t u → AreEquivalent s u
Equivalent-trans s t u first second = (Subsumes-trans s t u first.0 second.0, Subsumes-trans u t s second.1 first.1)

pub Equivalent-same : (s t : Scheme) → HaveSameValues s t → AreEquivalent s t
Equivalent-same s t same = (Subsumes-same_right s s t same (Subsumes-refl s), Subsumes-same_left s t s same (Subsumes-refl s))

-- a scheme whose book's values another book holds
binder_held : (v : ℕ → Predicate) (b c : List Node) (place : ℕ → ℕ) → Holds b c place → (o p : Option ℕ) → ((i : ℕ) → o ≡ Some i → i < length b) → p ≡ option_map place o → binder_passes (passes_by v b) o ≡ binder_passes (passes_by v c) p
binder_held v b c place holds None p low is = ap (binder_passes (passes_by v c)) (sym is)
binder_held v b c place holds (Some i) p low is = sym (ap (binder_passes (passes_by v c)) is ∙ holds.value v i (low i refl))

pub moved_same : (s t : Scheme) (place : ℕ → ℕ) → IsScheme s → Holds s.book t.book place → t.root ≡ place s.root → ((x : ℕ) → finmap.get t.env x ≡ option_map place (finmap.get s.env x)) → HaveSameValues s t
moved_same s t place is holds root env = record {
  root = λ v. sym (ap (passes_by v t.book) root ∙ holds.value v s.root is.root);
  env = λ v x. binder_held v s.book t.book place holds (finmap.get s.env x) (finmap.get t.env x) (is.env x) (env x);
}

pub Equivalent-moved : (s t : Scheme) (place : ℕ → ℕ) → IsScheme s → Holds s.book t.book place → t.root ≡ place s.root → ((x : ℕ) → finmap.get t.env x ≡ option_map place (finmap.get s.env x)) → AreEquivalent s t
Equivalent-moved s t place is holds root env = Equivalent-same s t (moved_same s t place is holds root env)

-- the second scheme is the first with other variables
pub record IsRenamed (rename : ℕ → ℕ) (s t : Scheme) : Type 0 where
  pub root : (v : ℕ → Predicate) → passes_by (λ x. v (rename x)) s.book s.root ≡ passes_by v t.book t.root
  pub env : (v : ℕ → Predicate) (x : ℕ) → binder_passes (passes_by (λ x. v (rename x)) s.book) (finmap.get s.env x) ≡ binder_passes (passes_by v t.book) (finmap.get t.env x)

-- where no two variables become one, they are equivalent
pub Equivalent-renamed : (rename back : ℕ → ℕ) (s t : Scheme) → ((x : ℕ) → has x (variables_of s.book) ≡ true → back (rename x) ≡ x) → IsRenamed rename s t → AreEquivalent s t
Equivalent-renamed rename back s t undone is = (
  Subsumes-renamed rename s t (record {
    root = Implies-same (passes_by (λ x. var (rename x)) s.book s.root) (passes t.book t.root) (is.root var);
    env = λ x. Implies-same_back (binder_passes (passes_by (λ x. var (rename x)) s.book) (finmap.get s.env x)) (binder_passes (passes t.book) (finmap.get t.env x)) (is.env var x);
  }),
  Subsumes-renamed back t s (record {
    root =
        Implies-same (passes_by (λ x. var (back x)) t.book t.root) (passes s.book s.root)
        (sym (is.root (λ x. var (back x))) ∙ (λ k. same k s.root));
    env = λ x.
        Implies-same (binder_passes (passes s.book) (finmap.get s.env x)) (binder_passes (passes_by (λ x. var (back x)) t.book) (finmap.get t.env x))
        ((λ k. binder_passes (sym same k) (finmap.get s.env x)) ∙ is.env (λ x. var (back x)) x);
  }),
)
  where
    same : passes_by (λ x. var (back (rename x))) s.book ≡ passes s.book
    same = passes_by-agree (λ x. var (back (rename x))) var s.book (λ x known. ap var (undone x known))
