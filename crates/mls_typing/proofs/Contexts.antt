-- Environments over books: a longer book has a meet of two, and what binders need stays where a book is held by another.
use Rattle.std.proofs.Common.{◌≡◌, ℕ, ◌<◌, ◌≤◌, Bool, true, false, List, [], ◌∷◌, map, length, refl, sym, ap, ◌∙◌, subst, arith, Option, Some, None, cond}
use Rattle.std.specs.Prelude.{option_map}
use Rattle.std.specs.FinMap as finmap
use Rattle.std.specs.FinMap.{get-insert, get-remove, nat_cmp-IsAntisymmetric}
use Rattle.std.specs.Ordering.{nat_cmp, eq_by_cmp, is_eq}
use Rattle.std.specs.declared.cmp.Ordering.TheVariants.{Less, Equal, Greater}
use Rattle.std.specs.declared.cmp.Ordering.{Ordering}
use Rattle.std.proofs.lemmas.Cmp.{nat_cmp_total}
use Rattle.mls_book.specs.declared.book.Node.{Node}
use Rattle.mls_book.specs.declared.book.Node.TheVariants as node
use Rattle.mls_book.specs.Books.{IsClosedBook}
use Rattle.mls_book.specs.Predicates.{Predicate, top, meet}
use Rattle.mls_book.specs.Passes.{passes_by}
use Rattle.mls_book.specs.Schemes.{Env, binder_passes}
use Rattle.mls_book.proofs.Lattice.{meet_top}
use Rattle.mls_book.proofs.Table.{value-meet}
use Rattle.mls_book.proofs.LongerBooks.{Holds, Extends, Extends-value, Extends-refl, Extends-trans, extended_with}
use Rattle.mls_term.specs.Derivations.{IsMeetAt, IsMeet}

abbrev pub IsWithin : List Node → Env → Type 0
IsWithin b d = (x i : ℕ) → finmap.get d x ≡ Some i → i < length b

equal_is : (o : Ordering) → is_eq o ≡ true → o ≡ Equal
equal_is Less e = absurd (cc)
equal_is Equal e = refl
equal_is Greater e = absurd (cc)

pub same_key : (x y : ℕ) → eq_by_cmp nat_cmp x y ≡ true → x ≡ y
same_key x y e = nat_cmp-IsAntisymmetric x y (equal_is (nat_cmp x y) e)

-- what a list of entries has for a key, where only these keys count
abbrev among : List ℕ → Env → ℕ → Option ℕ
among [] d x = None
among (y ∷ rest) d x = cond (eq_by_cmp nat_cmp x y) (finmap.get d x) (among rest d x)

among-keys : (d : Env) (x : ℕ) (entries : List (ℕ × ℕ)) → finmap.find nat_cmp x entries ≡ finmap.get d x → among (map (λ (e : ℕ × ℕ). e.0) entries) d x ≡ finmap.get d x
among-keys d x [] e = e
among-keys d x (entry ∷ rest) e0 = go (eq_by_cmp nat_cmp x entry.0) (among-keys d x rest) e0
  where
    go : (b : Bool) → (finmap.find nat_cmp x rest ≡ finmap.get d x → among (map (λ (e : ℕ × ℕ). e.0) rest) d x ≡ finmap.get d x) → cond b (Some entry.1) (finmap.find nat_cmp x rest) ≡ finmap.get d x → cond b (finmap.get d x) (among (map (λ (e : ℕ × ℕ). e.0) rest) d x) ≡ finmap.get d x
    go true later e = refl
    go false later e = later e

-- a meet node over a longer book stays one
IsMeetAt-longer : (b c : List Node) → Extends b c → (o p q : Option ℕ) → ((n : ℕ) → q ≡ Some n → n < length b) → IsMeetAt b o p q → IsMeetAt c o p q
IsMeetAt-longer b c more None p q low h = h
IsMeetAt-longer b c more (Some i) None q low h = h
IsMeetAt-longer b c more (Some i) (Some j) q low h = (h.0, h.1, more.same h.0 (low h.0 h.1) ∙ h.2)

-- the meet over these keys alone
record MeetOver (b : List Node) (left right : Env) (keys : List ℕ) : Type 0 where
  book : List Node
  extends : Extends b book
  both : Env
  within : IsWithin book both
  is : (x : ℕ) → IsMeetAt book (finmap.get left x) (among keys right x) (finmap.get both x)

module _ (b : List Node) (closed : IsClosedBook b) (left right : Env) (left_within : IsWithin b left) (right_within : IsWithin b right) where
  meet_none : (o : Option ℕ) → IsMeetAt b o None o
  meet_none None = refl
  meet_none (Some i) = refl

  module _ (y : ℕ) (rest : List ℕ) (before : MeetOver b left right rest) where
    -- the node n stands for the key
    put_in : (c : List Node) → Extends before.book c → (n : ℕ) → n < length c → IsMeetAt c (finmap.get left y) (finmap.get right y) (Some n) → MeetOver b left right (y ∷ rest)
    put_in c more n low at = record {
      book = c;
      extends = Extends-trans b before.book c before.extends more;
      both = finmap.insert before.both y n;
      within = λ x i e. within_at x i (eq_by_cmp nat_cmp x y) (sym (get-insert nat_cmp_total before.both y n x) ∙ e);
      is = λ x.
          subst (IsMeetAt c (finmap.get left x) (among (y ∷ rest) right x)) (sym (get-insert nat_cmp_total before.both y n x))
          (is_at x (eq_by_cmp nat_cmp x y) refl);
    }
      where
        within_at : (x i : ℕ) (t : Bool) → cond t (Some n) (finmap.get before.both x) ≡ Some i → i < length c
        within_at x i true e = let same : n ≡ i = cc in omega arith
        within_at x i false e = let h : i < length before.book = before.within x i e in let le : length before.book ≤ length c = more.longer in omega arith

        is_at : (x : ℕ) (t : Bool) → eq_by_cmp nat_cmp x y ≡ t → IsMeetAt c (finmap.get left x) (cond t (finmap.get right x) (among rest right x)) (cond t (Some n) (finmap.get before.both x))
        is_at x true e = let P : ℕ → Type 0 = λ z. IsMeetAt c (finmap.get left z) (finmap.get right z) (Some n) in subst P (sym (same_key x y e)) at
        is_at x false e = IsMeetAt-longer before.book c more (finmap.get left x) (among rest right x) (finmap.get before.both x) (before.within x) (before.is x)

    -- the key is in neither
    leave_out : IsMeetAt before.book (finmap.get left y) (finmap.get right y) None → MeetOver b left right (y ∷ rest)
    leave_out at = record {
      book = before.book;
      extends = before.extends;
      both = finmap.remove before.both y;
      within = λ x i e. within_at x i (eq_by_cmp nat_cmp x y) (sym (get-remove nat_cmp_total before.both y x) ∙ e);
      is = λ x.
          subst (IsMeetAt before.book (finmap.get left x) (among (y ∷ rest) right x)) (sym (get-remove nat_cmp_total before.both y x))
          (is_at x (eq_by_cmp nat_cmp x y) refl);
    }
      where
        within_at : (x i : ℕ) (t : Bool) → cond t None (finmap.get before.both x) ≡ Some i → i < length before.book
        within_at x i true e = absurd (cc)
        within_at x i false e = before.within x i e

        is_at : (x : ℕ) (t : Bool) → eq_by_cmp nat_cmp x y ≡ t → IsMeetAt before.book (finmap.get left x) (cond t (finmap.get right x) (among rest right x)) (cond t None (finmap.get before.both x))
        is_at x true e = let P : ℕ → Type 0 = λ z. IsMeetAt before.book (finmap.get left z) (finmap.get right z) None in subst P (sym (same_key x y e)) at
        is_at x false e = before.is x

    at_key : (c : List Node) (o p q : Option ℕ) → finmap.get left y ≡ o → finmap.get right y ≡ p → IsMeetAt c o p q → IsMeetAt c (finmap.get left y) (finmap.get right y) q
    at_key c o p q e e' h = subst (λ o. IsMeetAt c o (finmap.get right y) q) (sym e) (subst (λ p. IsMeetAt c o p q) (sym e') h)

    stays : (i : ℕ) → i < length b → i < length before.book
    stays i low = let le : length b ≤ length before.book = before.extends.longer in omega arith

    step : (o p : Option ℕ) → finmap.get left y ≡ o → finmap.get right y ≡ p → MeetOver b left right (y ∷ rest)
    step None None e e' = leave_out (at_key before.book None None None e e' refl)
    step None (Some j) e e' =
        put_in before.book (Extends-refl before.book before.extends.closed) j (stays j (right_within y j e')) (at_key before.book None (Some j) (Some j) e e' refl)
    step (Some i) None e e' =
        put_in before.book (Extends-refl before.book before.extends.closed) i (stays i (left_within y i e)) (at_key before.book (Some i) None (Some i) e e' refl)
    step (Some i) (Some j) e e' =
        let i_low : i < length before.book = stays i (left_within y i e) in
        let j_low : j < length before.book = stays j (right_within y j e') in
        let it = extended_with before.book (node.Meet (record { 0 = i }) (record { 0 = j })) before.extends.closed (i_low, j_low) (omega arith, omega arith) in
        put_in it.0 it.1 it.2.0 it.2.1 (at_key it.0 (Some i) (Some j) (Some it.2.0) e e' (it.2.0, refl, it.2.2))

  meet_over : (keys : List ℕ) → MeetOver b left right keys
  meet_over [] = record {
    book = b;
    extends = Extends-refl b closed;
    both = left;
    within = left_within;
    is = λ x. meet_none (finmap.get left x);
  }
  meet_over (y ∷ rest) = let before = meet_over rest in step y rest before (finmap.get left y) (finmap.get right y) refl refl

-- a longer book, and the meet of two environments there
pub record MeetIn (b : List Node) (left right : Env) : Type 0 where
  pub book : List Node
  pub extends : Extends b book
  pub both : Env
  pub within : IsWithin book both
  pub is : IsMeet book left right both

pub meet_in : (b : List Node) → IsClosedBook b → (left right : Env) → IsWithin b left → IsWithin b right → MeetIn b left right
meet_in b closed left right left_within right_within =
    let it = meet_over b closed left right left_within right_within (map (λ (e : ℕ × ℕ). e.0) (finmap.entries right)) in
    record {
      book = it.book;
      extends = it.extends;
      both = it.both;
      within = it.within;
      is = λ x. subst (λ p. IsMeetAt it.book (finmap.get left x) p (finmap.get it.both x)) (among-keys right x (finmap.entries right) (sym (finmap.get-entries right x))) (it.is x);
    }

-- what is needed by the meet
IsMeetAt-value : (c : List Node) → IsClosedBook c → (v : ℕ → Predicate) (o p q : Option ℕ) → IsMeetAt c o p q → binder_passes (passes_by v c) q ≡ meet (binder_passes (passes_by v c) o) (binder_passes (passes_by v c) p)
IsMeetAt-value c closed v None p q h = ap (binder_passes (passes_by v c)) h ∙ sym (top_meet (binder_passes (passes_by v c) p))
  where
    top_meet : (f : Predicate) → meet top f ≡ f
    top_meet f = refl
IsMeetAt-value c closed v (Some i) None q h = ap (binder_passes (passes_by v c)) h ∙ sym (meet_top (passes_by v c i))
IsMeetAt-value c closed v (Some i) (Some j) q h =
    ap (binder_passes (passes_by v c)) h.1 ∙ value-meet v c closed.book h.0 (record { 0 = i }) (record { 0 = j }) h.2

pub IsMeet-value : (c : List Node) → IsClosedBook c → (left right both : Env) → IsMeet c left right both → (v : ℕ → Predicate) (x : ℕ)
    → binder_passes (passes_by v c) (finmap.get both x) ≡ meet (binder_passes (passes_by v c) (finmap.get left x)) (binder_passes (passes_by v c) (finmap.get right x))
IsMeet-value c closed left right both is v x = IsMeetAt-value c closed v (finmap.get left x) (finmap.get right x) (finmap.get both x) (is x)

-- a binder where its book is held by another, and in a longer book
pub held_under : (v : ℕ → Predicate) (b c : List Node) (place : ℕ → ℕ) → Holds b c place → (o : Option ℕ) → ((i : ℕ) → o ≡ Some i → i < length b) → binder_passes (passes_by v c) (option_map place o) ≡ binder_passes (passes_by v b) o
held_under v b c place holds None low = refl
held_under v b c place holds (Some i) low = holds.value v i (low i refl)

pub longer_under : (v : ℕ → Predicate) (b c : List Node) → IsClosedBook b → Extends b c → (o : Option ℕ) → ((i : ℕ) → o ≡ Some i → i < length b) → binder_passes (passes_by v c) o ≡ binder_passes (passes_by v b) o
longer_under v b c closed more None low = refl
longer_under v b c closed more (Some i) low = Extends-value b c closed more v i (low i refl)

pub held_within : (b c : List Node) (place : ℕ → ℕ) → Holds b c place → (o : Option ℕ) → ((i : ℕ) → o ≡ Some i → i < length b) → (j : ℕ) → option_map place o ≡ Some j → j < length c
held_within b c place holds None low j e = absurd (cc)
held_within b c place holds (Some i) low j e = let there : place i < length c = holds.in_range i (low i refl) in let is_j : place i ≡ j = cc in rw (sym is_j) there

pub longer_within : (b c : List Node) (d : Env) → Extends b c → IsWithin b d → IsWithin c d
longer_within b c d more within x i e = let low : i < length b = within x i e in let le : length b ≤ length c = more.longer in omega arith
