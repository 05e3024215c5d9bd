-- What a search has found, as marks below a limit.
use Rattle.std.proofs.Common.{◌≡◌, ◌↔◌, ◌⊎◌, inl, inr, ℕ, ◌+◌, ◌<◌, ◌≤◌, ◌==◌, Bool, true, false, List, [], ◌∷◌, ◌++◌, take, refl, sym, ap, ◌∙◌, subst, arith, length, get_or, Contains}
use Rattle.std.specs.List.{range_with_len}
use Rattle.std.proofs.Math.ListN.{set, get_or-map}
use Rattle.std.proofs.lemmas.Bool.{cases_eq, cases_lt, eq-eqb, eqb-true}
use Rattle.std.proofs.lemmas.List.{ext_get_or, get_or_default, get_or_past, get_or-set_same, get_or-set_other, length-map, length-set}
use Rattle.std.proofs.lemmas.List.FromFn.{length-range_with_len, get_or-range_with_len}
use Rattle.mls_book.proofs.Lattice.{or_cases, or_left, or_right}
use Rattle.mls_automaton.specs.declared.automaton.FieldSet.{FieldSet}
use Rattle.mls_automaton.specs.declared.state_set.StateId.{StateId}
use Rattle.mls_automaton.specs.Reached.{InAnyField}
use Rattle.mls_automaton.specs.steps.Searching.{Found, Grows, IsBelow}
use Rattle.mls_automaton.proofs.Lists.{Contains-cases, Contains-here, Contains-later}
use Rattle.mls_automaton.proofs.Searches.{grows-both, grows-nothing, grows-one, grows-same, next-cases, next-last, next-more}
use Rattle.mls_solver.specs.steps.Among.{is_among}
use Rattle.mls_biunify.specs.steps.Keeping.{Finds, found_of, InRoots, Walk, marks_below}
use Rattle.mls_biunify.specs.steps.Marking.{FindsNumber}

pub among-contains : (xs : List ℕ) (x : ℕ) → is_among xs x ≡ true → Contains xs x
among-contains [] x it = let wrong : false ≡ true = it in absurd (cc)
among-contains (y ∷ rest) x it =
    elim (or_cases (x == y) (is_among rest x) it) [
      | inl here ↦ subst (Contains (y ∷ rest)) (sym (eqb-true x y here)) (Contains-here y rest)
      | inr later ↦ Contains-later y rest x (among-contains rest x later)
    ]

pub contains-among : (xs : List ℕ) (x : ℕ) → Contains xs x → is_among xs x ≡ true
contains-among [] x it = let low : it.0 < 0 = it.1 in absurd (omega arith)
contains-among (y ∷ rest) x it =
    elim (Contains-cases y rest x it) [
      | inl here ↦ or_left (x == y) (is_among rest x) (eq-eqb x y (sym here))
      | inr later ↦ or_right (x == y) (is_among rest x) (contains-among rest x later)
    ]

-- a number is in a list or not
pub among-or_not : (xs : List ℕ) (x : ℕ) → Contains xs x ⊎ (Contains xs x → ⊥)
among-or_not xs x = go (is_among xs x) refl
  where
    go : (b : Bool) → is_among xs x ≡ b → Contains xs x ⊎ (Contains xs x → ⊥)
    go true e = inl (among-contains xs x e)
    go false e = inr (λ it. let wrong : true ≡ false = sym (contains-among xs x it) ∙ e in cc)

pub marks-length : (n : ℕ) (xs : List ℕ) → length (marks_below n xs) ≡ n
marks-length n xs = length-map (range_with_len 0 n) (is_among xs) ∙ length-range_with_len 0 n

pub marks-at : (n : ℕ) (xs : List ℕ) (j : ℕ) → j < n → get_or (marks_below n xs) j false ≡ is_among xs j
marks-at n xs j low =
    let same : 0 + j ≡ j = omega arith in
    get_or_default (marks_below n xs) j false (is_among xs 0) (subst (λ m. j < m) (sym (marks-length n xs)) low)
    ∙ (get_or-map (is_among xs) (range_with_len 0 n) j 0 ∙ (ap (is_among xs) (get_or-range_with_len 0 n j 0 low) ∙ ap (is_among xs) same))

-- what has a mark is below the limit, and was found
pub marked-is : (n : ℕ) (xs : List ℕ) (j : ℕ) → get_or (marks_below n xs) j false ≡ true → (j < n) × Contains xs j
marked-is n xs j it =
    elim (cases_lt j n) [
      | inl low ↦ (low, among-contains xs j (sym (marks-at n xs j low) ∙ it))
      | inr high ↦
          let none : get_or (marks_below n xs) j false ≡ false = get_or_past (marks_below n xs) j false (subst (λ m. m ≤ j) (sym (marks-length n xs)) high) in
          let wrong : true ≡ false = sym it ∙ none in
          absurd (cc)
    ]

pub is-marked : (n : ℕ) (xs : List ℕ) (j : ℕ) → j < n → Contains xs j → get_or (marks_below n xs) j false ≡ true
is-marked n xs j low it = marks-at n xs j low ∙ contains-among xs j it

-- the marks of a list with one number more
marks-more : (n : ℕ) (xs ys : List ℕ) (s : ℕ) → s < n → ((j : ℕ) → Contains ys j ↔ (j ≡ s) ⊎ Contains xs j) → set (marks_below n xs) s true ≡ marks_below n ys
marks-more n xs ys s low more =
    ext_get_or false (set (marks_below n xs) s true) (marks_below n ys)
    (length-set (marks_below n xs) s true ∙ (marks-length n xs ∙ sym (marks-length n ys)))
    (λ i below. at i (subst (λ m. i < m) (length-set (marks_below n xs) s true ∙ marks-length n xs) below))
  where
    same : (a b : Bool) → (a ≡ true → b ≡ true) → (b ≡ true → a ≡ true) → a ≡ b
    same true b to from = sym (to refl)
    same false true to from = from refl
    same false false to from = refl

    at : (i : ℕ) → i < n → get_or (set (marks_below n xs) s true) i false ≡ get_or (marks_below n ys) i false
    at i below =
        elim (cases_eq i s) [
          | inl e ↦
              ap (λ k. get_or (set (marks_below n xs) s true) k false) e
              ∙ (get_or-set_same (marks_below n xs) s true false (subst (λ m. s < m) (sym (marks-length n xs)) low)
              ∙ sym (is-marked n ys i below ((more i).1 (inl e))))
          | inr other ↦
              get_or-set_other (marks_below n xs) s i true false other
              ∙ (marks-at n xs i below
              ∙ (same (is_among xs i) (is_among ys i)
              (λ it. contains-among ys i ((more i).1 (inr (among-contains xs i it))))
              (λ it. elim ((more i).0 (among-contains ys i it)) [ inl e ↦ absurd (other e) | inr before ↦ contains-among xs i before ])
              ∙ sym (marks-at n ys i below)))
        ]

-- one state more, which was not found before
pub finds-one : (old new : Walk) (s : ℕ) (b : Bool) → FindsNumber old.found s new.found b → b ≡ true → new.work ≡ old.work ++ s ∷ [] → Finds old new (λ j. j ≡ s)
finds-one old new s b it came work limit below =
    subst (λ (f : Found). Grows (found_of limit old) f (λ j. j ≡ s)) same
    (grows-one (marks_below limit old.found) old.work s (subst (λ m. s < m) (sym (marks-length limit old.found)) low) (marks-at limit old.found s low ∙ none (is_among old.found s) refl))
  where
    low : s < limit
    low = below s refl

    none : (b : Bool) → is_among old.found s ≡ b → b ≡ false
    none true e = absurd (it.absent came (among-contains old.found s e))
    none false e = refl

    same : record { marks = set (marks_below limit old.found) s true; work = old.work ++ s ∷ [] } ≡ found_of limit new
    same = λ i. record {
      marks = marks-more limit old.found new.found s low it.numbers i;
      work = sym work i;
    }

-- a state that was found before
pub finds-none : (old new : Walk) (s : ℕ) (b : Bool) → FindsNumber old.found s new.found b → b ≡ false → new.work ≡ old.work → Finds old new (λ j. j ≡ s)
finds-none old new s b it absent work limit below =
    subst (λ (f : Found). Grows (found_of limit old) f (λ j. j ≡ s)) (λ i. record { marks = marks_below limit (sym (it.same absent) i); work = sym work i })
    (grows-nothing (found_of limit old) (λ j. j ≡ s)
    (λ j e. is-marked limit old.found j (below j e) (subst (Contains old.found) (sym e) (it.there absent))))

-- what is found stays below a number where all that comes is below it
pub finds-below : (old new : Walk) (P : ℕ → Type 0) (n : ℕ) → Finds old new P → IsBelow P n → IsBelow (Contains old.found) n → IsBelow (Contains new.found) n
finds-below old new P n finds low before j it =
    elim (cases_lt j n) [
      | inl less ↦ less
      | inr high ↦
          let grows = finds (j + 1) (λ k p. let less : k < n = low k p in omega arith) in
          elim (grows.found j (is-marked (j + 1) new.found j (omega arith) it)) [
            | inl was ↦ before j (marked-is (j + 1) old.found j was).1
            | inr one ↦ low j one.0
          ]
    ]

pub finds-nothing : (s : Walk) (P : ℕ → Type 0) → ((j : ℕ) → P j → ⊥) → Finds s s P
finds-nothing s P none limit below = grows-nothing (found_of limit s) P (λ j it. absurd (none j it))

-- one step after the other
pub finds-both : (a b c : Walk) (P Q R : ℕ → Type 0) → Finds a b P → Finds b c Q → ((j : ℕ) → P j → R j) → ((j : ℕ) → Q j → R j) → ((j : ℕ) → R j → P j ⊎ Q j) → Finds a c R
finds-both a b c P Q R first second is-first is-second parts limit below =
    grows-both (found_of limit a) (found_of limit b) (found_of limit c) P Q R (first limit (λ j it. below j (is-first j it))) (second limit (λ j it. below j (is-second j it))) is-first is-second parts

pub finds-same : (a b : Walk) (P Q : ℕ → Type 0) → Finds a b P → ((j : ℕ) → P j → Q j) → ((j : ℕ) → Q j → P j) → Finds a b Q
finds-same a b P Q finds to from limit below = grows-same (found_of limit a) (found_of limit b) P Q (finds limit (λ j it. below j (to j it))) to from

-- the next member of a set
pub finds-member : (a b c : Walk) (xs : List ℕ) (i : ℕ) → i < length xs → Finds a b (Contains (take i xs)) → Finds b c (λ j. j ≡ get_or xs i 0) → Finds a c (Contains (take (i + 1) xs))
finds-member a b c xs i low first second =
    finds-both a b c (Contains (take i xs)) (λ j. j ≡ get_or xs i 0) (Contains (take (i + 1) xs)) first second
    (λ j it. next-more xs i 0 low j it)
    (λ j e. subst (λ k. Contains (take (i + 1) xs) k) (sym e) (next-last xs i 0 low))
    (λ j it. elim (next-cases xs i 0 low j it) [ inl before ↦ inl before | inr e ↦ inr (sym e) ])

-- the next field
pub finds-field : (a b c : Walk) (xs : List FieldSet) (i : ℕ) (d : FieldSet) → i < length xs → d ≡ get_or xs i d → Finds a b (InAnyField (take i xs)) → Finds b c (Contains d.set) → Finds a c (InAnyField (take (i + 1) xs))
finds-field a b c xs i d low is first second =
    finds-both a b c (InAnyField (take i xs)) (Contains d.set) (InAnyField (take (i + 1) xs)) first second
    (λ j it. (it.0, next-more xs i d low it.0 it.1, it.2))
    (λ j it. (d, subst (λ (f : FieldSet). Contains (take (i + 1) xs) f) (sym is) (next-last xs i d low), it))
    (λ j it. elim (next-cases xs i d low it.0 it.1) [ inl before ↦ inl (it.0, before, it.2) | inr e ↦ inr (subst (λ (f : FieldSet). Contains f.set j) (sym e ∙ sym is) it.2) ])

-- the next root
pub finds-root : (a b c : Walk) (xs : List StateId) (i : ℕ) (d : StateId) → i < length xs → Finds a b (InRoots (take i xs)) → Finds b c (λ j. j ≡ (get_or xs i d).0) → Finds a c (InRoots (take (i + 1) xs))
finds-root a b c xs i d low first second =
    finds-both a b c (InRoots (take i xs)) (λ j. j ≡ (get_or xs i d).0) (InRoots (take (i + 1) xs)) first second
    (λ j it. (it.0, next-more xs i d low it.0 it.1, it.2))
    (λ j e. (get_or xs i d, next-last xs i d low, sym e))
    (λ j it. elim (next-cases xs i d low it.0 it.1) [ inl before ↦ inl (it.0, before, it.2) | inr e ↦ inr (sym it.2 ∙ ap (λ (x : StateId). x.0) (sym e)) ])
