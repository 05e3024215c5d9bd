-- The marks of the numbers that a walk has found.
use Rattle.std.proofs.Common.{◌≡◌, ◌↔◌, inl, inr, ℕ, ◌+◌, ◌<◌, ◌≤◌, not, Bool, true, false, List, [], ◌∷◌, ◌++◌, take, set, refl, sym, ap, ◌∙◌, subst, arith, length, get_or, All, Contains}
use Rattle.std.specs.BTreeSet.{BTreeSet, contains, Updates}
use Rattle.std.specs.Ordering.{nat_cmp}
use Rattle.std.proofs.lemmas.Bool.{cases_eq, cases_lt}
use Rattle.std.proofs.lemmas.Cmp.{nat_cmp_total}
use Rattle.std.proofs.lemmas.List.{get_or_past, get_or-set_same, get_or-set_other, length-set}
use Rattle.std.proofs.lemmas.List.Elements.{All-contains, Contains-get_or}
use Rattle.std.proofs.lemmas.Map.Lookups.{exact_unsigned}
use Rattle.std.proofs.lemmas.Map.Views.{btree_set_contains_iff}
use Rattle.mls_automaton.proofs.Lists.{All-contained}
use Rattle.mls_solver.proofs.Relating.{taken-before, taken-last, taken-cases}
use Rattle.mls_solver.proofs.Settling.{inserted}
use Rattle.mls_biunify.specs.steps.Marking.{AreMarks, FindsNumber, IsUnmarked, WasFound}
use Rattle.mls_biunify.proofs.KeptTables.{pushed-one}

-- what has a mark is below their length
pub mark-low : (marks : List Bool) (j : ℕ) → get_or marks j false ≡ true → j < length marks
mark-low marks j it =
    elim (cases_lt j (length marks)) [
      | inl low ↦ low
      | inr high ↦ let wrong : false ≡ true = sym (get_or_past marks j false high) ∙ it in absurd (cc)
    ]

module _ (found : List ℕ) (marks : List Bool) (are : AreMarks found marks) where
  pub found-low : All (λ s. s < length marks) found
  found-low = All-contained (λ s. s < length marks) found (λ s it. mark-low marks s (are.marked s it))

  -- a number past the marks was not found
  pub past-unfound : (s : ℕ) → length marks ≤ s → WasFound found s → ⊥
  past-unfound s high was = let low : s < length marks = mark-low marks s (are.marked s was.is) in omega arith

  -- one number more
  pub marks-pushed : (list : List ℕ) (new : List Bool) (s : ℕ) → list ≡ found ++ s ∷ [] → ((j : ℕ) → get_or new j false ≡ get_or marks j false) → s < length new → AreMarks list (set new s true)
  marks-pushed list new s pushed same low = record {
    marked = λ j it. elim (cases_eq j s) [
      | inl e ↦ subst (λ k. get_or (set new s true) k false ≡ true) (sym e) (get_or-set_same new s true false low)
      | inr other ↦
          get_or-set_other new s j true false other
          ∙ (same j ∙ elim ((pushed-one found list s pushed j).0 it) [ inl e ↦ absurd (other e) | inr before ↦ are.marked j before ])
    ];
    only = λ j it. (pushed-one found list s pushed j).1 (elim (cases_eq j s) [
      | inl e ↦ inl e
      | inr other ↦ inr (are.only j (sym (same j) ∙ (sym (get_or-set_other new s j true false other) ∙ it)))
    ]);
  }

  -- the marks of all numbers go
  pub marks-cleared : (numbers : List ℕ) (new : List Bool) → numbers ≡ found → IsUnmarked marks numbers new → (list : List ℕ) → list ≡ [] → AreMarks list new
  marks-cleared numbers new all un list none = rw none (record {
    marked = λ j it. let low : it.0 < 0 = it.1 in absurd (omega arith);
    only = λ j it. absurd (no j it);
  })
    where
      unmarked : (j : ℕ) → (Contains numbers j → ⊥) → get_or new j false ≡ true → ⊥
      unmarked j stays it = stays (subst (λ (xs : List ℕ). Contains xs j) (sym all) (are.only j (sym (un.others j stays) ∙ it)))

      no : (j : ℕ) → get_or new j false ≡ true → ⊥
      no j it = unmarked j (λ goes. let wrong : false ≡ true = sym (un.gone j goes) ∙ it in cc) it

-- the marks of the first of these numbers are gone
pub unmarked-none : (marks : List Bool) (numbers : List ℕ) → IsUnmarked marks (take 0 numbers) marks
unmarked-none marks numbers = record {
  same_length = refl;
  gone = λ j it. let low : it.0 < 0 = it.1 in absurd (omega arith);
  others = λ j none. refl;
}

pub unmarked-more : (old now : List Bool) (numbers : List ℕ) (i : ℕ) → i < length numbers → get_or numbers i 0 < length old → IsUnmarked old (take i numbers) now → IsUnmarked old (take (i + 1) numbers) (set now (get_or numbers i 0) false)
unmarked-more old now numbers i low here so_far = record {
  same_length = length-set now (get_or numbers i 0) false ∙ so_far.same_length;
  gone = λ j it. elim (cases_eq j (get_or numbers i 0)) [
    | inl e ↦ subst (λ k. get_or (set now (get_or numbers i 0) false) k false ≡ false) (sym e) (get_or-set_same now (get_or numbers i 0) false false (subst (λ n. get_or numbers i 0 < n) (sym so_far.same_length) here))
    | inr other ↦
        get_or-set_other now (get_or numbers i 0) j false false other
        ∙ elim (taken-cases numbers i 0 low j it) [ inl earlier ↦ so_far.gone j earlier | inr same ↦ absurd (other same) ]
  ];
  others = λ j none.
      get_or-set_other now (get_or numbers i 0) j false false (λ same. none (subst (Contains (take (i + 1) numbers)) (sym same) (taken-last numbers i 0 low)))
      ∙ so_far.others j (λ it. none (taken-before numbers i 0 low j it));
}

-- the number that goes next is below the length
pub unmarked-here : (old : List Bool) (numbers : List ℕ) (i : ℕ) → i < length numbers → All (λ s. s < length old) numbers → get_or numbers i 0 < length old
unmarked-here old numbers i low all = All-contains (λ s. s < length old) numbers (get_or numbers i 0) all (Contains-get_or numbers i 0 low)

pub unmarked-low : (old now : List Bool) (numbers : List ℕ) (i : ℕ) → i < length numbers → IsUnmarked old (take i numbers) now → All (λ s. s < length old) numbers → get_or numbers i 0 < length now
unmarked-low old now numbers i low so_far all = subst (λ n. get_or numbers i 0 < n) (sym so_far.same_length) (unmarked-here old numbers i low all)

-- an ordered set finds a number
pub set-finds : (old new : BTreeSet ℕ) (s : ℕ) (b : Bool) → b ≡ not (contains nat_cmp old s) → Updates nat_cmp old new s true → (b ≡ false → new.keys ≡ old.keys) → FindsNumber old.keys s new.keys b
set-finds old new s b is_new updates unchanged = record {
  numbers = inserted old new s updates;
  absent = λ came it. let there : contains nat_cmp old s ≡ true = iff.1 it in let wrong : true ≡ false = sym came ∙ (is_new ∙ ap not there) in cc;
  there = λ none. iff.0 (was (contains nat_cmp old s) refl none);
  same = unchanged;
}
  where
    iff : contains nat_cmp old s ≡ true ↔ Contains old.keys s
    iff = btree_set_contains_iff nat_cmp_total exact_unsigned old s

    was : (c : Bool) → contains nat_cmp old s ≡ c → b ≡ false → c ≡ true
    was true e none = refl
    was false e none = let wrong : false ≡ true = sym none ∙ (is_new ∙ ap not e) in absurd (cc)

-- marks find a number that was not found
pub marks-find_new : (found list : List ℕ) (s : ℕ) (b : Bool) → b ≡ true → (WasFound found s → ⊥) → list ≡ found ++ s ∷ [] → FindsNumber found s list b
marks-find_new found list s b came none pushed = record {
  numbers = pushed-one found list s pushed;
  absent = λ _ it. none (record { is = it });
  there = λ wrong. let no : true ≡ false = sym came ∙ wrong in absurd (cc);
  same = λ wrong. let no : true ≡ false = sym came ∙ wrong in absurd (cc);
}
