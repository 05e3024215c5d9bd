-- How a search for the states that are reached grows.
use Rattle.std.proofs.Common.{◌≡◌, ◌≢◌, ◌⊎◌, inl, inr, ℕ, zero, suc, ◌<◌, ◌≤◌, ◌+◌, Bool, true, false, List, [], ◌∷◌, ◌++◌, take, refl, sym, ap, ◌∙◌, subst, arith, length, get_or, Contains}
use Rattle.std.proofs.Math.ListN.{set}
use Rattle.std.proofs.lemmas.List.{get_or_past, length-append, length-set, get_or-set_same, get_or-set_other}
use Rattle.std.proofs.lemmas.Bool.{cases_eq, cases_lt}
use Rattle.std.proofs.lemmas.List.Elements.{Contains-append_cases, Contains-append_left, Contains-append_right}
use Rattle.std.proofs.Math.Seq.{take-suc}
use Rattle.std.proofs.Common.{add-one, Option, Some, None}
use Rattle.mls_automaton.specs.declared.automaton.Arms.{Arms}
use Rattle.mls_automaton.specs.declared.automaton.FieldSet.{FieldSet}
use Rattle.mls_automaton.specs.declared.automaton.Head.{Head}
use Rattle.mls_automaton.specs.declared.scheme.EnvEntry.{EnvEntry}
use Rattle.mls_automaton.specs.Reached.{HeadNames, InAnyField, InFunction, InRecord}
use Rattle.mls_automaton.specs.steps.Searching.{Found, Grows, InArms, InEntries, IsBelow, IsMarked, unmarked}
use Rattle.mls_automaton.proofs.Lists.{Contains-here, Contains-cases}

pub unmarked-set : (marks : List Bool) (s : ℕ) → s < length marks → get_or marks s false ≡ false → unmarked (set marks s true) + 1 ≡ unmarked marks
unmarked-set [] s low e = absurd (omega arith)
unmarked-set (true ∷ rest) zero low e = absurd (cc)
unmarked-set (false ∷ rest) zero low e = omega arith
unmarked-set (true ∷ rest) (suc s) low e = unmarked-set rest s (omega arith) e
unmarked-set (false ∷ rest) (suc s) low e = let h : unmarked (set rest s true) + 1 ≡ unmarked rest = unmarked-set rest s (omega arith) e in omega arith

pub marked-low : (s : Found) (j : ℕ) → IsMarked s j → j < length s.marks
marked-low s j is = elim (cases_lt j (length s.marks)) [
  | inl low ↦ low
  | inr high ↦ let none : get_or s.marks j false ≡ false = get_or_past s.marks j false high in absurd (cc)
]

pub grows-nothing : (s : Found) (IsOne : ℕ → Type 0) → ((j : ℕ) → IsOne j → IsMarked s j) → Grows s s IsOne
grows-nothing s IsOne all = record {
  same_length = refl;
  kept = λ j it. it;
  all = all;
  found = λ j it. inl it;
  work_kept = λ j it. it;
  work_new = λ j it. inl it;
  left = omega arith;
}

-- one state more, which was not found before
pub grows-one : (marks : List Bool) (work : List ℕ) (s : ℕ) → s < length marks → get_or marks s false ≡ false → Grows (record { marks = marks; work = work }) (record { marks = set marks s true; work = work ++ s ∷ [] }) (λ j. j ≡ s)
grows-one marks work s low was = record {
  same_length = length-set marks s true;
  kept = λ j it. elim (cases_eq j s) [
    | inl e ↦ ap (λ k. get_or (set marks s true) k false) e ∙ here
    | inr other ↦ there j other ∙ it
  ];
  all = λ j e. ap (λ k. get_or (set marks s true) k false) e ∙ here;
  found = λ j it. elim (cases_eq j s) [
    | inl e ↦ inr (e, Contains-append_right work (s ∷ []) j (subst (λ k. Contains (s ∷ []) k) (sym e) (Contains-here s [])))
    | inr other ↦ inl (sym (there j other) ∙ it)
  ];
  work_kept = λ j it. Contains-append_left work (s ∷ []) j it;
  work_new = λ j it. elim (Contains-append_cases work (s ∷ []) j it) [
    | inl old ↦ inl old
    | inr new ↦ elim (Contains-cases s [] j new) [
      | inl e ↦ inr (sym e)
      | inr none ↦ let none-low : none.0 < 0 = none.1 in absurd (omega arith)
    ]
  ];
  left =
      let fewer : unmarked (set marks s true) + 1 ≡ unmarked marks = unmarked-set marks s low was in
      let size : length (work ++ s ∷ []) ≡ length work + 1 = length-append work (s ∷ []) in
      omega arith;
}
  where
    here : get_or (set marks s true) s false ≡ true
    here = get_or-set_same marks s true false low

    there : (j : ℕ) → j ≢ s → get_or (set marks s true) j false ≡ get_or marks j false
    there j other = get_or-set_other marks s j true false other

-- one step after the other
pub grows-both : (a b c : Found) (P Q R : ℕ → Type 0) → Grows a b P → Grows b c Q → ((j : ℕ) → P j → R j) → ((j : ℕ) → Q j → R j) → ((j : ℕ) → R j → P j ⊎ Q j) → Grows a c R
grows-both a b c P Q R first second is-first is-second parts = record {
  same_length = second.same_length ∙ first.same_length;
  kept = λ j it. second.kept j (first.kept j it);
  all = λ j it. elim (parts j it) [ inl p ↦ second.kept j (first.all j p) | inr q ↦ second.all j q ];
  found = λ j it. elim (second.found j it) [
    | inl was ↦ elim (first.found j was) [
      | inl before ↦ inl before
      | inr new ↦ inr (is-first j new.0, second.work_kept j new.1)
    ]
    | inr new ↦ inr (is-second j new.0, new.1)
  ];
  work_kept = λ j it. second.work_kept j (first.work_kept j it);
  work_new = λ j it. elim (second.work_new j it) [
    | inl was ↦ elim (first.work_new j was) [
      | inl before ↦ inl before
      | inr new ↦ inr (is-first j new)
    ]
    | inr new ↦ inr (is-second j new)
  ];
  left = let h = first.left in let k = second.left in omega arith;
}

-- the elements up to the next one
module _ {X : Type 0} (xs : List X) (i : ℕ) (d : X) (low : i < length xs) where
  pub next-is : take (i + 1) xs ≡ take i xs ++ get_or xs i d ∷ []
  next-is = ap (λ k. take k xs) (add-one i) ∙ take-suc xs i d low

  pub next-more : (x : X) → Contains (take i xs) x → Contains (take (i + 1) xs) x
  next-more x it = subst (λ ys. Contains ys x) (sym next-is) (Contains-append_left (take i xs) (get_or xs i d ∷ []) x it)

  pub next-last : Contains (take (i + 1) xs) (get_or xs i d)
  next-last = subst (λ ys. Contains ys (get_or xs i d)) (sym next-is) (Contains-append_right (take i xs) (get_or xs i d ∷ []) (get_or xs i d) (Contains-here (get_or xs i d) []))

  pub next-cases : (x : X) → Contains (take (i + 1) xs) x → Contains (take i xs) x ⊎ (get_or xs i d ≡ x)
  next-cases x it = elim (Contains-append_cases (take i xs) (get_or xs i d ∷ []) x (subst (λ ys. Contains ys x) next-is it)) [
    | inl before ↦ inl before
    | inr last ↦ elim (Contains-cases (get_or xs i d) [] x last) [
      | inl e ↦ inr e
      | inr none ↦ let none-low : none.0 < 0 = none.1 in absurd (omega arith)
    ]
  ]

pub below-after : (a b : Found) (P Q : ℕ → Type 0) → Grows a b Q → IsBelow P (length a.marks) → IsBelow P (length b.marks)
below-after a b P Q grows below j it = subst (λ n. j < n) (sym grows.same_length) (below j it)

pub set-next : (a b c : Found) (xs : List ℕ) (i : ℕ) → i < length xs → Grows a b (Contains (take i xs)) → Grows b c (λ j. j ≡ get_or xs i 0) → Grows a c (Contains (take (i + 1) xs))
set-next a b c xs i low first second =
    grows-both a b c (Contains (take i xs)) (λ j. j ≡ get_or xs i 0) (Contains (take (i + 1) xs)) first second
    (λ j it. next-more xs i 0 low j it)
    (λ j e. subst (λ k. Contains (take (i + 1) xs) k) (sym e) (next-last xs i 0 low))
    (λ j it. elim (next-cases xs i 0 low j it) [ inl before ↦ inl before | inr e ↦ inr (sym e) ])

pub entries-next : (a b c : Found) (xs : List EnvEntry) (i : ℕ) (d : EnvEntry) → i < length xs → Grows a b (InEntries (take i xs)) → Grows b c (λ j. j ≡ (get_or xs i d).state.0) → Grows a c (InEntries (take (i + 1) xs))
entries-next a b c xs i d low first second =
    grows-both a b c (InEntries (take i xs)) (λ j. j ≡ (get_or xs i d).state.0) (InEntries (take (i + 1) xs)) first second
    (λ j it. (it.0, next-more xs i d low it.0 it.1, it.2))
    (λ j e. (get_or xs i d, next-last xs i d low, sym e))
    (λ j it. elim (next-cases xs i d low it.0 it.1) [ inl before ↦ inl (it.0, before, it.2) | inr e ↦ inr (sym it.2 ∙ ap (λ (x : EnvEntry). x.state.0) (sym e)) ])

pub fields-next : (a b c : Found) (xs : List FieldSet) (i : ℕ) (d : FieldSet) → i < length xs → d ≡ get_or xs i d → Grows a b (InAnyField (take i xs)) → Grows b c (Contains d.set) → Grows a c (InAnyField (take (i + 1) xs))
fields-next a b c xs i d low is first second =
    grows-both a b c (InAnyField (take i xs)) (Contains d.set) (InAnyField (take (i + 1) xs)) first second
    (λ j it. (it.0, next-more xs i d low it.0 it.1, it.2))
    (λ j it. (d, subst (λ (f : FieldSet). Contains (take (i + 1) xs) f) (sym is) (next-last xs i d low), it))
    (λ j it. elim (next-cases xs i d low it.0 it.1) [ inl before ↦ inl (it.0, before, it.2) | inr e ↦ inr (subst (λ (f : FieldSet). Contains f.set j) (sym e ∙ sym is) it.2) ])

-- the parts of a head
pub arms-both : (a b c : Found) (arms : Arms) → Grows a b (Contains arms.domain) → Grows b c (Contains arms.codomain) → Grows a c (InArms arms)
arms-both a b c arms first second = grows-both a b c (Contains arms.domain) (Contains arms.codomain) (InArms arms) first second (λ j it. inl it) (λ j it. inr it) (λ j it. it)

pub head-both : (a b c : Found) (h : Head) → Grows a b (InFunction h.function) → Grows b c (InRecord h.fields) → Grows a c (HeadNames h)
head-both a b c h first second = grows-both a b c (InFunction h.function) (InRecord h.fields) (HeadNames h) first second (λ j it. inl it) (λ j it. inr it) (λ j it. it)

-- the same states, said in another way
pub grows-same : (a b : Found) (P Q : ℕ → Type 0) → Grows a b P → ((j : ℕ) → P j → Q j) → ((j : ℕ) → Q j → P j) → Grows a b Q
grows-same a b P Q grows to from = record {
  same_length = grows.same_length;
  kept = grows.kept;
  all = λ j it. grows.all j (from j it);
  found = λ j it. elim (grows.found j it) [ inl was ↦ inl was | inr new ↦ inr (to j new.0, new.1) ];
  work_kept = grows.work_kept;
  work_new = λ j it. elim (grows.work_new j it) [ inl was ↦ inl was | inr new ↦ inr (to j new) ];
  left = grows.left;
}

pub function-some : (a b : Found) (o : Option Arms) (arms : Arms) → o ≡ Some arms → Grows a b (InArms arms) → Grows a b (InFunction o)
function-some a b o arms is grows = grows-same a b (InArms arms) (InFunction o) grows (λ j it. (arms, is, it)) (λ j it. let same : it.0 ≡ arms = cc in subst (λ (x : Arms). InArms x j) same it.2)

pub function-none : (a : Found) (o : Option Arms) → o ≡ None → Grows a a (InFunction o)
function-none a o is = grows-nothing a (InFunction o) (λ j it. absurd (cc))

pub record-some : (a b : Found) (o : Option (List FieldSet)) (fields list : List FieldSet) → o ≡ Some fields → list ≡ fields → Grows a b (InAnyField list) → Grows a b (InRecord o)
record-some a b o fields list is same grows = grows-same a b (InAnyField list) (InRecord o) grows (λ j it. (list, (let e : o ≡ Some list = cc in e), it)) (λ j it. let again : it.0 ≡ list = cc in subst (λ (xs : List FieldSet). InAnyField xs j) again it.2)

pub record-none : (a : Found) (o : Option (List FieldSet)) → o ≡ None → Grows a a (InRecord o)
record-none a o is = grows-nothing a (InRecord o) (λ j it. absurd (cc))

pub take-all : {X : Type 0} (xs : List X) (n : ℕ) → length xs ≤ n → take n xs ≡ xs
take-all [] zero le = refl
take-all [] (suc n) le = refl
take-all (x ∷ xs) zero le = absurd (omega arith)
take-all (x ∷ xs) (suc n) le = ap (λ ys. x ∷ ys) (take-all xs n (omega arith))
