-- Pairs that are found from both of their ends.
use Rattle.std.proofs.Common.{◌≡◌, ◌≢◌, ◌↔◌, ◌⊎◌, inl, inr, ℕ, zero, suc, ◌+◌, ◌<◌, List, [], ◌∷◌, ◌++◌, map, set, length, get_or, Contains, refl, sym, ap, ◌∙◌, subst, arith}
use Rattle.std.proofs.lemmas.Bool.{cases_eq}
use Rattle.std.proofs.lemmas.List.{get_or_default, get_or-set_same, get_or-set_other, get_or_past, length-set, length-append}
use Rattle.std.proofs.lemmas.List.Elements.{Contains-append_left, Contains-append_right, Contains-append_cases}
use Rattle.mls_automaton.specs.declared.automaton.Flow.{Flow}
use Rattle.mls_automaton.specs.Automata.{flow}
use Rattle.mls_automaton.proofs.Lists.{Contains-map, Contains-later, Contains-cases}
use Rattle.mls_biunify.specs.steps.TwoWay.{TwoWay, HasPair, IsTwoWay, flows_from, AddsPair, RemovesPair, IsSamePairs, IsGrown}

module _ (sets : List (List ℕ)) (n p : ℕ) (low : n < length sets) where
  -- a set that got one more member
  pub set-adds : (old first : List ℕ) → old ≡ get_or sets n old → ((j : ℕ) → Contains first j ↔ (j ≡ p) ⊎ Contains old j) → (i j : ℕ) → Contains (get_or (set sets n first) i []) j ↔ (Contains (get_or sets i []) j ⊎ ((i ≡ n) × (j ≡ p)))
  set-adds old first read members i j = by (cases_eq i n)
    where
      was : get_or sets n [] ≡ old
      was = sym (read ∙ get_or_default sets n old [] low)

      by : (i ≡ n) ⊎ (i ≢ n) → Contains (get_or (set sets n first) i []) j ↔ (Contains (get_or sets i []) j ⊎ ((i ≡ n) × (j ≡ p)))
      by (inl same) =
          let here : get_or (set sets n first) i [] ≡ first = ap (λ k. get_or (set sets n first) k []) same ∙ get_or-set_same sets n first [] low in
          let before : get_or sets i [] ≡ old = ap (λ k. get_or sets k []) same ∙ was in (
            λ it.
                elim ((members j).0 (subst (λ (xs : List ℕ). Contains xs j) here it)) [
                  | inl new ↦ inr (same, new)
                  | inr stays ↦ inl (subst (λ (xs : List ℕ). Contains xs j) (sym before) stays)
                ],
            λ it.
                subst (λ (xs : List ℕ). Contains xs j) (sym here)
                ((members j).1 (elim it [
                  | inl stays ↦ inr (subst (λ (xs : List ℕ). Contains xs j) before stays)
                  | inr new ↦ inl new.1
                ])),
          )
      by (inr other) =
          let same : get_or (set sets n first) i [] ≡ get_or sets i [] = get_or-set_other sets n i first [] other in (
            λ it. inl (subst (λ (xs : List ℕ). Contains xs j) same it),
            λ it.
                elim it [
                  | inl stays ↦ subst (λ (xs : List ℕ). Contains xs j) (sym same) stays
                  | inr new ↦ absurd (other new.0)
                ],
          )

  -- and lost it again
  pub set-undone : (old first again third : List ℕ) → old ≡ get_or sets n old → (Contains (get_or sets n []) p → ⊥) → ((j : ℕ) → Contains first j ↔ (j ≡ p) ⊎ Contains old j) → again ≡ first → ((j : ℕ) → Contains third j ↔ Contains again j × (j ≢ p)) → (i j : ℕ) → Contains (get_or (set (set sets n first) n third) i []) j ↔ Contains (get_or sets i []) j
  set-undone old first again third read absent members same_set left i j = by (cases_eq i n)
    where
      was : get_or sets n [] ≡ old
      was = sym (read ∙ get_or_default sets n old [] low)

      low_again : n < length (set sets n first)
      low_again = rw (length-set sets n first) low

      by : (i ≡ n) ⊎ (i ≢ n) → Contains (get_or (set (set sets n first) n third) i []) j ↔ Contains (get_or sets i []) j
      by (inl same) =
          let here : get_or (set (set sets n first) n third) i [] ≡ third = ap (λ k. get_or (set (set sets n first) n third) k []) same ∙ get_or-set_same (set sets n first) n third [] low_again in
          let before : get_or sets i [] ≡ old = ap (λ k. get_or sets k []) same ∙ was in (
            λ it.
                let both = (left j).0 (subst (λ (xs : List ℕ). Contains xs j) here it) in
                elim ((members j).0 (subst (λ (xs : List ℕ). Contains xs j) same_set both.0)) [
                  | inl new ↦ absurd (both.1 new)
                  | inr stays ↦ subst (λ (xs : List ℕ). Contains xs j) (sym before) stays
                ],
            λ it.
                let stays : Contains old j = subst (λ (xs : List ℕ). Contains xs j) before it in
                subst (λ (xs : List ℕ). Contains xs j) (sym here)
                ((left j).1 (
                  subst (λ (xs : List ℕ). Contains xs j) (sym same_set) ((members j).1 (inr stays)),
                  λ is. absurd (absent (subst (λ (xs : List ℕ). Contains xs p) (sym was) (subst (Contains old) is stays))),
                )),
          )
      by (inr other) =
          let same : get_or (set (set sets n first) n third) i [] ≡ get_or sets i [] =
          get_or-set_other (set sets n first) n i third [] other ∙ get_or-set_other sets n i first [] other in (
            λ it. subst (λ (xs : List ℕ). Contains xs j) same it,
            λ it. subst (λ (xs : List ℕ). Contains xs j) (sym same) it,
          )

-- one more pair, in both directions
pub two_way-added : (old new : TwoWay) (n p : ℕ) → IsTwoWay old → length new.forward ≡ length old.forward → length new.backward ≡ length old.backward → ((i j : ℕ) → HasPair new i j ↔ (HasPair old i j ⊎ ((i ≡ n) × (j ≡ p)))) → ((j i : ℕ) → Contains (get_or new.backward j []) i ↔ (Contains (get_or old.backward j []) i ⊎ ((j ≡ p) × (i ≡ n)))) → IsTwoWay new
two_way-added old new n p is first second forward backward = record {
  same_length = second ∙ (is.same_length ∙ sym first);
  back = λ i j it.
      (backward j i).1 (elim ((forward i j).0 it) [
        | inl was ↦ inl (is.back i j was)
        | inr here ↦ inr (here.1, here.0)
      ]);
  forth = λ i j it.
      (forward i j).1 (elim ((backward j i).0 it) [
        | inl was ↦ inl (is.forth i j was)
        | inr here ↦ inr (here.1, here.0)
      ]);
}

-- the same pairs, in both directions
pub two_way-same : (old new : TwoWay) → IsTwoWay old → length new.forward ≡ length old.forward → length new.backward ≡ length old.backward → ((i j : ℕ) → HasPair new i j ↔ HasPair old i j) → ((j i : ℕ) → Contains (get_or new.backward j []) i ↔ Contains (get_or old.backward j []) i) → IsTwoWay new
two_way-same old new is first second forward backward = record {
  same_length = second ∙ (is.same_length ∙ sym first);
  back = λ i j it. (backward j i).1 (is.back i j ((forward i j).0 it));
  forth = λ i j it. (forward i j).1 (is.forth i j ((backward j i).0 it));
}

-- an empty set at the end
pub get_or-empty : (sets : List (List ℕ)) (i : ℕ) → get_or (sets ++ [] ∷ []) i [] ≡ get_or sets i []
get_or-empty [] zero = refl
get_or-empty [] (suc i) = get_or_past [] i [] (omega arith)
get_or-empty (x ∷ rest) zero = refl
get_or-empty (x ∷ rest) (suc i) = get_or-empty rest i

pub flows-empty : (k : ℕ) (sets : List (List ℕ)) → flows_from k (sets ++ [] ∷ []) ≡ flows_from k sets
flows-empty k [] = refl
flows-empty k (set ∷ rest) = ap (λ (fs : List Flow). map (flow k) set ++ fs) (flows-empty (k + 1) rest)

pub two_way-longer : (t : TwoWay) (forward backward : List (List ℕ)) → IsTwoWay t → forward ≡ t.forward ++ [] ∷ [] → backward ≡ t.backward ++ [] ∷ [] → IsTwoWay (record { forward = forward; backward = backward })
two_way-longer t forward backward is e f = record {
  same_length =
      let first : length forward ≡ length t.forward + 1 = ap length e ∙ length-append t.forward ([] ∷ []) in
      let second : length backward ≡ length t.backward + 1 = ap length f ∙ length-append t.backward ([] ∷ []) in
      second ∙ (ap (λ k. k + 1) is.same_length ∙ sym first);
  back = λ i j it.
      subst (λ (xs : List ℕ). Contains xs i) (sym (ap (λ (sets : List (List ℕ)). get_or sets j []) f ∙ get_or-empty t.backward j))
      (is.back i j (subst (λ (xs : List ℕ). Contains xs j) (ap (λ (sets : List (List ℕ)). get_or sets i []) e ∙ get_or-empty t.forward i) it));
  forth = λ i j it.
      subst (λ (xs : List ℕ). Contains xs j) (sym (ap (λ (sets : List (List ℕ)). get_or sets i []) e ∙ get_or-empty t.forward i))
      (is.forth i j (subst (λ (xs : List ℕ). Contains xs i) (ap (λ (sets : List (List ℕ)). get_or sets j []) f ∙ get_or-empty t.backward j) it));
}

pub grown-one : (old new : TwoWay) → new.forward ≡ old.forward ++ [] ∷ [] → IsGrown old new
grown-one old new e =
    let at = λ (i : ℕ). ap (λ (sets : List (List ℕ)). get_or sets i []) e ∙ get_or-empty old.forward i in
    let longer : length new.forward ≡ length old.forward + 1 = ap length e ∙ length-append old.forward ([] ∷ []) in record {
      pairs = λ i j. (
        λ it. subst (λ (xs : List ℕ). Contains xs j) (at i) it,
        λ it. subst (λ (xs : List ℕ). Contains xs j) (sym (at i)) it,
      );
      flows = ap (flows_from 0) e ∙ flows-empty 0 old.forward;
      longer = λ s low. omega arith;
    }

pub grown-none : (t : TwoWay) → IsGrown t t
grown-none t = record { pairs = λ i j. (λ it. it, λ it. it); flows = refl; longer = λ s low. low }

pub grown-then : (one two three : TwoWay) → IsGrown one two → IsGrown two three → IsGrown one three
grown-then one two three first second = record {
  pairs = λ i j. (λ it. (first.pairs i j).0 ((second.pairs i j).0 it), λ it. (second.pairs i j).1 ((first.pairs i j).1 it));
  flows = second.flows ∙ first.flows;
  longer = λ s low. second.longer s (first.longer s low);
}

-- an edge of the list is a pair
pub flows-pair : (k : ℕ) (sets : List (List ℕ)) (n p : ℕ) → Contains (flows_from k sets) (flow n p) → (i : ℕ) × (n ≡ k + i) × Contains (get_or sets i []) p
flows-pair k [] n p it = let low : it.0 < 0 = it.1 in absurd (omega arith)
flows-pair k (set ∷ rest) n p it =
    elim (Contains-append_cases (map (flow k) set) (flows_from (k + 1) rest) (flow n p) it) [
      | inl here ↦ let found = mapped set here in (0, omega (arith, found.0), found.1)
      | inr later ↦ let found = flows-pair (k + 1) rest n p later in (suc found.0, omega (arith, found.1), found.2)
    ]
  where
    mapped : (xs : List ℕ) → Contains (map (flow k) xs) (flow n p) → (n ≡ k) × Contains xs p
    mapped [] it = let low : it.0 < 0 = it.1 in absurd (omega arith)
    mapped (x ∷ xs) it =
        elim (Contains-cases (flow k x) (map (flow k) xs) (flow n p) it) [
          | inl same ↦ (sym (ap (λ (f : Flow). f.negative.0) same), (0, omega arith, ap (λ (f : Flow). f.positive.0) same))
          | inr later ↦ let found = mapped xs later in (found.0, Contains-later x xs p found.1)
        ]

pub pair-flows : (k : ℕ) (sets : List (List ℕ)) (i p : ℕ) → Contains (get_or sets i []) p → Contains (flows_from k sets) (flow (k + i) p)
pair-flows k [] i p it =
    let none : get_or [] i [] ≡ [] = get_or_past [] i [] (omega arith) in
    let nothing : Contains [] p = subst (λ (xs : List ℕ). Contains xs p) none it in
    let low : nothing.0 < 0 = nothing.1 in absurd (omega arith)
pair-flows k (set ∷ rest) zero p it =
    let same : k + 0 ≡ k = omega arith in
    Contains-append_left (map (flow k) set) (flows_from (k + 1) rest) (flow (k + 0) p)
    (subst (λ n. Contains (map (flow k) set) (flow n p)) (sym same) (Contains-map (flow k) set p it))
pair-flows k (set ∷ rest) (suc i) p it =
    let same : k + suc i ≡ k + 1 + i = omega arith in
    Contains-append_right (map (flow k) set) (flows_from (k + 1) rest) (flow (k + suc i) p)
    (subst (λ n. Contains (flows_from (k + 1) rest) (flow n p)) (sym same) (pair-flows (k + 1) rest i p it))

-- the edges are just the pairs
pub flows-pairs : (sets : List (List ℕ)) (n p : ℕ) → Contains (flows_from 0 sets) (flow n p) ↔ Contains (get_or sets n []) p
flows-pairs sets n p = (
  λ it.
      let found = flows-pair 0 sets n p it in
      let same : found.0 ≡ n = omega (arith, found.1) in
      subst (λ i. Contains (get_or sets i []) p) same found.2,
  λ it.
      let same : 0 + n ≡ n = omega arith in
      subst (λ i. Contains (flows_from 0 sets) (flow i p)) same (pair-flows 0 sets n p it),
)

-- a set that is put back as it was
pub set-back : (sets : List (List ℕ)) (p : ℕ) → p < length sets → (old second : List ℕ) → old ≡ get_or sets p old → second ≡ old → (j i : ℕ) → Contains (get_or (set sets p second) j []) i ↔ Contains (get_or sets j []) i
set-back sets p low old second read back j i = by (cases_eq j p)
  where
    by : (j ≡ p) ⊎ (j ≢ p) → Contains (get_or (set sets p second) j []) i ↔ Contains (get_or sets j []) i
    by (inl same) =
        let was : get_or sets p [] ≡ old = sym (read ∙ get_or_default sets p old [] low) in
        let e : get_or (set sets p second) j [] ≡ get_or sets j [] =
        ap (λ k. get_or (set sets p second) k []) same ∙ (get_or-set_same sets p second [] low ∙ (back ∙ (sym was ∙ sym (ap (λ k. get_or sets k []) same)))) in (
          λ it. subst (λ (xs : List ℕ). Contains xs i) e it,
          λ it. subst (λ (xs : List ℕ). Contains xs i) (sym e) it,
        )
    by (inr other) =
        let e : get_or (set sets p second) j [] ≡ get_or sets j [] = get_or-set_other sets p j second [] other in (
          λ it. subst (λ (xs : List ℕ). Contains xs i) e it,
          λ it. subst (λ (xs : List ℕ). Contains xs i) (sym e) it,
        )

-- an insertion, and one that was taken back
module _ (t : TwoWay) (is : IsTwoWay t) (n p : ℕ) (low : n < length t.forward) (also : p < length t.forward) (old first old_back second : List ℕ) (read : old ≡ get_or t.forward n old) (members : (j : ℕ) → Contains first j ↔ (j ≡ p) ⊎ Contains old j) (read_back : old_back ≡ get_or t.backward p old_back) where
  low_back : p < length t.backward
  low_back = subst (λ k. p < k) (sym is.same_length) also

  module _ (back_members : (j : ℕ) → Contains second j ↔ (j ≡ n) ⊎ Contains old_back j) where
    abbrev pub with_pair : TwoWay
    with_pair = record { forward = set t.forward n first; backward = set t.backward p second }

    pub with_pair-adds : AddsPair t with_pair n p
    with_pair-adds = record { same_length = length-set t.forward n first; pairs = set-adds t.forward n p low old first read members }

    pub with_pair-is : IsTwoWay with_pair
    with_pair-is =
        two_way-added t with_pair n p is (length-set t.forward n first) (length-set t.backward p second)
        (set-adds t.forward n p low old first read members)
        (set-adds t.backward p n low_back old_back second read_back back_members)

  module _ (again third : List ℕ) (absent : HasPair t n p → ⊥) (read_again : again ≡ get_or (set t.forward n first) n again) (left : (j : ℕ) → Contains third j ↔ Contains again j × (j ≢ p)) (put_back : second ≡ old_back) where
    abbrev pub without_pair : TwoWay
    without_pair = record { forward = set (set t.forward n first) n third; backward = set t.backward p second }

    same_size : length without_pair.forward ≡ length t.forward
    same_size = length-set (set t.forward n first) n third ∙ length-set t.forward n first

    is_first : again ≡ first
    is_first = read_again ∙ get_or-set_same t.forward n first again low

    pub without_pair-same : IsSamePairs t without_pair
    without_pair-same = record { same_length = same_size; pairs = set-undone t.forward n p low old first again third read absent members is_first left }

    pub without_pair-is : IsTwoWay without_pair
    without_pair-is =
        two_way-same t without_pair is same_size (length-set t.backward p second)
        (set-undone t.forward n p low old first again third read absent members is_first left)
        (set-back t.backward p low_back old_back second read_back put_back)

-- the set of the first numbers of the pairs that end with a number
pub back-set : (t : TwoWay) → IsTwoWay t → (p : ℕ) → p < length t.forward → (read : List ℕ) → read ≡ get_or t.backward p read → (n : ℕ) → Contains read n ↔ HasPair t n p
back-set t is p low read here n =
    let low_back : p < length t.backward = subst (λ k. p < k) (sym is.same_length) low in
    let same : read ≡ get_or t.backward p [] = here ∙ get_or_default t.backward p read [] low_back in (
      λ it. is.forth n p (subst (λ (xs : List ℕ). Contains xs n) same it),
      λ it. subst (λ (xs : List ℕ). Contains xs n) (sym same) (is.back n p it),
    )

-- the numbers of a pair are below the number of the sets
pub pair-low : (t : TwoWay) → IsTwoWay t → (n p : ℕ) → HasPair t n p → (n < length t.forward) × (p < length t.backward)
pair-low t is n p it = (low t.forward n p it, low t.backward p n (is.back n p it))
  where
    low : (sets : List (List ℕ)) (i j : ℕ) → Contains (get_or sets i []) j → i < length sets
    low [] i j it =
        let none : Contains [] j = subst (λ (xs : List ℕ). Contains xs j) (get_or_past [] i [] (omega arith)) it in
        let low : none.0 < 0 = none.1 in
        absurd (omega arith)
    low (x ∷ rest) zero j it = omega arith
    low (x ∷ rest) (suc i) j it = let less : i < length rest = low rest i j it in omega arith

pub set-low : (t : TwoWay) → IsTwoWay t → (n p : ℕ) → HasPair t n p → (n < length t.forward) × (p < length t.forward)
set-low t is n p it =
    let both = pair-low t is n p it in
    (both.0, subst (λ k. p < k) is.same_length both.1)

-- a set that lost a member
pub set-removes : (sets : List (List ℕ)) (n p : ℕ) → n < length sets → (old third : List ℕ) → old ≡ get_or sets n old → ((j : ℕ) → Contains third j ↔ Contains old j × (j ≢ p)) → (i j : ℕ) → Contains (get_or (set sets n third) i []) j ↔ (Contains (get_or sets i []) j × ((i ≡ n) → (j ≡ p) → ⊥))
set-removes sets n p low old third read left i j = by (cases_eq i n)
  where
    was : get_or sets n [] ≡ old
    was = sym (read ∙ get_or_default sets n old [] low)

    by : (i ≡ n) ⊎ (i ≢ n) → Contains (get_or (set sets n third) i []) j ↔ (Contains (get_or sets i []) j × ((i ≡ n) → (j ≡ p) → ⊥))
    by (inl same) =
        let here : get_or (set sets n third) i [] ≡ third = ap (λ k. get_or (set sets n third) k []) same ∙ get_or-set_same sets n third [] low in
        let before : get_or sets i [] ≡ old = ap (λ k. get_or sets k []) same ∙ was in (
          λ it.
              let both = (left j).0 (subst (λ (xs : List ℕ). Contains xs j) here it) in
              (subst (λ (xs : List ℕ). Contains xs j) (sym before) both.0, λ _ is. both.1 is),
          λ it.
              subst (λ (xs : List ℕ). Contains xs j) (sym here)
              ((left j).1 (subst (λ (xs : List ℕ). Contains xs j) before it.0, λ is. it.1 same is)),
        )
    by (inr other) =
        let same : get_or (set sets n third) i [] ≡ get_or sets i [] = get_or-set_other sets n i third [] other in (
          λ it. (subst (λ (xs : List ℕ). Contains xs j) same it, λ e _. other e),
          λ it. subst (λ (xs : List ℕ). Contains xs j) (sym same) it.0,
        )

-- a pair that went, in both directions
module _ (t : TwoWay) (is : IsTwoWay t) (n p : ℕ) (low : n < length t.forward) (also : p < length t.forward) (old third old_back fourth : List ℕ) (read : old ≡ get_or t.forward n old) (left : (j : ℕ) → Contains third j ↔ Contains old j × (j ≢ p)) (read_back : old_back ≡ get_or t.backward p old_back) (left_back : (j : ℕ) → Contains fourth j ↔ Contains old_back j × (j ≢ n)) where
  abbrev pub pair_gone : TwoWay
  pair_gone = record { forward = set t.forward n third; backward = set t.backward p fourth }

  gone_back : p < length t.backward
  gone_back = subst (λ k. p < k) (sym is.same_length) also

  pub pair_gone-removes : RemovesPair t pair_gone n p
  pair_gone-removes = record { same_length = length-set t.forward n third; pairs = set-removes t.forward n p low old third read left }

  pub pair_gone-is : IsTwoWay pair_gone
  pair_gone-is = record {
    same_length = length-set t.backward p fourth ∙ (is.same_length ∙ sym (length-set t.forward n third));
    back = λ i j it.
        let both = (set-removes t.forward n p low old third read left i j).0 it in
        (set-removes t.backward p n gone_back old_back fourth read_back left_back j i).1 (is.back i j both.0, λ e f. both.1 f e);
    forth = λ i j it.
        let both = (set-removes t.backward p n gone_back old_back fourth read_back left_back j i).0 it in
        (set-removes t.forward n p low old third read left i j).1 (is.forth i j both.0, λ e f. both.1 f e);
  }
