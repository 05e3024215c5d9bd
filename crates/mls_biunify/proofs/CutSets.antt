-- Sets that are stored, and pairs of numbers that go.
use Rattle.std.proofs.Common.{◌≡◌, ◌↔◌, inl, inr, ℕ, ◌+◌, ◌<◌, ◌∙◌, List, [], ◌∷◌, ◌++◌, set, take, All, Contains, get_or, length, length-append, append_assoc, append-nil, refl, sym, ap, subst, arith}
use Rattle.std.proofs.lemmas.Bool.{cases_eq}
use Rattle.std.proofs.lemmas.List.{get_or-set_same, get_or-set_other, length-set}
use Rattle.std.proofs.lemmas.List.Elements.{All-contains, Contains-append_left, Contains-get_or, Contains-push}
use Rattle.mls_automaton.proofs.Lists.{Contains-here, Contains-later, Contains-cases}
use Rattle.mls_solver.proofs.Relating.{taken-before, taken-last, taken-cases}
use Rattle.mls_biunify.specs.steps.TwoWay.{AreCuts, EmptiesSets, HasPair, IsCleared, IsTwoWay, LeavesPairs, StoresSets, TwoWay}

-- the sets behind those that are left are stored
pub record AreStoring (old : List (List ℕ)) (changes left : List (ℕ × List ℕ)) (now : List (List ℕ)) : Type 0 where
  pub done : List (ℕ × List ℕ)
  pub split : changes ≡ left ++ done
  pub stored : StoresSets old done now

pub storing-none : (sets : List (List ℕ)) (changes : List (ℕ × List ℕ)) → AreStoring sets changes changes sets
storing-none sets changes = record {
  done = [];
  split = sym (append-nil changes);
  stored = record {
    same_length = refl;
    stored = λ s. inr (λ one none. let low : none.0 < 0 = none.1 in omega arith, refl);
  };
}

pub storing-done : (old : List (List ℕ)) (changes left : List (ℕ × List ℕ)) (now : List (List ℕ)) → left ≡ [] → AreStoring old changes left now → StoresSets old changes now
storing-done old changes left now none it =
    let all : changes ≡ it.done = it.split ∙ ap (λ (xs : List (ℕ × List ℕ)). xs ++ it.done) none in
    subst (λ (xs : List (ℕ × List ℕ)). StoresSets old xs now) (sym all) it.stored

pub popped-less : (old rest : List (ℕ × List ℕ)) (x : ℕ × List ℕ) → old ≡ rest ++ x ∷ [] → length rest < length old
popped-less old rest x e =
    let size : length old ≡ length rest + 1 = ap length e ∙ length-append rest (x ∷ []) in
    omega arith

module _ (old : List (List ℕ)) (changes left rest : List (ℕ × List ℕ)) (now : List (List ℕ)) (s : ℕ) (h : List ℕ) (it : AreStoring old changes left now) (e : left ≡ rest ++ (s, h) ∷ []) where
  pub stored-there : Contains changes (s, h)
  stored-there =
      subst (λ (xs : List (ℕ × List ℕ)). Contains xs (s, h)) (sym it.split)
      (Contains-append_left left it.done (s, h) (subst (λ (xs : List (ℕ × List ℕ)). Contains xs (s, h)) (sym e) (Contains-push rest (s, h))))

  pub stored-low : ((s : ℕ) (one : List ℕ) → Contains changes (s, one) → s < length old) → s < length now
  stored-low low = subst (λ k. s < k) (sym it.stored.same_length) (low s h stored-there)

  pub storing-next : s < length now → AreStoring old changes rest (set now s h)
  storing-next low = record {
    done = (s, h) ∷ it.done;
    split = it.split ∙ (ap (λ (xs : List (ℕ × List ℕ)). xs ++ it.done) e ∙ append_assoc rest ((s, h) ∷ []) it.done);
    stored = record {
      same_length = length-set now s h ∙ it.stored.same_length;
      stored = λ j.
          elim (cases_eq j s) [
            | inl same ↦
                inl (
                  h,
                  subst (λ k. Contains ((s, h) ∷ it.done) (k, h)) (sym same) (Contains-here (s, h) it.done),
                  ap (λ k. get_or (set now s h) k []) same ∙ get_or-set_same now s h [] low,
                )
            | inr differs ↦ elim (it.stored.stored j) [
              | inl before ↦ inl (before.0, Contains-later (s, h) it.done (j, before.0) before.1, get_or-set_other now s j h [] differs ∙ before.2)
              | inr none ↦ inr (
                λ k there.
                    elim (Contains-cases (s, h) it.done (j, k) there) [
                      | inl same ↦ differs (sym (ap (λ (x : ℕ × List ℕ). x.0) same))
                      | inr later ↦ none.0 k later
                    ],
                get_or-set_other now s j h [] differs ∙ none.1,
              )
            ]
          ];
    };
  }

-- the sets of the first of these numbers are empty
pub empties-none : (sets : List (List ℕ)) (numbers : List ℕ) → EmptiesSets sets (take 0 numbers) sets
empties-none sets numbers = record {
  same_length = refl;
  empty = λ s j it there. let low : it.0 < 0 = it.1 in omega arith;
  others = λ s j none. (λ it. it, λ it. it);
}

pub empties-more : (old now new : List (List ℕ)) (numbers : List ℕ) (i : ℕ) → i < length numbers → EmptiesSets old (take i numbers) now → IsCleared (get_or numbers i 0) now new → EmptiesSets old (take (i + 1) numbers) new
empties-more old now new numbers i low so_far cleared = record {
  same_length = cleared.same_length ∙ so_far.same_length;
  empty = λ s j it there.
      elim (cases_eq s (get_or numbers i 0)) [
        | inl same ↦ cleared.empty j (subst (λ k. Contains (get_or new k []) j) same there)
        | inr other ↦ elim (taken-cases numbers i 0 low s it) [
          | inl earlier ↦ so_far.empty s j earlier ((cleared.others s j other).0 there)
          | inr same ↦ absurd (other same)
        ]
      ];
  others = λ s j none.
      let other = λ (same : s ≡ get_or numbers i 0). none (subst (Contains (take (i + 1) numbers)) (sym same) (taken-last numbers i 0 low)) in
      let earlier = λ (it : Contains (take i numbers) s). none (taken-before numbers i 0 low s it) in (
        λ it. (so_far.others s j earlier).0 ((cleared.others s j other).0 it),
        λ it. (cleared.others s j other).1 ((so_far.others s j earlier).1 it),
      );
}

pub empties-all : (old now : List (List ℕ)) (numbers : List ℕ) (i : ℕ) → take i numbers ≡ numbers → EmptiesSets old (take i numbers) now → EmptiesSets old numbers now
empties-all old now numbers i all it = subst (λ (xs : List ℕ). EmptiesSets old xs now) all it

pub empties-low : (old now : List (List ℕ)) (numbers : List ℕ) (i : ℕ) → i < length numbers → EmptiesSets old (take i numbers) now → All (λ s. s < length old) numbers → get_or numbers i 0 < length now
empties-low old now numbers i low it all =
    subst (λ k. get_or numbers i 0 < k) (sym it.same_length) (All-contains (λ s. s < length old) numbers (get_or numbers i 0) all (Contains-get_or numbers i 0 low))

-- what is left of each set of a relation
module _ (gone : List ℕ) (limit : ℕ) (R : ℕ → ℕ → Type 0) (cuts : List (ℕ × List ℕ)) (are : AreCuts gone limit R cuts) (old mid new : List (List ℕ)) (is : (s j : ℕ) → Contains (get_or old s []) j ↔ R s j) (stores : StoresSets old cuts mid) (empties : EmptiesSets mid gone new) where
  pub cut-length : length new ≡ length old
  cut-length = empties.same_length ∙ stores.same_length

  stored-left : (s j : ℕ) → (Contains gone s → ⊥) → Contains (get_or mid s []) j ↔ R s j × (Contains gone j → ⊥)
  stored-left s j stays = elim (stores.stored s) [
    | inl one ↦ (
      λ it. (are.listed s one.0 one.1 j).0 (subst (λ (xs : List ℕ). Contains xs j) one.2 it),
      λ it. subst (λ (xs : List ℕ). Contains xs j) (sym one.2) ((are.listed s one.0 one.1 j).1 it),
    )
    | inr none ↦ (
      λ it. let there = (is s j).0 (subst (λ (xs : List ℕ). Contains xs j) none.1 it) in (there, are.others s j stays none.0 there),
      λ it. subst (λ (xs : List ℕ). Contains xs j) (sym none.1) ((is s j).1 it.0),
    )
  ]

  pub cut-left : (s j : ℕ) → Contains (get_or new s []) j ↔ R s j × (Contains gone s → ⊥) × (Contains gone j → ⊥)
  cut-left s j = (
    λ it.
        let stays = λ (goes : Contains gone s). empties.empty s j goes it in
        let left = (stored-left s j stays).0 ((empties.others s j stays).0 it) in
        (left.0, stays, left.1),
    λ it. (empties.others s j it.1).1 ((stored-left s j it.1).1 (it.0, it.2)),
  )

-- pairs of which no number goes, found from both of their ends
module _ (t : TwoWay) (is : IsTwoWay t) (gone : List ℕ) (after before : List (ℕ × List ℕ)) (cuts : AreCuts gone (length t.forward) (HasPair t) after) (also : AreCuts gone (length t.forward) (λ p n. HasPair t n p) before) (forward-1 backward-1 forward backward : List (List ℕ)) (first : StoresSets t.forward after forward-1) (second : StoresSets t.backward before backward-1) (third : EmptiesSets forward-1 gone forward) (fourth : EmptiesSets backward-1 gone backward) where
  abbrev pub cut : TwoWay
  cut = record { forward = forward; backward = backward }

  forth : (n p : ℕ) → HasPair cut n p ↔ HasPair t n p × (Contains gone n → ⊥) × (Contains gone p → ⊥)
  forth = cut-left gone (length t.forward) (HasPair t) after cuts t.forward forward-1 forward (λ s j. (λ it. it, λ it. it)) first third

  back : (p n : ℕ) → Contains (get_or backward p []) n ↔ HasPair t n p × (Contains gone p → ⊥) × (Contains gone n → ⊥)
  back = cut-left gone (length t.forward) (λ p n. HasPair t n p) before also t.backward backward-1 backward (λ p n. (is.forth n p, is.back n p)) second fourth

  forward-length : length forward ≡ length t.forward
  forward-length = third.same_length ∙ first.same_length

  pub cut-leaves : LeavesPairs gone t cut
  cut-leaves = record { same_length = forward-length; pairs = forth }

  pub cut-is : IsTwoWay cut
  cut-is = record {
    same_length = (fourth.same_length ∙ second.same_length) ∙ (is.same_length ∙ sym forward-length);
    back = λ n p it. let left = (forth n p).0 it in (back p n).1 (left.0, left.2, left.1);
    forth = λ n p it. let left = (back p n).0 it in (forth n p).1 (left.0, left.2, left.1);
  }
