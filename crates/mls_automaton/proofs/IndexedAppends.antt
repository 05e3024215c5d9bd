-- The index of the edges at a state, of two automata side by side.
use Rattle.std.proofs.Common.{◌≡◌, ◌↔◌, ◌⊎◌, inl, inr, ℕ, ◌<◌, ◌≤◌, ◌+◌, List, [], ◌∷◌, ◌++◌, map, refl, sym, ap, ◌∙◌, subst, arith, length, get_or, Contains}
use Rattle.std.proofs.lemmas.List.{get_or_default, get_or_append_left, get_or-append-add, length-append, length-map}
use Rattle.std.proofs.Math.ListN.{get_or-map}
use Rattle.std.proofs.lemmas.List.Elements.{Contains-append_left, Contains-append_right}
use Rattle.mls_book.proofs.LongerBooks.{below_or_more}
use Rattle.mls_automaton.specs.declared.automaton.Polarity.{Polarity}
use Rattle.mls_automaton.specs.declared.automaton.Polarity.TheVariants.{Positive, Negative}
use Rattle.mls_automaton.specs.declared.automaton.Head.{Head}
use Rattle.mls_automaton.specs.declared.automaton.State.{State}
use Rattle.mls_automaton.specs.Automata.{Automaton, HasFlow, IsPartner, IsState, flow}
use Rattle.mls_automaton.specs.Embeddings.{appended, renamed_flow, renamed_head, renamed_state}
use Rattle.mls_automaton.specs.Sets.{Rises}
use Rattle.mls_automaton.specs.Indexed.{IsIndexed}
use Rattle.mls_automaton.proofs.Lists.{Contains-map, Contains-map_back}
use Rattle.mls_automaton.proofs.Appends.{renamed_head-self, length-appended, first-state, second-state, flows-appended}

-- numbers that all go up by the same still rise
pub rises-raised : (n : ℕ) (set : List ℕ) → Rises set → Rises (map (λ s. n + s) set)
rises-raised n set rises i j less low =
    let size : length (map (λ s. n + s) set) ≡ length set = length-map set (λ s. n + s) in
    let low' : j < length set = omega arith in
    let here : get_or (map (λ s. n + s) set) i 0 ≡ n + get_or set i 0 = at i (omega arith) in
    let there : get_or (map (λ s. n + s) set) j 0 ≡ n + get_or set j 0 = at j low' in
    let h : get_or set i 0 < get_or set j 0 = rises i j less low' in
    omega arith
  where
    at : (k : ℕ) → k < length set → get_or (map (λ s. n + s) set) k 0 ≡ n + get_or set k 0
    at k in_list =
        get_or_default (map (λ s. n + s) set) k 0 (n + 0) (let size : length (map (λ s. n + s) set) ≡ length set = length-map set (λ s. n + s) in omega arith)
        ∙ get_or-map (λ s. n + s) set k 0

module _ (a b : Automaton) (P Q : List (List ℕ)) (first : IsIndexed a P) (second : IsIndexed b Q) where
  abbrev n : ℕ
  n = length a.states

  abbrev up : ℕ → ℕ
  up s = n + s

  abbrev c : Automaton
  c = appended a b

  abbrev sets : List (List ℕ)
  sets = P ++ map (map up) Q

  old-set : (s : ℕ) → s < n → get_or sets s [] ≡ get_or P s []
  old-set s low = get_or_append_left P (map (map up) Q) [] s (let same : length P ≡ n = first.one_for_each in omega arith)

  new-set : (s : ℕ) → get_or sets (up s) [] ≡ map up (get_or Q s [])
  new-set s =
      let same : length P ≡ n = first.one_for_each in
      ap (λ k. get_or sets (k + s) []) (sym same) ∙ (get_or-append-add P (map (map up) Q) s [] ∙ get_or-map (map up) Q s [])

  first-is : (p : Polarity) (s : ℕ) → IsState a p s → IsState c p s
  first-is p s it =
      let low : s < n = it.in_range in
      let size : length c.states ≡ n + length b.states = length-appended a b in
      record { in_range = omega arith; polarity = ap (λ (x : State). x.polarity) (first-state a b s low) ∙ it.polarity }

  second-is : (p : Polarity) (s : ℕ) → IsState b p s → IsState c p (up s)
  second-is p s it =
      let low : s < length b.states = it.in_range in
      let size : length c.states ≡ n + length b.states = length-appended a b in
      record { in_range = omega arith; polarity = ap (λ (x : State). x.polarity) (second-state a b s) ∙ it.polarity }

  old-flow : (m p : ℕ) → HasFlow a m p → HasFlow c m p
  old-flow m p it = Contains-append_left a.flows (map (renamed_flow up) b.flows) (flow m p) it

  new-flow : (m p : ℕ) → HasFlow b m p → HasFlow c (up m) (up p)
  new-flow m p it = Contains-append_right a.flows (map (renamed_flow up) b.flows) (flow (up m) (up p)) (Contains-map (renamed_flow up) b.flows (flow m p) it)

  is-old : (m p : ℕ) → (m < n) ⊎ (p < n) → HasFlow c m p → HasFlow a m p
  is-old m p low it = elim (flows-appended a b m p it) [
    | inl old ↦ old
    | inr new ↦
        let at : m ≡ n + new.0 = new.3 in
        let at' : p ≡ n + new.1 = new.4 in
        elim low [ inl h ↦ absurd (omega arith) | inr h ↦ absurd (omega arith) ]
  ]

  is-new : (m p : ℕ) → (n ≤ m) ⊎ (n ≤ p) → HasFlow c m p → (i j : ℕ) × HasFlow b i j × (m ≡ up i) × (p ≡ up j)
  is-new m p high it = elim (flows-appended a b m p it) [
    | inl old ↦
        let low : m < n = (first.flows.negative (flow m p) old).in_range in
        let low' : p < n = (first.flows.positive (flow m p) old).in_range in
        elim high [ inl h ↦ absurd (omega arith) | inr h ↦ absurd (omega arith) ]
    | inr new ↦ new
  ]

  old-members : (s : ℕ) → s < n → (j : ℕ) → Contains (get_or sets s []) j ↔ IsPartner c s j
  old-members s low j = (to, from)
    where
      to : Contains (get_or sets s []) j → IsPartner c s j
      to it = elim ((first.members s low j).0 (subst (λ set. Contains set j) (old-set s low) it)) [
        | inl h ↦ inl (old-flow s j h)
        | inr h ↦ inr (old-flow j s h)
      ]

      back : IsPartner c s j → IsPartner a s j
      back (inl h) = inl (is-old s j (inl low) h)
      back (inr h) = inr (is-old j s (inr low) h)

      from : IsPartner c s j → Contains (get_or sets s []) j
      from it = subst (λ set. Contains set j) (sym (old-set s low)) ((first.members s low j).1 (back it))

  new-members : (s : ℕ) → s < length b.states → (j : ℕ) → Contains (map up (get_or Q s [])) j ↔ IsPartner c (up s) j
  new-members s low j = (to, from)
    where
      to : Contains (map up (get_or Q s [])) j → IsPartner c (up s) j
      to it =
          let found = Contains-map_back up (get_or Q s []) j it in
          subst (λ i. IsPartner c (up s) i) found.2 (move found.0 ((second.members s low found.0).0 found.1))
        where
          move : (k : ℕ) → IsPartner b s k → IsPartner c (up s) (up k)
          move k (inl h) = inl (new-flow s k h)
          move k (inr h) = inr (new-flow k s h)

      same : (i : ℕ) → up s ≡ up i → i ≡ s
      same i e = let h : n + s ≡ n + i = e in omega arith

      from : IsPartner c (up s) j → Contains (map up (get_or Q s [])) j
      from (inl h) =
          let it = is-new (up s) j (inl (omega arith)) h in
          let partner : IsPartner b s it.1 = inl (subst (λ i. HasFlow b i it.1) (same it.0 it.3) it.2) in
          subst (λ i. Contains (map up (get_or Q s [])) i) (sym it.4) (Contains-map up (get_or Q s []) it.1 ((second.members s low it.1).1 partner))
      from (inr h) =
          let it = is-new j (up s) (inr (omega arith)) h in
          let partner : IsPartner b s it.0 = inr (subst (λ i. HasFlow b it.0 i) (same it.1 it.4) it.2) in
          subst (λ i. Contains (map up (get_or Q s [])) i) (sym it.3) (Contains-map up (get_or Q s []) it.0 ((second.members s low it.0).1 partner))

  in-second : (s j : ℕ) → s ≡ n + j → s < length c.states → j < length b.states
  in-second s j e low = let size : length c.states ≡ n + length b.states = length-appended a b in omega arith

  pub indexed-append : IsIndexed c sets
  indexed-append = record {
    one_for_each =
        length-append P (map (map up) Q)
        ∙ (λ i. first.one_for_each i + (length-map Q (map up) ∙ second.one_for_each) i)
        ∙ sym (length-appended a b);
    rising = λ s low. elim (below_or_more s n) [
      | inl less ↦ subst Rises (sym (old-set s less)) (first.rising s less)
      | inr it ↦ subst (λ k. Rises (get_or sets k [])) (sym it.1) (subst Rises (sym (new-set it.0)) (rises-raised n (get_or Q it.0 []) (second.rising it.0 (in-second s it.0 it.1 low))))
    ];
    members = λ s low j. elim (below_or_more s n) [
      | inl less ↦ old-members s less j
      | inr it ↦ subst (λ k. Contains (get_or sets k []) j ↔ IsPartner c k j) (sym it.1) (subst (λ set. Contains set j ↔ IsPartner c (up it.0) j) (sym (new-set it.0)) (new-members it.0 (in-second s it.0 it.1 low) j))
    ];
    flows = record {
      negative = λ f it. elim (flows-appended a b f.negative.0 f.positive.0 it) [
        | inl old ↦ first-is Negative f.negative.0 (first.flows.negative f old)
        | inr new ↦ subst (IsState c Negative) (sym new.3) (second-is Negative new.0 (second.flows.negative (flow new.0 new.1) new.2))
      ];
      positive = λ f it. elim (flows-appended a b f.negative.0 f.positive.0 it) [
        | inl old ↦ first-is Positive f.positive.0 (first.flows.positive f old)
        | inr new ↦ subst (IsState c Positive) (sym new.4) (second-is Positive new.1 (second.flows.positive (flow new.0 new.1) new.2))
      ];
    };
  }

abbrev Same : (ℕ → ℕ) → (ℕ → ℕ) → Type 0
Same f g = f ≡ g

-- behind nothing stands the automaton itself
pub appended-nothing : (a : Automaton) → appended (record { states = []; flows = [] }) a ≡ a
appended-nothing a = λ i. record {
  states = map-self (renamed_state (λ s. 0 + s)) (λ t. λ k. record { polarity = t.polarity; head = same-head t.head k }) a.states i;
  flows = map-self (renamed_flow (λ s. 0 + s)) (λ f. λ k. flow (zero-add f.negative.0 k) (zero-add f.positive.0 k)) a.flows i;
}
  where
    zero-add : (s : ℕ) → 0 + s ≡ s
    zero-add s = omega arith

    nothing : Same (λ s. 0 + s) (λ s. s)
    nothing = λ i s. zero-add s i

    same-head : (h : Head) → renamed_head (λ s. 0 + s) h ≡ h
    same-head h = ap (λ f. renamed_head f h) nothing ∙ renamed_head-self h

    map-self : {X : Type 0} (f : X → X) → ((x : X) → f x ≡ x) → (xs : List X) → map f xs ≡ xs
    map-self f same [] = refl
    map-self f same (x ∷ rest) = λ i. same x i ∷ map-self f same rest i
