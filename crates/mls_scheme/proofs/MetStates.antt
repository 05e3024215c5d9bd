-- New states for binders of two environments, one after another.
--     closed-met     an automaton with one more such state is closed
--     merged-none, merged-more     and it is the old one with such states
--     front-more, front-state, front-next     what was there before stays
use Rattle.std.proofs.Common.{◌≡◌, ◌≢◌, ◌==◌, ◌↔◌, ◌⊎◌, inl, inr, ℕ, zero, suc, ◌<◌, ◌≤◌, ◌+◌, ◌-◌, Bool, true, false, ◌||◌, Option, Some, None, List, [], ◌∷◌, ◌++◌, map, refl, sym, ap, ◌∙◌, subst, arith, length, get_or, Contains, All}
use Rattle.std.specs.Prelude.{take}
use Rattle.std.proofs.lemmas.Bool.Decides.{eqb_tells}
use Rattle.std.proofs.lemmas.List.{get_or_append_left, get_or_past, length-append, take_all}
use Rattle.std.proofs.Math.Seq.{get_or-append_seam}
use Rattle.mls_automaton.specs.declared.automaton.Polarity.{Polarity}
use Rattle.mls_automaton.specs.declared.automaton.Polarity.TheVariants.{Positive, Negative}
use Rattle.mls_automaton.specs.declared.automaton.Arms.{Arms}
use Rattle.mls_automaton.specs.declared.automaton.Head.{Head}
use Rattle.mls_automaton.specs.declared.automaton.State.{State}
use Rattle.mls_automaton.specs.declared.automaton.Flow.{Flow}
use Rattle.mls_automaton.specs.Automata.{Automaton, empty_head, flow, head_at, polarity_at, state_at, with_flow, with_state, HasFlow, IsPartner, IsState}
use Rattle.mls_automaton.specs.Heads.{combined, combined_functions, combined_records, combined_two, no_parts, parts_of, IsSameParts, Parts}
use Rattle.mls_automaton.specs.Models.{HasRisingLabels, HasStatesIn, IsClosed}
use Rattle.mls_automaton.proofs.CombinedStates.{combined_in, head_in, parts_in, same_in, HasPartsIn}
use Rattle.mls_automaton.specs.Embeddings.{front}
use Rattle.mls_automaton.proofs.Fronts.{front-with_flow, front-with_state}
use Rattle.mls_automaton.proofs.Lists.{All-contained, Contains-cases, Contains-here, Contains-later}
use Rattle.mls_automaton.proofs.Passing.{states_more}
use Rattle.mls_automaton.proofs.Searches.{next-cases, next-last, next-more}
use Rattle.mls_book.proofs.LongerBooks.{below_or_more}
use Rattle.mls_scheme.specs.Merged.{IsMerged, IsNew}
use Rattle.mls_scheme.specs.declared.environments.Shared.{Shared}
use Rattle.mls_scheme.specs.steps.Environments.{pair_at, pair_of}
use Rattle.mls_scheme.specs.steps.Meeting.{first_of, second_of, AddsMet, HasSameFront, IsPairIn}

-- combined with nothing
or-none : (b : Bool) → (b || false) ≡ b
or-none true = refl
or-none false = refl

functions-none : (o : Option Arms) → combined_functions o None ≡ o
functions-none None = refl
functions-none (Some arms) = refl

records-none : (p : Polarity) (o : Option (List ℕ → Option (List ℕ))) → combined_records p o None ≡ o
records-none p None = refl
records-none p (Some fields) = refl

pub combined-none : (p : Polarity) (h : Parts) → combined_two p h no_parts ≡ h
combined-none p h = λ i. record {
  boolean = or-none h.boolean i;
  integer = or-none h.integer i;
  function = functions-none h.function i;
  fields = records-none p h.fields i;
}

combined-pair : (p : Polarity) (g h k : Parts) → IsSameParts g (combined_two p h k) → IsSameParts g (combined p (h ∷ k ∷ []))
combined-pair p g h k same = subst (λ (it : Parts). IsSameParts g (combined_two p h it)) (sym (combined-none p k)) same

module _ (m n : ℕ) (old new : Automaton) (closed : IsClosed old) (first : IsState old Negative m) (second : IsState old Negative n) (adds : AddsMet m n old new) where
  abbrev k : ℕ
  k = length old.states

  abbrev default_state : State
  default_state = record { polarity = Positive; head = empty_head }

  pub length-met : length new.states ≡ suc k
  length-met = ap length adds.states ∙ (length-append old.states (adds.state ∷ []) ∙ (let e : k + 1 ≡ suc k = omega arith in e))

  pub state-old : (s : ℕ) → s < k → state_at new s ≡ state_at old s
  state-old s low = ap (λ (xs : List State). get_or xs s default_state) adds.states ∙ get_or_append_left old.states (adds.state ∷ []) default_state s low

  pub state-new : state_at new k ≡ adds.state
  state-new = ap (λ (xs : List State). get_or xs k default_state) adds.states ∙ get_or-append_seam old.states adds.state [] default_state

  state-past : (j : ℕ) → state_at new (k + suc j) ≡ default_state
  state-past j =
      let size : length new.states ≡ suc k = length-met in
      get_or_past new.states (k + suc j) default_state (omega arith)

  pub is_old : (p : Polarity) (s : ℕ) → IsState old p s → IsState new p s
  is_old p s state =
      let size : length new.states ≡ suc k = length-met in
      let low : s < k = state.in_range in
      record { in_range = omega arith; polarity = ap (λ (x : State). x.polarity) (state-old s low) ∙ state.polarity }

  pub is_new : IsState new Negative k
  is_new = let size : length new.states ≡ suc k = length-met in record { in_range = omega arith; polarity = ap (λ (x : State). x.polarity) state-new ∙ adds.polarity }

  new_parts : HasPartsIn (IsState old) Negative (parts_of adds.state.head)
  new_parts =
      same_in (IsState old) Negative (parts_of adds.state.head) (combined Negative (map (λ j. parts_of (head_at old j)) (m ∷ n ∷ [])))
      (combined-pair Negative (parts_of adds.state.head) (parts_of (head_at old m)) (parts_of (head_at old n)) adds.head)
      (combined_in (IsState old) Negative (λ j. parts_of (head_at old j)) (m ∷ n ∷ []) each)
    where
      one : (j : ℕ) → IsState old Negative j → HasPartsIn (IsState old) Negative (parts_of (head_at old j))
      one j state = parts_in (IsState old) Negative (head_at old j) (subst (λ p. HasStatesIn (IsState old) p (head_at old j)) state.polarity (closed.heads j))

      each : All (λ j. HasPartsIn (IsState old) Negative (parts_of (head_at old j))) (m ∷ n ∷ [])
      each zero d low = one m first
      each (suc zero) d low = one n second
      each (suc (suc i)) d low = absurd (omega arith)

  closed-state : (x : State) → Type 0
  closed-state x = HasStatesIn (IsState new) x.polarity x.head

  pub closed-met : IsClosed new
  closed-met = record {
    heads = λ s. heads s (below_or_more s k);
    labels = λ s. labels s (below_or_more s k);
    negative = λ f it. negative f ((adds.flows f.negative.0 f.positive.0).0 it);
    positive = λ f it. positive f ((adds.flows f.negative.0 f.positive.0).0 it);
  }
    where
      heads : (s : ℕ) → (s < k) ⊎ ((j : ℕ) × (s ≡ k + j)) → HasStatesIn (IsState new) (polarity_at new s) (head_at new s)
      heads s (inl low) =
          subst (λ (x : State). HasStatesIn (IsState new) x.polarity x.head) (sym (state-old s low))
          (states_more (IsState old) (IsState new) is_old (polarity_at old s) (head_at old s) (closed.heads s))
      heads s (inr (zero, at)) =
          let same : s ≡ k = omega arith in
          subst (λ (x : State). HasStatesIn (IsState new) x.polarity x.head) (sym (ap (state_at new) same ∙ state-new))
          (subst (λ p. HasStatesIn (IsState new) p adds.state.head) (sym adds.polarity)
          (states_more (IsState old) (IsState new) is_old Negative adds.state.head (head_in (IsState old) Negative adds.state.head adds.labels new_parts)))
      heads s (inr (suc j, at)) =
          subst (λ (x : State). HasStatesIn (IsState new) x.polarity x.head) (sym (ap (state_at new) at ∙ state-past j))
          (record { function = tt; fields = tt })

      labels : (s : ℕ) → (s < k) ⊎ ((j : ℕ) × (s ≡ k + j)) → HasRisingLabels (head_at new s).fields
      labels s (inl low) = subst (λ (x : State). HasRisingLabels x.head.fields) (sym (state-old s low)) (closed.labels s)
      labels s (inr (zero, at)) =
          let same : s ≡ k = omega arith in
          subst (λ (x : State). HasRisingLabels x.head.fields) (sym (ap (state_at new) same ∙ state-new)) adds.labels
      labels s (inr (suc j, at)) = subst (λ (x : State). HasRisingLabels x.head.fields) (sym (ap (state_at new) at ∙ state-past j)) tt

      negative : (f : Flow) → HasFlow old f.negative.0 f.positive.0 ⊎ ((f.negative.0 ≡ k) × (HasFlow old m f.positive.0 ⊎ HasFlow old n f.positive.0)) → IsState new Negative f.negative.0
      negative f (inl it) = is_old Negative f.negative.0 (closed.negative f it)
      negative f (inr it) = subst (IsState new Negative) (sym it.0) is_new

      positive : (f : Flow) → HasFlow old f.negative.0 f.positive.0 ⊎ ((f.negative.0 ≡ k) × (HasFlow old m f.positive.0 ⊎ HasFlow old n f.positive.0)) → IsState new Positive f.positive.0
      positive f (inl it) = is_old Positive f.positive.0 (closed.positive f it)
      positive f (inr it) = elim it.1 [
        | inl edge ↦ is_old Positive f.positive.0 (closed.positive (flow m f.positive.0) edge)
        | inr edge ↦ is_old Positive f.positive.0 (closed.positive (flow n f.positive.0) edge)
      ]

pub merged-none : (first second : ℕ → ℕ) (a : Automaton) → IsMerged first second a a
merged-none first second a = record {
  longer = omega arith;
  old = λ s low. refl;
  first_state = λ k new. absurd (none k new);
  second_state = λ k new. absurd (none k new);
  polarity = λ k new. absurd (none k new);
  head = λ k new. absurd (none k new);
  old_flows = λ n p it. it;
  new_flows = λ k p new it. absurd (none k new);
  flows = λ n p it. inl it;
}
  where
    none : (k : ℕ) → IsNew a a k → ⊥
    none k new = let h : length a.states ≤ k = new.0 in let h' : k < length a.states = new.1 in omega arith

module _ (first second : ℕ → ℕ) (a old new : Automaton) (closed : IsClosed old) (is : IsMerged first second a old) (m n : ℕ) (is_m : IsState a Negative m) (is_n : IsState a Negative n) (at-m : first (length old.states) ≡ m) (at-n : second (length old.states) ≡ n) (adds : AddsMet m n old new) where
  abbrev top : ℕ
  top = length old.states

  kept-state : (p : Polarity) (s : ℕ) → IsState a p s → IsState old p s
  kept-state p s state =
      let low : s < length a.states = state.in_range in
      let more : length a.states ≤ length old.states = is.longer in
      record { in_range = omega arith; polarity = ap (λ (x : State). x.polarity) (is.old s low) ∙ state.polarity }

  size : length new.states ≡ suc top
  size = length-met m n old new closed (kept-state Negative m is_m) (kept-state Negative n is_n) adds

  old-at : (s : ℕ) → s < top → state_at new s ≡ state_at old s
  old-at = state-old m n old new closed (kept-state Negative m is_m) (kept-state Negative n is_n) adds

  new-at : state_at new top ≡ adds.state
  new-at = state-new m n old new closed (kept-state Negative m is_m) (kept-state Negative n is_n) adds

  -- a new state is an earlier one, or the last one
  cases : (k : ℕ) → IsNew a new k → IsNew a old k ⊎ (k ≡ top)
  cases k it =
      let low : length a.states ≤ k = it.0 in
      let high : k < length new.states = it.1 in
      let all : length new.states ≡ suc top = size in
      go (below_or_more k top) low high all
    where
      go : (k < top) ⊎ ((j : ℕ) × (k ≡ top + j)) → length a.states ≤ k → k < length new.states → length new.states ≡ suc top → IsNew a old k ⊎ (k ≡ top)
      go (inl less) low high all = inl (low, less)
      go (inr more) low high all = let e : k ≡ top + more.0 = more.1 in inr (omega arith)

  pub is-new-top : IsNew a new top
  is-new-top = let all : length new.states ≡ suc top = size in let more : length a.states ≤ length old.states = is.longer in (omega arith, omega arith)

  still-new : (k : ℕ) → IsNew a old k → IsNew a new k
  still-new k it =
      let all : length new.states ≡ suc top = size in
      let low : length a.states ≤ k = it.0 in
      let high : k < length old.states = it.1 in
      (omega arith, omega arith)

  old-edge : (s p : ℕ) → IsState a Negative s → HasFlow old s p → HasFlow a s p
  old-edge s p state it = elim (is.flows s p it) [
    | inl edge ↦ edge
    | inr new ↦ let low : length a.states ≤ s = new.0.0 in let high : s < length a.states = state.in_range in absurd (omega arith)
  ]

  head-same : (s : ℕ) → IsState a Negative s → head_at old s ≡ head_at a s
  head-same s state = ap (λ (x : State). x.head) (is.old s state.in_range)

  head-top : IsSameParts (parts_of (head_at new top)) (combined Negative (parts_of (head_at a (first top)) ∷ parts_of (head_at a (second top)) ∷ []))
  head-top =
      rw (at-m, at-n, ap (λ (x : State). x.head) new-at, sym (head-same m is_m), sym (head-same n is_n))
      (combined-pair Negative (parts_of adds.state.head) (parts_of (head_at old m)) (parts_of (head_at old n)) adds.head)

  pub merged-more : IsMerged first second a new
  merged-more = record {
    longer = let all : length new.states ≡ suc top = size in let more : length a.states ≤ length old.states = is.longer in omega arith;
    old = λ s low. let more : length a.states ≤ length old.states = is.longer in old-at s (omega arith) ∙ is.old s low;
    first_state = λ k it. elim (cases k it) [
      | inl was ↦ is.first_state k was
      | inr last ↦ subst (IsState a Negative) (sym (ap first last ∙ at-m)) is_m
    ];
    second_state = λ k it. elim (cases k it) [
      | inl was ↦ is.second_state k was
      | inr last ↦ subst (IsState a Negative) (sym (ap second last ∙ at-n)) is_n
    ];
    polarity = λ k it. elim (cases k it) [
      | inl was ↦ ap (λ (x : State). x.polarity) (old-at k was.1) ∙ is.polarity k was
      | inr last ↦ ap (λ (x : State). x.polarity) (ap (state_at new) last ∙ new-at) ∙ adds.polarity
    ];
    head = λ k it. elim (cases k it) [
      | inl was ↦ subst (λ (x : State). IsSameParts (parts_of x.head) (combined Negative (parts_of (head_at a (first k)) ∷ parts_of (head_at a (second k)) ∷ []))) (sym (old-at k was.1)) (is.head k was)
      | inr last ↦ subst (λ k. IsSameParts (parts_of (head_at new k)) (combined Negative (parts_of (head_at a (first k)) ∷ parts_of (head_at a (second k)) ∷ []))) (sym last) head-top
    ];
    old_flows = λ s p it. (adds.flows s p).1 (inl (is.old_flows s p it));
    new_flows = λ k p it edge. elim (cases k it) [
      | inl was ↦ (adds.flows k p).1 (inl (is.new_flows k p was edge))
      | inr last ↦ (adds.flows k p).1 (inr (last, edges k p last edge))
    ];
    flows = λ s p it. elim ((adds.flows s p).0 it) [
      | inl was ↦ elim (is.flows s p was) [
        | inl edge ↦ inl edge
        | inr new ↦ inr (still-new s new.0, new.1)
      ]
      | inr new ↦ inr (subst (IsNew a adds-new) (sym new.0) is-new-top, edges-back s p new.0 new.1)
    ];
  }
    where
      adds-new : Automaton
      adds-new = new

      edges : (k p : ℕ) → k ≡ top → HasFlow a (first k) p ⊎ HasFlow a (second k) p → HasFlow old m p ⊎ HasFlow old n p
      edges k p last (inl edge) = inl (is.old_flows m p (subst (λ j. HasFlow a j p) (ap first last ∙ at-m) edge))
      edges k p last (inr edge) = inr (is.old_flows n p (subst (λ j. HasFlow a j p) (ap second last ∙ at-n) edge))

      edges-back : (k p : ℕ) → k ≡ top → HasFlow old m p ⊎ HasFlow old n p → HasFlow a (first k) p ⊎ HasFlow a (second k) p
      edges-back k p last (inl edge) = inl (subst (λ j. HasFlow a j p) (sym (ap first last ∙ at-m)) (old-edge m p is_m edge))
      edges-back k p last (inr edge) = inr (subst (λ j. HasFlow a j p) (sym (ap second last ∙ at-n)) (old-edge n p is_n edge))

-- the next edge
pub edges-next : (a old new : Automaton) (state : ℕ) (list : List ℕ) (i d : ℕ) → i < length list
    → ((s p : ℕ) → HasFlow old s p ↔ HasFlow a s p ⊎ ((s ≡ state) × Contains (take i list) p))
    → ((s p : ℕ) → HasFlow new s p ↔ HasFlow old s p ⊎ ((s ≡ state) × (p ≡ get_or list i d)))
    → (s p : ℕ) → HasFlow new s p ↔ HasFlow a s p ⊎ ((s ≡ state) × Contains (take (i + 1) list) p)
edges-next a old new state list i d low before adds s p = (
  λ it. elim ((adds s p).0 it) [
    | inl was ↦ elim ((before s p).0 was) [
      | inl first ↦ inl first
      | inr earlier ↦ inr (earlier.0, next-more list i d low p earlier.1)
    ]
    | inr one ↦ inr (one.0, subst (Contains (take (i + 1) list)) (sym one.1) (next-last list i d low))
  ],
  λ it. elim it [
    | inl first ↦ (adds s p).1 (inl ((before s p).1 (inl first)))
    | inr one ↦ elim (next-cases list i d low p one.1) [
      | inl was ↦ (adds s p).1 (inl ((before s p).1 (inr (one.0, was))))
      | inr last ↦ (adds s p).1 (inr (one.0, sym last))
    ]
  ],
)

pub edges-all : (a new : Automaton) (state : ℕ) (list ends : List ℕ) (i : ℕ) → length list ≤ i → list ≡ ends
    → ((s p : ℕ) → HasFlow new s p ↔ HasFlow a s p ⊎ ((s ≡ state) × Contains (take i list) p))
    → (s p : ℕ) → HasFlow new s p ↔ HasFlow a s p ⊎ ((s ≡ state) × Contains ends p)
edges-all a new state list ends i all same is = subst (λ xs. (s p : ℕ) → HasFlow new s p ↔ HasFlow a s p ⊎ ((s ≡ state) × Contains xs p)) (take_all i list all ∙ same) is

-- the other ends at a negative state
partner-flow : (a : Automaton) (m : ℕ) (xs : List ℕ) → IsClosed a → IsState a Negative m → ((j : ℕ) → Contains xs j ↔ IsPartner a m j) → (j : ℕ) → Contains xs j ↔ HasFlow a m j
partner-flow a m xs closed state partners j = (
  λ it. elim ((partners j).0 it) [
    | inl out ↦ out
    | inr into ↦
        let positive : polarity_at a m ≡ Positive = (closed.positive (flow j m) into).polarity in
        let negative : polarity_at a m ≡ Negative = state.polarity in
        absurd (cc)
  ],
  λ it. (partners j).1 (inl it),
)

module _ (old mid : Automaton) (m n : ℕ) (head : Head) (xs ys ends : List ℕ) (closed : IsClosed old) (is_m : IsState old Negative m) (is_n : IsState old Negative n) (at-m : (j : ℕ) → Contains xs j ↔ IsPartner old m j) (at-n : (j : ℕ) → Contains ys j ↔ IsPartner old n j) (both : (j : ℕ) → Contains ends j ↔ Contains xs j ⊎ Contains ys j) (is_mid : mid ≡ with_state old (record { polarity = Negative; head = head })) where
  abbrev added : State
  added = record { polarity = Negative; head = head }

  end-flow : (j : ℕ) → Contains ends j → HasFlow old m j ⊎ HasFlow old n j
  end-flow j it = elim ((both j).0 it) [
    | inl one ↦ inl ((partner-flow old m xs closed is_m at-m j).0 one)
    | inr other ↦ inr ((partner-flow old n ys closed is_n at-n j).0 other)
  ]

  flow-end : (j : ℕ) → HasFlow old m j ⊎ HasFlow old n j → Contains ends j
  flow-end j (inl one) = (both j).1 (inl ((partner-flow old m xs closed is_m at-m j).1 one))
  flow-end j (inr other) = (both j).1 (inr ((partner-flow old n ys closed is_n at-n j).1 other))

  end-state : (j : ℕ) → HasFlow old m j ⊎ HasFlow old n j → IsState old Positive j
  end-state j (inl one) = closed.positive (flow m j) one
  end-state j (inr other) = closed.positive (flow n j) other

  mid-state : (p : Polarity) (j : ℕ) → IsState old p j → IsState mid p j
  mid-state p j state =
      let low : j < length old.states = state.in_range in
      let size : length (old.states ++ added ∷ []) ≡ length old.states + 1 = length-append old.states (added ∷ []) in
      subst (λ (a : Automaton). IsState a p j) (sym is_mid)
      (record {
        in_range = omega arith;
        polarity = ap (λ (x : State). x.polarity) (get_or_append_left old.states (added ∷ []) (record { polarity = Positive; head = empty_head }) j low) ∙ state.polarity;
      })

  pub ends-positive : All (IsState mid Positive) ends
  ends-positive = All-contained (IsState mid Positive) ends (λ j it. mid-state Positive j (end-state j (end-flow j it)))

  pub adds-met : (new : Automaton) (k : ℕ) (h h' : Head) → h ≡ head_at old m → h' ≡ head_at old n
      → IsSameParts (parts_of head) (combined_two Negative (parts_of h) (parts_of h')) → HasRisingLabels head.fields → k ≡ length old.states
      → new.states ≡ mid.states → ((s p : ℕ) → HasFlow new s p ↔ HasFlow mid s p ⊎ ((s ≡ k) × Contains ends p)) → AddsMet m n old new
  adds-met new k h h' same same' parts labels at states flows = record {
    state = added;
    states = states ∙ ap (λ (a : Automaton). a.states) is_mid;
    polarity = refl;
    head = subst (λ (x : Head). IsSameParts (parts_of head) (combined_two Negative (parts_of x) (parts_of (head_at old n)))) same (subst (λ (x : Head). IsSameParts (parts_of head) (combined_two Negative (parts_of h) (parts_of x))) same' parts);
    labels = labels;
    flows = λ s p. (
      λ it. elim ((flows s p).0 it) [
        | inl was ↦ inl (subst (λ (a : Automaton). HasFlow a s p) is_mid was)
        | inr one ↦ inr (one.0 ∙ at, end-flow p one.1)
      ],
      λ it. elim it [
        | inl was ↦ (flows s p).1 (inl (subst (λ (a : Automaton). HasFlow a s p) (sym is_mid) was))
        | inr one ↦ (flows s p).1 (inr (one.0 ∙ sym at, flow-end p one.1))
      ],
    );
  }

-- the next pair
pub states-next : (a old new : Automaton) (shared : List Shared) (i : ℕ) → i < length shared → All (IsPairIn a) shared
    → IsMerged (first_of (length a.states) shared) (second_of (length a.states) shared) a old → IsClosed old → length old.states ≡ length a.states + i
    → AddsMet (pair_at shared i).first.0 (pair_at shared i).second.0 old new
    → IsMerged (first_of (length a.states) shared) (second_of (length a.states) shared) a new × IsClosed new × (length new.states ≡ length a.states + (i + 1))
states-next a old new shared i low pairs is closed size adds =
    let pair = pairs i (pair_of 0 0) low in
    let n : ℕ = length a.states in
    let at : length old.states - n ≡ i = omega arith in
    let first : (pair_at shared (length old.states - n)).first.0 ≡ (pair_at shared i).first.0 = ap (λ j. (pair_at shared j).first.0) at in
    let second : (pair_at shared (length old.states - n)).second.0 ≡ (pair_at shared i).second.0 = ap (λ j. (pair_at shared j).second.0) at in
    let kept = kept-state (first_of n shared) (second_of n shared) a old new closed is (pair_at shared i).first.0 (pair_at shared i).second.0 pair.0 pair.1 first second adds Negative in
    let one = kept (pair_at shared i).first.0 pair.0 in
    let other = kept (pair_at shared i).second.0 pair.1 in
    let more : length new.states ≡ suc (length old.states) = length-met (pair_at shared i).first.0 (pair_at shared i).second.0 old new closed one other adds in (
      merged-more (first_of n shared) (second_of n shared) a old new closed is (pair_at shared i).first.0 (pair_at shared i).second.0 pair.0 pair.1 first second adds,
      closed-met (pair_at shared i).first.0 (pair_at shared i).second.0 old new closed one other adds,
      omega arith,
    )

-- whether there is an edge
decide-flow : (flows : List Flow) (s p : ℕ) → Contains flows (flow s p) ⊎ (Contains flows (flow s p) → ⊥)
decide-flow [] s p = inr (λ it. let none : it.0 < 0 = it.1 in omega arith)
decide-flow (first ∷ rest) s p = go (eqb_tells first.negative.0 s) (eqb_tells first.positive.0 p) (decide-flow rest s p)
  where
    later : (first ≡ flow s p → ⊥) → Contains rest (flow s p) ⊎ (Contains rest (flow s p) → ⊥) → Contains (first ∷ rest) (flow s p) ⊎ (Contains (first ∷ rest) (flow s p) → ⊥)
    later unlike (inl it) = inl (Contains-later first rest (flow s p) it)
    later unlike (inr none) = inr (λ it. elim (Contains-cases first rest (flow s p) it) [ inl same ↦ unlike same | inr other ↦ none other ])

    go : (((first.negative.0 == s) ≡ true) × (first.negative.0 ≡ s)) ⊎ (((first.negative.0 == s) ≡ false) × (first.negative.0 ≢ s)) → (((first.positive.0 == p) ≡ true) × (first.positive.0 ≡ p)) ⊎ (((first.positive.0 == p) ≡ false) × (first.positive.0 ≢ p)) → Contains rest (flow s p) ⊎ (Contains rest (flow s p) → ⊥) → Contains (first ∷ rest) (flow s p) ⊎ (Contains (first ∷ rest) (flow s p) → ⊥)
    go (inl same) (inl same') rest-has = inl (subst (Contains (first ∷ rest)) (λ i. flow (same.1 i) (same'.1 i)) (Contains-here first rest))
    go (inl same) (inr unlike) rest-has = later (λ e. unlike.1 (ap (λ (f : Flow). f.positive.0) e)) rest-has
    go (inr unlike) other rest-has = later (λ e. unlike.1 (ap (λ (f : Flow). f.negative.0) e)) rest-has

-- edges at states from a number on leave the front as it was
pub front-more : (a old new : Automaton) (state p : ℕ) → HasSameFront state a old → (HasFlow old state p → new ≡ old) → ((HasFlow old state p → ⊥) → new ≡ with_flow old (flow state p)) → HasSameFront state a new
front-more a old new state p before there added m low =
    elim (decide-flow old.flows state p) [
      | inl it ↦ ap (front m) (there it) ∙ before m low
      | inr none ↦ ap (front m) (added none) ∙ (front-with_flow m old (flow state p) (inl low) ∙ before m low)
    ]

pub front-state : (old mid new : Automaton) (s : State) (k : ℕ) → mid ≡ with_state old s → k ≡ length old.states → HasSameFront k mid new → HasSameFront (length old.states) old new
front-state old mid new s k is at same m low =
    same m (let e : k ≡ length old.states = at in omega arith) ∙ (ap (front m) is ∙ front-with_state m old s low)

pub front-next : (a old new : Automaton) (i : ℕ) → length old.states ≡ length a.states + i → HasSameFront (length a.states) a old → HasSameFront (length old.states) old new → HasSameFront (length a.states) a new
front-next a old new i size before same m low = same m (omega arith) ∙ before m low
