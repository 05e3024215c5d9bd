-- States under numbers that change.
use Rattle.std.proofs.Common.{◌≡◌, ◌≢◌, ◌↔◌, ◌⊎◌, inl, inr, ℕ, zero, suc, ◌<◌, Bool, true, false, List, [], ◌∷◌, map, length, get_or, Option, Some, None, Result, Ok, Err, OnOk, OnErr, is_some, refl, sym, ap, ◌∙◌, subst, arith}
use Rattle.std.proofs.lemmas.Bool.{cases_eq}
use Rattle.std.proofs.lemmas.List.{get_or_default, get_or_past, length-map, length-set, same_lists}
use Rattle.slab.specs.Slab.{Slab, get, with_value, Updates}
use Rattle.slab.proofs.SlabLemmas.{Updates-with_value}
use Rattle.mls_automaton.specs.declared.automaton.Polarity.{Polarity}
use Rattle.mls_automaton.specs.declared.automaton.Polarity.TheVariants.{Positive, Negative}
use Rattle.mls_automaton.specs.declared.automaton.Head.{Head}
use Rattle.mls_automaton.specs.declared.automaton.State.{State}
use Rattle.mls_automaton.specs.Automata.{Automaton, HasFlow, IsState, state_at, polarity_at, head_at}
use Rattle.mls_automaton.specs.Models.{HasStatesIn, HasRisingLabels, IsClosed}
use Rattle.mls_automaton.specs.Reached.{Names}
use Rattle.mls_automaton.proofs.Passing.{states_more}
use Rattle.mls_automaton.proofs.KeptSchemes.{Both, named-both}
use Rattle.mls_biunify.specs.Live.{IsStateIn, IsTable, free_state}
use Rattle.mls_biunify.specs.steps.TwoWay.{TwoWay, AreCuts, HasPair, AddsPair, LeavesPairs, RemovesPair, IsSamePairs, IsGrown}
use Rattle.mls_biunify.specs.steps.Tables.{Numbered, CutsEdges, IsNumbered, InsertsState, RemovesFlow, RemovesState, SetsHead, numbered_of, state_in}
use Rattle.mls_biunify.proofs.TwoWays.{flows-pairs}

pub map-at : {X Y : Type 0} (f : X → Y) (xs : List X) (i : ℕ) (d : X) → get_or (map f xs) i (f d) ≡ f (get_or xs i d)
map-at f [] zero d = refl
map-at f [] (suc i) d = get_or_past [] i (f d) (omega arith) ∙ sym (ap f (get_or_past [] i d (omega arith)))
map-at f (x ∷ rest) zero d = refl
map-at f (x ∷ rest) (suc i) d = map-at f rest i d

-- a state that is there is in range
pub there-low : (there : List Bool) (s : ℕ) → get_or there s false ≡ true → s < length there
there-low [] s it = let none : get_or [] s false ≡ false = get_or_past [] s false (omega arith) in absurd (cc)
there-low (b ∷ rest) zero it = omega arith
there-low (b ∷ rest) (suc s) it = let low : s < length rest = there-low rest s it in omega arith

pub there-or_not : (there : List Bool) (s : ℕ) → (get_or there s false ≡ true) ⊎ (get_or there s false ≡ false)
there-or_not there s = by (get_or there s false) refl
  where
    by : (b : Bool) → get_or there s false ≡ b → (get_or there s false ≡ true) ⊎ (get_or there s false ≡ false)
    by true e = inl e
    by false e = inr e

module _ (states : Slab State) (flows : TwoWay) where
  pub state-in : (s : ℕ) → state_at (numbered_of states flows).automaton s ≡ state_in (get states s)
  state-in s = map-at state_in states.slots s None

  pub there-in : (s : ℕ) → get_or (numbered_of states flows).there s false ≡ is_some (get states s)
  there-in s = map-at is_some states.slots s None

  pub there-range : (s : ℕ) → get_or (numbered_of states flows).there s false ≡ true → s < length (numbered_of states flows).automaton.states
  there-range s it =
      let low : s < length (map is_some states.slots) = there-low (map is_some states.slots) s it in
      let one : length (map is_some states.slots) ≡ length states.slots = length-map states.slots is_some in
      let other : length (map state_in states.slots) ≡ length states.slots = length-map states.slots state_in in
      omega arith

  pub free-in : (s : ℕ) → get_or (numbered_of states flows).there s false ≡ false → state_at (numbered_of states flows).automaton s ≡ free_state
  free-in s it = state-in s ∙ by (get states s) (sym (there-in s) ∙ it)
    where
      by : (o : Option State) → is_some o ≡ false → state_in o ≡ free_state
      by None e = refl
      by (Some state) e = absurd (cc)

  pub flow-in : (n p : ℕ) → HasFlow (numbered_of states flows).automaton n p ↔ HasPair flows n p
  flow-in n p = flows-pairs flows.forward n p

pub same_lists_at : (xs ys : List Bool) → length xs ≡ length ys → ((k : ℕ) → get_or xs k false ≡ get_or ys k false) → xs ≡ ys
same_lists_at xs ys e f =
    same_lists xs ys e
    (λ k d low. get_or_default xs k d false low ∙ (f k ∙ sym (get_or_default ys k d false (subst (λ n. k < n) e low))))

-- a table is closed
pub table-closed : (a : Automaton) (there : List Bool) → IsTable a there → IsClosed a
table-closed a there is = record {
  heads = λ s. states_more (IsStateIn a there) (IsState a) state (polarity_at a s) (head_at a s) (is.heads s);
  labels = is.labels;
  negative = λ f it. state Negative f.negative.0 (is.negative f.negative.0 f.positive.0 it);
  positive = λ f it. state Positive f.positive.0 (is.positive f.negative.0 f.positive.0 it);
}
  where
    state : (p : Polarity) (s : ℕ) → IsStateIn a there p s → IsState a p s
    state p s it = record { in_range = is.in_range s it.there; polarity = it.polarity }

-- where the states that were there are as they were, they are there with their polarities
pub state-stays : (a b : Automaton) (there numbers : List Bool) → ((s : ℕ) → get_or there s false ≡ true → (get_or numbers s false ≡ true) × (state_at b s ≡ state_at a s)) → (p : Polarity) (s : ℕ) → IsStateIn a there p s → IsStateIn b numbers p s
state-stays a b there numbers stays p s it =
    let kept = stays s it.there in
    record { there = kept.0; polarity = ap (λ (state : State). state.polarity) kept.1 ∙ it.polarity }

-- one more state
module _ (old_states new_states : Slab State) (old_flows new_flows : TwoWay) (is : IsNumbered (numbered_of old_states old_flows)) (key : ℕ) (state : State) (free : get old_states key ≡ None) (updates : Updates old_states new_states key (Some state)) (grown : IsGrown old_flows new_flows) where
  abbrev was : Numbered
  was = numbered_of old_states old_flows

  abbrev now : Numbered
  now = numbered_of new_states new_flows

  other : (j : ℕ) → get_or was.there j false ≡ true → j ≢ key
  other j it same =
      let e : get_or was.there key false ≡ true = subst (λ k. get_or was.there k false ≡ true) same it in
      let none : is_some (get old_states key) ≡ false = ap is_some free in
      let some : is_some (get old_states key) ≡ true = sym (there-in old_states old_flows key) ∙ e in
      absurd (cc)

  kept : (j : ℕ) → get_or was.there j false ≡ true → (get_or now.there j false ≡ true) × (state_at now.automaton j ≡ state_at was.automaton j)
  kept j it =
      let same : get new_states j ≡ get old_states j = updates.others j (other j it) in (
        there-in new_states new_flows j ∙ (ap is_some same ∙ (sym (there-in old_states old_flows j) ∙ it)),
        state-in new_states new_flows j ∙ (ap state_in same ∙ sym (state-in old_states old_flows j)),
      )

  edges : (n p : ℕ) → HasFlow now.automaton n p ↔ HasFlow was.automaton n p
  edges n p = (
    λ it. (flow-in old_states old_flows n p).1 ((grown.pairs n p).0 ((flow-in new_states new_flows n p).0 it)),
    λ it. (flow-in new_states new_flows n p).1 ((grown.pairs n p).1 ((flow-in old_states old_flows n p).0 it)),
  )

  here : state_at now.automaton key ≡ state
  here = state-in new_states new_flows key ∙ ap state_in updates.changed

  pub inserts : InsertsState was now key state
  inserts = record {
    was_free = there-in old_states old_flows key ∙ ap is_some free;
    there = λ j. (
      λ it.
          elim (cases_eq j key) [
            | inl same ↦ inr same
            | inr differs ↦ inl (there-in old_states old_flows j ∙ (ap is_some (sym (updates.others j differs)) ∙ (sym (there-in new_states new_flows j) ∙ it)))
          ],
      λ it.
          elim it [
            | inl before ↦ (kept j before).0
            | inr same ↦ subst (λ k. get_or now.there k false ≡ true) (sym same) (there-in new_states new_flows key ∙ ap is_some updates.changed)
          ],
    );
    here = here;
    others = λ j it. (kept j it).1;
    flows = edges;
  }

  module _ (states : HasStatesIn (IsStateIn was.automaton was.there) state.polarity state.head) (labels : HasRisingLabels state.head.fields) (low : key < length new_flows.forward) where
    stays : (p : Polarity) (s : ℕ) → IsStateIn was.automaton was.there p s → IsStateIn now.automaton now.there p s
    stays = state-stays was.automaton now.automaton was.there now.there kept

    abbrev IsRight : State → Type 0
    IsRight s = HasStatesIn (IsStateIn now.automaton now.there) s.polarity s.head × HasRisingLabels s.head.fields

    right-old : (s : ℕ) → IsRight (state_at was.automaton s)
    right-old s = (
      states_more (IsStateIn was.automaton was.there) (IsStateIn now.automaton now.there) stays (polarity_at was.automaton s) (head_at was.automaton s) (is.is.heads s),
      is.is.labels s,
    )

    right-at : (s : ℕ) → IsRight (state_at now.automaton s)
    right-at s =
        elim (cases_eq s key) [
          | inl same ↦
              subst (λ k. IsRight (state_at now.automaton k)) (sym same)
              (subst IsRight (sym here)
              (states_more (IsStateIn was.automaton was.there) (IsStateIn now.automaton now.there) stays state.polarity state.head states, labels))
          | inr differs ↦
              let same : state_at now.automaton s ≡ state_at was.automaton s =
              state-in new_states new_flows s ∙ (ap state_in (updates.others s differs) ∙ sym (state-in old_states old_flows s)) in
              subst IsRight (sym same) (right-old s)
        ]

    pub inserted-is : IsNumbered now
    inserted-is = record {
      is = record {
        in_range = there-range new_states new_flows;
        free = free-in new_states new_flows;
        heads = λ s. (right-at s).0;
        labels = λ s. (right-at s).1;
        negative = λ n p it. stays Negative n (is.is.negative n p ((edges n p).0 it));
        positive = λ n p it. stays Positive p (is.is.positive n p ((edges n p).0 it));
      };
      low = λ s it.
          elim ((inserts.there s).0 it) [
            | inl before ↦ grown.longer s (is.low s before)
            | inr same ↦ subst (λ k. k < length new_flows.forward) (sym same) low
          ];
    }

-- edges that change, between states that are there
module _ (states : Slab State) (old_flows new_flows : TwoWay) (is : IsNumbered (numbered_of states old_flows)) (same_length : length new_flows.forward ≡ length old_flows.forward) (from : (n p : ℕ) → HasPair new_flows n p → HasPair old_flows n p ⊎ (IsStateIn (numbered_of states old_flows).automaton (numbered_of states old_flows).there Negative n × IsStateIn (numbered_of states old_flows).automaton (numbered_of states old_flows).there Positive p)) where
  abbrev before : Numbered
  before = numbered_of states old_flows

  abbrev after : Numbered
  after = numbered_of states new_flows

  same-state : (p : Polarity) (s : ℕ) → IsStateIn before.automaton before.there p s → IsStateIn after.automaton after.there p s
  same-state = state-stays before.automaton after.automaton before.there after.there (λ s it. (it, refl))

  ends : (n p : ℕ) → HasFlow after.automaton n p → IsStateIn after.automaton after.there Negative n × IsStateIn after.automaton after.there Positive p
  ends n p it =
      elim (from n p ((flow-in states new_flows n p).0 it)) [
        | inl was_there ↦
            let edge : HasFlow before.automaton n p = (flow-in states old_flows n p).1 was_there in
            (same-state Negative n (is.is.negative n p edge), same-state Positive p (is.is.positive n p edge))
        | inr both ↦ (same-state Negative n both.0, same-state Positive p both.1)
      ]

  pub edges-numbered : IsNumbered after
  edges-numbered = record {
    is = record {
      in_range = is.is.in_range;
      free = is.is.free;
      heads = λ s. states_more (IsStateIn before.automaton before.there) (IsStateIn after.automaton after.there) same-state (polarity_at before.automaton s) (head_at before.automaton s) (is.is.heads s);
      labels = is.is.labels;
      negative = λ n p it. (ends n p it).0;
      positive = λ n p it. (ends n p it).1;
    };
    low = λ s it. subst (λ k. s < k) (sym same_length) (is.low s it);
  }

-- one more edge, or the same edges
module _ (states : Slab State) (old_flows new_flows : TwoWay) (is : IsNumbered (numbered_of states old_flows)) (n p : ℕ) where
  abbrev old_table : Numbered
  old_table = numbered_of states old_flows

  abbrev new_table : Numbered
  new_table = numbered_of states new_flows

  pub edge-added : AddsPair old_flows new_flows n p → (i j : ℕ) → HasFlow new_table.automaton i j ↔ (HasFlow old_table.automaton i j ⊎ ((i ≡ n) × (j ≡ p)))
  edge-added it i j = (
    λ edge.
        elim ((it.pairs i j).0 ((flow-in states new_flows i j).0 edge)) [
          | inl before ↦ inl ((flow-in states old_flows i j).1 before)
          | inr here ↦ inr here
        ],
    λ edge.
        (flow-in states new_flows i j).1 ((it.pairs i j).1 (elim edge [
          | inl before ↦ inl ((flow-in states old_flows i j).0 before)
          | inr here ↦ inr here
        ])),
  )

  pub edge-same : IsSamePairs old_flows new_flows → (i j : ℕ) → HasFlow new_table.automaton i j ↔ HasFlow old_table.automaton i j
  edge-same it i j = (
    λ edge. (flow-in states old_flows i j).1 ((it.pairs i j).0 ((flow-in states new_flows i j).0 edge)),
    λ edge. (flow-in states new_flows i j).1 ((it.pairs i j).1 ((flow-in states old_flows i j).0 edge)),
  )

  pub edge-numbered : {X E : Type 0} → IsStateIn old_table.automaton old_table.there Negative n → IsStateIn old_table.automaton old_table.there Positive p → (r : Result X E) → OnOk r (AddsPair old_flows new_flows n p) → OnErr r (IsSamePairs old_flows new_flows) → IsNumbered new_table
  edge-numbered negative positive (Ok _) ok err =
      edges-numbered states old_flows new_flows is ok.same_length
      (λ i j it.
      elim ((ok.pairs i j).0 it) [
        | inl before ↦ inl before
        | inr here ↦ inr (
          subst (IsStateIn old_table.automaton old_table.there Negative) (sym here.0) negative,
          subst (IsStateIn old_table.automaton old_table.there Positive) (sym here.1) positive,
        )
      ])
  edge-numbered negative positive (Err _) ok err =
      edges-numbered states old_flows new_flows is err.same_length (λ i j it. inl ((err.pairs i j).0 it))

-- a state that gets another head
module _ (states new_states : Slab State) (flows : TwoWay) (is : IsNumbered (numbered_of states flows)) (key : ℕ) (state : State) (h : Head) (there : get_or (numbered_of states flows).there key false ≡ true) (sign : state.polarity ≡ polarity_at (numbered_of states flows).automaton key) (head : state.head ≡ h) (updates : Updates states new_states key (Some state)) (size : length new_states.slots ≡ length states.slots) where
  abbrev first : Numbered
  first = numbered_of states flows

  abbrev second : Numbered
  second = numbered_of new_states flows

  same-there : (j : ℕ) → get_or second.there j false ≡ get_or first.there j false
  same-there j =
      elim (cases_eq j key) [
        | inl same ↦
            subst (λ k. get_or second.there k false ≡ get_or first.there k false) (sym same)
            (there-in new_states flows key ∙ (ap is_some updates.changed ∙ sym there))
        | inr differs ↦ there-in new_states flows j ∙ (ap is_some (updates.others j differs) ∙ sym (there-in states flows j))
      ]

  other-states : (j : ℕ) → j ≢ key → state_at second.automaton j ≡ state_at first.automaton j
  other-states j differs = state-in new_states flows j ∙ (ap state_in (updates.others j differs) ∙ sym (state-in states flows j))

  this-state : state_at second.automaton key ≡ state
  this-state = state-in new_states flows key ∙ ap state_in updates.changed

  same-sign : (j : ℕ) → polarity_at second.automaton j ≡ polarity_at first.automaton j
  same-sign j =
      elim (cases_eq j key) [
        | inl same ↦
            subst (λ k. polarity_at second.automaton k ≡ polarity_at first.automaton k) (sym same)
            (ap (λ (s : State). s.polarity) this-state ∙ sign)
        | inr differs ↦ ap (λ (s : State). s.polarity) (other-states j differs)
      ]

  still : (p : Polarity) (s : ℕ) → IsStateIn first.automaton first.there p s → IsStateIn second.automaton second.there p s
  still p s it = record { there = same-there s ∙ it.there; polarity = same-sign s ∙ it.polarity }

  there-list : second.there ≡ first.there
  there-list = same_lists_at second.there first.there (length-map new_states.slots is_some ∙ (size ∙ sym (length-map states.slots is_some))) same-there

  pub head-sets : SetsHead first second key h
  head-sets = record {
    there = there-list;
    here = this-state ∙ (λ i. record { polarity = sign i; head = head i });
    others = other-states;
    flows = refl;
    size = length-map new_states.slots state_in ∙ (size ∙ sym (length-map states.slots state_in));
    limit = refl;
  }

  module _ (names : HasStatesIn (IsStateIn first.automaton first.there) (polarity_at first.automaton key) h) (labels : HasRisingLabels h.fields) where
    abbrev IsFine : State → Type 0
    IsFine s = HasStatesIn (IsStateIn second.automaton second.there) s.polarity s.head × HasRisingLabels s.head.fields

    fine-key : IsFine (record { polarity = polarity_at first.automaton key; head = h })
    fine-key = (states_more (IsStateIn first.automaton first.there) (IsStateIn second.automaton second.there) still (polarity_at first.automaton key) h names, labels)

    fine : (s : ℕ) → IsFine (state_at second.automaton s)
    fine s =
        elim (cases_eq s key) [
          | inl same ↦
              subst (λ k. IsFine (state_at second.automaton k)) (sym same)
              (subst IsFine (sym (this-state ∙ (λ i. record { polarity = sign i; head = head i }))) fine-key)
          | inr differs ↦
              subst IsFine (sym (other-states s differs))
              (states_more (IsStateIn first.automaton first.there) (IsStateIn second.automaton second.there) still (polarity_at first.automaton s) (head_at first.automaton s) (is.is.heads s), is.is.labels s)
        ]

    pub head-numbered : IsNumbered second
    head-numbered = record {
      is = record {
        in_range = there-range new_states flows;
        free = free-in new_states flows;
        heads = λ s. (fine s).0;
        labels = λ s. (fine s).1;
        negative = λ n p it. still Negative n (is.is.negative n p it);
        positive = λ n p it. still Positive p (is.is.positive n p it);
      };
      low = λ s it. is.low s (sym (same-there s) ∙ it);
    }

-- a state that goes
module _ (states new_states : Slab State) (flows : TwoWay) (is : IsNumbered (numbered_of states flows)) (key : ℕ) (updates : Updates states new_states key None) where
  abbrev full : Numbered
  full = numbered_of states flows

  abbrev less : Numbered
  less = numbered_of new_states flows

  left-there : (j : ℕ) → j ≢ key → get_or less.there j false ≡ get_or full.there j false
  left-there j differs = there-in new_states flows j ∙ (ap is_some (updates.others j differs) ∙ sym (there-in states flows j))

  gone : get_or less.there key false ≡ false
  gone = there-in new_states flows key ∙ ap is_some updates.changed

  left-state : (j : ℕ) → j ≢ key → state_at less.automaton j ≡ state_at full.automaton j
  left-state j differs = state-in new_states flows j ∙ (ap state_in (updates.others j differs) ∙ sym (state-in states flows j))

  pub state-removes : RemovesState full less key
  state-removes = record {
    there = λ j. (
      λ it.
          let other : j ≢ key = λ same. let e : get_or less.there key false ≡ true = subst (λ k. get_or less.there k false ≡ true) same it in let f : get_or less.there key false ≡ false = gone in cc in
          (sym (left-there j other) ∙ it, other),
      λ it. left-there j it.1 ∙ it.0,
    );
    others = left-state;
    flows = refl;
    limit = refl;
  }

  module _ (unnamed : (j : ℕ) → Names full.automaton j key → ⊥) (unlinked : (n p : ℕ) → HasFlow full.automaton n p → (n ≢ key) × (p ≢ key)) where
    stays-there : (p : Polarity) (s : ℕ) → s ≢ key → IsStateIn full.automaton full.there p s → IsStateIn less.automaton less.there p s
    stays-there p s other it = record { there = left-there s other ∙ it.there; polarity = ap (λ (state : State). state.polarity) (left-state s other) ∙ it.polarity }

    heads-left : (s : ℕ) → HasStatesIn (IsStateIn less.automaton less.there) (polarity_at full.automaton s) (head_at full.automaton s)
    heads-left s =
        states_more (Both (IsStateIn full.automaton full.there) (λ j. j ≢ key)) (IsStateIn less.automaton less.there) (λ p j it. stays-there p j it.1 it.0) (polarity_at full.automaton s) (head_at full.automaton s)
        (named-both (IsStateIn full.automaton full.there) (λ j. j ≢ key) (polarity_at full.automaton s) (head_at full.automaton s) (is.is.heads s) (λ j it same. unnamed s (subst (λ k. Names full.automaton s k) same it)))

    abbrev IsWell : State → Type 0
    IsWell s = HasStatesIn (IsStateIn less.automaton less.there) s.polarity s.head × HasRisingLabels s.head.fields

    free-well : IsWell free_state
    free-well = (record { function = tt; fields = tt }, tt)

    well : (s : ℕ) → IsWell (state_at less.automaton s)
    well s =
        elim (cases_eq s key) [
          | inl same ↦ subst (λ k. IsWell (state_at less.automaton k)) (sym same) (subst IsWell (sym (free-in new_states flows key gone)) free-well)
          | inr differs ↦ subst IsWell (sym (left-state s differs)) (heads-left s, is.is.labels s)
        ]

    pub state-gone : IsNumbered less
    state-gone = record {
      is = record {
        in_range = there-range new_states flows;
        free = free-in new_states flows;
        heads = λ s. (well s).0;
        labels = λ s. (well s).1;
        negative = λ n p it. stays-there Negative n (unlinked n p it).0 (is.is.negative n p it);
        positive = λ n p it. stays-there Positive p (unlinked n p it).1 (is.is.positive n p it);
      };
      low = λ s it. is.low s ((state-removes.there s).0 it).0;
    }

-- an edge that goes
module _ (states : Slab State) (old_flows new_flows : TwoWay) (is : IsNumbered (numbered_of states old_flows)) (n p : ℕ) (removes : RemovesPair old_flows new_flows n p) where
  pub flow-removes : RemovesFlow (numbered_of states old_flows) (numbered_of states new_flows) n p
  flow-removes = record {
    states = refl;
    there = refl;
    limit = removes.same_length;
    flows = λ i j. (
      λ edge. let both = (removes.pairs i j).0 ((flow-in states new_flows i j).0 edge) in ((flow-in states old_flows i j).1 both.0, both.1),
      λ edge. (flow-in states new_flows i j).1 ((removes.pairs i j).1 ((flow-in states old_flows i j).0 edge.0, edge.1)),
    );
  }

  pub flow-gone : IsNumbered (numbered_of states new_flows)
  flow-gone = edges-numbered states old_flows new_flows is removes.same_length (λ i j it. inl ((removes.pairs i j).0 it).0)

-- edges that go together
module _ (states : Slab State) (old_flows new_flows : TwoWay) (is : IsNumbered (numbered_of states old_flows)) (gone : List ℕ) (leaves : LeavesPairs gone old_flows new_flows) where
  pub flows-cut : CutsEdges (numbered_of states old_flows) gone (numbered_of states new_flows)
  flows-cut = record {
    states = refl;
    there = refl;
    limit = leaves.same_length;
    flows = λ i j. (
      λ edge. let left = (leaves.pairs i j).0 ((flow-in states new_flows i j).0 edge) in ((flow-in states old_flows i j).1 left.0, left.1, left.2),
      λ edge. (flow-in states new_flows i j).1 ((leaves.pairs i j).1 ((flow-in states old_flows i j).0 edge.0, edge.1, edge.2)),
    );
  }

  pub flows-cut_is : IsNumbered (numbered_of states new_flows)
  flows-cut_is = edges-numbered states old_flows new_flows is leaves.same_length (λ i j it. inl ((leaves.pairs i j).0 it).0)

-- what the pairs of a table lose is what its edges do
module _ (states : Slab State) (flows : TwoWay) (gone : List ℕ) where
  pub cuts-after : (cuts : List (ℕ × List ℕ)) → AreCuts gone (numbered_of states flows).limit (HasFlow (numbered_of states flows).automaton) cuts → AreCuts gone (length flows.forward) (HasPair flows) cuts
  cuts-after cuts are = record {
    low = are.low;
    listed = λ s set it j. (
      λ there. let left = (are.listed s set it j).0 there in ((flow-in states flows s j).0 left.0, left.1),
      λ left. (are.listed s set it j).1 ((flow-in states flows s j).1 left.0, left.1),
    );
    others = λ s j stays none pair. are.others s j stays none ((flow-in states flows s j).1 pair);
  }

  pub cuts-before : (cuts : List (ℕ × List ℕ)) → AreCuts gone (numbered_of states flows).limit (λ p n. HasFlow (numbered_of states flows).automaton n p) cuts → AreCuts gone (length flows.forward) (λ p n. HasPair flows n p) cuts
  cuts-before cuts are = record {
    low = are.low;
    listed = λ s set it j. (
      λ there. let left = (are.listed s set it j).0 there in ((flow-in states flows j s).0 left.0, left.1),
      λ left. (are.listed s set it j).1 ((flow-in states flows j s).1 left.0, left.1),
    );
    others = λ s j stays none pair. are.others s j stays none ((flow-in states flows j s).1 pair);
  }

-- a head that is written
module _ (states : Slab State) (flows : TwoWay) (is : IsNumbered (numbered_of states flows)) (key : ℕ) (old : State) (h : Head) (value : get states key ≡ Some old) where
  abbrev pub headed : Slab State
  headed = with_value states key (record { polarity = old.polarity; head = h })

  written : Updates states headed key (Some (record { polarity = old.polarity; head = h }))
  written = Updates-with_value states key (record { polarity = old.polarity; head = h }) (ap is_some value)

  there_key : get_or (numbered_of states flows).there key false ≡ true
  there_key = there-in states flows key ∙ ap is_some value

  sign_key : old.polarity ≡ polarity_at (numbered_of states flows).automaton key
  sign_key = sym (ap (λ (s : State). s.polarity) (state-in states flows key ∙ ap state_in value))

  same_size : length headed.slots ≡ length states.slots
  same_size = length-set states.slots key (Some (record { polarity = old.polarity; head = h }))

  pub head-written : SetsHead (numbered_of states flows) (numbered_of headed flows) key h
  head-written = head-sets states headed flows is key (record { polarity = old.polarity; head = h }) h there_key sign_key refl written same_size

  pub head-written-is : HasStatesIn (IsStateIn (numbered_of states flows).automaton (numbered_of states flows).there) (polarity_at (numbered_of states flows).automaton key) h → HasRisingLabels h.fields → IsNumbered (numbered_of headed flows)
  head-written-is names labels = head-numbered states headed flows is key (record { polarity = old.polarity; head = h }) h there_key sign_key refl written same_size names labels
