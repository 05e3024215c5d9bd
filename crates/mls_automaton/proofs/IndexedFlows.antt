-- The index of the edges at a state, as states and edges are added.
use Rattle.std.proofs.Common.{◌≡◌, ◌≢◌, ◌↔◌, ◌⊎◌, inl, inr, ℕ, ◌<◌, ◌≤◌, ◌+◌, ◌-◌, Bool, Option, Some, List, [], ◌∷◌, ◌++◌, refl, sym, ap, ◌∙◌, subst, arith, length, get_or, Contains, All, IsTrue}
use Rattle.std.proofs.lemmas.List.{get_or_default, get_or_past, get_or_append_left, get_or-append_right, length-append, length-set, get_or-set_same, get_or-set_other}
use Rattle.std.proofs.Math.ListN.{set}
use Rattle.std.proofs.lemmas.Bool.{cases_eq, cases_lt}
use Rattle.mls_automaton.specs.declared.automaton.Polarity.{Polarity}
use Rattle.mls_automaton.specs.declared.automaton.Polarity.TheVariants.{Positive, Negative}
use Rattle.mls_automaton.specs.declared.automaton.State.{State}
use Rattle.mls_automaton.specs.declared.automaton.FieldSet.{FieldSet}
use Rattle.mls_automaton.specs.declared.automaton.Flow.{Flow}
use Rattle.mls_automaton.specs.Automata.{Automaton, HasFlow, HasTrueFlows, IsPartner, IsState, empty_head, flow, polarity_at, state_at, with_flow, with_state}
use Rattle.mls_automaton.specs.Models.{IsClosed, IsClosedState, IsDeterministic, HasSingleFields, IsSingle, IsSingleState}
use Rattle.mls_automaton.specs.Sets.{Rises}
use Rattle.mls_automaton.specs.Indexed.{IsIndexed}
use Rattle.mls_automaton.proofs.Lists.{Contains-here, Contains-cases}
use Rattle.std.proofs.lemmas.List.Elements.{Contains-append_cases, Contains-append_left, Contains-append_right}

-- the state of a number that is there
abbrev past-default : State
past-default = record { polarity = Positive; head = empty_head }

pub state_at-more : (a : Automaton) (t : State) (s : ℕ) → s < length a.states → state_at (with_state a t) s ≡ state_at a s
state_at-more a t s low = get_or_append_left a.states (t ∷ []) past-default s low

pub IsState-more : (a : Automaton) (t : State) (p : Polarity) (s : ℕ) → IsState a p s → IsState (with_state a t) p s
IsState-more a t p s it =
    let low : s < length a.states = it.in_range in
    let size : length (a.states ++ t ∷ []) ≡ length a.states + 1 = length-append a.states (t ∷ []) in
    record { in_range = omega arith; polarity = ap (λ (x : State). x.polarity) (state_at-more a t s low) ∙ it.polarity }

pub partner-in_range : (a : Automaton) → HasTrueFlows a → (s j : ℕ) → IsPartner a s j → (s < length a.states) × (j < length a.states)
partner-in_range a flows s j (inl it) = ((flows.negative (flow s j) it).in_range, (flows.positive (flow s j) it).in_range)
partner-in_range a flows s j (inr it) = ((flows.positive (flow j s) it).in_range, (flows.negative (flow j s) it).in_range)

-- after a state has been added, with no edge
pub indexed-state : (a : Automaton) (partners : List (List ℕ)) (t : State) → IsIndexed a partners → IsIndexed (with_state a t) (partners ++ [] ∷ [])
indexed-state a partners t it = record {
  one_for_each = length-append partners ([] ∷ []) ∙ ap (λ n. n + 1) it.one_for_each ∙ sym (length-append a.states (t ∷ []));
  rising = λ s low. elim (cases_lt s (length a.states)) [
    | inl less ↦ subst Rises (sym (old s less)) (it.rising s less)
    | inr more ↦ subst Rises (sym (new s more low)) (λ i j less within. absurd (omega arith))
  ];
  members = λ s low j. elim (cases_lt s (length a.states)) [
    | inl less ↦ subst (λ set. Contains set j ↔ IsPartner a s j) (sym (old s less)) (it.members s less j)
    | inr more ↦
        (λ there. none j (subst (λ set. Contains set j) (new s more low) there), λ partner. let r : s < length a.states = (partner-in_range a it.flows s j partner).0 in absurd (omega arith))
  ];
  flows = record { negative = λ f there. IsState-more a t Negative f.negative.0 (it.flows.negative f there); positive = λ f there. IsState-more a t Positive f.positive.0 (it.flows.positive f there) };
}
  where
    none : (j : ℕ) {X : Type 0} → Contains [] j → X
    none j there = let low : there.0 < 0 = there.1 in absurd (omega arith)

    old : (s : ℕ) → s < length a.states → get_or (partners ++ [] ∷ []) s [] ≡ get_or partners s []
    old s less = let same : length partners ≡ length a.states = it.one_for_each in get_or_append_left partners ([] ∷ []) [] s (omega arith)

    new : (s : ℕ) → length a.states ≤ s → s < length (a.states ++ t ∷ []) → get_or (partners ++ [] ∷ []) s [] ≡ []
    new s more low =
        let same : length partners ≡ length a.states = it.one_for_each in
        let size : length (a.states ++ t ∷ []) ≡ length a.states + 1 = length-append a.states (t ∷ []) in
        let at : s ≡ length partners = omega arith in
        rw at (get_or-append_right partners ([] ∷ []) (length partners) (length partners) [] refl (omega arith) ∙ ap (λ n. get_or ([] ∷ []) n []) (let e : length partners - length partners ≡ 0 = omega arith in e))

-- the set of a state, as a list of its own
pub set-partners : (a : Automaton) (partners : List (List ℕ)) (set : List ℕ) (s : ℕ) → IsIndexed a partners → s < length a.states → set ≡ get_or partners s set → (j : ℕ) → Contains set j ↔ IsPartner a s j
set-partners a partners set s it low is j =
    let same : length partners ≡ length a.states = it.one_for_each in
    let e : set ≡ get_or partners s [] = is ∙ get_or_default partners s set [] (omega arith) in
    subst (λ list. Contains list j ↔ IsPartner a s j) (sym e) (it.members s low j)

pub set-rises : (a : Automaton) (partners : List (List ℕ)) (set : List ℕ) (s : ℕ) → IsIndexed a partners → s < length a.states → set ≡ get_or partners s set → Rises set
set-rises a partners set s it low is =
    let same : length partners ≡ length a.states = it.one_for_each in
    let e : set ≡ get_or partners s [] = is ∙ get_or_default partners s set [] (omega arith) in
    subst Rises (sym e) (it.rising s low)

-- an edge from a negative state goes to its partners
pub negative-partner : (a : Automaton) → HasTrueFlows a → (n p : ℕ) → polarity_at a n ≡ Negative → IsPartner a n p → HasFlow a n p
negative-partner a flows n p is (inl it) = it
negative-partner a flows n p is (inr it) = let h : polarity_at a n ≡ Positive = (flows.positive (flow p n) it).polarity in absurd (cc)

-- the edges of the automaton with one more
pub flow-cases : (a : Automaton) (f : Flow) (n p : ℕ) → HasFlow (with_flow a f) n p → HasFlow a n p ⊎ (f ≡ flow n p)
flow-cases a f n p it = elim (Contains-append_cases a.flows (f ∷ []) (flow n p) it) [
  | inl old ↦ inl old
  | inr new ↦ inr (one-member f (flow n p) new)
]
  where
    one-member : (x y : Flow) → Contains (x ∷ []) y → x ≡ y
    one-member x y there = elim (Contains-cases x [] y there) [
      | inl same ↦ same
      | inr none ↦ let low : none.0 < 0 = none.1 in absurd (omega arith)
    ]

-- An edge from n to p is added: these sets have one member more.
module _ (a : Automaton) (partners : List (List ℕ)) (n p : ℕ) (indexed : IsIndexed a partners) (negative : IsState a Negative n) (positive : IsState a Positive p) where
  -- two states of an edge are not one
  unlike : n ≢ p
  unlike e = let same : polarity_at a n ≡ polarity_at a p = ap (polarity_at a) e in let h = negative.polarity in let k = positive.polarity in absurd (cc)

  in_index : (s : ℕ) → s < length a.states → s < length partners
  in_index s low = let same : length partners ≡ length a.states = indexed.one_for_each in omega arith

  -- the sets, where those of n and p are replaced
  module _ (first second : List ℕ) where
    abbrev changed : List (List ℕ)
    changed = set (set partners n first) p second

    changed-first : get_or changed n [] ≡ first
    changed-first = get_or-set_other (set partners n first) p n second [] unlike ∙ get_or-set_same partners n first [] (in_index n negative.in_range)

    changed-second : get_or changed p [] ≡ second
    changed-second = get_or-set_same (set partners n first) p second [] (let low : p < length partners = in_index p positive.in_range in let size : length (set partners n first) ≡ length partners = length-set partners n first in omega arith)

    changed-other : (s : ℕ) → s ≢ n → s ≢ p → get_or changed s [] ≡ get_or partners s []
    changed-other s other another = get_or-set_other (set partners n first) p s second [] another ∙ get_or-set_other partners n s first [] other

  -- a list of sets that has these two at n and p, and the old ones elsewhere
  record IsChanged (sets : List (List ℕ)) (first second : List ℕ) : Type 0 where
    same_length : length sets ≡ length partners
    at_first : get_or sets n [] ≡ first
    at_second : get_or sets p [] ≡ second
    at_others : (s : ℕ) → s ≢ n → s ≢ p → get_or sets s [] ≡ get_or partners s []

  -- it is the index of an automaton where these are the partners
  indexed-by : (sets : List (List ℕ)) (first second : List ℕ) → IsChanged sets first second → (b : Automaton) → length b.states ≡ length a.states → HasTrueFlows b → Rises first → ((j : ℕ) → Contains first j ↔ IsPartner b n j) → Rises second → ((j : ℕ) → Contains second j ↔ IsPartner b p j) → ((s j : ℕ) → s ≢ n → s ≢ p → IsPartner a s j ↔ IsPartner b s j) → IsIndexed b sets
  indexed-by sets first second is b size flows first-rises first-members second-rises second-members others = record {
    one_for_each = is.same_length ∙ indexed.one_for_each ∙ sym size;
    rising = λ s low. elim (cases_eq s n) [
      | inl e ↦ subst Rises (sym (ap (λ i. get_or sets i []) e ∙ is.at_first)) first-rises
      | inr other ↦ elim (cases_eq s p) [
        | inl e ↦ subst Rises (sym (ap (λ i. get_or sets i []) e ∙ is.at_second)) second-rises
        | inr another ↦ subst Rises (sym (is.at_others s other another)) (indexed.rising s (subst (λ k. s < k) size low))
      ]
    ];
    members = λ s low j. elim (cases_eq s n) [
      | inl e ↦ subst (λ i. Contains (get_or sets i []) j ↔ IsPartner b i j) (sym e) (subst (λ set. Contains set j ↔ IsPartner b n j) (sym is.at_first) (first-members j))
      | inr other ↦ elim (cases_eq s p) [
        | inl e ↦ subst (λ i. Contains (get_or sets i []) j ↔ IsPartner b i j) (sym e) (subst (λ set. Contains set j ↔ IsPartner b p j) (sym is.at_second) (second-members j))
        | inr another ↦
            let was : Contains (get_or partners s []) j ↔ IsPartner a s j = indexed.members s (subst (λ k. s < k) size low) j in
            let same : IsPartner a s j ↔ IsPartner b s j = others s j other another in
            subst (λ set. Contains set j ↔ IsPartner b s j) (sym (is.at_others s other another)) (λ it. same.0 (was.0 it), λ it. was.1 (same.1 it))
      ]
    ];
    flows = flows;
  }

  is-changed : (first second : List ℕ) → IsChanged (set (set partners n first) p second) first second
  is-changed first second = record {
    same_length = length-set (set partners n first) p second ∙ length-set partners n first;
    at_first = changed-first first second;
    at_second = changed-second first second;
    at_others = changed-other first second;
  }

  is-undone : (first second again : List ℕ) → IsChanged (set (set (set partners n first) p second) n again) again second
  is-undone first second again = record {
    same_length = length-set (set (set partners n first) p second) n again ∙ (is-changed first second).same_length;
    at_first = get_or-set_same (set (set partners n first) p second) n again [] (let low : n < length partners = in_index n negative.in_range in let size : length (set (set partners n first) p second) ≡ length partners = (is-changed first second).same_length in omega arith);
    at_second = get_or-set_other (set (set partners n first) p second) n p again [] (λ e. unlike (sym e)) ∙ changed-second first second;
    at_others = λ s other another. get_or-set_other (set (set partners n first) p second) n s again [] other ∙ changed-other first second s other another;
  }

  -- the automaton with the edge
  abbrev b : Automaton
  b = with_flow a (flow n p)

  partner-more : (s j : ℕ) → IsPartner a s j → IsPartner b s j
  partner-more s j (inl it) = inl (Contains-append_left a.flows (flow n p ∷ []) (flow s j) it)
  partner-more s j (inr it) = inr (Contains-append_left a.flows (flow n p ∷ []) (flow j s) it)

  new-flow : HasFlow b n p
  new-flow = Contains-append_right a.flows (flow n p ∷ []) (flow n p) (Contains-here (flow n p) [])

  partner-cases : (s j : ℕ) → IsPartner b s j → IsPartner a s j ⊎ (((s ≡ n) × (j ≡ p)) ⊎ ((s ≡ p) × (j ≡ n)))
  partner-cases s j (inl it) = elim (flow-cases a (flow n p) s j it) [
    | inl old ↦ inl (inl old)
    | inr e ↦ inr (inl (ap (λ (f : Flow). f.negative.0) (sym e), ap (λ (f : Flow). f.positive.0) (sym e)))
  ]
  partner-cases s j (inr it) = elim (flow-cases a (flow n p) j s it) [
    | inl old ↦ inl (inr old)
    | inr e ↦ inr (inr (ap (λ (f : Flow). f.positive.0) (sym e), ap (λ (f : Flow). f.negative.0) (sym e)))
  ]

  true-flows : HasTrueFlows b
  true-flows = record {
    negative = λ f it. elim (Contains-append_cases a.flows (flow n p ∷ []) f it) [
      | inl old ↦ let it = indexed.flows.negative f old in record { in_range = it.in_range; polarity = it.polarity }
      | inr new ↦ elim (Contains-cases (flow n p) [] f new) [
        | inl e ↦ subst (λ (g : Flow). IsState (with_flow a (flow n p)) Negative g.negative.0) e (record { in_range = negative.in_range; polarity = negative.polarity })
        | inr none ↦ let low : none.0 < 0 = none.1 in absurd (omega arith)
      ]
    ];
    positive = λ f it. elim (Contains-append_cases a.flows (flow n p ∷ []) f it) [
      | inl old ↦ let it = indexed.flows.positive f old in record { in_range = it.in_range; polarity = it.polarity }
      | inr new ↦ elim (Contains-cases (flow n p) [] f new) [
        | inl e ↦ subst (λ (g : Flow). IsState (with_flow a (flow n p)) Positive g.positive.0) e (record { in_range = positive.in_range; polarity = positive.polarity })
        | inr none ↦ let low : none.0 < 0 = none.1 in absurd (omega arith)
      ]
    ];
  }

  old-partners : (s : ℕ) (old : List ℕ) → s < length a.states → old ≡ get_or partners s old → (j : ℕ) → Contains old j ↔ IsPartner a s j
  old-partners s old low is j = set-partners a partners old s indexed low is j

  -- the set of p is read after that of n has been replaced
  second-read : (first old : List ℕ) → old ≡ get_or (set partners n first) p old → old ≡ get_or partners p old
  second-read first old is = is ∙ get_or-set_other partners n p first old (λ e. unlike (sym e))

  pub undone-read : (first second read : List ℕ) → read ≡ get_or (set (set partners n first) p second) n read → read ≡ first
  undone-read first second read is =
      let size : length (set (set partners n first) p second) ≡ length partners = (is-changed first second).same_length in
      let low : n < length partners = in_index n negative.in_range in
      is ∙ get_or_default (set (set partners n first) p second) n read [] (omega arith) ∙ changed-first first second

  pub indexed-flow : (first second old another : List ℕ) (flows : List Flow) → flows ≡ a.flows ++ flow n p ∷ [] → old ≡ get_or partners n old → another ≡ get_or (set partners n first) p another → Rises first → ((j : ℕ) → Contains first j ↔ (j ≡ p) ⊎ Contains old j) → Rises second → ((j : ℕ) → Contains second j ↔ (j ≡ n) ⊎ Contains another j) → IsIndexed (record { states = a.states; flows = flows }) (set (set partners n first) p second)
  indexed-flow first second old another flows e is-old is-another first-rises first-members second-rises second-members =
      subst (λ (fs : List Flow). IsIndexed (record { states = a.states; flows = fs }) (set (set partners n first) p second)) (sym e)
      (indexed-by (set (set partners n first) p second) first second (is-changed first second) b refl true-flows first-rises (λ j. (first-to j, first-from j)) second-rises (λ j. (second-to j, second-from j)) others)
    where
      first-to : (j : ℕ) → Contains first j → IsPartner (with_flow a (flow n p)) n j
      first-to j it = elim ((first-members j).0 it) [
        | inl same ↦ inl (subst (λ i. HasFlow (with_flow a (flow n p)) n i) (sym same) new-flow)
        | inr was ↦ partner-more n j ((old-partners n old negative.in_range is-old j).0 was)
      ]

      first-from : (j : ℕ) → IsPartner (with_flow a (flow n p)) n j → Contains first j
      first-from j it = elim (partner-cases n j it) [
        | inl was ↦ (first-members j).1 (inr ((old-partners n old negative.in_range is-old j).1 was))
        | inr (inl new) ↦ (first-members j).1 (inl new.1)
        | inr (inr turned) ↦ absurd (unlike turned.0)
      ]

      second-to : (j : ℕ) → Contains second j → IsPartner (with_flow a (flow n p)) p j
      second-to j it = elim ((second-members j).0 it) [
        | inl same ↦ inr (subst (λ i. HasFlow (with_flow a (flow n p)) i p) (sym same) new-flow)
        | inr was ↦ partner-more p j ((old-partners p another positive.in_range (second-read first another is-another) j).0 was)
      ]

      second-from : (j : ℕ) → IsPartner (with_flow a (flow n p)) p j → Contains second j
      second-from j it = elim (partner-cases p j it) [
        | inl was ↦ (second-members j).1 (inr ((old-partners p another positive.in_range (second-read first another is-another) j).1 was))
        | inr (inl new) ↦ absurd (unlike (sym new.0))
        | inr (inr turned) ↦ (second-members j).1 (inl turned.1)
      ]

      others : (s j : ℕ) → s ≢ n → s ≢ p → IsPartner a s j ↔ IsPartner (with_flow a (flow n p)) s j
      others s j other another = (
        partner-more s j,
        λ it. elim (partner-cases s j it) [
          | inl was ↦ was
          | inr (inl new) ↦ absurd (other new.0)
          | inr (inr turned) ↦ absurd (another turned.0)
        ],
      )

  -- where the edge was not there, and p is taken out of the set of n again, the sets are as they were
  pub indexed-undone : (first second old another again : List ℕ) (flows : List Flow) → flows ≡ a.flows → (HasFlow a n p → ⊥) → old ≡ get_or partners n old → another ≡ get_or (set partners n first) p another → second ≡ another → ((j : ℕ) → Contains first j ↔ (j ≡ p) ⊎ Contains old j) → Rises again → ((j : ℕ) → Contains again j ↔ Contains first j × (j ≢ p)) → IsIndexed (record { states = a.states; flows = flows }) (set (set (set partners n first) p second) n again)
  indexed-undone first second old another again flows e absent is-old is-another same first-members again-rises again-members =
      subst (λ (fs : List Flow). IsIndexed (record { states = a.states; flows = fs }) (set (set (set partners n first) p second) n again)) (sym e)
      (indexed-by (set (set (set partners n first) p second) n again) again second (is-undone first second again) a refl indexed.flows again-rises (λ j. (to j, from j))
      (subst Rises (sym same) (set-rises a partners another p indexed positive.in_range (second-read first another is-another)))
      (λ j. subst (λ set. Contains set j ↔ IsPartner a p j) (sym same) (old-partners p another positive.in_range (second-read first another is-another) j))
      (λ s j other more. (λ it. it, λ it. it)))
    where
      to : (j : ℕ) → Contains again j → IsPartner a n j
      to j it = let both = (again-members j).0 it in elim ((first-members j).0 both.0) [
        | inl new ↦ absurd (both.1 new)
        | inr was ↦ (old-partners n old negative.in_range is-old j).0 was
      ]

      from : (j : ℕ) → IsPartner a n j → Contains again j
      from j it =
          (again-members j).1 ((first-members j).1 (inr ((old-partners n old negative.in_range is-old j).1 it)), λ new. absent (subst (λ i. HasFlow a n i) new (negative-partner a indexed.flows n j negative.polarity it)))

-- closed and deterministic automata, by their states
pub closed-states : (a : Automaton) → HasTrueFlows a → All (IsClosedState a) a.states → IsClosed a
closed-states a flows all = record { heads = λ s. (each s).0; labels = λ s. (each s).1; negative = flows.negative; positive = flows.positive }
  where
    each : (s : ℕ) → IsClosedState a (state_at a s)
    each s = elim (cases_lt s (length a.states)) [
      | inl low ↦ all s past-default low
      | inr high ↦ subst (IsClosedState a) (sym (get_or_past a.states s past-default high)) (record { function = tt; fields = tt }, tt)
    ]

pub states-closed : (a : Automaton) → IsClosed a → All (IsClosedState a) a.states
states-closed a closed = λ k d low. subst (IsClosedState a) (get_or_default a.states k past-default d low) (closed.heads k, closed.labels k)

pub single-states : (a : Automaton) → All IsSingleState a.states → IsDeterministic a
single-states a all s = elim (cases_lt s (length a.states)) [
  | inl low ↦ all s past-default low
  | inr high ↦ subst IsSingleState (sym (get_or_past a.states s past-default high)) (tt, tt)
]

pub states-single : (a : Automaton) → IsDeterministic a → All IsSingleState a.states
states-single a single = λ k d low. subst IsSingleState (get_or_default a.states k past-default d low) (single k)

pub single-length : (set : List ℕ) → length set ≡ 1 → IsSingle set
single-length [] e = absurd (omega arith)
single-length (s ∷ []) e = (s, refl)
single-length (s ∷ t ∷ rest) e = absurd (omega arith)

pub length-single : (set : List ℕ) → IsSingle set → length set ≡ 1
length-single set (s, e) = ap length e

pub single-fields : (fields : List FieldSet) → All (λ field. length field.set ≡ 1) fields → All (λ field. IsSingle field.set) fields
single-fields fields all k d low = single-length (get_or fields k d).set (all k d low)

pub fields-single : (fields : List FieldSet) → All (λ field. IsSingle field.set) fields → All (λ field. length field.set ≡ 1) fields
fields-single fields all k d low = length-single (get_or fields k d).set (all k d low)

pub one-each : (fields other : List FieldSet) (o : Option (List FieldSet)) (b : Bool) → o ≡ Some fields → other ≡ fields → IsTrue b ↔ All (λ (field : FieldSet). length field.set ≡ 1) other → IsTrue b ↔ HasSingleFields o
one-each fields other o b is same it =
    rw is (λ h. single-fields fields (subst (λ (xs : List FieldSet). All (λ (field : FieldSet). length field.set ≡ 1) xs) same (it.0 h)), λ h. it.1 (subst (λ (xs : List FieldSet). All (λ (field : FieldSet). length field.set ≡ 1) xs) (sym same) (fields-single fields h)))

-- the edges where one is added that is there, and where it is not
pub flows-there : (a : Automaton) (n p : ℕ) → HasFlow a n p → (m q : ℕ) → HasFlow a m q ↔ HasFlow a m q ⊎ ((m ≡ n) × (q ≡ p))
flows-there a n p it m q = (
  λ h. inl h,
  λ h. elim h [
    | inl old ↦ old
    | inr new ↦ subst (λ i. HasFlow a i q) (sym new.0) (subst (λ j. HasFlow a n j) (sym new.1) it)
  ],
)

pub flows-added : (a : Automaton) (n p : ℕ) (flows : List Flow) → flows ≡ a.flows ++ flow n p ∷ [] → (m q : ℕ) → Contains flows (flow m q) ↔ HasFlow a m q ⊎ ((m ≡ n) × (q ≡ p))
flows-added a n p flows e m q = rw e (
  λ it. elim (flow-cases a (flow n p) m q it) [
    | inl old ↦ inl old
    | inr same ↦ inr (ap (λ (f : Flow). f.negative.0) (sym same), ap (λ (f : Flow). f.positive.0) (sym same))
  ],
  λ it. elim it [
    | inl old ↦ Contains-append_left a.flows (flow n p ∷ []) (flow m q) old
    | inr new ↦ subst (λ i. Contains (a.flows ++ flow n p ∷ []) (flow i q)) (sym new.0) (subst (λ j. Contains (a.flows ++ flow n p ∷ []) (flow n j)) (sym new.1) (Contains-append_right a.flows (flow n p ∷ []) (flow n p) (Contains-here (flow n p) [])))
  ],
)

-- a state with another head has the same polarity
pub polarity-set : (a : Automaton) (s : ℕ) (state : State) → polarity_at a s ≡ state.polarity → (j : ℕ) → polarity_at (record { states = set a.states s state; flows = a.flows }) j ≡ polarity_at a j
polarity-set a s state same j = go (cases_eq j s) (cases_lt s (length a.states))
  where
    at : (s < length a.states) → get_or (set a.states s state) s past-default ≡ state
    at low = get_or-set_same a.states s state past-default low

    go : (j ≡ s) ⊎ (j ≢ s) → (s < length a.states) ⊎ (length a.states ≤ s) → (get_or (set a.states s state) j past-default).polarity ≡ polarity_at a j
    go (inl is) (inl low) = ap (λ k. (get_or (set a.states s state) k past-default).polarity) is ∙ (ap (λ (x : State). x.polarity) (at low) ∙ (sym same ∙ ap (polarity_at a) (sym is)))
    go (inl is) (inr high) =
        let size : length (set a.states s state) ≡ length a.states = length-set a.states s state in
        ap (λ (x : State). x.polarity) (get_or_past (set a.states s state) j past-default (omega arith) ∙ sym (get_or_past a.states j past-default (omega arith)))
    go (inr apart) _ = ap (λ (x : State). x.polarity) (get_or-set_other a.states s j state past-default apart)

-- after heads have changed
pub indexed-same : (a b : Automaton) (partners : List (List ℕ)) → b.flows ≡ a.flows → length b.states ≡ length a.states → ((j : ℕ) → polarity_at b j ≡ polarity_at a j) → IsIndexed a partners → IsIndexed b partners
indexed-same a b partners flows size polarity it = record {
  one_for_each = it.one_for_each ∙ sym size;
  rising = λ s low. it.rising s (omega arith);
  members = λ s low j. (
    λ there. elim ((it.members s (omega arith) j).0 there) [ inl edge ↦ inl (to s j edge) | inr edge ↦ inr (to j s edge) ],
    λ partner. (it.members s (omega arith) j).1 (elim partner [ inl edge ↦ inl (from s j edge) | inr edge ↦ inr (from j s edge) ]),
  );
  flows = record {
    negative = λ f there. state Negative f.negative.0 (it.flows.negative f (subst (λ (flows : List Flow). Contains flows f) flows there));
    positive = λ f there. state Positive f.positive.0 (it.flows.positive f (subst (λ (flows : List Flow). Contains flows f) flows there));
  };
}
  where
    to : (n p : ℕ) → HasFlow a n p → HasFlow b n p
    to n p edge = subst (λ (flows : List Flow). Contains flows (flow n p)) (sym flows) edge

    from : (n p : ℕ) → HasFlow b n p → HasFlow a n p
    from n p edge = subst (λ (flows : List Flow). Contains flows (flow n p)) flows edge

    state : (p : Polarity) (s : ℕ) → IsState a p s → IsState b p s
    state p s is = let low : s < length a.states = is.in_range in record { in_range = omega arith; polarity = polarity s ∙ is.polarity }
