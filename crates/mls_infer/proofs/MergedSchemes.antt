-- Every scheme has a merged one, in which each binder has one state.
--     combined_head     two heads have a combined one
--     met_exists        so there is a state for two
--     env_merged        and one entry for the entries of each binder
--     merged_exists     so there is a merged scheme
--     all_merged        and one for each of several
--     merged_alike      merged schemes have the same types
use Rattle.std.proofs.Common.{◌≡◌, ◌≢◌, ◌⊎◌, inl, inr, ℕ, zero, suc, ◌+◌, ◌<◌, ◌≤◌, Bool, true, false, cond, List, [], ◌∷◌, ◌++◌, map, length, get_or, refl}
use Rattle.std.proofs.Common.{sym, ap, ◌∙◌, subst, arith, Contains, Some, None}
use Rattle.std.specs.Prelude.{Option, option_map, filter, ◌==◌, ◌||◌}
use Rattle.std.specs.Ordering.{nat_cmp, eq_by_cmp}
use Rattle.std.specs.declared.cmp.Ordering.{Ordering}
use Rattle.std.specs.declared.cmp.Ordering.TheVariants.{Less, Equal, Greater}
use Rattle.std.specs.Cmp.{unsigned_tied}
use Rattle.std.specs.Cmp.Lexicographic.{slice_cmp}
use Rattle.std.proofs.lemmas.Bool.{cases_eq, cases_lt}
use Rattle.std.proofs.lemmas.Bool.Decides.{eqb_tells}
use Rattle.std.proofs.lemmas.List.{get_or_default}
use Rattle.std.proofs.lemmas.List.Elements.{Contains-append_cases, Contains-append_left, Contains-append_right, Contains-get_or}
use Rattle.mls_automaton.specs.declared.automaton.Polarity.{Polarity}
use Rattle.mls_automaton.specs.declared.automaton.Polarity.TheVariants.{Negative}
use Rattle.mls_automaton.specs.declared.automaton.FieldSet.{FieldSet}
use Rattle.mls_automaton.specs.declared.automaton.Head.{Head}
use Rattle.mls_automaton.specs.declared.automaton.Flow.{Flow}
use Rattle.mls_automaton.specs.declared.scheme.EnvEntry.{EnvEntry}
use Rattle.mls_automaton.specs.declared.scheme.Scheme.{Scheme}
use Rattle.mls_automaton.specs.Automata.{Automaton, IsState, flow, head_at}
use Rattle.mls_automaton.specs.Environments.{BindersRise}
use Rattle.mls_automaton.specs.Heads.{AreRising, IsSameOption, IsSameParts, IsSameSet, combined_functions, combined_records, combined_two, parts_of, set_at}
use Rattle.mls_automaton.specs.Models.{HasRisingLabels, IsClosed}
use Rattle.mls_automaton.specs.steps.Combining.{IsJoined, IsMerging, IsSameRecord, with_one}
use Rattle.mls_automaton.proofs.JoinedFields.{equal-labels, greater-less, merge-both, merge-first, merge-second, merging-begun, merging-over, same-function}
use Rattle.mls_automaton.proofs.JoinedFields.{same-set}
use Rattle.mls_automaton.proofs.Lists.{Contains-cases, Contains-filter, Contains-filtered, Contains-here, Contains-later, Contains-map, Contains-map_back}
use Rattle.mls_automaton.proofs.Lists.{passes-filtered}
use Rattle.mls_infer.specs.Constraints.{HasStates, id, negative, size, states_of}
use Rattle.mls_infer.specs.Merges.{AreAlike, AreMergedSchemes, AreNegative, IsMergedScheme, IsMet, Merges}
use Rattle.mls_infer.proofs.ConstraintRows.{nothing_in}
use Rattle.mls_infer.proofs.Merges.{merges_append, merges_members, merges_met, merges_refl, merges_trans, merges_types}
use Rattle.mls_infer.proofs.OneState.{scheme_states}
use Rattle.mls_infer.proofs.SideBySide.{AllHaveStates}
use Rattle.mls_infer.proofs.Solvable.{merged_scheme}

-- Two records are put together, field by field.
module _ (p : Polarity) (first second : List FieldSet) (rising : AreRising first) (rising' : AreRising second) where
  abbrev no_field : FieldSet
  no_field = record { label = []; set = [] }

  abbrev Step : ℕ → ℕ → Type 0
  Step i j = (i' j' : ℕ) × (new : List FieldSet) × IsMerging p first second i' j' new × (i + j < i' + j')

  module _ (i j : ℕ) (both : List FieldSet) (is : IsMerging p first second i j both) where
    abbrev x : FieldSet
    x = get_or first i no_field

    abbrev y : FieldSet
    y = get_or second j no_field

    one_step : i < length first → ((e : FieldSet) → j < length second → slice_cmp nat_cmp x.label (get_or second j e).label ≡ Less) → Step i j
    one_step low less =
        let new : List FieldSet = with_one p both x in
        (i + 1, j, new, merge-first p first second rising rising' i j both is no_field new low refl less, omega arith)

    other_step : j < length second → ((e : FieldSet) → i < length first → slice_cmp nat_cmp y.label (get_or first i e).label ≡ Less) → Step i j
    other_step low less =
        let new : List FieldSet = with_one p both y in
        (i, j + 1, new, merge-second p first second rising rising' i j both is no_field new low refl less, omega arith)

    abbrev z : FieldSet
    z = record { label = x.label; set = x.set ++ y.set }

    both_step : i < length first → j < length second → y.label ≡ x.label → Step i j
    both_step low low' same = (
      i + 1,
      j + 1,
      both ++ z ∷ [],
      merge-both p first second rising rising' i j both is no_field (both ++ z ∷ []) z low low' same refl
          (record { label = refl; set = same-set (x.set ++ y.set) }),
      omega arith,
    )

    by_order : i < length first → j < length second → (o : Ordering) → slice_cmp nat_cmp x.label y.label ≡ o → Step i j
    by_order low low' Less e =
        one_step low
        (λ d there. subst (λ (f : FieldSet). slice_cmp nat_cmp x.label f.label ≡ Less) (get_or_default second j no_field d low') e)
    by_order low low' Equal e = both_step low low' (equal-labels x.label y.label e)
    by_order low low' Greater e =
        let less : slice_cmp nat_cmp y.label x.label ≡ Less = greater-less x.label y.label e in
        other_step low'
        (λ d there. subst (λ (f : FieldSet). slice_cmp nat_cmp y.label f.label ≡ Less) (get_or_default first i no_field d low) less)

    next_step : (i < length first) ⊎ (length first ≤ i) → (j < length second) ⊎ (length second ≤ j) → ((length first ≤ i) × (length second ≤ j)) ⊎ Step i j
    next_step (inl low) (inl low') = inr (by_order low low' (slice_cmp nat_cmp x.label y.label) refl)
    next_step (inl low) (inr over) = inr (one_step low (λ e there. absurd (omega arith)))
    next_step (inr over) (inl low) = inr (other_step low (λ e there. absurd (omega arith)))
    next_step (inr over) (inr over') = inl (over, over')

  go_on : (n i j : ℕ) (both : List FieldSet) → IsMerging p first second i j both → length first + length second ≤ n + (i + j)
      → (new : List FieldSet) × IsJoined p first second new
  go_on zero i j both is enough =
      let low : i ≤ length first = is.first_there in
      let low' : j ≤ length second = is.second_there in
      (both, merging-over p first second i j both is (omega arith) (omega arith))
  go_on (suc n) i j both is enough =
      elim (next_step i j both is (cases_lt i (length first)) (cases_lt j (length second))) [
        | inl over ↦ (both, merging-over p first second i j both is over.0 over.1)
        | inr next ↦ let more : i + j < next.0 + next.1 = next.4 in go_on n next.0 next.1 next.2 next.3 (omega arith)
      ]

  joined_exists : (new : List FieldSet) × IsJoined p first second new
  joined_exists = go_on (length first + length second) 0 0 [] (merging-begun p first second) (omega arith)

field_self : (o : Option (List ℕ)) → IsSameOption IsSameSet o o
field_self None = tt
field_self (Some set) = same-set set

record_self : (o : Option (List ℕ → Option (List ℕ))) → IsSameRecord o o
record_self None = tt
record_self (Some fields) = λ label. field_self (fields label)

records_exist : (p : Polarity) (o o' : Option (List FieldSet)) → HasRisingLabels o → HasRisingLabels o'
    → (both : Option (List FieldSet)) × HasRisingLabels both
    × IsSameRecord (option_map set_at both) (combined_records p (option_map set_at o) (option_map set_at o'))
records_exist p None o' rising rising' = (o', rising', record_self (option_map set_at o'))
records_exist p (Some fields) None rising rising' = (Some fields, rising, λ label. field_self (set_at fields label))
records_exist p (Some fields) (Some others) rising rising' = let it = joined_exists p fields others rising rising' in (Some it.0, it.1.rising, it.1.value)

-- a head that has what two have together
pub combined_head : (p : Polarity) (h k : Head) → HasRisingLabels h.fields → HasRisingLabels k.fields
    → (head : Head) × HasRisingLabels head.fields × IsSameParts (parts_of head) (combined_two p (parts_of h) (parts_of k))
combined_head p h k rising rising' =
    let fields = records_exist p h.fields k.fields rising rising' in (
      record { boolean = h.boolean || k.boolean; integer = h.integer || k.integer; function = combined_functions h.function k.function; fields = fields.0 },
      fields.1,
      record { boolean = refl; integer = refl; function = same-function (combined_functions h.function k.function); fields = fields.2 },
    )

-- The edges of a state, once more at a new one.
module _ (n k : ℕ) (flows : List Flow) where
  abbrev is_at : Flow → Bool
  is_at f = f.negative.0 == k

  abbrev at_new : Flow → Flow
  at_new f = flow n f.positive.0

  abbrev copied : List Flow
  copied = map at_new (filter is_at flows)

  copied_in : (p : ℕ) → Contains flows (flow k p) → Contains copied (flow n p)
  copied_in p it = Contains-map at_new (filter is_at flows) (flow k p) (Contains-filter is_at flows (flow k p) it (go (eqb_tells k k)))
    where
      go : (((k == k) ≡ true) × (k ≡ k)) ⊎ (((k == k) ≡ false) × (k ≢ k)) → (k == k) ≡ true
      go (inl same) = same.0
      go (inr other) = absurd (other.1 refl)

  copied_back : (s p : ℕ) → Contains copied (flow s p) → (s ≡ n) × Contains flows (flow k p)
  copied_back s p it =
      let found = Contains-map_back at_new (filter is_at flows) (flow s p) it in
      let f : Flow = found.0 in
      let there : Contains flows f = Contains-filtered is_at flows f found.1 in
      let test : (f.negative.0 == k) ≡ true = passes-filtered is_at flows f found.1 in
      let ends : f.positive.0 ≡ p = ap (λ (f : Flow). f.positive.0) found.2 in
      let starts : f.negative.0 ≡ k = go f.negative.0 test (eqb_tells f.negative.0 k) in
      let own : Contains flows (flow f.negative.0 p) = subst (λ j. Contains flows (flow f.negative.0 j)) ends there in
      (sym (ap (λ (f : Flow). f.negative.0) found.2), subst (λ j. Contains flows (flow j p)) starts own)
    where
      go : (m : ℕ) → (m == k) ≡ true → (((m == k) ≡ true) × (m ≡ k)) ⊎ (((m == k) ≡ false) × (m ≢ k)) → m ≡ k
      go m test (inl same) = same.1
      go m test (inr other) = let wrong : (m == k) ≡ false = other.0 in absurd (cc)

-- a new state for two
pub met_exists : (a : Automaton) → IsClosed a → (first second : ℕ) → (b : Automaton) × IsMet first second (size a) a b
met_exists a closed first second =
    let n : ℕ = size a in
    let head = combined_head Negative (head_at a first) (head_at a second) (closed.labels first) (closed.labels second) in
    let one : List Flow = copied n first a.flows in
    let other : List Flow = copied n second a.flows in (
      record { states = a.states ++ negative head.0 ∷ []; flows = a.flows ++ (one ++ other) },
      record {
        is_last = refl;
        adds = record {
          state = negative head.0;
          states = refl;
          polarity = refl;
          head = head.2;
          labels = head.1;
          flows = λ s p. (
            λ it. elim (Contains-append_cases a.flows (one ++ other) (flow s p) it) [
              | inl old ↦ inl old
              | inr new ↦ elim (Contains-append_cases one other (flow s p) new) [
                | inl here ↦ let found = copied_back n first a.flows s p here in inr (found.0, inl found.1)
                | inr here ↦ let found = copied_back n second a.flows s p here in inr (found.0, inr found.1)
              ]
            ],
            λ it. elim it [
              | inl old ↦ Contains-append_left a.flows (one ++ other) (flow s p) old
              | inr new ↦ Contains-append_right a.flows (one ++ other) (flow s p) (elim new.1 [
                | inl here ↦ Contains-append_left one other (flow s p) (subst (λ k. Contains one (flow k p)) (sym new.0) (copied_in n first a.flows p here))
                | inr here ↦ Contains-append_right one other (flow s p) (subst (λ k. Contains other (flow k p)) (sym new.0) (copied_in n second a.flows p here))
              ])
            ],
          );
        };
      },
    )

-- the states of a binder, entry by entry
abbrev number_in : EnvEntry → ℕ
number_in entry = entry.state.0

module _ (x : ℕ) (e : EnvEntry) (rest : List EnvEntry) where
  abbrev others : List EnvEntry
  others = filter (λ (entry : EnvEntry). eq_by_cmp nat_cmp entry.binder x) rest

  states_same : e.binder ≡ x → states_of x (e ∷ rest) ≡ e.state.0 ∷ states_of x rest
  states_same same = go (eqb_tells e.binder x)
    where
      go : (((e.binder == x) ≡ true) × (e.binder ≡ x)) ⊎ (((e.binder == x) ≡ false) × (e.binder ≢ x)) → states_of x (e ∷ rest) ≡ e.state.0 ∷ states_of x rest
      go (inl it) = let test : eq_by_cmp nat_cmp e.binder x ≡ true = unsigned_tied e.binder x ∙ it.0 in λ k. map number_in (cond (test k) (e ∷ others) others)
      go (inr it) = absurd (it.1 same)

  states_other : e.binder ≢ x → states_of x (e ∷ rest) ≡ states_of x rest
  states_other other = go (eqb_tells e.binder x)
    where
      go : (((e.binder == x) ≡ true) × (e.binder ≡ x)) ⊎ (((e.binder == x) ≡ false) × (e.binder ≢ x)) → states_of x (e ∷ rest) ≡ states_of x rest
      go (inl it) = absurd (other it.1)
      go (inr it) = let test : eq_by_cmp nat_cmp e.binder x ≡ false = unsigned_tied e.binder x ∙ it.0 in λ k. map number_in (cond (test k) (e ∷ others) others)

-- a binder is below those of all entries
abbrev pub IsBelowAll : ℕ → List EnvEntry → Type 0
IsBelowAll x env = (d : EnvEntry) → Contains env d → x < d.binder

abbrev pub Rises : List EnvEntry → Type 0
Rises [] = Unit {0}
Rises (e ∷ rest) = IsBelowAll e.binder rest × Rises rest

below_more : (x : ℕ) (e : EnvEntry) (rest : List EnvEntry) → x < e.binder → IsBelowAll x rest → IsBelowAll x (e ∷ rest)
below_more x e rest less below d it = elim (Contains-cases e rest d it) [
  | inl same ↦ subst (λ (d : EnvEntry). x < d.binder) same less
  | inr later ↦ below d later
]

below_rest : (x : ℕ) (e : EnvEntry) (rest : List EnvEntry) → IsBelowAll x (e ∷ rest) → IsBelowAll x rest
below_rest x e rest below d it = below d (Contains-later e rest d it)

rises_binders : (env : List EnvEntry) → Rises env → BindersRise env
rises_binders [] rises i j d less low = absurd (omega arith)
rises_binders (e ∷ rest) rises i zero d less low = absurd (omega arith)
rises_binders (e ∷ rest) rises zero (suc j) d less low = rises.0 (get_or rest j d) (Contains-get_or rest j d (omega arith))
rises_binders (e ∷ rest) rises (suc i) (suc j) d less low = rises_binders rest rises.1 i j d (omega arith) (omega arith)

negative_more : (a : Automaton) (e : EnvEntry) (rest : List EnvEntry) → IsState a Negative e.state.0 → AreNegative a rest → AreNegative a (e ∷ rest)
negative_more a e rest is are d it = elim (Contains-cases e rest d it) [
  | inl same ↦ subst (λ (d : EnvEntry). IsState a Negative d.state.0) same is
  | inr later ↦ are d later
]

negative_rest : (a : Automaton) (e : EnvEntry) (rest : List EnvEntry) → AreNegative a (e ∷ rest) → AreNegative a rest
negative_rest a e rest are d it = are d (Contains-later e rest d it)

none_negative : (a : Automaton) → AreNegative a []
none_negative a d it = absurd (nothing_in d it)

swapped : (d e : EnvEntry) (rest : List EnvEntry) (x : EnvEntry) → Contains (d ∷ e ∷ rest) x → Contains (e ∷ d ∷ rest) x
swapped d e rest x it = elim (Contains-cases d (e ∷ rest) x it) [
  | inl same ↦ subst (Contains (e ∷ d ∷ rest)) same (Contains-later e (d ∷ rest) d (Contains-here d rest))
  | inr later ↦ elim (Contains-cases e rest x later) [
    | inl same ↦ subst (Contains (e ∷ d ∷ rest)) same (Contains-here e (d ∷ rest))
    | inr last ↦ Contains-later e (d ∷ rest) x (Contains-later d rest x last)
  ]
]

-- one more entry is put among entries whose binders rise
pub record IsInserted (a : Automaton) (e : EnvEntry) (env : List EnvEntry) (b : Automaton) (new : List EnvEntry) : Type 0 where
  pub merges : Merges a (e ∷ env) b new
  pub rises : Rises new
  pub below : (x : ℕ) → x < e.binder → IsBelowAll x env → IsBelowAll x new
  pub one : (x : ℕ) → length (states_of x (e ∷ env)) ≤ 1 → states_of x new ≡ states_of x (e ∷ env)

module _ (a : Automaton) (closed : IsClosed a) (e : EnvEntry) (is : IsState a Negative e.state.0) where
  abbrev Insertion : List EnvEntry → Type 0
  Insertion env = (b : Automaton) × (new : List EnvEntry) × IsInserted a e env b new

  -- in front of all
  in_front : (env : List EnvEntry) → AreNegative a env → Rises env → IsBelowAll e.binder env → Insertion env
  in_front env are rises above = (
    a,
    e ∷ env,
    record {
      merges = merges_refl a (e ∷ env) closed (negative_more a e env is are);
      rises = (above, rises);
      below = λ x less below. below_more x e env less below;
      one = λ x few. refl;
    },
  )

  module _ (d : EnvEntry) (rest : List EnvEntry) (are : AreNegative a (d ∷ rest)) (rises : Rises (d ∷ rest)) where
    is_d : IsState a Negative d.state.0
    is_d = are d (Contains-here d rest)

    are_rest : AreNegative a rest
    are_rest = negative_rest a d rest are

    are_two : AreNegative a (e ∷ d ∷ [])
    are_two = negative_more a e (d ∷ []) is (negative_more a d [] is_d (none_negative a))

    -- at an entry of the same binder: a new state for the two
    at_same : e.binder ≡ d.binder → Insertion (d ∷ rest)
    at_same same =
        let it = met_exists a closed e.state.0 d.state.0 in
        let b : Automaton = it.0 in
        let new : EnvEntry = record { binder = e.binder; state = id (size a) } in
        let one : Merges a (e ∷ record { binder = e.binder; state = id d.state.0 } ∷ []) b (new ∷ []) =
        merges_met a b closed e.binder e.state.0 d.state.0 (size a) is is_d it.1 in
        let two : Merges a (e ∷ d ∷ []) b (new ∷ []) = subst (λ k. Merges a (e ∷ record { binder = k; state = id d.state.0 } ∷ []) b (new ∷ [])) same one in
        let are_later : AreNegative b rest = λ f inside. two.states Negative f.state.0 (are_rest f inside) in (
          b,
          new ∷ rest,
          record {
            merges = merges_append a b b (e ∷ d ∷ []) rest (new ∷ []) rest are_two are_rest two (merges_refl b rest two.closed are_later);
            rises = (subst (λ k. IsBelowAll k rest) (sym same) rises.0, rises.1);
            below = λ x less below. below_more x new rest less (below_rest x d rest below);
            one = λ x few. states x new few refl (cases_eq e.binder x);
          },
        )
      where
        states : (x : ℕ) (new : EnvEntry) → length (states_of x (e ∷ d ∷ rest)) ≤ 1 → new.binder ≡ e.binder → (e.binder ≡ x) ⊎ (e.binder ≡ x → ⊥)
            → states_of x (new ∷ rest) ≡ states_of x (e ∷ d ∷ rest)
        states x new few binder (inl at_x) =
            let two : states_of x (e ∷ d ∷ rest) ≡ e.state.0 ∷ d.state.0 ∷ states_of x rest =
            states_same x e (d ∷ rest) at_x ∙ ap (λ ns. e.state.0 ∷ ns) (states_same x d rest (sym same ∙ at_x)) in
            let many : length (states_of x (e ∷ d ∷ rest)) ≡ suc (suc (length (states_of x rest))) = ap (λ (ns : List ℕ). length ns) two in
            absurd (omega arith)
        states x new few binder (inr other) =
            states_other x new rest (λ at. other (sym binder ∙ at))
            ∙ sym (states_other x e (d ∷ rest) other ∙ states_other x d rest (λ at. other (same ∙ at)))

    -- behind an entry of a lower binder
    behind_lower : d.binder < e.binder → Insertion rest → Insertion (d ∷ rest)
    behind_lower lower later =
        let b : Automaton = later.0 in
        let new : List EnvEntry = later.1 in
        let it : IsInserted a e rest b new = later.2 in
        let are_one : AreNegative a (d ∷ []) = negative_more a d [] is_d (none_negative a) in
        let turned : Merges a (e ∷ d ∷ rest) a (d ∷ e ∷ rest) =
        merges_members a (e ∷ d ∷ rest) (d ∷ e ∷ rest) closed (negative_more a e (d ∷ rest) is are) (λ x. (swapped e d rest x, swapped d e rest x)) in
        let more : Merges a (d ∷ e ∷ rest) b (d ∷ new) =
        merges_append a a b (d ∷ []) (e ∷ rest) (d ∷ []) new are_one (negative_more a e rest is are_rest) (merges_refl a (d ∷ []) closed are_one) it.merges in (
          b,
          d ∷ new,
          record {
            merges = merges_trans a a b (e ∷ d ∷ rest) (d ∷ e ∷ rest) (d ∷ new) turned more;
            rises = (it.below d.binder lower rises.0, it.rises);
            below = λ x less below. below_more x d new (below d (Contains-here d rest)) (it.below x less (below_rest x d rest below));
            one = λ x few. states x new it.one few (cases_eq d.binder x);
          },
        )
      where
        states : (x : ℕ) (new : List EnvEntry) → ((x : ℕ) → length (states_of x (e ∷ rest)) ≤ 1 → states_of x new ≡ states_of x (e ∷ rest))
            → length (states_of x (e ∷ d ∷ rest)) ≤ 1 → (d.binder ≡ x) ⊎ (d.binder ≡ x → ⊥)
            → states_of x (d ∷ new) ≡ states_of x (e ∷ d ∷ rest)
        states x new one few (inl at_x) =
            let other : e.binder ≢ x = λ at. (let at_e : e.binder ≡ x = at in let at_d : d.binder ≡ x = at_x in omega arith) in
            let whole : states_of x (e ∷ d ∷ rest) ≡ d.state.0 ∷ states_of x rest = states_other x e (d ∷ rest) other ∙ states_same x d rest at_x in
            let some : length (states_of x (e ∷ d ∷ rest)) ≡ suc (length (states_of x rest)) = ap (λ (ns : List ℕ). length ns) whole in
            let alone : states_of x (e ∷ rest) ≡ states_of x rest = states_other x e rest other in
            let none : length (states_of x (e ∷ rest)) ≡ length (states_of x rest) = ap (λ (ns : List ℕ). length ns) alone in
            states_same x d new at_x ∙ (ap (λ ns. d.state.0 ∷ ns) (one x (omega arith) ∙ alone) ∙ sym whole)
        states x new one few (inr other) =
            let same : states_of x (e ∷ d ∷ rest) ≡ states_of x (e ∷ rest) = under x other (cases_eq e.binder x) in
            let many : length (states_of x (e ∷ d ∷ rest)) ≡ length (states_of x (e ∷ rest)) = ap (λ (ns : List ℕ). length ns) same in
            states_other x d new other ∙ (one x (omega arith) ∙ sym same)
          where
            under : (x : ℕ) → d.binder ≢ x → (e.binder ≡ x) ⊎ (e.binder ≡ x → ⊥) → states_of x (e ∷ d ∷ rest) ≡ states_of x (e ∷ rest)
            under x other (inl at) = states_same x e (d ∷ rest) at ∙ (ap (λ ns. e.state.0 ∷ ns) (states_other x d rest other) ∙ sym (states_same x e rest at))
            under x other (inr apart) = states_other x e (d ∷ rest) apart ∙ (states_other x d rest other ∙ sym (states_other x e rest apart))

    by_binder : (e.binder < d.binder) ⊎ (d.binder ≤ e.binder) → (d.binder < e.binder) ⊎ (e.binder ≤ d.binder) → Insertion rest → Insertion (d ∷ rest)
    by_binder (inl less) other later =
        in_front (d ∷ rest) are rises
        (below_more e.binder d rest less
        (λ f inside. let first : e.binder < d.binder = less in let second : d.binder < f.binder = rises.0 f inside in omega arith))
    by_binder (inr le) (inl lower) later = behind_lower lower later
    by_binder (inr le) (inr le') later = at_same (omega arith)

  inserted : (env : List EnvEntry) → AreNegative a env → Rises env → Insertion env
  inserted [] are rises = in_front [] are rises (λ d inside. absurd (nothing_in d inside))
  inserted (d ∷ rest) are rises =
      by_binder d rest are rises (cases_lt e.binder d.binder) (cases_lt d.binder e.binder) (inserted rest (negative_rest a d rest are) rises.1)

-- entries that give way to one of each binder; a binder that has one state at most keeps it
pub record IsMergedEnv (a : Automaton) (env : List EnvEntry) (b : Automaton) (new : List EnvEntry) : Type 0 where
  pub merges : Merges a env b new
  pub rises : Rises new
  pub one : (x : ℕ) → length (states_of x env) ≤ 1 → states_of x new ≡ states_of x env

pub env_merged : (a : Automaton) → IsClosed a → (env : List EnvEntry) → AreNegative a env → (b : Automaton) × (new : List EnvEntry) × IsMergedEnv a env b new
env_merged a closed [] are = (a, [], record { merges = merges_refl a [] closed are; rises = tt; one = λ x few. refl })
env_merged a closed (e ∷ rest) are =
    let earlier = env_merged a closed rest (negative_rest a e rest are) in
    let b : Automaton = earlier.0 in
    let before : List EnvEntry = earlier.1 in
    let it : IsMergedEnv a rest b before = earlier.2 in
    let is_e : IsState a Negative e.state.0 = are e (Contains-here e rest) in
    let are_one : AreNegative a (e ∷ []) = negative_more a e [] is_e (none_negative a) in
    let next = inserted b it.merges.closed e (it.merges.states Negative e.state.0 is_e) before it.merges.negative it.rises in
    let c : Automaton = next.0 in
    let new : List EnvEntry = next.1 in
    let step : IsInserted b e before c new = next.2 in
    let more : Merges a (e ∷ rest) b (e ∷ before) =
    merges_append a a b (e ∷ []) rest (e ∷ []) before are_one (negative_rest a e rest are) (merges_refl a (e ∷ []) closed are_one) it.merges in (
      c,
      new,
      record {
        merges = merges_trans a b c (e ∷ rest) (e ∷ before) new more step.merges;
        rises = step.rises;
        one = λ x few. states x before new it.one step.one few (cases_eq e.binder x);
      },
    )
  where
    states : (x : ℕ) (before new : List EnvEntry) → ((x : ℕ) → length (states_of x rest) ≤ 1 → states_of x before ≡ states_of x rest)
        → ((x : ℕ) → length (states_of x (e ∷ before)) ≤ 1 → states_of x new ≡ states_of x (e ∷ before))
        → length (states_of x (e ∷ rest)) ≤ 1 → (e.binder ≡ x) ⊎ (e.binder ≡ x → ⊥) → states_of x new ≡ states_of x (e ∷ rest)
    states x before new first second few (inl at) =
        let whole : states_of x (e ∷ rest) ≡ e.state.0 ∷ states_of x rest = states_same x e rest at in
        let many : length (states_of x (e ∷ rest)) ≡ suc (length (states_of x rest)) = ap (λ (ns : List ℕ). length ns) whole in
        let same : states_of x (e ∷ before) ≡ states_of x (e ∷ rest) =
        states_same x e before at ∙ (ap (λ ns. e.state.0 ∷ ns) (first x (omega arith)) ∙ sym whole) in
        let size_is : length (states_of x (e ∷ before)) ≡ length (states_of x (e ∷ rest)) = ap (λ (ns : List ℕ). length ns) same in
        second x (omega arith) ∙ same
    states x before new first second few (inr other) =
        let whole : states_of x (e ∷ rest) ≡ states_of x rest = states_other x e rest other in
        let many : length (states_of x (e ∷ rest)) ≡ length (states_of x rest) = ap (λ (ns : List ℕ). length ns) whole in
        let same : states_of x (e ∷ before) ≡ states_of x (e ∷ rest) = states_other x e before other ∙ (first x (omega arith) ∙ sym whole) in
        let size_is : length (states_of x (e ∷ before)) ≡ length (states_of x (e ∷ rest)) = ap (λ (ns : List ℕ). length ns) same in
        second x (omega arith) ∙ same

-- the merged scheme
pub merged_exists : (s : Scheme) → HasStates s → (m : Scheme) × IsMergedScheme s m
merged_exists s is =
    let it = env_merged s.automaton is.automaton s.env is.env in
    let env_is : IsMergedEnv s.automaton s.env it.0 it.1 = it.2 in (
      record { automaton = it.0; env = it.1; root = s.root },
      record {
        is = merged_scheme s.automaton it.0 s.env it.1 env_is.merges s.root is.root;
        rise = rises_binders it.1 env_is.rises;
        extended = env_is.merges.extended;
        root = refl;
        types = merges_types s.automaton it.0 s.env it.1 env_is.merges s.root [] is.root (λ p n inside. absurd (nothing_in (p, n) inside));
        one = env_is.one;
      },
    )

pub all_merged : (ss : List Scheme) → AllHaveStates ss → (ms : List Scheme) × AreMergedSchemes ss ms
all_merged [] are = ([], tt)
all_merged (s ∷ ss) are =
    let one = merged_exists s are.0 in
    let rest = all_merged ss are.1 in
    (one.0 ∷ rest.0, (one.1, rest.1))

pub merged_alike : (ss ms : List Scheme) → AreMergedSchemes ss ms → AreAlike ss ms
merged_alike [] [] merged = tt
merged_alike [] (m ∷ ms) merged = absurd merged
merged_alike (s ∷ ss) [] merged = absurd merged
merged_alike (s ∷ ss) (m ∷ ms) merged = ((scheme_states m merged.0.is merged.0.rise, merged.0.types), merged_alike ss ms merged.1)
