-- The states of a binder of a part give way to one that meets them.
--     meets_from          a state that is added, and then its edges
--     met                 it is within the part
--     met_region          which is a region with it
--     met_part            and a part
--     met_types           with the same types
use Rattle.std.proofs.Common.{◌≡◌, ◌⊎◌, ◌↔◌, inl, inr, ℕ, ◌<◌, ◌≤◌, Bool, true, false, cond, ◌==◌, List, [], ◌∷◌, ◌++◌, length, get_or, refl, sym, ap, ◌∙◌, subst, arith, Contains}
use Rattle.std.proofs.lemmas.Bool.{eq-eqb, eqb-true}
use Rattle.std.proofs.lemmas.List.Elements.{Contains-append_left, Contains-append_right}
use Rattle.mls_book.specs.Predicates.{Predicate}
use Rattle.mls_automaton.specs.declared.automaton.Polarity.{Polarity}
use Rattle.mls_automaton.specs.declared.automaton.Polarity.TheVariants.{Positive, Negative}
use Rattle.mls_automaton.specs.declared.automaton.Head.{Head}
use Rattle.mls_automaton.specs.declared.automaton.State.{State}
use Rattle.mls_automaton.specs.declared.state_set.StateId.{StateId}
use Rattle.mls_automaton.specs.declared.scheme.EnvEntry.{EnvEntry}
use Rattle.mls_automaton.specs.Automata.{Automaton, HasFlow, IsState, empty_head, head_at, polarity_at, state_at}
use Rattle.mls_automaton.specs.Heads.{IsSameParts, head_value, parts_of}
use Rattle.mls_automaton.specs.Models.{HasRisingLabels, IsClosed}
use Rattle.mls_automaton.specs.Reached.{HeadNames, Names}
use Rattle.mls_automaton.proofs.Combined.{same_parts-value}
use Rattle.mls_automaton.proofs.Lists.{Contains-cases, Contains-here, Contains-later}
use Rattle.mls_biunify.specs.Live.{Inserts, IsLive, IsRegion, IsThere, Live}
use Rattle.mls_biunify.proofs.TableSteps.{table-closed, there-or_not}
use Rattle.mls_infer.specs.Constraints.{no_goals}
use Rattle.mls_infer.specs.Meets.{HasFlowOfOne, MeetsAt, parts_together}
use Rattle.mls_infer.specs.Merges.{HaveSameTypes}
use Rattle.mls_infer.specs.Regions.{AreApart, ChangesWithin, IsSeparatePart, part_over}
use Rattle.mls_infer.proofs.ConstraintRows.{nothing_in}
use Rattle.mls_infer.proofs.Grown.{head_value-agree}
use Rattle.mls_infer.proofs.Merges.{types_trans}
use Rattle.mls_infer.proofs.MetEntries.{IsMetAll, entry_at, met_all}
use Rattle.mls_infer.proofs.RegionSteps.{all_named, free_region, free_same, naming_there, own_region, parts_named, region_union, same_head, unlike}
use Rattle.mls_infer.proofs.StandingParts.{HasSameEntries, StandsIn, standing_alike}

-- a state that is added, and then its edges
pub meets_from : (old mid new : Live) (entries : List EnvEntry) (state : ℕ) (added : State) → Inserts old mid state added → added.polarity ≡ Negative
    → IsSameParts (parts_of added.head) (parts_together old.table entries) → new.table.states ≡ mid.table.states → new.there ≡ mid.there
    → ((n p : ℕ) → HasFlow new.table n p ↔ HasFlow mid.table n p ⊎ ((n ≡ state) × HasFlowOfOne old.table entries p)) → MeetsAt entries state old new
meets_from old mid new entries state added step negative head states there flows = record {
  was_free = step.was_free;
  there = subst (λ (numbers : List Bool). (j : ℕ) → (get_or numbers j false ≡ true) ↔ IsThere old j ⊎ (j ≡ state)) (sym there) step.there;
  others = λ j was. at j ∙ step.others j was;
  polarity = ap (λ (x : State). x.polarity) (at state ∙ step.here) ∙ negative;
  head = subst (λ (x : State). IsSameParts (parts_of x.head) (parts_together old.table entries)) (sym (at state ∙ step.here)) head;
  flows = λ n p. (
    λ edge. elim ((flows n p).0 edge) [ inl before ↦ inl ((step.flows n p).0 before) | inr came ↦ inr came ],
    λ edge. (flows n p).1 (elim edge [ inl before ↦ inl ((step.flows n p).1 before) | inr came ↦ inr came ]),
  );
}
  where
    at : (j : ℕ) → state_at new.table j ≡ state_at mid.table j
    at j = ap (λ (xs : List State). get_or xs j (record { polarity = Positive; head = empty_head })) states

-- what heads and edges of a region lead to is in it
module _ (a : Automaton) (states : List ℕ) (region : IsRegion a states) (entries : List EnvEntry) (inside : (e : EnvEntry) → Contains entries e → Contains states e.state.0) where
  together_named : (h : Head) → HasRisingLabels h.fields → IsSameParts (parts_of h) (parts_together a entries) → (j : ℕ) → HeadNames h j → Contains states j
  together_named h rising same =
      parts_named (Contains states) Negative h (λ (e : EnvEntry). head_at a e.state.0) entries rising same (λ e j it names. (region.heads e.state.0 j names).0 (inside e it))

  ends_within : (p : ℕ) → HasFlowOfOne a entries p → Contains states p
  ends_within p it = (region.flows it.0.state.0 p it.2).0 (inside it.0 it.1)

module _ (old new : Live) (is_old : IsLive old) (is_new : IsLive new) (entries : List EnvEntry) (state : ℕ) (meets : MeetsAt entries state old new)
    (states : List ℕ) (region : IsRegion old.table states) (there : (s : ℕ) → Contains states s → IsThere old s) (inside : (e : EnvEntry) → Contains entries e → Contains states e.state.0) where
  -- what was there is no new state
  another : (s : ℕ) → IsThere old s → s ≡ state → ⊥
  another s was same = unlike (get_or old.there s false) was (subst (λ k. get_or old.there k false ≡ false) (sym same) meets.was_free)

  new_named : (j : ℕ) → HeadNames (head_at new.table state) j → Contains states j
  new_named = together_named old.table states region entries inside (head_at new.table state) (is_new.labels state) meets.head

  pub met : ChangesWithin (state ∷ states) old.table new.table
  met = record {
    polarity = λ j out. ap (λ (x : State). x.polarity) (same j out);
    heads = λ j out. same_head old.table new.table j (same j out);
    names = λ j t it. elim ((meets.there j).0 (naming_there new is_new j t it)) [
      | inl was ↦ inl (subst (λ (x : State). HeadNames x.head t) (meets.others j was) it)
      | inr here ↦ inr (
        subst (Contains (state ∷ states)) (sym here) (Contains-here state states),
        Contains-later state states t (new_named t (subst (λ k. Names new.table k t) here it)),
      )
    ];
    flows = λ n p edge. elim ((meets.flows n p).0 edge) [
      | inl before ↦ inl before
      | inr came ↦ inr (
        subst (Contains (state ∷ states)) (sym came.0) (Contains-here state states),
        Contains-later state states p (ends_within old.table states region entries inside p came.1),
      )
    ];
    old_flows = λ n p out edge. (meets.flows n p).1 (inl edge);
  }
    where
      same : (j : ℕ) → (Contains (state ∷ states) j → ⊥) → state_at new.table j ≡ state_at old.table j
      same j out = elim (there-or_not old.there j) [
        | inl was ↦ meets.others j was
        | inr free ↦ free_same old new is_old is_new j (λ was. unlike (get_or old.there j false) was free) (λ here. elim ((meets.there j).0 here) [
          | inl was ↦ unlike (get_or old.there j false) was free
          | inr it ↦ out (subst (Contains (state ∷ states)) (sym it) (Contains-here state states))
        ])
      ]

  pub met_region : IsRegion new.table (state ∷ states)
  met_region =
      own_region (state ∷ states) old.table new.table met
      (region_union old.table (state ∷ []) states (free_region old is_old (state ∷ []) (λ j it. elim (Contains-cases state [] j it) [
        | inl same ↦ subst (λ k. get_or old.there k false ≡ false) same meets.was_free
        | inr none ↦ absurd (nothing_in j none)
      ])) region)

  -- states that were there are apart from it
  pub met_apart : (others : List ℕ) → ((t : ℕ) → Contains others t → IsThere old t) → AreApart states others → AreApart (state ∷ states) others
  met_apart others was apart t it here = elim (Contains-cases state states t it) [
    | inl same ↦ another t (was t here) (sym same)
    | inr own ↦ apart t own here
  ]

module _ (old new : Live) (is_old : IsLive old) (is_new : IsLive new) (entries : List EnvEntry) (state : ℕ) (meets : MeetsAt entries state old new)
    (states : List ℕ) (there : (s : ℕ) → Contains states s → IsThere old s) (binder : ℕ) (own : (e : EnvEntry) → Contains entries e → e.binder ≡ binder) (several : 1 < length entries)
    (others : List EnvEntry) (root : StateId) (part : IsSeparatePart old.table states (entries ++ others) root) where
  abbrev a : Automaton
  a = old.table

  closed : IsClosed a
  closed = table-closed old.table old.there is_old

  met_there : (e : EnvEntry) → Contains entries e → Contains (entries ++ others) e
  met_there e it = Contains-append_left entries others e it

  later_there : (e : EnvEntry) → Contains others e → Contains (entries ++ others) e
  later_there e it = Contains-append_right entries others e it

  inside : (e : EnvEntry) → Contains entries e → Contains states e.state.0
  inside e it = part.env_in e (met_there e it)

  low : (s : ℕ) → Contains states s → s < length a.states
  low s it = is_old.in_range s (there s it)

  not_new : (s : ℕ) → Contains states s → s ≡ state → ⊥
  not_new s it = another old new is_old is_new entries state meets states part.region there inside s (there s it)

  pub met_part : IsSeparatePart new.table (state ∷ states) (entry_at binder state ∷ others) root
  met_part = record {
    region = met_region old new is_old is_new entries state meets states part.region there inside;
    root_in = Contains-later state states root.0 part.root_in;
    root_positive = ap (λ (x : State). x.polarity) (meets.others root.0 (there root.0 part.root_in)) ∙ part.root_positive;
    env_in = λ e it. elim (Contains-cases (entry_at binder state) others e it) [
      | inl same ↦ subst (λ (e : EnvEntry). Contains (state ∷ states) e.state.0) same (Contains-here state states)
      | inr later ↦ Contains-later state states e.state.0 (part.env_in e (later_there e later))
    ];
    env_negative = λ e it. elim (Contains-cases (entry_at binder state) others e it) [
      | inl same ↦ subst (λ (e : EnvEntry). polarity_at new.table e.state.0 ≡ Negative) same meets.polarity
      | inr later ↦
          let own : Contains states e.state.0 = part.env_in e (later_there e later) in
          ap (λ (x : State). x.polarity) (meets.others e.state.0 (there e.state.0 own)) ∙ part.env_negative e (later_there e later)
    ];
  }

  is_state : (e : EnvEntry) → Contains (entries ++ others) e → IsState a Negative e.state.0
  is_state e it = record { in_range = low e.state.0 (part.env_in e it); polarity = part.env_negative e it }

  -- The same state behind all others: there the types are known to be the same.
  module _ (b : Automaton) (n : ℕ) (behind : IsMetAll a binder entries b n) where
    types_behind : HaveSameTypes (no_goals (part_over a (entries ++ others) root)) (no_goals (part_over b (entry_at binder n ∷ others) root))
    types_behind =
        behind.merges.types others root [] (λ e it. is_state e (later_there e it))
        (record { in_range = low root.0 part.root_in; polarity = part.root_positive }) (λ p k none. absurd (nothing_in (p, k) none))

    not_behind : (s : ℕ) → Contains states s → s ≡ n → ⊥
    not_behind s it same = let less : s < length a.states = low s it in let high : length a.states ≤ n = behind.behind several in omega arith

    -- where its states stand in the table
    place : ℕ → ℕ
    place s = cond (s == n) state s

    place_new : place n ≡ state
    unfolding place
    place_new = ap (λ c. cond c state n) (eq-eqb n n refl)

    place_old : (s : ℕ) → Contains states s → place s ≡ s
    unfolding place
    place_old s it = go (s == n) refl
      where
        go : (c : Bool) → (s == n) ≡ c → cond c state s ≡ s
        go true same = absurd (not_behind s it (eqb-true s n same))
        go false other = refl

    old_head : (s : ℕ) → Contains states s → head_at b s ≡ head_at a s
    old_head s it = behind.merges.extended.heads s (low s it)

    old_polarity : (s : ℕ) → Contains states s → polarity_at b s ≡ polarity_at a s
    old_polarity s it = (behind.merges.states (polarity_at a s) s (record { in_range = low s it; polarity = refl })).polarity

    new_polarity : polarity_at b n ≡ Negative
    new_polarity = (behind.merges.negative (entry_at binder n) (Contains-here (entry_at binder n) [])).polarity

    -- no edge of the first table is at the new state
    none_from : (p : ℕ) → HasFlow a state p → ⊥
    none_from p edge = unlike (get_or old.there state false) (is_old.negative state p edge).there meets.was_free

    none_to : (s : ℕ) → HasFlow a s state → ⊥
    none_to s edge = unlike (get_or old.there state false) (is_old.positive s state edge).there meets.was_free

    ends_in : (p : ℕ) → HasFlowOfOne a entries p → Contains states p
    ends_in = ends_within a states part.region entries inside

    -- edges in both, of states of the part and of the new state
    from_old : (s p : ℕ) → Contains states s → HasFlow b s p ↔ HasFlow a s p
    from_old s p it = behind.merges.extended.flows s p (low s it)

    table_old : (s p : ℕ) → Contains states s → HasFlow new.table s p → HasFlow a s p
    table_old s p it edge = elim ((meets.flows s p).0 edge) [ inl before ↦ before | inr came ↦ absurd (not_new s it came.0) ]

    table_new : (p : ℕ) → HasFlow new.table state p → HasFlowOfOne a entries p
    table_new p edge = elim ((meets.flows state p).0 edge) [ inl before ↦ absurd (none_from p before) | inr came ↦ came.1 ]

    abbrev At : ℕ → ℕ → Type 0
    At s p = HasFlow b s p ↔ HasFlow new.table (place s) (place p)

    moved : (s p s' p' : ℕ) → s ≡ s' → p ≡ p' → HasFlow new.table s p → HasFlow new.table s' p'
    moved s p s' p' e e' edge = subst (λ k. HasFlow new.table k p') e (subst (λ k. HasFlow new.table s k) e' edge)

    old_old : (s p : ℕ) → Contains states s → Contains states p → At s p
    old_old s p one other = (
      λ edge. moved s p (place s) (place p) (sym (place_old s one)) (sym (place_old p other)) ((meets.flows s p).1 (inl ((from_old s p one).0 edge))),
      λ edge. (from_old s p one).1 (table_old s p one (moved (place s) (place p) s p (place_old s one) (place_old p other) edge)),
    )

    old_new : (s : ℕ) → Contains states s → At s n
    old_new s one = (
      λ edge. absurd (not_behind n ((part.region.flows s n ((from_old s n one).0 edge)).0 one) refl),
      λ edge. absurd (none_to s (table_old s state one (moved (place s) (place n) s state (place_old s one) place_new edge))),
    )

    new_old : (p : ℕ) → Contains states p → At n p
    new_old p other = (
      λ edge. moved state p (place n) (place p) (sym place_new) (sym (place_old p other)) ((meets.flows state p).1 (inr (refl, (behind.flows p).0 edge))),
      λ edge. (behind.flows p).1 (table_new p (moved (place n) (place p) state p place_new (place_old p other) edge)),
    )

    new_new : At n n
    new_new = (
      λ edge. absurd (not_behind n (ends_in n ((behind.flows n).0 edge)) refl),
      λ edge. absurd (not_new state (ends_in state (table_new state (moved (place n) (place n) state state place_new place_new edge))) refl),
    )

    all_at : (s p : ℕ) → (n ≡ s) ⊎ Contains states s → (n ≡ p) ⊎ Contains states p → At s p
    all_at s p (inl e) (inl e') = subst (λ k. At k p) e (subst (λ k. At n k) e' new_new)
    all_at s p (inl e) (inr other) = subst (λ k. At k p) e (new_old p other)
    all_at s p (inr one) (inl e') = subst (λ k. At s k) e' (old_new s one)
    all_at s p (inr one) (inr other) = old_old s p one other

    -- a head that names states of the part alone
    head_at_place : (h : Head) → ((j : ℕ) → HeadNames h j → Contains states j) → (p : Polarity) (value : ℕ → Predicate) → head_value p value h ≡ head_value p (λ j. value (place j)) h
    head_at_place h names p value = head_value-agree p value (λ j. value (place j)) h (all_named (λ j. value j ≡ value (place j)) p h (λ j it. ap value (sym (place_old j (names j it)))))

    named_by_old : (s j : ℕ) → Contains states s → Names b s j → Contains states j
    named_by_old s j it names = (part.region.heads s j (subst (λ (h : Head). HeadNames h j) (old_head s it) names)).0 it

    named_by_new : (j : ℕ) → Names b n j → Contains states j
    named_by_new = together_named a states part.region entries inside (head_at b n) (behind.merges.closed.labels n) behind.parts

    heads_at : (s : ℕ) → (n ≡ s) ⊎ Contains states s → (p : Polarity) (value : ℕ → Predicate) → head_value p value (head_at new.table (place s)) ≡ head_value p (λ j. value (place j)) (head_at b s)
    heads_at s (inr it) p value =
        ap (λ k. head_value p value (head_at new.table k)) (place_old s it)
        ∙ (ap (λ (x : State). head_value p value x.head) (meets.others s (there s it))
        ∙ (ap (head_value p value) (sym (old_head s it)) ∙ head_at_place (head_at b s) (λ j names. named_by_old s j it names) p value))
    heads_at s (inl e) p value = subst (λ k. head_value p value (head_at new.table (place k)) ≡ head_value p (λ j. value (place j)) (head_at b k)) e whole
      where
        met_value : head_value p value (head_at new.table state) ≡ head_value p value (head_at b n)
        met_value =
            same_parts-value p value (parts_of (head_at new.table state)) (parts_together a entries) meets.head
            ∙ sym (same_parts-value p value (parts_of (head_at b n)) (parts_together a entries) behind.parts)

        whole : head_value p value (head_at new.table (place n)) ≡ head_value p (λ j. value (place j)) (head_at b n)
        whole = ap (λ k. head_value p value (head_at new.table k)) place_new ∙ (met_value ∙ head_at_place (head_at b n) named_by_new p value)

    polarity_of : (s : ℕ) → (n ≡ s) ⊎ Contains states s → polarity_at new.table (place s) ≡ polarity_at b s
    polarity_of s (inr it) = ap (polarity_at new.table) (place_old s it) ∙ (ap (λ (x : State). x.polarity) (meets.others s (there s it)) ∙ sym (old_polarity s it))
    polarity_of s (inl e) =
        subst (λ k. polarity_at new.table (place k) ≡ polarity_at b k) e
        (ap (polarity_at new.table) place_new ∙ (meets.polarity ∙ sym new_polarity))

    distinct_at : (s j : ℕ) → (n ≡ s) ⊎ Contains states s → (n ≡ j) ⊎ Contains states j → place s ≡ place j → s ≡ j
    distinct_at s j (inl e) (inl e') same = sym e ∙ e'
    distinct_at s j (inl e) (inr it) same = absurd (not_new j it (sym (place_old j it) ∙ (sym same ∙ (ap place (sym e) ∙ place_new))))
    distinct_at s j (inr it) (inl e') same = absurd (not_new s it (sym (place_old s it) ∙ (same ∙ (ap place (sym e') ∙ place_new))))
    distinct_at s j (inr it) (inr it') same = sym (place_old s it) ∙ (same ∙ place_old j it')

    named_at : (s j : ℕ) → (n ≡ s) ⊎ Contains states s → Names b s j → Contains states j
    named_at s j (inl e) names = named_by_new j (subst (λ k. Names b k j) (sym e) names)
    named_at s j (inr it) names = named_by_old s j it names

    stands : StandsIn (n ∷ states) place b new.table
    stands = record {
      distinct = λ s j one other same. distinct_at s j (Contains-cases n states s one) (Contains-cases n states j other) same;
      polarity = λ s it. polarity_of s (Contains-cases n states s it);
      heads = λ s it p value. heads_at s (Contains-cases n states s it) p value;
      named = λ s j it names. Contains-later n states j (named_at s j (Contains-cases n states s it) names);
      flows = λ s p one other. all_at s p (Contains-cases n states s one) (Contains-cases n states p other);
    }

    other_in : (e : EnvEntry) → Contains others e → Contains states e.state.0
    other_in e it = part.env_in e (later_there e it)

    same_entries : HasSameEntries place (entry_at binder n ∷ others) (entry_at binder state ∷ others)
    same_entries = record {
      to = λ e it. to e (Contains-cases (entry_at binder n) others e it);
      from = λ d it. from d (Contains-cases (entry_at binder state) others d it);
    }
      where
        to : (e : EnvEntry) → (entry_at binder n ≡ e) ⊎ Contains others e → (d : EnvEntry) × Contains (entry_at binder state ∷ others) d × (d.binder ≡ e.binder) × (d.state.0 ≡ place e.state.0)
        to e (inl same) = (
          entry_at binder state,
          Contains-here (entry_at binder state) others,
          ap (λ (e : EnvEntry). e.binder) same,
          sym place_new ∙ ap (λ (e : EnvEntry). place e.state.0) same,
        )
        to e (inr later) = (e, Contains-later (entry_at binder state) others e later, refl, sym (place_old e.state.0 (other_in e later)))

        from : (d : EnvEntry) → (entry_at binder state ≡ d) ⊎ Contains others d → (e : EnvEntry) × Contains (entry_at binder n ∷ others) e × (d.binder ≡ e.binder) × (d.state.0 ≡ place e.state.0)
        from d (inl same) = (
          entry_at binder n,
          Contains-here (entry_at binder n) others,
          sym (ap (λ (e : EnvEntry). e.binder) same),
          sym (ap (λ (e : EnvEntry). e.state.0) same) ∙ sym place_new,
        )
        from d (inr later) = (d, Contains-later (entry_at binder n) others d later, refl, sym (place_old d.state.0 (other_in d later)))

    env_within : (e : EnvEntry) → Contains (entry_at binder n ∷ others) e → Contains (n ∷ states) e.state.0
    env_within e it = elim (Contains-cases (entry_at binder n) others e it) [
      | inl same ↦ subst (λ (e : EnvEntry). Contains (n ∷ states) e.state.0) same (Contains-here n states)
      | inr later ↦ Contains-later n states e.state.0 (other_in e later)
    ]

    types_moved : HaveSameTypes (no_goals (part_over b (entry_at binder n ∷ others) root)) (no_goals (part_over new.table (entry_at binder state ∷ others) root))
    types_moved types f =
        standing_alike b new.table behind.merges.closed (table-closed new.table new.there is_new) (n ∷ states) place stands root root
        (entry_at binder n ∷ others) (entry_at binder state ∷ others) (Contains-later n states root.0 part.root_in) env_within
        (sym (place_old root.0 part.root_in)) same_entries types f

    types_both : HaveSameTypes (no_goals (part_over a (entries ++ others) root)) (no_goals (part_over new.table (entry_at binder state ∷ others) root))
    types_both =
        types_trans (no_goals (part_over a (entries ++ others) root)) (no_goals (part_over b (entry_at binder n ∷ others) root)) (no_goals (part_over new.table (entry_at binder state ∷ others) root))
        types_behind types_moved

  pub met_types : HaveSameTypes (no_goals (part_over old.table (entries ++ others) root)) (no_goals (part_over new.table (entry_at binder state ∷ others) root))
  met_types = let it = met_all a closed binder entries (omega arith) own (λ e it. is_state e (met_there e it)) in types_both it.0 it.1 it.2
