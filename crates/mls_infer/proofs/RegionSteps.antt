-- Steps on an automaton in which parts stand side by side.
--     region_union          two regions are one
--     ChangesWithin         a step that changes nothing but some states
--     own_region, own_part         what has these states stays a region, and a part
--     other_region, other_part     what is apart from them stays as it is
--     free_region           numbers that are free are a region
--     all_named, parts_named      what holds of all that heads name
--     related_within        goals between states of a region relate states of it alone
--     inserted, edged, solved, copied, left      the steps; each is within some states
--     inserted_region, copied_region, kept_region
use Rattle.std.proofs.Common.{◌≡◌, ◌⊎◌, ◌↔◌, inl, inr, ℕ, ◌<◌, ◌||◌, Bool, true, false, List, [], ◌∷◌, ◌++◌, map, length, get_or, refl, sym, ap, ◌∙◌, subst, arith, Some, None, Contains, All}
use Rattle.std.specs.Prelude.{Option}
use Rattle.std.proofs.lemmas.Option.{slice_get_within, get_or_from_slice_get}
use Rattle.std.proofs.lemmas.List.Elements.{Contains-append_cases, Contains-append_left, Contains-append_right, Contains-get_or}
use Rattle.mls_automaton.specs.declared.automaton.Polarity.{Polarity}
use Rattle.mls_automaton.specs.declared.automaton.Polarity.TheVariants.{Positive, Negative}
use Rattle.mls_automaton.specs.declared.automaton.Arms.{Arms}
use Rattle.mls_automaton.specs.declared.automaton.FieldSet.{FieldSet}
use Rattle.mls_automaton.specs.declared.automaton.Head.{Head}
use Rattle.mls_automaton.specs.declared.automaton.State.{State}
use Rattle.mls_automaton.specs.declared.state_set.StateId.{StateId}
use Rattle.mls_automaton.specs.declared.scheme.EnvEntry.{EnvEntry}
use Rattle.mls_automaton.specs.Automata.{Automaton, HasFlow, IsState, empty_head, flow, head_at, polarity_at, state_at}
use Rattle.mls_automaton.specs.Embeddings.{renamed_head}
use Rattle.mls_automaton.specs.Heads.{IsSameOption, IsSameParts, IsSameSet, Parts, combined, combined_functions, combined_records, combined_sets, combined_two, parts_of}
use Rattle.mls_automaton.specs.Models.{HasArmsIn, HasFieldsIn, HasRisingLabels, HasStatesIn, IsClosed}
use Rattle.mls_automaton.specs.Reached.{HeadNames, InFunction, InRecord, Names}
use Rattle.mls_automaton.proofs.Appends.{renamed_states}
use Rattle.mls_automaton.proofs.CombinedStates.{HasPartsIn, combined_in, head_in, parts_in, same_in}
use Rattle.mls_automaton.proofs.Lists.{All-contained, Contains-cases, Contains-here, Contains-later}
use Rattle.mls_automaton.proofs.Reaching.{named-in}
use Rattle.mls_automaton.proofs.RisingSets.{contains-place}
use Rattle.mls_biunify.specs.Live.{AddsStates, Inserts, IsCopiedFlow, IsCopyAt, IsLive, IsLiveState, IsReachedFrom, IsThere, KeepsThere, Live, number_of, root as at-root, named as by-name}
use Rattle.mls_solver.specs.Relations.{InCodomain, InDomain, InField, IsRelated, goal, domain, codomain, field, along}
use Rattle.mls_solver.specs.Solved.{IsNewFlow, IsSolved, ReachesBy}
use Rattle.mls_automaton.proofs.CombinedHeads.{same_parts-self, same_parts-trans, same_parts-two}
use Rattle.mls_solver.proofs.RelatedHeads.{set_at-field}
use Rattle.mls_biunify.proofs.Removals.{empty-names_none}
use Rattle.mls_biunify.proofs.SettledTables.{combined-alone}
use Rattle.mls_biunify.proofs.TableSteps.{there-or_not}
use Rattle.mls_biunify.specs.Live.{IsRegion}
use Rattle.mls_infer.specs.Regions.{AgreesAt, AreApart, ChangesWithin, IsSeparatePart}
use Rattle.mls_infer.proofs.Grown.{states_more}

pub unlike : (b : Bool) → b ≡ true → b ≡ false → ⊥
unlike b is isnt = let e : true ≡ false = sym is ∙ isnt in cc

nothing_there : (s : ℕ) → Contains [] s → ⊥
nothing_there s it = let low : it.0 < 0 = it.1 in omega arith

-- two regions are one
both_in : (first second : List ℕ) (s t : ℕ) → Contains first s ↔ Contains first t → Contains second s ↔ Contains second t → Contains (first ++ second) s ↔ Contains (first ++ second) t
both_in first second s t one two = (
  λ it. elim (Contains-append_cases first second s it) [
    | inl left ↦ Contains-append_left first second t (one.0 left)
    | inr right ↦ Contains-append_right first second t (two.0 right)
  ],
  λ it. elim (Contains-append_cases first second t it) [
    | inl left ↦ Contains-append_left first second s (one.1 left)
    | inr right ↦ Contains-append_right first second s (two.1 right)
  ],
)

pub region_union : (a : Automaton) (first second : List ℕ) → IsRegion a first → IsRegion a second → IsRegion a (first ++ second)
region_union a first second one two = record {
  heads = λ s t names. both_in first second s t (one.heads s t names) (two.heads s t names);
  flows = λ n p edge. both_in first second n p (one.flows n p edge) (two.flows n p edge);
}

module _ (states : List ℕ) (a b : Automaton) (within : ChangesWithin states a b) where
  -- a region of these states stays one
  pub own_region : IsRegion a states → IsRegion b states
  own_region region = record {
    heads = λ s t names. elim (within.names s t names) [ inl old ↦ region.heads s t old | inr new ↦ (λ here. new.1, λ here. new.0) ];
    flows = λ n p edge. elim (within.flows n p edge) [ inl old ↦ region.flows n p old | inr new ↦ (λ here. new.1, λ here. new.0) ];
  }

  -- and so a part of these states, where they keep their polarities
  pub own_part : (env : List EnvEntry) (root : StateId) → ((s : ℕ) → Contains states s → polarity_at b s ≡ polarity_at a s) → IsSeparatePart a states env root → IsSeparatePart b states env root
  own_part env root same part = record {
    region = own_region part.region;
    root_in = part.root_in;
    root_positive = same root.0 part.root_in ∙ part.root_positive;
    env_in = part.env_in;
    env_negative = λ entry inside. same entry.state.0 (part.env_in entry inside) ∙ part.env_negative entry inside;
  }

  -- and one apart from them stays as it is
  pub other_region : (others : List ℕ) → AreApart states others → IsRegion a others → IsRegion b others × AgreesAt others a b
  other_region others apart region = (
    record {
      heads = λ s t names. elim (within.names s t names) [ inl old ↦ region.heads s t old | inr new ↦ neither s t new ];
      flows = λ n p edge. elim (within.flows n p edge) [ inl old ↦ region.flows n p old | inr new ↦ neither n p new ];
    },
    record {
      polarity = λ s here. within.polarity s (λ it. apart s it here);
      heads = λ s here. within.heads s (λ it. apart s it here);
      flows = λ n p here. (
        λ edge. elim (within.flows n p edge) [ inl old ↦ old | inr new ↦ absurd (apart n new.0 here) ],
        λ edge. within.old_flows n p (λ it. apart n it here) edge,
      );
    },
  )
    where
      neither : (s t : ℕ) → Contains states s × Contains states t → Contains others s ↔ Contains others t
      neither s t new = (λ here. absurd (apart s new.0 here), λ here. absurd (apart t new.1 here))

  -- and so a part apart from them
  pub other_part : (others : List ℕ) (env : List EnvEntry) (root : StateId) → AreApart states others → IsSeparatePart a others env root → IsSeparatePart b others env root × AgreesAt others a b
  other_part others env root apart part =
      let it = other_region others apart part.region in (
        record {
          region = it.0;
          root_in = part.root_in;
          root_positive = it.1.polarity root.0 part.root_in ∙ part.root_positive;
          env_in = part.env_in;
          env_negative = λ entry inside. it.1.polarity entry.state.0 (part.env_in entry inside) ∙ part.env_negative entry inside;
        },
        it.1,
      )

-- what a table's heads name is there, and so is what names it
module _ (live : Live) (is : IsLive live) where
  pub named_there : (s t : ℕ) → Names live.table s t → IsThere live t
  named_there s t names =
      named-in (λ k. IsThere live k) (polarity_at live.table s) (head_at live.table s)
      (states_more (IsLiveState live) (λ p k. IsThere live k) (λ p k it. it.there) (polarity_at live.table s) (head_at live.table s) (is.heads s)) t names

  pub naming_there : (s t : ℕ) → Names live.table s t → IsThere live s
  naming_there s t names = elim (there-or_not live.there s) [
    | inl there ↦ there
    | inr free ↦ absurd (empty-names_none (head_at live.table s) t (ap (λ (x : State). x.head) (is.free s free)) names)
  ]

  -- numbers that are free are a region
  pub free_region : (numbers : List ℕ) → ((s : ℕ) → Contains numbers s → get_or live.there s false ≡ false) → IsRegion live.table numbers
  free_region numbers free = record {
    heads = λ s t names. (
      λ here. absurd (unlike (get_or live.there s false) (naming_there s t names) (free s here)),
      λ here. absurd (unlike (get_or live.there t false) (named_there s t names) (free t here)),
    );
    flows = λ n p edge. (
      λ here. absurd (unlike (get_or live.there n false) (is.negative n p edge).there (free n here)),
      λ here. absurd (unlike (get_or live.there p false) (is.positive n p edge).there (free p here)),
    );
  }

-- numbers that are free in both tables stand for the same
pub free_same : (old new : Live) → IsLive old → IsLive new → (s : ℕ) → (IsThere old s → ⊥) → (IsThere new s → ⊥) → state_at new.table s ≡ state_at old.table s
free_same old new is_old is_new s gone gone' = go (there-or_not old.there s) (there-or_not new.there s)
  where
    go : (get_or old.there s false ≡ true) ⊎ (get_or old.there s false ≡ false) → (get_or new.there s false ≡ true) ⊎ (get_or new.there s false ≡ false) → state_at new.table s ≡ state_at old.table s
    go (inl there) either = absurd (gone there)
    go (inr free) (inl there) = absurd (gone' there)
    go (inr free) (inr free') = is_new.free s free' ∙ sym (is_old.free s free)

pub same_head : (a b : Automaton) (s : ℕ) → state_at b s ≡ state_at a s → IsSameParts (parts_of (head_at b s)) (parts_of (head_at a s))
same_head a b s same = subst (λ (x : State). IsSameParts (parts_of x.head) (parts_of (head_at a s))) (sym same) (same_parts-self (parts_of (head_at a s)))

-- One more state, whose head names some of these states.
module _ (old new : Live) (is_old : IsLive old) (is_new : IsLive new) (s : ℕ) (state : State) (step : Inserts old new s state) (states : List ℕ) (names : (t : ℕ) → HeadNames state.head t → Contains states t) where
  pub inserted : ChangesWithin (s ∷ states) old.table new.table
  inserted = record {
    polarity = λ j out. ap (λ (x : State). x.polarity) (same j out);
    heads = λ j out. same_head old.table new.table j (same j out);
    names = λ j t it. elim ((step.there j).0 (naming_there new is_new j t it)) [
      | inl was ↦ inl (subst (λ (x : State). HeadNames x.head t) (step.others j was) it)
      | inr here ↦ inr (
        subst (Contains (s ∷ states)) (sym here) (Contains-here s states),
        Contains-later s states t (names t (subst (λ (x : State). HeadNames x.head t) (ap (state_at new.table) here ∙ step.here) it)),
      )
    ];
    flows = λ n p edge. inl ((step.flows n p).0 edge);
    old_flows = λ n p out edge. (step.flows n p).1 edge;
  }
    where
      same : (j : ℕ) → (Contains (s ∷ states) j → ⊥) → state_at new.table j ≡ state_at old.table j
      same j out = elim (there-or_not old.there j) [
        | inl was ↦ step.others j was
        | inr free ↦ free_same old new is_old is_new j (λ was. unlike (get_or old.there j false) was free) (λ there. elim ((step.there j).0 there) [
          | inl was ↦ unlike (get_or old.there j false) was free
          | inr here ↦ out (subst (Contains (s ∷ states)) (sym here) (Contains-here s states))
        ])
      ]

  pub inserted_region : IsRegion old.table states → IsRegion new.table (s ∷ states)
  inserted_region region =
      own_region (s ∷ states) old.table new.table inserted
      (region_union old.table (s ∷ []) states (free_region old is_old (s ∷ []) (λ j it. elim (Contains-cases s [] j it) [
        | inl same ↦ subst (λ k. get_or old.there k false ≡ false) same step.was_free
        | inr none ↦ absurd (nothing_there j none)
      ])) region)

  -- states that were there are apart from it
  pub inserted_apart : (others : List ℕ) → ((t : ℕ) → Contains others t → IsThere old t) → AreApart states others → AreApart (s ∷ states) others
  inserted_apart others there apart t it here = elim (Contains-cases s states t it) [
    | inl same ↦ unlike (get_or old.there t false) (there t here) (subst (λ k. get_or old.there k false ≡ false) same step.was_free)
    | inr own ↦ apart t own here
  ]

-- one more edge, between these states
pub edged : (states : List ℕ) (a b : Automaton) (n p : ℕ) → b.states ≡ a.states → ((m q : ℕ) → HasFlow b m q ↔ HasFlow a m q ⊎ ((m ≡ n) × (q ≡ p))) → Contains states n → Contains states p → ChangesWithin states a b
edged states a b n p same flows from to = record {
  polarity = λ s out. ap (λ (x : State). x.polarity) (at s);
  heads = λ s out. same_head a b s (at s);
  names = λ s t it. inl (subst (λ (x : State). HeadNames x.head t) (at s) it);
  flows = λ m q edge. elim ((flows m q).0 edge) [
    | inl old ↦ inl old
    | inr new ↦ inr (subst (Contains states) (sym new.0) from, subst (Contains states) (sym new.1) to)
  ];
  old_flows = λ m q out edge. (flows m q).1 (inl edge);
}
  where
    at : (s : ℕ) → state_at b s ≡ state_at a s
    at s = ap (λ (xs : List State). get_or xs s (record { polarity = Positive; head = empty_head })) same

-- What holds of all that a head names, holds in each place.
module _ (P : ℕ → Type 0) where
  in_set : (set : List ℕ) → ((j : ℕ) → Contains set j → P j) → All P set
  in_set set all k d low = all (get_or set k d) (Contains-get_or set k d low)

  in_arms : (p : Polarity) (o : Option Arms) → ((j : ℕ) → InFunction o j → P j) → HasArmsIn (λ q j. P j) p o
  in_arms p None all = tt
  in_arms p (Some arms) all = (in_set arms.domain (λ j it. all j (arms, refl, inl it)), in_set arms.codomain (λ j it. all j (arms, refl, inr it)))

  in_fields : (p : Polarity) (o : Option (List FieldSet)) → ((j : ℕ) → InRecord o j → P j) → HasFieldsIn (λ q j. P j) p o
  in_fields p None all = tt
  in_fields p (Some fields) all = λ k d low. in_set (get_or fields k d).set (λ j it. all j (fields, refl, (get_or fields k d, Contains-get_or fields k d low, it)))

  pub all_named : (p : Polarity) (h : Head) → ((j : ℕ) → HeadNames h j → P j) → HasStatesIn (λ q j. P j) p h
  all_named p h all = record { function = in_arms p h.function (λ j it. all j (inl it)); fields = in_fields p h.fields (λ j it. all j (inr it)) }

  -- a head that has the same as other heads combined names what they name
  pub parts_named : {X : Type 0} (p : Polarity) (h : Head) (heads : X → Head) (members : List X) → HasRisingLabels h.fields → IsSameParts (parts_of h) (combined p (map (λ k. parts_of (heads k)) members))
      → ((k : X) (j : ℕ) → Contains members k → HeadNames (heads k) j → P j) → (j : ℕ) → HeadNames h j → P j
  parts_named p h heads members rising same all j it =
      let Q : Polarity → ℕ → Type 0 = λ q j. P j in
      named-in P p h
      (head_in Q p h rising
      (same_in Q p (parts_of h) (combined p (map (λ k. parts_of (heads k)) members)) same
      (combined_in Q p (λ k. parts_of (heads k)) members
      (All-contained (λ k. HasPartsIn Q p (parts_of (heads k))) members (λ k there. parts_in Q p (heads k) (all_named p (heads k) (λ j named. all k j there named))))))) j it

-- a head combined with itself
doubled_set : (xs : List ℕ) → IsSameSet (xs ++ xs) xs
doubled_set xs = (
  λ s it. elim (Contains-append_cases xs xs s it) [ inl left ↦ left | inr right ↦ right ],
  λ s it. Contains-append_left xs xs s it,
)

doubled_functions : (o : Option Arms) → IsSameOption (λ (f : Arms) g. IsSameSet f.domain g.domain × IsSameSet f.codomain g.codomain) (combined_functions o o) o
doubled_functions None = tt
doubled_functions (Some arms) = (doubled_set arms.domain, doubled_set arms.codomain)

doubled_sets : (p : Polarity) (o : Option (List ℕ)) → IsSameOption IsSameSet (combined_sets p o o) o
doubled_sets p (Some set) = doubled_set set
doubled_sets Positive None = tt
doubled_sets Negative None = tt

doubled_records : (p : Polarity) (o : Option (List ℕ → Option (List ℕ))) → IsSameOption (λ (f g : List ℕ → Option (List ℕ)). (label : List ℕ) → IsSameOption IsSameSet (f label) (g label)) (combined_records p o o) o
doubled_records p None = tt
doubled_records p (Some fields) = λ label. doubled_sets p (fields label)

doubled_bit : (b : Bool) → (b || b) ≡ b
doubled_bit true = refl
doubled_bit false = refl

doubled : (p : Polarity) (h : Parts) → IsSameParts (combined_two p h h) h
doubled p h = record {
  boolean = doubled_bit h.boolean;
  integer = doubled_bit h.integer;
  function = doubled_functions h.function;
  fields = doubled_records p h.fields;
}

-- heads that are all one, combined
combined_same : (p : Polarity) (h : Parts) (heads : ℕ → Parts) (members : List ℕ) (k : ℕ) → Contains members k → ((j : ℕ) → Contains members j → heads j ≡ h) → IsSameParts (combined p (map heads members)) h
combined_same p h heads [] k there all = absurd (nothing_there k there)
combined_same p h heads (j ∷ []) k there all = subst (λ g. IsSameParts g h) (sym (combined-alone p (heads j) ∙ all j (Contains-here j []))) (same_parts-self h)
combined_same p h heads (j ∷ i ∷ rest) k there all =
    let first : heads j ≡ h = all j (Contains-here j (i ∷ rest)) in
    let later : IsSameParts (combined p (map heads (i ∷ rest))) h = combined_same p h heads (i ∷ rest) i (Contains-here i rest) (λ m it. all m (Contains-later j (i ∷ rest) m it)) in
    same_parts-trans (combined_two p (heads j) (combined p (map heads (i ∷ rest)))) (combined_two p h h) h
    (same_parts-two p (heads j) (combined p (map heads (i ∷ rest))) h h (subst (λ g. IsSameParts g h) (sym first) (same_parts-self h)) later)
    (doubled p h)

-- what is in a place of a head is named by it
pub domain_named : (a : Automaton) (s m : ℕ) → InDomain a s m → Names a s m
domain_named a s m it = inl (it.0, it.1, inl it.2)

pub codomain_named : (a : Automaton) (s m : ℕ) → InCodomain a s m → Names a s m
codomain_named a s m it = inl (it.0, it.1, inr it.2)

pub field_named : (a : Automaton) (s : ℕ) (label : List ℕ) (m : ℕ) → InField a s label m → Names a s m
field_named a s label m it =
    let at = set_at-field it.0 label it.1 it.3 in
    let inside : Contains it.0 at.field = (at.number, slice_get_within it.0 at.number at.field at.there, get_or_from_slice_get it.0 at.number at.field at.field at.there) in
    inr (it.0, it.2, (at.field, inside, subst (λ (set : List ℕ). Contains set m) (sym at.is_set) it.4))

-- goals between states of a region relate states of it alone
module _ (a : Automaton) (states : List ℕ) (region : IsRegion a states) (Goals : ℕ → ℕ → Type 0) (between : (p n : ℕ) → Goals p n → Contains states p × Contains states n) where
  pub related_within : (p n : ℕ) → IsRelated a Goals p n → Contains states p × Contains states n
  related_within p n (goal it) = between p n it
  related_within p n (domain {p = q} {n = m} it from to) =
      let both = related_within q m it in
      ((region.heads m p (domain_named a m p from)).0 both.1, (region.heads q n (domain_named a q n to)).0 both.0)
  related_within p n (codomain {p = q} {n = m} it from to) =
      let both = related_within q m it in
      ((region.heads q p (codomain_named a q p from)).0 both.0, (region.heads m n (codomain_named a m n to)).0 both.1)
  related_within p n (field {p = q} {n = m} label it from to) =
      let both = related_within q m it in
      ((region.heads q p (field_named a q label p from)).0 both.0, (region.heads m n (field_named a m label n to)).0 both.1)
  related_within p n (along {n = m} {q = q} it edge after) = ((related_within p m it).0, (related_within q n after).1)

-- A region is solved.
module _ (a : Automaton) (states : List ℕ) (region : IsRegion a states) (R : ℕ → ℕ → Type 0) (between : (p n : ℕ) → R p n → Contains states p × Contains states n)
    (b : Automaton) (is : IsSolved a R b) (rising : (s : ℕ) → HasRisingLabels (head_at b s).fields) where
  -- a state whose head goes into that of another one
  member_within : (s k : ℕ) → Contains (is.members s) k → (k ≡ s) ⊎ (Contains states k × Contains states s)
  member_within s k it = elim (is.reached s k it) [ inl same ↦ inl same | inr reach ↦ inr (by (polarity_at a s) reach) ]
    where
      by : (p : Polarity) → ReachesBy a R p s k → Contains states k × Contains states s
      by Positive (n, related, edge) = let both = between k n related in (both.0, (region.flows n s edge).0 both.1)
      by Negative (p, edge, related) = let both = between p k related in (both.1, (region.flows s p edge).1 both.0)

  new_flow_within : (n q : ℕ) → IsNewFlow a R n q → Contains states n × Contains states q
  new_flow_within n q (p, m, edge, related, after) = let both = between p m related in ((region.flows n p edge).1 both.0, (region.flows m q after).0 both.1)

  pub solved : ChangesWithin states a b
  solved = record {
    polarity = λ s out. is.polarity s;
    heads = λ s out.
        same_parts-trans (parts_of (head_at b s)) (combined (polarity_at a s) (map (λ j. parts_of (head_at a j)) (is.members s))) (parts_of (head_at a s)) (is.heads s)
        (combined_same (polarity_at a s) (parts_of (head_at a s)) (λ j. parts_of (head_at a j)) (is.members s) s (is.self s) (λ j it. ap (λ k. parts_of (head_at a k)) (alone s out j it)));
    names = λ s t it.
        parts_named (λ t. Names a s t ⊎ (Contains states s × Contains states t)) (polarity_at a s) (head_at b s) (head_at a) (is.members s) (rising s) (is.heads s) (by_member s) t it;
    flows = λ n p edge. elim (is.flows n p edge) [ inl old ↦ inl old | inr new ↦ inr (new_flow_within n p new) ];
    old_flows = λ n p out edge. is.old_flows n p edge;
  }
    where
      alone : (s : ℕ) → (Contains states s → ⊥) → (j : ℕ) → Contains (is.members s) j → j ≡ s
      alone s out j it = elim (member_within s j it) [ inl same ↦ same | inr both ↦ absurd (out both.1) ]

      by_member : (s k t : ℕ) → Contains (is.members s) k → Names a k t → Names a s t ⊎ (Contains states s × Contains states t)
      by_member s k t it names = elim (member_within s k it) [
        | inl same ↦ inl (subst (λ k. Names a k t) same names)
        | inr both ↦ inr (both.1, (region.heads k t names).0 both.0)
      ]

-- A copy comes.
module _ (old new : Live) (is_old : IsLive old) (is_new : IsLive new) (a : Automaton) (closed : IsClosed a) (numbers : List ℕ) (copy : IsCopyAt a numbers new.table) (adds : AddsStates old new numbers)
    (flows : (n p : ℕ) → HasFlow new.table n p ↔ HasFlow old.table n p ⊎ IsCopiedFlow a numbers n p) where
  number_within : (s : ℕ) → s < length a.states → Contains numbers (number_of numbers s)
  number_within s low = Contains-get_or numbers s 0 (subst (λ n. s < n) (sym copy.count) low)

  copied_names : (s t : ℕ) → Contains numbers s → Names new.table s t → Contains numbers t
  copied_names s t here it =
      let place = contains-place numbers s here in
      let i : ℕ = place.0 in
      let low : i < length a.states = subst (λ n. i < n) copy.count place.1 in
      let head : head_at new.table s ≡ renamed_head (number_of numbers) (head_at a i) = ap (head_at new.table) (sym place.2) ∙ copy.embedded.head i low in
      let Q : Polarity → ℕ → Type 0 = λ q k. Contains numbers k in
      named-in (Contains numbers) (polarity_at a i) (renamed_head (number_of numbers) (head_at a i))
      (renamed_states (number_of numbers) (IsState a) Q (λ q k state. number_within k state.in_range) (polarity_at a i) (head_at a i) (closed.heads i)) t
      (subst (λ (h : Head). HeadNames h t) head it)

  copied_ends : (n p : ℕ) → IsCopiedFlow a numbers n p → Contains numbers n × Contains numbers p
  copied_ends n p (i, j, edge, at, at') = (
    subst (Contains numbers) at (number_within i (closed.negative (flow i j) edge).in_range),
    subst (Contains numbers) at' (number_within j (closed.positive (flow i j) edge).in_range),
  )

  pub copied : ChangesWithin numbers old.table new.table
  copied = record {
    polarity = λ s out. ap (λ (x : State). x.polarity) (same s out);
    heads = λ s out. same_head old.table new.table s (same s out);
    names = λ s t it. elim ((adds.there s).0 (naming_there new is_new s t it)) [
      | inl was ↦ inl (subst (λ (x : State). HeadNames x.head t) (adds.others s was) it)
      | inr here ↦ inr (here, copied_names s t here it)
    ];
    flows = λ n p edge. elim ((flows n p).0 edge) [ inl before ↦ inl before | inr came ↦ inr (copied_ends n p came) ];
    old_flows = λ n p out edge. (flows n p).1 (inl edge);
  }
    where
      same : (s : ℕ) → (Contains numbers s → ⊥) → state_at new.table s ≡ state_at old.table s
      same s out = elim (there-or_not old.there s) [
        | inl was ↦ adds.others s was
        | inr free ↦ free_same old new is_old is_new s (λ was. unlike (get_or old.there s false) was free) (λ there. elim ((adds.there s).0 there) [
          | inl was ↦ unlike (get_or old.there s false) was free
          | inr here ↦ out here
        ])
      ]

  pub copied_region : IsRegion new.table numbers
  copied_region = own_region numbers old.table new.table copied (free_region old is_old numbers adds.were_free)

  -- states that were there are apart from it
  pub copied_apart : (others : List ℕ) → ((t : ℕ) → Contains others t → IsThere old t) → AreApart numbers others
  copied_apart others there t it here = unlike (get_or old.there t false) (there t here) (adds.were_free t it)

-- Of a region the states go that heads do not reach from these roots of it.
module _ (old new : Live) (is_old : IsLive old) (is_new : IsLive new) (roots : List StateId) (states : List ℕ) (region : IsRegion old.table states) (there : (s : ℕ) → Contains states s → IsThere old s)
    (roots_in : (r : StateId) → Contains roots r → Contains states r.0)
    (keeps : KeepsThere old new (λ s. IsThere old s × (IsReachedFrom old.table roots s ⊎ (Contains states s → ⊥)))) where
  pub reached_in : (s : ℕ) → IsReachedFrom old.table roots s → Contains states s
  reached_in s (at-root r inside at) = subst (Contains states) at (roots_in r inside)
  reached_in s (by-name {i = i} it names) = (region.heads i s names).0 (reached_in i it)

  -- what stays was there, with the same state
  stayed : (s : ℕ) → IsThere new s → state_at new.table s ≡ state_at old.table s
  stayed s here = keeps.states s ((keeps.there s).0 here)

  old_names : (s t : ℕ) → Names new.table s t → Names old.table s t
  old_names s t it = subst (λ (x : State). HeadNames x.head t) (stayed s (naming_there new is_new s t it)) it

  pub left : ChangesWithin states old.table new.table
  left = record {
    polarity = λ s out. ap (λ (x : State). x.polarity) (same s out);
    heads = λ s out. same_head old.table new.table s (same s out);
    names = λ s t it. inl (old_names s t it);
    flows = λ n p edge. inl ((keeps.flows n p).0 edge).0;
    old_flows = λ n p out edge.
        (keeps.flows n p).1 (edge, ((is_old.negative n p edge).there, inr out), ((is_old.positive n p edge).there, inr (λ here. out ((region.flows n p edge).1 here))));
  }
    where
      same : (s : ℕ) → (Contains states s → ⊥) → state_at new.table s ≡ state_at old.table s
      same s out = elim (there-or_not old.there s) [
        | inl was ↦ keeps.states s (was, inr out)
        | inr free ↦
            free_same old new is_old is_new s (λ was. unlike (get_or old.there s false) was free)
            (λ here. unlike (get_or old.there s false) ((keeps.there s).0 here).0 free)
      ]

  module _ (kept : List ℕ) (are : (s : ℕ) → Contains kept s ↔ IsReachedFrom old.table roots s) where
    still : (s : ℕ) → Contains states s → IsReachedFrom old.table roots s ⊎ (Contains states s → ⊥) → Contains kept s
    still s here (inl reached) = (are s).1 reached
    still s here (inr out) = absurd (out here)

    pub kept_region : IsRegion new.table kept
    kept_region = record {
      heads = λ s t it.
          let names : Names old.table s t = old_names s t it in (
            λ here. (are t).1 (by-name ((are s).0 here) names),
            λ here. still s ((region.heads s t names).1 (reached_in t ((are t).0 here))) ((keeps.there s).0 (naming_there new is_new s t it)).1,
          );
      flows = λ n p it.
          let edge = (keeps.flows n p).0 it in (
            λ here. still p ((region.flows n p edge.0).0 (reached_in n ((are n).0 here))) edge.2.1,
            λ here. still n ((region.flows n p edge.0).1 (reached_in p ((are p).0 here))) edge.1.1,
          );
    }

    -- what is apart from the region is apart from what is left of it
    pub kept_apart : (others : List ℕ) → AreApart states others → AreApart kept others
    kept_apart others apart s here = apart s (reached_in s ((are s).0 here))
