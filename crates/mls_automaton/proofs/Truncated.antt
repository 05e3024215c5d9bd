-- The index of the edges at a state, as states are taken out.
use Rattle.std.proofs.Common.{◌≡◌, ◌≢◌, ◌↔◌, inl, inr, ℕ, ◌<◌, ◌+◌, Bool, true, List, [], ◌∷◌, take, refl, sym, ap, ◌∙◌, subst, arith, length, get_or, Contains, All}
use Rattle.std.specs.Prelude.{min, nat_lt, ◌&&◌}
use Rattle.std.proofs.Math.ListN.{set}
use Rattle.std.proofs.lemmas.Bool.{cases_eq, cases_lt, ltb-true, lt-ltb}
use Rattle.std.proofs.lemmas.List.{get_or_default, get_or-set_same, get_or-set_other, get_or-take, length-set, length-take}
use Rattle.std.proofs.lemmas.List.Elements.{Contains-get_or}
use Rattle.mls_book.proofs.Lattice.{and_both, and_left, and_right}
use Rattle.mls_automaton.specs.declared.automaton.Polarity.{Polarity}
use Rattle.mls_automaton.specs.declared.automaton.Polarity.TheVariants.{Negative, Positive}
use Rattle.mls_automaton.specs.declared.automaton.State.{State}
use Rattle.mls_automaton.specs.declared.automaton.Flow.{Flow}
use Rattle.mls_automaton.specs.Automata.{Automaton, empty_head, HasTrueFlows, IsPartner, IsState, flow}
use Rattle.mls_automaton.specs.Embeddings.{front}
use Rattle.mls_automaton.specs.Indexed.{IsIndexed}
use Rattle.mls_automaton.specs.Sets.{Rises}
use Rattle.mls_automaton.specs.steps.Truncating.{AreForgotten, HasLowPartners, HasSets, IsForgottenAt, Shrinks}
use Rattle.mls_automaton.proofs.Lists.{Contains-here, Contains-cases, Contains-filter, Contains-filtered, passes-filtered}
use Rattle.mls_automaton.proofs.Searches.{next-cases}

shrinks-self : (n : ℕ) (old : List (List ℕ)) → Shrinks n old old
shrinks-self n old = record { same_length = refl; rising = λ s it. it; kept = λ s j it. it; low = λ s j less it. it }

shrinks-both : (n : ℕ) (a b c : List (List ℕ)) → Shrinks n a b → Shrinks n b c → Shrinks n a c
shrinks-both n a b c first second = record {
  same_length = second.same_length ∙ first.same_length;
  rising = λ s it. second.rising s (first.rising s it);
  kept = λ s j it. first.kept s j (second.kept s j it);
  low = λ s j less it. second.low s j less (first.low s j less it);
}

still-low : (n : ℕ) (old new : List (List ℕ)) → Shrinks n old new → (s : ℕ) → HasLowPartners n old s → HasLowPartners n new s
still-low n old new shrinks s low j it = low j (shrinks.kept s j it)

-- one set without the numbers from n on
pub forgotten-at : (n s : ℕ) (old : List (List ℕ)) (was now : List ℕ) → s < length old → was ≡ get_or old s was → ((j : ℕ) → Contains now j ↔ Contains was j × (j < n)) → Rises now → IsForgottenAt n s old (set old s now)
forgotten-at n s old was now in_list is members rises = record {
  shrinks = record {
    same_length = length-set old s now;
    rising = λ t it. elim (cases_eq t s) [
      | inl e ↦ subst Rises (sym (ap (λ k. get_or (set old s now) k []) e ∙ here)) rises
      | inr other ↦ subst Rises (sym (there t other)) it
    ];
    kept = λ t j it. elim (cases_eq t s) [
      | inl e ↦ subst (λ k. Contains (get_or old k []) j) (sym e) (subst (λ xs. Contains xs j) before ((members j).0 (subst (λ xs. Contains xs j) (ap (λ k. get_or (set old s now) k []) e ∙ here) it)).0)
      | inr other ↦ subst (λ xs. Contains xs j) (there t other) it
    ];
    low = λ t j less it. elim (cases_eq t s) [
      | inl e ↦ subst (λ xs. Contains xs j) (sym (ap (λ k. get_or (set old s now) k []) e ∙ here)) ((members j).1 (subst (λ xs. Contains xs j) (sym before) (subst (λ k. Contains (get_or old k []) j) e it), less))
      | inr other ↦ subst (λ xs. Contains xs j) (sym (there t other)) it
    ];
  };
  gone = λ j it. ((members j).0 (subst (λ xs. Contains xs j) here it)).1;
}
  where
    here : get_or (set old s now) s [] ≡ now
    here = get_or-set_same old s now [] in_list

    there : (t : ℕ) → t ≢ s → get_or (set old s now) t [] ≡ get_or old t []
    there t other = get_or-set_other old s t now [] other

    before : was ≡ get_or old s []
    before = is ∙ get_or_default old s was [] in_list

-- both ends of one edge
pub forgotten-one : (n : ℕ) (f : Flow) (a b c : List (List ℕ)) → IsForgottenAt n f.negative.0 a b → IsForgottenAt n f.positive.0 b c → AreForgotten n (f ∷ []) a c
forgotten-one n f a b c first second = record {
  shrinks = shrinks-both n a b c first.shrinks second.shrinks;
  gone = λ g it high. elim (Contains-cases f [] g it) [
    | inl e ↦ subst (λ (h : Flow). HasLowPartners n c h.negative.0 × HasLowPartners n c h.positive.0) e (still-low n b c second.shrinks f.negative.0 first.gone, second.gone)
    | inr none ↦ let low : none.0 < 0 = none.1 in absurd (omega arith)
  ];
}

-- one edge after the other
pub forgotten-next : (n : ℕ) (flows : List Flow) (i : ℕ) (d : Flow) (a b c : List (List ℕ)) → i < length flows → AreForgotten n (take i flows) a b → AreForgotten n (get_or flows i d ∷ []) b c → AreForgotten n (take (i + 1) flows) a c
forgotten-next n flows i d a b c low first second = record {
  shrinks = shrinks-both n a b c first.shrinks second.shrinks;
  gone = λ f it high. elim (next-cases flows i d low f it) [
    | inl before ↦ let both = first.gone f before high in (still-low n b c second.shrinks f.negative.0 both.0, still-low n b c second.shrinks f.positive.0 both.1)
    | inr e ↦ second.gone f (subst (λ (g : Flow). Contains (get_or flows i d ∷ []) g) e (Contains-here (get_or flows i d) [])) high
  ];
}

-- each edge has two sets
pub sets-there : (a : Automaton) (partners : List (List ℕ)) (f : Flow) → IsIndexed a partners → Contains a.flows f → HasSets partners f
sets-there a partners f it there = subst (λ m. (f.negative.0 < m) × (f.positive.0 < m)) (sym it.one_for_each) ((it.flows.negative f there).in_range, (it.flows.positive f there).in_range)

module _ (n : ℕ) (a : Automaton) where
  low-both : Flow → Bool
  low-both f = nat_lt f.negative.0 n && nat_lt f.positive.0 n

  pub front-flow : (f : Flow) → Contains (front n a).flows f → Contains a.flows f × ((f.negative.0 < n) × (f.positive.0 < n))
  unfolding low-both
  front-flow f it =
      let both : (nat_lt f.negative.0 n && nat_lt f.positive.0 n) ≡ true = passes-filtered low-both a.flows f it in (
        Contains-filtered low-both a.flows f it,
        (ltb-true f.negative.0 n (and_left (nat_lt f.negative.0 n) (nat_lt f.positive.0 n) both), ltb-true f.positive.0 n (and_right (nat_lt f.negative.0 n) (nat_lt f.positive.0 n) both)),
      )

  pub flow-front : (f : Flow) → Contains a.flows f → f.negative.0 < n → f.positive.0 < n → Contains (front n a).flows f
  unfolding low-both
  flow-front f it negative positive = Contains-filter low-both a.flows f it (and_both (nat_lt f.negative.0 n) (nat_lt f.positive.0 n) (lt-ltb f.negative.0 n negative) (lt-ltb f.positive.0 n positive))

  front-low : (s : ℕ) → s < length (front n a).states → (s < n) × (s < length a.states)
  front-low s low = let size : length (take n a.states) ≡ min n (length a.states) = length-take n a.states in (omega arith, omega arith)

  pub front-state : (p : Polarity) (s : ℕ) → s < n → IsState a p s → IsState (front n a) p s
  front-state p s low it =
      let size : length (take n a.states) ≡ min n (length a.states) = length-take n a.states in
      let in_list : s < length a.states = it.in_range in
      record { in_range = omega arith; polarity = ap (λ (x : State). x.polarity) (get_or-take n a.states s (record { polarity = Positive; head = empty_head }) low) ∙ it.polarity }

  pub front-true : HasTrueFlows a → HasTrueFlows (front n a)
  front-true flows = record {
    negative = λ f it. let was = front-flow f it in front-state Negative f.negative.0 was.1.0 (flows.negative f was.0);
    positive = λ f it. let was = front-flow f it in front-state Positive f.positive.0 was.1.1 (flows.positive f was.0);
  }

  -- the index of the states that stay
  pub indexed-front : (old new : List (List ℕ)) → IsIndexed a old → AreForgotten n a.flows old new → IsIndexed (front n a) (take n new)
  indexed-front old new indexed forgotten = record {
    one_for_each =
        let size : length (take n a.states) ≡ min n (length a.states) = length-take n a.states in
        let sets : length (take n new) ≡ min n (length new) = length-take n new in
        let same : length new ≡ length old = forgotten.shrinks.same_length in
        let each : length old ≡ length a.states = indexed.one_for_each in
        omega arith;
    rising = λ s low. let both = front-low s low in subst Rises (sym (get_or-take n new s [] both.0)) (forgotten.shrinks.rising s (indexed.rising s both.1));
    members = λ s low j. let both = front-low s low in subst (λ set. Contains set j ↔ IsPartner (front n a) s j) (sym (get_or-take n new s [] both.0)) (to s j both.0 both.1, from s j both.1);
    flows = front-true indexed.flows;
  }
    where
      kept : (s j : ℕ) → s < n → Contains (get_or new s []) j → IsPartner a s j → IsPartner (front n a) s j
      kept s j low there (inl it) = elim (cases_lt j n) [
        | inl less ↦ inl (flow-front (flow s j) it low less)
        | inr more ↦ let less : j < n = (forgotten.gone (flow s j) it (inr more)).0 j there in absurd (omega arith)
      ]
      kept s j low there (inr it) = elim (cases_lt j n) [
        | inl less ↦ inr (flow-front (flow j s) it less low)
        | inr more ↦ let less : j < n = (forgotten.gone (flow j s) it (inl more)).1 j there in absurd (omega arith)
      ]

      to : (s j : ℕ) → s < n → s < length a.states → Contains (get_or new s []) j → IsPartner (front n a) s j
      to s j low in_list there = kept s j low there ((indexed.members s in_list j).0 (forgotten.shrinks.kept s j there))

      from : (s j : ℕ) → s < length a.states → IsPartner (front n a) s j → Contains (get_or new s []) j
      from s j in_list (inl it) = let was = front-flow (flow s j) it in forgotten.shrinks.low s j was.1.1 ((indexed.members s in_list j).1 (inl was.0))
      from s j in_list (inr it) = let was = front-flow (flow j s) it in forgotten.shrinks.low s j was.1.0 ((indexed.members s in_list j).1 (inr was.0))

-- an index of the states and edges that stay, as lists of their own
pub indexed-truncated : (n : ℕ) (a : Automaton) (old new sets : List (List ℕ)) (list : List Flow) (b : Automaton) → IsIndexed a old → list ≡ a.flows → AreForgotten n list old new → sets ≡ take n new → b ≡ front n a → IsIndexed b sets
indexed-truncated n a old new sets list b indexed same forgotten is-sets is-front =
    rw (is-sets, is-front) (indexed-front n a old new indexed (subst (λ (fs : List Flow). AreForgotten n fs old new) same forgotten))

-- each edge has two sets, in the list of the edges by place
pub all-sets-there : (a : Automaton) (partners : List (List ℕ)) (list : List Flow) → IsIndexed a partners → list ≡ a.flows → All (HasSets partners) list
all-sets-there a partners list it same = subst (λ (fs : List Flow). All (HasSets partners) fs) (sym same) (λ k d low. sets-there a partners (get_or a.flows k d) it (Contains-get_or a.flows k d low))
