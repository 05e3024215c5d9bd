-- The needs of binders are met one after another.
--     none_met, next_met
use Rattle.std.proofs.Common.{◌≡◌, ◌⊎◌, inl, inr, ℕ, ◌+◌, ◌<◌, List, [], ◌∷◌, ◌++◌, map, length, Contains, All, refl, sym, ap, ◌∙◌, subst, arith}
use Rattle.std.specs.BTreeMap.{BTreeMap}
use Rattle.std.proofs.lemmas.List.Elements.{All-cons, Contains-append_left, Contains-push, Contains-push_cases}
use Rattle.mls_book.specs.Predicates.{Predicate, Implies}
use Rattle.mls_book.proofs.Lattice.{meet_greatest}
use Rattle.mls_book.proofs.LongerBooks.{below_or_more}
use Rattle.mls_automaton.specs.declared.automaton.Polarity.{Polarity}
use Rattle.mls_automaton.specs.declared.automaton.Polarity.TheVariants.{Negative}
use Rattle.mls_automaton.specs.declared.automaton.Head.{Head}
use Rattle.mls_automaton.specs.declared.automaton.State.{State}
use Rattle.mls_automaton.specs.Automata.{Automaton, head_at, polarity_at, state_at, IsState}
use Rattle.mls_automaton.specs.Heads.{combined, combined_two, head_value, parts_of, IsSameParts}
use Rattle.mls_automaton.specs.Models.{HasRisingLabels, HasStatesIn, IsClosed}
use Rattle.mls_automaton.proofs.Combined.{combined_two-value, same_parts-value}
use Rattle.mls_automaton.proofs.CombinedStates.{HasPartsIn, combined_in, head_in, parts_in, same_in}
use Rattle.mls_flow.specs.Simulations.{IsHeadWithin}
use Rattle.mls_flow.proofs.HeadsWithin.{Same, within-self, within-combined, within-same, within-trans}
use Rattle.mls_scheme.proofs.MetStates.{combined-none}
use Rattle.mls_parts.specs.declared.pose.Need.{Need}
use Rattle.mls_parts.specs.MetNeeds.{HasMet, needy}

abbrev no_needs : List Need
no_needs = []

pub none_met : (a : Automaton) (binders : BTreeMap ℕ ℕ) → IsClosed a → HasMet binders no_needs a a
none_met a binders closed = record {
  same_length = refl;
  polarity = λ s. refl;
  flows = refl;
  others = λ s none. refl;
  needed = λ need there. let low : there.0 < 0 = there.1 in absurd (omega arith);
  states = closed.heads;
  labels = closed.labels;
  below = λ value s f above needs. above;
}

-- two heads, as a list of them
two : (h k : Head) → combined Negative (map parts_of (h ∷ k ∷ [])) ≡ combined_two Negative (parts_of h) (parts_of k)
two h k = ap (combined_two Negative (parts_of h)) (combined-none Negative (parts_of k))

module _ (h k l : Head) (same : IsSameParts (parts_of l) (combined_two Negative (parts_of h) (parts_of k))) where
  within : (x : Head) → Contains (h ∷ k ∷ []) x → IsHeadWithin Same Negative (parts_of x) (parts_of l)
  within x there =
      within-trans Same Same Same (λ i j k e e'. e ∙ e') Negative (parts_of x) (combined_two Negative (parts_of h) (parts_of k)) (parts_of l)
      (subst (IsHeadWithin Same Negative (parts_of x)) (two h k) (within-combined Negative parts_of (h ∷ k ∷ []) x there))
      (within-same Negative (parts_of l) (combined_two Negative (parts_of h) (parts_of k)) same)

  pub first_within : IsHeadWithin Same Negative (parts_of h) (parts_of l)
  first_within = within h (0, omega arith, refl)

  pub second_within : IsHeadWithin Same Negative (parts_of k) (parts_of l)
  second_within = within k (1, omega arith, refl)

  pub both_states : (Q : Polarity → ℕ → Type 0) → HasStatesIn Q Negative h → HasStatesIn Q Negative k → HasRisingLabels l.fields → HasStatesIn Q Negative l
  both_states Q first second labels =
      let each : All (λ (x : Head). HasPartsIn Q Negative (parts_of x)) (h ∷ k ∷ []) =
      All-cons (λ (x : Head). HasPartsIn Q Negative (parts_of x)) h (k ∷ []) (parts_in Q Negative h first)
      (All-cons (λ (x : Head). HasPartsIn Q Negative (parts_of x)) k [] (parts_in Q Negative k second) (λ i d low. absurd (omega arith))) in
      head_in Q Negative l labels
      (same_in Q Negative (parts_of l) (combined_two Negative (parts_of h) (parts_of k)) same
      (subst (HasPartsIn Q Negative) (two h k) (combined_in Q Negative parts_of (h ∷ k ∷ []) each)))

  pub both_below : (value : ℕ → Predicate) (f : Predicate) → Implies f (head_value Negative value h) → Implies f (head_value Negative value k) → Implies f (head_value Negative value l)
  both_below value f first second =
      subst (Implies f) (sym (same_parts-value Negative value (parts_of l) (combined_two Negative (parts_of h) (parts_of k)) same ∙ combined_two-value Negative value (parts_of h) (parts_of k)))
      (meet_greatest (head_value Negative value h) (head_value Negative value k) f first second)

same_or_other : (i j : ℕ) → (i ≡ j) ⊎ (i ≡ j → ⊥)
same_or_other i j = go (below_or_more i j) (below_or_more j i)
  where
    go : (i < j) ⊎ ((k : ℕ) × (i ≡ j + k)) → (j < i) ⊎ ((k : ℕ) × (j ≡ i + k)) → (i ≡ j) ⊎ (i ≡ j → ⊥)
    go (inl low) other = inr (λ e. let same : i ≡ j = e in omega arith)
    go (inr (k, is)) (inl low) = inr (λ e. let same : i ≡ j = e in omega arith)
    go (inr (k, is)) (inr (l, is')) = inl (let one : i ≡ j + k = is in let two : j ≡ i + l = is' in omega arith)

-- one need more
module _ (a m b : Automaton) (binders : BTreeMap ℕ ℕ) (done : List Need) (need : Need) (it : HasMet binders done a m)
    (negative : IsState a Negative (needy binders need)) (need_states : HasStatesIn (IsState a) Negative need.head)
    (state : ℕ) (state_is : state ≡ needy binders need) (l : Head) (same : IsSameParts (parts_of l) (combined_two Negative (parts_of (head_at m state)) (parts_of need.head))) (l_labels : HasRisingLabels l.fields)
    (size_is : length b.states ≡ length m.states) (polarity_is : (j : ℕ) → polarity_at b j ≡ polarity_at m j) (head_is : head_at b state ≡ l)
    (others_are : (j : ℕ) → (j ≡ state → ⊥) → state_at b j ≡ state_at m j) (flows_are : b.flows ≡ m.flows) where
  abbrev more : List Need
  more = done ++ need ∷ []

  other_head : (s : ℕ) → (s ≡ state → ⊥) → head_at b s ≡ head_at m s
  other_head s other = ap (λ (x : State). x.head) (others_are s other)

  is_negative : (s : ℕ) → s ≡ state → polarity_at a s ≡ Negative
  is_negative s e = subst (λ s. polarity_at a s ≡ Negative) (sym (e ∙ state_is)) negative.polarity

  -- each head lies within the next one
  grows : (s : ℕ) → s ≡ state ⊎ (s ≡ state → ⊥) → IsHeadWithin Same Negative (parts_of (head_at m s)) (parts_of (head_at b s))
  grows s (inl e) =
      subst (λ s. IsHeadWithin Same Negative (parts_of (head_at m s)) (parts_of (head_at b s))) (sym e)
      (subst (λ (h : Head). IsHeadWithin Same Negative (parts_of (head_at m state)) (parts_of h)) (sym head_is) (first_within (head_at m state) need.head l same))
  grows s (inr other) = subst (λ (h : Head). IsHeadWithin Same Negative (parts_of (head_at m s)) (parts_of h)) (sym (other_head s other)) (within-self Negative (parts_of (head_at m s)))

  met_need : (n : Need) → Contains done n ⊎ (need ≡ n) → IsHeadWithin Same Negative (parts_of n.head) (parts_of (head_at b (needy binders n)))
  met_need n (inl earlier) =
      within-trans Same Same Same (λ i j k e e'. e ∙ e') Negative (parts_of n.head) (parts_of (head_at m (needy binders n))) (parts_of (head_at b (needy binders n)))
      (it.needed n earlier) (grows (needy binders n) (same_or_other (needy binders n) state))
  met_need n (inr last) =
      subst (λ (n : Need). IsHeadWithin Same Negative (parts_of n.head) (parts_of (head_at b (needy binders n)))) last
      (subst (λ s. IsHeadWithin Same Negative (parts_of need.head) (parts_of (head_at b s))) state_is
      (subst (λ (h : Head). IsHeadWithin Same Negative (parts_of need.head) (parts_of h)) (sym head_is) (second_within (head_at m state) need.head l same)))

  met_states : (s : ℕ) → s ≡ state ⊎ (s ≡ state → ⊥) → HasStatesIn (IsState a) (polarity_at a s) (head_at b s)
  met_states s (inl e) =
      subst (λ (r : Polarity). HasStatesIn (IsState a) r (head_at b s)) (sym (is_negative s e))
      (subst (λ (h : Head). HasStatesIn (IsState a) Negative h) (sym (ap (head_at b) e ∙ head_is))
      (both_states (head_at m state) need.head l same (IsState a)
      (subst (λ (r : Polarity). HasStatesIn (IsState a) r (head_at m state)) (is_negative state refl) (it.states state)) need_states l_labels))
  met_states s (inr other) = subst (HasStatesIn (IsState a) (polarity_at a s)) (sym (other_head s other)) (it.states s)

  met_labels : (s : ℕ) → s ≡ state ⊎ (s ≡ state → ⊥) → HasRisingLabels (head_at b s).fields
  met_labels s (inl e) = subst (λ (h : Head). HasRisingLabels h.fields) (sym (ap (head_at b) e ∙ head_is)) l_labels
  met_labels s (inr other) = subst (λ (h : Head). HasRisingLabels h.fields) (sym (other_head s other)) (it.labels s)

  met_below : (value : ℕ → Predicate) (s : ℕ) (f : Predicate) → s ≡ state ⊎ (s ≡ state → ⊥) → Implies f (head_value Negative value (head_at a s))
      → ((n : Need) → Contains more n → needy binders n ≡ s → Implies f (head_value Negative value n.head)) → Implies f (head_value Negative value (head_at b s))
  met_below value s f (inl e) above needs =
      subst (λ (h : Head). Implies f (head_value Negative value h)) (sym (ap (head_at b) e ∙ head_is))
      (both_below (head_at m state) need.head l same value f
      (subst (λ s. Implies f (head_value Negative value (head_at m s))) e (it.below value s f above (λ n there at. needs n (Contains-append_left done (need ∷ []) n there) at)))
      (needs need (Contains-push done need) (sym (e ∙ state_is))))
  met_below value s f (inr other) above needs =
      subst (λ (h : Head). Implies f (head_value Negative value h)) (sym (other_head s other))
      (it.below value s f above (λ n there at. needs n (Contains-append_left done (need ∷ []) n there) at))

  pub next_met : HasMet binders more a b
  next_met = record {
    same_length = size_is ∙ it.same_length;
    polarity = λ s. polarity_is s ∙ it.polarity s;
    flows = flows_are ∙ it.flows;
    others = λ s none.
        other_head s (λ e. none need (Contains-push done need) (sym (e ∙ state_is)))
        ∙ it.others s (λ n there at. none n (Contains-append_left done (need ∷ []) n there) at);
    needed = λ n there. met_need n (Contains-push_cases done need n there);
    states = λ s. met_states s (same_or_other s state);
    labels = λ s. met_labels s (same_or_other s state);
    below = λ value s f above needs. met_below value s f (same_or_other s state) above needs;
  }
