-- The flows that pairs ask of the special automaton.
--     asked-start, asked-more, asked-done       what one pair asks, edge by edge
--     all-more                                  what all pairs ask, pair by pair
--     one-refused                               whether all of some flows are there
use Rattle.std.proofs.Common.{◌≡◌, ◌⊎◌, inl, inr, ℕ, suc, ◌+◌, ◌<◌, List, [], ◌∷◌, ◌++◌, take, map, refl, sym, ap, ◌∙◌, subst, arith, length, get_or, All, Contains, Some, None}
use Rattle.std.specs.Prelude.{◌↔◌}
use Rattle.std.proofs.Math.Seq.{take-suc}
use Rattle.std.proofs.lemmas.Bool.{cases_eq}
use Rattle.std.proofs.lemmas.List.Elements.{All-append, Contains-append_left, Contains-append_right, Contains-append_cases}
use Rattle.mls_automaton.specs.declared.automaton.Polarity.{Polarity}
use Rattle.mls_automaton.specs.declared.automaton.Polarity.TheVariants.{Positive, Negative}
use Rattle.mls_automaton.specs.declared.automaton.Flow.{Flow}
use Rattle.mls_automaton.specs.Automata.{Automaton, IsPartner, flow, HasFlow, polarity_at}
use Rattle.mls_automaton.specs.Models.{IsClosed}
use Rattle.mls_automaton.proofs.Lists.{All-contained, All-one, Contains-here, Contains-cases, Contains-map, Contains-map_back}
use Rattle.mls_flow.proofs.Fields.{decide_pair}
use Rattle.mls_subsume.specs.Searches.{Met, met_at}
use Rattle.mls_subsume.specs.steps.Asked.{AreAskedBy, IsAsked, IsAskedAt, IsGranted}
use Rattle.mls_subsume.specs.steps.Queues.{IsMet}
use Rattle.mls_subsume.proofs.Targeting.{none-there}

pub asked-start : (met : List Met) (s : ℕ) → AreAskedBy met s [] []
asked-start met s f = (λ there. absurd (none-there f there), λ it. absurd (none-there it.1 it.2))

pub asked-more : (met : List Met) (s : ℕ) (ends partners : List ℕ) (i : ℕ) (flows flows' : List Flow) → i < length ends → AreAskedBy met s (take i ends) flows → ((t : ℕ) → Contains partners t ↔ IsMet met (get_or ends i 0) t)
    → flows' ≡ flows ++ map (λ n. flow n s) partners → AreAskedBy met s (take (i + 1) ends) flows'
asked-more met s ends partners i flows flows' low so-far are added = λ f.
    subst (λ fs. Contains fs f ↔ (f.positive.0 ≡ s) × (h : ℕ) × Contains (take (i + 1) ends) h × IsMet met h f.negative.0) (sym added)
    (subst (λ xs. Contains (flows ++ map (λ n. flow n s) partners) f ↔ (f.positive.0 ≡ s) × (h : ℕ) × Contains xs h × IsMet met h f.negative.0) taken (to f, from f))
  where
    end : ℕ
    end = get_or ends i 0

    taken : take i ends ++ end ∷ [] ≡ take (i + 1) ends
    taken = sym (take-suc ends i 0 low) ∙ ap (λ j. take j ends) (let e : suc i ≡ i + 1 = omega arith in e)

    to : (f : Flow) → Contains (flows ++ map (λ n. flow n s) partners) f → (f.positive.0 ≡ s) × (h : ℕ) × Contains (take i ends ++ end ∷ []) h × IsMet met h f.negative.0
    to f there =
        elim (Contains-append_cases flows (map (λ n. flow n s) partners) f there) [
          | inl old ↦
              let it = (so-far f).0 old in
              (it.0, it.1, Contains-append_left (take i ends) (end ∷ []) it.1 it.2, it.3)
          | inr new ↦
              let it = Contains-map_back (λ n. flow n s) partners f new in
              let met' : IsMet met end it.0 = (are it.0).0 it.1 in (
                ap (λ (x : Flow). x.positive.0) (sym it.2),
                end,
                Contains-append_right (take i ends) (end ∷ []) end (Contains-here end []),
                subst (IsMet met end) (ap (λ (x : Flow). x.negative.0) it.2) met',
              )
        ]

    from : (f : Flow) → (f.positive.0 ≡ s) × (h : ℕ) × Contains (take i ends ++ end ∷ []) h × IsMet met h f.negative.0 → Contains (flows ++ map (λ n. flow n s) partners) f
    from f it =
        elim (Contains-append_cases (take i ends) (end ∷ []) it.1 it.2) [
          | inl old ↦ Contains-append_left flows (map (λ n. flow n s) partners) f ((so-far f).1 (it.0, it.1, old, it.3))
          | inr new ↦ elim (Contains-cases end [] it.1 new) [
            | inl same ↦
                let there : Contains partners f.negative.0 = (are f.negative.0).1 (subst (λ h. IsMet met h f.negative.0) (sym same) it.3) in
                let is : flow f.negative.0 s ≡ f = λ j. flow f.negative.0 (sym it.0 j) in
                Contains-append_right flows (map (λ n. flow n s) partners) f (subst (Contains (map (λ n. flow n s) partners)) is (Contains-map (λ n. flow n s) partners f.negative.0 there))
            | inr none ↦ absurd (none-there it.1 none)
          ]
        ]

-- the ends of the edges at a positive state
pub asked-done : (a : Automaton) (met : List Met) (g s : ℕ) (ends : List ℕ) (flows : List Flow) → IsClosed a → polarity_at a g ≡ Positive → ((j : ℕ) → Contains ends j ↔ IsPartner a g j) → AreAskedBy met s ends flows → (f : Flow) → Contains flows f ↔ IsAsked a met g s f
asked-done a met g s ends flows closed positive are it = λ f. (
  λ there.
      let asked = (it f).0 there in
      (positive, asked.0, asked.1, edge asked.1 ((are asked.1).0 asked.2), asked.3),
  λ asked. (it f).1 (asked.1, asked.2, (are asked.2).1 (inr asked.3), asked.4),
)
  where
    edge : (h : ℕ) → IsPartner a g h → HasFlow a h g
    edge h (inr there) = there
    edge h (inl there) = let negative : polarity_at a g ≡ Negative = (closed.negative (flow g h) there).polarity in let no : Negative ≡ Positive = sym negative ∙ positive in absurd (cc)

-- both ends of an edge are there
pub partner-low : (a : Automaton) (g h : ℕ) → IsClosed a → IsPartner a g h → h < length a.states
partner-low a g h closed (inl there) = (closed.positive (flow g h) there).in_range
partner-low a g h closed (inr there) = (closed.negative (flow h g) there).in_range

-- a negative pair asks nothing
pub asks-nothing : (a : Automaton) (met : List Met) (g s : ℕ) → polarity_at a g ≡ Negative → (f : Flow) → Contains [] f ↔ IsAsked a met g s f
asks-nothing a met g s negative f = (
  λ there. absurd (none-there f there),
  λ asked. let no : Negative ≡ Positive = sym negative ∙ asked.0 in absurd (cc),
)

-- what the pairs before this number ask
abbrev pub AreAskedBefore : Automaton → List Met → ℕ → List Flow → Type 0
AreAskedBefore a met n flows =
    ((f : Flow) → Contains flows f → (k : ℕ) × (k < n) × IsAskedAt a met k f)
    × ((k : ℕ) (f : Flow) → k < n → IsAskedAt a met k f → Contains flows f)

pub all-start : (a : Automaton) (met : List Met) → AreAskedBefore a met 0 []
all-start a met = (λ f there. absurd (none-there f there), λ k f low. absurd (omega arith))

pub all-more : (a : Automaton) (met : List Met) (n : ℕ) (flows flows' asked : List Flow) (g s : ℕ) → g ≡ (met_at met n).general → s ≡ (met_at met n).special → AreAskedBefore a met n flows → ((f : Flow) → Contains asked f ↔ IsAsked a met g s f) → flows' ≡ flows ++ asked → AreAskedBefore a met (n + 1) flows'
all-more a met n flows flows' asked g s is_g is_s it are added = subst (AreAskedBefore a met (n + 1)) (sym added) (each, all)
  where
    here : (f : Flow) → Contains asked f ↔ IsAskedAt a met n f
    here = subst (λ g. (f : Flow) → Contains asked f ↔ IsAsked a met g (met_at met n).special f) is_g (subst (λ s. (f : Flow) → Contains asked f ↔ IsAsked a met g s f) is_s are)

    each : (f : Flow) → Contains (flows ++ asked) f → (k : ℕ) × (k < n + 1) × IsAskedAt a met k f
    each f there =
        elim (Contains-append_cases flows asked f there) [
          | inl old ↦ let at = it.0 f old in let low : at.0 < n = at.1 in (at.0, omega arith, at.2)
          | inr new ↦ (n, omega arith, (here f).0 new)
        ]

    all : (k : ℕ) (f : Flow) → k < n + 1 → IsAskedAt a met k f → Contains (flows ++ asked) f
    all k f low is =
        elim (cases_eq k n) [
          | inl same ↦ Contains-append_right flows asked f ((here f).1 (subst (λ j. IsAskedAt a met j f) same is))
          | inr other ↦ Contains-append_left flows asked f (it.1 k f (omega arith) is)
        ]

-- whether all of some flows are there
pub one-refused : (flows asked : List Flow) → All (Contains flows) asked ⊎ ((f : Flow) × Contains asked f × (Contains flows f → ⊥))
one-refused flows [] = inl (All-contained (Contains flows) [] (λ f none. absurd (none-there f none)))
one-refused flows (f ∷ asked) = go (decide_pair flows f.negative.0 f.positive.0) (one-refused flows asked)
  where
    go : Contains flows (flow f.negative.0 f.positive.0) ⊎ (Contains flows (flow f.negative.0 f.positive.0) → ⊥) → All (Contains flows) asked ⊎ ((g : Flow) × Contains asked g × (Contains flows g → ⊥)) → All (Contains flows) (f ∷ asked) ⊎ ((g : Flow) × Contains (f ∷ asked) g × (Contains flows g → ⊥))
    go (inr lacks) later = inr (f, Contains-here f asked, lacks)
    go (inl there) (inr later) = inr (later.0, Contains-append_right (f ∷ []) asked later.0 later.1, later.2)
    go (inl there) (inl all) = inl (All-contained (Contains flows) (f ∷ asked) (λ g in_all. elim (Contains-cases f asked g in_all) [
      | inl same ↦ subst (Contains flows) same there
      | inr inside ↦ subst (Contains flows) inside.2 (all inside.0 g inside.1)
    ]))

pub there-more : (flows asked : List Flow) (i : ℕ) → i < length asked → All (Contains flows) (take i asked) → Contains flows (get_or asked i (flow 0 0)) → All (Contains flows) (take (i + 1) asked)
there-more flows asked i low all there =
    subst (All (Contains flows)) (sym (take-suc asked i (flow 0 0) low) ∙ ap (λ j. take j asked) (let e : suc i ≡ i + 1 = omega arith in e))
    (All-append (Contains flows) (take i asked) (get_or asked i (flow 0 0) ∷ []) all (All-one (Contains flows) (get_or asked i (flow 0 0)) there))

module _ (a : Automaton) (met : List Met) (n : ℕ) (flows asked : List Flow) (g s : ℕ) (is_g : g ≡ (met_at met n).general) (is_s : s ≡ (met_at met n).special) (are : (f : Flow) → Contains asked f ↔ IsAsked a met g s f) where
  asked-here : (f : Flow) → Contains asked f ↔ IsAskedAt a met n f
  asked-here = subst (λ g. (f : Flow) → Contains asked f ↔ IsAsked a met g (met_at met n).special f) is_g (subst (λ s. (f : Flow) → Contains asked f ↔ IsAsked a met g s f) is_s are)

  pub refused-here : (All (Contains flows) asked → ⊥) → (f : Flow) × IsAskedAt a met n f × (Contains flows f → ⊥)
  refused-here refuses =
      elim (one-refused flows asked) [
        | inl all ↦ absurd (refuses all)
        | inr it ↦ (it.0, (asked-here it.0).0 it.1, it.2)
      ]

  pub granted-here : All (Contains flows) asked → ((k : ℕ) → k < n → IsGranted a met flows k) → (k : ℕ) → k < n + 1 → IsGranted a met flows k
  granted-here all before k low f is =
      elim (cases_eq k n) [
        | inl same ↦
            let there : Contains asked f = (asked-here f).1 (subst (λ j. IsAskedAt a met j f) same is) in
            subst (Contains flows) there.2 (all there.0 f there.1)
        | inr other ↦ before k (omega arith) f is
      ]
