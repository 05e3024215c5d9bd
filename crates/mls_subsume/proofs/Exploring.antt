-- The search goes over the pairs in the order in which they are met, and meets what one step leads to from each.
--     explore-start        the roots alone
--     explore-step         one more pair is followed
--     explore-done         where all were followed, it is a search
--     state-at             what was met are states of both schemes
use Rattle.std.proofs.Common.{◌≡◌, ◌⊎◌, inl, inr, ℕ, zero, suc, ◌+◌, ◌<◌, ◌≤◌, List, [], ◌∷◌, ◌++◌, refl, sym, ap, ◌∙◌, subst, arith, length, get_or, All, Contains, Some, None, length-append}
use Rattle.std.specs.declared.cmp.Ordering.TheVariants.{Less}
use Rattle.std.proofs.Math.ListN.{get_or-append}
use Rattle.std.proofs.Math.Seq.{get_or-append_seam}
use Rattle.std.proofs.lemmas.Bool.{cases_eq, cases_lt}
use Rattle.std.proofs.lemmas.List.{append-nil, append_assoc, get_or_default}
use Rattle.std.proofs.lemmas.List.Elements.{All-contains, Contains-append_left, Contains-append_right, Contains-append_cases, Contains-get_or}
use Rattle.mls_automaton.specs.declared.automaton.Polarity.{Polarity}
use Rattle.mls_automaton.specs.declared.automaton.Polarity.TheVariants.{Positive}
use Rattle.mls_automaton.specs.declared.scheme.Scheme.{Scheme}
use Rattle.mls_automaton.specs.Automata.{Automaton, head_at, IsState}
use Rattle.mls_automaton.specs.Models.{IsDeterministic}
use Rattle.mls_automaton.specs.Schemes.{IsScheme}
use Rattle.mls_automaton.proofs.Lists.{Contains-here, Contains-cases}
use Rattle.mls_subsume.specs.declared.verdict.Step.{Step}
use Rattle.mls_subsume.specs.Pairs.{Leads, none, IsPathTo}
use Rattle.mls_subsume.specs.Failures.{step_cmp, StepsBefore}
use Rattle.mls_subsume.specs.Searches.{CameBefore, IsAtMost, IsMetBy, IsRising, IsSearch, Met, met_at}
use Rattle.mls_subsume.specs.steps.Queues.{IsMet, Meets}
use Rattle.mls_subsume.specs.steps.Targets.{Follows, Target, head_targets}
use Rattle.mls_subsume.proofs.Completing.{path_after}
use Rattle.mls_subsume.proofs.Countering.{path_states}
use Rattle.mls_subsume.proofs.Queues.{queue_room, step_next}
use Rattle.mls_subsume.proofs.Targeting.{AreStepsRising, leads_target, none-there, target_leads, targets-rise}

abbrev no_met : Met
no_met = record { general = 0; special = 0; steps = [] }

-- lists of pairs that get longer
abbrev IsLonger : List Met → List Met → Type 0
IsLonger old new = (more : List Met) × (new ≡ old ++ more)

longer-refl : (met : List Met) → IsLonger met met
longer-refl met = ([], sym (append-nil met))

longer-trans : (old mid new : List Met) → IsLonger old mid → IsLonger mid new → IsLonger old new
longer-trans old mid new it later = (it.0 ++ later.0, later.1 ∙ (ap (λ xs. xs ++ later.0) it.1 ∙ append_assoc old it.0 later.0))

longer-low : (old new : List Met) → IsLonger old new → (k : ℕ) → k < length old → k < length new
longer-low old new it k low =
    let size : length new ≡ length old + length it.0 = ap length it.1 ∙ length-append old it.0 in
    omega arith

longer-at : (old new : List Met) → IsLonger old new → (k : ℕ) → k < length old → met_at new k ≡ met_at old k
longer-at old new it k low = ap (λ xs. met_at xs k) it.1 ∙ get_or-append old it.0 no_met k low

longer-met : (old new : List Met) → IsLonger old new → (g s : ℕ) (steps : List Step) → IsMetBy old g s steps → IsMetBy new g s steps
longer-met old new it g s steps by = (by.0, subst (λ xs. Contains xs by.0) (sym it.1) (Contains-append_left old it.0 by.0 by.1), by.2, by.3, by.4)

pub met_at-contained : (met : List Met) (m : Met) → Contains met m → (k : ℕ) × (k < length met) × (met_at met k ≡ m)
met_at-contained met m there = (there.0, there.1, get_or_default met there.0 no_met m there.1 ∙ there.2)

pub not-past : (size k : ℕ) → (size ≤ k → ⊥) → k < size
not-past size k more = elim (cases_lt k size) [ inl low ↦ low | inr high ↦ absurd (more high) ]

-- what was met are states of both schemes, of one polarity
module _ (general special : Scheme) (is_g : IsScheme general) (is_s : IsScheme special) where
  abbrev pub AllLead : List Met → Type 0
  AllLead met = (m : Met) → Contains met m → IsPathTo general special m.steps m.general m.special

  pub state-of : (met : List Met) → AllLead met → (m : Met) → Contains met m → (p : Polarity) × IsState general.automaton p m.general × IsState special.automaton p m.special
  state-of met lead m there =
      path_states general.automaton special.automaton is_g.automaton is_s.automaton m.steps general.root.0 special.root.0 m.general m.special (lead m there) Positive is_g.root is_s.root

  pub state-at : (met : List Met) → AllLead met → (k : ℕ) → k < length met → (p : Polarity) × IsState general.automaton p (met_at met k).general × IsState special.automaton p (met_at met k).special
  state-at met lead k low = state-of met lead (met_at met k) (Contains-get_or met k no_met low)

module _ (general special : Scheme) (is_g : IsScheme general) (is_s : IsScheme special) (met : List Met) (it : IsSearch general special met) (k : ℕ) (low : k < length met) where
  pub general-there : (g : ℕ) → g ≡ (met_at met k).general → g < length general.automaton.states
  general-there g is = subst (λ g. g < length general.automaton.states) (sym is) (state-at general special is_g is_s met it.leads k low).1.in_range

  pub special-there : (s : ℕ) → s ≡ (met_at met k).special → s < length special.automaton.states
  special-there s is = subst (λ s. s < length special.automaton.states) (sym is) (state-at general special is_g is_s met it.leads k low).2.in_range

-- the pairs that were met, of which those before this number were followed
pub record IsExploring (general special : Scheme) (met : List Met) (next : ℕ) : Type 0 where
  pub roots : IsMetBy met general.root.0 special.root.0 []
  pub leads : (m : Met) → Contains met m → IsPathTo general special m.steps m.general m.special
  pub closed : (k : ℕ) → k < next → (step : Step) (g s : ℕ) → Leads general.automaton special.automaton step (met_at met k).general (met_at met k).special g s → IsMetBy met g s ((met_at met k).steps ++ step ∷ [])
  pub rising : IsRising met
  pub came : CameBefore met next
  pub low : next ≤ length met

pub explore-done : (general special : Scheme) (met : List Met) (next : ℕ) → IsExploring general special met next → length met ≤ next → IsSearch general special met
explore-done general special met next it all = record {
  roots = it.roots;
  leads = it.leads;
  closed = λ m step g s there leads.
      let at = met_at-contained met m there in
      let low : at.0 < length met = at.1 in
      subst (λ (n : Met). IsMetBy met g s (n.steps ++ step ∷ [])) at.2
      (it.closed at.0 (omega arith) step g s (subst (λ (n : Met). Leads general.automaton special.automaton step n.general n.special g s) (sym at.2) leads));
}

pub explore-start : (general special : Scheme) (met : List Met) → met ≡ record { general = general.root.0; special = special.root.0; steps = [] } ∷ [] → IsExploring general special met 0
explore-start general special met is =
    subst (λ xs. IsExploring general special xs 0) (sym is)
    (record {
      roots = (root, Contains-here root [], refl, refl, inl refl);
      leads = λ m there. elim (Contains-cases root [] m there) [
        | inl same ↦ subst (λ (n : Met). IsPathTo general special n.steps n.general n.special) same none
        | inr later ↦ absurd (none-there m later)
      ];
      closed = λ k low. absurd (omega arith);
      rising = λ j k less low. absurd (omega arith);
      came = λ k more low. absurd (omega arith);
      low = omega arith;
    })
  where
    root : Met
    root = record { general = general.root.0; special = special.root.0; steps = [] }

-- one pair is followed
module _ (general special : Scheme) (i : ℕ) (here : Met) where
  -- what was met so far, and that more from this pair comes later
  record IsFollowing (met : List Met) : Type 0 where
    leads : (m : Met) → Contains met m → IsPathTo general special m.steps m.general m.special
    rising : IsRising met
    came : CameBefore met (i + 1)
    low : i < length met
    at : met_at met i ≡ here

  abbrev HasRoom : List Met → Step → Type 0
  HasRoom met step = (k : ℕ) → k < length met → StepsBefore (met_at met k).steps (here.steps ++ step ∷ [])

  module _ (met : List Met) (it : IsFollowing met) (step : Step) (g s : ℕ) (leads : Leads general.automaton special.automaton step here.general here.special g s) (room : HasRoom met step) where
    abbrev last : Met
    last = record { general = g; special = s; steps = here.steps ++ step ∷ [] }

    abbrev new : List Met
    new = met ++ last ∷ []

    size : length new ≡ length met + 1
    size = length-append met (last ∷ [])

    longer : IsLonger met new
    longer = (last ∷ [], refl)

    at-last : met_at new (length met) ≡ last
    at-last = get_or-append_seam met last [] no_met

    here-there : Contains met here
    here-there = subst (Contains met) it.at (Contains-get_or met i no_met it.low)

    last-leads : IsPathTo general special (here.steps ++ step ∷ []) g s
    last-leads = path_after general.automaton special.automaton here.steps step general.root.0 special.root.0 here.general here.special g s (it.leads here here-there) leads

    new-leads : (m : Met) → Contains new m → IsPathTo general special m.steps m.general m.special
    new-leads m there =
        elim (Contains-append_cases met (last ∷ []) m there) [
          | inl old ↦ it.leads m old
          | inr added ↦ elim (Contains-cases last [] m added) [
            | inl same ↦ subst (λ (n : Met). IsPathTo general special n.steps n.general n.special) same last-leads
            | inr empty ↦ absurd (none-there m empty)
          ]
        ]

    new-rising : IsRising new
    new-rising j k less low =
        let size' : length new ≡ length met + 1 = size in
        elim (cases_eq k (length met)) [
          | inl same ↦
              let low_j : j < length met = omega arith in
              subst (λ n. StepsBefore (met_at new j).steps (met_at new n).steps) (sym same)
              (subst (λ (n : Met). StepsBefore (met_at new j).steps n.steps) (sym at-last)
              (subst (λ (n : Met). StepsBefore n.steps (here.steps ++ step ∷ [])) (sym (longer-at met new longer j low_j)) (room j low_j)))
          | inr other ↦
              let low_k : k < length met = omega arith in
              subst (λ (n : Met). StepsBefore n.steps (met_at new k).steps) (sym (longer-at met new longer j (omega arith)))
              (subst (λ (n : Met). StepsBefore (met_at met j).steps n.steps) (sym (longer-at met new longer k low_k)) (it.rising j k less low_k))
        ]

    new-came : CameBefore new (i + 1)
    new-came k more low =
        let size' : length new ≡ length met + 1 = size in
        let low_i : i < length met = it.low in
        elim (cases_eq k (length met)) [
          | inl same ↦ (
            i,
            step,
            omega arith,
            ap (λ n. (met_at new n).steps) same ∙ (ap (λ (n : Met). n.steps) at-last ∙ ap (λ (n : Met). n.steps ++ step ∷ []) (sym (longer-at met new longer i low_i ∙ it.at))),
          )
          | inr other ↦
              let low_k : k < length met = omega arith in
              let from = it.came k more low_k in
              let before : from.0 < i + 1 = from.2 in (
                from.0,
                from.1,
                from.2,
                ap (λ (n : Met). n.steps) (longer-at met new longer k low_k) ∙ (from.3 ∙ ap (λ (n : Met). n.steps ++ from.1 ∷ []) (sym (longer-at met new longer from.0 (omega arith)))),
              )
        ]

    new-following : IsFollowing new
    new-following = record {
      leads = new-leads;
      rising = new-rising;
      came = new-came;
      low = longer-low met new longer i it.low;
      at = longer-at met new longer i it.low ∙ it.at;
    }

    new-met : IsMetBy new g s (here.steps ++ step ∷ [])
    new-met = (last, Contains-append_right met (last ∷ []) last (Contains-here last []), refl, refl, inl refl)

    old-met : IsMet met g s → IsMetBy met g s (here.steps ++ step ∷ [])
    old-met it =
        let at = met_at-contained met it.0 it.1 in
        (it.0, it.1, it.2, it.3, inr (subst (λ (n : Met). StepsBefore n.steps (here.steps ++ step ∷ [])) at.2 (room at.0 at.1)))

    new-room : (later : Step) → step_cmp step later ≡ Less → HasRoom met later → HasRoom new later
    new-room later less room' k low =
        let size' : length new ≡ length met + 1 = size in
        elim (cases_eq k (length met)) [
          | inl same ↦
              subst (λ n. StepsBefore (met_at new n).steps (here.steps ++ later ∷ [])) (sym same)
              (subst (λ (n : Met). StepsBefore n.steps (here.steps ++ later ∷ [])) (sym at-last) (step_next here.steps step later less))
          | inr other ↦
              let low_k : k < length met = omega arith in
              subst (λ (n : Met). StepsBefore n.steps (here.steps ++ later ∷ [])) (sym (longer-at met new longer k low_k)) (room' k low_k)
        ]

    meets-step : (steps : List Step) → steps ≡ here.steps → (after : List Met) → (IsMet met g s × (after ≡ met)) ⊎ (after ≡ met ++ record { general = g; special = s; steps = steps ++ step ∷ [] } ∷ [])
        → IsLonger met after × IsFollowing after × IsMetBy after g s (here.steps ++ step ∷ []) × ((later : Step) → step_cmp step later ≡ Less → HasRoom met later → HasRoom after later)
    meets-step steps same after (inl (is, stays)) =
        subst (λ xs. IsLonger met xs × IsFollowing xs × IsMetBy xs g s (here.steps ++ step ∷ []) × ((later : Step) → step_cmp step later ≡ Less → HasRoom met later → HasRoom xs later)) (sym stays)
        (longer-refl met, it, old-met is, λ later less room'. room')
    meets-step steps same after (inr added) =
        subst (λ xs. IsLonger met xs × IsFollowing xs × IsMetBy xs g s (here.steps ++ step ∷ []) × ((later : Step) → step_cmp step later ≡ Less → HasRoom met later → HasRoom xs later))
        (sym (added ∙ ap (λ (xs : List Step). met ++ record { general = g; special = s; steps = xs ++ step ∷ [] } ∷ []) same))
        (longer, new-following, new-met, new-room)

  -- all targets one after the other
  follows-all : (met : List Met) (targets : List Target) (after : List Met) → IsFollowing met → AreStepsRising targets
      → ((t : Target) → Contains targets t → Leads general.automaton special.automaton t.step here.general here.special t.general t.special)
      → ((t : Target) → Contains targets t → HasRoom met t.step)
      → Follows met i targets after
      → IsLonger met after × IsFollowing after × ((t : Target) → Contains targets t → IsMetBy after t.general t.special (here.steps ++ t.step ∷ []))
  follows-all met [] after it rising leads room is =
      subst (λ xs. IsLonger met xs × IsFollowing xs × ((t : Target) → Contains [] t → IsMetBy xs t.general t.special (here.steps ++ t.step ∷ []))) (sym is)
      (longer-refl met, it, λ t there. absurd (none-there t there))
  follows-all met (t ∷ targets) after it rising leads room is =
      let mid : List Met = is.0 in
      let first = meets-step met it t.step t.general t.special (leads t (Contains-here t targets)) (room t (Contains-here t targets)) (met_at met i).steps (ap (λ (n : Met). n.steps) it.at) mid is.1 in
      let rest =
      follows-all mid targets after first.1 rising.1 (λ u there. leads u (Contains-append_right (t ∷ []) targets u there))
      (λ u there. first.3 u.step (All-contains (λ (v : Target). step_cmp t.step v.step ≡ Less) targets u rising.0 there) (room u (Contains-append_right (t ∷ []) targets u there)))
      is.2 in (
        longer-trans met mid after first.0 rest.0,
        rest.1,
        λ u there. elim (Contains-cases t targets u there) [
          | inl same ↦ subst (λ (v : Target). IsMetBy after v.general v.special (here.steps ++ v.step ∷ [])) same (longer-met mid after rest.0 t.general t.special (here.steps ++ t.step ∷ []) first.2)
          | inr later ↦ rest.2 u later
        ],
      )

module _ (general special : Scheme) (is_g : IsScheme general) (is_s : IsScheme special) (single_g : IsDeterministic general.automaton) (single_s : IsDeterministic special.automaton) (met after : List Met) (i : ℕ) (it : IsExploring general special met i) (low : i < length met) where
  abbrev here : Met
  here = met_at met i

  abbrev a : Automaton
  a = general.automaton

  abbrev b : Automaton
  b = special.automaton

  abbrev targets : List Target
  targets = head_targets (head_at a here.general) (head_at b here.special)

  came-more : CameBefore met (i + 1)
  came-more k more low_k =
      let from = it.came k more low_k in
      let before : from.0 < i = from.2 in
      (from.0, from.1, omega arith, from.3)

  pub explore-step : Follows met i targets after → IsExploring general special after (i + 1)
  explore-step follows =
      let done =
      follows-all general special i here met targets after
      (record { leads = it.leads; rising = it.rising; came = came-more; low = low; at = refl })
      (targets-rise a b is_g.automaton.labels single_g single_s here.general here.special)
      (target_leads a b is_g.automaton.labels single_g single_s here.general here.special)
      (λ t there k low_k. queue_room met it.rising i low it.came k low_k t.step) follows in
      record {
        roots = longer-met met after done.0 general.root.0 special.root.0 [] it.roots;
        leads = done.1.leads;
        closed = λ k low_k step g s leads. elim (cases_eq k i) [
          | inl same ↦
              let at : met_at after k ≡ here = ap (met_at after) same ∙ done.1.at in
              subst (λ (n : Met). IsMetBy after g s (n.steps ++ step ∷ [])) (sym at)
              (done.2 (record { step = step; general = g; special = s })
              (leads_target a b is_g.automaton.labels single_g single_s here.general here.special step g s
              (subst (λ (n : Met). Leads a b step n.general n.special g s) at leads)))
          | inr other ↦
              let below : k < i = omega arith in
              let at : met_at after k ≡ met_at met k = longer-at met after done.0 k (omega arith) in
              subst (λ (n : Met). IsMetBy after g s (n.steps ++ step ∷ [])) (sym at)
              (longer-met met after done.0 g s ((met_at met k).steps ++ step ∷ []) (it.closed k below step g s (subst (λ (n : Met). Leads a b step n.general n.special g s) at leads)))
        ];
        rising = done.1.rising;
        came = done.1.came;
        low = let low' : i < length after = done.1.low in omega arith;
      }
