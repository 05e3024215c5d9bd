-- Edges from a new state leave all states as they were.
--     state_kept          a state of the table stays one
--     grown_state         also where the table grows
--     state_came          the state that came
--     ends_live           the ends of edges are positive states then
--     met_states, met_by  one state for several
use Rattle.std.proofs.Common.{◌≡◌, ◌⊎◌, ◌↔◌, inl, inr, ℕ, Bool, true, false, List, [], ◌∷◌, get_or, refl, sym, ap, ◌∙◌, subst, Contains, All}
use Rattle.mls_automaton.specs.declared.automaton.Polarity.{Polarity}
use Rattle.mls_automaton.specs.declared.automaton.Polarity.TheVariants.{Positive, Negative}
use Rattle.mls_automaton.specs.declared.automaton.State.{State}
use Rattle.mls_automaton.specs.declared.automaton.Head.{Head}
use Rattle.mls_automaton.specs.declared.scheme.EnvEntry.{EnvEntry}
use Rattle.mls_automaton.specs.Automata.{HasFlow, empty_head, head_at, polarity_at}
use Rattle.mls_automaton.specs.Heads.{IsSameParts, parts_of}
use Rattle.mls_automaton.specs.Models.{HasRisingLabels, HasStatesIn}
use Rattle.mls_automaton.proofs.CombinedStates.{HasPartsIn, combined_in, head_in, parts_in, same_in}
use Rattle.mls_automaton.proofs.Lists.{All-contained, Contains-here}
use Rattle.mls_biunify.specs.Live.{IsLive, IsLiveState, Live}
use Rattle.mls_infer.specs.Constraints.{negative}
use Rattle.mls_infer.specs.Meets.{HasFlowOfOne, MeetsAt, parts_together}
use Rattle.mls_infer.specs.Pending.{Grows}
use Rattle.mls_infer.proofs.Growths.{grown_insert}
use Rattle.mls_infer.proofs.MetParts.{meets_from}

pub state_kept : (old new : Live) (p : Polarity) (s : ℕ) → new.table.states ≡ old.table.states → new.there ≡ old.there → IsLiveState old p s → IsLiveState new p s
state_kept old new p s states numbers is = record {
  there = subst (λ (bits : List Bool). get_or bits s false ≡ true) (sym numbers) is.there;
  polarity = ap (λ (xs : List State). (get_or xs s (record { polarity = Positive; head = empty_head })).polarity) states ∙ is.polarity;
}

pub grown_state : (old new : Live) (states : List (ℕ × State)) (edges : List (ℕ × ℕ)) → Grows old new states edges → (p : Polarity) (s : ℕ) → IsLiveState old p s → IsLiveState new p s
grown_state old new states edges grows p s is = record {
  there = (grows.there s).1 (inl is.there);
  polarity = ap (λ (x : State). x.polarity) (grows.others s is.there) ∙ is.polarity;
}

pub ends_live : (old new : Live) (states : List (ℕ × State)) (edges : List (ℕ × ℕ)) → IsLive old → Grows old new states edges → (entries : List EnvEntry) (ends : List ℕ)
    → ((p : ℕ) → Contains ends p ↔ HasFlowOfOne old.table entries p) → All (IsLiveState new Positive) ends
ends_live old new states edges is grows entries ends are =
    All-contained (IsLiveState new Positive) ends
    (λ p it. let edge = (are p).0 it in grown_state old new states edges grows Positive p (is.positive edge.0.state.0 p edge.2))

-- One state for several: its head names states of the table, and it meets them.
module _ (old : Live) (entries : List EnvEntry) (head : Head) (same : IsSameParts (parts_of head) (parts_together old.table entries)) where
  pub met_states : IsLive old → All (λ (entry : EnvEntry). IsLiveState old Negative entry.state.0) entries → HasRisingLabels head.fields → HasStatesIn (IsLiveState old) Negative head
  met_states is_old are labels =
      head_in (IsLiveState old) Negative head labels
      (same_in (IsLiveState old) Negative (parts_of head) (parts_together old.table entries) same
      (combined_in (IsLiveState old) Negative (λ (e : EnvEntry). parts_of (head_at old.table e.state.0)) entries (λ k d low. at (get_or entries k d) (are k d low).polarity)))
    where
      at : (e : EnvEntry) → polarity_at old.table e.state.0 ≡ Negative → HasPartsIn (IsLiveState old) Negative (parts_of (head_at old.table e.state.0))
      at e negative =
          parts_in (IsLiveState old) Negative (head_at old.table e.state.0) (subst (λ p. HasStatesIn (IsLiveState old) p (head_at old.table e.state.0)) negative (is_old.heads e.state.0))

  pub met_by : (mid new : Live) (state : ℕ) → Grows old mid ((state, negative head) ∷ []) [] → (ends : List ℕ) → ((p : ℕ) → Contains ends p ↔ HasFlowOfOne old.table entries p)
      → new.table.states ≡ mid.table.states → new.there ≡ mid.there → ((n p : ℕ) → HasFlow new.table n p ↔ HasFlow mid.table n p ⊎ ((n ≡ state) × Contains ends p))
      → MeetsAt entries state old new
  met_by mid new state grows ends are states numbers flows =
      meets_from old mid new entries state (negative head) (grown_insert old mid state (negative head) grows) refl same states numbers
      (λ n p. (
        λ edge. elim ((flows n p).0 edge) [ inl before ↦ inl before | inr came ↦ inr (came.0, (are p).0 came.1) ],
        λ edge. (flows n p).1 (elim edge [ inl before ↦ inl before | inr came ↦ inr (came.0, (are p).1 came.1) ]),
      ))

-- the state that came
pub state_came : (old new : Live) (s : ℕ) (state : State) → Grows old new ((s, state) ∷ []) [] → IsLiveState new state.polarity s
state_came old new s state grows = record {
  there = (grows.there s).1 (inr (Contains-here s []));
  polarity = ap (λ (x : State). x.polarity) (grows.here s state (Contains-here (s, state) []));
}
