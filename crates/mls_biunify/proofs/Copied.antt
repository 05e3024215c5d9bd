-- A table as an automaton with the same numbers.
use Rattle.std.proofs.Common.{◌≡◌, ◌↔◌, inl, inr, ℕ, ◌+◌, ◌<◌, ◌≤◌, ◌∙◌, List, [], ◌∷◌, All, Contains, get_or, length, length-append, Some, refl, sym, ap, subst, arith}
use Rattle.std.proofs.lemmas.Bool.{cases_lt}
use Rattle.std.proofs.lemmas.List.{get_or_past, get_or_push}
use Rattle.std.proofs.lemmas.List.Elements.{All-contains}
use Rattle.mls_automaton.specs.declared.automaton.Polarity.{Polarity}
use Rattle.mls_automaton.specs.declared.automaton.Polarity.TheVariants.{Positive, Negative}
use Rattle.mls_automaton.specs.declared.automaton.Flow.{Flow}
use Rattle.mls_automaton.specs.declared.automaton.State.{State}
use Rattle.mls_automaton.specs.declared.scheme.EnvEntry.{EnvEntry}
use Rattle.mls_automaton.specs.Automata.{Automaton, HasFlow, IsState, empty_head, flow, head_at, polarity_at, state_at, with_state}
use Rattle.mls_automaton.specs.Models.{IsClosed, HasRisingLabels, HasStatesIn}
use Rattle.mls_automaton.proofs.Reaching.{found-entry}
use Rattle.mls_automaton.specs.Schemes.{IsScheme, state_of}
use Rattle.mls_automaton.proofs.IndexedFlows.{state_at-more}
use Rattle.mls_automaton.proofs.Passing.{states_more}
use Rattle.mls_solver.specs.Solutions.{scheme_over}
use Rattle.mls_biunify.specs.Live.{IsStateIn}
use Rattle.mls_biunify.specs.steps.Copying.{AreCopiedStates, CopiesFlows, HasStatesOf, IsCopy}
use Rattle.mls_biunify.specs.steps.Tables.{IsNumbered, Numbered}
use Rattle.mls_biunify.proofs.Collected.{Collected}
use Rattle.mls_biunify.proofs.TableSteps.{table-closed, there-or_not}

pub copied-none : (t : Numbered) (a : Automaton) → a ≡ record { states = []; flows = [] } → AreCopiedStates t 0 a
copied-none t a e = record {
  size = ap (λ (b : Automaton). length b.states) e;
  flows = ap (λ (b : Automaton). b.flows) e;
  states = λ s low. absurd (omega arith);
}

pub copied-more : (t : Numbered) (count : ℕ) (old new : Automaton) → AreCopiedStates t count old → new ≡ with_state old (state_at t.automaton count) → AreCopiedStates t (count + 1) new
copied-more t count old new it e = record {
  size = ap (λ (b : Automaton). length b.states) e ∙ (length-append old.states (state_at t.automaton count ∷ []) ∙ ap (λ n. n + 1) it.size);
  flows = ap (λ (b : Automaton). b.flows) e ∙ it.flows;
  states = λ s low.
      elim (cases_lt s count) [
        | inl less ↦
            ap (λ (b : Automaton). state_at b s) e
            ∙ (state_at-more old (state_at t.automaton count) s (subst (λ n. s < n) (sym it.size) less) ∙ it.states s less)
        | inr high ↦
            let same : s ≡ count = omega arith in
            subst (λ k. state_at new k ≡ state_at t.automaton k) (sym same)
            (ap (λ (b : Automaton). state_at b count) e ∙ get_or_push old.states (state_at t.automaton count) (record { polarity = Positive; head = empty_head }) count it.size)
      ];
}

-- all numbers are below the limit, or free
pub copied-all : (t : Numbered) → IsNumbered t → (a : Automaton) → AreCopiedStates t t.limit a → (s : ℕ) → state_at a s ≡ state_at t.automaton s
copied-all t is a it s =
    elim (cases_lt s t.limit) [
      | inl low ↦ it.states s low
      | inr high ↦
          elim (there-or_not t.there s) [
            | inl there ↦ let low : s < t.limit = is.low s there in absurd (omega arith)
            | inr free ↦ get_or_past a.states s (record { polarity = Positive; head = empty_head }) (subst (λ n. n ≤ s) (sym it.size) high) ∙ sym (is.is.free s free)
          ]
    ]

pub copied-has : (t : Numbered) → IsNumbered t → (a : Automaton) → AreCopiedStates t t.limit a → HasStatesOf t a
copied-has t is a it p s state = record {
  in_range = subst (λ n. s < n) (sym it.size) (is.low s state.there);
  polarity = ap (λ (x : State). x.polarity) (copied-all t is a it s) ∙ state.polarity;
}

pub has-kept : (t : Numbered) (old new : Automaton) → new.states ≡ old.states → HasStatesOf t old → HasStatesOf t new
has-kept t old new e has p s state =
    let it = has p s state in
    record {
      in_range = subst (λ (xs : List State). s < length xs) (sym e) it.in_range;
      polarity = ap (λ (xs : List State). (get_or xs s (record { polarity = Positive; head = empty_head })).polarity) e ∙ it.polarity;
    }

pub copied-is : (t : Numbered) → IsNumbered t → (mid a : Automaton) → AreCopiedStates t t.limit mid → a.states ≡ mid.states → ((n p : ℕ) → HasFlow a n p ↔ HasFlow t.automaton n p) → IsCopy t a
copied-is t is mid a it e flows = record {
  states = λ s. ap (λ (xs : List State). get_or xs s (record { polarity = Positive; head = empty_head })) e ∙ copied-all t is mid it s;
  flows = flows;
  size = ap (λ (xs : List State). length xs) e ∙ it.size;
}

module _ (t : Numbered) (is : IsNumbered t) (a : Automaton) (copy : IsCopy t a) where
  same_head : (s : ℕ) → head_at a s ≡ head_at t.automaton s
  same_head s = ap (λ (x : State). x.head) (copy.states s)

  same_sign : (s : ℕ) → polarity_at a s ≡ polarity_at t.automaton s
  same_sign s = ap (λ (x : State). x.polarity) (copy.states s)

  in_copy : (p : Polarity) (s : ℕ) → IsStateIn t.automaton t.there p s → IsState a p s
  in_copy p s it = record { in_range = subst (λ n. s < n) (sym copy.size) (is.low s it.there); polarity = same_sign s ∙ it.polarity }

  pub copy_closed : IsClosed a
  copy_closed = record {
    heads = λ s.
        subst (λ (x : State). HasStatesIn (IsState a) x.polarity x.head) (sym (copy.states s))
        (states_more (IsStateIn t.automaton t.there) (IsState a) in_copy (polarity_at t.automaton s) (head_at t.automaton s) (is.is.heads s));
    labels = λ s. subst (λ (x : State). HasRisingLabels x.head.fields) (sym (copy.states s)) (is.is.labels s);
    negative = λ f it. in_copy Negative f.negative.0 (is.is.negative f.negative.0 f.positive.0 ((copy.flows f.negative.0 f.positive.0).0 it));
    positive = λ f it. in_copy Positive f.positive.0 (is.is.positive f.negative.0 f.positive.0 ((copy.flows f.negative.0 f.positive.0).0 it));
  }

-- the scheme over a table
module _ (t : Numbered) (is : IsNumbered t) (r : ℕ) (env : List EnvEntry) (is_root : IsStateIn t.automaton t.there Positive r) (is_env : All (λ (entry : EnvEntry). IsStateIn t.automaton t.there Negative entry.state.0) env) where
  in_table : (p : Polarity) (s : ℕ) → IsStateIn t.automaton t.there p s → IsState t.automaton p s
  in_table p s it = record { in_range = is.is.in_range s it.there; polarity = it.polarity }

  binder_there : (x n : ℕ) → state_of env x ≡ Some n → IsStateIn t.automaton t.there Negative n
  binder_there x n e =
      let found = found-entry env x n e in
      subst (IsStateIn t.automaton t.there Negative) found.3 (All-contains (λ (entry : EnvEntry). IsStateIn t.automaton t.there Negative entry.state.0) env found.0 is_env found.1)

  pub table_scheme : IsScheme (scheme_over t.automaton r env)
  table_scheme = record { automaton = table-closed t.automaton t.there is.is; root = in_table Positive r is_root; env = λ x n e. in_table Negative n (binder_there x n e) }

-- the edges from one number after another
pub flows-more : (t : Numbered) (n : ℕ) (old new : Automaton) → ((x : ℕ × ℕ) → HasFlow old x.0 x.1 ↔ ((x.0 < n) × HasFlow t.automaton x.0 x.1)) → CopiesFlows t n old new → (x : ℕ × ℕ) → HasFlow new x.0 x.1 ↔ ((x.0 < n + 1) × HasFlow t.automaton x.0 x.1)
flows-more t n old new so_far it x = (
  λ edge.
      elim ((it.flows x).0 edge) [
        | inl before ↦ let both = (so_far x).0 before in let low : x.0 < n = both.0 in (omega arith, both.1)
        | inr here ↦ let same : x.0 ≡ n = here.0 in (omega arith, subst (λ k. HasFlow t.automaton k x.1) (sym same) here.1)
      ],
  λ both.
      (it.flows x).1 (elim (cases_lt x.0 n) [
        | inl low ↦ inl ((so_far x).1 (low, both.1))
        | inr high ↦
            let low : x.0 < n + 1 = both.0 in
            let same : x.0 ≡ n = omega arith in
            inr (same, subst (λ k. HasFlow t.automaton k x.1) same both.1)
      ]),
)

pub flows-first : (t : Numbered) (a : Automaton) → a.flows ≡ [] → (x : ℕ × ℕ) → HasFlow a x.0 x.1 ↔ ((x.0 < 0) × HasFlow t.automaton x.0 x.1)
flows-first t a e x = (
  λ edge.
      let none : Contains [] (flow x.0 x.1) = subst (λ (fs : List Flow). Contains fs (flow x.0 x.1)) e edge in
      let low : none.0 < 0 = none.1 in
      absurd (omega arith),
  λ both. let low : x.0 < 0 = both.0 in absurd (omega arith),
)

pub flows-last : (t : Numbered) → IsNumbered t → (a : Automaton) (n : ℕ) → t.limit ≤ n → ((x : ℕ × ℕ) → HasFlow a x.0 x.1 ↔ ((x.0 < n) × HasFlow t.automaton x.0 x.1)) → (i j : ℕ) → HasFlow a i j ↔ HasFlow t.automaton i j
flows-last t is a n high it i j = (
  λ edge. ((it (i, j)).0 edge).1,
  λ edge. let low : i < t.limit = is.low i (is.is.negative i j edge).there in (it (i, j)).1 (omega arith, edge),
)

-- a number that is no negative state has no edges
pub flows-none : (t : Numbered) → IsNumbered t → (n : ℕ) (a : Automaton) → (IsStateIn t.automaton t.there Negative n → ⊥) → CopiesFlows t n a a
flows-none t is n a not_negative = record {
  states = refl;
  flows = λ x. (
    λ edge. inl edge,
    λ both. elim both [ inl before ↦ before | inr here ↦ absurd (not_negative (is.is.negative n x.1 here.1)) ],
  );
}

pub copied-to : (t : Numbered) (count : ℕ) (a : Automaton) → AreCopiedStates t count a → count ≡ t.limit → AreCopiedStates t t.limit a
copied-to t count a it e = subst (λ n. AreCopiedStates t n a) e it

pub flows-given : (t : Numbered) (n : ℕ) (old new : Automaton) → new.states ≡ old.states → (after slice : List ℕ) → slice ≡ after → ((p : ℕ) → Contains after p ↔ HasFlow t.automaton n p) → Collected (λ p (x : ℕ × ℕ). (x.0 ≡ n) × (x.1 ≡ p)) (λ x. HasFlow old x.0 x.1) (λ x. HasFlow new x.0 x.1) slice → CopiesFlows t n old new
flows-given t n old new states after slice same is_after it = record {
  states = states;
  flows = λ x. (
    λ edge.
        elim ((it x).0 edge) [
          | inl before ↦ inl before
          | inr given ↦
              let p : ℕ = given.0 in
              let member : Contains after p = subst (λ (xs : List ℕ). Contains xs p) same given.1 in
              inr (given.2.0, subst (HasFlow t.automaton n) (sym given.2.1) ((is_after p).0 member))
        ],
    λ both.
        (it x).1 (elim both [
          | inl before ↦ inl before
          | inr here ↦ inr (x.1, subst (λ (xs : List ℕ). Contains xs x.1) (sym same) ((is_after x.1).1 here.1), (here.0, refl))
        ]),
  );
}
