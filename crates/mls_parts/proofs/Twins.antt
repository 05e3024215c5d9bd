-- Automata that get further states and edges.
--     wider_self, wider_then      nothing more, and one after the other
--     wider_state                 one more state
--     wider_flow                  one more edge
--     partner_positive            the partners of a negative state are positive
--     entries_kept                states of binders
use Rattle.std.proofs.Common.{◌≡◌, ◌⊎◌, inl, inr, ℕ, zero, suc, ◌+◌, ◌<◌, List, [], ◌∷◌, ◌++◌, length, get_or, refl, sym, ap, ◌∙◌, subst, arith, All, length-append}
use Rattle.std.specs.Prelude.{◌↔◌}
use Rattle.std.proofs.lemmas.List.{get_or_append_left, get_or_past, get_or_push}
use Rattle.std.proofs.lemmas.List.Elements.{All-push, All-weaker}
use Rattle.mls_book.proofs.LongerBooks.{below_or_more}
use Rattle.mls_automaton.specs.declared.automaton.Flow.{Flow}
use Rattle.mls_automaton.specs.declared.automaton.Head.{Head}
use Rattle.mls_automaton.specs.declared.automaton.Polarity.{Polarity}
use Rattle.mls_automaton.specs.declared.automaton.Polarity.TheVariants.{Negative, Positive}
use Rattle.mls_automaton.specs.declared.automaton.State.{State}
use Rattle.mls_automaton.specs.declared.scheme.EnvEntry.{EnvEntry}
use Rattle.mls_automaton.specs.Automata.{Automaton, empty_head, flow, head_at, polarity_at, state_at, with_state, HasFlow, IsPartner, IsState}
use Rattle.mls_automaton.specs.Models.{IsClosed, IsClosedState}
use Rattle.mls_automaton.proofs.Passing.{states_more}
use Rattle.mls_parts.specs.steps.Twins.{IsWider}

abbrev past : State
past = record { polarity = Positive; head = empty_head }

pub wider_self : (a : Automaton) → IsClosed a → IsWider a a
wider_self a closed = record { closed = closed; kept = λ p s is. is }

pub wider_then : (a b c : Automaton) → IsWider a b → IsWider b c → IsWider a c
wider_then a b c one two = record { closed = two.closed; kept = λ p s is. two.kept p s (one.kept p s is) }

-- what an automaton asks of one of its states
at_state : (a : Automaton) → IsClosed a → (s : ℕ) → IsClosedState a (state_at a s)
at_state a closed s = (closed.heads s, closed.labels s)

more_states : (a b : Automaton) → ((p : Polarity) (s : ℕ) → IsState a p s → IsState b p s) → (x : State) → IsClosedState a x → IsClosedState b x
more_states a b kept x it = (states_more (IsState a) (IsState b) kept x.polarity x.head it.0, it.1)

none_named : (b : Automaton) → IsClosedState b past
none_named b = (record { function = tt; fields = tt }, tt)

-- one more state
module _ (a : Automaton) (x : State) (closed : IsClosed a) (it : IsClosedState a x) where
  abbrev b : Automaton
  b = with_state a x

  old_state : (s : ℕ) → s < length a.states → state_at b s ≡ state_at a s
  old_state s low = get_or_append_left a.states (x ∷ []) past s low

  kept : (p : Polarity) (s : ℕ) → IsState a p s → IsState b p s
  kept p s is = record {
    in_range = let low : s < length a.states = is.in_range in let all : length (a.states ++ x ∷ []) ≡ length a.states + 1 = length-append a.states (x ∷ []) in omega (arith, low, all);
    polarity = ap (λ (y : State). y.polarity) (old_state s is.in_range) ∙ is.polarity;
  }

  closed_state : (s : ℕ) → (s < length a.states) ⊎ ((j : ℕ) × (s ≡ length a.states + j)) → IsClosedState b (state_at b s)
  closed_state s (inl before) = subst (IsClosedState b) (sym (old_state s before)) (more_states a b kept (state_at a s) (at_state a closed s))
  closed_state s (inr (zero, at)) = subst (IsClosedState b) (sym (get_or_push a.states x past s (omega (arith, at)))) (more_states a b kept x it)
  closed_state s (inr (suc j, at)) =
      let all : length (a.states ++ x ∷ []) ≡ length a.states + 1 = length-append a.states (x ∷ []) in
      subst (IsClosedState b) (sym (get_or_past (a.states ++ x ∷ []) s past (omega (arith, all, at)))) (none_named b)

  pub wider_state : IsWider a b
  wider_state = record {
    closed = record {
      heads = λ s. (closed_state s (below_or_more s (length a.states))).0;
      labels = λ s. (closed_state s (below_or_more s (length a.states))).1;
      negative = λ f there. kept Negative f.negative.0 (closed.negative f there);
      positive = λ f there. kept Positive f.positive.0 (closed.positive f there);
    };
    kept = kept;
  }

-- the last state
pub last_state : (a : Automaton) (x : State) → IsState (with_state a x) x.polarity (length a.states)
last_state a x = record {
  in_range = let all : length (a.states ++ x ∷ []) ≡ length a.states + 1 = length-append a.states (x ∷ []) in omega (arith, all);
  polarity = ap (λ (y : State). y.polarity) (get_or_push a.states x past (length a.states) refl);
}

-- one more edge
pub wider_flow : (a b : Automaton) (m q : ℕ) → IsClosed a → b.states ≡ a.states → ((n p : ℕ) → HasFlow b n p ↔ (HasFlow a n p ⊎ ((n ≡ m) × (p ≡ q)))) → IsState a Negative m → IsState a Positive q → IsWider a b
wider_flow a b m q closed same flows negative positive = record {
  closed = record {
    heads = λ s. (closed_state s).0;
    labels = λ s. (closed_state s).1;
    negative = λ f there. from f ((flows f.negative.0 f.positive.0).0 there);
    positive = λ f there. to f ((flows f.negative.0 f.positive.0).0 there);
  };
  kept = kept;
}
  where
    kept : (p : Polarity) (s : ℕ) → IsState a p s → IsState b p s
    kept p s is = record {
      in_range = subst (λ (xs : List State). s < length xs) (sym same) is.in_range;
      polarity = subst (λ (xs : List State). (get_or xs s past).polarity ≡ p) (sym same) is.polarity;
    }

    closed_state : (s : ℕ) → IsClosedState b (state_at b s)
    closed_state s = subst (λ (xs : List State). IsClosedState b (get_or xs s past)) (sym same) (more_states a b kept (state_at a s) (at_state a closed s))

    from : (f : Flow) → HasFlow a f.negative.0 f.positive.0 ⊎ ((f.negative.0 ≡ m) × (f.positive.0 ≡ q)) → IsState b Negative f.negative.0
    from f (inl old) = kept Negative f.negative.0 (closed.negative f old)
    from f (inr new) = subst (IsState b Negative) (sym new.0) (kept Negative m negative)

    to : (f : Flow) → HasFlow a f.negative.0 f.positive.0 ⊎ ((f.negative.0 ≡ m) × (f.positive.0 ≡ q)) → IsState b Positive f.positive.0
    to f (inl old) = kept Positive f.positive.0 (closed.positive f old)
    to f (inr new) = subst (IsState b Positive) (sym new.1) (kept Positive q positive)

-- the partners of a negative state
pub partner_positive : (a : Automaton) → IsClosed a → (s j : ℕ) → IsState a Negative s → IsPartner a s j → IsState a Positive j
partner_positive a closed s j is (inl edge) = closed.positive (flow s j) edge
partner_positive a closed s j is (inr edge) =
    let positive : polarity_at a s ≡ Positive = (closed.positive (flow j s) edge).polarity in
    let negative : polarity_at a s ≡ Negative = is.polarity in
    absurd (cc)

-- states of binders in a wider automaton, and one more
abbrev pub AreNegative : Automaton → List EnvEntry → Type 0
AreNegative a env = All (λ (entry : EnvEntry). IsState a Negative entry.state.0) env

pub entries_kept : (a b : Automaton) (env : List EnvEntry) (entry : EnvEntry) → IsWider a b → AreNegative a env → IsState b Negative entry.state.0 → AreNegative b (env ++ entry ∷ [])
entries_kept a b env entry wider all is =
    All-push (λ (e : EnvEntry). IsState b Negative e.state.0) env entry
    (All-weaker (λ (e : EnvEntry). IsState a Negative e.state.0) (λ (e : EnvEntry). IsState b Negative e.state.0) (λ e h. wider.kept Negative e.state.0 h) env all) is

-- a state with the head of a negative one
abbrev twin : Head → State
twin h = record { polarity = Negative; head = h }

pub twin_wider : (a b : Automaton) (s : ℕ) (h : Head) → IsClosed a → IsState a Negative s → h ≡ head_at a s → b ≡ with_state a (twin h) → IsWider a b
twin_wider a b s h closed is same made =
    let alike : state_at a s ≡ twin h = λ i. record { polarity = is.polarity i; head = sym same i } in
    subst (IsWider a) (sym made) (wider_state a (twin h) closed (subst (IsClosedState a) alike (at_state a closed s)))

pub twin_there : (a b : Automaton) (n : ℕ) (h : Head) → n ≡ length a.states → b ≡ with_state a (twin h) → IsState b Negative n
twin_there a b n h at made = subst (λ c. IsState c Negative n) (sym made) (subst (IsState (with_state a (twin h)) Negative) (sym at) (last_state a (twin h)))

pub entries_none : (a : Automaton) (env : List EnvEntry) → env ≡ [] → AreNegative a env
entries_none a env none = subst (AreNegative a) (sym none) (λ k d low. absurd (omega (arith, low)))
