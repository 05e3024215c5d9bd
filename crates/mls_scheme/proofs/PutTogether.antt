-- The scheme that took another into it.
--     pairs-in                what binders of both have are negative states
--     absorbed, new_scheme    it is as it is to be, and a scheme
use Rattle.std.proofs.Common.{◌≡◌, ℕ, ◌+◌, ◌-◌, ◌<◌, ◌≤◌, List, map, refl, sym, ap, ◌∙◌, subst, arith, length, get_or, All, Some, None}
use Rattle.std.specs.Prelude.{Option, option_map}
use Rattle.mls_automaton.specs.declared.automaton.Polarity.{Polarity}
use Rattle.mls_automaton.specs.declared.automaton.Polarity.TheVariants.{Positive, Negative}
use Rattle.mls_automaton.specs.declared.automaton.State.{State}
use Rattle.mls_automaton.specs.declared.scheme.EnvEntry.{EnvEntry}
use Rattle.mls_automaton.specs.declared.scheme.Scheme.{Scheme}
use Rattle.mls_automaton.specs.Automata.{Automaton, IsState}
use Rattle.mls_automaton.specs.Embeddings.{appended, front}
use Rattle.mls_automaton.specs.Models.{IsClosed}
use Rattle.mls_automaton.specs.Schemes.{state_of, IsScheme}
use Rattle.mls_automaton.proofs.Appends.{first-embedded, length-appended, second-embedded}
use Rattle.mls_automaton.proofs.Fronts.{front-appended, front-self}
use Rattle.mls_scheme.specs.Merged.{IsAbsorbed, IsMergedBinder, IsNew}
use Rattle.mls_scheme.specs.declared.environments.Shared.{Shared}
use Rattle.mls_scheme.specs.steps.Environments.{pair_at, raised_entry, IsMet, IsPairOf}
use Rattle.mls_scheme.specs.steps.Meeting.{first_of, second_of, HasBinders, HasSameFront, IsPairIn, IsPutTogether}
use Rattle.mls_scheme.proofs.MetEnvironments.{state-raised}

-- the binders of both are negative states of the two side by side
module _ (old : Automaton) (from : Scheme) (env : List EnvEntry) (closed : IsClosed old) (binders : HasBinders old env) (is_from : IsScheme from) where
  abbrev a : Automaton
  a = appended old from.automaton

  first-binder : (x s : ℕ) → state_of env x ≡ Some s → IsState a Negative s
  first-binder x s e =
      let state = binders x s e in
      let it = first-embedded old from.automaton closed is_from.automaton in
      record { in_range = it.in_range s state.in_range; polarity = it.polarity s state.in_range ∙ state.polarity }

  moved : (o : Option ℕ) (s : ℕ) → ((j : ℕ) → o ≡ Some j → IsState from.automaton Negative j) → option_map (λ j. length old.states + j) o ≡ Some s → IsState a Negative s
  moved None s states e = absurd (cc)
  moved (Some j) s states e =
      let state = states j refl in
      let it = second-embedded old from.automaton closed is_from.automaton in
      let same : length old.states + j ≡ s = cc in
      subst (IsState a Negative) same (record { in_range = it.in_range j state.in_range; polarity = it.polarity j state.in_range ∙ state.polarity })

  second-binder : (x s : ℕ) → state_of (map (raised_entry (length old.states)) from.env) x ≡ Some s → IsState a Negative s
  second-binder x s e = moved (state_of from.env x) s (is_from.env x) (sym (state-raised (length old.states) from.env x) ∙ e)

  pub pairs-in : (new : Automaton) (raised : List EnvEntry) (up : ℕ) (shared : List Shared) → new ≡ a → up ≡ length old.states → raised ≡ map (raised_entry up) from.env → All (IsPairOf env raised) shared → All (IsPairIn new) shared
  pairs-in new raised up shared is at same all k d low =
      let it = all k d low in
      let is-raised : raised ≡ map (raised_entry (length old.states)) from.env = same ∙ ap (λ n. map (raised_entry n) from.env) at in
      subst (λ (b : Automaton). IsPairIn b (get_or shared k d)) (sym is)
      (first-binder it.0 (get_or shared k d).first.0 it.1, second-binder it.0 (get_or shared k d).second.0 (subst (λ (es : List EnvEntry). state_of es it.0 ≡ Some (get_or shared k d).second.0) is-raised it.2))

module _ (new into from : Scheme) (place : ℕ) (is_into : IsScheme into) (is_from : IsScheme from) (root : new.root ≡ into.root) (it : IsPutTogether into.automaton new.automaton into.env from new.env place) where
  abbrev whole : Automaton
  whole = appended into.automaton from.automaton

  abbrev up : ℕ → ℕ
  up s = length into.automaton.states + s

  abbrev start : ℕ
  start = length whole.states

  abbrev one : ℕ → ℕ
  one = first_of start it.shared

  abbrev other : ℕ → ℕ
  other = second_of start it.shared

  at-number : (k : ℕ) → start + k - start ≡ k
  at-number k = omega arith

  new-number : (k : ℕ) → k < length it.shared → IsNew whole new.automaton (start + k)
  new-number k low = let all : length new.automaton.states ≡ start + length it.shared = it.many in (omega arith, omega arith)

  binder : (l r o : Option ℕ) → IsMet start it.shared l r o → IsMergedBinder one other whole new.automaton l r o
  binder None r o is = is
  binder (Some m) None o is = is
  binder (Some m) (Some n) o is = (
    start + is.0,
    is.1,
    new-number is.0 is.2,
    ap (λ k. (pair_at it.shared k).first.0) (at-number is.0) ∙ ap (λ (p : Shared). p.first.0) is.3,
    ap (λ k. (pair_at it.shared k).second.0) (at-number is.0) ∙ ap (λ (p : Shared). p.second.0) is.3,
  )

  pub absorbed : IsAbsorbed new into from place
  absorbed = record {
    first = one;
    second = other;
    automaton = it.automaton;
    env = λ x.
        subst (λ r. IsMergedBinder one other whole new.automaton (state_of into.env x) r (state_of new.env x)) (state-raised (length into.automaton.states) from.env x)
        (binder (state_of into.env x) (state_of (map (raised_entry (length into.automaton.states)) from.env) x) (state_of new.env x) (it.state x));
    root = ap (λ s. s.0) root;
    place_is = it.place_is;
  }

  kept : (p : Polarity) (s : ℕ) → IsState whole p s → IsState new.automaton p s
  kept p s state =
      let low : s < length whole.states = state.in_range in
      let more : length whole.states ≤ length new.automaton.states = it.automaton.longer in
      record { in_range = omega arith; polarity = ap (λ (x : State). x.polarity) (it.automaton.old s low) ∙ state.polarity }

  negative : (x n : ℕ) (l r o : Option ℕ) → l ≡ state_of into.env x → r ≡ state_of (map (raised_entry (length into.automaton.states)) from.env) x → IsMet start it.shared l r o → o ≡ Some n → IsState new.automaton Negative n
  negative x n None r o is-l is-r is e = kept Negative n (second-binder into.automaton from into.env is_into.automaton is_into.env is_from x n (sym is-r ∙ (sym is ∙ e)))
  negative x n (Some m) None o is-l is-r is e =
      let same : Some m ≡ Some n = sym is ∙ e in
      kept Negative n (first-binder into.automaton from into.env is_into.automaton is_into.env is_from x n (sym is-l ∙ same))
  negative x n (Some m) (Some j) o is-l is-r is e =
      let both : Some (start + is.0) ≡ Some n = sym is.1 ∙ e in
      let same : start + is.0 ≡ n = cc in
      let new-one = new-number is.0 is.2 in
      subst (IsState new.automaton Negative) same (record { in_range = new-one.1; polarity = it.automaton.polarity (start + is.0) new-one })

  pub new_scheme : IsScheme new
  new_scheme = record {
    automaton = it.closed;
    root =
        subst (λ s. IsState new.automaton Positive s.0) (sym root)
        (let first = first-embedded into.automaton from.automaton is_into.automaton is_from.automaton in
        kept Positive into.root.0 (record { in_range = first.in_range into.root.0 is_into.root.in_range; polarity = first.polarity into.root.0 is_into.root.in_range ∙ is_into.root.polarity }));
    env = λ x n e. negative x n (state_of into.env x) (state_of (map (raised_entry (length into.automaton.states)) from.env) x) (state_of new.env x) refl refl (it.state x) e;
  }

-- what was there before stays
pub front-behind : (old b mid : Automaton) → mid ≡ appended old b → HasSameFront (length old.states) old mid
front-behind old b mid is m low = ap (front m) is ∙ front-appended m old b low

pub front-after : (old b mid new : Automaton) → mid ≡ appended old b → HasSameFront (length mid.states) mid new → HasSameFront (length old.states) old new
front-after old b mid new is same m low =
    let size : length mid.states ≡ length old.states + length b.states = ap (λ (a : Automaton). length a.states) is ∙ length-appended old b in
    same m (omega arith) ∙ front-behind old b mid is m low

pub front-back : (old new : Automaton) (n : ℕ) → IsClosed old → n ≡ length old.states → HasSameFront (length old.states) old new → front n new ≡ old
front-back old new n closed at same =
    ap (λ k. front k new) at
    ∙ (same (length old.states) (omega arith)
    ∙ front-self old (record { negative = closed.negative; positive = closed.positive }))
