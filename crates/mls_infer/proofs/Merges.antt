-- Entries of the environment of a constraint that give way to fewer, one after another.
--     extended_refl, extended_trans, extended_met
--     merges_refl, merges_members, merges_trans, merges_append
--     merges_met           a new state for two
--     merges_types         what comes of the whole environment
use Rattle.std.proofs.Common.{◌≡◌, ◌⊎◌, inl, inr, ℕ, ◌+◌, ◌<◌, ◌≤◌, List, [], ◌∷◌, ◌++◌, length, refl, sym, ap, ◌∙◌, subst, arith, Contains, get_or}
use Rattle.std.proofs.lemmas.List.{append-nil, append_assoc, get_or_append_left, length-append}
use Rattle.std.proofs.lemmas.List.Elements.{Contains-append_left, Contains-append_right, Contains-append_cases}
use Rattle.mls_book.specs.Predicates.{Predicate}
use Rattle.mls_automaton.specs.declared.automaton.Polarity.TheVariants.{Positive, Negative}
use Rattle.mls_automaton.specs.declared.automaton.State.{State}
use Rattle.mls_automaton.specs.declared.state_set.StateId.{StateId}
use Rattle.mls_automaton.specs.declared.scheme.EnvEntry.{EnvEntry}
use Rattle.mls_automaton.specs.declared.scheme.Scheme.{Scheme}
use Rattle.mls_automaton.specs.Automata.{Automaton, HasFlow, empty_head, head_at, IsState}
use Rattle.mls_automaton.specs.Heads.{parts_of, combined_two}
use Rattle.mls_automaton.specs.Models.{IsClosed}
use Rattle.mls_automaton.proofs.Combined.{combined_two-value, same_parts-value}
use Rattle.mls_automaton.proofs.Lists.{Contains-here, Contains-later, Contains-cases}
use Rattle.mls_scheme.proofs.MetStates.{closed-met, is_old, is_new}
use Rattle.mls_infer.specs.Constraints.{Constraint, id, HasTypes, HasStates, IsMerged, negative}
use Rattle.mls_infer.specs.Merges.{over, AreBetween, AreNegative, HasSameMembers, HaveSameTypes, IsExtended, IsMet, Merges}
use Rattle.mls_infer.proofs.ConstraintRows.{nothing_in}
use Rattle.mls_infer.proofs.Merging.{merged_types}

-- the types go by the members of the environment
module _ (a : Automaton) (root : StateId) (goals : List (ℕ × ℕ)) where
  fewer_types : (xs ys : List EnvEntry) → ((e : EnvEntry) → Contains ys e → Contains xs e) → (types : ℕ → Predicate) (f : Predicate) → HasTypes (over a xs root goals) types f → HasTypes (over a ys root goals) types f
  fewer_types xs ys within types f h = record {
    nodes = h.nodes;
    closed = h.closed;
    value = h.value;
    held = h.held;
    model = h.model;
    goals = h.goals;
    root = h.root;
    env = λ e inside. h.env e (within e inside);
  }

  pub members_types : (xs ys : List EnvEntry) → HasSameMembers xs ys → HaveSameTypes (over a xs root goals) (over a ys root goals)
  members_types xs ys same types f = (fewer_types xs ys (λ e. (same e).1) types f, fewer_types ys xs (λ e. (same e).0) types f)

pub types_trans : (c d e : Constraint) → HaveSameTypes c d → HaveSameTypes d e → HaveSameTypes c e
types_trans c d e first second types f = (λ h. (second types f).0 ((first types f).0 h), λ h. (first types f).1 ((second types f).1 h))

module _ {X : Type 0} where
  -- the first two of three lists change places
  swap_in : (xs ys zs : List X) (x : X) → Contains (xs ++ (ys ++ zs)) x → Contains (ys ++ (xs ++ zs)) x
  swap_in xs ys zs x it = elim (Contains-append_cases xs (ys ++ zs) x it) [
    | inl first ↦ Contains-append_right ys (xs ++ zs) x (Contains-append_left xs zs x first)
    | inr later ↦ elim (Contains-append_cases ys zs x later) [
      | inl second ↦ Contains-append_left ys (xs ++ zs) x second
      | inr third ↦ Contains-append_right ys (xs ++ zs) x (Contains-append_right xs zs x third)
    ]
  ]

  pub swapped_in : (xs ys zs : List X) → HasSameMembers (xs ++ (ys ++ zs)) (ys ++ (xs ++ zs))
  swapped_in xs ys zs x = (swap_in xs ys zs x, swap_in ys xs zs x)

  both_in : (P : X → Type 0) (xs ys : List X) → ((x : X) → Contains xs x → P x) → ((x : X) → Contains ys x → P x) → (x : X) → Contains (xs ++ ys) x → P x
  both_in P xs ys first second x it = elim (Contains-append_cases xs ys x it) [ inl one ↦ first x one | inr other ↦ second x other ]

  append_more : (xs ys zs : List X) → ((x : X) → Contains xs x → Contains ys x) → (x : X) → Contains (xs ++ zs) x → Contains (ys ++ zs) x
  append_more xs ys zs more = both_in (Contains (ys ++ zs)) xs zs (λ x it. Contains-append_left ys zs x (more x it)) (λ x it. Contains-append_right ys zs x it)

pub extended_refl : (a : Automaton) → IsExtended a a
extended_refl a = record { longer = omega arith; heads = λ s low. refl; flows = λ n p low. (λ h. h, λ h. h) }

pub extended_trans : (a b c : Automaton) → IsExtended a b → IsExtended b c → IsExtended a c
extended_trans a b c first second =
    let one : length a.states ≤ length b.states = first.longer in
    let two : length b.states ≤ length c.states = second.longer in
    record {
      longer = omega arith;
      heads = λ s low. second.heads s (omega arith) ∙ first.heads s low;
      flows = λ n p low.
          let one = first.flows n p low in
          let two = second.flows n p (omega arith) in
          (λ h. one.0 (two.0 h), λ h. two.1 (one.1 h));
    }

-- a new state for two
pub extended_met : (first second state : ℕ) (a b : Automaton) → IsMet first second state a b → IsExtended a b
extended_met first second state a b met =
    let states : b.states ≡ a.states ++ met.adds.state ∷ [] = met.adds.states in
    let size : length b.states ≡ length a.states + 1 = ap length states ∙ length-append a.states (met.adds.state ∷ []) in
    record {
      longer = omega arith;
      heads = λ s low. let d : State = record { polarity = Positive; head = empty_head } in
          ap (λ (xs : List State). (get_or xs s d).head) states ∙ ap (λ (x : State). x.head) (get_or_append_left a.states (met.adds.state ∷ []) d s low);
      flows = λ n p low. (λ h. old n p low ((met.adds.flows n p).0 h), λ h. (met.adds.flows n p).1 (inl h));
    }
  where
    old : (n p : ℕ) → n < length a.states → HasFlow a n p ⊎ ((n ≡ length a.states) × (HasFlow a first p ⊎ HasFlow a second p)) → HasFlow a n p
    old n p low (inl h) = h
    old n p low (inr h) = let at : n ≡ length a.states = h.0 in absurd (omega arith)

pub merges_members : (a : Automaton) (xs ys : List EnvEntry) → IsClosed a → AreNegative a xs → HasSameMembers xs ys → Merges a xs a ys
merges_members a xs ys closed are same = record {
  closed = closed;
  extended = extended_refl a;
  states = λ p s is. is;
  negative = λ e inside. are e ((same e).1 inside);
  types = λ others root goals more is between.
      members_types a root goals (xs ++ others) (ys ++ others) (λ e. (append_more xs ys others (λ e. (same e).0) e, append_more ys xs others (λ e. (same e).1) e));
}

pub merges_refl : (a : Automaton) (xs : List EnvEntry) → IsClosed a → AreNegative a xs → Merges a xs a xs
merges_refl a xs closed are = merges_members a xs xs closed are (λ e. (λ h. h, λ h. h))

module _ (a b c : Automaton) where
  pub merges_trans : (xs ys zs : List EnvEntry) → Merges a xs b ys → Merges b ys c zs → Merges a xs c zs
  merges_trans xs ys zs first second = record {
    closed = second.closed;
    extended = extended_trans a b c first.extended second.extended;
    states = λ p s is. second.states p s (first.states p s is);
    negative = second.negative;
    types = λ others root goals more is between.
        types_trans (over a (xs ++ others) root goals) (over b (ys ++ others) root goals) (over c (zs ++ others) root goals)
        (first.types others root goals more is between)
        (second.types others root goals (λ e inside. first.states Negative e.state.0 (more e inside)) (first.states Positive root.0 is)
        (λ p n inside. let it = between p n inside in (first.states Positive p it.0, first.states Negative n it.1)));
  }

  module _ (xs ys xs' ys' : List EnvEntry) (are_xs : AreNegative a xs) (are_ys : AreNegative a ys) (first : Merges a xs b xs') (second : Merges b ys c ys') where
    ys_later : AreNegative b ys
    ys_later e inside = first.states Negative e.state.0 (are_ys e inside)

    pub merges_append : Merges a (xs ++ ys) c (xs' ++ ys')
    merges_append = record {
      closed = second.closed;
      extended = extended_trans a b c first.extended second.extended;
      states = λ p s is. second.states p s (first.states p s is);
      negative = both_in (λ e. IsState c Negative e.state.0) xs' ys' (λ e inside. second.states Negative e.state.0 (first.negative e inside)) second.negative;
      types = λ others root goals more is between.
          let more_b : AreNegative b others = λ e inside. first.states Negative e.state.0 (more e inside) in
          let is_b : IsState b Positive root.0 = first.states Positive root.0 is in
          let between_b : AreBetween b goals = λ p n inside. let it = between p n inside in (first.states Positive p it.0, first.states Negative n it.1) in
          let one : HaveSameTypes (over a (xs ++ (ys ++ others)) root goals) (over b (xs' ++ (ys ++ others)) root goals) =
          first.types (ys ++ others) root goals (both_in (λ e. IsState a Negative e.state.0) ys others are_ys more) is between in
          let swapped : HaveSameTypes (over b (xs' ++ (ys ++ others)) root goals) (over b (ys ++ (xs' ++ others)) root goals) =
          members_types b root goals (xs' ++ (ys ++ others)) (ys ++ (xs' ++ others)) (λ e. (swap_in xs' ys others e, swap_in ys xs' others e)) in
          let two : HaveSameTypes (over b (ys ++ (xs' ++ others)) root goals) (over c (ys' ++ (xs' ++ others)) root goals) =
          second.types (xs' ++ others) root goals (both_in (λ e. IsState b Negative e.state.0) xs' others first.negative more_b) is_b between_b in
          let back : HaveSameTypes (over c (ys' ++ (xs' ++ others)) root goals) (over c (xs' ++ (ys' ++ others)) root goals) =
          members_types c root goals (ys' ++ (xs' ++ others)) (xs' ++ (ys' ++ others)) (λ e. (swap_in ys' xs' others e, swap_in xs' ys' others e)) in
          let whole : HaveSameTypes (over a (xs ++ (ys ++ others)) root goals) (over c (xs' ++ (ys' ++ others)) root goals) =
          types_trans (over a (xs ++ (ys ++ others)) root goals) (over b (xs' ++ (ys ++ others)) root goals) (over c (xs' ++ (ys' ++ others)) root goals) one
          (types_trans (over b (xs' ++ (ys ++ others)) root goals) (over b (ys ++ (xs' ++ others)) root goals) (over c (xs' ++ (ys' ++ others)) root goals) swapped
          (types_trans (over b (ys ++ (xs' ++ others)) root goals) (over c (ys' ++ (xs' ++ others)) root goals) (over c (xs' ++ (ys' ++ others)) root goals) two back)) in
          let P : List EnvEntry → Type 0 = λ env. HaveSameTypes (over a env root goals) (over c (xs' ++ (ys' ++ others)) root goals) in
          let Q : List EnvEntry → Type 0 = λ env. HaveSameTypes (over a ((xs ++ ys) ++ others) root goals) (over c env root goals) in
          subst Q (sym (append_assoc xs' ys' others)) (subst P (sym (append_assoc xs ys others)) whole);
    }

-- the whole environment
pub merges_types : (a b : Automaton) (xs ys : List EnvEntry) → Merges a xs b ys → (root : StateId) (goals : List (ℕ × ℕ)) → IsState a Positive root.0 → AreBetween a goals → HaveSameTypes (over a xs root goals) (over b ys root goals)
merges_types a b xs ys m root goals is between =
    let P : List EnvEntry → Type 0 = λ env. HaveSameTypes (over a env root goals) (over b (ys ++ []) root goals) in
    let Q : List EnvEntry → Type 0 = λ env. HaveSameTypes (over a xs root goals) (over b env root goals) in
    subst Q (append-nil ys) (subst P (append-nil xs) (m.types [] root goals (λ e inside. absurd (nothing_in e inside)) is between))

-- a new state for two of a binder
module _ (a b : Automaton) (closed : IsClosed a) (binder first second state : ℕ) (is_first : IsState a Negative first) (is_second : IsState a Negative second) (met : IsMet first second state a b) where
  abbrev entry_at : ℕ → EnvEntry
  entry_at k = record { binder = binder; state = id k }

  abbrev n : ℕ
  n = length a.states

  abbrev two : List EnvEntry
  two = entry_at first ∷ entry_at second ∷ []

  abbrev one : List EnvEntry
  one = entry_at n ∷ []

  new_state : IsState b Negative n
  new_state = is_new first second a b closed is_first is_second met.adds

  module _ (others : List EnvEntry) (root : StateId) (goals : List (ℕ × ℕ)) (more : AreNegative a others) (is : IsState a Positive root.0) (between : AreBetween a goals) where
    abbrev s : Scheme
    s = record { automaton = a; env = two ++ others; root = root }

    abbrev t : Scheme
    t = record { automaton = b; env = one ++ others; root = root }

    has_states : HasStates s
    has_states = record { automaton = closed; root = is; env = λ e inside. at e (Contains-cases (entry_at first) (entry_at second ∷ others) e inside) }
      where
        later : (e : EnvEntry) → (entry_at second ≡ e) ⊎ Contains others e → IsState a Negative e.state.0
        later e (inl same) = subst (λ (e : EnvEntry). IsState a Negative e.state.0) same is_second
        later e (inr inside) = more e inside

        at : (e : EnvEntry) → (entry_at first ≡ e) ⊎ Contains (entry_at second ∷ others) e → IsState a Negative e.state.0
        at e (inl same) = subst (λ (e : EnvEntry). IsState a Negative e.state.0) same is_first
        at e (inr inside) = later e (Contains-cases (entry_at second) others e inside)

    state_is : met.adds.state ≡ negative met.adds.state.head
    state_is = λ i. record { polarity = met.adds.polarity i; head = met.adds.state.head }

    merged : IsMerged s t
    merged = record {
      binder = binder;
      first = first;
      second = second;
      head = met.adds.state.head;
      states_are = met.adds.states ∙ ap (λ (x : State). a.states ++ x ∷ []) state_is;
      root_is = refl;
      first_there = Contains-here (entry_at first) (entry_at second ∷ others);
      second_there = Contains-later (entry_at first) (entry_at second ∷ others) (entry_at second) (Contains-here (entry_at second) others);
      head_is = λ value.
          same_parts-value Negative value (parts_of met.adds.state.head) (combined_two Negative (parts_of (head_at a first)) (parts_of (head_at a second))) met.adds.head
          ∙ combined_two-value Negative value (parts_of (head_at a first)) (parts_of (head_at a second));
      flows_are = met.adds.flows;
      entry = Contains-here (entry_at n) others;
      kept = λ e inside. kept e (Contains-cases (entry_at first) (entry_at second ∷ others) e inside);
      old = λ e inside. old e (Contains-cases (entry_at n) others e inside);
    }
      where
        later : (e : EnvEntry) → (entry_at second ≡ e) ⊎ Contains others e → (e ≡ entry_at first) ⊎ ((e ≡ entry_at second) ⊎ Contains (one ++ others) e)
        later e (inl same) = inr (inl (sym same))
        later e (inr inside) = inr (inr (Contains-later (entry_at n) others e inside))

        kept : (e : EnvEntry) → (entry_at first ≡ e) ⊎ Contains (entry_at second ∷ others) e → (e ≡ entry_at first) ⊎ ((e ≡ entry_at second) ⊎ Contains (one ++ others) e)
        kept e (inl same) = inl (sym same)
        kept e (inr inside) = later e (Contains-cases (entry_at second) others e inside)

        old : (e : EnvEntry) → (entry_at n ≡ e) ⊎ Contains others e → (e ≡ entry_at n) ⊎ Contains (two ++ others) e
        old e (inl same) = inl (sym same)
        old e (inr inside) = inr (Contains-later (entry_at first) (entry_at second ∷ others) e (Contains-later (entry_at second) others e inside))

    met_types : HaveSameTypes (over a (two ++ others) root goals) (over b (one ++ others) root goals)
    met_types = merged_types s t has_states merged goals between

  pub merges_met : Merges a two b (entry_at state ∷ [])
  merges_met =
      let P : ℕ → Type 0 = λ k. Merges a two b (entry_at k ∷ []) in
      subst P (sym met.is_last)
      (record {
        closed = closed-met first second a b closed is_first is_second met.adds;
        extended = extended_met first second state a b met;
        states = is_old first second a b closed is_first is_second met.adds;
        negative = λ e inside. at e (Contains-cases (entry_at n) [] e inside);
        types = met_types;
      })
    where
      at : (e : EnvEntry) → (entry_at n ≡ e) ⊎ Contains [] e → IsState b Negative e.state.0
      at e (inl same) = subst (λ (e : EnvEntry). IsState b Negative e.state.0) same new_state
      at e (inr inside) = absurd (nothing_in e inside)
