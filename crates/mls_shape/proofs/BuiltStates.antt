-- The states of the deterministic form, made one after another.
--     head_closed    a combined head names states
--     building_none  no state yet
--     state_added    one more state
use Rattle.std.proofs.Common.{◌≡◌, inl, inr, ℕ, ◌+◌, ◌<◌, ◌≤◌, List, [], ◌∷◌, ◌++◌, map, refl, sym, ap, ◌∙◌, subst, arith, length, get_or, All, Some, None}
use Rattle.std.proofs.lemmas.Bool.{cases_lt}
use Rattle.std.proofs.lemmas.List.{get_or_append_left, get_or_past, length-append}
use Rattle.std.proofs.Math.Nat.{eq-or-lt_of_le}
use Rattle.std.proofs.Math.Seq.{get_or-append_seam}
use Rattle.mls_automaton.specs.declared.automaton.Polarity.{Polarity}
use Rattle.mls_automaton.specs.declared.automaton.Polarity.TheVariants.{Positive}
use Rattle.mls_automaton.specs.declared.automaton.Head.{Head}
use Rattle.mls_automaton.specs.declared.automaton.State.{State}
use Rattle.mls_automaton.specs.Automata.{Automaton, state_at, head_at, empty_head, IsState}
use Rattle.mls_automaton.specs.Heads.{parts_of, combined}
use Rattle.mls_automaton.specs.Models.{HasStatesIn, IsClosed}
use Rattle.mls_automaton.specs.Reached.{Names, HeadNames}
use Rattle.mls_automaton.proofs.CombinedStates.{HasPartsIn, parts_in, combined_in, same_in, head_in}
use Rattle.mls_automaton.proofs.Reaching.{named-in}
use Rattle.mls_shape.specs.declared.register.SetState.{SetState}
use Rattle.mls_shape.specs.steps.Registers.{IsAt, Grows}
use Rattle.mls_shape.specs.steps.Building.{IsSetOf, IsCombinedOf, IsStateOf, AddsState, IsBuilding}
use Rattle.mls_shape.proofs.Registered.{grows_none, grows_then, grows_wider, not_fewer, set_kept}
use Rattle.mls_shape.proofs.NumberedHeads.{head_kept}
use Rattle.mls_shape.proofs.NumberedStates.{row_in}

names_nothing : (k : ℕ) → HeadNames empty_head k → ⊥
names_nothing k (inl arms) = let none : None ≡ Some arms.0 = arms.1 in cc
names_nothing k (inr fields) = let none : None ≡ Some fields.0 = fields.1 in cc

module _ (a : Automaton) (closed : IsClosed a) where
  member_parts : (p : Polarity) (i : ℕ) → IsState a p i → HasPartsIn (IsState a) p (parts_of (head_at a i))
  member_parts p i state = parts_in (IsState a) p (head_at a i) (subst (λ q. HasStatesIn (IsState a) q (head_at a i)) state.polarity (closed.heads i))

  pub head_closed : (set : SetState) (head : Head) → IsSetOf a set → IsCombinedOf a set head → HasStatesIn (IsState a) set.polarity head
  head_closed set head each it =
      let p : Polarity = set.polarity in
      head_in (IsState a) p head it.labels
      (same_in (IsState a) p (parts_of head) (combined p (map (λ i. parts_of (head_at a i)) set.members)) it.parts
      (combined_in (IsState a) p (λ i. parts_of (head_at a i)) set.members (λ k d low. member_parts p (get_or set.members k d) (each k d low))))

  pub building_none : (sets : List SetState) → All (IsSetOf a) sets → IsBuilding a sets sets (record { states = []; flows = [] })
  building_none sets each = record {
    more = grows_none (λ k. (i : ℕ) × (i < k) × Names (record { states = []; flows = [] }) i k) sets;
    flows = refl;
    low = omega arith;
    each = each;
    states = λ j e low. absurd (omega arith);
  }

  module _ (first old new : List SetState) (before after : Automaton) (is : IsBuilding a first old before) (left : length before.states < length old) (adds : AddsState a (length before.states) old new before after) where
    abbrev next : ℕ
    next = length before.states

    abbrev state : State
    state = record { polarity = adds.set.polarity; head = adds.row }

    abbrev IsNamed : ℕ → Type 0
    IsNamed = HeadNames adds.row

    abbrev grows : Grows IsNamed old new
    grows = adds.numbers.grows

    set_is : IsSetOf a adds.set
    set_is = subst (IsSetOf a) (adds.at adds.set) (is.each next adds.set left)

    -- the sets that the head names are sets of states
    abbrev IsSuch : Polarity → ℕ → Type 0
    IsSuch q n = (e : SetState) → IsSetOf a (get_or new n e)

    named_such : (q : Polarity) (n : ℕ) (members : List ℕ) → IsAt new n q members → All (IsState a q) members → IsSuch q n
    named_such q n members at each e = subst (IsSetOf a) (sym (at.1 e)) each

    such : HasStatesIn IsSuch adds.set.polarity adds.row
    such = row_in new (IsState a) IsSuch named_such adds.set.polarity adds.head adds.row (head_closed adds.set adds.head set_is adds.combined) adds.numbers.is

    each_new : All (IsSetOf a) new
    each_new k e low =
        elim (cases_lt k (length old)) [
          | inl less ↦ subst (IsSetOf a) (sym (set_kept IsNamed old new grows k e less)) (is.each k e less)
          | inr more ↦ named-in (λ n. (e : SetState) → IsSetOf a (get_or new n e)) adds.set.polarity adds.row such k (grows.such k more low) e
        ]

    abbrev none : State
    none = record { polarity = Positive; head = empty_head }

    states_are : after.states ≡ before.states ++ state ∷ []
    states_are = ap (λ (b : Automaton). b.states) adds.added

    early : (j : ℕ) → j < next → state_at after j ≡ state_at before j
    early j low = ap (λ states. get_or states j none) states_are ∙ get_or_append_left before.states (state ∷ []) none j low

    last : state_at after next ≡ state
    last = ap (λ states. get_or states next none) states_are ∙ get_or-append_seam before.states state [] none

    size : length after.states ≡ next + 1
    size = ap length states_are ∙ length-append before.states (state ∷ [])

    -- a state that named a set names it still
    names_kept : (i k : ℕ) → Names before i k → Names after i k
    names_kept i k names =
        elim (cases_lt i next) [
          | inl less ↦ subst (λ (s : State). HeadNames s.head k) (sym (early i less)) names
          | inr more ↦ absurd (nothing i more k names)
        ]
      where
        past : (i : ℕ) → next ≤ i → state_at before i ≡ none
        past i more = get_or_past before.states i none more

        nothing : (i : ℕ) → next ≤ i → (k : ℕ) → Names before i k → ⊥
        nothing i more k names = names_nothing k (subst (λ (s : State). HeadNames s.head k) (past i more) names)

    state_is : (j : ℕ) (e : SetState) → j < length after.states → IsStateOf a new (get_or new j e) (state_at after j)
    state_is j e low =
        let whole : length after.states ≡ next + 1 = size in
        elim (eq-or-lt_of_le (omega arith)) [
          | inl same ↦ subst (λ j. IsStateOf a new (get_or new j e) (state_at after j)) (sym same) last_is
          | inr less ↦ early_is less
        ]
      where
        last_is : IsStateOf a new (get_or new next e) (state_at after next)
        last_is =
            let at : get_or new next e ≡ adds.set = set_kept IsNamed old new grows next e left ∙ adds.at e in
            subst (λ s. IsStateOf a new s (state_at after next)) (sym at)
            (subst (IsStateOf a new adds.set) (sym last)
            (record { polarity = refl; head = adds.head; combined = adds.combined; is = adds.numbers.is }))

        early_is : j < next → IsStateOf a new (get_or new j e) (state_at after j)
        early_is less =
            let low : j < length old = omega (arith, less, is.low) in
            let it : IsStateOf a old (get_or old j e) (state_at before j) = is.states j e less in
            subst (λ s. IsStateOf a new s (state_at after j)) (sym (set_kept IsNamed old new grows j e low))
            (subst (IsStateOf a new (get_or old j e)) (sym (early j less))
            (record { polarity = it.polarity; head = it.head; combined = it.combined; is = head_kept IsNamed old new grows (get_or old j e).polarity it.head (state_at before j).head it.is }))

    pub state_added : IsBuilding a first new after
    state_added = record {
      more = grows_then Named first old new
          (grows_wider (λ k. (i : ℕ) × (i < k) × Names before i k) Named (λ k it. (it.0, it.1, names_kept it.0 k it.2)) first old is.more)
          (record { more = grows.more; grown = grows.grown; such = λ k low high. (next, omega (arith, left, low), subst (λ (s : State). HeadNames s.head k) (sym last) (grows.such k low high)) });
      flows = ap (λ (b : Automaton). b.flows) adds.added ∙ is.flows;
      low = let more = not_fewer IsNamed old new grows in omega (arith, size, more, left);
      each = each_new;
      states = state_is;
    }
      where
        Named : ℕ → Type 0
        Named k = (i : ℕ) × (i < k) × Names after i k
