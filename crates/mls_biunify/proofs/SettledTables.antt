-- A table that is settled is the solved automaton.
use Rattle.std.proofs.Common.{◌≡◌, ◌↔◌, ◌⊎◌, inl, inr, ℕ, ◌<◌, ◌∙◌, Bool, true, false, ◌||◌, List, [], ◌∷◌, map, Contains, get_or, length, refl, sym, ap, subst, arith, Option, Some, None}
use Rattle.mls_automaton.specs.declared.automaton.Polarity.{Polarity}
use Rattle.mls_automaton.specs.declared.automaton.Polarity.TheVariants.{Positive, Negative}
use Rattle.mls_automaton.specs.declared.automaton.Arms.{Arms}
use Rattle.mls_automaton.specs.declared.automaton.Flow.{Flow}
use Rattle.mls_automaton.specs.declared.automaton.Head.{Head}
use Rattle.mls_automaton.specs.declared.automaton.State.{State}
use Rattle.mls_automaton.specs.Automata.{HasFlow, flow, head_at, polarity_at, state_at, empty_head}
use Rattle.mls_automaton.specs.Heads.{Parts, parts_of, combined, combined_functions, combined_records, IsSameParts}
use Rattle.mls_automaton.specs.Models.{HasStatesIn}
use Rattle.mls_automaton.proofs.Lists.{All-contained, Contains-here, Contains-cases}
use Rattle.mls_automaton.proofs.Passing.{states_more}
use Rattle.mls_automaton.proofs.CombinedStates.{HasPartsIn, parts_in, combined_in, same_in, head_in}
use Rattle.mls_solver.specs.Rooms.{Room, Holds}
use Rattle.mls_solver.specs.Solved.{IsSolved, ReachesBy}
use Rattle.mls_solver.specs.steps.Solving.{IsSolvedState}
use Rattle.mls_automaton.proofs.CombinedHeads.{same_parts-self}
use Rattle.mls_biunify.specs.Live.{IsStateIn}
use Rattle.mls_biunify.specs.steps.Settlement.{AddsEdges, AreFit, AreNewEdges, AreNewHeads, IsTouched, StoresHeads}
use Rattle.mls_biunify.specs.steps.Tables.{HoldsThere, IsNumbered, Numbered}
use Rattle.mls_biunify.proofs.Membership.{decide_contains}
use Rattle.mls_biunify.proofs.SettledLinks.{same-state-in}

-- one head, combined
pub combined-alone : (p : Polarity) (h : Parts) → combined p (h ∷ []) ≡ h
combined-alone p h = λ i. record { boolean = or-false h.boolean i; integer = or-false h.integer i; function = function_alone h.function i; fields = record_alone p h.fields i }
  where
    or-false : (b : Bool) → (b || false) ≡ b
    or-false true = refl
    or-false false = refl

    function_alone : (o : Option Arms) → combined_functions o None ≡ o
    function_alone None = refl
    function_alone (Some arms) = refl

    record_alone : (p : Polarity) (o : Option (List ℕ → Option (List ℕ))) → combined_records p o None ≡ o
    record_alone p None = refl
    record_alone p (Some fields) = refl

module _ (t : Numbered) (is : IsNumbered t) (room : Room) (states : HoldsThere t room) where
  abbrev R : ℕ → ℕ → Type 0
  R = Holds room

  -- a state that no pair touches stays as it is
  untouched : (s : ℕ) → (IsTouched t.automaton room.pairs s → ⊥) → IsSolvedState t.automaton R s (state_at t.automaton s)
  untouched s alone = record {
    polarity = refl;
    members = s ∷ [];
    are = record {
      self = Contains-here s [];
      reached = λ j it.
          elim (Contains-cases s [] j it) [
            | inl same ↦ inl (sym same)
            | inr none ↦ let low : none.0 < 0 = none.1 in absurd (omega arith)
          ];
      reaching = λ j it. absurd (alone (touches (polarity_at t.automaton s) j it));
    };
    parts = subst (IsSameParts (parts_of (head_at t.automaton s))) (sym (combined-alone (polarity_at t.automaton s) (parts_of (head_at t.automaton s)))) (same_parts-self (parts_of (head_at t.automaton s)));
    labels = is.is.labels s;
  }
    where
      touches : (p : Polarity) (j : ℕ) → ReachesBy t.automaton R p s j → IsTouched t.automaton room.pairs s
      touches Positive j it = ((j, it.0), it.1, inr it.2)
      touches Negative j it = ((it.0, j), it.2, inl it.1)

  -- the new heads fit
  module _ (touched : List ℕ) (heads : List (ℕ × Head)) (new : AreNewHeads t R touched heads) where
    member_sign : (s j : ℕ) (p : Polarity) → polarity_at t.automaton s ≡ p → (j ≡ s) ⊎ ReachesBy t.automaton R p s j → polarity_at t.automaton j ≡ p
    member_sign s j p sign (inl same) = ap (polarity_at t.automaton) same ∙ sign
    member_sign s j Positive sign (inr it) = (states j it.0 it.1).0.polarity
    member_sign s j Negative sign (inr it) = (states it.0 j it.2).1.polarity

    names : (s : ℕ) (h : Head) → IsSolvedState t.automaton R s (record { polarity = polarity_at t.automaton s; head = h }) → HasStatesIn (IsStateIn t.automaton t.there) (polarity_at t.automaton s) h
    names s h it =
        let p : Polarity = polarity_at t.automaton s in
        let Q : Polarity → ℕ → Type 0 = IsStateIn t.automaton t.there in
        head_in Q p h it.labels
        (same_in Q p (parts_of h) (combined p (map (λ j. parts_of (head_at t.automaton j)) it.members)) it.parts
        (combined_in Q p (λ j. parts_of (head_at t.automaton j)) it.members
        (All-contained (λ j. HasPartsIn Q p (parts_of (head_at t.automaton j))) it.members
        (λ j there.
        parts_in Q p (head_at t.automaton j)
        (subst (λ q. HasStatesIn Q q (head_at t.automaton j)) (member_sign s j p refl (it.are.reached j there)) (is.is.heads j))))))

    pub heads-fit : (mid : Numbered) → mid.automaton.states ≡ t.automaton.states → mid.there ≡ t.there → AreFit mid heads
    heads-fit mid same numbers s h it =
        let each = new.each s h it in
        let sign : polarity_at mid.automaton s ≡ polarity_at t.automaton s = ap (λ (xs : List State). (get_or xs s (record { polarity = Positive; head = empty_head })).polarity) same in (
          ap (λ (xs : List Bool). get_or xs s false) numbers ∙ each.0,
          subst (λ p. HasStatesIn (IsStateIn mid.automaton mid.there) p h) (sym sign)
              (states_more (IsStateIn t.automaton t.there) (IsStateIn mid.automaton mid.there) (same-state-in t mid same numbers) (polarity_at t.automaton s) h (names s h each.1)),
          each.1.labels,
        )

    module _ (all : (s : ℕ) → IsTouched t.automaton room.pairs s → Contains touched s) (edges : List (ℕ × ℕ)) (new_edges : AreNewEdges t.automaton R edges) (mid now : Numbered) (adds : AddsEdges t mid (λ n p. Contains edges (n, p))) (stores : StoresHeads mid now heads) where
      same-state : (s : ℕ) → state_at mid.automaton s ≡ state_at t.automaton s
      same-state s = ap (λ (xs : List State). get_or xs s (record { polarity = Positive; head = empty_head })) adds.states

      -- a state without a new head
      kept_or_untouched : (s : ℕ) → ((h : Head) → Contains heads (s, h) → ⊥) → IsSolvedState t.automaton R s (state_at t.automaton s)
      kept_or_untouched s none = go (decide_contains s touched)
        where
          go : Contains touched s ⊎ (Contains touched s → ⊥) → IsSolvedState t.automaton R s (state_at t.automaton s)
          go (inl among) =
              elim (new.all s among) [
                | inl found ↦ absurd (none found.0 found.1)
                | inr keeps ↦ record { polarity = refl; members = keeps.members; are = keeps.are; parts = keeps.parts; labels = is.is.labels s }
              ]
          go (inr beside) = untouched s (λ it. beside (all s it))

      each-solved : (s : ℕ) → IsSolvedState t.automaton R s (state_at now.automaton s)
      each-solved s =
          elim (stores.stored s) [
            | inl here ↦
                let sign : polarity_at mid.automaton s ≡ polarity_at t.automaton s = ap (λ (x : State). x.polarity) (same-state s) in
                subst (IsSolvedState t.automaton R s) (sym (here.2 ∙ (λ i. record { polarity = sign i; head = here.0 }))) (new.each s here.0 here.1).1
            | inr none ↦
                subst (IsSolvedState t.automaton R s) (sym (none.1 ∙ same-state s))
                (kept_or_untouched s none.0)
          ]

      edge-iff : (n q : ℕ) → HasFlow now.automaton n q ↔ (HasFlow t.automaton n q ⊎ Contains edges (n, q))
      edge-iff n q = (
        λ it. (adds.flows n q).0 (subst (λ (fs : List Flow). Contains fs (flow n q)) stores.flows it),
        λ it. subst (λ (fs : List Flow). Contains fs (flow n q)) (sym stores.flows) ((adds.flows n q).1 it),
      )

      pub settled : IsSolved t.automaton R now.automaton
      settled = record {
        same_length = stores.size ∙ ap (λ (xs : List State). length xs) adds.states;
        polarity = λ s. (each-solved s).polarity;
        flows = λ n q it. elim ((edge-iff n q).0 it) [ inl old ↦ inl old | inr among ↦ new_edges.sound n q among ];
        old_flows = λ n q it. (edge-iff n q).1 (inl it);
        new_flows = λ n q it. (edge-iff n q).1 (inr (new_edges.complete n q it));
        members = λ s. (each-solved s).members;
        self = λ s. (each-solved s).are.self;
        reached = λ s. (each-solved s).are.reached;
        reaching = λ s. (each-solved s).are.reaching;
        heads = λ s. (each-solved s).parts;
      }
