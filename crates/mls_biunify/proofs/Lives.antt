-- Tables as contracts see them.
use Rattle.std.proofs.Common.{◌≡◌, ◌↔◌, ◌∙◌, inl, inr, ℕ, ◌<◌, Bool, true, false, List, Some, None, cond, All, Contains, IsSome, get_or, length, refl, sym, ap, subst}
use Rattle.std.proofs.lemmas.List.Elements.{All-weaker}
use Rattle.mls_automaton.specs.declared.automaton.Polarity.{Polarity}
use Rattle.mls_automaton.specs.declared.automaton.Polarity.TheVariants.{Positive, Negative}
use Rattle.mls_automaton.specs.declared.automaton.State.{State}
use Rattle.mls_automaton.specs.Automata.{Automaton, HasFlow, IsState, flow}
use Rattle.mls_automaton.specs.Sets.{Rises}
use Rattle.mls_solver.specs.declared.goal.Goal.{Goal}
use Rattle.mls_solver.specs.declared.goal.Clash.{Clash}
use Rattle.mls_solver.specs.declared.goal.Refusal.{Refusal}
use Rattle.mls_solver.specs.declared.goal.Refusal.TheVariants.{Clashing}
use Rattle.mls_solver.specs.Relations.{IsGoal, IsGoalOf, IsRelated}
use Rattle.mls_solver.specs.Clashes.{HasNoClash, IsFirstClash}
use Rattle.mls_solver.specs.Rooms.{Room, Holds, HoldsJust}
use Rattle.mls_solver.specs.Solutions.{HasInstancesUnder}
use Rattle.mls_solver.specs.Solved.{IsSolved}
use Rattle.mls_solver.proofs.SolvedRooms.{instances-under}
use Rattle.mls_automaton.specs.Models.{IsClosed}
use Rattle.mls_automaton.proofs.Lists.{All-contained}
use Rattle.mls_biunify.specs.Live.{AddsStates, AreRelated, free_state, number_of, pairs_of, room_of_pairs, HasRelation, Inserts, IsCopyAt, IsRefusalOf, IsSameLive, IsSolvedFor, IsStateIn, IsTable, KeepsThere, Live}
use Rattle.mls_biunify.specs.steps.Absorbing.{AddsCopy, IsSameTable}
use Rattle.mls_biunify.specs.steps.Keeping.{KeepsStates}
use Rattle.mls_biunify.specs.steps.Settlement.{AddsEdges, AreNewEdges, IsTouched}
use Rattle.mls_biunify.specs.steps.LiveParts.{live_of}
use Rattle.mls_biunify.specs.steps.Tables.{HoldsThere, InsertsState, IsNumbered, Numbered}
use Rattle.mls_biunify.proofs.Claiming.{rising-same}
use Rattle.mls_biunify.proofs.Filling.{number-in}
use Rattle.mls_biunify.proofs.TableSteps.{table-closed}
use Rattle.mls_biunify.proofs.RelatedThere.{goal_states, related_there}

-- a state of the table
pub state-of : (a : Automaton) (there : List Bool) → IsTable a there → (p : Polarity) (s : ℕ) → IsStateIn a there p s → IsState a p s
state-of a there is p s it = record { in_range = is.in_range s it.there; polarity = it.polarity }

abbrev pub IsThereGoal : Numbered → Goal → Type 0
IsThereGoal t g = IsStateIn t.automaton t.there Positive g.positive.0 × IsStateIn t.automaton t.there Negative g.negative.0

-- a table after the search for its relation
module _ (t : Numbered) (is : IsNumbered t) (goals : List Goal) (all : All (IsThereGoal t) goals) (room : Room) (just : HoldsJust room (IsRelated t.automaton (IsGoal goals))) (ready : Bool) where
  abbrev pub solved_live : Live
  solved_live = live_of (record { table = t; relation = room; is_solved = true; is_ready = ready })

  pub relation_there : HoldsThere t room
  relation_there p n held = related_there t.automaton t.there is.is (IsGoal goals) (goal_states t goals all) p n ((just p n).0 held)

  pub has_relation : HasRelation solved_live (IsRelated t.automaton (IsGoal goals))
  has_relation = record { present = refl; just = just }

  goals_are : All (IsGoalOf t.automaton) goals
  goals_are =
      All-weaker (IsThereGoal t) (IsGoalOf t.automaton)
      (λ g it. (state-of t.automaton t.there is.is Positive g.positive.0 it.0, state-of t.automaton t.there is.is Negative g.negative.0 it.1))
      goals all

  pub no_clash : HasNoClash t.automaton (Holds room) → HasNoClash t.automaton (IsRelated t.automaton (IsGoal goals))
  no_clash free p n related clash it = free p n ((just p n).1 related) clash it

  pub is_solved : HasNoClash t.automaton (Holds room) → IsSolvedFor solved_live goals
  is_solved free = record {
    present = refl;
    goals_live = all;
    saturated = record { states = goals_are; relation = just; free = no_clash free };
  }

  pub is_refused : (refusal : Refusal) (clash : Clash) → refusal ≡ Clashing clash → IsFirstClash t.automaton (Holds room) clash → IsRefusalOf solved_live (IsRelated t.automaton (IsGoal goals)) refusal
  is_refused refusal clash e first =
      subst (IsRefusalOf solved_live (IsRelated t.automaton (IsGoal goals))) (sym e) (
        has_relation,
        record {
          clash = ((just clash.positive.0 clash.negative.0).0 first.clash.0, first.clash.1);
          first = λ d it. first.first d ((just d.positive.0 d.negative.0).1 it.0, it.1);
        },
      )

-- one more state
pub inserts-live : (old new : Numbered) (s : ℕ) (state : State) (room : Room) (solved ready : Bool) → InsertsState old new s state → Inserts (live_of (record { table = old; relation = room; is_solved = solved; is_ready = ready })) (live_of (record { table = new; relation = room; is_solved = false; is_ready = false })) s state
inserts-live old new s state room solved ready it = record {
  was_free = it.was_free;
  there = it.there;
  here = it.here;
  others = it.others;
  flows = it.flows;
}

-- only the edges were moved
pub same-live : (old new : Numbered) (room : Room) (solved ready : Bool) → new.automaton.states ≡ old.automaton.states → new.there ≡ old.there → ((n p : ℕ) → HasFlow new.automaton n p ↔ HasFlow old.automaton n p) → IsSameLive (live_of (record { table = old; relation = room; is_solved = solved; is_ready = ready })) (live_of (record { table = new; relation = room; is_solved = solved; is_ready = ready }))
same-live old new room solved ready states there flows = record {
  there = λ s. ap (λ (numbers : List Bool). get_or numbers s false) there;
  states = λ s. ap (λ (xs : List State). get_or xs s (record { polarity = Positive; head = record { boolean = false; integer = false; function = None; fields = None } })) states;
  flows = flows;
  related = refl;
  ready = refl;
}

-- what is related in a table that is solved is there
pub solved_there : (t : Numbered) → IsNumbered t → (room : Room) (solved ready : Bool) (goals : List Goal) → IsSolvedFor (live_of (record { table = t; relation = room; is_solved = solved; is_ready = ready })) goals → HoldsThere t room
solved_there t is room false ready goals it p n held = let none : false ≡ true = it.present in absurd (cc)
solved_there t is room true ready goals it p n held =
    related_there t.automaton t.there is.is (IsGoal goals) (goal_states t goals it.goals_live) p n ((it.saturated.relation p n).0 held)

pub held_there : (t : Numbered) (room grown : Room) → grown.pairs ≡ room.pairs → HoldsThere t room → HoldsThere t grown
held_there t room grown e states p n held = states p n (subst (λ (pairs : List (ℕ × ℕ)). Contains pairs (p, n)) e held)

-- a table that is settled, by the relation that was there
pub related-settled : (t : Numbered) (room grown : Room) (solved ready : Bool) → IsSome (cond solved (Some room.pairs) None) → grown.pairs ≡ room.pairs → (a : Automaton) → IsSolved t.automaton (Holds grown) a → IsSolved t.automaton (AreRelated (live_of (record { table = t; relation = room; is_solved = solved; is_ready = ready }))) a
related-settled t room grown false ready present e a it = let none : false ≡ true = present in absurd (cc)
related-settled t room grown true ready present e a it = subst (λ (pairs : List (ℕ × ℕ)). IsSolved t.automaton (λ p n. Contains pairs (p, n)) a) e it

pub settled-instances : (t : Numbered) → IsNumbered t → (live : Live) → live.table ≡ t.automaton → (a : Automaton) → IsClosed a → IsSolved live.table (AreRelated live) a → (goals : List Goal) → IsSolvedFor live goals → HasInstancesUnder live.table (IsGoal goals) a
settled-instances t is live e a closed solved goals it =
    instances-under live.table (subst IsClosed (sym e) (table-closed t.automaton t.there is.is)) (room_of_pairs (pairs_of live)) a solved closed goals it.saturated

-- the states at the edges of related states are there
pub touched_there : (t : Numbered) → IsNumbered t → (pairs : List (ℕ × ℕ)) (set slice : List ℕ) → slice ≡ set → ((s : ℕ) → Contains set s ↔ IsTouched t.automaton pairs s) → All (λ s. get_or t.there s false ≡ true) slice
touched_there t is pairs set slice same touched =
    All-contained (λ s. get_or t.there s false ≡ true) slice
    (λ s it.
    let by = (touched s).0 (subst (λ (xs : List ℕ). Contains xs s) same it) in
    elim by.2 [
      | inl edge ↦ (is.is.negative s by.0.0 edge).there
      | inr edge ↦ (is.is.positive by.0.1 s edge).there
    ])

-- new edges go between states that are there
pub new_edges_there : (t : Numbered) → IsNumbered t → (room : Room) (edges slice : List (ℕ × ℕ)) → slice ≡ edges → AreNewEdges t.automaton (Holds room) edges → (n p : ℕ) → Contains slice (n, p) → IsStateIn t.automaton t.there Negative n × IsStateIn t.automaton t.there Positive p
new_edges_there t is room edges slice same new n p it =
    elim (new.sound n p (subst (λ (xs : List (ℕ × ℕ)). Contains xs (n, p)) same it)) [
      | inl old ↦ (is.is.negative n p old, is.is.positive n p old)
      | inr by ↦ (is.is.negative n by.0 by.2, is.is.positive by.1 p by.4)
    ]

-- the table is as it was, with a relation that has the same pairs
pub same-pairs-live : (old new : Numbered) (room grown : Room) (solved ready : Bool) → grown.pairs ≡ room.pairs → new.automaton.states ≡ old.automaton.states → new.there ≡ old.there → ((n p : ℕ) → HasFlow new.automaton n p ↔ HasFlow old.automaton n p) → IsSameLive (live_of (record { table = old; relation = room; is_solved = solved; is_ready = ready })) (live_of (record { table = new; relation = grown; is_solved = solved; is_ready = ready }))
same-pairs-live old new room grown solved ready e states there flows = record {
  there = λ s. ap (λ (numbers : List Bool). get_or numbers s false) there;
  states = λ s. ap (λ (xs : List State). get_or xs s free_state) states;
  flows = flows;
  related = ap (λ (pairs : List (ℕ × ℕ)). cond solved (Some pairs) None) e;
  ready = refl;
}

pub no-edges : (old new : Numbered) → AddsEdges old new (λ n p. ⊥) → (n p : ℕ) → HasFlow new.automaton n p ↔ HasFlow old.automaton n p
no-edges old new it n p = (
  λ edge. elim ((it.flows n p).0 edge) [ inl before ↦ before | inr none ↦ absurd none ],
  λ edge. (it.flows n p).1 (inl edge),
)

-- a copy of an automaton came
pub copy-added : (old new : Numbered) → IsNumbered old → IsNumbered new → (a : Automaton) → IsClosed a → (numbers : List ℕ) → length numbers ≡ length a.states → Rises numbers → AddsCopy old new a numbers → IsCopyAt a numbers new.automaton
copy-added old new is after a closed numbers count rises adds = record {
  count = count;
  rises = rises;
  embedded = record {
    in_range = λ s low. after.is.in_range (number_of numbers s) ((adds.there (number_of numbers s)).1 (inr (one s low)));
    distinct = same-number;
    polarity = λ s low. ap (λ (state : State). state.polarity) (adds.copies s low);
    head = λ s low. ap (λ (state : State). state.head) (adds.copies s low);
    flows = λ f it. (adds.flows (number_of numbers f.negative.0) (number_of numbers f.positive.0)).1 (inr (f.negative.0, f.positive.0, it, refl, refl));
    no_more_flows = λ n p low high edge.
        elim ((adds.flows (number_of numbers n) (number_of numbers p)).0 edge) [
          | inl before ↦
              let there : get_or old.there (number_of numbers n) false ≡ true = (is.is.negative (number_of numbers n) (number_of numbers p) before).there in
              let free : get_or old.there (number_of numbers n) false ≡ false = adds.were_free (number_of numbers n) (one n low) in
              let wrong : true ≡ false = sym there ∙ free in
              absurd (cc)
          | inr copied ↦
              subst (λ k. HasFlow a k p) (same-number copied.0 n (closed.negative (flow copied.0 copied.1) copied.2).in_range low copied.3)
              (subst (λ k. HasFlow a copied.0 k) (same-number copied.1 p (closed.positive (flow copied.0 copied.1) copied.2).in_range high copied.4) copied.2)
        ];
  };
}
  where
    one : (s : ℕ) → s < length a.states → Contains numbers (number_of numbers s)
    one s low = number-in numbers s (subst (λ n. s < n) (sym count) low)

    same-number : (i k : ℕ) → i < length a.states → k < length a.states → number_of numbers i ≡ number_of numbers k → i ≡ k
    same-number i k low high e = rising-same numbers rises i k (subst (λ n. i < n) (sym count) low) (subst (λ n. k < n) (sym count) high) e

pub states-added : (old new : Numbered) (room : Room) (solved ready : Bool) (a : Automaton) (numbers : List ℕ) → AddsCopy old new a numbers → AddsStates (live_of (record { table = old; relation = room; is_solved = solved; is_ready = ready })) (live_of (record { table = new; relation = room; is_solved = false; is_ready = false })) numbers
states-added old new room solved ready a numbers adds = record {
  were_free = adds.were_free;
  there = adds.there;
  others = adds.others;
}

-- the table is as it was
pub same-table-live : (old new : Numbered) (room : Room) (solved ready : Bool) → IsSameTable old new → IsSameLive (live_of (record { table = old; relation = room; is_solved = solved; is_ready = ready })) (live_of (record { table = new; relation = room; is_solved = solved; is_ready = ready }))
same-table-live old new room solved ready it = record {
  there = it.there;
  states = it.states;
  flows = it.flows;
  related = refl;
  ready = refl;
}

-- only states of a kind stay
pub kept-live : (old new : Numbered) (IsKept : ℕ → Type 0) (room : Room) (solved ready : Bool) → KeepsStates old IsKept new → KeepsThere (live_of (record { table = old; relation = room; is_solved = solved; is_ready = ready })) (live_of (record { table = new; relation = room; is_solved = false; is_ready = false })) IsKept
kept-live old new IsKept room solved ready it = record {
  there = it.there;
  states = it.states;
  flows = it.flows;
}
