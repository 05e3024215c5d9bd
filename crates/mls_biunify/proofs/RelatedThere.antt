-- What is related is there.
use Rattle.std.proofs.Common.{◌≡◌, inl, inr, ℕ, ◌<◌, ◌≤◌, List, [], Bool, true, false, length, get_or, subst, sym, refl, arith, All, Some, Contains}
use Rattle.std.specs.Prelude.{Option, None, MatchOption}
use Rattle.std.proofs.lemmas.List.Elements.{All-contains, All-weaker, Contains-get_or}
use Rattle.mls_automaton.specs.declared.automaton.Polarity.{Polarity}
use Rattle.mls_automaton.specs.declared.automaton.Polarity.TheVariants.{Positive, Negative}
use Rattle.mls_automaton.specs.declared.automaton.Arms.{Arms}
use Rattle.mls_automaton.specs.declared.automaton.FieldSet.{FieldSet}
use Rattle.mls_automaton.specs.declared.automaton.Head.{Head}
use Rattle.mls_automaton.specs.Automata.{Automaton, polarity_at, head_at, opposite, HasFlow}
use Rattle.mls_automaton.specs.Models.{HasArmsIn, HasFieldsIn}
use Rattle.mls_automaton.proofs.HeadOrder.{sets_found}
use Rattle.mls_solver.specs.Relations.{IsGoal, InDomain, InCodomain, InField, IsRelated, goal, domain, codomain, field, along}
use Rattle.mls_solver.specs.Rooms.{Room, Holds, HoldsJust}
use Rattle.mls_solver.specs.steps.Consequences.{ByHeads, Follows, HasConsequences}
use Rattle.mls_solver.specs.steps.Growth.{Relates}
use Rattle.mls_solver.specs.declared.goal.Clash.{Clash}
use Rattle.mls_solver.specs.declared.goal.Goal.{Goal}
use Rattle.mls_solver.specs.steps.FirstClashes.{IsFirstOf, IsPairAt, IsPairBelow}
use Rattle.mls_solver.proofs.FirstClashes.{pair_held}
use Rattle.mls_solver.proofs.Relating.{Relates-kept}
use Rattle.mls_solver.proofs.Taking.{by_heads-related, Follows-kept, consequences, related-through}
use Rattle.mls_biunify.specs.Live.{IsStateIn, IsTable}
use Rattle.mls_biunify.specs.steps.Tables.{Numbered, IsNumbered, HoldsThere}
use Rattle.mls_biunify.proofs.TableSteps.{table-closed}

abbrev IsThisPair : ℕ → ℕ → ℕ → ℕ → Type 0
IsThisPair p n i j = (i ≡ p) × (j ≡ n)

module _ (a : Automaton) (there : List Bool) (is : IsTable a there) where
  -- the states that a head names are there with the polarities of their places
  module _ (s : ℕ) (p : Polarity) (sign : polarity_at a s ≡ p) where
    arms_in : (arms : Arms) → (head_at a s).function ≡ Some arms → All (IsStateIn a there (opposite p)) arms.domain × All (IsStateIn a there p) arms.codomain
    arms_in arms e =
        subst (λ q. All (IsStateIn a there (opposite q)) arms.domain × All (IsStateIn a there q) arms.codomain) sign
        (subst (HasArmsIn (IsStateIn a there) (polarity_at a s)) e (is.heads s).function)

    in_domain-there : (m : ℕ) → InDomain a s m → IsStateIn a there (opposite p) m
    in_domain-there m it = All-contains (IsStateIn a there (opposite p)) it.0.domain m (arms_in it.0 it.1).0 it.2

    in_codomain-there : (m : ℕ) → InCodomain a s m → IsStateIn a there p m
    in_codomain-there m it = All-contains (IsStateIn a there p) it.0.codomain m (arms_in it.0 it.1).1 it.2

    in_field-there : (label : List ℕ) (m : ℕ) → InField a s label m → IsStateIn a there p m
    in_field-there label m it =
        let all : All (λ (f : FieldSet). All (IsStateIn a there (polarity_at a s)) f.set) it.0 = subst (HasFieldsIn (IsStateIn a there) (polarity_at a s)) it.2 (is.heads s).fields in
        subst (λ q. IsStateIn a there q m) sign
        (All-contains (IsStateIn a there (polarity_at a s)) it.1 m (sets_found (IsStateIn a there (polarity_at a s)) it.0 all label it.1 it.3) it.4)

  -- where the goals are between states that are there, what is related is there
  module _ (IsGoal : ℕ → ℕ → Type 0) (are : (p n : ℕ) → IsGoal p n → IsStateIn a there Positive p × IsStateIn a there Negative n) where
    pub related_there : (p n : ℕ) → IsRelated a IsGoal p n → IsStateIn a there Positive p × IsStateIn a there Negative n
    related_there p n (goal it) = are p n it
    related_there q m (domain {p = p} {n = n} it left right) =
        let earlier = related_there p n it in
        (in_domain-there n Negative earlier.1.polarity q left, in_domain-there p Positive earlier.0.polarity m right)
    related_there q m (codomain {p = p} {n = n} it left right) =
        let earlier = related_there p n it in
        (in_codomain-there p Positive earlier.0.polarity q left, in_codomain-there n Negative earlier.1.polarity m right)
    related_there q m (field {p = p} {n = n} label it left right) =
        let earlier = related_there p n it in
        (in_field-there p Positive earlier.0.polarity label q left, in_field-there n Negative earlier.1.polarity label m right)
    related_there p m (along {n = n} {q = q} it edge later) = ((related_there p n it).0, (related_there q m later).1)

  -- what follows by the heads of states that are there is there
  pub heads_there : (p n : ℕ) → IsStateIn a there Positive p → IsStateIn a there Negative n → (q m : ℕ) → ByHeads (head_at a p) (head_at a n) q m → IsStateIn a there Positive q × IsStateIn a there Negative m
  heads_there p n is_p is_n q m by =
      related_there (IsThisPair p n) (λ i j same. (subst (IsStateIn a there Positive) (sym same.0) is_p, subst (IsStateIn a there Negative) (sym same.1) is_n)) q m
      (by_heads-related a (IsThisPair p n) (table-closed a there is) p n (goal (refl, refl)) q m by)

-- a room that grew along the rules still holds states that are there
pub follows_there : (t : Numbered) → IsNumbered t → (old new : Room) → HoldsThere t old → Follows t.automaton old new → HoldsThere t new
follows_there t is old new states it p n held = related_there t.automaton t.there is.is (Holds old) states p n (it.sound p n held)

-- what follows by heads fits
pub heads_fit : (t : Numbered) → IsNumbered t → (room : Room) → t.limit ≤ room.positives → t.limit ≤ room.negatives → (p n : ℕ) → IsStateIn t.automaton t.there Positive p → IsStateIn t.automaton t.there Negative n → (q m : ℕ) → ByHeads (head_at t.automaton p) (head_at t.automaton n) q m → (q < room.positives) × (m < room.negatives)
heads_fit t is room rows columns p n is_p is_n q m by =
    let both = heads_there t.automaton t.there is.is p n is_p is_n q m by in
    let first : q < t.limit = is.low q both.0.there in
    let second : m < t.limit = is.low m both.1.there in
    (omega arith, omega arith)

-- a pair that was found at a place is one of states that are there
pub there_at : (t : Numbered) → IsNumbered t → (old room : Room) → HoldsThere t old → Follows t.automaton old room → (k : ℕ) → k < length room.pairs → (p n : ℕ) → (p, n) ≡ get_or room.pairs k (0, 0) → Holds room p n × IsStateIn t.automaton t.there Positive p × IsStateIn t.automaton t.there Negative n
there_at t is old room states follows k low p n e =
    let pair : ℕ × ℕ = (p, n) in
    let held : Contains room.pairs (get_or room.pairs k (0, 0)) = Contains-get_or room.pairs k (0, 0) low in
    let here : Contains room.pairs pair = subst (Contains room.pairs) (sym e) held in
    let both = follows_there t is old room states follows p n here in
    (here, both.0, both.1)

-- the states of a clash that was found are there
pub first_there : (t : Numbered) (room : Room) (i : ℕ) → i ≤ length room.pairs → HoldsThere t room → (first : Option Clash) → IsFirstOf t.automaton (IsPairBelow room i) first → MatchOption first (Unit {0}) (λ c. get_or t.there c.negative.0 false ≡ true)
first_there t room i all states None it = tt
first_there t room i all states (Some c) it =
    let below : IsPairBelow room i c.positive.0 c.negative.0 = it.clash.0 in
    let less : below.0 < i = below.1 in
    (states c.positive.0 c.negative.0 (pair_held room below.0 c.positive.0 c.negative.0 (omega arith) below.2)).1.there

pub found_there : (t : Numbered) (room : Room) (i : ℕ) → i < length room.pairs → HoldsThere t room → (first : Option Clash) → IsFirstOf t.automaton (IsPairAt room i) first → MatchOption first (Unit {0}) (λ c. get_or t.there c.negative.0 false ≡ true)
found_there t room i low states None it = tt
found_there t room i low states (Some c) it = (states c.positive.0 c.negative.0 (pair_held room i c.positive.0 c.negative.0 low it.clash.0)).1.there

pub grown_kept : (old new : Room) (IsNew : ℕ → ℕ → Type 0) → Relates old new IsNew → (p n : ℕ) → Holds old p n → Holds new p n
grown_kept = Relates-kept

pub heads_grow : (t : Numbered) (old new : Room) → Follows t.automaton old new → (p n : ℕ) → Holds old p n → Holds new p n
heads_grow t = Follows-kept t.automaton

-- all that follows from one pair
pub pair_consequences : (t : Numbered) → IsNumbered t → (old : Room) (p n : ℕ) → Holds old p n → (upper lower : Head) → upper ≡ head_at t.automaton p → lower ≡ head_at t.automaton n → (one two three : Room) → Relates old one (ByHeads upper lower) → Follows t.automaton one two → ((q m : ℕ) → HasFlow t.automaton n q → Holds one q m → Holds two p m) → Follows t.automaton two three → ((q m : ℕ) → Holds two q m → HasFlow t.automaton m p → Holds three q n) → Follows t.automaton old three × HasConsequences t.automaton p n old three
pair_consequences t is old p n held upper lower e e' one two three heads first after second before =
    consequences t.automaton (table-closed t.automaton t.there is.is) old p n held one two three
    (subst (λ (h : Head). Relates old one (ByHeads h (head_at t.automaton n))) e (subst (λ (h : Head). Relates old one (ByHeads upper h)) e' heads))
    first after second before

-- a room that held nothing holds just the goals
pub only_goals : (old new : Room) (IsNew : ℕ → ℕ → Type 0) → old.pairs ≡ [] → Relates old new IsNew → (p n : ℕ) → Holds new p n → IsNew p n
only_goals old new IsNew empty it p n held =
    elim (it.sound p n held) [
      | inl before ↦
          let P : List (ℕ × ℕ) → Type 0 = λ (pairs : List (ℕ × ℕ)). Contains pairs (p, n) in
          let none : P [] = subst P empty before in
          let low : none.0 < 0 = none.1 in
          absurd (omega arith)
      | inr here ↦ here
    ]

-- goals
module _ (t : Numbered) (goals : List Goal) (all : All (λ (g : Goal). IsStateIn t.automaton t.there Positive g.positive.0 × IsStateIn t.automaton t.there Negative g.negative.0) goals) where
  pub goals_fit : IsNumbered t → (room : Room) → t.limit ≤ room.positives → t.limit ≤ room.negatives → All (λ (g : Goal). g.positive.0 < room.positives) goals × All (λ (g : Goal). g.negative.0 < room.negatives) goals
  goals_fit is room rows columns = (
    All-weaker (λ (g : Goal). IsStateIn t.automaton t.there Positive g.positive.0 × IsStateIn t.automaton t.there Negative g.negative.0) (λ (g : Goal). g.positive.0 < room.positives) (λ g it. let low : g.positive.0 < t.limit = is.low g.positive.0 it.0.there in omega arith) goals all,
    All-weaker (λ (g : Goal). IsStateIn t.automaton t.there Positive g.positive.0 × IsStateIn t.automaton t.there Negative g.negative.0) (λ (g : Goal). g.negative.0 < room.negatives) (λ g it. let low : g.negative.0 < t.limit = is.low g.negative.0 it.1.there in omega arith) goals all,
  )

  pub goal_states : (p n : ℕ) → IsGoal goals p n → IsStateIn t.automaton t.there Positive p × IsStateIn t.automaton t.there Negative n
  goal_states p n it =
      All-contains (λ (g : Goal). IsStateIn t.automaton t.there Positive g.positive.0 × IsStateIn t.automaton t.there Negative g.negative.0) goals (record { positive = record { 0 = p }; negative = record { 0 = n } }) all it

  pub goals_there : (old new : Room) → old.pairs ≡ [] → Relates old new (IsGoal goals) → HoldsThere t new
  goals_there old new empty it p n held = goal_states p n (only_goals old new (IsGoal goals) empty it p n held)

pub goals_held : (a : Automaton) (goals : List Goal) (old mid new : Room) → old.pairs ≡ [] → Relates old mid (IsGoal goals) → HoldsJust new (IsRelated a (Holds mid)) → HoldsJust new (IsRelated a (IsGoal goals))
goals_held a goals old mid new empty it just p n = (
  λ held. related-through a (Holds mid) (IsGoal goals) (λ q m has. goal (only_goals old mid (IsGoal goals) empty it q m has)) p n ((just p n).0 held),
  λ related. (just p n).1 (related-through a (IsGoal goals) (Holds mid) (λ q m has. goal (it.complete q m has)) p n related),
)
