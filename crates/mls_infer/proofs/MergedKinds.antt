-- The kind of the first clash of a constraint over schemes is that of the constraint over merged schemes.
--     place_in             where the states of schemes side by side stand among those of merged ones
--     joined_placed        schemes side by side
--     grown_placed         new states behind them
--     HasFirstKind         the kind of the first clash of a constraint
--     project_merged, apply_merged, turned_merged, choice_merged, fix_merged
--     applied_merged       an application, with the automata of the two in either order
--     no_first_kind        where there are no goals, there is no clash
--     first_told           the kind of a constraint as the program keeps it
use Rattle.std.proofs.Common.{◌≡◌, ◌⊎◌, inl, inr, ℕ, suc, ◌+◌, ◌<◌, ◌≤◌, List, [], ◌∷◌, map, refl, sym, ap, ◌∙◌, subst, arith, All, Contains}
use Rattle.std.proofs.Math.ListN.{get_or-append, get_or-map}
use Rattle.std.proofs.lemmas.List.{get_or-append-add, map-id}
use Rattle.std.proofs.lemmas.List.Elements.{Contains-append_left, Contains-append_right, Contains-append_cases}
use Rattle.mls_book.proofs.LongerBooks.{below_or_more}
use Rattle.mls_automaton.specs.declared.automaton.Polarity.TheVariants.{Positive}
use Rattle.mls_automaton.specs.declared.automaton.State.{State}
use Rattle.mls_automaton.specs.declared.automaton.Flow.{Flow}
use Rattle.mls_automaton.specs.declared.state_set.StateId.{StateId}
use Rattle.mls_automaton.specs.declared.scheme.Scheme.{Scheme}
use Rattle.mls_automaton.specs.Automata.{Automaton, HasFlow, IsState, empty_head, flow, head_at, polarity_at}
use Rattle.mls_automaton.specs.Embeddings.{appended, renamed_flow, renamed_head, renamed_state}
use Rattle.mls_automaton.specs.Models.{IsClosed}
use Rattle.mls_automaton.proofs.Appends.{first-state, second-state, flows-appended, renamed_head-self}
use Rattle.mls_automaton.proofs.Lists.{Contains-map, Contains-map_back}
use Rattle.mls_solver.specs.Relations.{IsRelated, goal, domain, codomain, field, along}
use Rattle.mls_infer.specs.declared.fault.SiteKind.{SiteKind}
use Rattle.mls_infer.specs.Constraints.{Constraint, HasOneState, HasStates, Joined, joined, grown, size, up, negative, positive, function_head, record_head}
use Rattle.mls_infer.specs.Constraints.{bool_head, states_of}
use Rattle.mls_infer.specs.Constraints.{IsApplied, project_constraint, apply_constraint, turned_constraint, choice_constraint, fix_constraint}
use Rattle.mls_automaton.proofs.Instances.{AreGoals}
use Rattle.mls_solver.specs.Relations.{IsGoal}
use Rattle.mls_infer.specs.declared.constraints.Constraints.{Constraints}
use Rattle.mls_infer.specs.declared.solve.NoSolution.{NoSolution}
use Rattle.mls_infer.specs.declared.solve.NoSolution.TheVariants as none
use Rattle.mls_infer.specs.Posed.{IsGoalOf, constraint_of}
use Rattle.mls_infer.specs.Solved.{ClashesFirst, TellsFirstClash}
use Rattle.mls_infer.proofs.Merges.{extended_refl}
use Rattle.mls_infer.proofs.Solvable.{between_pairs, goal_in, pair_in}
use Rattle.mls_infer.specs.Merges.{AreMergedSchemes, IsExtended, IsMergedScheme}
use Rattle.mls_infer.specs.Solved.{GoalsOf, IsFirstKind}
use Rattle.mls_infer.proofs.Beside.{joined_one, size_appended}
use Rattle.mls_infer.proofs.ClosedConstraints.{IsWellFormed, apply_closed, choice_closed, fix_closed, project_closed, turned_closed}
use Rattle.mls_infer.proofs.ClosedConstraints.{joined_closed}
use Rattle.mls_infer.proofs.ConstraintRows.{nothing_in, pair}
use Rattle.mls_infer.proofs.Grown.{states_more}
use Rattle.mls_infer.proofs.OneState.{scheme_states}
use Rattle.mls_infer.proofs.PlacedClashes.{IsPlaced, distinct_places, first_kind_placed, renamed_agree, renamed_twice}
use Rattle.mls_infer.proofs.SideBySide.{AllHaveStates}

-- The numbers below n stay, and those from n on stand from m on, where they are placed as `later` says.
abbrev moved_by : (x n m : ℕ) (later : ℕ → ℕ) → (x < n) ⊎ ((j : ℕ) × (x ≡ n + j)) → ℕ
moved_by x n m later (inl low) = x
moved_by x n m later (inr (j, is)) = m + later j

abbrev pub moved : (n m : ℕ) (later : ℕ → ℕ) → ℕ → ℕ
moved n m later x = moved_by x n m later (below_or_more x n)

module _ (n m : ℕ) (later : ℕ → ℕ) where
  pub moved_below : (x : ℕ) → x < n → moved n m later x ≡ x
  moved_below x low = go (below_or_more x n)
    where
      go : (o : (x < n) ⊎ ((j : ℕ) × (x ≡ n + j))) → moved_by x n m later o ≡ x
      go (inl h) = refl
      go (inr h) = let at : x ≡ n + h.0 = h.1 in absurd (omega arith)

  pub moved_above : (x : ℕ) → moved n m later (n + x) ≡ m + later x
  moved_above x = go (below_or_more (n + x) n)
    where
      go : (o : (n + x < n) ⊎ ((j : ℕ) × (n + x ≡ n + j))) → moved_by (n + x) n m later o ≡ m + later x
      go (inl h) = absurd (omega arith)
      go (inr h) = let at : n + x ≡ n + h.0 = h.1 in let same : h.0 ≡ x = omega arith in ap (λ k. m + later k) same

  moved_rising : n ≤ m → ((s j : ℕ) → s < j → later s < later j) → (s j : ℕ) → s < j → moved n m later s < moved n m later j
  moved_rising le rising s j less = go (below_or_more s n) (below_or_more j n)
    where
      go : (s < n) ⊎ ((i : ℕ) × (s ≡ n + i)) → (j < n) ⊎ ((i : ℕ) × (j ≡ n + i)) → moved n m later s < moved n m later j
      go (inl low) (inl low') =
          let first : moved n m later s ≡ s = moved_below s low in
          let second : moved n m later j ≡ j = moved_below j low' in
          omega arith
      go (inl low) (inr (i, is)) =
          let first : moved n m later s ≡ s = moved_below s low in
          let second : moved n m later j ≡ m + later i = ap (moved n m later) is ∙ moved_above i in
          omega arith
      go (inr (i, is)) (inl low) = let at : s ≡ n + i = is in absurd (omega arith)
      go (inr (i, is)) (inr (k, is')) =
          let at : s ≡ n + i = is in
          let at' : j ≡ n + k = is' in
          let first : moved n m later s ≡ m + later i = ap (moved n m later) is ∙ moved_above i in
          let second : moved n m later j ≡ m + later k = ap (moved n m later) is' ∙ moved_above k in
          let up : later i < later k = rising i k (omega arith) in
          omega arith

-- where the states of the first schemes side by side stand among those of the second ones, which have further states
abbrev pub place_in : List Scheme → List Scheme → ℕ → ℕ
place_in (s ∷ ss) (m ∷ ms) = moved (size s.automaton) (size m.automaton) (place_in ss ms)
place_in _ _ = λ x. x

flow_at : (a : Automaton) (n p n' p' : ℕ) → n ≡ n' → p ≡ p' → HasFlow a n p → HasFlow a n' p'
flow_at a n p n' p' e e' it = subst (λ k. HasFlow a k p') e (subst (λ k. HasFlow a n k) e' it)

-- two automata side by side, the first of which has further states in the second pair
module _ (a b c d : Automaton) (place : ℕ → ℕ) (closed_a : IsClosed a) (closed_b : IsClosed b) (more : IsExtended a b) (later : IsPlaced place c d) where
  abbrev n : ℕ
  n = size a

  abbrev m : ℕ
  m = size b

  abbrev whole : ℕ → ℕ
  whole = moved n m place

  old_place : (x : ℕ) → x < n → whole x ≡ x
  old_place x low = moved_below n m place x low

  new_place : (x : ℕ) → whole (n + x) ≡ m + place x
  new_place x = moved_above n m place x

  abbrev first : Automaton
  first = appended a c

  abbrev second : Automaton
  second = appended b d

  abbrev IsAt : ℕ → Type 0
  IsAt x = head_at second (whole x) ≡ renamed_head whole (head_at first x)

  head_old : (x : ℕ) → x < n → IsAt x
  head_old x low =
      let longer : n ≤ m = more.longer in
      ap (head_at second) (old_place x low)
      ∙ ap (λ (s : State). s.head) (first-state b d x (omega arith))
      ∙ more.heads x low
      ∙ sym (renamed_head-self (head_at a x))
      ∙ renamed_agree (λ s. s) whole (polarity_at a x) (head_at a x)
      (states_more (IsState a) (λ q s. s ≡ whole s) (λ q s is. sym (old_place s is.in_range)) (polarity_at a x) (head_at a x) (closed_a.heads x))
      ∙ ap (λ (s : State). renamed_head whole s.head) (sym (first-state a c x low))

  head_new : (i : ℕ) → i < size c → IsAt (n + i)
  head_new i low =
      let same : (λ s. m + place s) ≡ (λ s. whole (n + s)) = λ k s. sym (new_place s) k in
      ap (head_at second) (new_place i)
      ∙ ap (λ (s : State). s.head) (second-state b d (place i))
      ∙ ap (renamed_head (up m)) (later.heads i low)
      ∙ renamed_twice (up m) place (head_at c i)
      ∙ ap (λ (f : ℕ → ℕ). renamed_head f (head_at c i)) same
      ∙ sym (renamed_twice whole (up n) (head_at c i))
      ∙ ap (λ (s : State). renamed_head whole s.head) (sym (second-state a c i))

  flow_left : (x q : ℕ) → HasFlow a x q → HasFlow first x q
  flow_left x q it = Contains-append_left a.flows (map (renamed_flow (up n)) c.flows) (flow x q) it

  flow_right : (x q : ℕ) → HasFlow c x q → HasFlow first (n + x) (n + q)
  flow_right x q it =
      Contains-append_right a.flows (map (renamed_flow (up n)) c.flows) (flow (n + x) (n + q))
      (Contains-map (renamed_flow (up n)) c.flows (flow x q) it)

  flow_placed : (x q : ℕ) → HasFlow a x q ⊎ ((i j : ℕ) × HasFlow c i j × (x ≡ n + i) × (q ≡ n + j)) → HasFlow second (whole x) (whole q)
  flow_placed x q (inl it) =
      let low : x < n = (closed_a.negative (flow x q) it).in_range in
      let low' : q < n = (closed_a.positive (flow x q) it).in_range in
      flow_at second x q (whole x) (whole q) (sym (old_place x low)) (sym (old_place q low'))
      (Contains-append_left b.flows (map (renamed_flow (up m)) d.flows) (flow x q) ((more.flows x q low).1 it))
  flow_placed x q (inr it) =
      flow_at second (m + place it.0) (m + place it.1) (whole x) (whole q) (sym (ap whole it.3 ∙ new_place it.0)) (sym (ap whole it.4 ∙ new_place it.1))
      (Contains-append_right b.flows (map (renamed_flow (up m)) d.flows) (flow (m + place it.0) (m + place it.1))
      (Contains-map (renamed_flow (up m)) d.flows (flow (place it.0) (place it.1)) (later.flows it.0 it.1 it.2)))

  back_old : (x q : ℕ) → x < n → HasFlow b x q ⊎ ((i j : ℕ) × HasFlow d i j × (x ≡ m + i) × (q ≡ m + j)) → (p : ℕ) × HasFlow first x p × (q ≡ whole p)
  back_old x q low (inl it) =
      let own : HasFlow a x q = (more.flows x q low).0 it in
      (q, flow_left x q own, sym (old_place q (closed_a.positive (flow x q) own).in_range))
  back_old x q low (inr it) = let at : x ≡ m + it.0 = it.3 in let longer : n ≤ m = more.longer in absurd (omega arith)

  back_new : (i q : ℕ) → i < size c → HasFlow b (m + place i) q ⊎ ((k j : ℕ) × HasFlow d k j × (m + place i ≡ m + k) × (q ≡ m + j))
      → (p : ℕ) × HasFlow first (n + i) p × (q ≡ whole p)
  back_new i q low (inl it) = let low' : m + place i < m = (closed_b.negative (flow (m + place i) q) it).in_range in absurd (omega arith)
  back_new i q low (inr it) =
      let at : m + place i ≡ m + it.0 = it.3 in
      let same : it.0 ≡ place i = omega arith in
      let own = later.flows_back i it.1 low (subst (λ k. HasFlow d k it.1) same it.2) in
      (n + own.0, flow_right i own.0 own.1, it.4 ∙ (ap (λ k. m + k) own.2 ∙ sym (new_place own.0)))

  pub appended_placed : IsPlaced (moved (size a) (size b) place) (appended a c) (appended b d)
  appended_placed = record {
    rising = moved_rising n m place more.longer later.rising;
    heads = λ x low. head x low (below_or_more x n);
    flows = λ x q it. flow_placed x q (flows-appended a c x q it);
    flows_back = λ x q low it. back x q low it (below_or_more x n);
  }
    where
      head : (x : ℕ) → x < size first → (x < n) ⊎ ((i : ℕ) × (x ≡ n + i)) → IsAt x
      head x low (inl old) = head_old x old
      head x low (inr (i, is)) =
          let all : size first ≡ n + size c = size_appended a c in
          let at : x ≡ n + i = is in
          subst IsAt (sym is) (head_new i (omega arith))

      back : (x q : ℕ) → x < size first → HasFlow second (whole x) q → (x < n) ⊎ ((i : ℕ) × (x ≡ n + i)) → (p : ℕ) × HasFlow first x p × (q ≡ whole p)
      back x q low it (inl old) = back_old x q old (flows-appended b d x q (subst (λ k. HasFlow second k q) (old_place x old) it))
      back x q low it (inr (i, is)) =
          let all : size first ≡ n + size c = size_appended a c in
          let at : x ≡ n + i = is in
          let there : HasFlow second (m + place i) q = subst (λ k. HasFlow second k q) (ap whole is ∙ new_place i) it in
          subst (λ x. (p : ℕ) × HasFlow first x p × (q ≡ whole p)) (sym is) (back_new i q (omega arith) (flows-appended b d (m + place i) q there))

-- new states and edges behind both
module _ (a b : Automaton) (place : ℕ → ℕ) (closed : IsClosed b) (placed : IsPlaced place a b)
    (behind : (i : ℕ) → place (size a + i) ≡ size b + i) (states : List State) (flows : List Flow) where
  abbrev states' : List State
  states' = map (renamed_state place) states

  abbrev flows' : List Flow
  flows' = map (renamed_flow place) flows

  abbrev g : Automaton
  g = grown a states flows

  abbrev g' : Automaton
  g' = grown b states' flows'

  abbrev d : State
  d = record { polarity = Positive; head = empty_head }

  low_place : (x : ℕ) → x < size a → place x < size b
  low_place x low =
      let up : place x < place (size a + 0) = placed.rising x (size a + 0) (omega arith) in
      let at : place (size a + 0) ≡ size b + 0 = behind 0 in
      omega arith

  head_grown : (x : ℕ) → (x < size a) ⊎ ((i : ℕ) × (x ≡ size a + i)) → head_at g' (place x) ≡ renamed_head place (head_at g x)
  head_grown x (inl low) =
      ap (λ (s : State). s.head) (get_or-append b.states states' d (place x) (low_place x low))
      ∙ placed.heads x low
      ∙ ap (λ (s : State). renamed_head place s.head) (sym (get_or-append a.states states d x low))
  head_grown x (inr (i, is)) =
      subst (λ x. head_at g' (place x) ≡ renamed_head place (head_at g x)) (sym is)
      (ap (head_at g') (behind i)
      ∙ ap (λ (s : State). s.head) (get_or-append-add b.states states' i d ∙ get_or-map (renamed_state place) states i d)
      ∙ ap (λ (s : State). renamed_head place s.head) (sym (get_or-append-add a.states states i d)))

  flow_grown : (x q : ℕ) → HasFlow a x q ⊎ Contains flows (flow x q) → HasFlow g' (place x) (place q)
  flow_grown x q (inl it) = Contains-append_left b.flows flows' (flow (place x) (place q)) (placed.flows x q it)
  flow_grown x q (inr it) = Contains-append_right b.flows flows' (flow (place x) (place q)) (Contains-map (renamed_flow place) flows (flow x q) it)

  back_before : (x q : ℕ) → HasFlow b (place x) q → (x < size a) ⊎ ((i : ℕ) × (x ≡ size a + i)) → (p : ℕ) × HasFlow g x p × (q ≡ place p)
  back_before x q it (inl low) = let own = placed.flows_back x q low it in (own.0, Contains-append_left a.flows flows (flow x own.0) own.1, own.2)
  back_before x q it (inr (i, is)) =
      let low : place x < size b = (closed.negative (flow (place x) q) it).in_range in
      let at : place x ≡ size b + i = ap place is ∙ behind i in
      absurd (omega arith)

  back_grown : (x q : ℕ) → HasFlow b (place x) q ⊎ Contains flows' (flow (place x) q) → (p : ℕ) × HasFlow g x p × (q ≡ place p)
  back_grown x q (inl it) = back_before x q it (below_or_more x (size a))
  back_grown x q (inr it) =
      let found = Contains-map_back (renamed_flow place) flows (flow (place x) q) it in
      let f : Flow = found.0 in
      let same : f.negative.0 ≡ x = distinct_places place placed.rising f.negative.0 x (ap (λ (f : Flow). f.negative.0) found.2) in
      let there : Contains flows (flow x f.positive.0) = subst (λ k. Contains flows (flow k f.positive.0)) same found.1 in
      (f.positive.0, Contains-append_right a.flows flows (flow x f.positive.0) there, sym (ap (λ (f : Flow). f.positive.0) found.2))

  pub grown_placed : IsPlaced place (grown a states flows) (grown b (map (renamed_state place) states) (map (renamed_flow place) flows))
  grown_placed = record {
    rising = placed.rising;
    heads = λ x low. head_grown x (below_or_more x (size a));
    flows = λ x q it. flow_grown x q (Contains-append_cases a.flows flows (flow x q) it);
    flows_back = λ x q low it. back_grown x q (Contains-append_cases b.flows flows' (flow (place x) q) it);
  }

-- schemes side by side
pub joined_placed : (ss ms : List Scheme) → AllHaveStates ss → AreMergedSchemes ss ms → IsPlaced (place_in ss ms) (joined ss).automaton (joined ms).automaton
joined_placed [] [] are merged = record {
  rising = λ s j less. less;
  heads = λ s low. absurd (omega arith);
  flows = λ n p it. absurd (nothing_in (flow n p) it);
  flows_back = λ n q low it. absurd (omega arith);
}
joined_placed [] (m ∷ ms) are merged = absurd merged
joined_placed (s ∷ ss) [] are merged = absurd merged
joined_placed (s ∷ ss) (m ∷ ms) are merged =
    appended_placed s.automaton m.automaton (joined ss).automaton (joined ms).automaton (place_in ss ms)
    are.0.automaton merged.0.is.automaton merged.0.extended (joined_placed ss ms are.1 merged.1)

-- what stands behind all of them
pub joined_behind : (ss ms : List Scheme) → AreMergedSchemes ss ms → (i : ℕ) → place_in ss ms (size (joined ss).automaton + i) ≡ size (joined ms).automaton + i
joined_behind [] [] merged i = refl
joined_behind [] (m ∷ ms) merged i = absurd merged
joined_behind (s ∷ ss) [] merged i = absurd merged
joined_behind (s ∷ ss) (m ∷ ms) merged i =
    let n : ℕ = size s.automaton in
    let n' : ℕ = size m.automaton in
    let k : ℕ = size (joined ss).automaton in
    let k' : ℕ = size (joined ms).automaton in
    let all : size (joined (s ∷ ss)).automaton ≡ n + k = size_appended s.automaton (joined ss).automaton in
    let all' : size (joined (m ∷ ms)).automaton ≡ n' + k' = size_appended m.automaton (joined ms).automaton in
    let at : size (joined (s ∷ ss)).automaton + i ≡ n + (k + i) = omega arith in
    let later : place_in ss ms (k + i) ≡ k' + i = joined_behind ss ms merged.1 i in
    let at' : n' + (k' + i) ≡ size (joined (m ∷ ms)).automaton + i = omega arith in
    ap (place_in (s ∷ ss) (m ∷ ms)) at ∙ (moved_above n n' (place_in ss ms) (k + i) ∙ (ap (λ j. n' + j) later ∙ at'))

pub merged_states : (ss ms : List Scheme) → AreMergedSchemes ss ms → AllHaveStates ms
merged_states [] [] merged = tt
merged_states [] (m ∷ ms) merged = absurd merged
merged_states (s ∷ ss) [] merged = absurd merged
merged_states (s ∷ ss) (m ∷ ms) merged = (scheme_states m merged.0.is merged.0.rise, merged_states ss ms merged.1)

-- the kind of the first clash of a constraint
abbrev pub HasFirstKind : Constraint → SiteKind → Type 0
HasFirstKind c k = IsFirstKind c.scheme.automaton (GoalsOf c) k

-- a constraint whose states and goals stand at other places
abbrev placed_pair : (ℕ → ℕ) → ℕ × ℕ → ℕ × ℕ
placed_pair place g = (place g.0, place g.1)

pub constraint_placed : (place : ℕ → ℕ) (c d : Constraint) → IsWellFormed c → IsPlaced place c.scheme.automaton d.scheme.automaton
    → map (placed_pair place) c.goals ≡ d.goals → (k : SiteKind)
    → HasFirstKind c k → HasFirstKind d k
constraint_placed place c d well placed goals k it =
    first_kind_placed place c.scheme.automaton d.scheme.automaton well.states.automaton placed (GoalsOf c) (GoalsOf d) well.goals
    (λ p n inside. subst (λ (gs : List (ℕ × ℕ)). Contains gs (place p, place n)) goals (Contains-map (placed_pair place) c.goals (p, n) inside))
    (λ q m inside.
    let found = Contains-map_back (placed_pair place) c.goals (q, m) (subst (λ (gs : List (ℕ × ℕ)). Contains gs (q, m)) (sym goals) inside) in
    (found.0.0, found.0.1, found.1, sym (ap (λ (g : ℕ × ℕ). g.0) found.2), sym (ap (λ (g : ℕ × ℕ). g.1) found.2))) k it

-- the places of three new states
new_places : (place : ℕ → ℕ) (n n' : ℕ) → ((i : ℕ) → place (n + i) ≡ n' + i) → (place n ≡ n') × (place (suc n) ≡ suc n') × (place (suc (suc n)) ≡ suc (suc n'))
new_places place n n' behind =
    let zero : n ≡ n + 0 = omega arith in
    let zero' : n' + 0 ≡ n' = omega arith in
    let one : suc n ≡ n + 1 = omega arith in
    let one' : n' + 1 ≡ suc n' = omega arith in
    let two : suc (suc n) ≡ n + 2 = omega arith in
    let two' : n' + 2 ≡ suc (suc n') = omega arith in
    (ap place zero ∙ (behind 0 ∙ zero'), ap place one ∙ (behind 1 ∙ one'), ap place two ∙ (behind 2 ∙ two'))

-- the places of roots
first_root : (s m : Scheme) (ss ms : List Scheme) → HasStates s → IsMergedScheme s m → place_in (s ∷ ss) (m ∷ ms) s.root.0 ≡ m.root.0
first_root s m ss ms is merged =
    moved_below (size s.automaton) (size m.automaton) (place_in ss ms) s.root.0 is.root.in_range ∙ sym (ap (λ (r : StateId). r.0) merged.root)

later_root : (s m : Scheme) (ss ms : List Scheme) (r r' : ℕ) → place_in ss ms r ≡ r' → place_in (s ∷ ss) (m ∷ ms) (size s.automaton + r) ≡ size m.automaton + r'
later_root s m ss ms r r' e = moved_above (size s.automaton) (size m.automaton) (place_in ss ms) r ∙ ap (λ k. size m.automaton + k) e

-- a projection
pub project_merged : (label : List ℕ) (s m : Scheme) → HasStates s → IsMergedScheme s m → (k : SiteKind)
    → HasFirstKind (project_constraint label s) k → HasFirstKind (project_constraint label m) k
project_merged label s m is merged k it =
    let n : ℕ = size s.automaton in
    let n' : ℕ = size m.automaton in
    let place : ℕ → ℕ = place_in (s ∷ []) (m ∷ []) in
    let behind : (i : ℕ) → place (n + i) ≡ n' + i = λ i. moved_above n n' (λ x. x) i in
    let new = new_places place n n' behind in
    let states : List State = negative empty_head ∷ positive empty_head ∷ negative (record_head (record { label = label; set = n ∷ [] } ∷ [])) ∷ [] in
    let flows : List Flow = flow n (suc n) ∷ [] in
    let both : IsPlaced place (joined (s ∷ [])).automaton (joined (m ∷ [])).automaton = joined_placed (s ∷ []) (m ∷ []) (is, tt) (merged, tt) in
    let one : IsPlaced place s.automaton m.automaton =
    subst (λ (j : Joined). IsPlaced place s.automaton j.automaton) (joined_one m)
    (subst (λ (j : Joined). IsPlaced place j.automaton (joined (m ∷ [])).automaton) (joined_one s) both) in
    let more : IsPlaced place (grown s.automaton states flows) (grown m.automaton (map (renamed_state place) states) (map (renamed_flow place) flows)) =
    grown_placed s.automaton m.automaton place merged.is.automaton one behind states flows in
    let same : grown m.automaton (map (renamed_state place) states) (map (renamed_flow place) flows) ≡ (project_constraint label m).scheme.automaton = λ i.
    grown m.automaton (negative empty_head ∷ positive empty_head ∷ negative (record_head (record { label = label; set = new.0 i ∷ [] } ∷ [])) ∷ [])
    (flow (new.0 i) (new.1 i) ∷ []) in
    constraint_placed place (project_constraint label s) (project_constraint label m) (project_closed label s is)
    (subst (IsPlaced place (grown s.automaton states flows)) same more)
    (λ i. (first_root s m [] [] is merged i, new.2 i) ∷ []) k it

-- two schemes side by side, and an application over them, where the function goes from this state
abbrev applied : Scheme → Scheme → ℕ → Automaton
applied s t r =
    let j = joined (s ∷ t ∷ []) in
    let n = size j.automaton in
    grown j.automaton (negative empty_head ∷ positive empty_head ∷ negative (function_head (r ∷ []) (n ∷ [])) ∷ []) (flow n (suc n) ∷ [])

module _ (s t m u : Scheme) (is_s : HasStates s) (is_t : HasStates t) (merged : IsMergedScheme s m) (merged' : IsMergedScheme t u) where
  abbrev place_two : ℕ → ℕ
  place_two = place_in (s ∷ t ∷ []) (m ∷ u ∷ [])

  abbrev size_two : ℕ
  size_two = size (joined (s ∷ t ∷ [])).automaton

  abbrev size_two' : ℕ
  size_two' = size (joined (m ∷ u ∷ [])).automaton

  new_two : (place_two size_two ≡ size_two') × (place_two (suc size_two) ≡ suc size_two') × (place_two (suc (suc size_two)) ≡ suc (suc size_two'))
  new_two = new_places place_two size_two size_two' (joined_behind (s ∷ t ∷ []) (m ∷ u ∷ []) (merged, (merged', tt)))

  applied_placed : (r r' : ℕ) → place_two r ≡ r' → IsPlaced place_two (applied s t r) (applied m u r')
  applied_placed r r' root =
      let n : ℕ = size_two in
      let ss : List Scheme = s ∷ t ∷ [] in
      let ms : List Scheme = m ∷ u ∷ [] in
      let all : AreMergedSchemes ss ms = (merged, (merged', tt)) in
      let states : List State = negative empty_head ∷ positive empty_head ∷ negative (function_head (r ∷ []) (n ∷ [])) ∷ [] in
      let flows : List Flow = flow n (suc n) ∷ [] in
      let more : IsPlaced place_two (applied s t r) (grown (joined ms).automaton (map (renamed_state place_two) states) (map (renamed_flow place_two) flows)) =
      grown_placed (joined ss).automaton (joined ms).automaton place_two (joined_closed ms (merged_states ss ms all))
      (joined_placed ss ms (is_s, (is_t, tt)) all) (joined_behind ss ms all) states flows in
      let same : grown (joined ms).automaton (map (renamed_state place_two) states) (map (renamed_flow place_two) flows) ≡ applied m u r' = λ i.
      grown (joined ms).automaton (negative empty_head ∷ positive empty_head ∷ negative (function_head (root i ∷ []) (new_two.0 i ∷ [])) ∷ [])
      (flow (new_two.0 i) (new_two.1 i) ∷ []) in
      subst (IsPlaced place_two (applied s t r)) same more

  first_two : place_two s.root.0 ≡ m.root.0
  first_two = first_root s m (t ∷ []) (u ∷ []) is_s merged

  second_two : place_two (size s.automaton + t.root.0) ≡ size m.automaton + u.root.0
  second_two = later_root s m (t ∷ []) (u ∷ []) t.root.0 u.root.0 (first_root t u [] [] is_t merged')

pub apply_merged : (s t m u : Scheme) → HasStates s → HasStates t → IsMergedScheme s m → IsMergedScheme t u → (k : SiteKind)
    → HasFirstKind (apply_constraint s t) k → HasFirstKind (apply_constraint m u) k
apply_merged s t m u is_s is_t merged merged' k it =
    let root = second_two s t m u is_s is_t merged merged' in
    constraint_placed (place_in (s ∷ t ∷ []) (m ∷ u ∷ [])) (apply_constraint s t) (apply_constraint m u) (apply_closed s t is_s is_t)
    (applied_placed s t m u is_s is_t merged merged' (size s.automaton + t.root.0) (size m.automaton + u.root.0) root)
    (λ i. (first_two s t m u is_s is_t merged merged' i, (new_two s t m u is_s is_t merged merged').2 i) ∷ []) k it

pub turned_merged : (s t m u : Scheme) → HasStates s → HasStates t → IsMergedScheme s m → IsMergedScheme t u → (k : SiteKind)
    → HasFirstKind (turned_constraint s t) k → HasFirstKind (turned_constraint m u) k
turned_merged s t m u is_s is_t merged merged' k it =
    let root = first_two t s u m is_t is_s merged' merged in
    constraint_placed (place_in (t ∷ s ∷ []) (u ∷ m ∷ [])) (turned_constraint s t) (turned_constraint m u) (turned_closed s t is_s is_t)
    (applied_placed t s u m is_t is_s merged' merged t.root.0 u.root.0 root)
    (λ i. (second_two t s u m is_t is_s merged' merged i, (new_two t s u m is_t is_s merged' merged).2 i) ∷ []) k it

-- an application over merged schemes, with a first clash of this kind
abbrev pub IsAppliedOfKind : Scheme → Scheme → SiteKind → Type 0
IsAppliedOfKind m u k = (d : Constraint) × IsApplied m u d × HasFirstKind d k

pub applied_merged : (s t m u : Scheme) (c : Constraint) → HasStates s → HasStates t → IsMergedScheme s m → IsMergedScheme t u → IsApplied s t c
    → (k : SiteKind)
    → HasFirstKind c k → IsAppliedOfKind m u k
applied_merged s t m u c is_s is_t merged merged' (inl same) k it =
    let own = subst (λ (c : Constraint). HasFirstKind c k) same it in
    (apply_constraint m u, inl refl, apply_merged s t m u is_s is_t merged merged' k own)
applied_merged s t m u c is_s is_t merged merged' (inr same) k it =
    let own = subst (λ (c : Constraint). HasFirstKind c k) same it in
    (turned_constraint m u, inr refl, turned_merged s t m u is_s is_t merged merged' k own)

-- a conditional
pub choice_merged : (r s t l m u : Scheme) → HasStates r → HasStates s → HasStates t → IsMergedScheme r l → IsMergedScheme s m → IsMergedScheme t u
    → (k : SiteKind)
    → HasFirstKind (choice_constraint r s t) k → HasFirstKind (choice_constraint l m u) k
choice_merged r s t l m u is_r is_s is_t merged merged' merged'' k it =
    let ss : List Scheme = r ∷ s ∷ t ∷ [] in
    let ms : List Scheme = l ∷ m ∷ u ∷ [] in
    let all : AreMergedSchemes ss ms = (merged, (merged', (merged'', tt))) in
    let place : ℕ → ℕ = place_in ss ms in
    let n : ℕ = size (joined ss).automaton in
    let n' : ℕ = size (joined ms).automaton in
    let new = new_places place n n' (joined_behind ss ms all) in
    let states : List State = negative bool_head ∷ negative empty_head ∷ positive empty_head ∷ [] in
    let flows : List Flow = flow (suc n) (suc (suc n)) ∷ [] in
    let new_states : List State = map (renamed_state place) states in
    let new_flows : List Flow = map (renamed_flow place) flows in
    let more : IsPlaced place (grown (joined ss).automaton states flows) (grown (joined ms).automaton new_states new_flows) =
    grown_placed (joined ss).automaton (joined ms).automaton place (joined_closed ms (merged_states ss ms all))
    (joined_placed ss ms (is_r, (is_s, (is_t, tt))) all) (joined_behind ss ms all) states flows in
    let same : grown (joined ms).automaton new_states new_flows ≡ (choice_constraint l m u).scheme.automaton = λ i.
    grown (joined ms).automaton states (flow (new.1 i) (new.2 i) ∷ []) in
    let first : place r.root.0 ≡ l.root.0 = first_root r l (s ∷ t ∷ []) (m ∷ u ∷ []) is_r merged in
    let second : place (size r.automaton + s.root.0) ≡ size l.automaton + m.root.0 =
    later_root r l (s ∷ t ∷ []) (m ∷ u ∷ []) s.root.0 m.root.0 (first_root s m (t ∷ []) (u ∷ []) is_s merged') in
    let third : place (size r.automaton + (size s.automaton + t.root.0)) ≡ size l.automaton + (size m.automaton + u.root.0) =
    later_root r l (s ∷ t ∷ []) (m ∷ u ∷ []) (size s.automaton + t.root.0) (size m.automaton + u.root.0)
    (later_root s m (t ∷ []) (u ∷ []) t.root.0 u.root.0 (first_root t u [] [] is_t merged'')) in
    constraint_placed place (choice_constraint r s t) (choice_constraint l m u) (choice_closed r s t is_r is_s is_t)
    (subst (IsPlaced place (grown (joined ss).automaton states flows)) same more)
    (λ i. (first i, new.0 i) ∷ (second i, new.1 i) ∷ (third i, new.1 i) ∷ []) k it

-- an extended automaton has the states at the places where they were
pub extended_placed : (a b : Automaton) → IsClosed a → IsExtended a b → IsPlaced (λ s. s) a b
extended_placed a b closed more = record {
  rising = λ s j less. less;
  heads = λ s low. more.heads s low ∙ sym (renamed_head-self (head_at a s));
  flows = λ n p it. (more.flows n p (closed.negative (flow n p) it).in_range).1 it;
  flows_back = λ n q low it. (q, (more.flows n q low).0 it, refl);
}

-- a recursion whose binder has one state at most
pub fix_merged : (x : ℕ) (s m : Scheme) → HasStates s → IsMergedScheme s m → HasOneState x s → (k : SiteKind)
    → HasFirstKind (fix_constraint x s) k → HasFirstKind (fix_constraint x m) k
fix_merged x s m is merged one k it =
    let root : s.root.0 ≡ m.root.0 = sym (ap (λ (r : StateId). r.0) merged.root) in
    let states : states_of x s.env ≡ states_of x m.env = sym (merged.one x one) in
    constraint_placed (λ s. s) (fix_constraint x s) (fix_constraint x m) (fix_closed x s is)
    (extended_placed s.automaton m.automaton is.automaton merged.extended)
    (map-id (fix_constraint x s).goals ∙ (λ i. map (pair (root i)) (states i))) k it

-- nothing comes of no goals
nothing_related : (a : Automaton) (R : ℕ → ℕ → Type 0) → ((p n : ℕ) → R p n → ⊥) → (p n : ℕ) → IsRelated a R p n → ⊥
nothing_related a R none p n (goal it) = none p n it
nothing_related a R none q m (domain {p = p} {n = n} it left right) = nothing_related a R none p n it
nothing_related a R none q m (codomain {p = p} {n = n} it left right) = nothing_related a R none p n it
nothing_related a R none q m (field {p = p} {n = n} label it left right) = nothing_related a R none p n it
nothing_related a R none p m (along {n = n} it edge later) = nothing_related a R none p n it

pub no_first_kind : (a : Automaton) (c : Constraint) → c.goals ≡ [] → (k : SiteKind) → IsFirstKind a (GoalsOf c) k → ⊥
no_first_kind a c none k it =
    nothing_related a (GoalsOf c) (λ p n inside. nothing_in (p, n) (subst (λ (gs : List (ℕ × ℕ)). Contains gs (p, n)) none inside))
    it.clash.positive.0 it.clash.negative.0 it.first.clash.0

-- the first clash of the goals of a constraint, as the program keeps them
module _ (c : Constraints) (closed : IsClosed c.automaton) (are : All (IsGoalOf c.automaton) c.goals) where
  goals_are : AreGoals c.automaton (IsGoal c.goals)
  goals_are p n it = between_pairs c.automaton c.goals are p n (pair_in c.goals p n it)

  pub first_told : (e : NoSolution) → ClashesFirst c.automaton c.goals e → TellsFirstClash (constraint_of c) e
  first_told (none.Clash kind) it =
      first_kind_placed (λ s. s) c.automaton c.automaton closed
      (extended_placed c.automaton c.automaton closed (extended_refl c.automaton)) (IsGoal c.goals) (GoalsOf (constraint_of c)) goals_are
      (pair_in c.goals) (λ p n it. (p, n, goal_in c.goals p n it, refl, refl)) kind it
  first_told none.Memory it = tt
