-- An automaton that is solved in place.
--     grow-none, grow-more, grow-all      sets that grow by the elements of a list
--     touched-none, touched-more, touched_found      the states that may change
--     change-made                         what a state has in the solved automaton
--     left-all, left-next, left-less, left-none      the states that are left to be gone over
--     made-none, made-more, fitting-later, fitting-change      changes one after another
--     made-solved, made-closed            all of them solve the automaton
use Rattle.std.proofs.Common.{◌≡◌, ◌≢◌, ◌⊎◌, inl, inr, Bool, true, false, cond, Some, None, ℕ, ◌+◌, ◌<◌, ◌≤◌, List, [], ◌∷◌, ◌++◌, map, refl, sym, ap, ◌∙◌, subst, arith, length, take, get_or, Contains, All, append-nil, append_assoc}
use Rattle.std.specs.Prelude.{◌↔◌, ◌||◌, Option}
use Rattle.std.specs.BTreeSet.{BTreeSet, contains, Updates}
use Rattle.std.specs.Ordering.{nat_cmp, is_eq}
use Rattle.std.proofs.lemmas.Bool.{cases_eq}
use Rattle.std.proofs.lemmas.Cmp.{nat_cmp_total}
use Rattle.std.proofs.lemmas.Map.Lookups.{exact_unsigned}
use Rattle.std.proofs.lemmas.Map.Views.{btree_set_contains_iff}
use Rattle.std.proofs.lemmas.List.{get_or_default}
use Rattle.std.proofs.lemmas.List.Elements.{All-contains, Contains-append_cases, Contains-append_left, Contains-append_right}
use Rattle.mls_automaton.specs.declared.automaton.Polarity.{Polarity}
use Rattle.mls_automaton.specs.declared.automaton.Polarity.TheVariants.{Positive, Negative}
use Rattle.mls_automaton.specs.declared.automaton.Head.{Head}
use Rattle.mls_automaton.specs.declared.automaton.State.{State}
use Rattle.mls_automaton.specs.declared.automaton.Flow.{Flow}
use Rattle.mls_automaton.specs.Automata.{Automaton, HasFlow, IsPartner, IsState, flow, head_at, polarity_at, state_at}
use Rattle.mls_automaton.specs.declared.automaton.Arms.{Arms}
use Rattle.mls_automaton.specs.Heads.{Parts, parts_of, combined, combined_functions, combined_records, IsSameParts}
use Rattle.mls_automaton.specs.Models.{HasRisingLabels, IsClosed}
use Rattle.mls_automaton.proofs.Lists.{All-contained, Contains-cases, Contains-here, Contains-later}
use Rattle.mls_solver.specs.declared.settle.Change.{Change}
use Rattle.mls_solver.specs.Rooms.{Room, Holds}
use Rattle.mls_solver.specs.Solved.{IsSolved, ReachesBy, IsNewFlow}
use Rattle.mls_solver.specs.steps.Consequences.{first_of, second_of}
use Rattle.mls_solver.specs.steps.Numbers.{ByOne}
use Rattle.mls_solver.specs.steps.Settling.{AreChanges, AreMade, HasChangeOf, IsChange, IsFitting, IsMadeAt, IsTouched, Makes}
use Rattle.mls_solver.specs.steps.Solving.{AddsFlows, AreMembers, IsSolvedFlow, IsSolvedState, IsTarget}
use Rattle.mls_automaton.proofs.CombinedHeads.{same_parts-self}
use Rattle.mls_solver.proofs.Members.{below_or_last, only, flow-target, partner_of_negative, target-flow}
use Rattle.mls_solver.proofs.Relating.{take-all, taken-before, taken-cases, taken-last}
use Rattle.mls_solver.proofs.SolvedClosed.{closed_solved}

no_element : {X : Type 0} {Y : Type 0} (x : X) → Contains [] x → Y
no_element x it = let low : it.0 < 0 = it.1 in absurd (omega arith)

-- sets that grow by what each element of a list gives
module _ (By : ℕ → ℕ → Type 0) (old : List ℕ) where
  pub grow-none : (xs : List ℕ) (j : ℕ) → Contains old j ↔ Contains old j ⊎ ByOne (take 0 xs) By j
  grow-none xs j = (λ it. inl it, λ it. elim it [ inl there ↦ there | inr by ↦ no_element by.0 by.1 ])

  pub grow-more : (xs : List ℕ) (i : ℕ) → i < length xs → (mid new : List ℕ) → ((j : ℕ) → Contains mid j ↔ Contains old j ⊎ ByOne (take i xs) By j) → ((j : ℕ) → Contains new j ↔ Contains mid j ⊎ By (get_or xs i 0) j) → (j : ℕ) → Contains new j ↔ Contains old j ⊎ ByOne (take (i + 1) xs) By j
  grow-more xs i low mid new so_far more j = (
    λ it. elim ((more j).0 it) [
      | inl before ↦ elim ((so_far j).0 before) [ inl there ↦ inl there | inr by ↦ inr (by.0, taken-before xs i 0 low by.0 by.1, by.2) ]
      | inr by ↦ inr (get_or xs i 0, taken-last xs i 0 low, by)
    ],
    λ it. elim it [
      | inl there ↦ (more j).1 (inl ((so_far j).1 (inl there)))
      | inr by ↦ elim (taken-cases xs i 0 low by.0 by.1) [
        | inl before ↦ (more j).1 (inl ((so_far j).1 (inr (by.0, before, by.2))))
        | inr same ↦ (more j).1 (inr (subst (λ x. By x j) same by.2))
      ]
    ],
  )

  pub grow-all : (xs : List ℕ) (i : ℕ) → length xs ≤ i → (new : List ℕ) → ((j : ℕ) → Contains new j ↔ Contains old j ⊎ ByOne (take i xs) By j) → (j : ℕ) → Contains new j ↔ Contains old j ⊎ ByOne xs By j
  grow-all xs i all new it j = subst (λ (ys : List ℕ). Contains new j ↔ Contains old j ⊎ ByOne ys By j) (take-all xs i all) (it j)

-- the elements themselves
abbrev pub Self : ℕ → ℕ → Type 0
Self x j = j ≡ x

pub grow-self : (old new xs : List ℕ) → ((j : ℕ) → Contains new j ↔ Contains old j ⊎ ByOne xs Self j) → (j : ℕ) → Contains new j ↔ Contains old j ⊎ Contains xs j
grow-self old new xs it j = (
  λ there. elim ((it j).0 there) [ inl before ↦ inl before | inr by ↦ inr (subst (Contains xs) (sym by.2) by.1) ],
  λ both. (it j).1 (elim both [ inl before ↦ inl before | inr there ↦ inr (j, there, refl) ]),
)

pub grow-swap : (mid new : List ℕ) (x : ℕ) → ((j : ℕ) → Contains new j ↔ (j ≡ x) ⊎ Contains mid j) → (j : ℕ) → Contains new j ↔ Contains mid j ⊎ Self x j
grow-swap mid new x it j = (
  λ there. elim ((it j).0 there) [ inl same ↦ inr same | inr before ↦ inl before ],
  λ both. (it j).1 (elim both [ inl before ↦ inr before | inr same ↦ inl same ]),
)

-- the states at the edges of the first pairs
pub record AreTouched (a : Automaton) (room : Room) (i : ℕ) (touched : List ℕ) : Type 0 where
  pub all : (k : ℕ) → k < i → (s : ℕ) → IsPartner a (first_of room k) s ⊎ IsPartner a (second_of room k) s → Contains touched s
  pub in_range : (s : ℕ) → Contains touched s → s < length a.states

pub touched-none : (a : Automaton) (room : Room) (touched : List ℕ) → touched ≡ [] → AreTouched a room 0 touched
touched-none a room touched empty = record {
  all = λ k low s it. absurd (omega arith);
  in_range = λ s it. no_element s (subst (λ (xs : List ℕ). Contains xs s) empty it);
}

partner_low : (a : Automaton) → IsClosed a → (s j : ℕ) → IsPartner a s j → j < length a.states
partner_low a closed s j (inl it) = (closed.positive (flow s j) it).in_range
partner_low a closed s j (inr it) = (closed.negative (flow j s) it).in_range

module _ (a : Automaton) (closed : IsClosed a) (room : Room) (i p n : ℕ) (is : (p, n) ≡ get_or room.pairs i (0, 0)) (first second first' second' : List ℕ) (are_first : (j : ℕ) → Contains first j ↔ IsPartner a p j) (are_second : (j : ℕ) → Contains second j ↔ IsPartner a n j) (same : first' ≡ first) (same' : second' ≡ second) where
  pub touched-more : (old mid new : List ℕ) → AreTouched a room i old → ((j : ℕ) → Contains mid j ↔ Contains old j ⊎ Contains first' j) → ((j : ℕ) → Contains new j ↔ Contains mid j ⊎ Contains second' j) → AreTouched a room (i + 1) new
  touched-more old mid new so_far one two = record {
    all = λ k low s it. elim (below_or_last i k low) [
      | inl less ↦ (two s).1 (inl ((one s).1 (inl (so_far.all k less s it))))
      | inr last ↦ here s (subst (λ j. IsPartner a (first_of room j) s ⊎ IsPartner a (second_of room j) s) last it)
    ];
    in_range = λ s it. elim ((two s).0 it) [
      | inl before ↦ elim ((one s).0 before) [
        | inl there ↦ so_far.in_range s there
        | inr there ↦ partner_low a closed p s ((are_first s).0 (subst (λ (xs : List ℕ). Contains xs s) same there))
      ]
      | inr there ↦ partner_low a closed n s ((are_second s).0 (subst (λ (xs : List ℕ). Contains xs s) same' there))
    ];
  }
    where
      here : (s : ℕ) → IsPartner a (first_of room i) s ⊎ IsPartner a (second_of room i) s → Contains new s
      here s (inl it) =
          let P : ℕ × ℕ → Type 0 = λ (x : ℕ × ℕ). IsPartner a x.0 s in
          let at : IsPartner a p s = subst P (sym is) it in
          (two s).1 (inl ((one s).1 (inr (subst (λ (xs : List ℕ). Contains xs s) (sym same) ((are_first s).1 at)))))
      here s (inr it) =
          let P : ℕ × ℕ → Type 0 = λ (x : ℕ × ℕ). IsPartner a x.1 s in
          let at : IsPartner a n s = subst P (sym is) it in
          (two s).1 (inr (subst (λ (xs : List ℕ). Contains xs s) (sym same') ((are_second s).1 at)))

module _ (a : Automaton) (room : Room) (i : ℕ) (touched : List ℕ) (all : length room.pairs ≤ i) (are : AreTouched a room i touched) where
  pub touched_found : (s : ℕ) → IsTouched a (Holds room) s → Contains touched s
  touched_found s it = go (polarity_at a s) it.1
    where
      go : (p : Polarity) → ReachesBy a (Holds room) p s it.0 → Contains touched s
      go Positive reach =
          let k : ℕ = reach.1.0 in
          let low : k < length room.pairs = reach.1.1 in
          let pair = get_or_default room.pairs k (0, 0) (it.0, reach.0) low ∙ reach.1.2 in
          are.all k (omega arith) s (inr (subst (λ (x : ℕ × ℕ). IsPartner a x.1 s) (sym pair) (inl reach.2)))
      go Negative reach =
          let k : ℕ = reach.2.0 in
          let low : k < length room.pairs = reach.2.1 in
          let pair = get_or_default room.pairs k (0, 0) (reach.0, it.0) low ∙ reach.2.2 in
          are.all k (omega arith) s (inl (subst (λ (x : ℕ × ℕ). IsPartner a x.0 s) (sym pair) (inr reach.1)))

-- what a state has in the solved automaton
module _ (a : Automaton) (R : ℕ → ℕ → Type 0) (states : (p n : ℕ) → R p n → IsState a Positive p × IsState a Negative n) (s : ℕ) (low : s < length a.states) (p : Polarity) (is : p ≡ polarity_at a s) (members : List ℕ) (are : AreMembers a R s members) (items : List ℕ) (same : items ≡ members) (head : Head) (parts : IsSameParts (parts_of head) (combined p (map (λ j. parts_of (head_at a j)) items))) (labels : HasRisingLabels head.fields) where
  change_state : IsSolvedState a R s (record { polarity = polarity_at a s; head = head })
  change_state = record {
    polarity = refl;
    members = members;
    are = are;
    parts = subst (λ q. IsSameParts (parts_of head) (combined q (map (λ j. parts_of (head_at a j)) members))) is (subst (λ (xs : List ℕ). IsSameParts (parts_of head) (combined p (map (λ j. parts_of (head_at a j)) xs))) same parts);
    labels = labels;
  }

  pub change_negative : p ≡ Negative → (ends : List ℕ) → ((q : ℕ) → Contains ends q ↔ IsTarget a items q) → (c : Change) → c ≡ record { state = record { 0 = s }; head = head; ends = ends } → IsChange a R c
  change_negative e ends target c c_is =
      let negative : polarity_at a s ≡ Negative = sym is ∙ e in
      let T : ℕ → List ℕ → Type 0 = λ q xs. IsTarget a xs q in
      subst (IsChange a R) (sym c_is) (record {
        low = low;
        state = change_state;
        sound = λ q it. target-flow a R states s negative members are q (subst (T q) same ((target q).0 it));
        complete = λ q it. (target q).1 (subst (T q) (sym same) (flow-target a R states s negative members are q (inr it)));
      })

  pub change_positive : IsClosed a → p ≡ Positive → (ends : List ℕ) → ends ≡ [] → (c : Change) → c ≡ record { state = record { 0 = s }; head = head; ends = ends } → IsChange a R c
  change_positive closed e ends none c c_is =
      subst (IsChange a R) (sym c_is) (record {
        low = low;
        state = change_state;
        sound = λ q it. no_element q (subst (λ (xs : List ℕ). Contains xs q) none it);
        complete = λ q it.
            let negative : polarity_at a s ≡ Negative = (closed.negative (flow s it.0) it.2).polarity in
            let positive : polarity_at a s ≡ Positive = sym is ∙ e in
            absurd (cc);
      })

-- changes fit
flow_states : (a : Automaton) (R : ℕ → ℕ → Type 0) → IsClosed a → (n q : ℕ) → IsSolvedFlow a R n q → IsState a Negative n × IsState a Positive q
flow_states a R closed n q (inl it) = (closed.negative (flow n q) it, closed.positive (flow n q) it)
flow_states a R closed n q (inr it) = (closed.negative (flow n it.0) it.2, closed.positive (flow it.1 q) it.4)

some_element : (xs : List ℕ) → xs ≢ [] → (x : ℕ) × Contains xs x
some_element [] apart = absurd (apart refl)
some_element (x ∷ xs) apart = (x, Contains-here x xs)

pub fitting-change : (a : Automaton) (R : ℕ → ℕ → Type 0) → IsClosed a → (c : Change) → IsChange a R c → IsFitting a c
fitting-change a R closed c it = record {
  low = it.low;
  negative = λ some. let one = some_element c.ends some in (flow_states a R closed c.state.0 one.0 (it.sound one.0 one.1)).0;
  positive = All-contained (IsState a Positive) c.ends (λ q there. (flow_states a R closed c.state.0 q (it.sound q there)).1);
}

pub fitting-later : (old new : Automaton) → length new.states ≡ length old.states → ((s : ℕ) → polarity_at new s ≡ polarity_at old s) → (c : Change) → IsFitting old c → IsFitting new c
fitting-later old new size polarity c it = record {
  low = let low : c.state.0 < length old.states = it.low in omega arith;
  negative = λ some. state Negative c.state.0 (it.negative some);
  positive = All-contained (IsState new Positive) c.ends (λ q there. state Positive q (All-contains (IsState old Positive) c.ends q it.positive there));
}
  where
    state : (p : Polarity) (s : ℕ) → IsState old p s → IsState new p s
    state p s is = let low : s < length old.states = is.in_range in record { in_range = omega arith; polarity = polarity s ∙ is.polarity }

-- one change: the head, and then the edges
module _ (c : Change) (old mid : Automaton) (size : length mid.states ≡ length old.states) (polarity : (s : ℕ) → polarity_at mid s ≡ polarity_at old s) (head : head_at mid c.state.0 ≡ c.head) (others : (s : ℕ) → s ≢ c.state.0 → state_at mid s ≡ state_at old s) (flows : mid.flows ≡ old.flows) where
  to_old : (n q : ℕ) → HasFlow mid n q → HasFlow old n q
  to_old n q it = subst (λ (fs : List Flow). Contains fs (flow n q)) flows it

  of_old : (n q : ℕ) → HasFlow old n q → HasFlow mid n q
  of_old n q it = subst (λ (fs : List Flow). Contains fs (flow n q)) (sym flows) it

  pub makes-head : c.ends ≡ [] → Makes c old mid
  makes-head none = record {
    size = size;
    polarity = polarity;
    head = head;
    others = others;
    flows = λ n q. (
      λ it. inl (to_old n q it),
      λ it. elim it [ inl there ↦ of_old n q there | inr new ↦ no_element q (subst (λ (xs : List ℕ). Contains xs q) none new.1) ],
    );
  }

  pub makes-flows : (new : Automaton) (ends : List ℕ) → ends ≡ c.ends → AddsFlows mid new (λ m q. (m ≡ c.state.0) × Contains ends q) → Makes c old new
  makes-flows new ends same it = record {
    size = ap length it.states ∙ size;
    polarity = λ s. at (λ (x : State). x.polarity) s ∙ polarity s;
    head = at (λ (x : State). x.head) c.state.0 ∙ head;
    others = λ s apart. at (λ (x : State). x) s ∙ others s apart;
    flows = λ n q. (
      λ there. elim (it.sound n q there) [ inl before ↦ inl (to_old n q before) | inr new ↦ inr (new.0, subst (λ (xs : List ℕ). Contains xs q) same new.1) ],
      λ both. elim both [ inl before ↦ it.kept n q (of_old n q before) | inr new ↦ it.complete n q (new.0, subst (λ (xs : List ℕ). Contains xs q) (sym same) new.1) ],
    );
  }
    where
      at : {X : Type 0} (f : State → X) (s : ℕ) → f (state_at new s) ≡ f (state_at mid s)
      at f s = ap (λ (states : List State). f (state_at (record { states = states; flows = [] }) s)) it.states

-- changes one after another
pub made-none : (a : Automaton) (changes : List Change) → AreMade a (take 0 changes) a
made-none a changes = record {
  size = refl;
  polarity = λ s. refl;
  states = λ s. inl (λ c it. no_element c it, refl);
  kept = λ n q it. it;
  sound = λ n q it. inl it;
  complete = λ c it. no_element c it;
}

module _ (old mid new : Automaton) (changes : List Change) (i : ℕ) (d : Change) (low : i < length changes) (so_far : AreMade old (take i changes) mid) (makes : Makes (get_or changes i d) mid new) where
  c : Change
  c = get_or changes i d

  states_made : (s : ℕ) → (s ≡ c.state.0) ⊎ (s ≢ c.state.0) → IsMadeAt old (take i changes) mid s → IsMadeAt old (take (i + 1) changes) new s
  unfolding c
  states_made s (inl same) before = inr (c, taken-last changes i d low, sym same, ap (head_at new) same ∙ makes.head)
  states_made s (inr apart) (inl as_it_was) = inl (
    λ e it is. elim (taken-cases changes i d low e it) [
      | inl earlier ↦ as_it_was.0 e earlier is
      | inr last ↦ apart (sym (ap (λ (x : Change). x.state.0) (sym last) ∙ is))
    ],
    makes.others s apart ∙ as_it_was.1,
  )
  states_made s (inr apart) (inr made) = inr (made.0, taken-before changes i d low made.0 made.1, made.2, ap (λ (x : State). x.head) (makes.others s apart) ∙ made.3)

  pub made-more : AreMade old (take (i + 1) changes) new
  unfolding c
  made-more = record {
    size = makes.size ∙ so_far.size;
    polarity = λ s. makes.polarity s ∙ so_far.polarity s;
    states = λ s. states_made s (cases_eq s c.state.0) (so_far.states s);
    kept = λ n q it. (makes.flows n q).1 (inl (so_far.kept n q it));
    sound = λ n q it. elim ((makes.flows n q).0 it) [
      | inl before ↦ elim (so_far.sound n q before) [
        | inl there ↦ inl there
        | inr one ↦ inr (one.0, taken-before changes i d low one.0 one.1, one.2, one.3)
      ]
      | inr here ↦ inr (c, taken-last changes i d low, sym here.0, here.1)
    ];
    complete = λ e it q there. elim (taken-cases changes i d low e it) [
      | inl earlier ↦ (makes.flows e.state.0 q).1 (inl (so_far.complete e earlier q there))
      | inr last ↦ (makes.flows e.state.0 q).1 (inr (ap (λ (x : Change). x.state.0) last, subst (λ (x : Change). Contains x.ends q) last there))
    ];
  }

pub made-all : (old new : Automaton) (changes : List Change) (i : ℕ) → length changes ≤ i → AreMade old (take i changes) new → AreMade old changes new
made-all old new changes i all it = subst (λ (cs : List Change). AreMade old cs new) (take-all changes i all) it

-- one head combined is itself
or_false : (b : Bool) → b || false ≡ b
or_false true = refl
or_false false = refl

one_function : (f : Option Arms) → combined_functions f None ≡ f
one_function None = refl
one_function (Some arms) = refl

one_record : (p : Polarity) (f : Option (List ℕ → Option (List ℕ))) → combined_records p f None ≡ f
one_record p None = refl
one_record p (Some fields) = refl

combined-one : (p : Polarity) (h : Parts) → combined p (h ∷ []) ≡ h
combined-one p h = λ i. record { boolean = or_false h.boolean i; integer = or_false h.integer i; function = one_function h.function i; fields = one_record p h.fields i }

-- all changes solve the automaton
module _ (a : Automaton) (closed : IsClosed a) (R : ℕ → ℕ → Type 0) (states : (p n : ℕ) → R p n → IsState a Positive p × IsState a Negative n) (changes : List Change) (are : AreChanges a R changes) (all : (s : ℕ) → IsTouched a R s → HasChangeOf changes s) (new : Automaton) (made : AreMade a changes new) where
  unchanged : (s : ℕ) → ((c : Change) → Contains changes c → c.state.0 ≢ s) → IsSolvedState a R s (state_at a s)
  unchanged s none = record {
    polarity = refl;
    members = s ∷ [];
    are = record {
      self = Contains-here s [];
      reached = λ j it. inl (only s j it);
      reaching = λ j reach. let it : HasChangeOf changes s = all s (j, reach) in absurd (none it.0 it.1 it.2);
    };
    parts = subst (IsSameParts (parts_of (head_at a s))) (sym (combined-one (polarity_at a s) (parts_of (head_at a s)))) (same_parts-self (parts_of (head_at a s)));
    labels = closed.labels s;
  }

  each : (s : ℕ) → IsSolvedState a R s (state_at new s)
  each s = elim (made.states s) [
    | inl as_it_was ↦ subst (IsSolvedState a R s) (sym as_it_was.1) (unchanged s as_it_was.0)
    | inr one ↦
        let c : Change = one.0 in
        let P : ℕ → Type 0 = λ s. IsSolvedState a R s (record { polarity = polarity_at a s; head = c.head }) in
        let same : state_at new s ≡ record { polarity = polarity_at a s; head = c.head } = λ i. record { polarity = made.polarity s i; head = one.3 i } in
        subst (IsSolvedState a R s) (sym same) (subst P one.2 (are c one.1).state)
  ]

  pub made-solved : IsSolved a R new
  made-solved = record {
    same_length = made.size;
    polarity = λ s. (each s).polarity;
    flows = λ n q it. elim (made.sound n q it) [
      | inl old ↦ inl old
      | inr one ↦ subst (λ m. IsSolvedFlow a R m q) one.2 ((are one.0 one.1).sound q one.3)
    ];
    old_flows = λ n q it. made.kept n q it;
    new_flows = λ n q it.
        let reach : ReachesBy a R Negative n it.1 = (it.0, it.2, it.3) in
        let negative : polarity_at a n ≡ Negative = (closed.negative (flow n it.0) it.2).polarity in
        let found : HasChangeOf changes n = all n (it.1, subst (λ p. ReachesBy a R p n it.1) (sym negative) reach) in
        subst (λ m. HasFlow new m q) found.2 (made.complete found.0 found.1 q ((are found.0 found.1).complete q (subst (λ m. IsNewFlow a R m q) (sym found.2) it)));
    members = λ s. (each s).members;
    self = λ s. (each s).are.self;
    reached = λ s. (each s).are.reached;
    reaching = λ s. (each s).are.reaching;
    heads = λ s. (each s).parts;
  }

  pub made-closed : IsClosed new
  made-closed = closed_solved a R closed states new made-solved (λ s. (each s).labels)

-- the numbers that are added are these
pub grow-then : (mid new numbers : List ℕ) (Are : ℕ → Type 0) → ((j : ℕ) → Contains new j ↔ Contains mid j ⊎ Contains numbers j) → ((j : ℕ) → Contains numbers j ↔ Are j) → (j : ℕ) → Contains new j ↔ Contains mid j ⊎ Are j
grow-then mid new numbers Are it are j = (
  λ there. elim ((it j).0 there) [ inl before ↦ inl before | inr more ↦ inr ((are j).0 more) ],
  λ both. (it j).1 (elim both [ inl before ↦ inl before | inr more ↦ inr ((are j).1 more) ]),
)

-- the same in other words
pub grow-as : (old new : List ℕ) (First Second : ℕ → Type 0) → ((j : ℕ) → Contains new j ↔ Contains old j ⊎ First j) → ((j : ℕ) → First j ↔ Second j) → (j : ℕ) → Contains new j ↔ Contains old j ⊎ Second j
grow-as old new First Second it same j = (
  λ there. elim ((it j).0 there) [ inl before ↦ inl before | inr more ↦ inr ((same j).0 more) ],
  λ both. (it j).1 (elim both [ inl before ↦ inl before | inr more ↦ inr ((same j).1 more) ]),
)

pub members-grown : (a : Automaton) (R : ℕ → ℕ → Type 0) (s : ℕ) (one new : List ℕ) → one ≡ s ∷ []
    → ((j : ℕ) → Contains new j ↔ Contains one j ⊎ ReachesBy a R (polarity_at a s) s j) → AreMembers a R s new
members-grown a R s one new is it = record {
  self = (it s).1 (inl (subst (λ (xs : List ℕ). Contains xs s) (sym is) (Contains-here s [])));
  reached = λ j there. elim ((it j).0 there) [
    | inl before ↦ inl (only s j (subst (λ (xs : List ℕ). Contains xs j) is before))
    | inr reach ↦ inr reach
  ];
  reaching = λ j reach. (it j).1 (inr reach);
}

-- lists of the same members
pub members-same : (a : Automaton) (R : ℕ → ℕ → Type 0) (s : ℕ) (old new : List ℕ) → ((j : ℕ) → Contains new j ↔ Contains old j) → AreMembers a R s old → AreMembers a R s new
members-same a R s old new same are = record {
  self = (same s).1 are.self;
  reached = λ j there. are.reached j ((same j).0 there);
  reaching = λ j reach. (same j).1 (are.reaching j reach);
}

-- numbers behind others
pub extended : (old new numbers : List ℕ) → new ≡ old ++ numbers → (j : ℕ) → Contains new j ↔ Contains old j ⊎ Contains numbers j
extended old new numbers is j = (
  λ it. Contains-append_cases old numbers j (subst (λ (xs : List ℕ). Contains xs j) is it),
  λ both. subst (λ (xs : List ℕ). Contains xs j) (sym is) (elim both [
    | inl before ↦ Contains-append_left old numbers j before
    | inr there ↦ Contains-append_right old numbers j there
  ]),
)

-- a list of what is gone over
pub listed_more : (keys rest later : List ℕ) (list longer : List ℕ) (s : ℕ) → keys ≡ list ++ rest → rest ≡ s ∷ later → longer ≡ list ++ s ∷ [] → keys ≡ longer ++ later
listed_more keys rest later list longer s is next more =
    is ∙ (ap (λ xs. list ++ xs) next ∙ (sym (append_assoc list (s ∷ []) later) ∙ ap (λ xs. xs ++ later) (sym more)))

pub listed_all : (keys rest list : List ℕ) → keys ≡ list ++ rest → rest ≡ [] → list ≡ keys
listed_all keys rest list is none = sym (is ∙ (ap (λ xs. list ++ xs) none ∙ append-nil list))

-- the ends of edges
pub ends-partners : (a : Automaton) → IsClosed a → (m : ℕ) → polarity_at a m ≡ Negative → (partners items : List ℕ) → ((j : ℕ) → Contains partners j ↔ IsPartner a m j) → items ≡ partners → (j : ℕ) → Contains items j ↔ HasFlow a m j
ends-partners a closed m negative partners items are same j = (
  λ it. partner_of_negative a closed m j negative ((are j).0 (subst (λ (xs : List ℕ). Contains xs j) same it)),
  λ edge. subst (λ (xs : List ℕ). Contains xs j) (sym same) ((are j).1 (inl edge)),
)

pub ends-all : (a : Automaton) (members ends : List ℕ) → ((j : ℕ) → Contains ends j ↔ Contains [] j ⊎ ByOne members (HasFlow a) j) → (q : ℕ) → Contains ends q ↔ IsTarget a members q
ends-all a members ends it q = (
  λ there. elim ((it q).0 there) [ inl none ↦ no_element q none | inr by ↦ by ],
  λ target. (it q).1 (inr target),
)

pub in_polarity : (a : Automaton) (p : Polarity) (s : ℕ) → p ≡ polarity_at a s → (members items : List ℕ) → items ≡ members → All (IsState a (polarity_at a s)) members → All (IsState a p) items
in_polarity a p s is members items same all =
    subst (λ (xs : List ℕ). All (IsState a p) xs) (sym same) (subst (λ q. All (IsState a q) members) (sym is) all)

-- a list of changes
pub changes-none : (a : Automaton) (R : ℕ → ℕ → Type 0) (changes : List Change) → changes ≡ [] → AreChanges a R changes
changes-none a R changes empty c it = no_element c (subst (λ (cs : List Change). Contains cs c) empty it)

pub changes-more : (a : Automaton) (R : ℕ → ℕ → Type 0) (old new : List Change) (d : Change) → new ≡ old ++ d ∷ [] → AreChanges a R old → IsChange a R d → AreChanges a R new
changes-more a R old new d is so_far one c it =
    elim (Contains-append_cases old (d ∷ []) c (subst (λ (cs : List Change). Contains cs c) is it)) [
      | inl before ↦ so_far c before
      | inr last ↦ elim (Contains-cases d [] c last) [
        | inl same ↦ subst (IsChange a R) same one
        | inr none ↦ no_element c none
      ]
    ]

-- the states that are left to be gone over, where the others have their changes
pub record AreLeft (touched left : List ℕ) (changes : List Change) : Type 0 where
  pub among : (s : ℕ) → Contains left s → Contains touched s
  pub others : (s : ℕ) → Contains touched s → Contains left s ⊎ HasChangeOf changes s

pub left-all : (touched left : List ℕ) (changes : List Change) → left ≡ touched → AreLeft touched left changes
left-all touched left changes same = record {
  among = λ s it. subst (λ (xs : List ℕ). Contains xs s) same it;
  others = λ s it. inl (subst (λ (xs : List ℕ). Contains xs s) (sym same) it);
}

pub left-next : (touched left rest : List ℕ) (changes : List Change) (s : ℕ) → left ≡ s ∷ rest → AreLeft touched left changes → Contains touched s
left-next touched left rest changes s is so_far = so_far.among s (subst (λ (xs : List ℕ). Contains xs s) (sym is) (Contains-here s rest))

pub left-less : (touched left rest : List ℕ) (s : ℕ) → left ≡ s ∷ rest → (old new : List Change) (d : Change) → new ≡ old ++ d ∷ [] → AreLeft touched left old → d.state.0 ≡ s → AreLeft touched rest new
left-less touched left rest s is old new d grown so_far state = record {
  among = λ r it. so_far.among r (subst (λ (xs : List ℕ). Contains xs r) (sym is) (Contains-later s rest r it));
  others = λ r it. elim (so_far.others r it) [
    | inl there ↦ elim (Contains-cases s rest r (subst (λ (xs : List ℕ). Contains xs r) is there)) [
      | inl same ↦ inr (d, subst (λ (cs : List Change). Contains cs d) (sym grown) (Contains-append_right old (d ∷ []) d (Contains-here d [])), state ∙ same)
      | inr later ↦ inl later
    ]
    | inr found ↦ inr (found.0, subst (λ (cs : List Change). Contains cs found.0) (sym grown) (Contains-append_left old (d ∷ []) found.0 found.1), found.2)
  ];
}

pub left-none : (touched left : List ℕ) (changes : List Change) → left ≡ [] → AreLeft touched left changes → (s : ℕ) → Contains touched s → HasChangeOf changes s
left-none touched left changes none so_far s it = elim (so_far.others s it) [
  | inl there ↦ no_element s (subst (λ (xs : List ℕ). Contains xs s) none there)
  | inr found ↦ found
]

-- a number more in an ordered set
pub inserted : (old new : BTreeSet ℕ) (x : ℕ) → Updates nat_cmp old new x true → (j : ℕ) → Contains new.keys j ↔ (j ≡ x) ⊎ Contains old.keys j
inserted old new x updates j = (
  λ there. to (is_eq (nat_cmp x j)) refl (sym (updates.0 j) ∙ (holds new).1 there),
  λ both. (holds new).0 (updates.0 j ∙ from (is_eq (nat_cmp x j)) refl both),
)
  where
    holds : (set : BTreeSet ℕ) → (contains nat_cmp set j ≡ true) ↔ Contains set.keys j
    holds set = btree_set_contains_iff nat_cmp_total exact_unsigned set j

    to : (b : Bool) → is_eq (nat_cmp x j) ≡ b → cond b true (contains nat_cmp old j) ≡ true → (j ≡ x) ⊎ Contains old.keys j
    to true e h = inl (search arith)
    to false e h = inr ((holds old).0 h)

    from : (b : Bool) → is_eq (nat_cmp x j) ≡ b → (j ≡ x) ⊎ Contains old.keys j → cond b true (contains nat_cmp old j) ≡ true
    from true e both = refl
    from false e (inl same) = search arith
    from false e (inr before) = (holds old).1 before

-- what a state has, whatever its polarity
pub change_any : (a : Automaton) (R : ℕ → ℕ → Type 0) → IsClosed a → ((p n : ℕ) → R p n → IsState a Positive p × IsState a Negative n) → (s : ℕ) → s < length a.states → (p : Polarity) → p ≡ polarity_at a s → (members : List ℕ) → AreMembers a R s members → (items : List ℕ) → items ≡ members → (others : List ℕ) → others ≡ members → (head : Head)
    → IsSameParts (parts_of head) (combined p (map (λ j. parts_of (head_at a j)) items)) → HasRisingLabels head.fields → (ends : List ℕ) → (p ≡ Positive → ends ≡ []) → (p ≡ Negative → (q : ℕ) → Contains ends q ↔ IsTarget a others q)
    → IsChange a R (record { state = record { 0 = s }; head = head; ends = ends })
change_any a R closed states s low Positive is members are items same others same' head parts labels ends none target =
    change_positive a R states s low Positive is members are items same head parts labels closed refl ends (none refl) _ refl
change_any a R closed states s low Negative is members are items same others same' head parts labels ends none target =
    change_negative a R states s low Negative is members are items same head parts labels refl ends
    (λ q. subst (λ (xs : List ℕ). Contains ends q ↔ IsTarget a xs q) (same' ∙ sym same) (target refl q)) _ refl
