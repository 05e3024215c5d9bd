-- A worked example: the state of an int is to be below a negative state that has an edge to a positive one. The solved
-- automaton gives that positive state the int.
use Rattle.std.proofs.Common.{◌≡◌, ◌⊎◌, inl, inr, ℕ, zero, suc, ◌<◌, true, false, List, [], ◌∷◌, map, refl, sym, ap, subst, arith, Contains, Some, None}
use Rattle.mls_automaton.specs.declared.automaton.Arms.{Arms}
use Rattle.mls_automaton.specs.declared.automaton.Polarity.TheVariants.{Positive, Negative}
use Rattle.mls_automaton.specs.declared.automaton.FieldSet.{FieldSet}
use Rattle.mls_automaton.specs.declared.automaton.Flow.{Flow}
use Rattle.mls_automaton.specs.declared.automaton.Head.{Head}
use Rattle.mls_automaton.specs.Automata.{Automaton, empty_head, polarity_at, head_at, flow, HasFlow}
use Rattle.mls_automaton.specs.Heads.{parts_of, combined, IsSameParts}
use Rattle.mls_automaton.proofs.Lists.{Contains-here, Contains-later, Contains-cases}
use Rattle.mls_solver.specs.declared.goal.ClashKind.{ClashKind}
use Rattle.mls_solver.specs.declared.goal.ClashKind.TheVariants.{Unlike, Lacks}
use Rattle.mls_automaton.specs.declared.automaton.HeadKind.{HeadKind}
use Rattle.mls_automaton.specs.declared.automaton.HeadKind.TheVariants as kind
use Rattle.mls_solver.specs.Relations.{IsRelated, goal, domain, codomain, field, along}
use Rattle.mls_automaton.specs.Automata.{has_kind}
use Rattle.mls_solver.specs.Clashes.{LacksField, HasNoClash, Clashes}
use Rattle.mls_solver.specs.Solved.{ReachesBy, IsSolved}

abbrev int_head : Head
int_head = record { boolean = false; integer = true; function = None; fields = None }

abbrev with_heads : Head → Automaton
with_heads h = record {
  states =
      record { polarity = Positive; head = int_head }
      ∷ record { polarity = Negative; head = empty_head }
      ∷ record { polarity = Positive; head = h }
      ∷ [];
  flows = flow 1 2 ∷ [];
}

abbrev a : Automaton
a = with_heads empty_head

abbrev solved : Automaton
solved = with_heads int_head

abbrev IsTheGoal : ℕ → ℕ → Type 0
IsTheGoal p n = (p ≡ 0) × (n ≡ 1)

no_function : (s : ℕ) (arms : Arms) → (head_at a s).function ≡ Some arms → ⊥
no_function zero arms e = cc
no_function (suc zero) arms e = cc
no_function (suc (suc zero)) arms e = cc
no_function (suc (suc (suc s))) arms e = cc

no_record : (s : ℕ) (fields : List FieldSet) → (head_at a s).fields ≡ Some fields → ⊥
no_record zero fields e = cc
no_record (suc zero) fields e = cc
no_record (suc (suc zero)) fields e = cc
no_record (suc (suc (suc s))) fields e = cc

the_flow : (h : Head) (n p : ℕ) → HasFlow (with_heads h) n p → (n ≡ 1) × (p ≡ 2)
the_flow h n p it =
    elim (Contains-cases (flow 1 2) [] (flow n p) it) [
      | inl same ↦ (sym (ap (λ (f : Flow). f.negative.0) same), sym (ap (λ (f : Flow). f.positive.0) same))
      | inr none ↦ let low : none.0 < 0 = none.1 in absurd (omega arith)
    ]

-- nothing follows from the goal
only_goal : (p n : ℕ) → IsRelated a IsTheGoal p n → IsTheGoal p n
only_goal p n (goal is) = is
only_goal q m (domain {p = p} {n = n} it left right) = absurd (no_function n left.0 left.1)
only_goal q m (codomain {p = p} {n = n} it left right) = absurd (no_function p left.0 left.1)
only_goal q m (field {p = p} {n = n} label it left right) = absurd (no_record p left.0 left.2)
only_goal p m (along {n = n} {q = q} it edge later) =
    let is : q ≡ 0 = (only_goal q m later).0 in
    let at : q ≡ 2 = (the_flow empty_head n q edge).1 in
    absurd (omega arith)

related : IsRelated a IsTheGoal 0 1
related = goal (refl, refl)

members : ℕ → List ℕ
members zero = 0 ∷ []
members (suc zero) = 1 ∷ []
members (suc (suc zero)) = 2 ∷ 0 ∷ []
members (suc (suc (suc s))) = suc (suc (suc s)) ∷ []

one_member : (x j : ℕ) → Contains (x ∷ []) j → j ≡ x
one_member x j it =
    elim (Contains-cases x [] j it) [
      | inl same ↦ sym same
      | inr none ↦ let low : none.0 < 0 = none.1 in absurd (omega arith)
    ]

pub worked_solved : IsSolved a (IsRelated a IsTheGoal) solved
unfolding members
worked_solved = record {
  same_length = refl;
  polarity = polarities;
  flows = λ n q it. inl it;
  old_flows = λ n q it. it;
  new_flows = λ n q it.
      let first : it.0 ≡ 0 = (only_goal it.0 it.1 it.3).0 in
      let second : it.0 ≡ 2 = (the_flow empty_head n it.0 it.2).1 in
      absurd (omega arith);
  members = members;
  self = self;
  reached = reached;
  reaching = reaching;
  heads = heads;
}
  where
    polarities : (s : ℕ) → polarity_at solved s ≡ polarity_at a s
    polarities zero = refl
    polarities (suc zero) = refl
    polarities (suc (suc zero)) = refl
    polarities (suc (suc (suc s))) = refl

    self : (s : ℕ) → Contains (members s) s
    self zero = Contains-here 0 []
    self (suc zero) = Contains-here 1 []
    self (suc (suc zero)) = Contains-here 2 (0 ∷ [])
    self (suc (suc (suc s))) = Contains-here (suc (suc (suc s))) []

    reached : (s j : ℕ) → Contains (members s) j → (j ≡ s) ⊎ ReachesBy a (IsRelated a IsTheGoal) (polarity_at a s) s j
    reached zero j it = inl (one_member 0 j it)
    reached (suc zero) j it = inl (one_member 1 j it)
    reached (suc (suc zero)) j it =
        elim (Contains-cases 2 (0 ∷ []) j it) [
          | inl same ↦ inl (sym same)
          | inr later ↦ inr (1, subst (λ i. IsRelated a IsTheGoal i 1) (sym (one_member 0 j later)) related, Contains-here (flow 1 2) [])
        ]
    reached (suc (suc (suc s))) j it = inl (one_member (suc (suc (suc s))) j it)

    no_flow_to : (s j : ℕ) → (s ≡ 2 → ⊥) → (n : ℕ) × IsRelated a IsTheGoal j n × HasFlow a n s → ⊥
    no_flow_to s j apart it = apart (the_flow empty_head it.0 s it.2).1

    reaching : (s j : ℕ) → ReachesBy a (IsRelated a IsTheGoal) (polarity_at a s) s j → Contains (members s) j
    reaching zero j it = absurd (no_flow_to 0 j (λ e. omega arith) it)
    reaching (suc zero) j it =
        let first : it.0 ≡ 2 = (the_flow empty_head 1 it.0 it.1).1 in
        let second : it.0 ≡ 0 = (only_goal it.0 j it.2).0 in
        absurd (omega arith)
    reaching (suc (suc zero)) j it =
        let is : j ≡ 0 = (only_goal j it.0 it.1).0 in
        subst (Contains (2 ∷ 0 ∷ [])) (sym is) (Contains-later 2 (0 ∷ []) 0 (Contains-here 0 []))
    reaching (suc (suc (suc s))) j it = absurd (no_flow_to (suc (suc (suc s))) j (λ e. omega arith) it)

    heads : (s : ℕ) → IsSameParts (parts_of (head_at solved s)) (combined (polarity_at a s) (map (λ j. parts_of (head_at a j)) (members s)))
    heads zero = record { boolean = refl; integer = refl; function = tt; fields = tt }
    heads (suc zero) = record { boolean = refl; integer = refl; function = tt; fields = tt }
    heads (suc (suc zero)) = record { boolean = refl; integer = refl; function = tt; fields = tt }
    heads (suc (suc (suc s))) = record { boolean = refl; integer = refl; function = tt; fields = tt }

-- no pair clashes
pub worked_free : HasNoClash a (IsRelated a IsTheGoal)
worked_free p n it clash clashes = go (only_goal p n it) clash clashes
  where
    go : IsTheGoal p n → (clash : ClashKind) → Clashes (head_at a p) (head_at a n) clash → ⊥
    go is (Unlike first second) clashes = nothing second (subst (λ j. has_kind second (head_at a j) ≡ true) is.1 clashes.1)
      where
        nothing : (k : HeadKind) → has_kind k (head_at a 1) ≡ true → ⊥
        nothing kind.Bool e = cc
        nothing kind.Int e = cc
        nothing kind.Function e = cc
        nothing kind.Rcd e = cc
    go is (Lacks i) clashes = no_lack (subst (λ j. LacksField (head_at a j).fields (head_at a n).fields i) is.0 clashes)
      where
        no_lack : LacksField (head_at a 0).fields (head_at a n).fields i → ⊥
        no_lack it = it
