-- What follows by the heads of two states, as the code finds it.
use Rattle.std.proofs.Common.{◌≡◌, ◌⊎◌, inl, inr, ℕ, List, refl, sym, subst, Contains, Some}
use Rattle.std.specs.Prelude.{Option}
use Rattle.mls_automaton.specs.declared.automaton.Arms.{Arms}
use Rattle.mls_automaton.specs.declared.automaton.FieldSet.{FieldSet}
use Rattle.mls_automaton.specs.Heads.{set_at}
use Rattle.mls_solver.specs.declared.goal.Goal.{Goal}
use Rattle.mls_solver.specs.Relations.{IsGoal}
use Rattle.mls_solver.specs.steps.Growth.{BySome}
use Rattle.mls_solver.specs.steps.Consequences.{ByFunctions, ByField, ByRecords}

-- functions
module _ (o o' : Option Arms) (arms others : Arms) (e : o ≡ Some arms) (e' : o' ≡ Some others) where
  pub by_domain : (xs ys : List ℕ) → xs ≡ others.domain → ys ≡ arms.domain → (p n : ℕ) → Contains xs p → Contains ys n → ByFunctions o o' p n
  by_domain xs ys is is' p n left right =
      subst (λ r. ByFunctions r o' p n) (sym e)
      (subst (λ r. ByFunctions (Some arms) r p n) (sym e')
      (inl (subst (λ zs. Contains zs p) is left, subst (λ zs. Contains zs n) is' right)))

  pub by_codomain : (xs ys : List ℕ) → xs ≡ arms.codomain → ys ≡ others.codomain → (p n : ℕ) → Contains xs p → Contains ys n → ByFunctions o o' p n
  by_codomain xs ys is is' p n left right =
      subst (λ r. ByFunctions r o' p n) (sym e)
      (subst (λ r. ByFunctions (Some arms) r p n) (sym e')
      (inr (subst (λ zs. Contains zs p) is left, subst (λ zs. Contains zs n) is' right)))

  pub by_functions-cases : (a b c d : List ℕ) → a ≡ others.domain → b ≡ arms.domain → c ≡ arms.codomain → d ≡ others.codomain → (p n : ℕ) → ByFunctions o o' p n → (Contains a p × Contains b n) ⊎ (Contains c p × Contains d n)
  by_functions-cases a b c d is_a is_b is_c is_d p n it =
      go (subst (λ r. ByFunctions (Some arms) r p n) e' (subst (λ r. ByFunctions r o' p n) e it))
    where
      go : ByFunctions (Some arms) (Some others) p n → (Contains a p × Contains b n) ⊎ (Contains c p × Contains d n)
      go (inl both) = inl (subst (λ zs. Contains zs p) (sym is_a) both.0, subst (λ zs. Contains zs n) (sym is_b) both.1)
      go (inr both) = inr (subst (λ zs. Contains zs p) (sym is_c) both.0, subst (λ zs. Contains zs n) (sym is_d) both.1)

-- records
module _ (o o' : Option (List FieldSet)) (fields others slice : List FieldSet) (e : o ≡ Some fields) (e' : o' ≡ Some others) (is : slice ≡ others) where
  pub by_records-to : (p n : ℕ) → BySome slice (ByField fields) p n → ByRecords o o' p n
  by_records-to p n it =
      subst (λ r. ByRecords r o' p n) (sym e)
      (subst (λ r. ByRecords (Some fields) r p n) (sym e')
      (it.0, subst (λ xs. Contains xs it.0) is it.1, it.2))

  pub by_records-from : (p n : ℕ) → ByRecords o o' p n → BySome slice (ByField fields) p n
  by_records-from p n it =
      let found : ByRecords (Some fields) (Some others) p n = subst (λ r. ByRecords (Some fields) r p n) e' (subst (λ r. ByRecords r o' p n) e it) in
      (found.0, subst (λ xs. Contains xs found.0) (sym is) found.1, found.2)

-- one field
module _ (fields : List FieldSet) (other : FieldSet) (set : List ℕ) (at : Some set ≡ set_at fields other.label) (xs ys : List ℕ) (is : xs ≡ set) (is' : ys ≡ other.set) where
  pub by_field-to : (p n : ℕ) → Contains xs p → Contains ys n → ByField fields other p n
  by_field-to p n left right = (set, sym at, subst (λ zs. Contains zs p) is left, subst (λ zs. Contains zs n) is' right)

  pub by_field-from : (p n : ℕ) → ByField fields other p n → Contains xs p × Contains ys n
  by_field-from p n it =
      let found : set_at fields other.label ≡ Some it.0 = it.1 in
      let same_set : it.0 ≡ set = cc in (
        subst (λ zs. Contains zs p) (sym is) (subst (λ zs. Contains zs p) same_set it.2),
        subst (λ zs. Contains zs n) (sym is') it.3,
      )

-- goals
abbrev pub ByGoal : Goal → ℕ → ℕ → Type 0
ByGoal g p n = (p ≡ g.positive.0) × (n ≡ g.negative.0)

pub by_goals-to : (goals : List Goal) (p n : ℕ) → BySome goals ByGoal p n → IsGoal goals p n
by_goals-to goals p n it =
    let here : Goal = record { positive = record { 0 = p }; negative = record { 0 = n } } in
    let same_goal : here ≡ it.0 =
    λ i. record { positive = record { 0 = it.2.0 i }; negative = record { 0 = it.2.1 i } } in
    subst (Contains goals) (sym same_goal) it.1

pub by_goals-from : (goals : List Goal) (p n : ℕ) → IsGoal goals p n → BySome goals ByGoal p n
by_goals-from goals p n it = (record { positive = record { 0 = p }; negative = record { 0 = n } }, it, (refl, refl))
