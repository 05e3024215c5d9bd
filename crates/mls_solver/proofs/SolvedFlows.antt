-- The edges of the solved automaton from one state, by the states that are marked.
use Rattle.std.proofs.Common.{◌≡◌, inl, inr, ℕ, ◌<◌, List, [], sym, subst, arith, length, Contains}
use Rattle.std.specs.Prelude.{Result, Ok, Err, OnOk}
use Rattle.std.specs.List.Sorted.{IsPermutation}
use Rattle.std.proofs.lemmas.List.Sorted.{Contains-permutation, IsPermutation-sym}
use Rattle.mls_automaton.specs.declared.automaton.Polarity.TheVariants.{Positive, Negative}
use Rattle.mls_automaton.specs.Automata.{Automaton, IsState, flow, polarity_at}
use Rattle.mls_automaton.specs.Models.{IsClosed}
use Rattle.mls_solver.specs.steps.Numbers.{Numbers, Inserts}
use Rattle.mls_solver.specs.steps.Solving.{AddsFlows, AreMembers, IsSolvedFlow, IsTarget}
use Rattle.mls_solver.proofs.Members.{target-flow, flow-target}
use Rattle.mls_solver.proofs.AddedFlows.{FromBelow, flows-same}

module _ (a : Automaton) (members : List ℕ) (old new : Numbers) (empty : old.members ≡ []) (it : Inserts old new (IsTarget a members)) where
  pub targets_marked : (q : ℕ) → Contains new.members q → IsTarget a members q
  targets_marked q there =
      elim (it.sound q there) [
        | inl before ↦
            let there : Contains [] q = subst (λ (xs : List ℕ). Contains xs q) empty before in
            let low : there.0 < 0 = there.1 in
            absurd (omega arith)
        | inr target ↦ target
      ]

  pub marked_targets : (q : ℕ) → IsTarget a members q → Contains new.members q
  marked_targets q target = it.complete q target

module _ (a : Automaton) (R : ℕ → ℕ → Type 0) (states : (p n : ℕ) → R p n → IsState a Positive p × IsState a Negative n) (n : ℕ) (negative : polarity_at a n ≡ Negative) (members : List ℕ) (are : AreMembers a R n members) (items : List ℕ) (same : items ≡ members) (cleared marks : Numbers) (empty : cleared.members ≡ []) (it : Inserts cleared marks (IsTarget a items)) (listed targets : List ℕ) (listed_is : listed ≡ marks.members) (sorted : IsPermutation listed targets) where
  of_target : (q : ℕ) → Contains targets q → Contains marks.members q
  of_target q it = subst (λ (xs : List ℕ). Contains xs q) listed_is (Contains-permutation targets listed q (IsPermutation-sym listed targets sorted) it)

  to_target : (q : ℕ) → Contains marks.members q → Contains targets q
  to_target q it = Contains-permutation listed targets q sorted (subst (λ (xs : List ℕ). Contains xs q) (sym listed_is) it)

  pub target_from : (q : ℕ) → Contains targets q → IsTarget a items q
  target_from q there = targets_marked a items cleared marks empty it q (of_target q there)

  to_flow : (q : ℕ) → Contains marks.members q → IsSolvedFlow a R n q
  to_flow q there = target-flow a R states n negative members are q (subst (λ (xs : List ℕ). IsTarget a xs q) same (targets_marked a items cleared marks empty it q there))

  of_flow : (q : ℕ) → IsSolvedFlow a R n q → Contains marks.members q
  of_flow q edge = marked_targets a items cleared marks empty it q (subst (λ (xs : List ℕ). IsTarget a xs q) (sym same) (flow-target a R states n negative members are q edge))

  pub flows_from : {X E : Type 0} (old new : Automaton) (result : Result X E) → OnOk result (AddsFlows old new (λ m q. (m ≡ n) × Contains targets q)) → OnOk result (AddsFlows old new (λ m q. (m ≡ n) × IsSolvedFlow a R n q))
  flows_from old new (Ok x) adds =
      flows-same old new (λ m q. (m ≡ n) × Contains targets q) (λ m q. (m ≡ n) × IsSolvedFlow a R n q) adds
      (λ m q more. (more.0, to_flow q (of_target q more.1)))
      (λ m q more. (more.0, to_target q (of_flow q more.1)))
  flows_from old new (Err e) adds = tt

-- they go from negative states
pub solved_flow-negative : (a : Automaton) → IsClosed a → (R : ℕ → ℕ → Type 0) (n q : ℕ) → IsSolvedFlow a R n q → IsState a Negative n
solved_flow-negative a closed R n q (inl it) = closed.negative (flow n q) it
solved_flow-negative a closed R n q (inr it) = closed.negative (flow n it.0) it.2

-- the edges from the states below one were added
pub record AreFlowsTo (a : Automaton) (R : ℕ → ℕ → Type 0) (old : Automaton) (n : ℕ) (new : Automaton) (marks : Numbers) : Type 0 where
  pub flows : AddsFlows old new (FromBelow n (IsSolvedFlow a R))
  pub limit : marks.limit ≡ length a.states
