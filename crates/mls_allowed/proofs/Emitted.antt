-- The list of pairs of a step holds what it asks for and follows from claims.
--     list_of         a list for wanted pairs has those of them that are shown
--     asked_root      a step asks for the pair of the two types
--     asked_binder    and for that of each binder
use Rattle.std.proofs.Common.{◌≡◌, ℕ, Bool, true, false, List, [], ◌∷◌, refl, sym, ap, ◌∙◌, subst, Option, Some, cond}
use Rattle.std.specs.Prelude.{Contains, slice_get}
use Rattle.std.specs.List.{flat_map}
use Rattle.std.specs.FinMap as env
use Rattle.std.specs.Ordering.{nat_cmp, eq_by_cmp}
use Rattle.mls_book.specs.declared.book.Node.{Node}
use Rattle.mls_automaton.proofs.Lists.{Contains-here, Contains-later, Contains-flat_map}
use Rattle.mls_deriv.specs.declared.derivation.BinderNode.{BinderNode}
use Rattle.mls_deriv.specs.declared.derivation.Mode.{Mode}
use Rattle.mls_deriv.specs.declared.derivation.Mode.TheVariants.{Lr, Rl}
use Rattle.mls_deriv.specs.declared.derivation.StepLine.{StepLine}
use Rattle.mls_deriv.specs.declared.derivation.StepRule.{StepRule}
use Rattle.mls_deriv.specs.declared.derivation.StepRule.TheVariants as rule
use Rattle.mls_deriv.specs.declared.claim.Put.{Put}
use Rattle.mls_deriv.specs.declared.claim.Pair.{Pair}
use Rattle.mls_deriv.specs.Steps.{env_of}
use Rattle.mls_pairs.specs.PairLists.{pair_of, IsPairList}
use Rattle.mls_layout.specs.Shown.{IsShown, AreShown}
use Rattle.mls_layout.specs.Emitted.{pair_with, binder_pair, asked_pairs, asked_after, asked_by, asked_at, IsListOf}
use Rattle.mls_pairs.proofs.Refuted.{list_has}
use Rattle.mls_lines.proofs.Scopes.{looked, got, same_key}
use Rattle.mls_allowed.proofs.Shown.{shown_justified}

pub list_of : (book : List Node) (puts : List Put) (base claims : Mode → ℕ → ℕ → Type 0) → AreShown book puts base claims
    → (wanted pairs : List Pair) → IsPairList book puts wanted pairs → IsListOf book puts base claims wanted pairs
list_of book puts base claims shown wanted pairs list = record {
  justified = list.justified;
  holds =
      λ mode i j there it.
      list_has book puts wanted pairs list (IsShown book puts base claims true) (shown_justified book puts base claims shown) mode i j there it;
}

-- the entry of a binder
entry_of : (d : List BinderNode) (x n : ℕ) → looked d x ≡ Some n → (e : BinderNode) × Contains d e × (e.binder ≡ x) × (e.node.0 ≡ n)
entry_of [] x n found = absurd (cc)
entry_of (e ∷ d) x n found = by_test (eq_by_cmp nat_cmp x e.binder) refl found (entry_of d x n)
  where
    by_test : (t : Bool) → eq_by_cmp nat_cmp x e.binder ≡ t → cond t (Some e.node.0) (looked d x) ≡ Some n
        → (looked d x ≡ Some n → (f : BinderNode) × Contains d f × (f.binder ≡ x) × (f.node.0 ≡ n))
        → (f : BinderNode) × Contains (e ∷ d) f × (f.binder ≡ x) × (f.node.0 ≡ n)
    by_test true is found later = (e, Contains-here e d, sym (same_key x e.binder is), (let same : e.node.0 ≡ n = cc in same))
    by_test false is found later = let it = later found in (it.0, Contains-later e d it.0 it.1, it.2, it.3)

binder_there : (d later : List BinderNode) (x n m : ℕ) → env.get (env_of d) x ≡ Some n → env.get (env_of later) x ≡ Some m → Contains (flat_map (binder_pair later) d) (pair_of Rl m n)
binder_there d later x n m found at_x =
    let e = entry_of d x n (sym (got d x) ∙ found) in
    let same : binder_pair later e.0 ≡ pair_of Rl m n ∷ [] = (λ i. pair_with ((ap (env.get (env_of later)) e.2 ∙ at_x) i) (e.3 i)) in
    Contains-flat_map (binder_pair later) d e.0 (pair_of Rl m n) e.1
    (subst (λ (l : List Pair). Contains l (pair_of Rl m n)) (sym same) (Contains-here (pair_of Rl m n) []))

module _ (steps : List StepLine) (step earlier : StepLine) (number : ℕ) (is : step.rule ≡ rule.Sub number) (stands : slice_get steps number ≡ Some earlier) where
  asked : asked_at steps step ≡ asked_pairs earlier step
  asked = ap (λ (r : StepRule). asked_by r steps step) is ∙ ap (λ (o : Option StepLine). asked_after o step) stands

  pub asked_root : Contains (asked_at steps step) (pair_of Lr earlier.root.0 step.root.0)
  asked_root =
      subst (λ (l : List Pair). Contains l (pair_of Lr earlier.root.0 step.root.0)) (sym asked)
      (Contains-here (pair_of Lr earlier.root.0 step.root.0) (flat_map (binder_pair step.env) earlier.env))

  pub asked_binder : (x n m : ℕ) → env.get (env_of earlier.env) x ≡ Some n → env.get (env_of step.env) x ≡ Some m → Contains (asked_at steps step) (pair_of Rl m n)
  asked_binder x n m found at_x =
      subst (λ (l : List Pair). Contains l (pair_of Rl m n)) (sym asked)
      (Contains-later (pair_of Lr earlier.root.0 step.root.0) (flat_map (binder_pair step.env) earlier.env) (pair_of Rl m n)
      (binder_there earlier.env step.env x n m found at_x))
