-- Inference as a relation: what an expression gets by what its parts got.
use Rattle.std.specs.Prelude.{◌≡◌, ◌↔◌, ℕ, suc, ◌+◌, Bool, true, false, List, [], ◌∷◌, Some, slice_get}
use Rattle.std.specs.FinMap as finmap
use Rattle.mls_book.specs.Predicates.{Predicate, Implies, bool, int}
use Rattle.mls_book.specs.Schemes.{Scheme, IsScheme}
use Rattle.mls_term.specs.Terms.{TermTree, bound, inner, global, number, truth, fun, apply, make, project, choice}
use Rattle.mls_term.specs.Terms.{local, fix, before}
use Rattle.mls_term.specs.Derivations.{Known, with_let}
use Rattle.mls_term.specs.WellFormed.{early_parts}
use Rattle.mls_typing.specs.Typed.{Types, Judgement, Allows, EachHas}
use Rattle.mls_typing.specs.Typed.{OfBound, OfFun, OfApply, OfMake, OfProject, OfChoice, OfFix, OfLet}

abbrev pub is_let : TermTree → Bool
is_let (local at k e e') = true
is_let _ = false

-- Which types an expression has that is no let, where the binders have these types: so the rule of its form says, by
-- schemes of its parts.
abbrev pub Row : Known → TermTree → List Scheme → Judgement
Row known (inner at k) [] types f = (s : Scheme) × (finmap.get known.lets k ≡ Some s) × Allows s types f
Row known (global at g) [] types f = (s : Scheme) × (slice_get known.globals g ≡ Some s) × Allows s types f
Row known (bound at x) [] types f = OfBound x types f
Row known (number at value) [] types f = Implies int f
Row known (truth at value) [] types f = Implies bool f
Row known (fun at x e) (s ∷ []) types f = OfFun x (Allows s) types f
Row known (apply at e e') (s ∷ t ∷ []) types f = OfApply (Allows s) (Allows t) types f
Row known (make at parts) ss types f = OfMake parts (EachHas Allows parts ss) types f
Row known (project at e label) (s ∷ []) types f = OfProject label (Allows s) types f
Row known (choice at c e e') (r ∷ s ∷ t ∷ []) types f = OfChoice (Allows r) (Allows s) (Allows t) types f
Row known (fix at x e) (s ∷ []) types f = OfFix x (Allows s) types f
Row known _ ss types f = ⊥

-- the scheme allows just these types
pub record Solves (Has : Judgement) (s : Scheme) : Type 0 where
  pub is : IsScheme s
  pub just : (types : Types) (f : Predicate) → Has types f ↔ Allows s types f

-- there are no such types
abbrev pub IsUnsolvable : (Judgement) → Type 0
IsUnsolvable Has = (types : Types) (f : Predicate) → Has types f → ⊥

-- what inference answers: a scheme, or the number of a node that has none
pub data Outcome : Type 0 where
  best : Scheme → Outcome
  none : ℕ → Outcome

-- Inference of an expression whose first node has the number n. It takes the parts in order, and stops at the first
-- that has no scheme.
-- The scheme of a node may be any that allows just the types of its row.
mutual
  pub data Infers : Known → ℕ → TermTree → Outcome → Type 0 where
    solved : {known : Known} {n : ℕ} {t : TermTree} {o : Outcome} (ss : List Scheme) (s : Scheme)
        → is_let t ≡ false → AllInfer known (early_parts n t) ss → Solves (Row known t ss) s → o ≡ best s
        → Infers known n t o
    unsolved : {known : Known} {n : ℕ} {t : TermTree} {o : Outcome} (ss : List Scheme)
        → is_let t ≡ false → AllInfer known (early_parts n t) ss → IsUnsolvable (Row known t ss)
        → o ≡ none (n + before t)
        → Infers known n t o
    part_has_none : {known : Known} {n : ℕ} {t : TermTree} {o : Outcome} (i : ℕ)
        → OneHasNone known (early_parts n t) i → o ≡ none i
        → Infers known n t o
    let_solved : {known : Known} {n : ℕ} {t : TermTree} {o : Outcome}
        (at k : ℕ) (first second : TermTree) (r s u : Scheme)
        → t ≡ local at k first second → Infers known n first (best r)
        → Infers (with_let known k r) (n + suc (before first)) second (best s)
        → Solves (OfLet (Allows r) (Allows s)) u → o ≡ best u
        → Infers known n t o
    second_has_none : {known : Known} {n : ℕ} {t : TermTree} {o : Outcome}
        (at k : ℕ) (first second : TermTree) (r : Scheme) (i : ℕ)
        → t ≡ local at k first second → Infers known n first (best r)
        → Infers (with_let known k r) (n + suc (before first)) second (none i)
        → o ≡ none i
        → Infers known n t o

  -- each part has a scheme
  pub data AllInfer : Known → List (ℕ × TermTree) → List Scheme → Type 0 where
    no_part : {known : Known} {parts : List (ℕ × TermTree)} {ss : List Scheme}
        → parts ≡ [] → ss ≡ [] → AllInfer known parts ss
    a_part : {known : Known} {parts : List (ℕ × TermTree)} {ss : List Scheme}
        (n : ℕ) (t : TermTree) (rest : List (ℕ × TermTree)) (s : Scheme) (others : List Scheme)
        → parts ≡ (n, t) ∷ rest → ss ≡ s ∷ others → Infers known n t (best s) → AllInfer known rest others
        → AllInfer known parts ss

  -- the first part that has none has it at this node
  pub data OneHasNone : Known → List (ℕ × TermTree) → ℕ → Type 0 where
    here : {known : Known} {parts : List (ℕ × TermTree)} {i : ℕ} (n : ℕ) (t : TermTree) (rest : List (ℕ × TermTree))
        → parts ≡ (n, t) ∷ rest → Infers known n t (none i)
        → OneHasNone known parts i
    later : {known : Known} {parts : List (ℕ × TermTree)} {i : ℕ}
        (n : ℕ) (t : TermTree) (rest : List (ℕ × TermTree)) (s : Scheme)
        → parts ≡ (n, t) ∷ rest → Infers known n t (best s) → OneHasNone known rest i
        → OneHasNone known parts i
