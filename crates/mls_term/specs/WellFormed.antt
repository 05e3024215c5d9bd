-- Which lists of nodes are terms, and which part of a term has a number.
use Rattle.std.specs.Prelude.{◌≡◌, ◌≢◌, ℕ, suc, ◌+◌, ◌<◌, List, [], ◌∷◌, ◌++◌, length, All, Contains}
use Rattle.std.specs.List.{AllPairs}
use Rattle.std.specs.FinMap as env
use Rattle.mls_book.specs.Schemes.{Scheme}
use Rattle.mls_term.specs.declared.term.TermNode.{TermNode}
use Rattle.mls_term.specs.Terms.{TermTree, TermFields, bound, inner, global, number, truth, fun, apply, make, project}
use Rattle.mls_term.specs.Terms.{choice, local, fix, no_field, a_field, before, postorder}
use Rattle.mls_term.specs.Derivations.{Known, with_let, labels_of, IsBest, HasNone}

-- the numbers of the functions and recursions of a tree
abbrev mutual
  pub binders_of : TermTree → List ℕ
  binders_of (bound at x) = []
  binders_of (inner at k) = []
  binders_of (global at g) = []
  binders_of (number at value) = []
  binders_of (truth at value) = []
  binders_of (fun at x e) = x ∷ binders_of e
  binders_of (apply at f a) = binders_of f ++ binders_of a
  binders_of (make at fields) = field_binders_of fields
  binders_of (project at e label) = binders_of e
  binders_of (choice at c e f) = binders_of c ++ binders_of e ++ binders_of f
  binders_of (local at k e f) = binders_of e ++ binders_of f
  binders_of (fix at x e) = x ∷ binders_of e

  pub field_binders_of : TermFields → List ℕ
  field_binders_of no_field = []
  field_binders_of (a_field label e rest) = binders_of e ++ field_binders_of rest

-- the numbers of its lets
abbrev mutual
  pub lets_of : TermTree → List ℕ
  lets_of (bound at x) = []
  lets_of (inner at k) = []
  lets_of (global at g) = []
  lets_of (number at value) = []
  lets_of (truth at value) = []
  lets_of (fun at x e) = lets_of e
  lets_of (apply at f a) = lets_of f ++ lets_of a
  lets_of (make at fields) = field_lets_of fields
  lets_of (project at e label) = lets_of e
  lets_of (choice at c e f) = lets_of c ++ lets_of e ++ lets_of f
  lets_of (local at k e f) = k ∷ (lets_of e ++ lets_of f)
  lets_of (fix at x e) = lets_of e

  pub field_lets_of : TermFields → List ℕ
  field_lets_of no_field = []
  field_lets_of (a_field label e rest) = lets_of e ++ field_lets_of rest

-- A binder is used in the body of its function or recursion alone, a let number in the second part of its let alone, a
-- scheme of the environment is one of so many, and no record has a label twice. These binders and lets are around the
-- tree.
abbrev mutual
  pub IsScoped : (binders lets : List ℕ) (globals : ℕ) → TermTree → Type 0
  IsScoped binders lets globals (bound at x) = Contains binders x
  IsScoped binders lets globals (inner at k) = Contains lets k
  IsScoped binders lets globals (global at g) = g < globals
  IsScoped binders lets globals (number at value) = Unit {0}
  IsScoped binders lets globals (truth at value) = Unit {0}
  IsScoped binders lets globals (fun at x e) = IsScoped (x ∷ binders) lets globals e
  IsScoped binders lets globals (apply at f a) = IsScoped binders lets globals f × IsScoped binders lets globals a
  IsScoped binders lets globals (make at fields) =
      AllPairs (λ x y. x ≢ y) (labels_of fields) × AreScoped binders lets globals fields
  IsScoped binders lets globals (project at e label) = IsScoped binders lets globals e
  IsScoped binders lets globals (choice at c e f) =
      IsScoped binders lets globals c × IsScoped binders lets globals e × IsScoped binders lets globals f
  IsScoped binders lets globals (local at k e f) =
      IsScoped binders lets globals e × IsScoped binders (k ∷ lets) globals f
  IsScoped binders lets globals (fix at x e) = IsScoped (x ∷ binders) lets globals e

  pub AreScoped : (binders lets : List ℕ) (globals : ℕ) → TermFields → Type 0
  AreScoped binders lets globals no_field = Unit {0}
  AreScoped binders lets globals (a_field label e rest) =
      IsScoped binders lets globals e × AreScoped binders lets globals rest

-- these are so many numbers, from 0 on, each once
pub record AreNumbersBelow (count : ℕ) (numbers : List ℕ) : Type 0 where
  pub count_is : length numbers ≡ count
  pub below : All (λ n. n < count) numbers
  pub distinct : AllPairs (λ m n. m ≢ n) numbers

-- the nodes are the postorder of one tree, where each name is in scope, over an environment of so many schemes
pub record IsTerm (globals : ℕ) (nodes : List TermNode) (binders lets : ℕ) : Type 0 where
  pub tree : TermTree
  pub nodes_are : nodes ≡ postorder 0 tree
  pub scoped : IsScoped [] [] globals tree
  pub binder_numbers : AreNumbersBelow binders (binders_of tree)
  pub let_numbers : AreNumbersBelow lets (lets_of tree)

-- Binders rise inwards: each binder in the body of a function or a recursion has a higher number than its own.
abbrev mutual
  pub HasRisingBinders : TermTree → Type 0
  HasRisingBinders (bound at x) = Unit {0}
  HasRisingBinders (inner at k) = Unit {0}
  HasRisingBinders (global at g) = Unit {0}
  HasRisingBinders (number at value) = Unit {0}
  HasRisingBinders (truth at value) = Unit {0}
  HasRisingBinders (fun at x e) = All (λ y. x < y) (binders_of e) × HasRisingBinders e
  HasRisingBinders (apply at f a) = HasRisingBinders f × HasRisingBinders a
  HasRisingBinders (make at fields) = HaveRisingBinders fields
  HasRisingBinders (project at e label) = HasRisingBinders e
  HasRisingBinders (choice at c e f) = HasRisingBinders c × HasRisingBinders e × HasRisingBinders f
  HasRisingBinders (local at k e f) = HasRisingBinders e × HasRisingBinders f
  HasRisingBinders (fix at x e) = All (λ y. x < y) (binders_of e) × HasRisingBinders e

  pub HaveRisingBinders : TermFields → Type 0
  HaveRisingBinders no_field = Unit {0}
  HaveRisingBinders (a_field label e rest) = HasRisingBinders e × HaveRisingBinders rest

-- so do those of the tree of which these nodes are the postorder
abbrev pub HasRisingTree : List TermNode → Type 0
HasRisingTree nodes = (t : TermTree) → nodes ≡ postorder 0 t → HasRisingBinders t

-- the children of a tree, each with the number of its first node, where that of the tree is n; not the second part of a
-- let
abbrev mutual
  pub early_parts : ℕ → TermTree → List (ℕ × TermTree)
  early_parts n (bound at x) = []
  early_parts n (inner at k) = []
  early_parts n (global at g) = []
  early_parts n (number at value) = []
  early_parts n (truth at value) = []
  early_parts n (fun at x e) = (n, e) ∷ []
  early_parts n (apply at f a) = (n, f) ∷ (n + suc (before f), a) ∷ []
  early_parts n (make at fields) = field_parts n fields
  early_parts n (project at e label) = (n, e) ∷ []
  early_parts n (choice at c e f) = (n, c) ∷ (n + suc (before c), e) ∷ (n + suc (before c) + suc (before e), f) ∷ []
  early_parts n (local at k e f) = (n, e) ∷ []
  early_parts n (fix at x e) = (n, e) ∷ []

  pub field_parts : ℕ → TermFields → List (ℕ × TermTree)
  field_parts n no_field = []
  field_parts n (a_field label e rest) = (n, e) ∷ field_parts (n + suc (before e)) rest

-- The part of a tree whose first node has this number, and what is known there: in the second part of a let its name
-- has a best scheme of the first part. So nothing is a part below a first part that has no scheme.
pub data IsPartOf (globals : List Scheme) (whole : TermTree) : ℕ → TermTree → Known → Type 0 where
  at_root : {n : ℕ} {t : TermTree} {known : Known} → n ≡ 0 → t ≡ whole
      → known ≡ record { globals = globals; lets = env.empty } → IsPartOf globals whole n t known
  in_part : {n : ℕ} {t : TermTree} {known : Known} (m : ℕ) (outer : TermTree)
      → IsPartOf globals whole m outer known → Contains (early_parts m outer) (n, t)
      → IsPartOf globals whole n t known
  in_second : {n : ℕ} {t : TermTree} {known : Known} (m : ℕ) (outer : Known) (at k : ℕ) (first : TermTree) (s : Scheme)
      → IsPartOf globals whole m (local at k first t) outer → n ≡ m + suc (before first) → IsBest outer first s
      → known ≡ with_let outer k s
      → IsPartOf globals whole n t known

-- the node of this number is the first in postorder without a scheme
pub record IsFirstNone (globals : List Scheme) (whole : TermTree) (i : ℕ) : Type 0 where
  pub n : ℕ
  pub t : TermTree
  pub known : Known
  pub part : IsPartOf globals whole n t known
  pub number_is : i ≡ n + before t
  pub none : HasNone known t
  pub earlier : (j : ℕ) → j < i → (n' : ℕ) × (u : TermTree) × (other : Known) × (s : Scheme)
      × IsPartOf globals whole n' u other × (j ≡ n' + before u) × IsBest other u s
