-- What the names of a module mean.
use Rattle.std.specs.Prelude.{◌≡◌, ℕ, suc, ◌+◌, List, [], ◌∷◌, ◌++◌, map, length, sum_by, find, bytes_eq}
use Rattle.std.specs.Prelude.{if◌then◌else◌, Bool, Option, Some, option_map}
use Rattle.std.specs.List.{list_any}
use Rattle.mls_grammar.specs.declared.module.Module.{Module}
use Rattle.mls_grammar.specs.declared.module.Op.{Op}
use Rattle.mls_grammar.specs.declared.module.Op.TheVariants as op
use Rattle.mls_term.specs.declared.term.Resolved.{Resolved}
use Rattle.mls_term.specs.declared.term.ResolvedBinding.{ResolvedBinding}
use Rattle.mls_grammar.specs.declared.fault.Fault.{Fault}
use Rattle.mls_grammar.specs.declared.fault.Fault.TheVariants.{UnknownName}
use Rattle.mls_grammar.specs.Trees.{Tree, a_name, an_operator, a_number, a_truth, a_fun, a_fix, a_let, an_if, an_apply}
use Rattle.mls_grammar.specs.Trees.{a_make, a_project, Fields, no_field, a_field, BindingTree, SourceTree}
use Rattle.mls_grammar.specs.Modules.{module_of}
use Rattle.mls_term.specs.Terms.{TermTree, TermFields, bound, inner, global, number, truth, fun, apply, make, project}
use Rattle.mls_term.specs.Terms.{choice, local, fix, postorder}
use Rattle.mls_term.specs.Terms as term

-- what a name can mean: a binder number, a let number, or a scheme of the environment
pub data Meant : Type 0 where
  binder let_number scheme : ℕ → Meant

-- names with what they mean, the innermost first
abbrev pub Scope : Type 0
Scope = List (List ℕ × Meant)

-- what a name means
abbrev pub meant_by : Scope → List ℕ → Option Meant
meant_by scope x = option_map (λ entry. entry.1) (find (λ entry. bytes_eq entry.0 x) scope)

-- the tree of a use
abbrev pub use_of : ℕ → Meant → TermTree
use_of at (binder x) = bound at x
use_of at (let_number k) = inner at k
use_of at (scheme g) = global at g

-- the operators are the first schemes of the environment
abbrev pub operator_number : Op → ℕ
operator_number op.Plus = 0
operator_number op.Minus = 1
operator_number op.Times = 2
operator_number op.Less = 3
operator_number op.Equal = 4

-- how many functions and recursions a tree has
unfoldable mutual
  pub binders : Tree → ℕ
  binders (a_name at x) = 0
  binders (an_operator at o) = 0
  binders (a_number at value) = 0
  binders (a_truth at value) = 0
  binders (a_fun at x e) = suc (binders e)
  binders (a_fix at x e) = suc (binders e)
  binders (a_let at x e f) = binders e + binders f
  binders (an_if at c e f) = binders c + binders e + binders f
  binders (an_apply at f a) = binders f + binders a
  binders (a_make at fields) = field_binders fields
  binders (a_project at e label) = binders e

  pub field_binders : Fields → ℕ
  field_binders no_field = 0
  field_binders (a_field label e rest) = binders e + field_binders rest

-- how many lets a tree has
unfoldable mutual
  pub lets : Tree → ℕ
  lets (a_name at x) = 0
  lets (an_operator at o) = 0
  lets (a_number at value) = 0
  lets (a_truth at value) = 0
  lets (a_fun at x e) = lets e
  lets (a_fix at x e) = lets e
  lets (a_let at x e f) = suc (lets e + lets f)
  lets (an_if at c e f) = lets c + lets e + lets f
  lets (an_apply at f a) = lets f + lets a
  lets (a_make at fields) = field_lets fields
  lets (a_project at e label) = lets e

  pub field_lets : Fields → ℕ
  field_lets no_field = 0
  field_lets (a_field label e rest) = lets e + field_lets rest

-- the tree with names is this term in the scope, where b binders and l lets stand before it in the text:
-- binders and lets are numbered in the order of the text, a function and a recursion bind in their bodies,
-- and a let in its second part alone
abbrev mutual
  pub Means : Scope → (b l : ℕ) → Tree → TermTree → Type 0
  Means scope b l (a_name at x) t = (m : Meant) × (meant_by scope x ≡ Some m) × (t ≡ use_of at m)
  Means scope b l (an_operator at o) t = t ≡ global at (operator_number o)
  Means scope b l (a_number at value) t = t ≡ number at value
  Means scope b l (a_truth at value) t = t ≡ truth at value
  Means scope b l (a_fun at x e) t =
      (body : TermTree) × Means ((x, binder b) ∷ scope) (suc b) l e body × (t ≡ fun at b body)
  Means scope b l (a_fix at x e) t =
      (body : TermTree) × Means ((x, binder b) ∷ scope) (suc b) l e body × (t ≡ fix at b body)
  Means scope b l (a_let at x e f) t =
      (first second : TermTree)
      × Means scope b (suc l) e first
      × Means ((x, let_number l) ∷ scope) (b + binders e) (suc l + lets e) f second
      × (t ≡ local at l first second)
  Means scope b l (an_if at c e f) t =
      (condition first second : TermTree)
      × Means scope b l c condition
      × Means scope (b + binders c) (l + lets c) e first
      × Means scope (b + binders c + binders e) (l + lets c + lets e) f second
      × (t ≡ choice at condition first second)
  Means scope b l (an_apply at f a) t =
      (function argument : TermTree)
      × Means scope b l f function
      × Means scope (b + binders f) (l + lets f) a argument
      × (t ≡ apply at function argument)
  Means scope b l (a_make at fields) t = (parts : TermFields) × MeanFields scope b l fields parts × (t ≡ make at parts)
  Means scope b l (a_project at e label) t = (body : TermTree) × Means scope b l e body × (t ≡ project at body label)

  pub MeanFields : Scope → (b l : ℕ) → Fields → TermFields → Type 0
  MeanFields scope b l no_field ts = ts ≡ term.no_field
  MeanFields scope b l (a_field label e rest) ts =
      (body : TermTree) × (others : TermFields)
      × Means scope b l e body
      × MeanFields scope (b + binders e) (l + lets e) rest others
      × (ts ≡ term.a_field label body others)

-- these names mean the schemes from number g on, in order
abbrev pub schemes_from : ℕ → List (List ℕ) → Scope
schemes_from g [] = []
schemes_from g (x ∷ xs) = (x, scheme g) ∷ schemes_from (suc g) xs

-- what the imports declare, the latest import first; the environment has their schemes in the order of the imports,
-- from number g on
abbrev pub declared_from : ℕ → List (List (List ℕ)) → Scope
declared_from g [] = []
declared_from g (names ∷ rest) = declared_from (g + length names) rest ++ schemes_from g names

-- how many names the imports declare
abbrev pub declared_count : List (List (List ℕ)) → ℕ
declared_count declared = sum_by length declared

-- the scope of a binding: the earlier bindings of the module, and then what the imports declare;
-- the environment has the five operators, the declared schemes, and those of the earlier bindings
abbrev pub scope_after : List (List (List ℕ)) → List (List ℕ) → Scope
scope_after declared earlier = schemes_from (5 + declared_count declared) earlier ++ declared_from 5 declared

-- a binding with this tree has this term in the scope
pub record IsTermOf (scope : Scope) (b : BindingTree) (r : ResolvedBinding) : Type 0 where
  pub name : r.name ≡ b.x
  pub at : r.at ≡ b.at
  pub term_tree : TermTree
  pub means : Means scope 0 0 b.body term_tree
  pub nodes : r.term.nodes ≡ postorder 0 term_tree
  pub binders : r.term.binders ≡ binders b.body
  pub lets : r.term.lets ≡ lets b.body

-- each binding has its term, where the names of these bindings are in scope
abbrev pub AreTermsOf : List (List (List ℕ)) → (earlier : List (List ℕ)) → List BindingTree → List ResolvedBinding
    → Type 0
AreTermsOf declared earlier [] rs = rs ≡ []
AreTermsOf declared earlier (b ∷ bs) rs =
    (first : ResolvedBinding) × (rest : List ResolvedBinding)
    × (rs ≡ first ∷ rest)
    × IsTermOf (scope_after declared earlier) b first
    × AreTermsOf declared (earlier ++ b.x ∷ []) bs rest

-- the names of the module mean this, where the imports declare these names
pub record Resolves (m : Module) (declared : List (List (List ℕ))) (r : Resolved) : Type 0 where
  pub tree : SourceTree
  pub nodes : m ≡ module_of tree
  pub terms : AreTermsOf declared [] tree.bound r.bindings

-- the names that have a meaning in a scope
abbrev pub names_of : Scope → List (List ℕ)
names_of scope = map (λ entry. entry.0) scope

-- the name is one of these
abbrev pub is_known : List (List ℕ) → List ℕ → Bool
is_known known x = list_any (λ y. bytes_eq y x) known

-- the places of the names of a tree that have no meaning, in the order of the text, where these names have one around
-- the tree: a function and a recursion give their name a meaning in their bodies, and a let in its second part alone
abbrev mutual
  pub unknowns : List (List ℕ) → Tree → List ℕ
  unknowns known (a_name at x) = if is_known known x then [] else at ∷ []
  unknowns known (an_operator at o) = []
  unknowns known (a_number at value) = []
  unknowns known (a_truth at value) = []
  unknowns known (a_fun at x e) = unknowns (x ∷ known) e
  unknowns known (a_fix at x e) = unknowns (x ∷ known) e
  unknowns known (a_let at x e f) = unknowns known e ++ unknowns (x ∷ known) f
  unknowns known (an_if at c e f) = unknowns known c ++ unknowns known e ++ unknowns known f
  unknowns known (an_apply at f a) = unknowns known f ++ unknowns known a
  unknowns known (a_make at fields) = field_unknowns known fields
  unknowns known (a_project at e label) = unknowns known e

  pub field_unknowns : List (List ℕ) → Fields → List ℕ
  field_unknowns known no_field = []
  field_unknowns known (a_field label e rest) = unknowns known e ++ field_unknowns known rest

-- the same of bindings, where the names of these earlier bindings are in scope
abbrev pub unknown_names : List (List (List ℕ)) → (earlier : List (List ℕ)) → List BindingTree → List ℕ
unknown_names declared earlier [] = []
unknown_names declared earlier (b ∷ bs) =
    unknowns (names_of (scope_after declared earlier)) b.body ++ unknown_names declared (earlier ++ b.x ∷ []) bs

-- the fault is the first name of the module that has no meaning, where the imports declare these names
pub record HasUnknownName (m : Module) (declared : List (List (List ℕ))) (fault : Fault) : Type 0 where
  pub tree : SourceTree
  pub nodes : m ≡ module_of tree
  pub place : ℕ
  pub later : List ℕ
  pub first : unknown_names declared [] tree.bound ≡ place ∷ later
  pub fault_is : fault ≡ UnknownName place
