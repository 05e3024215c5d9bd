-- Types of all nodes and binders of a part of a term. The first part of a let is a part of its own, and none of its
-- nodes is a node of the part around it.
use Rattle.std.specs.Prelude.{◌≡◌, ◌⊎◌, ℕ, ◌+◌, List, [], ◌∷◌, Contains, bytes_eq, find, slice_get}
use Rattle.std.specs.Prelude.{option_map, Option, Some}
use Rattle.std.specs.FinMap as env
use Rattle.mls_book.specs.Predicates.{Predicate, Implies, top, bool, int, arrow, rcd}
use Rattle.mls_book.specs.Passes.{passes_by}
use Rattle.mls_book.specs.Schemes.{Scheme, IsScheme}
use Rattle.mls_term.specs.declared.term.Part.{Part}
use Rattle.mls_term.specs.declared.term.TermNode.{TermNode}
use Rattle.mls_term.specs.declared.term.TermForm.{TermForm}
use Rattle.mls_term.specs.declared.term.TermForm.TheVariants as form
use Rattle.mls_term.specs.Terms.{TermTree, TermFields, bound, inner, global, number, truth, fun, apply, make, project}
use Rattle.mls_term.specs.Terms.{choice, local, fix, no_field, a_field, before}
use Rattle.mls_term.specs.Derivations.{Known, with_let}
use Rattle.mls_term.specs.TypingLaws.{AreSchemes}
use Rattle.mls_term.specs.WellFormed.{binders_of}
use Rattle.mls_typing.specs.Typed.{Types, IsType, IsTyped, Allows, one_field}
use Rattle.mls_deriv.specs.Steps.{form_at}
use Rattle.mls_parts.specs.NumberedNodes.{IsPlaced}

-- the type of the part at each label of a record
abbrev pub part_types : (ℕ → Predicate) → List Part → List ℕ → Option Predicate
part_types type parts label =
    option_map (λ part. type part.child) (find (λ part. bytes_eq part.label label) parts)

-- an instance of the scheme has just this type, where the binders have these types
abbrev pub HasInstance : Scheme → Types → Predicate → Type 0
HasInstance s types f = (a : Allows s types f) × (passes_by a.reading s.book s.root ≡ f)

-- node `i` is a conditional
abbrev pub IsConditional : List TermNode → ℕ → Type 0
IsConditional nodes i = (j k l : ℕ) × (form_at nodes i ≡ Some (form.If j k l))

-- What a node of each form asks of the types of its node, of its parts and of its binder. A name has an instance of its
-- scheme, and of each let the scheme of the first part has one at all. `known` has the schemes of all lets, also of
-- those that are not in scope. A branch that is a conditional has the type of the conditional around it.
module _ (nodes : List TermNode) (known : Known) (type : ℕ → Predicate) (binder : Types) where
  -- the type of a branch is raised to that of the conditional
  abbrev pub IsRaised : (branch node : ℕ) → Type 0
  IsRaised b i = IsConditional nodes b → type b ≡ type i

  abbrev pub IsNodeTyped : ℕ → TermForm → Type 0
  IsNodeTyped i (form.Bound x) = Implies (binder x) (type i)
  IsNodeTyped i (form.Inner k) = (s : Scheme) × (env.get known.lets k ≡ Some s) × HasInstance s binder (type i)
  IsNodeTyped i (form.Global g) =
      (s : Scheme) × (slice_get known.globals g ≡ Some s) × HasInstance s binder (type i)
  IsNodeTyped i (form.Number value) = Implies int (type i)
  IsNodeTyped i (form.Truth value) = Implies bool (type i)
  IsNodeTyped i (form.Fun x j) = Implies (arrow (binder x) (type j)) (type i)
  IsNodeTyped i (form.Apply j k) = Implies (type j) (arrow (type k) (type i))
  IsNodeTyped i (form.Make parts) = Implies (rcd (part_types type parts)) (type i)
  IsNodeTyped i (form.Project j label) = Implies (type j) (rcd (one_field label (type i)))
  IsNodeTyped i (form.If j k l) =
      Implies (type j) bool × Implies (type k) (type i) × Implies (type l) (type i) × IsRaised k i × IsRaised l i
  IsNodeTyped i (form.Let k j l) =
      (type i ≡ type l) × (s : Scheme) × (env.get known.lets k ≡ Some s) × Allows s binder top
  IsNodeTyped i (form.Rec x j) = (type i ≡ type j) × Implies (type j) (binder x)

-- Node i is the root of this tree, and each node of the tree that is of the same part has a type as its form asks.
module _ (nodes : List TermNode) (known : Known) (type : ℕ → Predicate) (binder : Types) where
  -- node i is of this form, and typed so
  abbrev pub IsTypedAt : ℕ → TermForm → Type 0
  IsTypedAt i f = (form_at nodes i ≡ Some f) × IsNodeTyped nodes known type binder i f

  abbrev mutual
    pub AreTyped : ℕ → TermTree → Type 0
    AreTyped i (bound at x) = IsTypedAt i (form.Bound x)
    AreTyped i (inner at k) = IsTypedAt i (form.Inner k)
    AreTyped i (global at g) = IsTypedAt i (form.Global g)
    AreTyped i (number at value) = IsTypedAt i (form.Number value)
    AreTyped i (truth at value) = IsTypedAt i (form.Truth value)
    AreTyped i (fun at x e) = (j : ℕ) × IsTypedAt i (form.Fun x j) × AreTyped j e
    AreTyped i (apply at e f) = (j k : ℕ) × IsTypedAt i (form.Apply j k) × AreTyped j e × AreTyped k f
    AreTyped i (make at fields) = (parts : List Part) × IsTypedAt i (form.Make parts) × AreAllTyped parts fields
    AreTyped i (project at e label) = (j : ℕ) × IsTypedAt i (form.Project j label) × AreTyped j e
    AreTyped i (choice at c e f) =
        (j k l : ℕ) × IsTypedAt i (form.If j k l) × AreTyped j c × AreTyped k e × AreTyped l f
    AreTyped i (local at k e f) = (j l : ℕ) × IsTypedAt i (form.Let k j l) × AreTyped l f
    AreTyped i (fix at x e) = (j : ℕ) × IsTypedAt i (form.Rec x j) × AreTyped j e

    -- the parts of a record
    pub AreAllTyped : List Part → TermFields → Type 0
    AreAllTyped parts no_field = parts ≡ []
    AreAllTyped parts (a_field label e rest) =
        (j : ℕ) × (others : List Part) × (parts ≡ record { label = label; child = j } ∷ others)
        × AreTyped j e × AreAllTyped others rest

-- node j is a part of a node of this form, and of the same part of the term: so not the first part of a let
abbrev pub IsOwnPart : TermForm → ℕ → Type 0
IsOwnPart (form.Fun x i) j = j ≡ i
IsOwnPart (form.Apply i k) j = (j ≡ i) ⊎ (j ≡ k)
IsOwnPart (form.Make parts) j = (part : Part) × Contains parts part × (j ≡ part.child)
IsOwnPart (form.Project i label) j = j ≡ i
IsOwnPart (form.If i k l) j = (j ≡ i) ⊎ ((j ≡ k) ⊎ (j ≡ l))
IsOwnPart (form.Let k i l) j = j ≡ l
IsOwnPart (form.Rec x i) j = j ≡ i
IsOwnPart _ j = ⊥

-- the nodes of the part whose root is the node `top`
pub data IsNodeOf (nodes : List TermNode) (top : ℕ) : ℕ → Type 0 where
  at_top : {j : ℕ} → j ≡ top → IsNodeOf nodes top j
  in_part : {j : ℕ} (i : ℕ) (f : TermForm) → IsNodeOf nodes top i → form_at nodes i ≡ Some f → IsOwnPart f j
      → IsNodeOf nodes top j

-- the scheme needs these binders alone
abbrev pub NeedsOnly : List ℕ → Scheme → Type 0
NeedsOnly scope s = (x i : ℕ) → env.get s.env x ≡ Some i → Contains scope x

-- the scheme needs these binders alone, and allows every type that the expression has where these names are known
pub record AllowsAll (scope : List ℕ) (here : Known) (t : TermTree) (s : Scheme) : Type 0 where
  pub is : IsScheme s
  pub needs : NeedsOnly scope s
  pub all : (types : Types) (f : Predicate) → IsTyped here types t f → Allows s types f

-- Each let of a part has a scheme that allows all types of its first part, where these binders are around the part and
-- these names are known there.
module _ (known : Known) where
  abbrev mutual
    pub LetsAllow : (scope : List ℕ) → (here : Known) → TermTree → Type 0
    LetsAllow scope here (bound at x) = Unit {0}
    LetsAllow scope here (inner at k) = Unit {0}
    LetsAllow scope here (global at g) = Unit {0}
    LetsAllow scope here (number at value) = Unit {0}
    LetsAllow scope here (truth at value) = Unit {0}
    LetsAllow scope here (fun at x e) = LetsAllow (x ∷ scope) here e
    LetsAllow scope here (apply at e f) = LetsAllow scope here e × LetsAllow scope here f
    LetsAllow scope here (make at fields) = AllLetsAllow scope here fields
    LetsAllow scope here (project at e label) = LetsAllow scope here e
    LetsAllow scope here (choice at c e f) =
        LetsAllow scope here c × LetsAllow scope here e × LetsAllow scope here f
    LetsAllow scope here (local at k e f) =
        (s : Scheme) × (env.get known.lets k ≡ Some s) × AllowsAll scope here e s
        × LetsAllow scope (with_let here k s) f
    LetsAllow scope here (fix at x e) = LetsAllow (x ∷ scope) here e

    pub AllLetsAllow : (scope : List ℕ) → (here : Known) → TermFields → Type 0
    AllLetsAllow scope here no_field = Unit {0}
    AllLetsAllow scope here (a_field label e rest) = LetsAllow scope here e × AllLetsAllow scope here rest

-- What is known in one place, under these binders: some of the names, by schemes that need these binders alone.
pub record IsKnownHere (known : Known) (scope : List ℕ) (here : Known) : Type 0 where
  pub schemes : AreSchemes here
  pub globals : here.globals ≡ known.globals
  pub lets : (k : ℕ) (s : Scheme) → env.get here.lets k ≡ Some s → env.get known.lets k ≡ Some s
  pub globals_need : (g : ℕ) (s : Scheme) → slice_get here.globals g ≡ Some s → NeedsOnly scope s
  pub lets_need : (k : ℕ) (s : Scheme) → env.get here.lets k ≡ Some s → NeedsOnly scope s

-- Types of all nodes and binders, with these types of the binders around, and the root below this type.
pub record HasNodeTypes (nodes : List TermNode) (known : Known) (types : Types) (n : ℕ) (t : TermTree) (f : Predicate)
    : Type 0 where
  pub type : ℕ → Predicate
  pub binder : Types
  pub typed : AreTyped nodes known type binder (n + before t) t
  pub each : (i : ℕ) (f : TermForm) → IsNodeOf nodes (n + before t) i → form_at nodes i ≡ Some f
      → IsNodeTyped nodes known type binder i f
  pub root : Implies (type (n + before t)) f
  pub around : (x : ℕ) → (Contains (binders_of t) x → ⊥) → binder x ≡ types x
  pub types_are : (i : ℕ) → IsType (type i)
  pub binders_are : (x : ℕ) → Contains (binders_of t) x → IsType (binder x)

-- where a part has a type, all its nodes and binders have types
abbrev pub NodesHaveTypes : Type 0
NodesHaveTypes =
    (nodes : List TermNode) (known : Known) (scope : List ℕ) (here : Known) (n : ℕ) (t : TermTree)
    → IsPlaced nodes scope n t → IsKnownHere known scope here → LetsAllow known scope here t
    → (types : Types) (f : Predicate) → IsTyped here types t f
    → HasNodeTypes nodes known types n t f
