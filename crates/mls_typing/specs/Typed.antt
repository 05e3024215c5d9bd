-- Typing by predicates: what the rules of typing say of an expression, without schemes, books and subsumption.
use Rattle.std.specs.Prelude.{◌≡◌, ℕ, ◌<◌, cond, List, [], ◌∷◌, length, All, bytes_eq, Option, Some, None}
use Rattle.std.specs.FinMap as finmap
use Rattle.std.specs.Ordering.{nat_cmp, eq_by_cmp}
use Rattle.mls_book.specs.declared.book.Node.{Node}
use Rattle.mls_book.specs.declared.book.Field.{Field}
use Rattle.mls_book.specs.Books.{IsClosedBook, AreRising}
use Rattle.mls_book.specs.Predicates.{Predicate, Implies, top, bool, arrow, rcd}
use Rattle.mls_book.specs.Passes.{passes, passes_by, field_values}
use Rattle.mls_book.specs.Schemes.{Scheme, IsScheme, binder_passes}
use Rattle.mls_term.specs.Terms.{TermTree, TermFields, no_field, a_field}
use Rattle.mls_term.specs.Derivations.{Known, HaveLabels, Derives}

-- what binders have
abbrev pub Types : Type 0
Types = ℕ → Predicate

-- which types something has, by what binders have
abbrev pub Judgement : Type 1
Judgement = Types → Predicate → Type 0

-- the type of a scheme
abbrev pub type_of : Scheme → Predicate
type_of s = passes s.book s.root

-- what it needs of each binder
abbrev pub needs_of : Scheme → Types
needs_of s x = binder_passes (passes s.book) (finmap.get s.env x)

-- a node of the book passes just this
abbrev pub IsTypeOf : List Node → Predicate → Type 0
IsTypeOf b f = (i : ℕ) × (i < length b) × (passes b i ≡ f)

-- a node of a closed book does
abbrev pub IsType : Predicate → Type 0
IsType f = (b : List Node) × IsClosedBook b × IsTypeOf b f

-- each binder has a lower type in the first
abbrev pub AreBelow : Types → Types → Type 0
AreBelow types others = (x : ℕ) → Implies (types x) (others x)

-- the same, with this type for a binder
abbrev pub with_binder : Types → ℕ → Predicate → Types
with_binder types x f y = cond (eq_by_cmp nat_cmp y x) f (types y)

-- The expression has the type `f` where the binders have these types: a derivable scheme has a type below `f`, and
-- needs no more of the binders.
pub record IsTyped (known : Known) (types : Types) (t : TermTree) (f : Predicate) : Type 0 where
  pub scheme : Scheme
  pub is : IsScheme scheme
  pub derives : Derives known t scheme
  pub root : Implies (type_of scheme) f
  pub env : AreBelow types (needs_of scheme)

-- The scheme allows the type `f` where the binders have these types: so it does where its variables are read as types
-- of one closed book.
pub record Allows (s : Scheme) (types : Types) (f : Predicate) : Type 0 where
  pub book : List Node
  pub closed : IsClosedBook book
  pub reading : ℕ → Predicate
  pub held : (x : ℕ) → IsTypeOf book (reading x)
  pub root : Implies (passes_by reading s.book s.root) f
  pub env : (x : ℕ) → Implies (types x) (binder_passes (passes_by reading s.book) (finmap.get s.env x))

-- What the rule of a form asks of the types, where the binders have the types `types`: each part is given by which
-- types it has. So the same records speak of expressions and of what stands for them.

-- a binder has each type above its own
pub record OfBound (x : ℕ) (types : Types) (f : Predicate) : Type 0 where
  pub between : Predicate
  pub is : IsType between
  pub above : Implies (types x) between
  pub below : Implies between f

-- a function: its body has the codomain, where the binder has the domain
pub record OfFun (x : ℕ) (Body : Judgement) (types : Types) (f : Predicate) : Type 0 where
  pub domain : Predicate
  pub codomain : Predicate
  pub domain_is : IsType domain
  pub codomain_is : IsType codomain
  pub body : Body (with_binder types x domain) codomain
  pub below : Implies (arrow domain codomain) f

-- an application: the function goes from the type of the argument
pub record OfApply (Function Argument : Judgement) (types : Types) (f : Predicate) : Type 0 where
  pub domain : Predicate
  pub codomain : Predicate
  pub domain_is : IsType domain
  pub codomain_is : IsType codomain
  pub function : Function types (arrow domain codomain)
  pub argument : Argument types domain
  pub below : Implies codomain f

-- the fields of a record with one label
abbrev pub one_field : List ℕ → Predicate → List ℕ → Option Predicate
one_field label f other = cond (bytes_eq label other) (Some f) None

-- a projection: the record has the field
pub record OfProject (label : List ℕ) (Body : Judgement) (types : Types) (f : Predicate) : Type 0 where
  pub field : Predicate
  pub field_is : IsType field
  pub body : Body types (rcd (one_field label field))
  pub below : Implies field f

-- a conditional: both branches have the type
pub record OfChoice (Condition First Second : Judgement) (types : Types) (f : Predicate) : Type 0 where
  pub branch : Predicate
  pub branch_is : IsType branch
  pub condition : Condition types bool
  pub first : First types branch
  pub second : Second types branch
  pub below : Implies branch f

-- a recursion: its body has the type, where the binder has it
pub record OfFix (x : ℕ) (Body : Judgement) (types : Types) (f : Predicate) : Type 0 where
  pub body_type : Predicate
  pub is : IsType body_type
  pub body : Body (with_binder types x body_type) body_type
  pub below : Implies body_type f

-- a let: its first part has a type at all, and its second part has the type
pub record OfLet (First Second : Judgement) (types : Types) (f : Predicate) : Type 0 where
  pub first : First types top
  pub second : Second types f

-- each part of a record has the type of its label
abbrev pub AllOf : (TermTree → Judgement) → TermFields → Types → (List ℕ → Option Predicate) → Type 0
AllOf Part no_field types fields = Unit {0}
AllOf Part (a_field label e rest) types fields =
    ((f : Predicate) × (fields label ≡ Some f) × Part e types f) × AllOf Part rest types fields

-- the same where what stands for the parts is a list, in the order of the text
abbrev pub EachHas : {X : Type 0} → (X → Judgement) → TermFields → List X → Types → (List ℕ → Option Predicate) → Type 0
EachHas Has no_field [] types fields = Unit {0}
EachHas Has (a_field label e rest) (x ∷ xs) types fields =
    ((f : Predicate) × (fields label ≡ Some f) × Has x types f) × EachHas Has rest xs types fields
EachHas Has _ _ types fields = ⊥

-- which fields something has, by what binders have
abbrev pub FieldsJudgement : Type 1
FieldsJudgement = Types → (List ℕ → Option Predicate) → Type 0

-- a record: its fields are those of a record type, and have the labels of the parts
pub record OfMake (parts : TermFields) (Each : FieldsJudgement) (types : Types) (f : Predicate) : Type 0 where
  pub book : List Node
  pub closed : IsClosedBook book
  pub fields : List Field
  pub rising : AreRising fields
  pub within : All (λ field. field.node.0 < length book) fields
  pub labels : HaveLabels parts fields
  pub each : Each types (field_values (passes book) fields)
  pub below : Implies (rcd (field_values (passes book) fields)) f
