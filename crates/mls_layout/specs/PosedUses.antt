-- What the uses of names and the lets of a part ask of their nodes.
use Rattle.std.specs.Prelude.{◌≡◌, ℕ, ◌+◌, ◌<◌, List, length, Contains, slice_get, Option, Some}
use Rattle.std.specs.FinMap as env
use Rattle.mls_book.specs.Schemes.{Env, Scheme}
use Rattle.mls_automaton.specs.declared.automaton.Polarity.TheVariants.{Negative}
use Rattle.mls_automaton.specs.Automata.{Automaton}
use Rattle.mls_term.specs.declared.term.TermForm.{TermForm}
use Rattle.mls_term.specs.declared.term.TermForm.TheVariants as form
use Rattle.mls_term.specs.Derivations.{IsMeet}
use Rattle.mls_deriv.specs.declared.derivation.BinderNode.{BinderNode}
use Rattle.mls_deriv.specs.Steps.{HasFrom, env_of, form_at, Before}
use Rattle.mls_layout.specs.Uses.{IsCopyOf, AreFree}
use Rattle.mls_layout.specs.Rows.{Fits}
use Rattle.mls_layout.specs.Lets.{FirstPart}
use Rattle.mls_layout.specs.Scopes.{entries}

-- `IsPlace i` are the places of the type that is known of the name at node i, or of the first part of the let there,
-- and `IsFree i` the nodes that a let leaves as they are.
module _ (b : Before) (a : Automaton) (place : ℕ → ℕ) (firsts : List FirstPart) (root binder : ℕ → ℕ)
    (IsPlace IsFree : ℕ → ℕ → Type 0) where
  abbrev pub IsCopy : ℕ → ℕ → Type 0
  IsCopy i top = IsCopyOf b.book a place (IsPlace i) top

  -- the binders of this environment are those around, at negative places whose copies are the states of the binders
  abbrev pub AreBound : List ℕ → (i top : ℕ) → IsCopy i top → Env → Type 0
  AreBound scope i top copied d = (x n : ℕ) → env.get d x ≡ Some n → Contains scope x
      × (s : ℕ) × (n ≡ copied.known_place s) × IsPlace i s × (copied.sign s ≡ Negative) × (copied.copy s ≡ binder x)

  -- a name of the environment: the nodes of its scheme stand in the book
  pub record IsGlobalUse (i g : ℕ) : Type 0 where
    pub top : ℕ
    pub copied : IsCopy i top
    pub is_root : copied.copy top ≡ root i
    pub from : ℕ
    pub scheme : Scheme
    pub known : slice_get b.globals g ≡ Some scheme
    pub stands : HasFrom b.book from scheme.book
    pub type : copied.known_place top ≡ from + scheme.root
    pub inside : copied.known_place top < length b.book

  -- a name that a let binds: the type is that of the let's first part
  pub record IsInnerUse (scope : List ℕ) (i k : ℕ) : Type 0 where
    pub first : FirstPart
    pub known : Contains firsts first
    pub number : first.number ≡ k
    pub top : ℕ
    pub copied : IsCopy i top
    pub is_root : copied.copy top ≡ root i
    pub type : first.type ≡ copied.known_place top
    pub binders : List BinderNode
    pub env : first.env ≡ env_of binders
    pub fits : Fits b binders first.type
    pub bound : AreBound scope i top copied first.env

  -- A let, of which node j is the first part: its step has the meets of the binders of both parts.
  pub record IsLetUse (scope : List ℕ) (i k j : ℕ) : Type 0 where
    pub first : FirstPart
    pub known : Contains firsts first
    pub number : first.number ≡ k
    pub part : first.part ≡ j
    pub top : ℕ
    pub copied : IsCopy i top
    pub both : List BinderNode
    pub meet : IsMeet b.book first.env (env_of (entries (λ x. place (binder x)) scope)) (env_of both)
    pub fits : Fits b both (place (root i))
    pub free : AreFree b.book copied.puts (IsFree i)
    pub free_root : IsFree i (place (root i))
    pub free_binder : (x : ℕ) → Contains scope x → IsFree i (place (binder x))
    pub bound : AreBound scope i top copied first.env

  -- by the form of the node
  abbrev pub IsUseOf : List ℕ → ℕ → Option TermForm → Type 0
  IsUseOf scope i (Some (form.Inner k)) = IsInnerUse scope i k
  IsUseOf scope i (Some (form.Global g)) = IsGlobalUse i g
  IsUseOf scope i (Some (form.Let k j l)) = IsLetUse scope i k j
  IsUseOf scope i _ = ⊥

  abbrev pub IsUse : List ℕ → ℕ → Type 0
  IsUse scope i = IsUseOf scope i (form_at b.term_nodes i)
