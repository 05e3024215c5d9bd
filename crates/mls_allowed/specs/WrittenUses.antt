-- What the uses of names and the lets of a part ask of their nodes, where their lines are written.
use Rattle.std.specs.Prelude.{◌≡◌, ℕ, ◌+◌, ◌<◌, List, length, Contains, slice_get, Option, Some}
use Rattle.std.specs.FinMap as env
use Rattle.mls_book.specs.Schemes.{Env, Scheme}
use Rattle.mls_automaton.specs.declared.automaton.Polarity.TheVariants.{Negative}
use Rattle.mls_automaton.specs.Automata.{Automaton}
use Rattle.mls_term.specs.declared.term.TermForm.{TermForm}
use Rattle.mls_term.specs.declared.term.TermForm.TheVariants as form
use Rattle.mls_deriv.specs.Steps.{HasFrom, env_of, form_at, Before}
use Rattle.mls_lines.specs.Conclusions.{AreClear}
use Rattle.mls_layout.specs.Rows.{Fits}
use Rattle.mls_layout.specs.Uses.{IsCopyOf}
use Rattle.mls_lines.specs.NodeLines.{Standing, NamesKnown}

-- `IsPlace i` are the places of the type that is known of the name at node i, or of the first part of the let there,
-- and `Own` the nodes of the part. The first parts of these lets are known.
module _ (b : Before) (a : Automaton) (at : Standing) (names : NamesKnown) (lets : List ℕ) (IsPlace : ℕ → ℕ → Type 0)
    (Own : ℕ → Type 0) where
  abbrev pub IsCopyAt : ℕ → ℕ → Type 0
  IsCopyAt i top = IsCopyOf b.book a at.place (IsPlace i) top

  -- the binders of this environment are those around, at negative places whose copies are the states of the binders
  abbrev pub AreBoundAt : List ℕ → (i top : ℕ) → IsCopyAt i top → Env → Type 0
  AreBoundAt scope i top copied d = (x n : ℕ) → env.get d x ≡ Some n → Contains scope x
      × (s : ℕ) × (n ≡ copied.known_place s) × IsPlace i s × (copied.sign s ≡ Negative) × (copied.copy s ≡ at.binder x)

  -- a name of the environment: the nodes of its scheme stand in the book
  pub record IsGlobalRead (i g : ℕ) : Type 0 where
    pub top : ℕ
    pub copied : IsCopyAt i top
    pub is_root : copied.copy top ≡ at.root i
    pub scheme : Scheme
    pub known : slice_get b.globals g ≡ Some scheme
    pub stands : HasFrom b.book (names.from g) scheme.book
    pub type : names.type g ≡ names.from g + scheme.root
    pub at_top : names.type g ≡ copied.known_place top
    pub inside : names.type g < length b.book
    pub puts : names.puts i ≡ copied.puts

  -- a name that a let binds: the type is that of the let's first part
  pub record IsInnerRead (scope : List ℕ) (i k : ℕ) : Type 0 where
    pub known : Contains lets k
    pub top : ℕ
    pub copied : IsCopyAt i top
    pub is_root : copied.copy top ≡ at.root i
    pub at_top : (names.first k).type ≡ copied.known_place top
    pub env : (names.first k).env ≡ env_of (names.binders k)
    pub fits : Fits b (names.binders k) (names.first k).type
    pub bound : AreBoundAt scope i top copied (names.first k).env
    pub puts : names.puts i ≡ copied.puts

  -- A let, of which node j is the first part: no own node shows a variable of its type.
  pub record IsLetRead (scope : List ℕ) (i k j : ℕ) : Type 0 where
    pub known : Contains lets k
    pub part : (names.first k).part ≡ j
    pub top : ℕ
    pub copied : IsCopyAt i top
    pub bound : AreBoundAt scope i top copied (names.first k).env
    pub low : (x n : ℕ) → env.get (names.first k).env x ≡ Some n → n < length b.book
    pub clear : AreClear b.book Own copied.puts
    pub puts : names.puts i ≡ copied.puts

  -- by the form of the node
  abbrev pub IsReadAs : List ℕ → ℕ → Option TermForm → Type 0
  IsReadAs scope i (Some (form.Inner k)) = IsInnerRead scope i k
  IsReadAs scope i (Some (form.Global g)) = IsGlobalRead i g
  IsReadAs scope i (Some (form.Let k j l)) = IsLetRead scope i k j
  IsReadAs scope i _ = ⊥

  abbrev pub IsUseRead : List ℕ → ℕ → Type 0
  IsUseRead scope i = IsReadAs scope i (form_at b.term_nodes i)
