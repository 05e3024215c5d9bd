-- What is known of the names of a part before it is posed, and where first parts stand.
use Rattle.std.specs.Prelude.{◌≡◌, ◌≢◌, ℕ, ◌<◌, ◌≤◌, List, [], map, Contains, Option, Some, None}
use Rattle.std.specs.BTreeMap.{BTreeMap}
use Rattle.std.specs.List.{AllPairs}
use Rattle.mls_automaton.specs.declared.scheme.EnvEntry.{EnvEntry}
use Rattle.mls_automaton.specs.declared.scheme.Scheme.{Scheme}
use Rattle.mls_term.specs.declared.term.Part.{Part}
use Rattle.mls_term.specs.declared.term.TermForm.{TermForm}
use Rattle.mls_term.specs.declared.term.TermForm.TheVariants as form
use Rattle.mls_term.specs.declared.term.TermNode.{TermNode}
use Rattle.mls_deriv.specs.Steps.{form_at}
use Rattle.mls_parts.specs.PosedParts.{HasKnownType, IsKnownType}
use Rattle.mls_parts.specs.Posings.{known_in}

abbrev pub binders_in : List EnvEntry → List ℕ
binders_in env = map (λ (entry : EnvEntry). entry.binder) env

-- a type is known, and may be copied wherever its binders are
abbrev pub HasOwnType : Option Scheme → Type 0
HasOwnType None = ⊥
HasOwnType (Some s) = IsKnownType (binders_in s.env) s

-- what a node needs to be known: a type of its name, or of the first part of its let
module _ (globals lets : BTreeMap ℕ Scheme) where
  abbrev pub KnowsType : TermForm → Type 0
  KnowsType (form.Inner k) = HasOwnType (known_in lets k)
  KnowsType (form.Global g) = HasKnownType [] (known_in globals g)
  KnowsType (form.Let k j l) = HasOwnType (known_in lets k)
  KnowsType _ = Unit {0}

  abbrev pub KnowTypes : List TermNode → List ℕ → Type 0
  KnowTypes nodes part = (i : ℕ) (f : TermForm) → Contains part i → form_at nodes i ≡ Some f → KnowsType f

-- no record has a label twice
abbrev pub HaveOwnLabels : List TermNode → Type 0
HaveOwnLabels nodes = (i : ℕ) (parts : List Part) → form_at nodes i ≡ Some (form.Make parts)
    → AllPairs (λ x y. x ≢ y) (map (λ (part : Part). part.label) parts)

-- The let of this number stands in the term, and the node lies in its second part, behind all nodes of the first.
pub record IsBehindFirst (nodes : List TermNode) (k u : ℕ) : Type 0 where
  pub node : ℕ
  pub first : ℕ
  pub second : ℕ
  pub is : form_at nodes node ≡ Some (form.Let k first second)
  pub behind : first < u
  pub within : u ≤ second

-- so are all uses of the names of lets
abbrev pub AreBehindFirsts : List TermNode → Type 0
AreBehindFirsts nodes = (u k : ℕ) → form_at nodes u ≡ Some (form.Inner k) → IsBehindFirst nodes k u
