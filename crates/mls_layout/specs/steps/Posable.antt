-- What tests tell of the nodes of a part and of the types of their names.
use Rattle.std.specs.Prelude.{◌≡◌, ◌↔◌, ℕ, ◌<◌, List, length, map, Contains, IsTrue, Some}
use Rattle.std.specs.BTreeSet.{BTreeSet, contains}
use Rattle.std.specs.Ordering.{nat_cmp}
use Rattle.std.specs.declared.cmp.Ordering.{Ordering}
use Rattle.mls_automaton.specs.declared.scheme.EnvEntry.{EnvEntry}
use Rattle.mls_term.specs.declared.term.TermForm.{TermForm}
use Rattle.mls_term.specs.declared.term.TermNode.{TermNode}
use Rattle.mls_deriv.specs.Steps.{form_at}
use Rattle.mls_layout.specs.PosedNodes.{HasPartsIn}

-- the set has just the members of the list
abbrev pub HasJust : {K : Type 0} → (K → K → Ordering) → List K → BTreeSet K → Type 0
HasJust cmp xs set = (k : _) → IsTrue (contains cmp set k) ↔ Contains xs k

-- the number is in the set
pub record Has (set : BTreeSet ℕ) (i : ℕ) : Type 0 where
  pub is : IsTrue (contains nat_cmp set i)

-- the number is not in the set
abbrev pub IsFree : BTreeSet ℕ → ℕ → Type 0
IsFree set i = Has set i → ⊥

-- the node is there and not done yet, and its parts are done
pub record MayFollow (nodes : List TermNode) (done : BTreeSet ℕ) (i : ℕ) : Type 0 where
  pub in_range : i < length nodes
  pub new : Has done i → ⊥
  pub parts : (f : TermForm) → form_at nodes i ≡ Some f → HasPartsIn (Has done) f

-- no two binders have one state, and the set has just their states
pub record AreApart (env : List EnvEntry) (states : BTreeSet ℕ) : Type 0 where
  pub apart : (entry other : EnvEntry) → Contains env entry → Contains env other
      → entry.state.0 ≡ other.state.0 → entry.binder ≡ other.binder
  pub just : HasJust nat_cmp (map (λ (entry : EnvEntry). entry.state.0) env) states
