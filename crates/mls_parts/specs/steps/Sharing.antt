-- Uses of names that share a copy of the type of their name, since it has no edges.
use Rattle.std.specs.Prelude.{◌≡◌, ◌⊎◌, ℕ, List, [], Contains, Option, Some, None}
use Rattle.std.specs.BTreeMap.{BTreeMap, get}
use Rattle.std.specs.Ordering.{nat_cmp}
use Rattle.mls_automaton.specs.declared.scheme.Scheme.{Scheme}
use Rattle.mls_term.specs.declared.term.TermForm.{TermForm}
use Rattle.mls_term.specs.declared.term.TermForm.TheVariants as form
use Rattle.mls_term.specs.declared.term.TermNode.{TermNode}
use Rattle.mls_deriv.specs.Steps.{form_at}
use Rattle.mls_parts.specs.declared.pose.Posing.{Posing}
use Rattle.mls_parts.specs.declared.shared.Shared.{Shared}
use Rattle.mls_parts.specs.Posings.{Added, Adds, AddsNode, NoEdge, copy_in, known_in, root_in}

-- the type is known, and has no edges
abbrev pub IsWithoutEdges : Option Scheme → Type 0
IsWithoutEdges None = ⊥
IsWithoutEdges (Some s) = s.automaton.flows ≡ []

-- the name has such a type
module _ (globals lets : BTreeMap ℕ Scheme) where
  abbrev pub HasNoEdges : TermForm → Type 0
  HasNoEdges (form.Inner k) = IsWithoutEdges (known_in lets k)
  HasNoEdges (form.Global g) = IsWithoutEdges (known_in globals g)
  HasNoEdges _ = ⊥

-- the node that is noted for a name
abbrev pub first_use : Shared → TermForm → Option ℕ
first_use uses (form.Inner k) = get nat_cmp uses.lets k
first_use uses (form.Global g) = get nat_cmp uses.globals g
first_use uses _ = None

-- the same nodes are noted
pub record AreSameUses (before after : Shared) : Type 0 where
  pub globals : after.globals ≡ before.globals
  pub lets : after.lets ≡ before.lets

-- what is noted of names was noted before, or it is this node, and the name has no edges
abbrev pub MayNoteUse : BTreeMap ℕ Scheme → (before after : BTreeMap ℕ ℕ) → (name node : ℕ) → Type 0
MayNoteUse types before after name node = (k j : ℕ) → get nat_cmp after k ≡ Some j
    → (get nat_cmp before k ≡ Some j) ⊎ ((k ≡ name) × (j ≡ node) × IsWithoutEdges (known_in types name))

abbrev pub MayNote : (globals lets : BTreeMap ℕ Scheme) → (before after : Shared) → ℕ → TermForm → Type 0
MayNote globals lets before after node f = (g : TermForm) (j : ℕ) → first_use after g ≡ Some j
    → (first_use before g ≡ Some j) ⊎ ((g ≡ f) × (j ≡ node) × HasNoEdges globals lets f)

-- a use that shares the copy of another one adds its own root alone, and notes that copy
abbrev pub shared_added : (root copy : ℕ) → Added
shared_added root copy =
    record { states = []; goals = []; needs = []; root = root; copy = Some copy; result = None }

-- The node is posed: with the root and the copy of the first use of its name, or as its form says.
pub record PosesNext (globals lets : BTreeMap ℕ Scheme) (before after : Shared) (p q : Posing) (i : ℕ) (f : TermForm) :
    Type 0 where
  pub adds : ((j : ℕ) × (first_use before f ≡ Some j)
      × Adds p q i (shared_added (root_in p j) (copy_in p j)) NoEdge)
      ⊎ AddsNode (known_in globals) (known_in lets) p q i f
  pub notes : MayNote globals lets before after i f

-- each node that is noted is done, has a name of this form, and the name has no edges
abbrev pub AreShared : List TermNode → (globals lets : BTreeMap ℕ Scheme) → (done : List ℕ) → Shared → Type 0
AreShared nodes globals lets done uses = (f : TermForm) (j : ℕ) → first_use uses f ≡ Some j
    → Contains done j × (form_at nodes j ≡ Some f) × HasNoEdges globals lets f
