-- The root of the part of each node, given from parents to children, and the parts that are gathered by it.
use Rattle.std.specs.Prelude.{◌≡◌, ◌⊎◌, ℕ, suc, ◌+◌, ◌<◌, ◌≤◌, Bool, true, false, cond, List, [], ◌∷◌, ◌++◌}
use Rattle.std.specs.Prelude.{length, get_or, map, Contains, option_map, Option, Some, None}
use Rattle.std.specs.Ordering.{nat_cmp, is_eq}
use Rattle.mls_automaton.specs.Sets.{Rises}
use Rattle.mls_term.specs.declared.term.Part.{Part}
use Rattle.mls_term.specs.declared.term.TermForm.{TermForm}
use Rattle.mls_term.specs.declared.term.TermForm.TheVariants as form
use Rattle.mls_term.specs.declared.term.TermNode.{TermNode}
use Rattle.mls_deriv.specs.Steps.{form_at}
use Rattle.mls_parts.specs.declared.split.TermPart.{TermPart}
use Rattle.mls_parts.specs.NodeTypes.{IsNodeOf, IsOwnPart}
use Rattle.mls_parts.specs.TermParts.{IsFirstPart, IsPartRoot}
use Rattle.mls_parts.specs.TreeNodes.{children_of}

-- Some nodes get the root of a part, of which `IsGiven` says which they are and which root, and the others keep theirs.
pub record Gives (IsGiven : ℕ → ℕ → Type 0) (old new : List ℕ) : Type 0 where
  pub same_length : length new ≡ length old
  pub each : (j : ℕ) → (get_or new j 0 ≡ get_or old j 0) ⊎ IsGiven j (get_or new j 0)
  pub given : (j r : ℕ) → j < length old → IsGiven j r → IsGiven j (get_or new j 0)

-- one node gets this root
abbrev pub IsOne : (node root : ℕ) → ℕ → ℕ → Type 0
IsOne node root j r = (j ≡ node) × (r ≡ root)

-- the parts of a record get it
abbrev pub IsPart : List Part → (root : ℕ) → ℕ → ℕ → Type 0
IsPart parts root j r = Contains (map (λ (part : Part). part.child) parts) j × (r ≡ root)

-- the parts of a node get its root, and the first part of a let is one of its own
abbrev pub IsChildOf : TermForm → (root : ℕ) → ℕ → ℕ → Type 0
IsChildOf f root j r = (IsOwnPart f j × (r ≡ root)) ⊎ (IsFirstPart f j × (r ≡ j))

-- node j belongs to the part with this root
pub record IsOwner (nodes : List TermNode) (r j : ℕ) : Type 0 where
  pub root : IsPartRoot nodes r
  pub node : IsNodeOf nodes r j

-- the node is the last, or its parent is one of so many last nodes
abbrev pub IsSettled : List TermNode → (back : ℕ) → ℕ → Type 0
IsSettled nodes back j = (suc j ≡ length nodes)
    ⊎ ((i : ℕ) × (f : TermForm) × (length nodes ≤ i + back) × (form_at nodes i ≡ Some f) × Contains (children_of f) j)

-- the nodes that are settled have their owners
pub record AreSettled (nodes : List TermNode) (back : ℕ) (owners : List ℕ) : Type 0 where
  pub same_length : length owners ≡ length nodes
  pub each : (j : ℕ) → IsSettled nodes back j → IsOwner nodes (get_or owners j 0) j

pub record AreOwners (nodes : List TermNode) (owners : List ℕ) : Type 0 where
  pub same_length : length owners ≡ length nodes
  pub each : (j : ℕ) → j < length nodes → IsOwner nodes (get_or owners j 0) j

-- the part with one node more
abbrev pub with_node : Bool → ℕ → Option TermPart → Option TermPart
with_node false node part = part
with_node true node None = Some (record { of_let = None; nodes = node ∷ [] })
with_node true node (Some part) = Some (record { of_let = part.of_let; nodes = part.nodes ++ node ∷ [] })

-- Those of the first `count` nodes that this root owns, in order; there is one at least.
pub record IsPiece (owners : List ℕ) (count r : ℕ) (part : TermPart) : Type 0 where
  pub no_let : part.of_let ≡ None
  pub first : ℕ
  pub there : Contains part.nodes first
  pub rises : Rises part.nodes
  pub all : (j : ℕ) → j < count → get_or owners j 0 ≡ r → Contains part.nodes j
  pub only : (j : ℕ) → Contains part.nodes j → (j < count) × (get_or owners j 0 ≡ r)

abbrev pub IsSplitAt : List ℕ → (count r : ℕ) → Option TermPart → Type 0
IsSplitAt owners count r None = (j : ℕ) → j < count → get_or owners j 0 ≡ r → ⊥
IsSplitAt owners count r (Some part) = IsPiece owners count r part

abbrev pub IsSplit : List ℕ → (count : ℕ) → (ℕ → Option TermPart) → Type 0
IsSplit owners count part_at = (r : ℕ) → IsSplitAt owners count r (part_at r)

-- the part with the number of its let
abbrev pub with_let : ℕ → TermPart → TermPart
with_let k part = record { of_let = Some k; nodes = part.nodes }

abbrev pub with_form : TermForm → (r : ℕ) → Option TermPart → Option TermPart
with_form (form.Let k j l) r part = cond (is_eq (nat_cmp j r)) (option_map (with_let k) part) part
with_form f r part = part

-- The part with the number of a let of which it is the first part, if that is one of the first `count` nodes.
pub record IsCalled (nodes : List TermNode) (count r : ℕ) (old new : TermPart) : Type 0 where
  pub same_nodes : new.nodes ≡ old.nodes
  pub of_let : (k : ℕ) → new.of_let ≡ Some k → (i l : ℕ) × (form_at nodes i ≡ Some (form.Let k r l))
  pub of_none : new.of_let ≡ None → (i k l : ℕ) → i < count → form_at nodes i ≡ Some (form.Let k r l) → ⊥

abbrev pub IsNamedAt : List TermNode → (count r : ℕ) → Option TermPart → Option TermPart → Type 0
IsNamedAt nodes count r None new = new ≡ None
IsNamedAt nodes count r (Some old) None = ⊥
IsNamedAt nodes count r (Some old) (Some new) = IsCalled nodes count r old new

abbrev pub IsNamed : List TermNode → (count : ℕ) → (old new : ℕ → Option TermPart) → Type 0
IsNamed nodes count old new = (r : ℕ) → IsNamedAt nodes count r (old r) (new r)
