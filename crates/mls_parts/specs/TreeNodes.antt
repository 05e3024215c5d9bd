-- Nodes that are those of one tree: which nodes a node names, and that each is named once.
use Rattle.std.specs.Prelude.{◌≡◌, ℕ, suc, ◌<◌, List, [], ◌∷◌, length, map, Contains, Some}
use Rattle.mls_term.specs.declared.term.Part.{Part}
use Rattle.mls_term.specs.declared.term.TermForm.{TermForm}
use Rattle.mls_term.specs.declared.term.TermForm.TheVariants as form
use Rattle.mls_term.specs.declared.term.TermNode.{TermNode}
use Rattle.mls_deriv.specs.Steps.{form_at}

-- the nodes that a node of this form names, in the order of the text
abbrev pub children_of : TermForm → List ℕ
children_of (form.Fun x j) = j ∷ []
children_of (form.Apply j k) = j ∷ k ∷ []
children_of (form.Make parts) = map (λ (part : Part). part.child) parts
children_of (form.Project j label) = j ∷ []
children_of (form.If j k l) = j ∷ k ∷ l ∷ []
children_of (form.Let k j l) = j ∷ l ∷ []
children_of (form.Rec x j) = j ∷ []
children_of _ = []

-- Each node but the last is a child of just one node, which stands behind it, and the first part of a let stands before
-- the second.
pub record AreTreeNodes (nodes : List TermNode) : Type 0 where
  pub below : (i j : ℕ) (f : TermForm) → form_at nodes i ≡ Some f → Contains (children_of f) j → j < i
  pub parent : (j : ℕ) → suc j < length nodes
      → (i : ℕ) × (f : TermForm) × (form_at nodes i ≡ Some f) × Contains (children_of f) j
  pub one : (i k j : ℕ) (f g : TermForm) → form_at nodes i ≡ Some f → form_at nodes k ≡ Some g
      → Contains (children_of f) j → Contains (children_of g) j → i ≡ k
  pub apart : (i k j l : ℕ) → form_at nodes i ≡ Some (form.Let k j l) → j < l
