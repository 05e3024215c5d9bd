-- The lines that are written for the nodes of a part, one node after the other.
use Rattle.std.specs.Prelude.{◌≡◌, ◌⊎◌, ℕ, List, [], ◌∷◌, ◌++◌, Contains, Some}
use Rattle.mls_term.specs.declared.term.Part.{Part}
use Rattle.mls_term.specs.declared.term.TermForm.{TermForm}
use Rattle.mls_term.specs.declared.term.TermNode.{TermNode}
use Rattle.mls_term.specs.declared.term.TermForm.TheVariants as form
use Rattle.mls_deriv.specs.declared.derivation.StepLine.{StepLine}
use Rattle.mls_deriv.specs.Steps.{form_at, Before}
use Rattle.mls_lines.specs.Conclusions.{Concluded}
use Rattle.mls_layout.specs.Parts.{Constraint}
use Rattle.mls_layout.specs.Plans.{PlannedLine, planned_steps}
use Rattle.mls_lines.specs.NodeLines.{Standing, NamesKnown, IsWrittenAs}

-- the steps of one node and its lines stand before those of another
abbrev pub IsBefore : (steps : ℕ → List StepLine) → (plan : ℕ → List PlannedLine) → ℕ → ℕ → Type 0
IsBefore steps plan j i = (more : List StepLine) × (steps i ≡ (steps j ++ planned_steps (plan j)) ++ more)

-- the parts of an expression, but for the first part of a let
abbrev pub AreWrittenBefore : (IsNode : ℕ → Type 0) → (Stands : ℕ → ℕ → Type 0) → TermForm → ℕ → Type 0
AreWrittenBefore IsNode Stands (form.Fun x j) i = IsNode j × Stands j i
AreWrittenBefore IsNode Stands (form.Apply j k) i = IsNode j × Stands j i × IsNode k × Stands k i
AreWrittenBefore IsNode Stands (form.Make parts) i =
    (part : Part) → Contains parts part → IsNode part.child × Stands part.child i
AreWrittenBefore IsNode Stands (form.Project j label) i = IsNode j × Stands j i
AreWrittenBefore IsNode Stands (form.If j k l) i =
    IsNode j × Stands j i × IsNode k × Stands k i × IsNode l × Stands l i
AreWrittenBefore IsNode Stands (form.Let k j l) i = IsNode l × Stands l i
AreWrittenBefore IsNode Stands (form.Rec x j) i = IsNode j × Stands j i
AreWrittenBefore IsNode Stands _ i = Unit {0}

-- node j is a part of an expression of this form, but not the first part of a let
abbrev pub IsPartOf : TermForm → ℕ → Type 0
IsPartOf (form.Fun x j) m = j ≡ m
IsPartOf (form.Apply j k) m = (j ≡ m) ⊎ (k ≡ m)
IsPartOf (form.Make parts) m = (part : Part) × Contains parts part × (part.child ≡ m)
IsPartOf (form.Project j label) m = j ≡ m
IsPartOf (form.If j k l) m = (j ≡ m) ⊎ ((k ≡ m) ⊎ (l ≡ m))
IsPartOf (form.Let k j l) m = l ≡ m
IsPartOf (form.Rec x j) m = j ≡ m
IsPartOf _ m = ⊥

-- the node is in the expression at node i, and in no first part of a let there
pub data IsNodeOf (nodes : List TermNode) : ℕ → ℕ → Type 0 where
  itself : {i : ℕ} → IsNodeOf nodes i i
  within : {i m : ℕ} (j : ℕ) (f : TermForm) → form_at nodes i ≡ Some f → IsPartOf f j → IsNodeOf nodes j m
      → IsNodeOf nodes i m

-- the nodes in order, each behind the lines of the one before
abbrev pub AreInOrder : (ℕ → List StepLine) → (ℕ → List PlannedLine) → List StepLine → List ℕ → Type 0
AreInOrder steps plan begun [] = Unit {0}
AreInOrder steps plan begun (i ∷ rest) =
    (steps i ≡ begun) × AreInOrder steps plan (begun ++ planned_steps (plan i)) rest

-- The lines of the nodes of a part, behind the steps with which the part begins: each node is written behind its parts.
pub record IsWriting (b : Before) (c : Constraint) (at : Standing) (names : NamesKnown) (begun : List StepLine)
    (members : List ℕ) : Type 0 where
  pub steps : ℕ → List StepLine
  pub plan : ℕ → List PlannedLine
  pub of : ℕ → Concluded
  pub in_order : AreInOrder steps plan begun members
  pub begins : (i : ℕ) → Contains members i → (more : List StepLine) × (steps i ≡ begun ++ more)
  pub forms : (i : ℕ) (f : TermForm) → Contains members i → form_at b.term_nodes i ≡ Some f
      → IsWrittenAs b.book c at names of f i (steps i) (plan i) (of i)
  pub before : (i : ℕ) (f : TermForm) → Contains members i → form_at b.term_nodes i ≡ Some f
      → AreWrittenBefore (Contains members) (IsBefore steps plan) f i
