-- The forms of nodes: their parts, and their constraints over schemes of these.
use Rattle.std.specs.Prelude.{◌≡◌, ◌≢◌, ℕ, List, [], ◌∷◌, map}
use Rattle.std.specs.List.{AllPairs}
use Rattle.mls_automaton.specs.declared.scheme.Scheme.{Scheme}
use Rattle.mls_term.specs.declared.term.TermForm.{TermForm}
use Rattle.mls_term.specs.declared.term.TermForm.TheVariants as form
use Rattle.mls_infer.specs.Constraints.{Constraint, AreStatesOf, HasOneState, IsApplied, int_head, bool_head}
use Rattle.mls_infer.specs.Constraints.{bound_constraint, choice_constraint, fix_constraint, fun_constraint, let_constraint}
use Rattle.mls_infer.specs.Constraints.{literal_constraint, project_constraint}
use Rattle.mls_infer.specs.Finished.{child_of}
use Rattle.mls_infer.specs.Joining.{part_labels}
use Rattle.mls_infer.specs.Posed.{IsMadeOf}

-- the roots of the parts of a node, in the order of the text
abbrev pub children : TermForm → List ℕ
children (form.Fun x e) = e ∷ []
children (form.Apply f a) = f ∷ a ∷ []
children (form.Make parts) = map child_of parts
children (form.Project e label) = e ∷ []
children (form.If c e f) = c ∷ e ∷ f ∷ []
children (form.Let k e f) = e ∷ f ∷ []
children (form.Rec x e) = e ∷ []
children _ = []

-- the node is no known name, and as a record it has no label twice
abbrev pub IsBuilt : TermForm → Type 0
IsBuilt (form.Inner k) = ⊥
IsBuilt (form.Global g) = ⊥
IsBuilt (form.Make parts) = AllPairs (λ x y. x ≢ y) (part_labels parts)
IsBuilt _ = Unit {0}

-- the constraint of a node, over the schemes of its parts; a known name has none
abbrev pub IsPosed : TermForm → List Scheme → Constraint → Type 0
IsPosed (form.Bound x) [] c = c ≡ bound_constraint x
IsPosed (form.Number value) [] c = c ≡ literal_constraint int_head
IsPosed (form.Truth value) [] c = c ≡ literal_constraint bool_head
IsPosed (form.Fun x e) (s ∷ []) c = (domain : List ℕ) × AreStatesOf x s domain × (c ≡ fun_constraint domain x s)
IsPosed (form.Apply f a) (s ∷ t ∷ []) c = IsApplied s t c
IsPosed (form.Make parts) ss c = IsMadeOf (part_labels parts) ss c
IsPosed (form.Project e label) (s ∷ []) c = c ≡ project_constraint label s
IsPosed (form.If c e f) (r ∷ s ∷ t ∷ []) d = d ≡ choice_constraint r s t
IsPosed (form.Let k e f) (s ∷ t ∷ []) c = c ≡ let_constraint s t
IsPosed (form.Rec x e) (s ∷ []) c = HasOneState x s × (c ≡ fix_constraint x s)
IsPosed _ ss c = ⊥
