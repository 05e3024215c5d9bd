-- Where each node of a part is posed, so is the tree.
--     posed_tree
use Rattle.std.proofs.Common.{◌≡◌, ℕ, List, [], ◌∷◌, ◌++◌, Contains, sym, subst, Some}
use Rattle.mls_automaton.specs.declared.automaton.FieldSet.{FieldSet}
use Rattle.mls_automaton.specs.Automata.{Automaton}
use Rattle.mls_automaton.specs.Heads.{set_at}
use Rattle.mls_automaton.proofs.Lists.{Contains-here, Contains-later}
use Rattle.mls_term.specs.declared.term.Part.{Part}
use Rattle.mls_term.specs.declared.term.TermForm.{TermForm}
use Rattle.mls_term.specs.declared.term.TermForm.TheVariants as form
use Rattle.mls_term.specs.declared.term.TermNode.{TermNode}
use Rattle.mls_term.specs.Terms.{TermTree, TermFields, bound, inner, global, number, truth, fun, apply, make, project}
use Rattle.mls_term.specs.Terms.{choice, local, fix, no_field, a_field}
use Rattle.mls_deriv.specs.Steps.{form_at}
use Rattle.mls_deriv.proofs.TermNodes.{IsTreeAt, AreTreesAt}
use Rattle.mls_layout.specs.Posed.{IsPosed, ArePosed}
use Rattle.mls_layout.specs.PosedNodes.{IsNodePosed, HasPartsIn, IsRising, AreRising, IsUsable}

module _ (nodes : List TermNode) (a : Automaton) (IsGoal : ℕ → ℕ → Type 0) (root binder : ℕ → ℕ) (IsUse : ℕ → TermForm → Type 0) (InPart : ℕ → Type 0) (let_scope : ℕ → List ℕ)
    (IsUseIn : List ℕ → ℕ → Type 0) (use_in : (scope : List ℕ) (i : ℕ) (f : TermForm) → InPart i → form_at nodes i ≡ Some f → IsUsable let_scope scope f → IsUse i f → IsUseIn scope i)
    (children : (i : ℕ) (f : TermForm) → InPart i → form_at nodes i ≡ Some f → HasPartsIn InPart f)
    (each : (i : ℕ) (f : TermForm) → InPart i → form_at nodes i ≡ Some f → IsNodePosed a IsGoal root binder IsUse i f) where
  mutual
    pub posed_tree : (scope : List ℕ) (t : TermTree) (i : ℕ) → IsTreeAt nodes i t → InPart i → IsRising let_scope scope t → IsPosed nodes a IsGoal root binder IsUseIn scope i t
    posed_tree scope (bound at x) i is inside rises = (is, rises, each i (form.Bound x) inside is)
    posed_tree scope (inner at k) i is inside rises = (is, use_in scope i (form.Inner k) inside is rises (each i (form.Inner k) inside is))
    posed_tree scope (global at g) i is inside rises = (is, use_in scope i (form.Global g) inside is tt (each i (form.Global g) inside is))
    posed_tree scope (number at value) i is inside rises = let at_node = each i (form.Number value) inside is in (is, at_node.0, at_node.1)
    posed_tree scope (truth at value) i is inside rises = let at_node = each i (form.Truth value) inside is in (is, at_node.0, at_node.1)
    posed_tree scope (fun at x e) i (j, is, body) inside rises =
        let at_node = each i (form.Fun x j) inside is in
        (j, is, rises.0, at_node.0, at_node.1, posed_tree (scope ++ x ∷ []) e j body (children i (form.Fun x j) inside is) rises.1)
    posed_tree scope (apply at e f) i (j, k, is, first, second) inside rises =
        let at_node = each i (form.Apply j k) inside is in
        let parts = children i (form.Apply j k) inside is in
        (j, k, at_node.0, at_node.1, is, at_node.2, at_node.3, at_node.4, posed_tree scope e j first parts.0 rises.0, posed_tree scope f k second parts.1 rises.1)
    posed_tree scope (make at fields) i (parts, is, trees) inside rises =
        let at_node = each i (form.Make parts) inside is in
        (parts, at_node.0, is, at_node.1, at_node.2, at_node.3, posed_trees scope fields parts at_node.0 trees (children i (form.Make parts) inside is) at_node.4 rises)
    posed_tree scope (project at e label) i (j, is, body) inside rises =
        let at_node = each i (form.Project j label) inside is in
        (j, at_node.0, at_node.1, is, at_node.2, at_node.3, at_node.4, posed_tree scope e j body (children i (form.Project j label) inside is) rises)
    posed_tree scope (choice at c e f) i (j, k, l, is, first, second, third) inside rises =
        let at_node = each i (form.If j k l) inside is in
        let parts = children i (form.If j k l) inside is in
        (j, k, l, at_node.0, at_node.1, is, at_node.2, at_node.3, at_node.4, at_node.5, at_node.6, posed_tree scope c j first parts.0 rises.0, posed_tree scope e k second parts.1 rises.1, posed_tree scope f l third parts.2 rises.2)
    posed_tree scope (local at k e f) i (j, l, is, first, second) inside rises =
        let at_node = each i (form.Let k j l) inside is in
        (j, l, is, at_node.0, use_in scope i (form.Let k j l) inside is rises.0 at_node.1, posed_tree scope f l second (children i (form.Let k j l) inside is) rises.1)
    posed_tree scope (fix at x e) i (j, is, body) inside rises =
        let at_node = each i (form.Rec x j) inside is in
        (j, is, rises.0, at_node.0, at_node.1, posed_tree (scope ++ x ∷ []) e j body (children i (form.Rec x j) inside is) rises.1)

    posed_trees : (scope : List ℕ) (fields : TermFields) (parts : List Part) (sets : List FieldSet) → AreTreesAt nodes parts fields → ((part : Part) → Contains parts part → InPart part.child)
        → ((part : Part) → Contains parts part → set_at sets part.label ≡ Some (root part.child ∷ [])) → AreRising let_scope scope fields
        → ArePosed nodes a IsGoal root binder IsUseIn scope sets parts fields
    posed_trees scope no_field parts sets is inside there rises = is
    posed_trees scope (a_field label e rest) parts sets (j, others, is, first, later) inside there rises =
        let here : Contains parts (record { label = label; child = j }) = subst (λ (ps : List Part). Contains ps (record { label = label; child = j })) (sym is) (Contains-here (record { label = label; child = j }) others) in
        let next : (part : Part) → Contains others part → Contains parts part = λ part at. subst (λ (ps : List Part). Contains ps part) (sym is) (Contains-later (record { label = label; child = j }) others part at) in (
          j,
          others,
          is,
          there (record { label = label; child = j }) here,
          posed_tree scope e j first (inside (record { label = label; child = j }) here) rises.0,
          posed_trees scope rest others sets later (λ part at. inside part (next part at)) (λ part at. there part (next part at)) rises.1,
        )
