-- While the nodes of a tree are read, the parts that wait have small numbers.
use Rattle.std.proofs.Common.{◌≡◌, ℕ, suc, ◌<◌, ◌≤◌, List, [], ◌∷◌, length, refl, sym, subst, arith, All}
use Rattle.std.proofs.lemmas.List.Elements.{All-head, All-tail}
use Rattle.mls_names.specs.declared.counts.Count.{Count}
use Rattle.mls_grammar.specs.declared.module.ExprNode.{ExprNode}
use Rattle.mls_grammar.specs.declared.module.Form.{Form}
use Rattle.mls_grammar.specs.declared.module.Form.TheVariants as form
use Rattle.mls_term.specs.declared.term.Part.{Part}
use Rattle.mls_names.specs.declared.resolver.Stretch.{Stretch}
use Rattle.mls_names.specs.Resolution.{Scope}
use Rattle.mls_names.specs.steps.Walks.{Waiting, Walk, step, walk, fields_waiting, parts_waiting, after, next_numbers, HasPartsBelow, AreWithin}

-- first nodes up to n, and at most k binders and lets around
abbrev pub Bounded : (n k : ℕ) → List Waiting → Type 0
Bounded n k [] = Unit {0}
Bounded n k (part ∷ ws) = (part.stretch.first ≤ n) × (part.stretch.binders ≤ k) × (part.stretch.lets ≤ k) × Bounded n k ws

more : (n k : ℕ) (ws : List Waiting) → Bounded n k ws → Bounded n (suc k) ws
more n k [] h = tt
more n k (part ∷ ws) h = (h.0, omega (arith, h.1), omega (arith, h.2), more n k ws h.3)

pub are_within : (n k : ℕ) (ws : List Waiting) → k ≤ n → Bounded n k ws → AreWithin (suc n) ws
are_within n k [] le h = tt
are_within n k (part ∷ ws) le h = (record { first = omega (arith, h.0); binders = omega (arith, h.1); lets = omega (arith, h.2) }, are_within n k ws le h.3)

fields_bounded : (n k : ℕ) (scope : Scope) (s : Stretch) (parts : List Part) (ws : List Waiting) → All (λ (part : Part). part.child < n) parts
    → s.first ≤ n → s.binders ≤ k → s.lets ≤ k → Bounded n k ws → Bounded n k (fields_waiting scope s parts ws)
fields_bounded n k scope s [] ws h a b c d = d
fields_bounded n k scope s (part ∷ parts) ws h a b c d =
    let first : part.child < n = All-head (λ (part : Part). part.child < n) part parts h in
    fields_bounded n k scope (after s part.child) parts (record { scope = scope; stretch = s } ∷ ws) (All-tail (λ (part : Part). part.child < n) part parts h)
    (omega arith) b c (a, b, c, d)

parts_bounded : (n k : ℕ) (scope : Scope) (s : Stretch) (next : Count) (f : Form) (ws : List Waiting) → HasPartsBelow n f
    → s.first ≤ n → s.binders ≤ k → s.lets ≤ k → Bounded n (suc k) ws → Bounded n (suc k) (parts_waiting scope s next f ws)
parts_bounded n k scope s next (form.Var x) ws h a b c d = d
parts_bounded n k scope s next (form.Operator o) ws h a b c d = d
parts_bounded n k scope s next (form.Number value) ws h a b c d = d
parts_bounded n k scope s next (form.Truth value) ws h a b c d = d
parts_bounded n k scope s next (form.Fun x e) ws h a b c d = (a, omega arith, omega arith, d)
parts_bounded n k scope s next (form.Rec x e) ws h a b c d = (a, omega arith, omega arith, d)
parts_bounded n k scope s next (form.Let x e f) ws h a b c d = (omega (arith, h.0), omega arith, omega arith, (a, omega arith, omega arith, d))
parts_bounded n k scope s next (form.If o e f) ws h a b c d = (omega (arith, h.1), omega arith, omega arith, (omega (arith, h.0), omega arith, omega arith, (a, omega arith, omega arith, d)))
parts_bounded n k scope s next (form.Apply f e) ws h a b c d = (omega (arith, h.0), omega arith, omega arith, (a, omega arith, omega arith, d))
parts_bounded n k scope s next (form.Make parts) ws h a b c d = fields_bounded n (suc k) scope s parts ws h a (omega arith) (omega arith) d
parts_bounded n k scope s next (form.Project e label) ws h a b c d = (a, omega arith, omega arith, d)

module _ (counts : List Count) (n : ℕ) where
  step_bounded : (k : ℕ) (node : ExprNode) (ws : List Waiting) (w : Walk) → HasPartsBelow n node.form → w.waiting ≡ ws → Bounded n k ws → Bounded n (suc k) (step counts node ws w).waiting
  step_bounded k node [] w h is b = subst (Bounded n (suc k)) (sym is) tt
  step_bounded k node (part ∷ ws) w h is b = parts_bounded n k part.scope part.stretch (next_numbers counts part.stretch) node.form ws h b.0 b.1 b.2 (more n k ws b.3)

  pub walk_bounded : (nodes : List ExprNode) (w : Walk) → All (λ (node : ExprNode). HasPartsBelow n node.form) nodes → Bounded n 0 w.waiting → Bounded n (length nodes) (walk counts nodes w).waiting
  walk_bounded [] w h b = b
  walk_bounded (node ∷ nodes) w h b =
      let rest : Walk = walk counts nodes w in
      step_bounded (length nodes) node rest.waiting rest (All-head (λ (node : ExprNode). HasPartsBelow n node.form) node nodes h) refl
      (walk_bounded nodes w (All-tail (λ (node : ExprNode). HasPartsBelow n node.form) node nodes h) b)
