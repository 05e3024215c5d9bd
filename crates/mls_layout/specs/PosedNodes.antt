-- What a node asks of the states of its part, node by node: the same as for trees, without the scope.
use Rattle.std.specs.Prelude.{◌≡◌, ◌↔◌, ℕ, ◌<◌, true, List, [], ◌∷◌, ◌++◌, map, All, Contains, IsSome, Some}
use Rattle.mls_automaton.specs.declared.automaton.FieldSet.{FieldSet}
use Rattle.mls_automaton.specs.declared.automaton.Polarity.TheVariants.{Positive}
use Rattle.mls_automaton.specs.Automata.{Automaton, polarity_at, head_at, HasFlow}
use Rattle.mls_automaton.specs.Heads.{set_at}
use Rattle.mls_term.specs.declared.term.Part.{Part}
use Rattle.mls_term.specs.declared.term.TermForm.{TermForm}
use Rattle.mls_term.specs.declared.term.TermForm.TheVariants as form
use Rattle.mls_term.specs.Terms.{TermTree, TermFields, bound, inner, global, number, truth, fun, apply, make, project}
use Rattle.mls_term.specs.Terms.{choice, local, fix, no_field, a_field}
use Rattle.mls_layout.specs.Posed.{HasArms}

module _ (a : Automaton) (IsGoal : ℕ → ℕ → Type 0) (root binder : ℕ → ℕ) (IsUse : ℕ → TermForm
    → Type 0) where
  -- by the form of node `i`
  abbrev pub IsNodePosed : ℕ → TermForm → Type 0
  IsNodePosed i (form.Bound x) = HasFlow a (binder x) (root i)
  IsNodePosed i (form.Inner k) = IsUse i (form.Inner k)
  IsNodePosed i (form.Global g) = IsUse i (form.Global g)
  IsNodePosed i (form.Number value) = (polarity_at a (root i) ≡ Positive) × ((head_at a (root i)).integer ≡ true)
  IsNodePosed i (form.Truth value) = (polarity_at a (root i) ≡ Positive) × ((head_at a (root i)).boolean ≡ true)
  IsNodePosed i (form.Fun x j) =
      (polarity_at a (root i) ≡ Positive) × HasArms a (root i) (binder x ∷ []) (root j ∷ [])
  IsNodePosed i (form.Apply j k) =
      (g n : ℕ) × HasArms a g (root k ∷ []) (n ∷ []) × IsGoal (root j) g × HasFlow a n (root i)
  IsNodePosed i (form.Make parts) =
      (sets : List FieldSet) × (polarity_at a (root i) ≡ Positive) × ((head_at a (root i)).fields ≡ Some sets)
      × ((label : List ℕ) → IsSome (set_at sets label) ↔ Contains (map (λ (part : Part). part.label) parts) label)
      × ((part : Part) → Contains parts part → set_at sets part.label ≡ Some (root part.child ∷ []))
  IsNodePosed i (form.Project j label) =
      (g n : ℕ) × ((head_at a g).fields ≡ Some (record { label = label; set = n ∷ [] } ∷ []))
      × IsGoal (root j) g × HasFlow a n (root i)
  IsNodePosed i (form.If j k l) =
      (bit n : ℕ) × ((head_at a bit).boolean ≡ true) × IsGoal (root j) bit × IsGoal (root k) n × IsGoal (root l) n
      × HasFlow a n (root i)
  IsNodePosed i (form.Let k j l) = (root i ≡ root l) × IsUse i (form.Let k j l)
  IsNodePosed i (form.Rec x j) = (root i ≡ root j) × IsGoal (root j) (binder x)

-- the children of a node that belong to its part: all but the first part of a let
abbrev pub HasPartsIn : (ℕ → Type 0) → TermForm → Type 0
HasPartsIn IsOne (form.Fun x j) = IsOne j
HasPartsIn IsOne (form.Apply j k) = IsOne j × IsOne k
HasPartsIn IsOne (form.Make parts) = (part : Part) → Contains parts part → IsOne part.child
HasPartsIn IsOne (form.Project j label) = IsOne j
HasPartsIn IsOne (form.If j k l) = IsOne j × IsOne k × IsOne l
HasPartsIn IsOne (form.Let k j l) = IsOne l
HasPartsIn IsOne (form.Rec x j) = IsOne j
HasPartsIn IsOne _ = Unit {0}

-- Each binder of a part is higher than those around it, and the names of binders are in scope; so are the binders that
-- were around the let of each name.
module _ (let_scope : ℕ → List ℕ) where
  abbrev pub IsNamed : List ℕ → ℕ → Type 0
  IsNamed scope k = (x : ℕ) → Contains (let_scope k) x → Contains scope x

  abbrev mutual
    pub IsRising : List ℕ → TermTree → Type 0
    IsRising scope (bound at x) = Contains scope x
    IsRising scope (inner at k) = IsNamed scope k
    IsRising scope (global at g) = Unit {0}
    IsRising scope (number at value) = Unit {0}
    IsRising scope (truth at value) = Unit {0}
    IsRising scope (fun at x e) = All (λ y. y < x) scope × IsRising (scope ++ x ∷ []) e
    IsRising scope (apply at e f) = IsRising scope e × IsRising scope f
    IsRising scope (make at fields) = AreRising scope fields
    IsRising scope (project at e label) = IsRising scope e
    IsRising scope (choice at c e f) = IsRising scope c × IsRising scope e × IsRising scope f
    IsRising scope (local at k e f) = IsNamed scope k × IsRising scope f
    IsRising scope (fix at x e) = All (λ y. y < x) scope × IsRising (scope ++ x ∷ []) e

    pub AreRising : List ℕ → TermFields → Type 0
    AreRising scope no_field = Unit {0}
    AreRising scope (a_field label e rest) = IsRising scope e × AreRising scope rest

  -- what a name or a let says of the binders around its let
  abbrev pub IsUsable : List ℕ → TermForm → Type 0
  IsUsable scope (form.Inner k) = IsNamed scope k
  IsUsable scope (form.Global g) = Unit {0}
  IsUsable scope (form.Let k j l) = IsNamed scope k
  IsUsable scope _ = ⊥
