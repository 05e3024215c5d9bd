-- The constraint of a part of a term, node by node: each node has a state of one automaton as its root, and each
-- binder has one negative state, to which every use of the binder has an edge.
use Rattle.std.specs.Prelude.{◌≡◌, ◌↔◌, ℕ, ◌<◌, true, List, [], ◌∷◌, ◌++◌, map, All, Contains, IsSome, Some}
use Rattle.mls_automaton.specs.declared.automaton.FieldSet.{FieldSet}
use Rattle.mls_automaton.specs.declared.automaton.Polarity.TheVariants.{Positive}
use Rattle.mls_automaton.specs.Automata.{Automaton, polarity_at, head_at, HasFlow}
use Rattle.mls_automaton.specs.Heads.{set_at}
use Rattle.mls_term.specs.declared.term.Part.{Part}
use Rattle.mls_term.specs.declared.term.TermNode.{TermNode}
use Rattle.mls_term.specs.declared.term.TermForm.TheVariants as form
use Rattle.mls_term.specs.Terms.{TermTree, TermFields, bound, inner, global, number, truth, fun, apply, make, project}
use Rattle.mls_term.specs.Terms.{choice, local, fix, no_field, a_field}
use Rattle.mls_deriv.specs.Steps.{form_at}

-- a function from these states to those
abbrev pub HasArms : Automaton → ℕ → List ℕ → List ℕ → Type 0
HasArms a s domain codomain = (head_at a s).function ≡ Some (record { domain = domain; codomain = codomain })

-- What a node of each form asks of the states of its parts. The binders around are those of the scope, from the
-- outermost on, and rise. What the uses of names and the lets ask of their nodes is given.
module _ (nodes : List TermNode) (a : Automaton) (IsGoal : ℕ → ℕ → Type 0) (root binder : ℕ → ℕ) (IsUse : List ℕ → ℕ
    → Type 0) where
  abbrev mutual
    pub IsPosed : List ℕ → ℕ → TermTree → Type 0
    IsPosed scope i (bound at x) = (form_at nodes i ≡ Some (form.Bound x)) × Contains scope x
        × HasFlow a (binder x) (root i)
    IsPosed scope i (inner at k) = (form_at nodes i ≡ Some (form.Inner k)) × IsUse scope i
    IsPosed scope i (global at g) = (form_at nodes i ≡ Some (form.Global g)) × IsUse scope i
    IsPosed scope i (number at value) = (form_at nodes i ≡ Some (form.Number value))
        × (polarity_at a (root i) ≡ Positive) × ((head_at a (root i)).integer ≡ true)
    IsPosed scope i (truth at value) = (form_at nodes i ≡ Some (form.Truth value))
        × (polarity_at a (root i) ≡ Positive) × ((head_at a (root i)).boolean ≡ true)
    IsPosed scope i (fun at x e) =
        (j : ℕ) × (form_at nodes i ≡ Some (form.Fun x j)) × All (λ y. y < x) scope
        × (polarity_at a (root i) ≡ Positive) × HasArms a (root i) (binder x ∷ []) (root j ∷ [])
        × IsPosed (scope ++ x ∷ []) j e
    IsPosed scope i (apply at e f) =
        (j k g n : ℕ) × (form_at nodes i ≡ Some (form.Apply j k))
        × HasArms a g (root k ∷ []) (n ∷ []) × IsGoal (root j) g × HasFlow a n (root i)
        × IsPosed scope j e × IsPosed scope k f
    IsPosed scope i (make at fields) =
        (parts : List Part) × (sets : List FieldSet) × (form_at nodes i ≡ Some (form.Make parts))
        × (polarity_at a (root i) ≡ Positive) × ((head_at a (root i)).fields ≡ Some sets)
        × ((label : List ℕ) → IsSome (set_at sets label) ↔ Contains (map (λ (part : Part). part.label) parts) label)
        × ArePosed scope sets parts fields
    IsPosed scope i (project at e label) =
        (j g n : ℕ) × (form_at nodes i ≡ Some (form.Project j label))
        × ((head_at a g).fields ≡ Some (record { label = label; set = n ∷ [] } ∷ [])) × IsGoal (root j) g
        × HasFlow a n (root i)
        × IsPosed scope j e
    IsPosed scope i (choice at c e f) =
        (j k l bit n : ℕ) × (form_at nodes i ≡ Some (form.If j k l))
        × ((head_at a bit).boolean ≡ true) × IsGoal (root j) bit × IsGoal (root k) n × IsGoal (root l) n
        × HasFlow a n (root i)
        × IsPosed scope j c × IsPosed scope k e × IsPosed scope l f
    IsPosed scope i (local at k e f) =
        (j l : ℕ) × (form_at nodes i ≡ Some (form.Let k j l))
        × (root i ≡ root l) × IsUse scope i
        × IsPosed scope l f
    IsPosed scope i (fix at x e) =
        (j : ℕ) × (form_at nodes i ≡ Some (form.Rec x j)) × All (λ y. y < x) scope
        × (root i ≡ root j) × IsGoal (root j) (binder x)
        × IsPosed (scope ++ x ∷ []) j e

    -- each part's root is the set of its label
    pub ArePosed : List ℕ → List FieldSet → List Part → TermFields → Type 0
    ArePosed scope sets parts no_field = parts ≡ []
    ArePosed scope sets parts (a_field label e rest) =
        (j : ℕ) × (others : List Part) × (parts ≡ record { label = label; child = j } ∷ others)
        × (set_at sets label ≡ Some (root j ∷ []))
        × IsPosed scope j e × ArePosed scope sets others rest
