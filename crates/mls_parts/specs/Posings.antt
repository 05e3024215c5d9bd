-- A constraint that is posed node by node: what each form of a node adds to it.
use Rattle.std.specs.Prelude.{◌≡◌, ◌≢◌, ◌⊎◌, ◌↔◌, ℕ, suc, true, ◌+◌, List, [], ◌∷◌, ◌++◌, map, length}
use Rattle.std.specs.Prelude.{Contains, IsSome, Option, Some, None}
use Rattle.std.specs.BTreeMap.{BTreeMap, get, Updates}
use Rattle.std.specs.List.{AllPairs}
use Rattle.std.specs.Ordering.{nat_cmp}
use Rattle.mls_automaton.specs.declared.automaton.Polarity.TheVariants.{Positive, Negative}
use Rattle.mls_automaton.specs.declared.automaton.FieldSet.{FieldSet}
use Rattle.mls_automaton.specs.declared.automaton.Head.{Head}
use Rattle.mls_automaton.specs.declared.automaton.State.{State}
use Rattle.mls_automaton.specs.declared.scheme.EnvEntry.{EnvEntry}
use Rattle.mls_automaton.specs.declared.scheme.Scheme.{Scheme}
use Rattle.mls_automaton.specs.Automata.{empty_head, head_at, HasFlow, IsState}
use Rattle.mls_automaton.specs.Embeddings.{renamed_head, renamed_state}
use Rattle.mls_automaton.specs.Heads.{set_at, AreRising}
use Rattle.mls_automaton.specs.Models.{IsClosed}
use Rattle.mls_automaton.specs.Schemes.{state_of}
use Rattle.mls_solver.specs.declared.goal.Goal.{Goal}
use Rattle.mls_term.specs.declared.term.Part.{Part}
use Rattle.mls_term.specs.declared.term.TermForm.{TermForm}
use Rattle.mls_term.specs.declared.term.TermForm.TheVariants as form
use Rattle.mls_parts.specs.declared.pose.Need.{Need}
use Rattle.mls_parts.specs.declared.pose.Posing.{Posing}

-- the number at a key, and 0 where there is none
abbrev pub or_zero : Option ℕ → ℕ
or_zero None = 0
or_zero (Some n) = n

abbrev pub number_at : BTreeMap ℕ ℕ → ℕ → ℕ
number_at numbers k = or_zero (get nat_cmp numbers k)

-- the root of a node, and the state of a binder
abbrev pub root_in : Posing → ℕ → ℕ
root_in p i = number_at p.roots i

abbrev pub binder_in : Posing → ℕ → ℕ
binder_in p x = number_at p.binders x

-- the first state of the copy of a known type that a node has
abbrev pub copy_in : Posing → ℕ → ℕ
copy_in p i = number_at p.copies i

-- how many states there are
abbrev pub size : Posing → ℕ
size p = length p.automaton.states

-- states and heads that nodes add
abbrev pub positive : Head → State
positive h = record { polarity = Positive; head = h }

abbrev pub negative : Head → State
negative h = record { polarity = Negative; head = h }

abbrev pub function_head : (domain codomain : ℕ) → Head
function_head d c = record empty_head { function = Some (record { domain = d ∷ []; codomain = c ∷ [] }) }

abbrev pub record_head : List FieldSet → Head
record_head fields = record empty_head { fields = Some fields }

abbrev pub one_field : List ℕ → ℕ → List FieldSet
one_field label s = record { label = label; set = s ∷ [] } ∷ []

abbrev pub bool_head : Head
bool_head = record empty_head { boolean = true }

abbrev pub int_head : Head
int_head = record empty_head { integer = true }

abbrev pub goal : (positive negative : ℕ) → Goal
goal p n = record { positive = record { 0 = p }; negative = record { 0 = n } }

-- What a node adds: states behind those that are there, goals, heads that binders need, its root, the first state of the
-- copy that a name or a let has, and of a conditional the state that its branches go into.
pub record Added : Type 0 where
  pub states : List State
  pub goals : List Goal
  pub needs : List Need
  pub root : ℕ
  pub copy : Option ℕ
  pub result : Option ℕ

-- a state is noted for node `i`, or nothing is
abbrev pub IsNoted : (before after : BTreeMap ℕ ℕ) → ℕ → Option ℕ → Type 0
IsNoted before after i None = after ≡ before
IsNoted before after i (Some n) = Updates nat_cmp before after i (Some n)

-- The second constraint is the first with what node `i` adds, and with these edges.
pub record Adds (p q : Posing) (i : ℕ) (new : Added) (IsEdge : ℕ → ℕ → Type 0) : Type 0 where
  pub states : q.automaton.states ≡ p.automaton.states ++ new.states
  pub flows : (n s : ℕ) → HasFlow q.automaton n s ↔ (HasFlow p.automaton n s ⊎ IsEdge n s)
  pub goals : q.goals ≡ p.goals ++ new.goals
  pub needs : q.needs ≡ p.needs ++ new.needs
  pub roots : Updates nat_cmp p.roots q.roots i (Some new.root)
  pub binders : q.binders ≡ p.binders
  pub copies : IsNoted p.copies q.copies i new.copy
  pub results : IsNoted p.results q.results i new.result

-- no edge, and one
abbrev pub NoEdge : ℕ → ℕ → Type 0
NoEdge n s = ⊥

abbrev pub OneEdge : (negative positive : ℕ) → ℕ → ℕ → Type 0
OneEdge n s m r = (m ≡ n) × (r ≡ s)

-- What each form adds, where there are `n` states so far: a number or a truth value, a use of a binder, a function, an
-- application, a record, a projection, a conditional and a recursion.
abbrev pub literal_added : ℕ → Head → Added
literal_added n head =
    record { states = positive head ∷ []; goals = []; needs = []; root = n; copy = None; result = None }

abbrev pub fun_added : ℕ → (binder body : ℕ) → Added
fun_added n binder body = literal_added n (function_head binder body)

abbrev pub apply_added : ℕ → (function argument : ℕ) → Added
apply_added n f a = record {
  states = positive empty_head ∷ negative empty_head ∷ negative (function_head a (suc n)) ∷ [];
  goals = goal f (suc (suc n)) ∷ [];
  needs = [];
  root = n;
  copy = None;
  result = None;
}

abbrev pub project_added : ℕ → (body : ℕ) → List ℕ → Added
project_added n body label = record {
  states = positive empty_head ∷ negative empty_head ∷ negative (record_head (one_field label (suc n))) ∷ [];
  goals = goal body (suc (suc n)) ∷ [];
  needs = [];
  root = n;
  copy = None;
  result = None;
}

-- the condition goes into one state, and both branches into another
abbrev pub choice_goals : (condition first second bit into : ℕ) → List Goal
choice_goals c f s bit into = goal c bit ∷ goal f into ∷ goal s into ∷ []

abbrev pub choice_added : ℕ → (condition first second : ℕ) → Added
choice_added n c f s = record {
  states = positive empty_head ∷ negative empty_head ∷ negative bool_head ∷ [];
  goals = choice_goals c f s (suc (suc n)) (suc n);
  needs = [];
  root = n;
  copy = None;
  result = Some (suc n);
}

-- a conditional that shares the root and the other state of one of its branches
abbrev pub joined_choice_added : ℕ → (condition first second root into : ℕ) → Added
joined_choice_added n c f s root into = record {
  states = negative bool_head ∷ [];
  goals = choice_goals c f s n into;
  needs = [];
  root = root;
  copy = None;
  result = Some into;
}

abbrev pub fix_added : (body binder : ℕ) → Added
fix_added body binder =
    record { states = []; goals = goal body binder ∷ []; needs = []; root = body; copy = None; result = None }

-- the fields of a record: each label of a part has the root of that part
pub record AreFieldsOf (root : ℕ → ℕ) (parts : List Part) (fields : List FieldSet) : Type 0 where
  pub rising : AreRising fields
  pub there : (part : Part) → Contains parts part → set_at fields part.label ≡ Some (root part.child ∷ [])
  pub back : (label : List ℕ) → IsSome (set_at fields label)
      → Contains (map (λ (part : Part). part.label) parts) label
  pub single : (field : FieldSet) → Contains fields field
      → (part : Part) × Contains parts part × (field.set ≡ root part.child ∷ [])

-- a copy of a known type, whose states stand from n on: what its binders ask is asked of those around
abbrev pub copied_need : ℕ → Scheme → EnvEntry → Need
copied_need n s entry =
    record { binder = entry.binder; head = renamed_head (λ k. n + k) (head_at s.automaton entry.state.0) }

abbrev pub copy_added : ℕ → Scheme → (root : ℕ) → Added
copy_added n s root = record {
  states = map (renamed_state (λ k. n + k)) s.automaton.states;
  goals = [];
  needs = map (copied_need n s) s.env;
  root = root;
  copy = Some n;
  result = None;
}

-- its edges, and those of the states of binders, which go from the binders around
abbrev pub IsBinderEdge : ℕ → (binder : ℕ → ℕ) → Scheme → EnvEntry → ℕ → ℕ → Type 0
IsBinderEdge n binder s entry m r =
    (m ≡ binder entry.binder) × (l : ℕ) × HasFlow s.automaton entry.state.0 l × (r ≡ n + l)

abbrev pub IsEdgeAbove : ℕ → Scheme → ℕ → ℕ → Type 0
IsEdgeAbove n s m r = (k l : ℕ) × HasFlow s.automaton k l × (m ≡ n + k) × (r ≡ n + l)

abbrev pub IsCopiedEdge : ℕ → (binder : ℕ → ℕ) → Scheme → List EnvEntry → ℕ → ℕ → Type 0
IsCopiedEdge n binder s env m r =
    IsEdgeAbove n s m r ⊎ ((entry : EnvEntry) × Contains env entry × IsBinderEdge n binder s entry m r)

-- The known type is over a closed automaton, its root is positive, the states of its binders are negative, and these
-- binders are around, with negative states.
pub record IsKnownTo (p : Posing) (known : Scheme) : Type 0 where
  pub closed : IsClosed known.automaton
  pub root : IsState known.automaton Positive known.root.0
  pub states : (entry : EnvEntry) → Contains known.env entry → IsState known.automaton Negative entry.state.0
  pub around : (entry : EnvEntry) → Contains known.env entry
      → IsState p.automaton Negative (binder_in p entry.binder)
  pub there : (entry : EnvEntry) → Contains known.env entry → IsSome (get nat_cmp p.binders entry.binder)
  pub found : (entry : EnvEntry) → Contains known.env entry → state_of known.env entry.binder ≡ Some entry.state.0

-- The second constraint has a copy of the known type, from state n on, as far as its binders have these entries.
pub record AddsCopy (p q : Posing) (n : ℕ) (known : Scheme) (env : List EnvEntry) : Type 0 where
  pub states : q.automaton.states ≡ p.automaton.states ++ map (renamed_state (λ k. n + k)) known.automaton.states
  pub flows : (m r : ℕ) → HasFlow q.automaton m r
      ↔ (HasFlow p.automaton m r ⊎ IsCopiedEdge n (binder_in p) known env m r)
  pub goals : q.goals ≡ p.goals
  pub needs : q.needs ≡ p.needs ++ map (copied_need n known) env
  pub roots : q.roots ≡ p.roots
  pub binders : q.binders ≡ p.binders
  pub copies : q.copies ≡ p.copies
  pub results : q.results ≡ p.results

-- one of the branches of a conditional
abbrev pub IsBranch : (first second branch : ℕ) → Type 0
IsBranch first second branch = (branch ≡ first) ⊎ (branch ≡ second)

-- A conditional has a root of its own, or it shares the states of a branch that is a conditional.
abbrev pub AddsChoice : (p q : Posing) → ℕ → (condition first second : ℕ) → Type 0
AddsChoice p q i j k l =
    Adds p q i (choice_added (size p) (root_in p j) (root_in p k) (root_in p l)) (OneEdge (suc (size p)) (size p))
    ⊎ ((branch into : ℕ) × IsBranch k l branch × (get nat_cmp p.results branch ≡ Some into)
    × Adds p q i
    (joined_choice_added (size p) (root_in p j) (root_in p k) (root_in p l) (root_in p branch) into) NoEdge)

-- What a node adds, by its form, where the names have these known types.
module _ (known_global known_let : ℕ → Option Scheme) (p q : Posing) (i : ℕ) where
  abbrev pub AddsNode : TermForm → Type 0
  AddsNode (form.Bound x) =
      Adds p q i (literal_added (size p) empty_head) (OneEdge (binder_in p x) (size p))
  AddsNode (form.Inner k) = (s : Scheme) × (known_let k ≡ Some s)
      × Adds p q i (copy_added (size p) s (size p + s.root.0)) (IsCopiedEdge (size p) (binder_in p) s s.env)
  AddsNode (form.Global g) = (s : Scheme) × (known_global g ≡ Some s)
      × Adds p q i (copy_added (size p) s (size p + s.root.0)) (IsCopiedEdge (size p) (binder_in p) s s.env)
  AddsNode (form.Number value) = Adds p q i (literal_added (size p) int_head) NoEdge
  AddsNode (form.Truth value) = Adds p q i (literal_added (size p) bool_head) NoEdge
  AddsNode (form.Fun x j) = Adds p q i (fun_added (size p) (binder_in p x) (root_in p j)) NoEdge
  AddsNode (form.Apply j k) =
      Adds p q i (apply_added (size p) (root_in p j) (root_in p k)) (OneEdge (suc (size p)) (size p))
  AddsNode (form.Make parts) = (fields : List FieldSet) × AreFieldsOf (root_in p) parts fields
      × Adds p q i (literal_added (size p) (record_head fields)) NoEdge
  AddsNode (form.Project j label) =
      Adds p q i (project_added (size p) (root_in p j) label) (OneEdge (suc (size p)) (size p))
  AddsNode (form.If j k l) = AddsChoice p q i j k l
  AddsNode (form.Let k j l) = (s : Scheme) × (known_let k ≡ Some s)
      × Adds p q i (copy_added (size p) s (root_in p l)) (IsCopiedEdge (size p) (binder_in p) s s.env)
  AddsNode (form.Rec x j) = Adds p q i (fix_added (root_in p j) (binder_in p x)) NoEdge

-- the type that is known of a name
abbrev pub known_in : BTreeMap ℕ Scheme → ℕ → Option Scheme
known_in = get nat_cmp

-- a known type is there, over binders that are around
abbrev pub HasKnown : Posing → Option Scheme → Type 0
HasKnown p None = ⊥
HasKnown p (Some s) = IsKnownTo p s

-- what a node of this form needs to be posed: the state of its binder, a known type of its name, and labels that differ
module _ (globals lets : BTreeMap ℕ Scheme) (p : Posing) where
  abbrev pub CanPose : TermForm → Type 0
  CanPose (form.Bound x) = IsState p.automaton Negative (binder_in p x)
  CanPose (form.Inner k) = HasKnown p (known_in lets k)
  CanPose (form.Global g) = HasKnown p (known_in globals g)
  CanPose (form.Make parts) = AllPairs (λ x y. x ≢ y) (map (λ (part : Part). part.label) parts)
  CanPose (form.Let k j l) = HasKnown p (known_in lets k)
  CanPose _ = Unit {0}
