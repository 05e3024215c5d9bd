-- The constraints of each form: an automaton over those of the parts, with goals. What models of it give, the
-- expression has.
use Rattle.std.specs.Prelude.{◌≡◌, ◌⊎◌, ℕ, suc, ◌+◌, ◌≤◌, true, false, not, List, [], ◌∷◌, ◌++◌, map, filter, length}
use Rattle.std.specs.Prelude.{All, Contains, IsSome, ◌↔◌, Some, None}
use Rattle.std.specs.Ordering.{nat_cmp, eq_by_cmp}
use Rattle.mls_book.specs.declared.book.Node.{Node}
use Rattle.mls_book.specs.Books.{IsClosedBook}
use Rattle.mls_book.specs.Predicates.{Predicate, Implies, meet}
use Rattle.mls_automaton.specs.declared.automaton.Polarity.TheVariants.{Positive, Negative}
use Rattle.mls_automaton.specs.declared.automaton.FieldSet.{FieldSet}
use Rattle.mls_automaton.specs.declared.automaton.Head.{Head}
use Rattle.mls_automaton.specs.declared.automaton.State.{State}
use Rattle.mls_automaton.specs.declared.state_set.StateId.{StateId}
use Rattle.mls_automaton.specs.declared.automaton.Flow.{Flow}
use Rattle.mls_automaton.specs.declared.scheme.EnvEntry.{EnvEntry}
use Rattle.mls_automaton.specs.declared.scheme.Scheme.{Scheme}
use Rattle.mls_automaton.specs.Automata.{Automaton, empty_head, flow, HasFlow, head_at, IsState}
use Rattle.mls_automaton.specs.Embeddings.{appended}
use Rattle.mls_automaton.specs.Models.{IsClosed, IsModel}
use Rattle.mls_automaton.specs.Heads.{set_at, AreRising, head_value}
use Rattle.mls_term.specs.Terms.{TermFields, no_field, a_field}
use Rattle.mls_term.specs.Derivations.{labels_of}
use Rattle.mls_typing.specs.Typed.{IsTypeOf}

-- a scheme over an automaton, and pairs of states of which the first is to be below the second
pub record Constraint : Type 0 where
  pub scheme : Scheme
  pub goals : List (ℕ × ℕ)

-- A model of the automaton gives the type `f` where the binders have these types: its states are types of one closed
-- book, the goals hold, the root is below `f`, and the states of each binder are above the binder's type. Here a binder
-- may have several states.
pub record HasTypes (c : Constraint) (types : ℕ → Predicate) (f : Predicate) : Type 0 where
  pub nodes : List Node
  pub closed : IsClosedBook nodes
  pub value : ℕ → Predicate
  pub held : (s : ℕ) → IsTypeOf nodes (value s)
  pub model : IsModel c.scheme.automaton value
  pub goals : (p n : ℕ) → Contains c.goals (p, n) → Implies (value p) (value n)
  pub root : Implies (value c.scheme.root.0) f
  pub env : (entry : EnvEntry) → Contains c.scheme.env entry → Implies (types entry.binder) (value entry.state.0)

-- the automaton is closed, the root is positive, and every state of a binder is negative
pub record HasStates (s : Scheme) : Type 0 where
  pub automaton : IsClosed s.automaton
  pub root : IsState s.automaton Positive s.root.0
  pub env : (entry : EnvEntry) → Contains s.env entry → IsState s.automaton Negative entry.state.0

abbrev pub no_goals : Scheme → Constraint
no_goals s = record { scheme = s; goals = [] }

-- Automata put together.

abbrev pub id : ℕ → StateId
id n = record { 0 = n }

-- n more
abbrev pub up : ℕ → ℕ → ℕ
up n s = n + s

abbrev pub renamed_entry : (ℕ → ℕ) → EnvEntry → EnvEntry
renamed_entry place entry = record { binder = entry.binder; state = id (place entry.state.0) }

-- further states and edges
abbrev pub grown : Automaton → List State → List Flow → Automaton
grown a states flows = record { states = a.states ++ states; flows = a.flows ++ flows }

abbrev pub size : Automaton → ℕ
size a = length a.states

-- several schemes side by side, and where their roots are
pub record Joined : Type 0 where
  pub automaton : Automaton
  pub env : List EnvEntry
  pub roots : List ℕ

abbrev pub joined : List Scheme → Joined
joined [] = record { automaton = record { states = []; flows = [] }; env = []; roots = [] }
joined (s ∷ ss) =
    let rest = joined ss in
    let n = size s.automaton in
    record {
      automaton = appended s.automaton rest.automaton;
      env = s.env ++ map (renamed_entry (up n)) rest.env;
      roots = s.root.0 ∷ map (up n) rest.roots;
    }

-- new states
abbrev pub negative : Head → State
negative h = record { polarity = Negative; head = h }

abbrev pub positive : Head → State
positive h = record { polarity = Positive; head = h }

abbrev pub function_head : List ℕ → List ℕ → Head
function_head domain codomain =
    record {
      boolean = false;
      integer = false;
      function = Some
          (record { domain = domain; codomain = codomain });
      fields = None;
    }

abbrev pub record_head : List FieldSet → Head
record_head fields = record { boolean = false; integer = false; function = None; fields = Some fields }

abbrev pub bool_head : Head
bool_head = record { boolean = true; integer = false; function = None; fields = None }

abbrev pub int_head : Head
int_head = record { boolean = false; integer = true; function = None; fields = None }

-- the states of a binder, and the entries of the others
abbrev pub states_of : ℕ → List EnvEntry → List ℕ
states_of x env = map (λ (entry : EnvEntry). entry.state.0)
    (filter (λ (entry : EnvEntry). eq_by_cmp nat_cmp entry.binder x) env)

abbrev pub without : ℕ → List EnvEntry → List EnvEntry
without x env = filter (λ (entry : EnvEntry). not (eq_by_cmp nat_cmp entry.binder x)) env

-- the binder has one state at most
abbrev pub HasOneState : ℕ → Scheme → Type 0
HasOneState x s = length (states_of x s.env) ≤ 1

-- The rows.

-- a binder: what flows in, flows out
abbrev pub bound_scheme : ℕ → Scheme
bound_scheme x = record {
  automaton = record { states = negative empty_head ∷ positive empty_head ∷ []; flows = flow 0 1 ∷ [] };
  env = record { binder = x; state = id 0 } ∷ [];
  root = id 1;
}

abbrev pub bound_constraint : ℕ → Constraint
bound_constraint x = no_goals (bound_scheme x)

abbrev pub literal_constraint : Head → Constraint
literal_constraint h = no_goals
    (record { automaton = record { states = positive h ∷ []; flows = [] }; env = []; root = id 0 })

-- a function: from these states, which are those of its binder, to the root of its body
abbrev pub fun_constraint : List ℕ → ℕ → Scheme → Constraint
fun_constraint domain x s = no_goals (record {
  automaton = grown s.automaton (positive (function_head domain (s.root.0 ∷ [])) ∷ []) [];
  env = without x s.env;
  root = id (size s.automaton);
})

-- the states of a binder, each once or more, in whatever order
abbrev pub AreStatesOf : ℕ → Scheme → List ℕ → Type 0
AreStatesOf x s domain = (n : ℕ) → Contains domain n ↔ Contains (states_of x s.env) n

-- a recursion: the root of its body is below each state of its binder
abbrev pub fix_constraint : ℕ → Scheme → Constraint
fix_constraint x s = record {
  scheme = record { automaton = s.automaton; env = without x s.env; root = s.root };
  goals = map (λ n. (s.root.0, n)) (states_of x s.env);
}

-- a projection: the root of its body is below the records with the field
abbrev pub project_constraint : List ℕ → Scheme → Constraint
project_constraint label s =
    let n = size s.automaton in
    record {
      scheme = record {
        automaton = grown s.automaton (negative empty_head ∷ positive empty_head ∷ negative
            (record_head (record { label = label; set = n ∷ [] } ∷ [])) ∷ []) (flow n (suc n) ∷ []);
        env = s.env;
        root = id (suc n);
      };
      goals = (s.root.0, suc (suc n)) ∷ [];
    }

-- an application over both parts side by side: the root of the function is below the functions from the root of the
-- argument
abbrev pub application_over : ℕ → ℕ → Joined → Constraint
application_over function argument j =
    let n = size j.automaton in
    record {
      scheme = record {
        automaton = grown j.automaton (negative empty_head ∷ positive empty_head ∷ negative
            (function_head (argument ∷ []) (n ∷ [])) ∷ []) (flow n (suc n) ∷ []);
        env = j.env;
        root = id (suc n);
      };
      goals = (function, suc (suc n)) ∷ [];
    }

-- the automaton of the function in front
abbrev pub apply_constraint : Scheme → Scheme → Constraint
apply_constraint s t = application_over s.root.0 (size s.automaton + t.root.0) (joined (s ∷ t ∷ []))

-- the automaton of the argument in front
abbrev pub turned_constraint : Scheme → Scheme → Constraint
turned_constraint s t = application_over (size t.automaton + s.root.0) t.root.0 (joined (t ∷ s ∷ []))

-- an application, with the automata of the two side by side in either order
abbrev pub IsApplied : Scheme → Scheme → Constraint → Type 0
IsApplied s t c = (c ≡ apply_constraint s t) ⊎ (c ≡ turned_constraint s t)

-- a conditional: the root of the condition is below `bool`, those of the branches below one new state
abbrev pub choice_constraint : Scheme → Scheme → Scheme → Constraint
choice_constraint r s t =
    let j = joined (r ∷ s ∷ t ∷ []) in
    let n = size j.automaton in
    record {
      scheme = record {
        automaton = grown j.automaton (negative bool_head ∷ negative empty_head ∷ positive empty_head ∷ [])
            (flow (suc n) (suc (suc n)) ∷ []);
        env = j.env;
        root = id (suc (suc n));
      };
      goals = (r.root.0, n) ∷ (size r.automaton + s.root.0, suc n) ∷
          (size r.automaton + (size s.automaton + t.root.0), suc n) ∷ [];
    }

-- a let: the second part, and what the first part needs
abbrev pub let_constraint : Scheme → Scheme → Constraint
let_constraint s t =
    let j = joined (s ∷ t ∷ []) in
    no_goals (record { automaton = j.automaton; env = j.env; root = id (size s.automaton + t.root.0) })

-- these fields have the labels of the parts, each with the root of its part, in the order of the text
abbrev pub AreRoots : TermFields → List ℕ → List FieldSet → Type 0
AreRoots no_field [] fields = Unit {0}
AreRoots (a_field label e rest) (root ∷ roots) fields =
    (set_at fields label ≡ Some (root ∷ [])) × AreRoots rest roots fields
AreRoots _ _ fields = ⊥

-- the fields of a record's head: sorted, and of no other labels
pub record AreFieldsOf (parts : TermFields) (roots : List ℕ) (fields : List FieldSet) : Type 0 where
  pub rising : AreRising fields
  pub found : AreRoots parts roots fields
  pub labels : (label : List ℕ) → IsSome (set_at fields label) ↔ Contains (labels_of parts) label
  pub single : All (λ field. (root : ℕ) × Contains roots root × (field.set ≡ root ∷ [])) fields

-- a record: its fields are the roots of the parts
abbrev pub make_constraint : List FieldSet → List Scheme → Constraint
make_constraint fields ss =
    let j = joined ss in
    no_goals (record {
      automaton = grown j.automaton (positive (record_head fields) ∷ []) [];
      env = j.env;
      root = id
          (size j.automaton);
    })

-- what a list of parts has
abbrev pub AllHaveTypes : (ℕ → Predicate) → List Scheme → List Predicate → Type 0
AllHaveTypes types [] [] = Unit {0}
AllHaveTypes types (s ∷ ss) (f ∷ fs) = HasTypes (no_goals s) types f × AllHaveTypes types ss fs
AllHaveTypes types _ _ = ⊥

-- One state for two of a binder: a new negative state with the combined head and the edges of both. The entries of the
-- binder at the two states give way to one at the new state.
pub record IsMerged (s t : Scheme) : Type 0 where
  pub binder : ℕ
  pub first : ℕ
  pub second : ℕ
  pub head : Head
  pub states_are : t.automaton.states ≡ s.automaton.states ++ negative head ∷ []
  pub root_is : t.root ≡ s.root
  pub first_there : Contains s.env (record { binder = binder; state = id first })
  pub second_there : Contains s.env (record { binder = binder; state = id second })
  pub head_is : (value : ℕ → Predicate)
      → head_value Negative value head ≡ meet (head_value Negative value (head_at s.automaton first))
      (head_value Negative value (head_at s.automaton second))
  pub flows_are : (n p : ℕ) → HasFlow t.automaton n p ↔ HasFlow s.automaton n p
      ⊎ ((n ≡ size s.automaton) × (HasFlow s.automaton first p ⊎ HasFlow s.automaton second p))
  pub entry : Contains t.env (record { binder = binder; state = id (size s.automaton) })
  pub kept : (e : EnvEntry) → Contains s.env e → (e ≡ record { binder = binder; state = id first })
      ⊎ ((e ≡ record { binder = binder; state = id second }) ⊎ Contains t.env e)
  pub old : (e : EnvEntry) → Contains t.env e → (e ≡ record { binder = binder; state = id (size s.automaton) })
      ⊎ Contains s.env e
