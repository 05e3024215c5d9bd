-- States and edges with classes in place of states.
use Rattle.std.specs.Prelude.{◌≡◌, ℕ, List, [], ◌∷◌, map, Contains, option_map}
use Rattle.mls_automaton.specs.declared.automaton.Polarity.TheVariants.{Positive, Negative}
use Rattle.mls_automaton.specs.declared.automaton.Arms.{Arms}
use Rattle.mls_automaton.specs.declared.automaton.FieldSet.{FieldSet}
use Rattle.mls_automaton.specs.declared.automaton.Head.{Head}
use Rattle.mls_automaton.specs.declared.automaton.State.{State}
use Rattle.mls_automaton.specs.declared.automaton.Flow.{Flow}
use Rattle.mls_automaton.specs.declared.scheme.Scheme.{Scheme}
use Rattle.mls_automaton.specs.Automata.{Automaton, IsState, state_at}
use Rattle.mls_automaton.specs.steps.Keeping.{renamed_entry}
use Rattle.mls_shape.specs.declared.classes.Classes.{Classes}
use Rattle.mls_shape.specs.steps.Classes.{class_in, one_of, AreClasses}
use Rattle.mls_shape.specs.steps.Edges.{AddsFlows}

-- the class of the one member
abbrev pub classed_set : (ℕ → ℕ) → List ℕ → List ℕ
classed_set class set = class (one_of set) ∷ []

abbrev pub classed_arms : (ℕ → ℕ) → Arms → Arms
classed_arms class arms = record { domain = classed_set class arms.domain; codomain = classed_set class arms.codomain }

abbrev pub classed_field : (ℕ → ℕ) → FieldSet → FieldSet
classed_field class field = record { label = field.label; set = classed_set class field.set }

abbrev pub classed_head : (ℕ → ℕ) → Head → Head
classed_head class h = record {
  boolean = h.boolean;
  integer = h.integer;
  function = option_map (classed_arms class) h.function;
  fields = option_map (map (classed_field class)) h.fields;
}

abbrev pub classed_state : (ℕ → ℕ) → State → State
classed_state class s = record { polarity = s.polarity; head = classed_head class s.head }

-- the classes of the ends of an edge are states
abbrev pub HasClassEnds : Automaton → (ℕ → ℕ) → Flow → Type 0
HasClassEnds d class f = IsState d Negative (class f.negative.0) × IsState d Positive (class f.positive.0)

-- the classes of the ends of some edge
abbrev pub IsFlowOfClasses : (ℕ → ℕ) → List Flow → ℕ → ℕ → Type 0
IsFlowOfClasses class flows k l = (f : Flow) × Contains flows f × (class f.negative.0 ≡ k) × (class f.positive.0 ≡ l)

-- the second scheme is put together of the classes of the states of the first
pub record IsClassed (s m : Scheme) : Type 0 where
  pub classes : Classes
  pub are : AreClasses s.automaton classes
  pub without_flows : Automaton
  pub states : without_flows.states
      ≡ map (λ k. classed_state (class_in classes.numbers.items) (state_at s.automaton k)) classes.chosen.items
  pub no_flows : without_flows.flows ≡ []
  pub flows : AddsFlows without_flows m.automaton (IsFlowOfClasses (class_in classes.numbers.items) s.automaton.flows)
  pub env : m.env ≡ map (renamed_entry (class_in classes.numbers.items)) s.env
  pub root : m.root.0 ≡ class_in classes.numbers.items s.root.0
