-- Parts of a term that stand side by side in one automaton, each over states of its own.
use Rattle.std.specs.Prelude.{◌≡◌, ◌⊎◌, ◌↔◌, ℕ, List, [], ◌∷◌, map, Contains}
use Rattle.mls_book.specs.Predicates.{Predicate}
use Rattle.mls_automaton.specs.declared.automaton.Polarity.TheVariants.{Positive, Negative}
use Rattle.mls_automaton.specs.declared.state_set.StateId.{StateId}
use Rattle.mls_automaton.specs.declared.scheme.EnvEntry.{EnvEntry}
use Rattle.mls_automaton.specs.declared.scheme.Scheme.{Scheme}
use Rattle.mls_automaton.specs.Automata.{Automaton, HasFlow, HasTrueFlows, head_at, polarity_at}
use Rattle.mls_automaton.specs.Heads.{IsSameParts, parts_of}
use Rattle.mls_automaton.specs.Reached.{Names}
use Rattle.mls_biunify.specs.Live.{IsRegion}
use Rattle.mls_infer.specs.Constraints.{HasTypes, no_goals}

-- no head leads out of these states, and no edge leads out or in
pub record IsClosedRegion (a : Automaton) (states : List ℕ) : Type 0 where
  pub heads : (s t : ℕ) → Contains states s → Names a s t → Contains states t
  pub flows : (n p : ℕ) → HasFlow a n p → Contains states n ↔ Contains states p

-- no state is in both lists
abbrev pub AreApart : List ℕ → List ℕ → Type 0
AreApart first second = (s : ℕ) → Contains first s → Contains second s → ⊥

-- at these states the second automaton has the polarities, the parts of heads and the edges of the first
pub record AgreesAt (states : List ℕ) (a b : Automaton) : Type 0 where
  pub polarity : (s : ℕ) → Contains states s → polarity_at b s ≡ polarity_at a s
  pub heads : (s : ℕ) → Contains states s → IsSameParts (parts_of (head_at b s)) (parts_of (head_at a s))
  pub flows : (n p : ℕ) → Contains states n → HasFlow b n p ↔ HasFlow a n p

-- At all other states the second automaton has the polarities, the heads and the edges of the first, and what is new
-- leads from these states to these states.
pub record ChangesWithin (states : List ℕ) (a b : Automaton) : Type 0 where
  pub polarity : (s : ℕ) → (Contains states s → ⊥) → polarity_at b s ≡ polarity_at a s
  pub heads : (s : ℕ) → (Contains states s → ⊥) → IsSameParts (parts_of (head_at b s)) (parts_of (head_at a s))
  pub names : (s t : ℕ) → Names b s t → Names a s t ⊎ (Contains states s × Contains states t)
  pub flows : (n p : ℕ) → HasFlow b n p → HasFlow a n p ⊎ (Contains states n × Contains states p)
  pub old_flows : (n p : ℕ) → (Contains states n → ⊥) → HasFlow a n p → HasFlow b n p

-- a part over an automaton
abbrev pub part_over : Automaton → List EnvEntry → StateId → Scheme
part_over a env root = record { automaton = a; env = env; root = root }

-- A part: no head leads out of its states, and no edge out or in. Among them are its root and the states of its binders.
pub record IsPart (a : Automaton) (states : List ℕ) (env : List EnvEntry) (root : StateId) : Type 0 where
  pub region : IsClosedRegion a states
  pub root_in : Contains states root.0
  pub root_positive : polarity_at a root.0 ≡ Positive
  pub env_in : (entry : EnvEntry) → Contains env entry → Contains states entry.state.0
  pub env_negative : (entry : EnvEntry) → Contains env entry → polarity_at a entry.state.0 ≡ Negative

-- A separate part: no head and no edge leads in either.
pub record IsSeparatePart (a : Automaton) (states : List ℕ) (env : List EnvEntry) (root : StateId) : Type 0 where
  pub region : IsRegion a states
  pub root_in : Contains states root.0
  pub root_positive : polarity_at a root.0 ≡ Positive
  pub env_in : (entry : EnvEntry) → Contains env entry → Contains states entry.state.0
  pub env_negative : (entry : EnvEntry) → Contains env entry → polarity_at a entry.state.0 ≡ Negative

-- the states of a part, the states of its binders, and its root
pub record TablePart : Type 0 where
  pub states : List ℕ
  pub env : List EnvEntry
  pub root : StateId

abbrev pub scheme_at : Automaton → TablePart → Scheme
scheme_at a part = part_over a part.env part.root

abbrev pub schemes_at : Automaton → List TablePart → List Scheme
schemes_at a parts = map (scheme_at a) parts

abbrev pub part_roots : List TablePart → List ℕ
part_roots parts = map (λ (part : TablePart). part.root.0) parts

-- what models of the whole automaton give a part
abbrev pub part_types : Automaton → TablePart → (ℕ → Predicate) → Predicate → Type 0
part_types a part types f = HasTypes (no_goals (scheme_at a part)) types f

-- a state of one of the parts
abbrev pub InParts : List TablePart → ℕ → Type 0
InParts [] s = ⊥
InParts (part ∷ rest) s = Contains part.states s ⊎ InParts rest s

-- an entry of one of the parts
abbrev pub InEnvs : List TablePart → EnvEntry → Type 0
InEnvs [] entry = ⊥
InEnvs (part ∷ rest) entry = Contains part.env entry ⊎ InEnvs rest entry

-- each is a part, and no two of them share a state
abbrev pub AreParts : Automaton → List TablePart → Type 0
AreParts a [] = Unit {0}
AreParts a (part ∷ rest) = IsPart a part.states part.env part.root
    × ((s : ℕ) → Contains part.states s → InParts rest s → ⊥) × AreParts a rest

-- parts side by side, and new states outside of them
pub record AreSideBySide (a : Automaton) (parts : List TablePart) (new : List ℕ) : Type 0 where
  pub flows : HasTrueFlows a
  pub are : AreParts a parts
  pub outside : (s : ℕ) → Contains new s → InParts parts s → ⊥
