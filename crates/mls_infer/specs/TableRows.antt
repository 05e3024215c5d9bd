-- The forms of a term over one automaton, with the new states of the form and before its goals are solved.
use Rattle.std.specs.Prelude.{◌≡◌, ◌↔◌, ◌⊎◌, ℕ, List, [], ◌∷◌, Contains}
use Rattle.mls_automaton.specs.declared.automaton.FieldSet.{FieldSet}
use Rattle.mls_automaton.specs.declared.automaton.Head.{Head}
use Rattle.mls_automaton.specs.declared.scheme.EnvEntry.{EnvEntry}
use Rattle.mls_automaton.specs.Automata.{Automaton, HasFlow, HasTrueFlows, empty_head, state_at}
use Rattle.mls_term.specs.Terms.{TermFields}
use Rattle.mls_infer.specs.Constraints.{AreFieldsOf, bool_head, function_head, id, negative, positive, record_head, states_of, without}
use Rattle.mls_infer.specs.Merges.{HasSameMembers}
use Rattle.mls_infer.specs.Regions.{AreSideBySide, InEnvs, TablePart, part_roots}

-- the entries are those of the parts
abbrev pub AreEntries : List TablePart → List EnvEntry → Type 0
AreEntries parts env = (entry : EnvEntry) → Contains env entry ↔ InEnvs parts entry

-- two states without heads: the positive one is reached from the negative one alone
pub record IsPassage (a : Automaton) (n p : ℕ) : Type 0 where
  pub from : state_at a n ≡ negative empty_head
  pub to : state_at a p ≡ positive empty_head
  pub edges : (m : ℕ) → HasFlow a m p ↔ (m ≡ n)

pub record IsLiteralAt (a : Automaton) (r : ℕ) (h : Head) (env : List EnvEntry) : Type 0 where
  pub flows : HasTrueFlows a
  pub result : state_at a r ≡ positive h
  pub entries : AreEntries [] env

pub record IsBoundAt (a : Automaton) (x n p : ℕ) (env : List EnvEntry) : Type 0 where
  pub flows : HasTrueFlows a
  pub passage : IsPassage a n p
  pub entries : (entry : EnvEntry) → Contains env entry ↔ (entry ≡ record { binder = x; state = id n })

-- a projection from a binder, whose state is below the records with this field in the new state `n`
pub record IsBoundFieldAt (a : Automaton) (x : ℕ) (label : List ℕ) (n p d : ℕ) (env : List EnvEntry) : Type 0 where
  pub beside : AreSideBySide a [] (n ∷ p ∷ d ∷ [])
  pub passage : IsPassage a n p
  pub demand : state_at a d ≡ negative (record_head (record { label = label; set = n ∷ [] } ∷ []))
  pub entries : (entry : EnvEntry) → Contains env entry ↔ (entry ≡ record { binder = x; state = id d })

-- an application of a binder, whose state is below the functions from the argument to the new state `n`
pub record IsBoundCallAt (a : Automaton) (argument : TablePart) (x n p d : ℕ) (env : List EnvEntry) : Type 0 where
  pub beside : AreSideBySide a (argument ∷ []) (n ∷ p ∷ d ∷ [])
  pub passage : IsPassage a n p
  pub demand : state_at a d ≡ negative (function_head (argument.root.0 ∷ []) (n ∷ []))
  pub entries : (entry : EnvEntry) → Contains env entry ↔ (entry ≡ record { binder = x; state = id d }) ⊎ InEnvs (argument ∷ []) entry

-- a function, whose domain has just the states of its binder
pub record IsFunctionAt (a : Automaton) (body : TablePart) (x r : ℕ) (domain : List ℕ) (env : List EnvEntry) : Type 0 where
  pub beside : AreSideBySide a (body ∷ []) (r ∷ [])
  pub result : state_at a r ≡ positive (function_head domain (body.root.0 ∷ []))
  pub binder : HasSameMembers domain (states_of x body.env)
  pub entries : HasSameMembers env (without x body.env)

-- an application: the function is to be below the functions from the argument to the new state `n`
pub record IsApplicationAt (a : Automaton) (function argument : TablePart) (n p d : ℕ) (env : List EnvEntry) : Type 0 where
  pub beside : AreSideBySide a (function ∷ argument ∷ []) (n ∷ p ∷ d ∷ [])
  pub passage : IsPassage a n p
  pub demand : state_at a d ≡ negative (function_head (argument.root.0 ∷ []) (n ∷ []))
  pub entries : AreEntries (function ∷ argument ∷ []) env

-- a projection: the body is to be below the records with this field in the new state `n`
pub record IsProjectionAt (a : Automaton) (body : TablePart) (label : List ℕ) (n p d : ℕ) (env : List EnvEntry) : Type 0 where
  pub beside : AreSideBySide a (body ∷ []) (n ∷ p ∷ d ∷ [])
  pub passage : IsPassage a n p
  pub demand : state_at a d ≡ negative (record_head (record { label = label; set = n ∷ [] } ∷ []))
  pub entries : AreEntries (body ∷ []) env

-- a conditional: the condition is to be below `bool`, and both branches below the new state `n`
pub record IsChoiceAt (a : Automaton) (condition first second : TablePart) (n p d : ℕ) (env : List EnvEntry) : Type 0 where
  pub beside : AreSideBySide a (condition ∷ first ∷ second ∷ []) (n ∷ p ∷ d ∷ [])
  pub passage : IsPassage a n p
  pub demand : state_at a d ≡ negative bool_head
  pub entries : AreEntries (condition ∷ first ∷ second ∷ []) env

-- a recursion: the goals go from the root of its body to each state of its binder
pub record IsRecursionAt (body : TablePart) (x : ℕ) (goals : List (ℕ × ℕ)) (env : List EnvEntry) : Type 0 where
  pub goals_are : (p n : ℕ) → Contains goals (p, n) ↔ ((p ≡ body.root.0) × Contains (states_of x body.env) n)
  pub entries : HasSameMembers env (without x body.env)

pub record IsLetAt (a : Automaton) (first second : TablePart) (env : List EnvEntry) : Type 0 where
  pub beside : AreSideBySide a (first ∷ second ∷ []) []
  pub entries : AreEntries (first ∷ second ∷ []) env

-- a record, whose fields are the roots of its parts
pub record IsRecordAt (a : Automaton) (fields_of : TermFields) (parts : List TablePart) (r : ℕ) (fields : List FieldSet) (env : List EnvEntry) : Type 0 where
  pub beside : AreSideBySide a parts (r ∷ [])
  pub result : state_at a r ≡ positive (record_head fields)
  pub fields_are : AreFieldsOf fields_of (part_roots parts) fields
  pub entries : AreEntries parts env
