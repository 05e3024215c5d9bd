-- Heads with one state for each of their sets, which is the number of the set.
use Rattle.std.specs.Prelude.{◌≡◌, ◌⊎◌, ℕ, List, [], ◌∷◌, Contains, Option, Some, None}
use Rattle.mls_automaton.specs.declared.automaton.Polarity.{Polarity}
use Rattle.mls_automaton.specs.declared.automaton.Arms.{Arms}
use Rattle.mls_automaton.specs.declared.automaton.FieldSet.{FieldSet}
use Rattle.mls_automaton.specs.declared.automaton.Head.{Head}
use Rattle.mls_automaton.specs.Automata.{opposite}
use Rattle.mls_automaton.specs.Reached.{InFunction, InAnyField, InRecord, HeadNames}
use Rattle.mls_shape.specs.declared.register.SetState.{SetState}
use Rattle.mls_shape.specs.steps.Registers.{IsAt, Grows}

-- the set has one state, which is the number of these members
abbrev pub IsOne : List SetState → Polarity → List ℕ → List ℕ → Type 0
IsOne sets p members set = (n : ℕ) × (set ≡ n ∷ []) × IsAt sets n p members

abbrev pub IsFunctionOf : List SetState → Polarity → Option Arms → Option Arms → Type 0
IsFunctionOf sets p None None = Unit {0}
IsFunctionOf sets p (Some arms) (Some row) =
    IsOne sets (opposite p) arms.domain row.domain × IsOne sets p arms.codomain row.codomain
IsFunctionOf sets p _ _ = ⊥

abbrev pub AreFieldsOf : List SetState → Polarity → List FieldSet → List FieldSet → Type 0
AreFieldsOf sets p [] [] = Unit {0}
AreFieldsOf sets p (f ∷ fields) (g ∷ row) =
    (f.label ≡ g.label) × IsOne sets p f.set g.set × AreFieldsOf sets p fields row
AreFieldsOf sets p _ _ = ⊥

abbrev pub IsRecordOf : List SetState → Polarity → Option (List FieldSet) → Option (List FieldSet) → Type 0
IsRecordOf sets p None None = Unit {0}
IsRecordOf sets p (Some fields) (Some row) = AreFieldsOf sets p fields row
IsRecordOf sets p _ _ = ⊥

-- the second head has the same as the first, with one state for each set
pub record IsHeadOf (sets : List SetState) (p : Polarity) (head row : Head) : Type 0 where
  pub boolean : row.boolean ≡ head.boolean
  pub integer : row.integer ≡ head.integer
  pub function : IsFunctionOf sets p head.function row.function
  pub fields : IsRecordOf sets p head.fields row.fields

-- all sets that are new are named
pub record NumbersSet (p : Polarity) (members : List ℕ) (old new : List SetState) (set : List ℕ) : Type 0 where
  pub grows : Grows (Contains set) old new
  pub is : IsOne new p members set

pub record NumbersArms (p : Polarity) (arms : Arms) (old new : List SetState) (row : Arms) : Type 0 where
  pub grows : Grows (λ k. Contains row.domain k ⊎ Contains row.codomain k) old new
  pub domain : IsOne new (opposite p) arms.domain row.domain
  pub codomain : IsOne new p arms.codomain row.codomain

pub record NumbersFunction (p : Polarity) (function : Option Arms) (old new : List SetState)
    (row : Option Arms) : Type 0 where
  pub grows : Grows (InFunction row) old new
  pub is : IsFunctionOf new p function row

pub record NumbersFields (p : Polarity) (fields : List FieldSet) (old new : List SetState)
    (row : List FieldSet) : Type 0 where
  pub grows : Grows (InAnyField row) old new
  pub is : AreFieldsOf new p fields row

pub record NumbersRecord (p : Polarity) (fields : Option (List FieldSet)) (old new : List SetState)
    (row : Option (List FieldSet)) : Type 0 where
  pub grows : Grows (InRecord row) old new
  pub is : IsRecordOf new p fields row

pub record NumbersHead (p : Polarity) (head : Head) (old new : List SetState) (row : Head) : Type 0 where
  pub grows : Grows (HeadNames row) old new
  pub is : IsHeadOf new p head row
