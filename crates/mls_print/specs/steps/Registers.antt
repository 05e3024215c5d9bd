-- How sets get their numbers.
use Rattle.std.specs.Prelude.{◌≡◌, ◌⊎◌, ℕ, ◌<◌, List, [], ◌∷◌, ◌++◌, length, map, get_or, All, Contains, option_map}
use Rattle.std.specs.Prelude.{Option, Some, None}
use Rattle.std.specs.Global.{Vec}
use Rattle.std.specs.BTreeMap.{get}
use Rattle.std.specs.Ordering.{nat_cmp}
use Rattle.std.specs.Cmp.Lexicographic.{slice_cmp}
use Rattle.mls_automaton.specs.declared.automaton.Arms.{Arms}
use Rattle.mls_automaton.specs.Heads.{IsSameSet}
use Rattle.mls_print.specs.declared.register.Register.{Register}
use Rattle.mls_print.specs.declared.row.RowArms.{RowArms}
use Rattle.mls_print.specs.declared.row.RowField.{RowField}
use Rattle.mls_print.specs.steps.Printing.{LabelledSet}
use Rattle.mls_print.specs.steps.Rising.{AreRisingNumbers}
use Rattle.mls_print.specs.steps.Tables.{IsFunctionOf, arms_of, labelled, HasArmsBelow, HasFieldsBelow}

abbrev pub sets_in : Register → List (List ℕ)
sets_in register = map (λ set. set.items) register.sets.items

-- the set of a number
abbrev pub set_of : List (List ℕ) → ℕ → List ℕ
set_of sets n = get_or sets n []

abbrev pub number_in : Register → List ℕ → Option ℕ
number_in register = get (slice_cmp nat_cmp) register.numbers

-- each set rises, and has its place as its number
pub record IsRegister (register : Register) : Type 0 where
  pub rising : All AreRisingNumbers (sets_in register)
  pub numbered : (n : ℕ) → n < length (sets_in register) → number_in register (set_of (sets_in register) n) ≡ Some n
  pub found : (set : List ℕ) (n : ℕ) → number_in register set ≡ Some n
      → (n < length (sets_in register)) × (set_of (sets_in register) n ≡ set)

-- there are more sets than before, each of them such
pub record Adds (IsSuch : List ℕ → Type 0) (old new : List (List ℕ)) : Type 0 where
  pub more : List (List ℕ)
  pub grown : new ≡ old ++ more
  pub such : All IsSuch more

-- the number of the set of these members
pub record Numbers (states : List ℕ) (old new : List (List ℕ)) (n : ℕ) : Type 0 where
  pub adds : Adds (λ set. IsSameSet states set) old new
  pub below : n < length new
  pub same : IsSameSet states (set_of new n)

-- the numbers of the sets of a function
abbrev pub IsArm : Option Arms → List ℕ → Type 0
IsArm None set = ⊥
IsArm (Some arms) set = IsSameSet arms.domain set ⊎ IsSameSet arms.codomain set

pub record NumbersArms (arms : Option Arms) (old new : List (List ℕ)) (row : Option RowArms) : Type 0 where
  pub adds : Adds (IsArm arms) old new
  pub below : HasArmsBelow (length new) row
  pub same : IsFunctionOf arms (arms_of (set_of new) row)

-- the numbers of the sets of fields
abbrev pub IsSetOfField : List LabelledSet → List ℕ → Type 0
IsSetOfField fields set = (f : LabelledSet) × Contains fields f × IsSameSet f.set set

abbrev pub AreSameFields : List LabelledSet → List LabelledSet → Type 0
AreSameFields [] [] = Unit {0}
AreSameFields (f ∷ fs) (g ∷ gs) = (f.label ≡ g.label) × IsSameSet f.set g.set × AreSameFields fs gs
AreSameFields _ _ = ⊥

pub record NumbersFields (fields : List LabelledSet) (old new : List (List ℕ)) (row : List RowField) : Type 0 where
  pub adds : Adds (IsSetOfField fields) old new
  pub below : All (λ f. f.set < length new) row
  pub same : AreSameFields fields (map (labelled (set_of new)) row)

abbrev pub IsSetOfRecord : Option (List LabelledSet) → List ℕ → Type 0
IsSetOfRecord None set = ⊥
IsSetOfRecord (Some fields) set = IsSetOfField fields set

abbrev pub IsSameRecord : Option (List LabelledSet) → Option (List LabelledSet) → Type 0
IsSameRecord None None = Unit {0}
IsSameRecord (Some fields) (Some others) = AreSameFields fields others
IsSameRecord _ _ = ⊥

pub record NumbersRecord (fields : Option (List LabelledSet)) (old new : List (List ℕ))
    (row : Option (Vec RowField)) : Type 0 where
  pub adds : Adds (IsSetOfRecord fields) old new
  pub below : HasFieldsBelow (length new) row
  pub same : IsSameRecord fields (option_map (λ all. map (labelled (set_of new)) all.items) row)
