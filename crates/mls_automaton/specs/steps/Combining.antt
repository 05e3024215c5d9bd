-- Heads that are put together, field by field.
use Rattle.std.specs.Prelude.{◌≡◌, ℕ, ◌<◌, ◌≤◌, ◌-◌, List, [], ◌∷◌, ◌++◌, length, take, drop, reverse, get_or, All, Option}
use Rattle.std.specs.Ordering.{nat_cmp}
use Rattle.std.specs.declared.cmp.Ordering.{Ordering}
use Rattle.std.specs.declared.cmp.Ordering.TheVariants.{Less, Equal, Greater}
use Rattle.std.specs.Cmp.Lexicographic.{slice_cmp}
use Rattle.mls_automaton.specs.declared.automaton.Polarity.{Polarity}
use Rattle.mls_automaton.specs.declared.automaton.Polarity.TheVariants.{Positive, Negative}
use Rattle.mls_automaton.specs.declared.automaton.Arms.{Arms}
use Rattle.mls_automaton.specs.declared.automaton.FieldSet.{FieldSet}
use Rattle.mls_automaton.specs.Heads.{AreRising, IsSameOption, IsSameSet, combined_sets, set_at}

abbrev pub IsSameFunction : Option Arms → Option Arms → Type 0
IsSameFunction = IsSameOption (λ (f : Arms) g. IsSameSet f.domain g.domain × IsSameSet f.codomain g.codomain)

abbrev pub IsSameRecord : Option (List ℕ → Option (List ℕ)) → Option (List ℕ → Option (List ℕ)) → Type 0
IsSameRecord = IsSameOption (λ (f g : List ℕ → Option (List ℕ)). (label : List ℕ)
    → IsSameOption IsSameSet (f label) (g label))

-- all labels are below this one
abbrev pub AreBelow : List FieldSet → List ℕ → Type 0
AreBelow fields label = All (λ (field : FieldSet). slice_cmp nat_cmp field.label label ≡ Less) fields

-- the third record has what the two have together
pub record IsJoined (p : Polarity) (first second both : List FieldSet) : Type 0 where
  pub rising : AreRising both
  pub below : (label : List ℕ) → AreBelow first label → AreBelow second label → AreBelow both label
  pub value : (label : List ℕ) → IsSameOption IsSameSet (set_at both label)
      (combined_sets p (set_at first label) (set_at second label))

-- the polarity says whether a field of one record alone is there
abbrev pub with_one : Polarity → List FieldSet → FieldSet → List FieldSet
with_one Positive fields field = fields
with_one Negative fields field = fields ++ field ∷ []

-- a field that unites two
pub record IsUnited (x y z : FieldSet) : Type 0 where
  pub label : z.label ≡ x.label
  pub set : IsSameSet z.set (x.set ++ y.set)

-- The first i fields of the one and the first j of the other have been put together, and all others have higher labels.
pub record IsMerging (p : Polarity) (first second : List FieldSet) (i j : ℕ) (both : List FieldSet) : Type 0 where
  pub first_there : i ≤ length first
  pub second_there : j ≤ length second
  pub joined : IsJoined p (take i first) (take j second) both
  pub before_first : (d : FieldSet) → i < length first → AreBelow (take j second) (get_or first i d).label
  pub before_second : (d : FieldSet) → j < length second → AreBelow (take i first) (get_or second j d).label

-- What is left of two records, whose next fields are last, once the others have been put together.
pub record IsLeft (p : Polarity) (first second left others both : List FieldSet) : Type 0 where
  pub i : ℕ
  pub j : ℕ
  pub first_left : drop i first ≡ reverse left
  pub second_left : drop j second ≡ reverse others
  pub merging : IsMerging p first second i j both

-- the label of the field at the end
abbrev pub last_label : List FieldSet → FieldSet → List ℕ
last_label fields d = (get_or fields (length fields - 1) d).label

-- which of the fields at the ends has the lower label; a list without a field counts as higher
abbrev pub IsNext : List FieldSet → List FieldSet → Ordering → Type 0
IsNext left others Less = (0 < length left)
    × ((d e : FieldSet) → 0 < length others → slice_cmp nat_cmp (last_label left d) (last_label others e) ≡ Less)
IsNext left others Greater = (0 < length others)
    × ((d e : FieldSet) → 0 < length left → slice_cmp nat_cmp (last_label left d) (last_label others e) ≡ Greater)
IsNext left others Equal = (0 < length left) × (0 < length others)
    × ((d e : FieldSet) → slice_cmp nat_cmp (last_label left d) (last_label others e) ≡ Equal)

-- the field at the end was taken, and is there as the polarity says
abbrev pub TakesOne : Polarity → List FieldSet → List FieldSet → List FieldSet → List FieldSet → Type 0
TakesOne p old new both more = (x : FieldSet) × (old ≡ new ++ x ∷ []) × (more ≡ with_one p both x)

-- those at the ends of two were taken, and are there united
abbrev pub TakesTwo : List FieldSet → List FieldSet → List FieldSet → List FieldSet → List FieldSet → List FieldSet → Type 0
TakesTwo old new old' new' both more = (x : FieldSet) × (y : FieldSet) × (z : FieldSet) × (old ≡ new ++ x ∷ [])
    × (old' ≡ new' ++ y ∷ []) × (more ≡ both ++ z ∷ []) × IsUnited x y z
