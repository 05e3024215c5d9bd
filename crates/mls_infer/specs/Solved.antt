-- What solving answers: the solved automaton, or the first clash.
use Rattle.std.specs.Prelude.{◌≡◌, ℕ, List, slice_get, Contains, Option, Some, None}
use Rattle.mls_automaton.specs.declared.automaton.FieldSet.{FieldSet}
use Rattle.mls_automaton.specs.declared.automaton.Head.{Head}
use Rattle.mls_automaton.specs.Automata.{Automaton, head_at}
use Rattle.mls_automaton.specs.Models.{IsClosed}
use Rattle.mls_solver.specs.declared.goal.Clash.{Clash}
use Rattle.mls_solver.specs.declared.goal.ClashKind.{ClashKind}
use Rattle.mls_solver.specs.declared.goal.ClashKind.TheVariants as kind
use Rattle.mls_solver.specs.declared.goal.Goal.{Goal}
use Rattle.mls_solver.specs.Clashes.{HasNoClash, IsFirstClash, label_of}
use Rattle.mls_solver.specs.Relations.{IsGoal, IsRelated}
use Rattle.mls_solver.specs.Rooms.{Room, HoldsJust}
use Rattle.mls_solver.specs.Solved.{IsSolved}
use Rattle.mls_infer.specs.declared.fault.SiteKind.{SiteKind}
use Rattle.mls_infer.specs.declared.fault.SiteKind.TheVariants as told
use Rattle.mls_infer.specs.declared.solve.NoSolution.{NoSolution}
use Rattle.mls_infer.specs.declared.solve.NoSolution.TheVariants as none
use Rattle.mls_infer.specs.Constraints.{Constraint}
use Rattle.mls_infer.specs.Steps.{HasNoTypes}

-- the record has a field of this number
abbrev pub HasField : Option (List FieldSet) → ℕ → Type 0
HasField None i = ⊥
HasField (Some fields) i = (field : FieldSet) × (slice_get fields i ≡ Some field)

-- it tells the kind of a clash, with the label of the field that is lacking; the head is that of the negative state
abbrev pub TellsKind : Head → ClashKind → SiteKind → Type 0
TellsKind h (kind.Unlike first second) m = m ≡ told.Unlike first second
TellsKind h (kind.Lacks i) m = m ≡ told.Lacks (label_of h.fields i)

-- it tells the kind of the first clash of all that follows from these goals
pub record IsFirstKind (a : Automaton) (Goals : ℕ → ℕ → Type 0) (m : SiteKind) : Type 0 where
  pub clash : Clash
  pub first : IsFirstClash a (IsRelated a Goals) clash
  pub tells : TellsKind (head_at a clash.negative.0) clash.kind m

-- the automaton is solved by the closed relation of the goals, which a room holds and no pair of which clashes
pub record IsSolvedFor (a : Automaton) (goals : List Goal) (solved : Automaton) : Type 0 where
  pub room : Room
  pub relation : HoldsJust room (IsRelated a (IsGoal goals))
  pub free : HasNoClash a (IsRelated a (IsGoal goals))
  pub is_solved : IsSolved a (IsRelated a (IsGoal goals)) solved
  pub closed : IsClosed solved

-- a clash is the first one
abbrev pub ClashesFirst : Automaton → List Goal → NoSolution → Type 0
ClashesFirst a goals (none.Clash m) = IsFirstKind a (IsGoal goals) m
ClashesFirst a goals none.Memory = Unit {0}

-- where there is a clash, there are no types
abbrev pub IsClashWithout : Constraint → NoSolution → Type 0
IsClashWithout c (none.Clash m) = HasNoTypes c
IsClashWithout c none.Memory = Unit {0}

-- the goals of a constraint
abbrev pub GoalsOf : Constraint → ℕ → ℕ → Type 0
GoalsOf c p n = Contains c.goals (p, n)

-- a clash is the first one of the constraint
abbrev pub TellsFirstClash : Constraint → NoSolution → Type 0
TellsFirstClash c (none.Clash m) = IsFirstKind c.scheme.automaton (GoalsOf c) m
TellsFirstClash c none.Memory = Unit {0}
