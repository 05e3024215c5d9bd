-- What the loop over the nodes keeps: the parts of finished nodes, which wait in the table or stand apart as known types,
-- and binders, of which nothing is in the table yet.
use Rattle.std.specs.Prelude.{◌≡◌, ◌≢◌, ℕ, List, [], ◌∷◌, ◌++◌, map, slice_get, slice_set, Contains, Option, Some, None}
use Rattle.mls_automaton.specs.declared.scheme.Scheme.{Scheme}
use Rattle.mls_automaton.specs.Environments.{BindersRise}
use Rattle.mls_automaton.specs.Schemes.{IsScheme}
use Rattle.mls_biunify.specs.Live.{IsLive, Live}
use Rattle.mls_term.specs.declared.term.TermForm.{TermForm}
use Rattle.mls_infer.specs.declared.done.Done.{Done}
use Rattle.mls_infer.specs.declared.done.Known.{Known}
use Rattle.mls_infer.specs.declared.done.Known.TheVariants as known
use Rattle.mls_infer.specs.Constraints.{Constraint, bound_scheme, no_goals}
use Rattle.mls_infer.specs.Fields.{IsKnownType}
use Rattle.mls_infer.specs.Finished.{Finished, HasEach}
use Rattle.mls_infer.specs.Finishing.{HasConstraint, IsAnswerBy, KeepsBut, Scope}
use Rattle.mls_infer.specs.Forms.{children}
use Rattle.mls_infer.specs.Merges.{AreAlike, HaveSameTypes}
use Rattle.mls_infer.specs.Pending.{AreWaiting, Changes, Waits, all_states, part_in}
use Rattle.mls_infer.specs.Regions.{AreApart, TablePart, scheme_at, schemes_at}
use Rattle.mls_infer.specs.Steps.{IsSolution}

-- a part gave way to a scheme with its types
pub record IsTakenOut (old : Live) (part : TablePart) (new : Live) (s : Scheme) : Type 0 where
  pub is_live : IsLive new
  pub scheme : IsScheme s
  pub rise : BindersRise s.env
  pub changes : Changes part.states old new []
  pub alike : HaveSameTypes (no_goals (scheme_at old.table part)) (no_goals s)

-- the states that a node has in the table
abbrev pub states_known : Known → List ℕ
states_known (known.Bound x) = []
states_known (known.Waiting part) = (part_in part).states
states_known (known.Named r) = []
states_known known.Taken = []

-- its scheme
abbrev pub scheme_known : Live → Known → Option Scheme
scheme_known live (known.Bound x) = Some (bound_scheme x)
scheme_known live (known.Waiting part) = Some (scheme_at live.table (part_in part))
scheme_known live (known.Named r) = Some r.value.scheme
scheme_known live known.Taken = None

abbrev pub Stands : Live → Known → Type 0
Stands live (known.Bound x) = Unit {0}
Stands live (known.Waiting part) = Waits live (part_in part)
Stands live (known.Named r) = IsKnownType r.value
Stands live known.Taken = Unit {0}

-- each node stands in the table or apart, and no two of them share a state
pub record AreDone (live : Live) (nodes : List Known) : Type 0 where
  pub is_live : IsLive live
  pub stand : (i : ℕ) (k : Known) → slice_get nodes i ≡ Some k → Stands live k
  pub apart : (i j : ℕ) (k l : Known) → i ≢ j → slice_get nodes i ≡ Some k → slice_get nodes j ≡ Some l
      → AreApart (states_known k) (states_known l)

abbrev pub schemes_known : Live → List Known → Finished
schemes_known live nodes = map (scheme_known live) nodes

-- parts in hand, which wait beside those of the nodes
pub record AreBeside (live : Live) (nodes : List Known) (parts : List TablePart) : Type 0 where
  pub waiting : AreWaiting live parts
  pub beside : (i : ℕ) (k : Known) → slice_get nodes i ≡ Some k → AreApart (all_states parts) (states_known k)

-- After some schemes were taken: their parts are in hand.
pub record AreTaken (first : Finished) (gone : List ℕ) (live : Live) (nodes : List Known) (parts : List TablePart) :
    Type 0 where
  pub done : AreDone live nodes
  pub beside : AreBeside live nodes parts
  pub alike : (ss : List Scheme) → HasEach first gone ss → AreAlike ss (schemes_at live.table parts)
  pub keeps : KeepsBut gone first (schemes_known live nodes)

-- The parts of a node gave way to one with the types of its constraint.
pub record IsBuiltIn (node : TermForm) (first : Finished) (live : Live) (nodes : List Known) (part : TablePart) :
    Type 0 where
  pub done : AreDone live nodes
  pub beside : AreBeside live nodes (part ∷ [])
  pub constraint : Constraint
  pub posed : HasConstraint node first constraint
  pub solution : IsSolution constraint (scheme_at live.table part)
  pub keeps : KeepsBut (children node) first (schemes_known live nodes)

-- A node is added: its scheme is known behind those of the others, and its parts may be gone.
pub record IsAddedIn (scope : Scope) (node : TermForm) (first : Finished) (live : Live) (nodes : List Known) :
    Type 0 where
  pub done : AreDone live nodes
  pub scheme : Scheme
  pub answer : IsAnswerBy scope node first scheme
  pub rest : Finished
  pub keeps : KeepsBut (children node) first rest
  pub adds : KeepsBut [] (rest ++ Some scheme ∷ []) (schemes_known live nodes)

-- The same, as the program keeps it.

abbrev pub IsDone : Done → Type 0
IsDone done = AreDone done.live done.nodes.items

abbrev pub finished_in : Done → Finished
finished_in done = schemes_known done.live done.nodes.items

abbrev pub IsBeside : Done → List TablePart → Type 0
IsBeside done parts = AreBeside done.live done.nodes.items parts

abbrev pub HasTaken : Done → List ℕ → Done → List TablePart → Type 0
HasTaken old gone new parts = AreTaken (finished_in old) gone new.live new.nodes.items parts

-- one more part was taken
abbrev pub TakesMore : Done → ℕ → Done → TablePart → Type 0
TakesMore old i new part =
    (first : Finished) (gone : List ℕ) (parts : List TablePart)
    → AreTaken first gone old.live old.nodes.items parts → (Contains gone i → ⊥)
    → AreTaken first (gone ++ i ∷ []) new.live new.nodes.items (parts ++ part ∷ [])

-- the node is a binder, and it is taken
pub record TakesBound (old : Done) (i x : ℕ) (new : Done) : Type 0 where
  pub is : slice_get old.nodes.items i ≡ Some (known.Bound x)
  pub live : new.live ≡ old.live
  pub left : new.nodes.items ≡ slice_set old.nodes.items i known.Taken

abbrev pub IsBuiltOf : TermForm → Done → Done → TablePart → Type 0
IsBuiltOf node old new part = IsBuiltIn node (finished_in old) new.live new.nodes.items part

abbrev pub IsAddedTo : Scope → TermForm → Done → Done → Type 0
IsAddedTo scope node old new = IsAddedIn scope node (finished_in old) new.live new.nodes.items

-- for each scheme that is told, one with the same types is known
abbrev pub IsTold : Finished → Done → Type 0
IsTold told done = KeepsBut [] told (finished_in done)
