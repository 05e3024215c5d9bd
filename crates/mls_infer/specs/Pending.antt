-- Parts of a term that wait in the table which they share, and how the table changes.
use Rattle.std.specs.Prelude.{◌≡◌, ◌↔◌, ◌⊎◌, ℕ, Bool, true, false, ◌<◌, List, [], ◌∷◌, ◌++◌, length, map, Contains}
use Rattle.mls_automaton.specs.declared.automaton.Polarity.{Polarity}
use Rattle.mls_automaton.specs.declared.automaton.Polarity.TheVariants.{Negative}
use Rattle.mls_automaton.specs.declared.automaton.State.{State}
use Rattle.mls_automaton.specs.declared.state_set.StateId.{StateId}
use Rattle.mls_automaton.specs.declared.scheme.EnvEntry.{EnvEntry}
use Rattle.mls_automaton.specs.declared.scheme.Scheme.{Scheme}
use Rattle.mls_automaton.specs.Automata.{Automaton, HasFlow, state_at}
use Rattle.mls_automaton.specs.Models.{IsClosed}
use Rattle.mls_solver.specs.declared.goal.Clash.{Clash}
use Rattle.mls_solver.specs.declared.goal.Goal.{Goal}
use Rattle.mls_solver.specs.declared.goal.Refusal.TheVariants.{Clashing}
use Rattle.mls_biunify.specs.Live.{AreRelated, IsLive, IsLiveState, IsRefusalOf, IsSolvedFor, IsThere, Live, numbers_in}
use Rattle.mls_solver.specs.Relations.{IsGoal, IsRelated}
use Rattle.mls_solver.specs.Solved.{IsSolved}
use Rattle.mls_term.specs.declared.term.TermForm.{TermForm}
use Rattle.mls_infer.specs.declared.fault.SiteKind.{SiteKind}
use Rattle.mls_infer.specs.declared.forms.Rows.{Rows}
use Rattle.mls_infer.specs.declared.pending.Pending.{Pending}
use Rattle.mls_infer.specs.declared.region.Region.{Region}
use Rattle.mls_infer.specs.declared.solve.NoSolution.{NoSolution}
use Rattle.mls_infer.specs.declared.solve.NoSolution.TheVariants as no_solution
use Rattle.mls_infer.specs.Constraints.{Constraint, no_goals}
use Rattle.mls_infer.specs.Forms.{IsPosed}
use Rattle.mls_infer.specs.Joining.{AreRows}
use Rattle.mls_infer.specs.Merges.{AreAlike, HaveSameTypes}
use Rattle.mls_infer.specs.Regions.{AreApart, ChangesWithin, InEnvs, IsSeparatePart, TablePart, part_roots, scheme_at}
use Rattle.mls_infer.specs.Regions.{schemes_at}
use Rattle.mls_infer.specs.Solved.{TellsFirstClash}
use Rattle.mls_infer.specs.Steps.{HasNoTypes, IsSolution}

-- Parts as the program keeps them.

-- the states of a region
abbrev pub states_in : Region → List ℕ
states_in region = numbers_in region.states.items

abbrev pub part_in : Pending → TablePart
part_in p = record { states = states_in p.region; env = p.env; root = p.root }

-- the states of several parts
abbrev pub all_states : List TablePart → List ℕ
all_states [] = []
all_states (part ∷ rest) = part.states ++ all_states rest

-- How the table grows.

abbrev pub numbered : ℕ × State → ℕ
numbered new = new.0

-- these states came under numbers that were free, and these edges; all else stays
pub record Grows (old new : Live) (states : List (ℕ × State)) (edges : List (ℕ × ℕ)) : Type 0 where
  pub live_old : IsLive old
  pub live_new : IsLive new
  pub fresh : (s : ℕ) → Contains (map numbered states) s → IsThere old s → ⊥
  pub there : (s : ℕ) → IsThere new s ↔ IsThere old s ⊎ Contains (map numbered states) s
  pub here : (s : ℕ) (state : State) → Contains states (s, state) → state_at new.table s ≡ state
  pub others : (s : ℕ) → IsThere old s → state_at new.table s ≡ state_at old.table s
  pub flows : (n p : ℕ) → HasFlow new.table n p ↔ HasFlow old.table n p ⊎ Contains edges (n, p)

-- How it changes.

-- the part stands in the table, apart from all else
pub record Waits (live : Live) (waiting : TablePart) : Type 0 where
  pub there : (s : ℕ) → Contains waiting.states s → IsThere live s
  pub part : IsSeparatePart live.table waiting.states waiting.env waiting.root

-- each does, and no two of them share a state
abbrev pub AreWaiting : Live → List TablePart → Type 0
AreWaiting live [] = Unit {0}
AreWaiting live (part ∷ rest) = Waits live part × AreApart part.states (all_states rest) × AreWaiting live rest

-- Some states were taken, and some were made of them and of numbers that were free. All that was touched was taken or
-- was free.
pub record Changes (taken : List ℕ) (old new : Live) (made : List ℕ) : Type 0 where
  pub touched : List ℕ
  pub within : ChangesWithin touched old.table new.table
  pub touched_of : (s : ℕ) → Contains touched s → Contains taken s ⊎ (IsThere old s → ⊥)
  pub stays : (s : ℕ) → IsThere old s → Contains taken s ⊎ IsThere new s
  pub made_of : (s : ℕ) → Contains made s → Contains taken s ⊎ (IsThere old s → ⊥)

-- a part gave way to another one with the same types
pub record IsRemade (old : Live) (part : TablePart) (new : Live) (other : TablePart) : Type 0 where
  pub waits : Waits new other
  pub changes : Changes part.states old new other.states
  pub alike : HaveSameTypes (no_goals (scheme_at old.table part)) (no_goals (scheme_at new.table other))

-- a copy of a scheme came
pub record IsCopied (s : Scheme) (old new : Live) (part : TablePart) : Type 0 where
  pub waits : Waits new part
  pub changes : Changes [] old new part.states
  pub alike : HaveSameTypes (no_goals s) (no_goals (scheme_at new.table part))

-- The part of a node.

-- the constraint of a node over the schemes of its parts, or over others with the same types
pub record IsPosedOver (node : TermForm) (schemes : List Scheme) (c : Constraint) : Type 0 where
  pub taken : List Scheme
  pub alike : AreAlike schemes taken
  pub is : IsPosed node taken c

-- the parts gave way to that of the node, which has just the types of its constraint
pub record IsMade (node : TermForm) (old : Live) (parts : List TablePart) (new : Live) (part : TablePart) : Type 0 where
  pub waits : Waits new part
  pub changes : Changes (all_states parts) old new part.states
  pub constraint : Constraint
  pub posed : IsPosedOver node (schemes_at old.table parts) constraint
  pub solution : IsSolution constraint (scheme_at new.table part)

-- the parts gave way to one with just the types of this constraint
pub record IsMadeWith (c : Constraint) (old : Live) (parts : List TablePart) (new : Live) (part : TablePart) : Type 0 where
  pub waits : Waits new part
  pub changes : Changes (all_states parts) old new part.states
  pub solution : IsSolution c (scheme_at new.table part)

-- the constraint of a node has no types, and this is the kind of its first clash
pub record HasClash (node : TermForm) (live : Live) (parts : List TablePart) (m : SiteKind) : Type 0 where
  pub constraint : Constraint
  pub posed : IsPosedOver node (schemes_at live.table parts) constraint
  pub none : HasNoTypes constraint
  pub first : TellsFirstClash constraint (no_solution.Clash m)

abbrev pub StopsOver : TermForm → Live → List TablePart → NoSolution → Type 0
StopsOver node live parts (no_solution.Clash m) = HasClash node live parts m
StopsOver node live parts no_solution.Memory = Unit {0}

-- The parts of a record side by side: their states, the entries of their binders, and their roots by their labels.
pub record AreRowsOf (labels : List (List ℕ)) (parts : List TablePart) (rows : Rows) : Type 0 where
  pub each : length labels ≡ length parts
  pub roots : AreRows (length labels) labels (part_roots parts) rows.roots
  pub states : (s : ℕ) → Contains (states_in rows.region) s ↔ Contains (all_states parts) s
  pub env : (entry : EnvEntry) → Contains rows.env entry ↔ InEnvs parts entry

-- One entry stands for some of one binder, wherever they are found: all that was there stays, and whatever part has these
-- states and these entries is remade with the new ones.
pub record IsMeeting (old : Live) (states : List ℕ) (entries : List EnvEntry) (new : Live) (more : List ℕ) (entry : EnvEntry) :
    Type 0 where
  pub binder : (e : EnvEntry) → Contains entries e → e.binder ≡ entry.binder
  pub state : IsLiveState new Negative entry.state.0
  pub stays : (p : Polarity) (s : ℕ) → IsLiveState old p s → IsLiveState new p s
  pub remade : (others : List EnvEntry) (root : StateId)
      → Waits old (record { states = states; env = entries ++ others; root = root })
      → IsRemade old (record { states = states; env = entries ++ others; root = root })
      new (record { states = more; env = entry ∷ others; root = root })

-- Goals were solved in place.
pub record IsSettled (old : Live) (goals : List Goal) (new : Live) : Type 0 where
  pub live_old : IsLive old
  pub live_new : IsLive new
  pub numbers : new.there ≡ old.there
  pub mid : Live
  pub same : mid.table ≡ old.table
  pub same_numbers : mid.there ≡ old.there
  pub related : IsSolvedFor mid goals
  pub solved : IsSolved mid.table (AreRelated mid) new.table

-- They clash, and the table is as before.
pub record IsRefused (old : Live) (goals : List Goal) (new : Live) : Type 0 where
  pub live_old : IsLive old
  pub same : new.table ≡ old.table
  pub numbers : new.there ≡ old.there
  pub clash : Clash
  pub refused : IsRefusalOf new (IsRelated old.table (IsGoal goals)) (Clashing clash)

abbrev pub Solves : Live → List Goal → Live → Bool → Type 0
Solves old goals new true = IsSettled old goals new
Solves old goals new false = IsRefused old goals new

-- an automaton with the states and edges of the table
pub record IsSameTable (live : Live) (a : Automaton) : Type 0 where
  pub states : (s : ℕ) → state_at a s ≡ state_at live.table s
  pub there : (s : ℕ) → IsThere live s → s < length a.states
  pub flows : (n p : ℕ) → HasFlow a n p ↔ HasFlow live.table n p
  pub closed : IsClosed a

-- over such automata, one for each part
abbrev pub OverSame : Live → (Automaton → Type 0) → Type 0
OverSame live P = (a : Automaton) × IsSameTable live a × P a

abbrev pub OverAllSame : Live → (Automaton → Type 0) → Type 0
OverAllSame live P = (a : Automaton) → IsSameTable live a → P a
