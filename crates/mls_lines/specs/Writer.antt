-- What the writer of a part's lines knows, as the definitions say it, and how it grows.
use Rattle.std.specs.Prelude.{◌≡◌, ℕ, ◌<◌, List, [], ◌∷◌, ◌++◌, length, Option, Some, option_map}
use Rattle.std.specs.BTreeMap.{get}
use Rattle.std.specs.Ordering.{nat_cmp}
use Rattle.mls_book.specs.declared.book.NodeId.{NodeId}
use Rattle.mls_book.specs.declared.book.Node.{Node}
use Rattle.mls_book.specs.Books.{IsClosedBook}
use Rattle.mls_deriv.specs.declared.derivation.BinderNode.{BinderNode}
use Rattle.mls_deriv.specs.declared.derivation.StepRule.TheVariants as rule
use Rattle.mls_deriv.specs.Pairs.{put_at}
use Rattle.mls_deriv.specs.Sections.{steps_of}
use Rattle.mls_deriv.specs.Steps.{IsRising}
use Rattle.mls_layout.specs.declared.layout.LaidOut.{LaidOut}
use Rattle.mls_layout.specs.LaidOut.{place_of, IsLonger}
use Rattle.mls_layout.specs.Plans.{PlannedLine, a_step_with, HaveOwnVariables}
use Rattle.mls_layout.specs.Runs.{a_step}
use Rattle.mls_layout.specs.Scopes.{entry}
use Rattle.mls_parts.specs.declared.pose.Posing.{Posing}
use Rattle.mls_parts.specs.Posings.{binder_in}
use Rattle.mls_lines.specs.declared.steps.Conclusion as conclusion
use Rattle.mls_lines.specs.declared.writer.Concluded as written
use Rattle.mls_lines.specs.declared.writer.Concluded.TheVariants.{Bound, Step}
use Rattle.mls_lines.specs.declared.writer.Writer as state
use Rattle.mls_lines.specs.Conclusions.{Concluded, Conclusion, a_binder, by_step, bound_as, IsBrought, IsOffered}
use Rattle.mls_lines.specs.Stepping.{binder_node, conclusion_of, Adds, Stands}

-- what a node concludes
abbrev pub concluded_of : written.Concluded → Concluded
concluded_of (Bound x) = a_binder x
concluded_of (Step c) = by_step (conclusion_of c)

abbrev pub concluded_in : state.Writer → ℕ → Option Concluded
concluded_in w i = option_map concluded_of (get nat_cmp w.concluded i)

-- the node of a binder
abbrev pub own_node : state.Writer → Posing → ℕ → ℕ
own_node w p x = place_of w.laid.places (binder_in p x)

-- each binder of the environment has a node below this number
abbrev pub HasLowEnv : ℕ → List BinderNode → Type 0
HasLowEnv n d = (x m : ℕ) → binder_node d x ≡ Some m → m < n

-- the type, the nodes of the binders, and what variables stand for are below this number, and no variable stands twice
pub record HasLowNodes (n : ℕ) (c : conclusion.Conclusion) : Type 0 where
  pub root : c.root.0 < n
  pub env : HasLowEnv n c.env
  pub puts : (x m : ℕ) → put_at c.puts x ≡ Some m → m < n
  pub own : HaveOwnVariables c.puts

-- the environments of what nodes conclude rise
abbrev pub HaveRisingSteps : state.Writer → Type 0
HaveRisingSteps w = (i : ℕ) (c : conclusion.Conclusion) → get nat_cmp w.concluded i ≡ Some (Step c) → IsRising c.env

-- the nodes of what nodes conclude are nodes of the book
abbrev pub HaveLowSteps : state.Writer → Type 0
HaveLowSteps w = (i : ℕ) (c : conclusion.Conclusion) → get nat_cmp w.concluded i ≡ Some (Step c)
    → HasLowNodes (length w.laid.book) c

-- each of these is the conclusion of a step so far
abbrev pub HaveSteps : state.Writer → Type 0
HaveSteps w = (i : ℕ) (c : conclusion.Conclusion) → get nat_cmp w.concluded i ≡ Some (Step c)
    → Stands (steps_of w.steps.lines) c

-- the lines that give a node a step: a binder has this type alone, and another node has its step
abbrev pub IsTaken : Concluded → (count part u : ℕ) → List PlannedLine → Conclusion → Type 0
IsTaken (by_step c) count part u plan from = (plan ≡ []) × (from ≡ c)
IsTaken (a_binder x) count part u plan from =
    (plan ≡ a_step_with (a_step part rule.Var (entry x u ∷ []) u) [] ∷ []) × (from ≡ bound_as x u count)

-- no node concludes what it did not conclude before
abbrev pub ConcludesNoMore : (old new : state.Writer) → Type 0
ConcludesNoMore old new = (i : ℕ) (own : written.Concluded) → get nat_cmp new.concluded i ≡ Some own
    → get nat_cmp old.concluded i ≡ Some own

-- the step of a node is taken out, and a binder gets one of this type
pub record TakesStep (old new : state.Writer) (i : ℕ) (u : NodeId) (from : conclusion.Conclusion) : Type 0 where
  pub own : Concluded
  pub known : concluded_in old i ≡ Some own
  pub plan : List PlannedLine
  pub taken : IsTaken own (length (steps_of old.steps.lines)) i u.0 plan (conclusion_of from)
  pub adds : Adds old.laid.book old.steps new.steps plan
  pub stands : Stands (steps_of new.steps.lines) from
  pub rising : IsRising from.env
  pub low : HasLowNodes (length old.laid.book) from
  pub laid : new.laid ≡ old.laid
  pub fewer : ConcludesNoMore old new

-- The lines that are added bring what a node concludes to this environment and type.
pub record BringsNode (old new : state.Writer) (i : ℕ) (d : List BinderNode) (u : NodeId) (number : ℕ) : Type 0 where
  pub own : Concluded
  pub known : concluded_in old i ≡ Some own
  pub plan : List PlannedLine
  pub brought : IsBrought own (length (steps_of old.steps.lines)) i d u.0 plan number
  pub adds : Adds old.laid.book old.steps new.steps plan
  pub laid : new.laid ≡ old.laid
  pub fewer : ConcludesNoMore old new

-- What a node is offered where it has this type: the environment in which it has it with least effort.
pub record Offers (w : state.Writer) (p : Posing) (i u : ℕ) (d : List BinderNode) : Type 0 where
  pub own : Concluded
  pub known : concluded_in w i ≡ Some own
  pub offers : IsOffered (own_node w p) own u d
  pub rising : IsRising d

-- The book has more nodes, and the nodes of states are as they were.
pub record Lengthens (old new : LaidOut) : Type 0 where
  pub book : IsLonger old.book new.book
  pub places : new.places ≡ old.places
  pub own : new.own ≡ old.own
  pub boolean : new.boolean ≡ old.boolean
  pub integer : new.integer ≡ old.integer

-- The book has more nodes, and is closed if it was, and what was laid out, the lines and the conclusions are as they were.
pub record Grows (old new : state.Writer) : Type 0 where
  pub more : List Node
  pub book : new.laid.book ≡ old.laid.book ++ more
  pub closed : IsClosedBook old.laid.book → IsClosedBook new.laid.book
  pub places : new.laid.places ≡ old.laid.places
  pub own : new.laid.own ≡ old.laid.own
  pub boolean : new.laid.boolean ≡ old.laid.boolean
  pub integer : new.laid.integer ≡ old.laid.integer
  pub steps : new.steps ≡ old.steps
  pub concluded : new.concluded ≡ old.concluded
