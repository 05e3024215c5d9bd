-- What is written plainly for a node of a part: the lines that are told of its form, over the nodes that were laid out
-- for the states of the constraint.
use Rattle.std.specs.Prelude.{◌≡◌, ℕ, ◌<◌, List, ◌++◌, length, IsSome, Option, Some, None}
use Rattle.std.specs.BTreeMap.{BTreeMap, get}
use Rattle.std.specs.Ordering.{nat_cmp}
use Rattle.mls_book.specs.declared.book.Node.{Node}
use Rattle.mls_book.specs.Books.{IsClosedBook}
use Rattle.mls_automaton.specs.Automata.{Automaton}
use Rattle.mls_automaton.specs.declared.scheme.Scheme.{Scheme}
use Rattle.mls_term.specs.declared.term.TermForm.{TermForm}
use Rattle.mls_deriv.specs.declared.claim.Put.{Put}
use Rattle.mls_deriv.specs.declared.derivation.BinderNode.{BinderNode}
use Rattle.mls_deriv.specs.declared.derivation.StepLine.{StepLine}
use Rattle.mls_deriv.specs.Pairs.{put_at}
use Rattle.mls_deriv.specs.Sections.{steps_of}
use Rattle.mls_deriv.specs.Steps.{env_of, IsRising}
use Rattle.mls_layout.specs.declared.layout.Places.{Places}
use Rattle.mls_layout.specs.LaidOut as layout
use Rattle.mls_layout.specs.LaidOut.{place_of}
use Rattle.mls_layout.specs.Parts.{Constraint}
use Rattle.mls_layout.specs.Plans.{PlannedLine}
use Rattle.mls_parts.specs.declared.pose.Posing.{Posing}
use Rattle.mls_parts.specs.Posings.{binder_in, root_in}
use Rattle.mls_lines.specs.declared.known.FirstPart.{FirstPart}
use Rattle.mls_lines.specs.declared.known.GlobalAt.{GlobalAt}
use Rattle.mls_lines.specs.declared.steps.Conclusion as conclusion
use Rattle.mls_lines.specs.declared.writer.Concluded as written
use Rattle.mls_lines.specs.declared.writer.Concluded.TheVariants.{Bound, Step}
use Rattle.mls_lines.specs.declared.writer.Writer as state
use Rattle.mls_lines.specs.Conclusions.{Concluded, IsJoined, IsSettled}
use Rattle.mls_lines.specs.NodeLines.{Standing, NamesKnown, IsWrittenAs}
use Rattle.mls_lines.specs.Puts.{ArePutsAt}
use Rattle.mls_lines.specs.Writings.{IsPartOf}
use Rattle.mls_lines.specs.Stepping.{Adds, AreCounted, Stands, conclusion_of}
use Rattle.mls_lines.specs.Writer.{ConcludesNoMore, HasLowEnv, HasLowNodes, HaveLowSteps, HaveRisingSteps, HaveSteps}
use Rattle.mls_lines.specs.Writer.{Offers}
use Rattle.mls_lines.specs.Writer.{concluded_in, concluded_of, own_node}

-- where the states of a part stand whose heads have these parts
abbrev pub standing : state.Writer → Posing → (parts : ℕ → List ℕ) → Standing
standing w p parts =
    record { root = root_in p; binder = binder_in p; place = place_of w.laid.places; parts = parts }

-- the own nodes of states are parts of their heads
abbrev pub HasOwnParts : state.Writer → Automaton → (parts : ℕ → List ℕ) → Type 0
HasOwnParts w a parts = layout.HasOwnParts w.laid.book w.laid.own w.laid.boolean w.laid.integer a parts

-- what is known of names is what the section has of them
pub record AreNamesOf (globals : BTreeMap ℕ GlobalAt) (firsts : BTreeMap ℕ FirstPart) (names : NamesKnown) : Type 0
  where
    pub from : (g : ℕ) (known : GlobalAt) → get nat_cmp globals g ≡ Some known → names.from g ≡ known.first
    pub type : (g : ℕ) (known : GlobalAt) → get nat_cmp globals g ≡ Some known → names.type g ≡ known.root.0
    pub step : (k : ℕ) (part : FirstPart) → get nat_cmp firsts k ≡ Some part → names.step k ≡ part.step
    pub binders : (k : ℕ) (part : FirstPart) → get nat_cmp firsts k ≡ Some part → names.binders k ≡ part.env
    pub first_env : (k : ℕ) (part : FirstPart) → get nat_cmp firsts k ≡ Some part
        → (names.first k).env ≡ env_of part.env
    pub first_type : (k : ℕ) (part : FirstPart) → get nat_cmp firsts k ≡ Some part
        → (names.first k).type ≡ part.root.0

-- the environments of first parts rise
abbrev pub HaveRisingFirsts : BTreeMap ℕ FirstPart → Type 0
HaveRisingFirsts firsts = (k : ℕ) (part : FirstPart) → get nat_cmp firsts k ≡ Some part → IsRising part.env

-- these are the conclusions that the writer has
abbrev pub AreConclusionsOf : state.Writer → (ℕ → Concluded) → Type 0
AreConclusionsOf w of = (i : ℕ) (own : Concluded) → concluded_in w i ≡ Some own → of i ≡ own

-- the types and the binders of first parts have nodes below this number
abbrev pub HaveLowFirsts : ℕ → BTreeMap ℕ FirstPart → Type 0
HaveLowFirsts n firsts = (k : ℕ) (part : FirstPart) → get nat_cmp firsts k ≡ Some part
    → (part.root.0 < n) × HasLowEnv n part.env

-- so have the types of the names of the environment
abbrev pub HaveLowGlobals : ℕ → BTreeMap ℕ GlobalAt → Type 0
HaveLowGlobals n globals = (g : ℕ) (known : GlobalAt) → get nat_cmp globals g ≡ Some known → known.root.0 < n

-- the nodes of states are below this number
abbrev pub HaveLowPlaces : ℕ → Places → Type 0
HaveLowPlaces n places = (s : ℕ) → place_of places s < n

-- The steps are counted, and each conclusion is that of a step, whose environment rises. The book is closed, and the nodes
-- of states and those of conclusions are nodes of it.
pub record IsSound (w : state.Writer) : Type 0 where
  pub counted : AreCounted w.steps
  pub have : HaveSteps w
  pub rising : HaveRisingSteps w
  pub closed : IsClosedBook w.laid.book
  pub places : HaveLowPlaces (length w.laid.book) w.laid.places
  pub low : HaveLowSteps w

-- the same for what a node concludes behind these steps, over this book
abbrev pub IsSoundOwn : List Node → List StepLine → written.Concluded → Type 0
IsSoundOwn book steps (Bound x) = Unit {0}
IsSoundOwn book steps (Step c) = Stands steps c × IsRising c.env × HasLowNodes (length book) c

-- The book has more nodes, and is closed if it was, what was laid out is as it was, and no node concludes anything more.
pub record GoesOn (old new : state.Writer) : Type 0 where
  pub more : List Node
  pub book : new.laid.book ≡ old.laid.book ++ more
  pub closed : IsClosedBook old.laid.book → IsClosedBook new.laid.book
  pub places : new.laid.places ≡ old.laid.places
  pub own : new.laid.own ≡ old.laid.own
  pub boolean : new.laid.boolean ≡ old.laid.boolean
  pub integer : new.laid.integer ≡ old.laid.integer
  pub fewer : ConcludesNoMore old new

-- What the three parts of a conditional are offered, in one environment: the condition at the first type, and the
-- branches at the second.
pub record JoinsThree (old new : state.Writer) (p : Posing) (j k l truth into : ℕ) (d : List BinderNode) : Type 0 where
  pub left : List BinderNode
  pub middle : List BinderNode
  pub right : List BinderNode
  pub upper : List BinderNode
  pub offers_left : Offers old p j truth left
  pub offers_middle : Offers old p k into middle
  pub offers_right : Offers old p l into right
  pub joins_upper : IsJoined (own_node old p) new.laid.book left middle upper
  pub joins : IsJoined (own_node old p) new.laid.book upper right d

-- The step of a node is taken out, whatever its type is; a binder gets one that has its own node.
pub record TakesOwn (old new : state.Writer) (p : Posing) (i : ℕ) (from : conclusion.Conclusion) : Type 0 where
  pub own : Concluded
  pub known : concluded_in old i ≡ Some own
  pub plan : List PlannedLine
  pub settles : (top : ℕ)
      → IsSettled (own_node old p) (length (steps_of old.steps.lines)) i top own plan (conclusion_of from)
  pub adds : Adds old.laid.book old.steps new.steps plan
  pub stands : Stands (steps_of new.steps.lines) from
  pub rising : IsRising from.env
  pub low : HasLowNodes (length old.laid.book) from
  pub laid : new.laid ≡ old.laid
  pub fewer : ConcludesNoMore old new

-- The lines that are added give a node a step for a let, in which none of these variables is still to be put in.
pub record SettlesNode (old new : state.Writer) (p : Posing) (i : ℕ) (puts : List Put) (second : conclusion.Conclusion) :
    Type 0 where
  pub own : Concluded
  pub known : concluded_in old i ≡ Some own
  pub plan : List PlannedLine
  pub settles : IsSettled (own_node old p) (length (steps_of old.steps.lines)) i (place_of old.laid.places (root_in p i))
      own plan (conclusion_of second)
  pub adds : Adds old.laid.book old.steps new.steps plan
  pub rising : IsRising second.env
  pub low : HasLowNodes (length old.laid.book) second
  pub apart : (x n : ℕ) → put_at puts x ≡ Some n → put_at second.puts x ≡ None
  pub laid : new.laid ≡ old.laid
  pub fewer : ConcludesNoMore old new

-- Lines of a plan are added, with lists of pairs over the book and each longer one.
pub record AddsLines (old new : state.Writer) (plan : List PlannedLine) : Type 0 where
  pub goes_on : GoesOn old new
  pub sound : IsSound new
  pub adds : Adds new.laid.book old.steps new.steps plan

-- these variables are put in at a node, where some are
abbrev pub ArePutIn : Option (List Put) → List Put → Type 0
ArePutIn None puts = Unit {0}
ArePutIn (Some own) puts = puts ≡ own

-- The lines of node i, of this form, are added as they are told of it, whatever is known of names: these variables are
-- put in at the node, and its parts are nodes that conclude something.
pub record WritesNode (globals : BTreeMap ℕ GlobalAt) (firsts : BTreeMap ℕ FirstPart) (lets : BTreeMap ℕ Scheme)
    (c : Constraint) (p : Posing) (parts : ℕ → List ℕ) (i : ℕ) (f : TermForm) (old new : state.Writer)
    (own : written.Concluded) : Type 0 where
  pub puts : Option (List Put)
  pub plan : List PlannedLine
  pub tells : (names : NamesKnown) → AreNamesOf globals firsts names → ArePutIn puts (names.puts i) → (of : ℕ → Concluded)
      → AreConclusionsOf old of → IsWrittenAs new.laid.book c (standing old p parts) names of f i
      (steps_of old.steps.lines) plan (concluded_of own)
  pub puts_are : IsClosedBook old.laid.book → ArePutsAt new.laid.book old.laid.places p globals firsts lets i f puts
  pub used : (j : ℕ) → IsPartOf f j → IsSome (concluded_in old j)
  pub continues : AddsLines old new plan
  pub sound_own : IsSoundOwn new.laid.book (steps_of new.steps.lines) own
