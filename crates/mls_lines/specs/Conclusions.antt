-- What the step of a node concludes, as the steps of a section are written. A step names the binders alone that are
-- used below its node, and variables that stand for other nodes are still to be put in by a later step.
use Rattle.std.specs.Prelude.{◌≡◌, ◌⊎◌, ℕ, suc, ◌<◌, List, [], ◌∷◌, ◌++◌, length, Contains, Option, Some, None}
use Rattle.std.specs.FinMap as env
use Rattle.mls_book.specs.declared.book.Field.{Field}
use Rattle.mls_book.specs.declared.book.NodeId.{NodeId}
use Rattle.mls_book.specs.declared.book.Node.{Node}
use Rattle.mls_book.specs.declared.book.Node.TheVariants as node
use Rattle.mls_book.specs.Books.{node_at, field_at, IsClosedBook}
use Rattle.mls_term.specs.declared.term.Part.{Part}
use Rattle.mls_term.specs.declared.term.TermForm.TheVariants as form
use Rattle.mls_deriv.specs.declared.derivation.BinderNode.{BinderNode}
use Rattle.mls_deriv.specs.declared.derivation.Mode.{Mode}
use Rattle.mls_deriv.specs.declared.derivation.Mode.TheVariants.{Lr, Rl, Pp}
use Rattle.mls_deriv.specs.declared.derivation.SectionLine.{SectionLine}
use Rattle.mls_deriv.specs.declared.derivation.StepLine.{StepLine}
use Rattle.mls_deriv.specs.declared.derivation.StepRule.TheVariants as rule
use Rattle.mls_deriv.specs.declared.claim.Put.{Put}
use Rattle.mls_deriv.specs.Pairs.{put_at}
use Rattle.mls_deriv.specs.Steps.{env_of, IsRising, form_at, Before, Says}
use Rattle.mls_lines.specs.Orders.{JustifiesItself, IsOrder, Along}
use Rattle.mls_layout.specs.Plans.{PlannedLine, a_step_with, planned_steps, AreLinesOf}
use Rattle.mls_layout.specs.Rows.{at, concluded, Fits}
use Rattle.mls_layout.specs.Runs.{a_step, IsRun}
use Rattle.mls_layout.specs.Scopes.{entry}

-- the lines of the plan are allowed behind these steps, whichever lists of pairs its steps have
abbrev pub IsGood : Before → List StepLine → List PlannedLine → Type 0
IsGood b steps plan = (lines : List SectionLine) → AreLinesOf b.book steps plan lines
    → IsRun (at b steps) lines (at b (steps ++ planned_steps plan))

-- no variable of an own node of the part stands for another node
abbrev pub AreClear : List Node → (Own : ℕ → Type 0) → List Put → Type 0
AreClear book Own puts = (i x : ℕ) → Own i → node_at book i ≡ node.Var x → put_at puts x ≡ None

-- More variables stand for nodes, and no more of those of the part.
pub record Extends (book : List Node) (Own : ℕ → Type 0) (puts more : List Put) : Type 0 where
  pub same : (x n : ℕ) → put_at puts x ≡ Some n → put_at more x ≡ Some n
  pub clear : AreClear book Own puts → AreClear book Own more

-- a node that is read as it stands
abbrev pub IsUnread : List Node → (Own : ℕ → Type 0) → List Put → ℕ → Type 0
IsUnread book Own puts i = (puts ≡ []) ⊎ (AreClear book Own puts × Own i)

-- what a step concludes: its number, type and environment, and the variables that are still to be put in
pub record Conclusion : Type 0 where
  pub number : ℕ
  pub type : ℕ
  pub env : List BinderNode
  pub puts : List Put

-- what a node concludes: a binder may have any type, and another node has a step
pub data Concluded : Type 0 where
  a_binder : ℕ → Concluded
  by_step : Conclusion → Concluded

-- The lines that bring a conclusion to this environment and type: none where it has them, and else a step by pairs.
pub data IsAdapted (c : Conclusion) (count part : ℕ) (d : List BinderNode) (u : ℕ) : List PlannedLine → ℕ → Type 0
  where
    as_it_is : c.puts ≡ [] → c.type ≡ u → c.env ≡ d → IsAdapted c count part d u [] c.number
    by_pairs : IsAdapted c count part d u (a_step_with (a_step part (rule.Sub c.number) d u) c.puts ∷ []) count

-- a binder that has this type alone
abbrev pub bound_as : (x u number : ℕ) → Conclusion
bound_as x u number = record { number = number; type = u; env = entry x u ∷ []; puts = [] }

-- the same for what a node concludes, behind so many steps
abbrev pub IsBrought : Concluded → (count part : ℕ) → List BinderNode → ℕ → List PlannedLine → ℕ → Type 0
IsBrought (by_step c) count part d u plan number = IsAdapted c count part d u plan number
IsBrought (a_binder x) count part d u plan number = (rest : List PlannedLine)
    × (plan ≡ a_step_with (a_step part rule.Var (entry x u ∷ []) u) [] ∷ rest)
    × IsAdapted (bound_as x u count) (suc count) part d u rest number

-- The parts of a record, one after the other: each is brought to the field of its label.
abbrev pub AreBrought : (of : ℕ → Concluded) → List StepLine → List BinderNode → List Field → List Part
    → List PlannedLine → List ℕ → Type 0
AreBrought of steps d fields [] plan numbers = (plan ≡ []) × (numbers ≡ [])
AreBrought of steps d fields (part ∷ parts) plan numbers =
    (field : NodeId) × (field_at part.label fields ≡ Some field)
    × (first rest : List PlannedLine) × (number : ℕ) × (others : List ℕ)
    × (plan ≡ first ++ rest) × (numbers ≡ number ∷ others)
    × IsBrought (of part.child) (length steps) part.child d field.0 first number
    × AreBrought of (steps ++ planned_steps first) d fields parts rest others

-- an environment in which this binder has this node, and the others are as before
pub record IsWith (d : List BinderNode) (x i : ℕ) (longer : List BinderNode) : Type 0 where
  pub rising : IsRising longer
  pub found : env.get (env_of longer) x ≡ Some i
  pub others : (y : ℕ) → (y ≡ x → ⊥) → env.get (env_of longer) y ≡ env.get (env_of d) y

-- an environment without this binder
pub record IsWithout (d : List BinderNode) (x : ℕ) (shorter : List BinderNode) : Type 0 where
  pub rising : IsRising shorter
  pub gone : env.get (env_of shorter) x ≡ None
  pub others : (y : ℕ) → (y ≡ x → ⊥) → env.get (env_of shorter) y ≡ env.get (env_of d) y

-- Environments in which a binder may have its own node.
module _ (node_of : ℕ → ℕ) where
  -- the same binders with their own nodes
  pub record IsPlaced (d placed : List BinderNode) : Type 0 where
    pub rising : IsRising placed
    pub each : (x n : ℕ) → env.get (env_of d) x ≡ Some n → env.get (env_of placed) x ≡ Some (node_of x)
    pub only : (x n : ℕ) → env.get (env_of placed) x ≡ Some n → (m : ℕ) × (env.get (env_of d) x ≡ Some m)

  -- the environment in which a node has this type with least effort
  abbrev pub IsOffered : Concluded → ℕ → List BinderNode → Type 0
  IsOffered (a_binder x) u d = d ≡ entry x u ∷ []
  IsOffered (by_step c) u d = ((c.puts ≡ []) × (d ≡ c.env)) ⊎ IsPlaced c.env d

  -- In place of this node a binder has node n: it is the same, the binder's own, or a meet of two of which it is one.
  abbrev pub Replaces : List Node → (x m n : ℕ) → Type 0
  Replaces book x m n = (n ≡ m) ⊎ ((n ≡ node_of x)
      ⊎ ((l r : NodeId) × (node_at book n ≡ node.Meet l r) × ((l.0 ≡ m) ⊎ (r.0 ≡ m))))

  -- Where node n of a binder comes from that has these nodes in two environments: it is one of them, the binder's own, or
  -- the meet of both.
  abbrev pub ComesFrom : List Node → (left right : Option ℕ) → (x n : ℕ) → Type 0
  ComesFrom book left right x n = (left ≡ Some n) ⊎ ((right ≡ Some n)
      ⊎ (((n ≡ node_of x) × (m : ℕ) × (left ≡ Some m))
      ⊎ ((l r : NodeId) × (node_at book n ≡ node.Meet l r) × (left ≡ Some l.0) × (right ≡ Some r.0))))

  -- both environments in one: where a binder has two nodes, it may have its own, or their meet
  pub record IsJoined (book : List Node) (d e joined : List BinderNode) : Type 0 where
    pub rising : IsRising joined
    pub first : (x m : ℕ) → env.get (env_of d) x ≡ Some m
        → (n : ℕ) × (env.get (env_of joined) x ≡ Some n) × Replaces book x m n
    pub second : (x m : ℕ) → env.get (env_of e) x ≡ Some m
        → (n : ℕ) × (env.get (env_of joined) x ≡ Some n) × Replaces book x m n
    pub from : (x n : ℕ) → env.get (env_of joined) x ≡ Some n
        → ComesFrom book (env.get (env_of d) x) (env.get (env_of e) x) x n

  -- environments joined one after the other
  pub data AreJoined (book : List Node) : List BinderNode → List (List BinderNode) → List BinderNode → Type 0 where
    no_more : {d : List BinderNode} → AreJoined book d [] d
    one_more : {d e joined last : List BinderNode} {rest : List (List BinderNode)} → IsJoined book d e joined
        → AreJoined book joined rest last → AreJoined book d (e ∷ rest) last

  -- What a node concludes by a step of its own, for a let: a binder has its own node, and where variables are put in
  -- before, the type and the binders have their own nodes.
  pub data IsSettled (count part top : ℕ) : Concluded → List PlannedLine → Conclusion → Type 0 where
    a_bound : {x : ℕ} → IsSettled count part top (a_binder x)
        (a_step_with (a_step part rule.Var (entry x (node_of x) ∷ []) (node_of x)) [] ∷ [])
        (bound_as x (node_of x) count)
    settled : {c : Conclusion} → IsSettled count part top (by_step c) [] c
    put_in : {c : Conclusion} (placed : List BinderNode) (plan : List PlannedLine) (number : ℕ) → IsPlaced c.env placed
        → IsAdapted c count part placed top plan number
        → IsSettled count part top (by_step c) plan
        (record { number = number; type = top; env = placed; puts = [] })

-- The own nodes of the part, its order, and how nodes are read where variables stand for others; and the node of each
-- binder.
module _ (b : Before) (Own : ℕ → Type 0) (Below : ℕ → ℕ → Type 0) (Read : List Put → Mode → ℕ → ℕ → Type 0) (node_of : ℕ
    → ℕ) where
  -- The order goes on and justifies itself, and so does what is read; where no variable stands for another node it is in
  -- the order. A node that is read as it stands is itself, and the binders' nodes are own ones.
  pub record IsReading : Type 0 where
    pub closed : IsClosedBook b.book
    pub itself : (i : ℕ) → Below i i
    pub further : (i k j : ℕ) → Below i k → Below k j → Below i j
    pub is_order : IsOrder b.book Below
    pub justified : (puts : List Put) → JustifiesItself b.book puts (Read puts)
    pub plain : (puts : List Put) (i j : ℕ) → Read puts Pp i j → Below i j
    pub unread : (puts : List Put) (mode : Mode) (i : ℕ) → IsUnread b.book Own puts i → Read puts mode i i
    pub own_node : (x : ℕ) → Own (node_of x)
    pub low_node : (x : ℕ) → node_of x < length b.book

  -- node m is below node n, where variables of node n stand for others: a meet has one reason for each of its members
  pub data IsBinderAbove (puts : List Put) (m : ℕ) : ℕ → Type 0 where
    one : {n : ℕ} → Along (Read puts) Below Rl m n → IsBinderAbove puts m n
    both : {n : ℕ} (l r : NodeId) → node_at b.book n ≡ node.Meet l r → IsBinderAbove puts m l.0
        → IsBinderAbove puts m r.0 → IsBinderAbove puts m n

  -- The conclusion fits a node whose root has this place: its type is below it, and each binder has a node above its
  -- own, whichever variables are put in with those of the conclusion.
  pub record IsFit (c : Conclusion) (top : ℕ) : Type 0 where
    pub type : (puts : List Put) → Extends b.book Own c.puts puts → Along (Read puts) Below Lr c.type top
    pub binders : (puts : List Put) → Extends b.book Own c.puts puts
        → (x n : ℕ) → env.get (env_of c.env) x ≡ Some n → IsBinderAbove puts (node_of x) n

  -- a step about this part of the term concludes this
  pub record Concludes (steps : List StepLine) (part top : ℕ) (scope : List ℕ) (c : Conclusion) : Type 0 where
    pub says : Says (at b steps) c.number part (concluded b (env_of c.env) c.type)
    pub fits : Fits b c.env c.type
    pub low : (x n : ℕ) → put_at c.puts x ≡ Some n → n < length b.book
    pub fit : IsFit c top
    pub inside : (x n : ℕ) → env.get (env_of c.env) x ≡ Some n → Contains scope x

  abbrev pub HasConcluded : List StepLine → (part top : ℕ) → (scope : List ℕ) → Concluded → Type 0
  HasConcluded steps part top scope (a_binder x) =
      (form_at b.term_nodes part ≡ Some (form.Bound x)) × Below (node_of x) top × Contains scope x
  HasConcluded steps part top scope (by_step c) = Concludes steps part top scope c

  -- An environment of steps whose variables are all put in: each of its binders is around, and has a node above its
  -- own.
  pub record IsOuter (scope : List ℕ) (d : List BinderNode) : Type 0 where
    pub rising : IsRising d
    pub low : (x m : ℕ) → env.get (env_of d) x ≡ Some m → m < length b.book
    pub inside : (x m : ℕ) → env.get (env_of d) x ≡ Some m → Contains scope x
    pub above : (puts : List Put) → Extends b.book Own [] puts
        → (x m : ℕ) → env.get (env_of d) x ≡ Some m → IsBinderAbove puts (node_of x) m

  -- Node n of a binder serves a later environment where it had node m: it is the same, it is below the binder's own, or it
  -- is a meet of which one member serves.
  pub data ServesLater (x m : ℕ) : ℕ → Type 0 where
    as_it_was : ServesLater x m m
    below_own : {n : ℕ} → Below n (node_of x) → ServesLater x m n
    first_member : {n : ℕ} (l r : NodeId) → node_at b.book n ≡ node.Meet l r → ServesLater x m l.0 → ServesLater x m n
    second_member : {n : ℕ} (l r : NodeId) → node_at b.book n ≡ node.Meet l r → ServesLater x m r.0 → ServesLater x m n

  -- the second environment has the binders of the first, each with a node that serves in place of its own
  abbrev pub IsOver : (d later : List BinderNode) → Type 0
  IsOver d later = (x m : ℕ) → env.get (env_of d) x ≡ Some m
      → (n : ℕ) × (env.get (env_of later) x ≡ Some n) × ServesLater x m n
