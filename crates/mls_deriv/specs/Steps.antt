-- Which steps of a section are allowed.
use Rattle.std.specs.Prelude.{◌≡◌, ◌⊎◌, ◌↔◌, Bool, ℕ, ◌+◌, ◌<◌, ◌≤◌, List, [], ◌∷◌, map, length, All, slice_get}
use Rattle.std.specs.Prelude.{option_map, Contains, IsSome, Option, Some}
use Rattle.std.specs.FinMap as env
use Rattle.std.specs.Ordering.{nat_cmp}
use Rattle.mls_book.specs.declared.book.Field.{Field}
use Rattle.mls_book.specs.declared.book.NodeId.{NodeId}
use Rattle.mls_book.specs.declared.book.Node.{Node}
use Rattle.mls_book.specs.declared.book.Node.TheVariants as node
use Rattle.mls_book.specs.Books.{node_at, field_at}
use Rattle.mls_book.specs.Schemes.{Env, Scheme, IsScheme}
use Rattle.mls_term.specs.declared.term.Part.{Part}
use Rattle.mls_term.specs.declared.term.TermNode.{TermNode}
use Rattle.mls_term.specs.declared.term.TermForm.{TermForm}
use Rattle.mls_term.specs.declared.term.TermForm.TheVariants as form
use Rattle.mls_term.specs.Derivations.{over, Takes, IsMeet}
use Rattle.mls_deriv.specs.declared.derivation.BinderNode.{BinderNode}
use Rattle.mls_deriv.specs.declared.derivation.Mode.TheVariants.{Lr, Rl}
use Rattle.mls_deriv.specs.declared.derivation.SectionLine.{SectionLine}
use Rattle.mls_deriv.specs.declared.derivation.SectionLine.TheVariants as line
use Rattle.mls_deriv.specs.declared.derivation.StepLine.{StepLine}
use Rattle.mls_deriv.specs.declared.derivation.StepRule.TheVariants as rule
use Rattle.mls_deriv.specs.Pairs.{Put, Pair, put_at, Claims, AreJustified}

-- the put lines and the pair lines that follow a step
abbrev pub puts_of : List SectionLine → List Put
puts_of [] = []
puts_of (line.Let k number ∷ rest) = []
puts_of (line.Step step ∷ rest) = []
puts_of (line.Put x n ∷ rest) = record { variable = x; node = n.0 } ∷ puts_of rest
puts_of (line.Pair mode i j ∷ rest) = puts_of rest

abbrev pub pairs_of : List SectionLine → List Pair
pairs_of [] = []
pairs_of (line.Let k number ∷ rest) = []
pairs_of (line.Step step ∷ rest) = []
pairs_of (line.Put x n ∷ rest) = pairs_of rest
pairs_of (line.Pair mode i j ∷ rest) = record { mode = mode; left = i.0; right = j.0 } ∷ pairs_of rest

-- the environment of a step
abbrev pub env_of : List BinderNode → Env
env_of entries = env.from_entries (map (λ entry. (entry.binder, entry.node.0)) entries)

-- the scheme that a step concludes
abbrev pub conclusion : List Node → StepLine → Scheme
conclusion book step = record { book = book; env = env_of step.env; root = step.root.0 }

-- the node of this number, if there is one
abbrev pub form_at : List TermNode → ℕ → Option TermForm
form_at nodes e = option_map (λ node. node.form) (slice_get nodes e)

-- a node whose children have numbers that are higher by n
abbrev pub raised_id : ℕ → NodeId → NodeId
raised_id n id = record { 0 = n + id.0 }

abbrev pub raised_field : ℕ → Field → Field
raised_field n field = record { label = field.label; node = raised_id n field.node }

abbrev pub raised : ℕ → Node → Node
raised n node.Bot = node.Bot
raised n node.Top = node.Top
raised n (node.Var x) = node.Var x
raised n node.Bool = node.Bool
raised n node.Int = node.Int
raised n (node.Arrow j k) = node.Arrow (raised_id n j) (raised_id n k)
raised n (node.Rcd fields) = node.Rcd (map (raised_field n) fields)
raised n (node.Join j k) = node.Join (raised_id n j) (raised_id n k)
raised n (node.Meet j k) = node.Meet (raised_id n j) (raised_id n k)

-- the book has the nodes of another from the number n on
pub record HasFrom (book : List Node) (n : ℕ) (other : List Node) : Type 0 where
  pub within : n + length other ≤ length book
  pub nodes : (i : ℕ) → i < length other → node_at book (n + i) ≡ raised n (node_at other i)

-- what a step can refer to: the term that the section is about, the schemes of its environment, the nodes of the
-- section, the steps before it, and the let lines before it
pub record Before : Type 0 where
  pub term_nodes : List TermNode
  pub globals : List Scheme
  pub book : List Node
  pub steps : List StepLine
  pub lets : List (ℕ × ℕ)

-- the earlier step of this number is about this part of the term, and concludes this
pub record Says (b : Before) (number part : ℕ) (s : Scheme) : Type 0 where
  pub step : StepLine
  pub stands : slice_get b.steps number ≡ Some step
  pub about : step.node ≡ part
  pub concludes : conclusion b.book step ≡ s

-- the steps are about the parts of a record, in order, and have the types of the fields of their labels
abbrev pub AllSay : Before → List ℕ → List Part → Scheme → List Field → Type 0
AllSay b [] [] s fields = Unit {0}
AllSay b (number ∷ numbers) (part ∷ parts) s fields =
    ((i : NodeId) × (field_at part.label fields ≡ Some i) × Says b number part.child (over s s.env i.0))
    × AllSay b numbers parts s fields
AllSay b _ _ s fields = ⊥

-- the fields have the labels of the parts and no others
abbrev pub HaveLabelsOf : List Part → List Field → Type 0
HaveLabelsOf parts fields = (label : List ℕ)
    → IsSome (field_at label fields) ↔ Contains (map (λ part. part.label) parts) label

-- a binder's node is kept by a subsumption: there is a pair for it, or it is a `Top`
abbrev pub IsKept : List Node → List Pair → Option ℕ → ℕ → Type 0
IsKept book pairs found n = ((m : ℕ) × (found ≡ Some m) × Claims pairs Rl m n) ⊎ (node_at book n ≡ node.Top)

-- The step is allowed by its rule. The rules are those of typing, where the premises are earlier steps; each asks that
-- the step is about a part of the term of its form.
pub data IsAllowedByRule (b : Before) (puts : List Put) (pairs : List Pair) (step : StepLine) (s : Scheme) :
    Type 0 where
  var : (x : ℕ) → step.rule ≡ rule.Var → form_at b.term_nodes step.node ≡ Some (form.Bound x)
      → s.env ≡ env.insert env.empty x s.root
      → IsAllowedByRule b puts pairs step s
  -- a let-bound name has the scheme of the step that a let line gave it; this step may be about any part
  use_let : (number k : ℕ) (first : StepLine) → step.rule ≡ rule.Use number
      → form_at b.term_nodes step.node ≡ Some (form.Inner k)
      → env.find nat_cmp k b.lets ≡ Some number → slice_get b.steps number ≡ Some first → s ≡ conclusion b.book first
      → IsAllowedByRule b puts pairs step s
  -- a name of the environment: the book of its scheme stands among the nodes
  use_name : (n : NodeId) (g : ℕ) (u : Scheme) → step.rule ≡ rule.Name n
      → form_at b.term_nodes step.node ≡ Some (form.Global g)
      → slice_get b.globals g ≡ Some u → HasFrom b.book n.0 u.book → s.env ≡ env.empty → s.root ≡ n.0 + u.root
      → IsAllowedByRule b puts pairs step s
  lit_number : (value : ℕ) → step.rule ≡ rule.Lit → form_at b.term_nodes step.node ≡ Some (form.Number value)
      → s.env ≡ env.empty → node_at b.book s.root ≡ node.Int
      → IsAllowedByRule b puts pairs step s
  lit_truth : (value : Bool) → step.rule ≡ rule.Lit → form_at b.term_nodes step.node ≡ Some (form.Truth value)
      → s.env ≡ env.empty → node_at b.book s.root ≡ node.Bool
      → IsAllowedByRule b puts pairs step s
  fun : (number x body : ℕ) (d : Env) (i j : NodeId) → step.rule ≡ rule.Fun number
      → form_at b.term_nodes step.node ≡ Some (form.Fun x body)
      → s.env ≡ env.remove d x → Takes b.book d x i → node_at b.book s.root ≡ node.Arrow i j
      → Says b number body (over s d j.0)
      → IsAllowedByRule b puts pairs step s
  app : (first second function argument f : ℕ) (i : NodeId) → step.rule ≡ rule.App first second
      → form_at b.term_nodes step.node ≡ Some (form.Apply function argument)
      → node_at b.book f ≡ node.Arrow i (record { 0 = s.root })
      → Says b first function (over s s.env f) → Says b second argument (over s s.env i.0)
      → IsAllowedByRule b puts pairs step s
  make : (numbers : List ℕ) (parts : List Part) (fields : List Field) → step.rule ≡ rule.Make numbers
      → form_at b.term_nodes step.node ≡ Some (form.Make parts)
      → node_at b.book s.root ≡ node.Rcd fields → HaveLabelsOf parts fields → (parts ≡ [] → s.env ≡ env.empty)
      → AllSay b numbers parts s fields
      → IsAllowedByRule b puts pairs step s
  proj : (number body i : ℕ) (label : List ℕ) (field : Field) → step.rule ≡ rule.Proj number
      → form_at b.term_nodes step.node ≡ Some (form.Project body label)
      → node_at b.book i ≡ node.Rcd (field ∷ []) → field.label ≡ label → field.node.0 ≡ s.root
      → Says b number body (over s s.env i)
      → IsAllowedByRule b puts pairs step s
  choice : (first second third condition one other i : ℕ) → step.rule ≡ rule.If first second third
      → form_at b.term_nodes step.node ≡ Some (form.If condition one other)
      → node_at b.book i ≡ node.Bool
      → Says b first condition (over s s.env i) → Says b second one s → Says b third other s
      → IsAllowedByRule b puts pairs step s
  let_in : (first second k e e' : ℕ) (d1 d2 : Env) (t1 : ℕ) → step.rule ≡ rule.Let first second
      → form_at b.term_nodes step.node ≡ Some (form.Let k e e')
      → env.find nat_cmp k b.lets ≡ Some first → IsMeet b.book d1 d2 s.env
      → Says b first e (over s d1 t1) → Says b second e' (over s d2 s.root)
      → IsAllowedByRule b puts pairs step s
  fix : (number x body : ℕ) (d : Env) → step.rule ≡ rule.Rec number
      → form_at b.term_nodes step.node ≡ Some (form.Rec x body)
      → s.env ≡ env.remove d x → env.get d x ≡ Some s.root
      → Says b number body (over s d s.root)
      → IsAllowedByRule b puts pairs step s
  -- the pairs show that an earlier step about the same part subsumes this one
  sub : (number : ℕ) (first : Scheme) → step.rule ≡ rule.Sub number → Says b number step.node first
      → ((x n : ℕ) → put_at puts x ≡ Some n → n < length b.book)
      → AreJustified b.book puts pairs
      → Claims pairs Lr first.root s.root
      → ((x n : ℕ) → env.get first.env x ≡ Some n → IsKept b.book pairs (env.get s.env x) n)
      → IsAllowedByRule b puts pairs step s

-- the binders of an environment rise strictly
abbrev pub IsRising : List BinderNode → Type 0
IsRising [] = Unit {0}
IsRising (entry ∷ rest) = All (λ later. entry.binder < later.binder) rest × IsRising rest

-- the step is allowed, where its nodes are among those of the section and its binders rise
pub record IsAllowed (b : Before) (puts : List Put) (pairs : List Pair) (step : StepLine) : Type 0 where
  pub in_range : IsScheme (conclusion b.book step)
  pub rising : IsRising step.env
  pub by_rule : IsAllowedByRule b puts pairs step (conclusion b.book step)
