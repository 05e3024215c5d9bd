-- How the steps of a section are written.
use Rattle.std.specs.Prelude.{◌≡◌, ℕ, suc, ◌<◌, List, [], ◌∷◌, ◌++◌, length, slice_get, All, Option, Some}
use Rattle.std.specs.List.{filter, flat_map}
use Rattle.std.proofs.Math.Dec.{ltb}
use Rattle.std.specs.FinMap as env
use Rattle.mls_book.specs.declared.book.Node.{Node}
use Rattle.mls_book.specs.declared.book.NodeId.{NodeId}
use Rattle.mls_book.specs.Books.{IsClosedBook}
use Rattle.mls_deriv.specs.declared.derivation.BinderNode.{BinderNode}
use Rattle.mls_deriv.specs.declared.derivation.Mode.TheVariants.{Lr}
use Rattle.mls_deriv.specs.declared.derivation.SectionLine.{SectionLine}
use Rattle.mls_deriv.specs.declared.derivation.SectionLine.TheVariants as line
use Rattle.mls_deriv.specs.declared.derivation.StepLine.{StepLine}
use Rattle.mls_deriv.specs.declared.derivation.StepRule.TheVariants as rule
use Rattle.mls_deriv.specs.declared.claim.Pair.{Pair}
use Rattle.mls_deriv.specs.Pairs.{put_at}
use Rattle.mls_deriv.specs.Sections.{steps_of}
use Rattle.mls_deriv.specs.Steps.{env_of}
use Rattle.mls_lines.specs.declared.steps.Conclusion as written
use Rattle.mls_lines.specs.declared.steps.Steps.{Steps}
use Rattle.mls_lines.specs.Conclusions.{Conclusion, IsAdapted}
use Rattle.mls_layout.specs.Emitted.{binder_pair}
use Rattle.mls_pairs.specs.PairLists.{pair_of, IsInside, IsPairList, StaysInside}
use Rattle.mls_layout.specs.Plans.{PlannedLine, AreLinesOf, HasNoLets, HaveOwnVariables}
use Rattle.mls_layout.specs.Runs.{lines_of}

-- the node of a binder
abbrev pub binder_node : List BinderNode → ℕ → Option ℕ
binder_node d x = env.get (env_of d) x

-- the entries of lower binders, and those of higher ones
abbrev pub below : ℕ → List BinderNode → List BinderNode
below x d = filter (λ entry. ltb entry.binder x) d

abbrev pub above : ℕ → List BinderNode → List BinderNode
above x d = filter (λ entry. ltb x entry.binder) d

abbrev pub conclusion_of : written.Conclusion → Conclusion
conclusion_of c = record { number = c.step; type = c.root.0; env = c.env; puts = c.puts }

-- the pairs that go over from one environment and type to others
abbrev pub pairs_over : (earlier later : List BinderNode) → (from to : ℕ) → List Pair
pairs_over earlier later from to = pair_of Lr from to ∷ flat_map (binder_pair later) earlier

-- a step with this line is added, and concludes this
pub record AddsStep (old new : Steps) (step : StepLine) (c : written.Conclusion) : Type 0 where
  pub lines : new.lines ≡ old.lines ++ line.Step step ∷ []
  pub count : new.count ≡ suc old.count
  pub number : c.step ≡ old.count
  pub root : c.root ≡ step.root
  pub env : c.env ≡ step.env
  pub puts : c.puts ≡ []

-- a step by pairs is added, whose list is one for what it asks for
pub record AddsSub (book : List Node) (old new : Steps) (node : ℕ) (from : written.Conclusion) (d : List BinderNode)
    (u : NodeId) (c : written.Conclusion) : Type 0 where
  pub pairs : List Pair
  pub list : IsPairList book from.puts (pairs_over from.env d from.root.0 u.0) pairs
  pub inside : StaysInside book (put_at from.puts) (pairs_over from.env d from.root.0 u.0) pairs
  pub lines : new.lines
      ≡ old.lines ++ lines_of (record { node = node; rule = rule.Sub from.step; env = d; root = u }) from.puts pairs
  pub count : new.count ≡ suc old.count
  pub number : c.step ≡ old.count
  pub root : c.root ≡ u
  pub env : c.env ≡ d
  pub puts : c.puts ≡ []

-- the count is that of the steps
abbrev pub AreCounted : Steps → Type 0
AreCounted s = s.count ≡ length (steps_of s.lines)

-- the conclusion is that of a step among these
pub record Stands (steps : List StepLine) (c : written.Conclusion) : Type 0 where
  pub step : StepLine
  pub found : slice_get steps c.step ≡ Some step
  pub env : step.env ≡ c.env
  pub root : step.root ≡ c.root

-- the lines of a plan are added, with lists of their pairs that last: over this book, and over each longer one
pub record Adds (book : List Node) (old new : Steps) (plan : List PlannedLine) : Type 0 where
  pub more : List SectionLine
  pub lines : new.lines ≡ old.lines ++ more
  pub are : (later : List Node) → AreLinesOf (book ++ later) (steps_of old.lines) plan more
  pub no_lets : HasNoLets plan
  pub counted : AreCounted new

-- The lines that are added bring the conclusion to this environment and type. Where the book is closed, and what they put
-- in and go over have nodes of it, and no variable is put in twice, the lists of their pairs last: they are lists over
-- each longer book.
pub record AddsAdapted (book : List Node) (old new : Steps) (node : ℕ) (from : written.Conclusion) (d : List BinderNode)
    (u : NodeId) (c : written.Conclusion) : Type 0 where
  pub plan : List PlannedLine
  pub adapts : IsAdapted (conclusion_of from) old.count node d u.0 plan c.step
  pub more : List SectionLine
  pub lines : new.lines ≡ old.lines ++ more
  pub lasting : IsClosedBook book → ((x m : ℕ) → put_at from.puts x ≡ Some m → m < length book)
      → HaveOwnVariables from.puts → All (IsInside (length book)) (pairs_over from.env d from.root.0 u.0)
      → (later : List Node) → AreLinesOf (book ++ later) (steps_of old.lines) plan more
  pub counted : AreCounted new
  pub root : c.root ≡ u
  pub env : c.env ≡ d
  pub puts : c.puts ≡ []
