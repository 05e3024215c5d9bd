-- What the lines of a derivation may hold.
use Rattle.std.specs.Prelude.{ℕ, ◌<◌, ◌^◌, List, [], ◌∷◌, All}
use Rattle.mls_base.specs.Spelling.{IsName}
use Rattle.mls_book.specs.declared.book.Field.{Field}
use Rattle.mls_book.specs.declared.book.Node.{Node}
use Rattle.mls_book.specs.declared.book.Node.TheVariants as node
use Rattle.mls_book.specs.Books.{AreRising}
use Rattle.mls_deriv.specs.declared.derivation.BinderNode.{BinderNode}
use Rattle.mls_deriv.specs.declared.derivation.SectionLine.{SectionLine}
use Rattle.mls_deriv.specs.declared.derivation.SectionLine.TheVariants as line
use Rattle.mls_deriv.specs.declared.derivation.StepLine.{StepLine}
use Rattle.mls_deriv.specs.declared.derivation.StepRule.{StepRule}
use Rattle.mls_deriv.specs.declared.derivation.StepRule.TheVariants as rule
use Rattle.mls_deriv.specs.Steps.{IsRising}

-- a number that a machine word holds
abbrev pub IsWord : ℕ → Type 0
IsWord n = n < 2 ^ 64

-- the numbers behind the word of a rule
abbrev pub arguments : StepRule → List ℕ
arguments rule.Var = []
arguments (rule.Use s) = s ∷ []
arguments (rule.Name n) = n.0 ∷ []
arguments rule.Lit = []
arguments (rule.Fun s) = s ∷ []
arguments (rule.App s t) = s ∷ t ∷ []
arguments (rule.Make numbers) = numbers
arguments (rule.Proj s) = s ∷ []
arguments (rule.If s t u) = s ∷ t ∷ u ∷ []
arguments (rule.Let s t) = s ∷ t ∷ []
arguments (rule.Rec s) = s ∷ []
arguments (rule.Sub s) = s ∷ []

-- a field whose label is a name
abbrev pub IsFieldForm : Field → Type 0
IsFieldForm field = IsName field.label × IsWord field.node.0

-- a node that a line may spell: its numbers are words, and its labels are names that rise
abbrev pub IsNodeForm : Node → Type 0
IsNodeForm node.Bot = Unit {0}
IsNodeForm node.Top = Unit {0}
IsNodeForm (node.Var x) = IsWord x
IsNodeForm node.Bool = Unit {0}
IsNodeForm node.Int = Unit {0}
IsNodeForm (node.Arrow j k) = IsWord j.0 × IsWord k.0
IsNodeForm (node.Rcd fields) = All IsFieldForm fields × AreRising fields
IsNodeForm (node.Join j k) = IsWord j.0 × IsWord k.0
IsNodeForm (node.Meet j k) = IsWord j.0 × IsWord k.0

abbrev pub IsEntryForm : BinderNode → Type 0
IsEntryForm entry = IsWord entry.binder × IsWord entry.node.0

-- a step that a line may spell: its numbers are words, and its binders rise
pub record IsStepForm (step : StepLine) : Type 0 where
  pub node : IsWord step.node
  pub rule : All IsWord (arguments step.rule)
  pub env : All IsEntryForm step.env
  pub rising : IsRising step.env
  pub root : IsWord step.root.0

abbrev pub IsLineForm : SectionLine → Type 0
IsLineForm (line.Let k s) = IsWord k × IsWord s
IsLineForm (line.Step step) = IsStepForm step
IsLineForm (line.Put x n) = IsWord x × IsWord n.0
IsLineForm (line.Pair mode i j) = IsWord i.0 × IsWord j.0

-- the labels of a record rise
abbrev pub HasRisingLabels : Node → Type 0
HasRisingLabels (node.Rcd fields) = AreRising fields
HasRisingLabels _ = Unit {0}

-- the binders of a step rise
abbrev pub HasRisingBinders : SectionLine → Type 0
HasRisingBinders (line.Step step) = IsRising step.env
HasRisingBinders _ = Unit {0}
