-- What the check of a step asks of its lists, rule by rule.
use Rattle.std.specs.Prelude.{◌≡◌, ◌⊎◌, ◌==◌, Bool, ℕ, suc, ◌+◌, ◌-◌, ◌<◌, List, [], ◌∷◌, filter, find, length}
use Rattle.std.specs.Prelude.{slice_get, option_map, cond, not, nat_eq, bytes_eq, is_some}
use Rattle.std.specs.Prelude.{IsTrue, All, Option, Some, None}
use Rattle.mls_book.specs.declared.book.Field.{Field}
use Rattle.mls_book.specs.declared.book.NodeId.{NodeId}
use Rattle.mls_book.specs.declared.book.Node.{Node}
use Rattle.mls_book.specs.declared.book.Node.TheVariants as node
use Rattle.mls_book.specs.Books.{node_at, field_at}
use Rattle.mls_term.specs.declared.term.Part.{Part}
use Rattle.mls_term.specs.declared.term.TermForm.{TermForm}
use Rattle.mls_term.specs.declared.term.TermForm.TheVariants as form
use Rattle.mls_term.specs.Derivations.{IsMeetAt}
use Rattle.mls_typetext.specs.declared.scheme.ReadScheme.{ReadScheme}
use Rattle.mls_deriv.specs.declared.derivation.BinderNode.{BinderNode}
use Rattle.mls_deriv.specs.declared.derivation.Mode.{Mode}
use Rattle.mls_deriv.specs.declared.derivation.Mode.TheVariants.{Lr, Rl}
use Rattle.mls_deriv.specs.declared.derivation.SectionLine.{SectionLine}
use Rattle.mls_deriv.specs.declared.derivation.SectionLine.TheVariants as line
use Rattle.mls_deriv.specs.declared.derivation.StepLine.{StepLine}
use Rattle.mls_deriv.specs.declared.derivation.StepRule.{StepRule}
use Rattle.mls_deriv.specs.declared.derivation.StepRule.TheVariants as rule
use Rattle.mls_deriv.specs.Steps.{HasFrom, IsRising}
use Rattle.mls_deriv.specs.inner.PairRules.{IsShown}

-- the node of a binder
abbrev pub node_in : List BinderNode → ℕ → Option ℕ
node_in env x = option_map (λ entry. entry.node.0) (find (λ entry. entry.binder == x) env)

-- the other binders
abbrev pub without : ℕ → List BinderNode → List BinderNode
without x env = filter (λ entry. not (entry.binder == x)) env

-- it is there, and has this
abbrev pub Given : {X : Type 0} → Option X → (X → Type 0) → Type 0
Given None P = ⊥
Given (Some x) P = P x

-- the step of this number, if it is about this part
abbrev pub if_about : ℕ → Option StepLine → Option StepLine
if_about part None = None
if_about part (Some step) = cond (nat_eq step.node part) (Some step) None

abbrev pub about : List StepLine → ℕ → ℕ → Option StepLine
about steps number part = if_about part (slice_get steps number)

-- the last one
abbrev pub last_of : List StepLine → Option StepLine
last_of steps = slice_get steps (length steps - 1)

-- the step gives the last of so many nodes the type that was read
abbrev pub IsWhole : ℕ → ReadScheme → StepLine → Type 0
IsWhole count read step = (suc step.node ≡ count) × (step.env ≡ []) × (step.root.0 ≡ read.root.0)

-- the domain of a function is the node of its binder, or a `Top`
abbrev pub IsDomain : List Node → Option ℕ → ℕ → Type 0
IsDomain book (Some n) i = n ≡ i
IsDomain book None i = node_at book i ≡ node.Top

-- the child of the part with this label
abbrev pub child_of : List Part → List ℕ → Option ℕ
child_of parts label = option_map (λ part. part.child) (find (λ part. bytes_eq part.label label) parts)

-- the labels of the parts are those of which this holds
abbrev pub AreLabelsOf : List Part → (List ℕ → Bool) → Type 0
AreLabelsOf parts is_label = (label : List ℕ) → is_label label ≡ is_some (child_of parts label)

-- both environments meet in the third
abbrev pub IsMeetIn : List Node → (left right both : List BinderNode) → Type 0
IsMeetIn book left right both = (x : ℕ) → IsMeetAt book (node_in left x) (node_in right x) (node_in both x)

-- the nodes of the environment are in range
abbrev pub AreLow : ℕ → List BinderNode → Type 0
AreLow count env = All (λ entry. entry.node.0 < count) env

-- the nodes of the step are in range, and its binders rise
abbrev pub IsPlain : ℕ → StepLine → Type 0
IsPlain count step = (step.root.0 < count) × AreLow count step.env × IsRising step.env

abbrev pub ByVar : (step : StepLine) → TermForm → Type 0
ByVar step (form.Bound x) = step.env ≡ record { binder = x; node = step.root } ∷ []
ByVar step _ = ⊥

abbrev pub ByUse : (steps : List StepLine) (let_of : ℕ → Option ℕ) (step : StepLine) → ℕ → TermForm → Type 0
ByUse steps let_of step number (form.Inner k) =
    (let_of k ≡ Some number) × Given (slice_get steps number) (λ s. (step.env ≡ s.env) × (step.root ≡ s.root))
ByUse steps let_of step number _ = ⊥

abbrev pub ByName : (book : List Node) (known : List ReadScheme) (step : StepLine) → NodeId → TermForm → Type 0
ByName book known step n (form.Global g) =
    Given (slice_get known g) (λ read. HasFrom book n.0 read.book × (step.env ≡ []) × (step.root.0 ≡ n.0 + read.root.0))
ByName book known step n _ = ⊥

abbrev pub ByLit : (book : List Node) (step : StepLine) → TermForm → Type 0
ByLit book step (form.Number value) = (step.env ≡ []) × (node_at book step.root.0 ≡ node.Int)
ByLit book step (form.Truth value) = (step.env ≡ []) × (node_at book step.root.0 ≡ node.Bool)
ByLit book step _ = ⊥

abbrev pub IsFunction : (book : List Node) (step : StepLine) → ℕ → StepLine → Node → Type 0
IsFunction book step x body (node.Arrow i j) =
    (j ≡ body.root) × (step.env ≡ without x body.env) × IsDomain book (node_in body.env x) i.0
IsFunction book step x body _ = ⊥

abbrev pub ByFun : (book : List Node) (steps : List StepLine) (step : StepLine) → ℕ → TermForm → Type 0
ByFun book steps step number (form.Fun x body) =
    Given (about steps number body) (λ s. IsFunction book step x s (node_at book step.root.0))
ByFun book steps step number _ = ⊥

abbrev pub IsApplication : (book : List Node) (step : StepLine) → StepLine → StepLine → Type 0
IsApplication book step function argument =
    (function.env ≡ step.env) × (argument.env ≡ step.env)
    × (node_at book function.root.0 ≡ node.Arrow argument.root step.root)

abbrev pub ByApp : (book : List Node) (steps : List StepLine) (step : StepLine) → ℕ → ℕ → TermForm → Type 0
ByApp book steps step first second (form.Apply f a) =
    Given (about steps first f) (λ s. Given (about steps second a) (λ t. IsApplication book step s t))
ByApp book steps step first second _ = ⊥

-- the step of a part has the field of its label
abbrev pub IsFieldOf : (steps : List StepLine) (step : StepLine) → List Field → Option ℕ → Part → Type 0
IsFieldOf steps step fields None part = ⊥
IsFieldOf steps step fields (Some number) part =
    Given (about steps number part.child) (λ s. (s.env ≡ step.env) × (field_at part.label fields ≡ Some s.root))

-- so have all, one step for each part
abbrev pub AreFieldsOf : (steps : List StepLine) (step : StepLine) → List Field → List ℕ → List Part → Type 0
AreFieldsOf steps step fields [] [] = Unit {0}
AreFieldsOf steps step fields (number ∷ numbers) (part ∷ parts) =
    IsFieldOf steps step fields (Some number) part × AreFieldsOf steps step fields numbers parts
AreFieldsOf steps step fields _ _ = ⊥

abbrev pub IsRecord : (steps : List StepLine) (step : StepLine) → List ℕ → List Part → Node → Type 0
IsRecord steps step numbers parts (node.Rcd fields) =
    AreFieldsOf steps step fields numbers parts
    × All (λ field. IsTrue (is_some (child_of parts field.label))) fields
    × (parts ≡ [] → step.env ≡ [])
IsRecord steps step numbers parts _ = ⊥

abbrev pub ByMake : (book : List Node) (steps : List StepLine) (step : StepLine) → List ℕ → TermForm → Type 0
ByMake book steps step numbers (form.Make parts) = IsRecord steps step numbers parts (node_at book step.root.0)
ByMake book steps step numbers _ = ⊥

abbrev pub IsOneField : (step : StepLine) → List ℕ → Node → Type 0
IsOneField step label (node.Rcd fields) = fields ≡ record { label = label; node = step.root } ∷ []
IsOneField step label _ = ⊥

abbrev pub ByProj : (book : List Node) (steps : List StepLine) (step : StepLine) → ℕ → TermForm → Type 0
ByProj book steps step number (form.Project e label) =
    Given (about steps number e) (λ s. (s.env ≡ step.env) × IsOneField step label (node_at book s.root.0))
ByProj book steps step number _ = ⊥

abbrev pub AreBranches : (book : List Node) (step : StepLine) (condition first second : StepLine) → Type 0
AreBranches book step condition first second =
    (condition.env ≡ step.env) × (node_at book condition.root.0 ≡ node.Bool) × (first.env ≡ step.env)
    × (first.root ≡ step.root)
    × (second.env ≡ step.env) × (second.root ≡ step.root)

abbrev pub ByIf : (book : List Node) (steps : List StepLine) (step : StepLine) → ℕ → ℕ → ℕ → TermForm → Type 0
ByIf book steps step first second third (form.If c e f) =
    Given (about steps first c) (λ s. Given (about steps second e)
    (λ t. Given (about steps third f) (λ u. AreBranches book step s t u)))
ByIf book steps step first second third _ = ⊥

abbrev pub ByLet : (book : List Node) (steps : List StepLine) (let_of : ℕ → Option ℕ) (step : StepLine) → ℕ → ℕ
    → TermForm → Type 0
ByLet book steps let_of step first second (form.Let k e f) =
    (let_of k ≡ Some first)
    × Given (about steps first e) (λ s. Given (about steps second f)
    (λ t. (t.root ≡ step.root) × IsMeetIn book s.env t.env step.env))
ByLet book steps let_of step first second _ = ⊥

abbrev pub ByRec : (steps : List StepLine) (step : StepLine) → ℕ → TermForm → Type 0
ByRec steps step number (form.Rec x body) =
    Given (about steps number body) (λ s. (s.root ≡ step.root) × (node_in s.env x ≡ Some s.root.0)
    × (step.env ≡ without x s.env))
ByRec steps step number _ = ⊥

-- a binder's node is kept by a subsumption
abbrev pub IsKeptIn : (book : List Node) (claims : Mode → ℕ → ℕ → Type 0) → Option ℕ → ℕ → Type 0
IsKeptIn book claims (Some m) n = claims Rl m n ⊎ (node_at book n ≡ node.Top)
IsKeptIn book claims None n = node_at book n ≡ node.Top

abbrev pub IsLowPut : (book : List Node) → Option ℕ → Type 0
IsLowPut book None = Unit {0}
IsLowPut book (Some n) = n < length book

-- the lines that follow a step are shown
abbrev pub AreShown : (book : List Node) (put : ℕ → Option ℕ) (claims : Mode → ℕ → ℕ → Type 0) → List SectionLine
    → Type 0
AreShown book put claims [] = Unit {0}
AreShown book put claims (line.Let k number ∷ rest) = Unit {0}
AreShown book put claims (line.Step next ∷ rest) = Unit {0}
AreShown book put claims (line.Put x n ∷ rest) = IsLowPut book (put x) × AreShown book put claims rest
AreShown book put claims (line.Pair mode i j ∷ rest) =
    IsShown book put claims mode i.0 j.0 × AreShown book put claims rest

abbrev pub IsInstance : (book : List Node) (claims : Mode → ℕ → ℕ → Type 0) (step : StepLine) → StepLine → Type 0
IsInstance book claims step first = claims Lr first.root.0 step.root.0
    × All (λ entry. IsKeptIn book claims (node_in step.env entry.binder) entry.node.0) first.env

abbrev pub BySub : (book : List Node) (steps : List StepLine) (put : ℕ → Option ℕ) (claims : Mode → ℕ → ℕ → Type 0)
    (step : StepLine) → List SectionLine → ℕ → Type 0
BySub book steps put claims step rest number =
    Given (about steps number step.node) (λ s. IsInstance book claims step s) × AreShown book put claims rest

-- what the rule of the step asks, where the node that it is about has this form
abbrev pub ByForm : (book : List Node) (steps : List StepLine) (let_of : ℕ → Option ℕ) (known : List ReadScheme)
    (step : StepLine) → StepRule → TermForm → Type 0
ByForm book steps let_of known step rule.Var f = ByVar step f
ByForm book steps let_of known step (rule.Use number) f = ByUse steps let_of step number f
ByForm book steps let_of known step (rule.Name n) f = ByName book known step n f
ByForm book steps let_of known step rule.Lit f = ByLit book step f
ByForm book steps let_of known step (rule.Fun number) f = ByFun book steps step number f
ByForm book steps let_of known step (rule.App first second) f = ByApp book steps step first second f
ByForm book steps let_of known step (rule.Make numbers) f = ByMake book steps step numbers f
ByForm book steps let_of known step (rule.Proj number) f = ByProj book steps step number f
ByForm book steps let_of known step (rule.If first second third) f = ByIf book steps step first second third f
ByForm book steps let_of known step (rule.Let first second) f = ByLet book steps let_of step first second f
ByForm book steps let_of known step (rule.Rec number) f = ByRec steps step number f
ByForm book steps let_of known step (rule.Sub number) f = ⊥

-- what the rule of the step asks, where the node that it is about has this form, if there is one, and these lines
-- follow
abbrev pub HasRule : (book : List Node) (steps : List StepLine) (let_of : ℕ → Option ℕ) (known : List ReadScheme)
    (put : ℕ → Option ℕ) (claims : Mode → ℕ → ℕ → Type 0) (lines : List SectionLine) (step : StepLine) → StepRule
    → Option TermForm → Type 0
HasRule book steps let_of known put claims lines step (rule.Sub number) form =
    BySub book steps put claims step lines number
HasRule book steps let_of known put claims lines step rule form = Given form (ByForm book steps let_of known step rule)
