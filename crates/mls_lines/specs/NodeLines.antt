-- The lines that are written for one node of a part, by the form of the node, over what its parts conclude.
use Rattle.std.specs.Prelude.{◌≡◌, ◌⊎◌, ℕ, List, [], ◌∷◌, ◌++◌, length, Contains, Some, None}
use Rattle.std.specs.FinMap as env
use Rattle.mls_book.specs.declared.book.Field.{Field}
use Rattle.mls_book.specs.declared.book.NodeId.{NodeId}
use Rattle.mls_book.specs.declared.book.Node.{Node}
use Rattle.mls_book.specs.declared.book.Node.TheVariants as node
use Rattle.mls_book.specs.Books.{node_at, field_at}
use Rattle.mls_automaton.specs.Automata.{head_at, HasFlow}
use Rattle.mls_term.specs.declared.term.Part.{Part}
use Rattle.mls_term.specs.declared.term.TermForm.{TermForm}
use Rattle.mls_term.specs.declared.term.TermForm.TheVariants as form
use Rattle.mls_term.specs.Derivations.{IsMeet}
use Rattle.mls_deriv.specs.declared.derivation.BinderNode.{BinderNode}
use Rattle.mls_deriv.specs.declared.derivation.StepLine.{StepLine}
use Rattle.mls_deriv.specs.declared.derivation.StepRule.TheVariants as rule
use Rattle.mls_deriv.specs.declared.claim.Put.{Put}
use Rattle.mls_deriv.specs.Pairs.{put_at}
use Rattle.mls_deriv.specs.Steps.{env_of, IsRising}
use Rattle.mls_lines.specs.Conclusions.{Conclusion, Concluded, a_binder, by_step, IsBrought, AreBrought, IsWith}
use Rattle.mls_lines.specs.Conclusions.{IsWithout, IsOffered, IsJoined, AreJoined, IsSettled}
use Rattle.mls_layout.specs.Lets.{FirstPart}
use Rattle.mls_layout.specs.Parts.{Constraint, IsGoalOf}
use Rattle.mls_layout.specs.Plans.{PlannedLine, a_step_with, planned_steps}
use Rattle.mls_layout.specs.Posed.{HasArms}
use Rattle.mls_layout.specs.Runs.{id, a_step}

-- what a step by a rule concludes
abbrev pub by_rule : (number : ℕ) → StepLine → Conclusion
by_rule number step = record { number = number; type = step.root.0; env = step.env; puts = [] }

-- where the states of a part stand: the state of each node and of each binder, the node of a state, and the nodes of
-- the parts of its head
pub record Standing : Type 0 where
  pub root : ℕ → ℕ
  pub binder : ℕ → ℕ
  pub place : ℕ → ℕ
  pub parts : ℕ → List ℕ

-- what is known of names: the first node and the type of each name of the environment, the first part of each let with
-- the number of its step, and what variables stand for at each node
pub record NamesKnown : Type 0 where
  pub from : ℕ → ℕ
  pub type : ℕ → ℕ
  pub first : ℕ → FirstPart
  pub step : ℕ → ℕ
  pub binders : ℕ → List BinderNode
  pub puts : ℕ → List Put

module _ (book : List Node) (c : Constraint) (at : Standing) (names : NamesKnown) (of : ℕ → Concluded) where
  abbrev pub node_of : ℕ → ℕ
  node_of x = at.place (at.binder x)

  -- a function of the head of this state
  pub record IsArrowOf (s arrow : ℕ) (from to : NodeId) : Type 0 where
    pub there : Contains (at.parts s) arrow
    pub is : node_at book arrow ≡ node.Arrow from to

  -- a leaf: a part of the head of the node's state
  pub record IsLeafWritten (leaf : Node) (i : ℕ) (steps : List StepLine) (plan : List PlannedLine) (own : Concluded) :
      Type 0 where
    pub node : ℕ
    pub there : Contains (at.parts (at.root i)) node
    pub is : node_at book node ≡ leaf
    pub plan_is : plan ≡ a_step_with (a_step i rule.Lit [] node) [] ∷ []
    pub own_is : own ≡ by_step (by_rule (length steps) (a_step i rule.Lit [] node))

  -- A function: its body is brought to the codomain, where the binder has the domain's node.
  pub record IsFunWritten (x j i : ℕ) (steps : List StepLine) (plan : List PlannedLine) (own : Concluded) : Type 0 where
    pub arrow : ℕ
    pub from : NodeId
    pub to : NodeId
    pub is : IsArrowOf (at.root i) arrow from to
    pub offered : List BinderNode
    pub inner : List BinderNode
    pub outer : List BinderNode
    pub offers : IsOffered node_of (of j) to.0 offered
    pub with_binder : IsWith offered x from.0 inner
    pub without_binder : IsWithout offered x outer
    pub lines : List PlannedLine
    pub number : ℕ
    pub brought : IsBrought (of j) (length steps) j inner to.0 lines number
    pub plan_is : plan ≡ lines ++ a_step_with (a_step i (rule.Fun number) outer arrow) [] ∷ []
    pub own_is : own ≡ by_step (by_rule (length (steps ++ planned_steps lines)) (a_step i (rule.Fun number) outer arrow))

  -- A recursion: its body is brought to the node of its root, which the binder has too.
  pub record IsRecWritten (x j i : ℕ) (steps : List StepLine) (plan : List PlannedLine) (own : Concluded) : Type 0 where
    pub offered : List BinderNode
    pub inner : List BinderNode
    pub outer : List BinderNode
    pub offers : IsOffered node_of (of j) (at.place (at.root j)) offered
    pub with_binder : IsWith offered x (at.place (at.root j)) inner
    pub without_binder : IsWithout offered x outer
    pub lines : List PlannedLine
    pub number : ℕ
    pub brought : IsBrought (of j) (length steps) j inner (at.place (at.root j)) lines number
    pub plan_is : plan ≡ lines ++ a_step_with (a_step i (rule.Rec number) outer (at.place (at.root j))) [] ∷ []
    pub own_is : own ≡ by_step (by_rule (length (steps ++ planned_steps lines))
        (a_step i (rule.Rec number) outer (at.place (at.root j))))

  -- An application: the function is brought to that of its goal, and the argument to the domain.
  pub record IsApplyWritten (j k i : ℕ) (steps : List StepLine) (plan : List PlannedLine) (own : Concluded) : Type 0
    where
      pub goal : ℕ
      pub result : ℕ
      pub arms : HasArms c.automaton goal (at.root k ∷ []) (result ∷ [])
      pub is_goal : IsGoalOf c (at.root j) goal
      pub flows : HasFlow c.automaton result (at.root i)
      pub arrow : ℕ
      pub from : NodeId
      pub to : NodeId
      pub is : IsArrowOf goal arrow from to
      pub left : List BinderNode
      pub right : List BinderNode
      pub outer : List BinderNode
      pub offers_left : IsOffered node_of (of j) arrow left
      pub offers_right : IsOffered node_of (of k) from.0 right
      pub joins : IsJoined node_of book left right outer
      pub lines : List PlannedLine
      pub more : List PlannedLine
      pub first : ℕ
      pub second : ℕ
      pub brought_first : IsBrought (of j) (length steps) j outer arrow lines first
      pub brought_second : IsBrought (of k) (length (steps ++ planned_steps lines)) k outer from.0 more second
      pub plan_is : plan ≡ (lines ++ more) ++ a_step_with (a_step i (rule.App first second) outer to.0) [] ∷ []
      pub own_is : own ≡ by_step (by_rule (length (steps ++ planned_steps (lines ++ more)))
          (a_step i (rule.App first second) outer to.0))

  -- A projection: its body is brought to the record of its goal.
  pub record IsProjectWritten (j : ℕ) (label : List ℕ) (i : ℕ) (steps : List StepLine) (plan : List PlannedLine)
      (own : Concluded) : Type 0 where
    pub goal : ℕ
    pub result : ℕ
    pub fields : (head_at c.automaton goal).fields ≡ Some (record { label = label; set = result ∷ [] } ∷ [])
    pub is_goal : IsGoalOf c (at.root j) goal
    pub flows : HasFlow c.automaton result (at.root i)
    pub rcd : ℕ
    pub others : List Field
    pub there : Contains (at.parts goal) rcd
    pub is : node_at book rcd ≡ node.Rcd others
    pub to : NodeId
    pub found : field_at label others ≡ Some to
    pub outer : List BinderNode
    pub offers : IsOffered node_of (of j) rcd outer
    pub lines : List PlannedLine
    pub number : ℕ
    pub brought : IsBrought (of j) (length steps) j outer rcd lines number
    pub plan_is : plan ≡ lines ++ a_step_with (a_step i (rule.Proj number) outer to.0) [] ∷ []
    pub own_is : own ≡ by_step (by_rule (length (steps ++ planned_steps lines)) (a_step i (rule.Proj number) outer to.0))

  -- A conditional: the condition is brought to a `bool`, and the branches to the place of a state that flows on.
  pub record IsIfWritten (j k l i : ℕ) (steps : List StepLine) (plan : List PlannedLine) (own : Concluded) : Type 0
    where
      pub bit : ℕ
      pub result : ℕ
      pub truth : ℕ
      pub there : Contains (at.parts bit) truth
      pub is : node_at book truth ≡ node.Bool
      pub goal_first : IsGoalOf c (at.root j) bit
      pub goal_second : IsGoalOf c (at.root k) result
      pub goal_third : IsGoalOf c (at.root l) result
      pub flows : HasFlow c.automaton result (at.root i)
      pub left : List BinderNode
      pub middle : List BinderNode
      pub right : List BinderNode
      pub upper : List BinderNode
      pub outer : List BinderNode
      pub offers_left : IsOffered node_of (of j) truth left
      pub offers_middle : IsOffered node_of (of k) (at.place result) middle
      pub offers_right : IsOffered node_of (of l) (at.place result) right
      pub joins_upper : IsJoined node_of book left middle upper
      pub joins : IsJoined node_of book upper right outer
      pub lines : List PlannedLine
      pub more : List PlannedLine
      pub rest : List PlannedLine
      pub first : ℕ
      pub second : ℕ
      pub third : ℕ
      pub brought_first : IsBrought (of j) (length steps) j outer truth lines first
      pub brought_second : IsBrought (of k) (length (steps ++ planned_steps lines)) k outer (at.place result) more second
      pub brought_third : IsBrought (of l) (length (steps ++ planned_steps (lines ++ more))) l outer (at.place result)
          rest third
      pub plan_is : plan ≡ ((lines ++ more) ++ rest)
          ++ a_step_with (a_step i (rule.If first second third) outer (at.place result)) [] ∷ []
      pub own_is : own ≡ by_step (by_rule (length (steps ++ planned_steps ((lines ++ more) ++ rest)))
          (a_step i (rule.If first second third) outer (at.place result)))

  -- what is offered for the parts of a record, each at the field of its label
  abbrev pub AreOffered : List Field → List Part → List (List BinderNode) → Type 0
  AreOffered fields [] [] = Unit {0}
  AreOffered fields (part ∷ parts) (offered ∷ rest) =
      ((field : NodeId) × (field_at part.label fields ≡ Some field)
      × IsOffered node_of (of part.child) field.0 offered)
      × AreOffered fields parts rest
  AreOffered fields _ _ = ⊥

  -- A record: each part is brought to the field of its label.
  pub record IsMakeWritten (parts : List Part) (i : ℕ) (steps : List StepLine) (plan : List PlannedLine)
      (own : Concluded) : Type 0 where
    pub rcd : ℕ
    pub fields : List Field
    pub there : Contains (at.parts (at.root i)) rcd
    pub is : node_at book rcd ≡ node.Rcd fields
    pub offered : List (List BinderNode)
    pub offers : AreOffered fields parts offered
    pub outer : List BinderNode
    pub joins : AreJoined node_of book [] offered outer
    pub lines : List PlannedLine
    pub numbers : List ℕ
    pub brought : AreBrought of steps outer fields parts lines numbers
    pub plan_is : plan ≡ lines ++ a_step_with (a_step i (rule.Make numbers) outer rcd) [] ∷ []
    pub own_is : own ≡ by_step (by_rule (length (steps ++ planned_steps lines))
        (a_step i (rule.Make numbers) outer rcd))

  -- a name of the environment
  pub record IsGlobalWritten (g i : ℕ) (steps : List StepLine) (plan : List PlannedLine) (own : Concluded) : Type 0
    where
      pub plan_is : plan ≡ a_step_with (a_step i (rule.Name (id (names.from g))) [] (names.type g)) [] ∷ []
      pub own_is : own ≡ by_step (record {
        number = length steps;
        type = names.type g;
        env = [];
        puts = names.puts i;
      })

  -- a let-bound name
  pub record IsInnerWritten (k i : ℕ) (steps : List StepLine) (plan : List PlannedLine) (own : Concluded) : Type 0 where
    pub plan_is : plan
        ≡ a_step_with (a_step i (rule.Use (names.step k)) (names.binders k) (names.first k).type) [] ∷ []
    pub own_is : own ≡ by_step (record {
      number = length steps;
      type = (names.first k).type;
      env = names.binders k;
      puts = names.puts i;
    })

  -- A let: its second part has a step of its own, and the binders have the meets of both parts. Where the first part
  -- needs no binder, none of its variables is put in.
  pub record IsLetWritten (k l i : ℕ) (steps : List StepLine) (plan : List PlannedLine) (own : Concluded) : Type 0 where
    pub lines : List PlannedLine
    pub second : Conclusion
    pub settles : IsSettled node_of (length steps) l (at.place (at.root l)) (of l) lines second
    pub met : List BinderNode
    pub rising : IsRising met
    pub meets : IsMeet book (names.first k).env (env_of second.env) (env_of met)
    pub more : List Put
    pub puts : (more ≡ names.puts i)
        ⊎ ((more ≡ []) × ((x : ℕ) → env.get (names.first k).env x ≡ None))
    pub apart : (x n : ℕ) → put_at more x ≡ Some n → put_at second.puts x ≡ None
    pub plan_is : plan
        ≡ lines ++ a_step_with (a_step i (rule.Let (names.step k) second.number) met second.type) [] ∷ []
    pub own_is : own ≡ by_step (record {
      number = length (steps ++ planned_steps lines);
      type = second.type;
      env = met;
      puts = second.puts ++ more;
    })

  -- The lines of a node of this form, behind these steps, and what it concludes.
  abbrev pub IsWrittenAs : TermForm → ℕ → List StepLine → List PlannedLine → Concluded → Type 0
  IsWrittenAs (form.Bound x) i steps plan own = (plan ≡ []) × (own ≡ a_binder x)
  IsWrittenAs (form.Inner k) i steps plan own = IsInnerWritten k i steps plan own
  IsWrittenAs (form.Global g) i steps plan own = IsGlobalWritten g i steps plan own
  IsWrittenAs (form.Number value) i steps plan own = IsLeafWritten node.Int i steps plan own
  IsWrittenAs (form.Truth value) i steps plan own = IsLeafWritten node.Bool i steps plan own
  IsWrittenAs (form.Fun x j) i steps plan own = IsFunWritten x j i steps plan own
  IsWrittenAs (form.Apply j k) i steps plan own = IsApplyWritten j k i steps plan own
  IsWrittenAs (form.Make parts) i steps plan own = IsMakeWritten parts i steps plan own
  IsWrittenAs (form.Project j label) i steps plan own = IsProjectWritten j label i steps plan own
  IsWrittenAs (form.If j k l) i steps plan own = IsIfWritten j k l i steps plan own
  IsWrittenAs (form.Let k j l) i steps plan own = IsLetWritten k l i steps plan own
  IsWrittenAs (form.Rec x j) i steps plan own = IsRecWritten x j i steps plan own
