-- What a part of a term has before its lines are written: its constraint, solved, the walk to its type, and its nodes,
-- posed over the binders around it that it names.
use Rattle.std.specs.Prelude.{◌≡◌, ℕ, Bool, IsTrue, List, [], ◌∷◌, ◌++◌, length, Contains, Option, Some, None}
use Rattle.std.specs.List.{flat_map}
use Rattle.std.specs.BTreeMap.{BTreeMap}
use Rattle.std.specs.FinMap as env
use Rattle.std.specs.Ordering.{nat_cmp}
use Rattle.mls_book.specs.Schemes.{Env}
use Rattle.mls_automaton.specs.declared.automaton.Polarity.TheVariants.{Negative}
use Rattle.mls_automaton.specs.declared.scheme.Scheme.{Scheme}
use Rattle.mls_automaton.specs.Automata.{polarity_at}
use Rattle.mls_automaton.specs.Schemes.{state_of}
use Rattle.mls_subsume.specs.declared.verdict.StatePair.{StatePair}
use Rattle.mls_subsume.specs.Walks.{IsIn}
use Rattle.mls_term.specs.declared.term.TermForm.{TermForm}
use Rattle.mls_term.specs.declared.term.TermNode.{TermNode}
use Rattle.mls_term.specs.Terms.{TermTree}
use Rattle.mls_deriv.specs.declared.derivation.BinderNode.{BinderNode}
use Rattle.mls_deriv.specs.declared.derivation.StepLine.{StepLine}
use Rattle.mls_deriv.specs.Steps.{env_of, form_at, Before}
use Rattle.mls_lines.specs.Conclusions.{IsBrought}
use Rattle.mls_lines.specs.NodeLines.{NamesKnown}
use Rattle.mls_layout.specs.Lets.{FirstPart}
use Rattle.mls_layout.specs.Parts.{IsGoalOf, IsLaidOut, IsSolvedTo}
use Rattle.mls_layout.specs.Plans.{PlannedLine, planned_steps, HasNoLets}
use Rattle.mls_layout.specs.Posed.{IsPosed}
use Rattle.mls_layout.specs.PosedNodes.{IsUsable}
use Rattle.mls_layout.specs.Rows.{Fits}
use Rattle.mls_parts.specs.declared.binders.PartBinders.{PartBinders}
use Rattle.mls_parts.specs.declared.pose.Posing.{Posing}
use Rattle.mls_parts.specs.MetCopies.{IsUseMet}
use Rattle.mls_parts.specs.PartBinders.{ArePartBinders}
use Rattle.mls_parts.specs.PartUses.{binders_in}
use Rattle.mls_parts.specs.PosedGoals.{constraint_of}
use Rattle.mls_parts.specs.PosedParts.{IsPartPosed}
use Rattle.mls_parts.specs.Posings.{binder_in, known_in, root_in}
use Rattle.mls_lines.specs.Writings.{IsNodeOf, IsWriting}
use Rattle.mls_allowed.specs.PartNodes.{IsPartNode}
use Rattle.mls_allowed.specs.WrittenUses.{IsUseRead}

-- the binders that the types of lets need
abbrev pub needed_binders : Option Scheme → List ℕ
needed_binders None = []
needed_binders (Some s) = binders_in s.env

abbrev pub needed_by : BTreeMap ℕ Scheme → ℕ → List ℕ
needed_by lets k = needed_binders (known_in lets k)

-- A use of a name, or a let, among these nodes: the binders that its type needs are in scope, and its type has a copy,
-- whose first state is noted.
abbrev pub IsUseAround : List TermNode → (globals lets : BTreeMap ℕ Scheme) → Posing → (members : List ℕ) → List ℕ → ℕ
    → Type 0
IsUseAround nodes globals lets p members scope i = Contains members i
    × (f : TermForm) × (form_at nodes i ≡ Some f) × IsUsable (needed_by lets) scope f
    × IsUseMet (known_in globals) (known_in lets) p.automaton (root_in p) (binder_in p) p.copies i f

-- The part with this root and these nodes is ready, where names have these known types, and `special` is its own type.
-- Its binders are those around it that it names, and each of them has a state of the type.
pub record IsPartReady (nodes : List TermNode) (globals lets : BTreeMap ℕ Scheme) (part : ℕ) (members : List ℕ)
    (binders : PartBinders) (p : Posing) (special : Scheme) (walked : List StatePair) : Type 0 where
  pub are_binders : ArePartBinders nodes lets members binders
  pub posed : IsPartPosed nodes globals lets binders.all members p
  pub general : Scheme
  pub solved : IsSolvedTo (constraint_of p) general special walked
  pub is_root : root_in p part ≡ general.root.0
  pub tree : TermTree
  pub tree_posed : IsPosed nodes p.automaton (IsGoalOf (constraint_of p)) (root_in p) (binder_in p)
      (IsUseAround nodes globals lets p members) binders.around part tree
  pub partner : ℕ → ℕ
  pub paired : (x : ℕ) → Contains binders.around x
      → (polarity_at p.automaton (binder_in p x) ≡ Negative) × IsIn walked (binder_in p x) (partner x)
  pub partner_is : (x : ℕ) → Contains binders.around x → state_of special.env x ≡ Some (partner x)
  pub earlier : List ℕ
  pub last : members ≡ earlier ++ part ∷ []
  pub nodes_are : (m : ℕ) → Contains members m → IsNodeOf nodes part m

-- What the lines of a part that is ready have beside: the nodes of its constraint and of its type in the book, what is
-- known of its names, and the lines of its nodes, behind the steps with which it begins.
pub record HasLines (b : Before) (globals lets : BTreeMap ℕ Scheme) (begun : List StepLine) (known : List FirstPart)
    (part : ℕ) (d : Env) (type : ℕ) (plan : List PlannedLine) (members around : List ℕ) (p : Posing) (special : Scheme)
    (walked : List StatePair) (partner : ℕ → ℕ) : Type 0 where
  pub place : ℕ → ℕ
  pub type_place : ℕ → ℕ
  pub laid_out : IsLaidOut b.book (constraint_of p) special walked place type_place
  pub names : NamesKnown
  pub names_of : List ℕ
  pub are_known : (k : ℕ) → Contains names_of k → Contains known (names.first k) × ((names.first k).number ≡ k)
      × (env.find nat_cmp k b.lets ≡ Some (names.step k))
  pub is_place : ℕ → ℕ → Bool
  pub uses : (scope : List ℕ) (i : ℕ) → IsUseAround b.term_nodes globals lets p members scope i
      → IsUseRead b p.automaton
      (record { root = root_in p; binder = binder_in p; place = place; parts = laid_out.layout.parts }) names names_of
      (λ i s. IsTrue (is_place i s)) (IsPartNode b.book place type_place) scope i
  pub writing : IsWriting b (constraint_of p)
      (record { root = root_in p; binder = binder_in p; place = place; parts = laid_out.layout.parts }) names begun members
  pub binders : List BinderNode
  pub fits : Fits b binders type
  pub envs : (x : ℕ) → Contains around x → env.get (env_of binders) x ≡ Some (type_place (partner x))
  pub env : d ≡ env_of binders
  pub is_type : type ≡ type_place special.root.0
  pub lines : List PlannedLine
  pub number : ℕ
  pub brought : IsBrought (writing.of part) (length (begun ++ planned_steps (flat_map writing.plan members))) part
      binders type lines number
  pub is_plan : plan ≡ flat_map writing.plan members ++ lines
  pub no_lets : HasNoLets plan
