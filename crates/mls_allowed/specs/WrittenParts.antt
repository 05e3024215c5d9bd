-- The parts of a term whose lines are written, each behind the parts whose names it uses.
use Rattle.std.specs.Prelude.{◌≡◌, ℕ, Bool, IsTrue, List, [], ◌∷◌, ◌++◌, length, Contains, Some}
use Rattle.std.specs.List.{flat_map}
use Rattle.std.specs.FinMap as env
use Rattle.std.specs.Ordering.{nat_cmp}
use Rattle.mls_book.specs.Schemes.{Env}
use Rattle.mls_automaton.specs.declared.automaton.Polarity.TheVariants.{Negative}
use Rattle.mls_automaton.specs.declared.scheme.Scheme.{Scheme}
use Rattle.mls_automaton.specs.Automata.{polarity_at}
use Rattle.mls_subsume.specs.declared.verdict.StatePair.{StatePair}
use Rattle.mls_subsume.specs.Walks.{IsIn}
use Rattle.mls_term.specs.Terms.{TermTree}
use Rattle.mls_deriv.specs.declared.derivation.BinderNode.{BinderNode}
use Rattle.mls_deriv.specs.declared.derivation.StepLine.{StepLine}
use Rattle.mls_deriv.specs.Steps.{env_of, Before}
use Rattle.mls_lines.specs.Conclusions.{IsBrought}
use Rattle.mls_layout.specs.Lets.{FirstPart, after}
use Rattle.mls_layout.specs.Parts.{Constraint, IsGoalOf, IsSolvedTo, IsLaidOut}
use Rattle.mls_layout.specs.Plans.{PlannedLine, a_let, planned_steps, HasNoLets}
use Rattle.mls_layout.specs.Posed.{IsPosed}
use Rattle.mls_layout.specs.Rows.{Fits}
use Rattle.mls_lines.specs.NodeLines.{NamesKnown}
use Rattle.mls_lines.specs.Writings.{IsNodeOf, IsWriting}
use Rattle.mls_allowed.specs.PartNodes.{IsPartNode}
use Rattle.mls_allowed.specs.WrittenUses.{IsUseRead}

-- Node `part` of the term has a constraint, where these first parts are known, and the plan is what is written for its
-- nodes, in order, and then what brings its root to its type.
pub record IsPartWritten (b : Before) (begun : List StepLine) (known : List FirstPart) (part : ℕ) (d : Env) (type : ℕ)
    (plan : List PlannedLine) : Type 0 where
  pub constraint : Constraint
  pub general : Scheme
  pub special : Scheme
  pub walked : List StatePair
  pub solved : IsSolvedTo constraint general special walked
  pub place : ℕ → ℕ
  pub type_place : ℕ → ℕ
  pub laid_out : IsLaidOut b.book constraint special walked place type_place
  pub root : ℕ → ℕ
  pub binder : ℕ → ℕ
  pub names : NamesKnown
  pub lets : List ℕ
  pub are_known : (k : ℕ) → Contains lets k → Contains known (names.first k) × ((names.first k).number ≡ k)
      × (env.find nat_cmp k b.lets ≡ Some (names.step k))
  pub is_place : ℕ → ℕ → Bool
  pub tree : TermTree
  pub scope : List ℕ
  pub posed : IsPosed b.term_nodes constraint.automaton (IsGoalOf constraint) root binder
      (IsUseRead b constraint.automaton
      (record { root = root; binder = binder; place = place; parts = laid_out.layout.parts }) names lets
      (λ i s. IsTrue (is_place i s)) (IsPartNode b.book place type_place)) scope part tree
  pub is_root : root part ≡ general.root.0
  pub partner : ℕ → ℕ
  pub paired : (x : ℕ) → Contains scope x
      → (polarity_at constraint.automaton (binder x) ≡ Negative) × IsIn walked (binder x) (partner x)
  pub members : List ℕ
  pub earlier : List ℕ
  pub last : members ≡ earlier ++ part ∷ []
  pub nodes : (m : ℕ) → Contains members m → IsNodeOf b.term_nodes part m
  pub writing : IsWriting b constraint
      (record { root = root; binder = binder; place = place; parts = laid_out.layout.parts }) names begun members
  pub binders : List BinderNode
  pub fits : Fits b binders type
  pub envs : (x : ℕ) → Contains scope x → env.get (env_of binders) x ≡ Some (type_place (partner x))
  pub env : d ≡ env_of binders
  pub is_type : type ≡ type_place special.root.0
  pub lines : List PlannedLine
  pub number : ℕ
  pub brought : IsBrought (writing.of part) (length (begun ++ planned_steps (flat_map writing.plan members))) part
      binders type lines number
  pub is_plan : plan ≡ flat_map writing.plan members ++ lines
  pub no_lets : HasNoLets plan

-- The first parts of lets are written one after the other, each with its let line behind it: the plan leads from these
-- steps and let lines to those.
abbrev pub AreFirstsWritten : Before → List StepLine → List (ℕ × ℕ) → (known firsts : List FirstPart)
    → List PlannedLine → List StepLine → List (ℕ × ℕ) → Type 0
AreFirstsWritten b steps lets known [] plan more others = (plan ≡ []) × (more ≡ steps) × (others ≡ lets)
AreFirstsWritten b steps lets known (first ∷ firsts) plan more others =
    (own rest : List PlannedLine)
    × (it : IsPartWritten (after b steps lets) steps known first.part first.env first.type own)
    × (plan ≡ (own ++ a_let first.number it.number ∷ []) ++ rest)
    × AreFirstsWritten b (steps ++ planned_steps own) (lets ++ (first.number, it.number) ∷ []) (known ++ first ∷ [])
    firsts rest more others
