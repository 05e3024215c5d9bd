-- A part that is ready, and has its lines, is written.
--     posed_uses              what a posed tree asks of its uses
--     ready_written
--     ready_number            its last step is that of the lines
use Rattle.std.proofs.Common.{◌≡◌, ℕ, List, [], ◌∷◌, ◌++◌, refl}
use Rattle.std.specs.BTreeMap.{BTreeMap}
use Rattle.mls_book.specs.Schemes.{Env}
use Rattle.mls_automaton.specs.declared.automaton.FieldSet.{FieldSet}
use Rattle.mls_automaton.specs.declared.scheme.Scheme.{Scheme}
use Rattle.mls_automaton.specs.Automata.{Automaton}
use Rattle.mls_subsume.specs.declared.verdict.StatePair.{StatePair}
use Rattle.mls_term.specs.declared.term.Part.{Part}
use Rattle.mls_term.specs.declared.term.TermNode.{TermNode}
use Rattle.mls_term.specs.Terms.{TermTree, TermFields, bound, inner, global, number, truth, fun, apply, make, project, choice, local, fix, no_field, a_field}
use Rattle.mls_deriv.specs.declared.derivation.StepLine.{StepLine}
use Rattle.mls_deriv.specs.Steps.{Before}
use Rattle.mls_layout.specs.Lets.{FirstPart}
use Rattle.mls_layout.specs.Parts.{IsGoalOf}
use Rattle.mls_layout.specs.Plans.{PlannedLine}
use Rattle.mls_layout.specs.Posed.{ArePosed, IsPosed}
use Rattle.mls_parts.specs.declared.binders.PartBinders.{PartBinders}
use Rattle.mls_parts.specs.declared.pose.Posing.{Posing}
use Rattle.mls_parts.specs.PosedGoals.{constraint_of}
use Rattle.mls_parts.specs.Posings.{binder_in, root_in}
use Rattle.mls_allowed.specs.ReadyParts.{HasLines, IsPartReady}
use Rattle.mls_allowed.specs.WrittenParts.{IsPartWritten}

-- where each use that is posed so is one of the other kind, so is the tree
module _ (nodes : List TermNode) (a : Automaton) (IsGoal : ℕ → ℕ → Type 0) (root binder : ℕ → ℕ) (IsUse IsOther : List ℕ → ℕ → Type 0) (more : (scope : List ℕ) (i : ℕ) → IsUse scope i → IsOther scope i) where
  mutual
    pub posed_uses : (t : TermTree) (scope : List ℕ) (i : ℕ) → IsPosed nodes a IsGoal root binder IsUse scope i t → IsPosed nodes a IsGoal root binder IsOther scope i t
    posed_uses (bound at x) scope i it = it
    posed_uses (inner at k) scope i it = (it.0, more scope i it.1)
    posed_uses (global at g) scope i it = (it.0, more scope i it.1)
    posed_uses (number at value) scope i it = it
    posed_uses (truth at value) scope i it = it
    posed_uses (fun at x e) scope i (j, is, above, positive, arms, body) = (j, is, above, positive, arms, posed_uses e (scope ++ x ∷ []) j body)
    posed_uses (apply at e f) scope i (j, k, g, n, is, arms, goal, edge, one, two) = (j, k, g, n, is, arms, goal, edge, posed_uses e scope j one, posed_uses f scope k two)
    posed_uses (make at fields) scope i (parts, sets, is, positive, record_is, labels, all) = (parts, sets, is, positive, record_is, labels, fields_uses fields scope sets parts all)
    posed_uses (project at e label) scope i (j, g, n, is, record_is, goal, edge, body) = (j, g, n, is, record_is, goal, edge, posed_uses e scope j body)
    posed_uses (choice at c e f) scope i (j, k, l, bit, n, is, head, condition, first, second, edge, one, two, three) =
        (j, k, l, bit, n, is, head, condition, first, second, edge, posed_uses c scope j one, posed_uses e scope k two, posed_uses f scope l three)
    posed_uses (local at k e f) scope i (j, l, is, same, used, body) = (j, l, is, same, more scope i used, posed_uses f scope l body)
    posed_uses (fix at x e) scope i (j, is, above, same, goal, body) = (j, is, above, same, goal, posed_uses e (scope ++ x ∷ []) j body)

    fields_uses : (fields : TermFields) (scope : List ℕ) (sets : List FieldSet) (parts : List Part) → ArePosed nodes a IsGoal root binder IsUse scope sets parts fields → ArePosed nodes a IsGoal root binder IsOther scope sets parts fields
    fields_uses no_field scope sets parts it = it
    fields_uses (a_field label e rest) scope sets parts (j, others, is, set, one, later) = (j, others, is, set, posed_uses e scope j one, fields_uses rest scope sets others later)

pub ready_written : (b : Before) (globals lets : BTreeMap ℕ Scheme) (begun : List StepLine) (known : List FirstPart) (part : ℕ) (d : Env) (type : ℕ) (plan : List PlannedLine) (members : List ℕ) (binders : PartBinders) (p : Posing) (special : Scheme) (walked : List StatePair)
    → (ready : IsPartReady b.term_nodes globals lets part members binders p special walked) → HasLines b globals lets begun known part d type plan members binders.around p special walked ready.partner
    → IsPartWritten b begun known part d type plan
ready_written b globals lets begun known part d type plan members binders p special walked ready it = record {
  constraint = constraint_of p;
  general = ready.general;
  special = special;
  walked = walked;
  solved = ready.solved;
  place = it.place;
  type_place = it.type_place;
  laid_out = it.laid_out;
  root = root_in p;
  binder = binder_in p;
  names = it.names;
  lets = it.names_of;
  are_known = it.are_known;
  is_place = it.is_place;
  tree = ready.tree;
  scope = binders.around;
  posed = posed_uses b.term_nodes p.automaton (IsGoalOf (constraint_of p)) (root_in p) (binder_in p) _ _ it.uses ready.tree binders.around part ready.tree_posed;
  is_root = ready.is_root;
  partner = ready.partner;
  paired = ready.paired;
  members = members;
  earlier = ready.earlier;
  last = ready.last;
  nodes = ready.nodes_are;
  writing = it.writing;
  binders = it.binders;
  fits = it.fits;
  envs = it.envs;
  env = it.env;
  is_type = it.is_type;
  lines = it.lines;
  number = it.number;
  brought = it.brought;
  is_plan = it.is_plan;
  no_lets = it.no_lets;
}

pub ready_number : (b : Before) (globals lets : BTreeMap ℕ Scheme) (begun : List StepLine) (known : List FirstPart) (part : ℕ) (d : Env) (type : ℕ) (plan : List PlannedLine) (members : List ℕ) (binders : PartBinders) (p : Posing) (special : Scheme) (walked : List StatePair)
    → (ready : IsPartReady b.term_nodes globals lets part members binders p special walked) (it : HasLines b globals lets begun known part d type plan members binders.around p special walked ready.partner)
    → (ready_written b globals lets begun known part d type plan members binders p special walked ready it).number ≡ it.number
unfolding ready_written
ready_number b globals lets begun known part d type plan members binders p special walked ready it = refl
