use Rattle.std.proofs.Common.{◌≡◌, ◌∙◌, List, ap, map, subst}
use Rattle.mls_automaton.specs.declared.automaton.FieldSet.{FieldSet}
use Rattle.mls_automaton.specs.declared.automaton.Head.{Head}
use Rattle.mls_solver.proofs.Answered.{on_ok}
use Rattle.mls_infer.specs.Joining.{row_field}
use Rattle.mls_parts.specs.Posings.{Adds, AreFieldsOf, NoEdge, literal_added, record_head, root_in, size}
use Rattle.mls_parts.proofs.FieldsPosed.{fields_posed}
use Rattle.mls_parts.proofs.pose.Posing.pose_make.Goals as goal

pub returns : goal.returns
returns c =
    let fields : List FieldSet = map row_field c.in_ok-rows.rows.entries in
    let head_is : c.record_head.result ≡ record_head fields = c.record_head.ensures ∙ ap record_head c.in_ok-fields.ensures.fields in
    on_ok c.pose_literal.result (Adds c.args.self.now c.pose_literal.new.self c.args.node (literal_added (size c.args.self.now) c.record_head.result) NoEdge)
    ((fs : List FieldSet) × AreFieldsOf (root_in c.args.self.now) c.args.parts.now fs × Adds c.args.self.now c.pose_literal.new.self c.args.node (literal_added (size c.args.self.now) (record_head fs)) NoEdge)
    (λ added. (
      fields,
      fields_posed (root_in c.args.self.now) c.args.parts.now c.in_ok-rows.rows c.in_ok-fields.ensures.ordered c.in_ok-rows.ensures,
      subst (λ (h : Head). Adds c.args.self.now c.pose_literal.new.self c.args.node (literal_added (size c.args.self.now) h) NoEdge) head_is added,
    ))
    c.pose_literal.ensures
