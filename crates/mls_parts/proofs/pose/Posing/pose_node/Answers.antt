use Rattle.std.proofs.Common.{sym, subst}
use Rattle.std.specs.Prelude.{OnOk}
use Rattle.mls_automaton.specs.declared.scheme.Scheme.{Scheme}
use Rattle.mls_solver.proofs.Answered.{on_ok}
use Rattle.mls_term.specs.declared.term.TermForm.{TermForm}
use Rattle.mls_term.specs.declared.term.TermForm.TheVariants as form
use Rattle.mls_parts.specs.Posings.{Adds, AddsNode, IsCopiedEdge, binder_in, copy_added, known_in, root_in, size}
use Rattle.mls_parts.proofs.pose.Posing.pose_node.Goals as goal

pub returns-in-If : goal.returns-in-If
returns-in-If c =
    subst (λ (f : TermForm). OnOk c.pose_choice.result (AddsNode (known_in c.args.known.now.globals) (known_in c.args.known.now.lets) c.args.self.now c.pose_choice.new.self c.args.node f))
    (sym c.in-If.is) c.pose_choice.ensures

pub returns-in-Let : goal.returns-in-Let
returns-in-Let c =
    let known : Scheme = c.known_type-in-Let.result.now in
    subst (λ (f : TermForm). OnOk c.pose_let.result (AddsNode (known_in c.args.known.now.globals) (known_in c.args.known.now.lets) c.args.self.now c.pose_let.new.self c.args.node f))
    (sym c.in-Let.is)
    (on_ok c.pose_let.result
    (Adds c.args.self.now c.pose_let.new.self c.args.node (copy_added (size c.args.self.now) known (root_in c.args.self.now c.in-Let.second)) (IsCopiedEdge (size c.args.self.now) (binder_in c.args.self.now) known known.env))
    (AddsNode (known_in c.args.known.now.globals) (known_in c.args.known.now.lets) c.args.self.now c.pose_let.new.self c.args.node (form.Let c.in-Let.k c.in-Let.field-1 c.in-Let.second))
    (λ added. (known, c.known_type-in-Let.ensures, added)) c.pose_let.ensures)
