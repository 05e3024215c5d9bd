use Rattle.std.proofs.Common.{◌∙◌, length, List, refl, sym, subst}
use Rattle.mls_deriv.specs.declared.derivation.BinderNode.{BinderNode}
use Rattle.mls_deriv.specs.declared.derivation.StepRule.TheVariants as rule
use Rattle.mls_lines.specs.declared.steps.Conclusion.{Conclusion}
use Rattle.mls_lines.specs.declared.writer.Concluded.TheVariants.{Step}
use Rattle.mls_lines.specs.declared.writer.Writer as state
use Rattle.mls_term.specs.declared.term.TermForm.TheVariants as form
use Rattle.mls_lines.specs.PlainLines.{WritesNode}
use Rattle.mls_lines.specs.Stepping.{AddsStep}
use Rattle.mls_lines.proofs.LowNodes.{first_puts_low}
use Rattle.mls_lines.proofs.PlainForms.{inner_writes}
use Rattle.mls_lines.proofs.writer.Writer.inner.Goals as goal

pub returns-clause-writes : goal.returns-clause-writes
returns-clause-writes c = λ k parts sound rise low.
    let part = c.first_part-part.result.now in
    let new : state.Writer = record c.args.self.now { steps = c.step.new.self } in
    let adds = subst (λ (d : List BinderNode). AddsStep c.args.self.now.steps c.step.new.self (record { node = c.args.node; rule = rule.Use part.step; env = d; root = part.root }) c.in_ok-own.own)
    (c.in_ok-env.ensures ∙ c.as_slice.ensures) c.in_ok-own.ensures in
    subst (λ (own : Conclusion). WritesNode c.args.view.now.globals.now c.args.view.now.firsts.now c.args.view.now.known.now.lets k c.args.view.now.posing.now parts c.args.node (form.Inner c.args.k) c.args.self.now new (Step own)) (sym c.with_puts.ensures)
    (inner_writes c.args.view.now.globals.now c.args.view.now.firsts.now c.args.view.now.known.now.lets k c.args.view.now.posing.now parts c.args.node c.args.self.now sound c.args.k new part c.in_ok-own.own c.in_ok-puts.puts low
    (first_puts_low (length c.args.self.now.laid.book) c.args.self.now.laid.places c.args.view.now.posing.now c.args.view.now.known.now.lets c.args.node c.args.k part.variable c.in_ok-puts.puts sound.places c.in_ok-puts.ensures.edges)
    c.first_part-part.ensures
    (rise c.args.k part c.first_part-part.ensures) refl refl adds c.in_ok-puts.ensures.edges)
