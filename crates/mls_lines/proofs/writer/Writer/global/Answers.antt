use Rattle.std.proofs.Common.{◌+◌, List, refl, sym, subst}
use Rattle.mls_deriv.specs.declared.derivation.BinderNode.{BinderNode}
use Rattle.mls_deriv.specs.declared.derivation.StepRule.TheVariants as rule
use Rattle.mls_layout.specs.Runs.{id}
use Rattle.mls_lines.specs.declared.steps.Conclusion.{Conclusion}
use Rattle.mls_lines.specs.declared.writer.Concluded.TheVariants.{Step}
use Rattle.mls_lines.specs.declared.writer.Writer as state
use Rattle.mls_term.specs.declared.term.TermForm.TheVariants as form
use Rattle.mls_lines.specs.PlainLines.{WritesNode}
use Rattle.mls_lines.specs.Stepping.{AddsStep}
use Rattle.mls_layout.specs.LaidOut.{place_of}
use Rattle.mls_lines.proofs.LowNodes.{joins_put_low}
use Rattle.mls_lines.proofs.PlainForms.{global_writes}
use Rattle.mls_lines.proofs.Lengthening.{lengthens_grown}
use Rattle.mls_lines.proofs.writer.Writer.global.Goals as goal

pub returns-clause-writes : goal.returns-clause-writes
returns-clause-writes c = λ k parts sound low.
    let known = c.global_at-global.result.now in
    let are = c.in_ok-puts.ensures.joins sound.closed.book in
    let new : state.Writer = record c.puts_of_global.new.self { steps = c.step.new.self } in
    let adds = subst (λ (d : List BinderNode). AddsStep c.puts_of_global.new.self.steps c.step.new.self (record { node = c.args.node; rule = rule.Name (id known.first); env = d; root = known.root }) c.in_ok-own.own)
    c.new-env.ensures c.in_ok-own.ensures in
    subst (λ (own : Conclusion). WritesNode c.args.view.now.globals.now c.args.view.now.firsts.now c.args.view.now.known.now.lets k c.args.view.now.posing.now parts c.args.node (form.Global c.args.g) c.args.self.now new (Step own)) (sym c.with_puts.ensures)
    (global_writes c.args.view.now.globals.now c.args.view.now.firsts.now c.args.view.now.known.now.lets k c.args.view.now.posing.now parts c.args.node c.args.self.now sound c.args.g c.puts_of_global.new.self new known c.in_ok-own.own c.in_ok-puts.puts low
    (joins_put_low c.puts_of_global.new.self.laid.book (λ s. place_of c.args.self.now.laid.places (are.first + s)) known.showing known.variables c.in_ok-puts.puts are.joins)
    c.global_at-global.ensures c.in_ok-puts.ensures.grows refl refl adds (λ closed. c.in_ok-puts.ensures.joins closed.book))

pub returns-clause-lengthens : goal.returns-clause-lengthens
returns-clause-lengthens c = lengthens_grown c.args.self.now c.puts_of_global.new.self c.in_ok-puts.ensures.grows
