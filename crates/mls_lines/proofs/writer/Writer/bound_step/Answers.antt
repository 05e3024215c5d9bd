use Rattle.std.proofs.Common.{List, subst}
use Rattle.mls_deriv.specs.declared.derivation.BinderNode.{BinderNode}
use Rattle.mls_deriv.specs.declared.derivation.StepRule.TheVariants as rule
use Rattle.mls_lines.specs.Stepping.{AddsStep}
use Rattle.mls_lines.proofs.JoinedEnvironments.{with_nothing}
use Rattle.mls_lines.proofs.writer.Writer.bound_step.Goals as goal

pub returns-clause-lines : goal.returns-clause-lines
returns-clause-lines c =
    subst (λ (d : List BinderNode). AddsStep c.args.self.now.steps c.step.new.self (record { node = c.args.node; rule = rule.Var; env = d; root = c.args.root }) c.in_ok-step.step)
    (with_nothing c.args.x c.args.root.0 c.in_ok-own.own (c.in_ok-own.ensures tt)) c.in_ok-step.ensures
