use Rattle.std.proofs.Common.{◌∙◌, ap, Some}
use Rattle.mls_lines.proofs.Bringing.{bound_taken, step_taken}
use Rattle.mls_lines.proofs.writer.Writer.taken.Goals as goal

pub returns-in_ok-step-in-Bound-clause-takes : goal.returns-in_ok-step-in-Bound-clause-takes
returns-in_ok-step-in-Bound-clause-takes c = λ sound low.
    bound_taken c.args.self.now c.take_concluded.new.self c.bound_step.new.self c.args.node c.args.root c.in_ok-step-in-Bound.step sound low c.take_concluded.ensures.steps c.take_concluded.ensures.laid
    c.take_concluded.ensures.fewer c.in-Bound.x (c.in_ok-own.ensures.found ∙ ap Some c.in-Bound.is) c.in_ok-step-in-Bound.ensures.laid c.in_ok-step-in-Bound.ensures.concluded c.in_ok-step-in-Bound.ensures.lines

pub returns-in-Step-clause-takes : goal.returns-in-Step-clause-takes
returns-in-Step-clause-takes c = λ sound low.
    step_taken c.args.self.now c.take_concluded.new.self c.take_concluded.new.self c.args.node c.args.root c.in-Step.from sound low c.take_concluded.ensures.steps c.take_concluded.ensures.laid
    c.take_concluded.ensures.fewer (c.in_ok-own.ensures.found ∙ ap Some c.in-Step.is)
