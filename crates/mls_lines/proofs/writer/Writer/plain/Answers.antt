use Rattle.std.proofs.Common.{◌≡◌, ◌∙◌, ap, Some}
use Rattle.mls_book.specs.declared.book.NodeId.{NodeId}
use Rattle.mls_layout.specs.LaidOut.{place_of}
use Rattle.mls_lines.specs.Writer.{own_node}
use Rattle.mls_lines.proofs.PlainLets.{bound_own, step_own_taken}
use Rattle.mls_lines.proofs.writer.Writer.plain.Goals as goal

pub returns-in_ok-step-in-Bound-clause-takes : goal.returns-in_ok-step-in-Bound-clause-takes
returns-in_ok-step-in-Bound-clause-takes c = λ sound.
    let p = c.args.view.now.posing.now in
    let place : c.place-place.result.0 ≡ own_node c.args.self.now p c.in-Bound.x =
    ap (λ (n : NodeId). n.0) c.place-place.ensures ∙ (λ k. place_of (c.take_concluded.ensures.laid k).places (c.binder.ensures k)) in
    bound_own c.args.self.now c.take_concluded.new.self c.bound_step.new.self p c.args.node c.in_ok-step-in-Bound.step sound c.take_concluded.ensures.steps c.take_concluded.ensures.laid
    c.take_concluded.ensures.fewer c.in-Bound.x c.place-place.result place (c.in_ok-own.ensures.found ∙ ap Some c.in-Bound.is) c.in_ok-step-in-Bound.ensures.laid c.in_ok-step-in-Bound.ensures.concluded
    c.in_ok-step-in-Bound.ensures.lines

pub returns-in-Step-clause-takes : goal.returns-in-Step-clause-takes
returns-in-Step-clause-takes c = λ sound.
    step_own_taken c.args.self.now c.take_concluded.new.self c.take_concluded.new.self c.args.view.now.posing.now c.args.node c.in-Step.from sound c.take_concluded.ensures.steps c.take_concluded.ensures.laid
    c.take_concluded.ensures.fewer (c.in_ok-own.ensures.found ∙ ap Some c.in-Step.is)
