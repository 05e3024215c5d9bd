use Rattle.std.proofs.Common.{◌∙◌, [], ap, Some}
use Rattle.std.specs.Prelude.{option_map}
use Rattle.std.proofs.lemmas.Result.{IfOk-weaker}
use Rattle.mls_lines.specs.Conclusions.{a_binder, by_step, IsOffered, IsWith}
use Rattle.mls_lines.specs.Stepping.{conclusion_of}
use Rattle.mls_lines.specs.Writer.{concluded_of, own_node, Offers}
use Rattle.mls_lines.proofs.JoinedEnvironments.{with_nothing}
use Rattle.mls_lines.proofs.GoingOn.{offered_rising}
use Rattle.mls_lines.proofs.writer.Writer.offered.Goals as goal

pub returns-in-Bound : goal.returns-in-Bound
returns-in-Bound c = λ have.
    let x = c.in-Bound.x in
    IfOk-weaker c.with.result (IsWith [] x c.args.root.0) (Offers c.args.self.now c.args.view.now.posing.now c.args.node c.args.root.0)
    (λ d it. record {
      own = a_binder x;
      known = ap (option_map concluded_of) (c.in_ok-own.ensures ∙ ap Some c.in-Bound.is);
      offers = with_nothing x c.args.root.0 d it;
      rising = it.rising;
    })
    (c.with.ensures tt)

pub returns-in-Step : goal.returns-in-Step
returns-in-Step c = λ have.
    let of = c.in-Step.of in
    let node = own_node c.args.self.now c.args.view.now.posing.now in
    let found = c.in_ok-own.ensures ∙ ap Some c.in-Step.is in
    IfOk-weaker c.offered_step.result (IsOffered node (by_step (conclusion_of of)) c.args.root.0) (Offers c.args.self.now c.args.view.now.posing.now c.args.node c.args.root.0)
    (λ d it. record {
      own = by_step (conclusion_of of);
      known = ap (option_map concluded_of) found;
      offers = it;
      rising = offered_rising node (conclusion_of of) c.args.root.0 d (have c.args.node of found) it;
    })
    (c.offered_step.ensures (have c.args.node of found) c.args.root.0)
