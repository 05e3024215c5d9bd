use Rattle.std.proofs.Common.{rules, ◌≡◌, true, false, take, subst, sym}
use Rattle.mls_deriv.specs.Texts.{none_given}
use Rattle.mls_deriv.specs.BadLines.{given_by}
use Rattle.mls_deriv.specs.inner.GivenLines.{IsGiven}
use Rattle.mls_deriv.proofs.Standing.{stands_at, stand_to, given_to}
use Rattle.mls_deriv.proofs.printable.do_stand.Goals as goal

pub returns-then-not-may_stand : goal.returns-then-not-may_stand
returns-then-not-may_stand c = (
  λ no. absurd (cc),
  λ all.
      let stands = stands_at c.args.nodes none_given c.args.lines.now c.loop-line.line-index c.line-item.result (search rules) (search rules) all in
      let yes' : c.may_stand.result ≡ true = (c.may_stand.ensures (given_by none_given (take c.loop-line.line-index c.args.lines.now)) c.loop-line.invariant.given).1 stands in
      let no' : c.may_stand.result ≡ false = c.if-not-may_stand.true in
      absurd (cc),
)

pub loop-line-preserved : goal.loop-line-preserved
loop-line-preserved c =
    let stands = (c.may_stand.ensures (given_by none_given (take c.loop-line.line-index c.args.lines.now)) c.loop-line.invariant.given).0 c.if-not-may_stand.false in
    record {
      stand = stand_to c.args.nodes none_given c.args.lines.now c.loop-line.line-index c.line-item.result (search rules) (search rules) c.loop-line.invariant.stand stands;
      given = subst (λ g. IsGiven g c.take.new.self) (sym (given_to c.args.nodes none_given c.args.lines.now c.loop-line.line-index c.line-item.result (search rules) (search rules)))
          (c.in_ok-take.ensures (given_by none_given (take c.loop-line.line-index c.args.lines.now)) c.loop-line.invariant.given);
    }
