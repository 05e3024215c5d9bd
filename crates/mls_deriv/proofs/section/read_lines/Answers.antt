use Rattle.std.proofs.Common.{◌≡◌, true, false}
use Rattle.mls_deriv.specs.Texts.{none_given}
use Rattle.mls_deriv.specs.BadLines.{given_by}
use Rattle.mls_deriv.proofs.FrontLines.{no_more_lines, lines_more, given_after, lines_stop, lines_end, lines_barred}
use Rattle.mls_deriv.proofs.section.read_lines.Goals as goal

pub returns-in-None : goal.returns-in-None
returns-in-None c =
    lines_stop c.args.nodes c.args.text.now c.loop-front.rest.now c.in-Some.front.line.now c.in-Some.front.rest.now c.loop-front.lines c.loop-front.invariant.spelled c.loop-front.invariant.forms
    c.loop-front.invariant.stand c.in-Some.ensures.0 c.in-Some.ensures.1 (rw c.in-None.is at c.in_ok-read.ensures)

pub returns-then-not-may_stand : goal.returns-then-not-may_stand
returns-then-not-may_stand c =
    lines_barred c.args.nodes c.args.text.now c.loop-front.rest.now c.in-Some.front.line.now c.in-Some.front.rest.now c.loop-front.lines c.in-Some-2.line c.loop-front.invariant.spelled c.loop-front.invariant.forms
    c.loop-front.invariant.stand c.in-Some.ensures.0 c.in-Some.ensures.1 (rw c.in-Some-2.is at c.in_ok-read.ensures)
    (λ stands.
    let yes' : c.may_stand.result ≡ true = (c.may_stand.ensures (given_by none_given c.loop-front.lines) c.loop-front.invariant.given).1 stands in
    let no' : c.may_stand.result ≡ false = c.if-not-may_stand.true in
    absurd (cc))

pub loop-front-preserved : goal.loop-front-preserved
loop-front-preserved c =
    let stands = (c.may_stand.ensures (given_by none_given c.loop-front.lines) c.loop-front.invariant.given).0 c.if-not-may_stand.false in
    let more = lines_more c.args.nodes c.args.text.now c.loop-front.rest.now c.in-Some.front.line.now c.in-Some.front.rest.now c.loop-front.lines c.push.new.self c.in-Some-2.line
    c.loop-front.invariant.spelled c.loop-front.invariant.forms c.loop-front.invariant.stand c.in-Some.ensures.1 (rw c.in-Some-2.is at c.in_ok-read.ensures) stands c.in_ok-push-in-Some-2.ensures.ok in
    record {
      spelled = more.0;
      forms = more.1;
      stand = more.2;
      given = given_after c.loop-front.lines c.push.new.self c.in-Some-2.line c.take.new.self (c.in_ok-take-in-Some-2.ensures (given_by none_given c.loop-front.lines) c.loop-front.invariant.given) c.in_ok-push-in-Some-2.ensures.ok;
    }

pub returns : goal.returns
returns c =
    lines_end c.args.nodes c.args.text.now c.loop-front.rest.now c.loop-front.lines c.loop-front.invariant.spelled c.loop-front.invariant.forms c.loop-front.invariant.stand
    (no_more_lines c.loop-front.rest.now c.front_of.result c.front_of.ensures c.in_default.not-Some)
