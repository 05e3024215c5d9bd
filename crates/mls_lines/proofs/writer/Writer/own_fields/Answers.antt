use Rattle.std.proofs.Common.{◌≡◌, ◌∙◌, ◌+◌, ◌≤◌, length, ap, arith}
use Rattle.std.proofs.lemmas.List.{length_push}
use Rattle.mls_lines.proofs.writer.Writer.own_fields.Goals as goal

pub loop-number-preserved : goal.loop-number-preserved
loop-number-preserved c = ap length c.in_ok-push.ensures.ok ∙ (length_push c.loop-number.own _ ∙ ap (λ n. n + 1) c.loop-number.invariant)

pub returns : goal.returns
returns c =
    let all : length c.args.parts.now ≤ c.loop-number.number = c.loop-number-test.false in
    let is : length c.loop-number.own ≡ c.loop-number.number = c.loop-number.invariant in
    omega (arith, all, is)
