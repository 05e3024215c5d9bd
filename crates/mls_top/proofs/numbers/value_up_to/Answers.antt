use Rattle.std.proofs.Common.{◌+◌, arith}
use Rattle.mls_lexer.proofs.Values.{digits_value_more, digits_value_front}
use Rattle.mls_top.proofs.numbers.value_up_to.Goals as goal

pub returns-then-value-from : goal.returns-then-value-from
returns-then-value-from c =
    let digits = c.args.digits.now in
    let i = c.loop-byte.byte-index in
    let more = digits_value_more digits i (omega arith) in
    let front = digits_value_front digits (i + 1) in
    omega (arith, more, front)
