use Rattle.std.proofs.Common.{◌≡◌, ◌-◌, get_or, rules}
use Rattle.mls_deriv.proofs.WordValues.{digit_more, digits_end}
use Rattle.mls_deriv.proofs.words.digits_of.Goals as goal

pub loop-byte-preserved : goal.loop-byte-preserved
loop-byte-preserved c = λ n low is.
    let digit : c.from-digit.result ≡ get_or c.args.word.now c.loop-byte.byte-index 0 - 48 = search rules in
    digit_more c.args.word.now c.loop-byte.byte-index c.loop-byte.value c.from-digit.result n low is c.loop-byte-test.true (c.loop-byte.invariant n low is) digit

pub returns : goal.returns
returns c = λ n low is. digits_end c.args.word.now c.loop-byte.byte-index c.loop-byte.value n low is c.loop-byte-test.false (c.loop-byte.invariant n low is)
