use Rattle.std.proofs.Common.{◌≡◌, ◌≤◌, ◌/◌, drop, length, arith}
use Rattle.mls_deriv.specs.inner.Guesses.{fields_guess}
use Rattle.mls_deriv.proofs.WordValues.{fields_all}
use Rattle.mls_deriv.proofs.node_line.fields_of.Goals as goal

pub returns : goal.returns
returns c =
    let count : c.len-i-end.result ≡ length c.args.words.now = c.len-i-end.ensures in
    let low : length c.args.words.now / 2 ≤ c.loop-i.i = omega (arith, c.loop-i-test.false) in
    fields_all c.args.words.now c.loop-i.i c.loop-i.fields (fields_guess (drop 2 c.args.words.now)) low c.loop-i.invariant
