use Rattle.std.proofs.Common.{rules, ◌≡◌}
use Rattle.std.specs.Prelude.{decimal}
use Rattle.mls_deriv.proofs.WordValues.{value_same, value_other}
use Rattle.mls_deriv.proofs.words.value_of.Goals as goal

pub returns-then-eq : goal.returns-then-eq
returns-then-eq c =
    let same : decimal c.digits_of-value.result ≡ c.args.word.now = search rules in
    value_same c.args.word.now c.digits_of-value.result (search rules) same

pub returns-else-eq : goal.returns-else-eq
returns-else-eq c = value_other c.args.word.now c.digits_of-value.result c.digits_of-value.ensures (search rules)
