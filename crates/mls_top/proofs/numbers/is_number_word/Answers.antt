use Rattle.std.proofs.Common.{rules, sym, ◌∙◌}
use Rattle.mls_top.proofs.CommandNumbers.{number_word}
use Rattle.mls_top.proofs.numbers.is_number_word.Goals as goal

pub returns-then-word-le10 : goal.returns-then-word-le10
returns-then-word-le10 c = number_word c.args.word.now c.are_digits.result c.are_digits.ensures (search rules) (search rules)
