use Rattle.mls_grammar.proofs.DoublesRise.{first_double_is_least}
use Rattle.mls_grammar.proofs.grammar_laws.first_double_is_least.Goals as goal

pub returns : goal.returns
returns c = first_double_is_least
