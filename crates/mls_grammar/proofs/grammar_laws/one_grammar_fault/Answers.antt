use Rattle.mls_grammar.proofs.GrammarStops.{one_grammar_fault}
use Rattle.mls_grammar.proofs.grammar_laws.one_grammar_fault.Goals as goal

pub returns : goal.returns
returns c = one_grammar_fault
