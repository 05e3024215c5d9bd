use Rattle.mls_grammar.proofs.GrammarTotal.{phrase_or_fault}
use Rattle.mls_grammar.proofs.grammar_laws.phrase_or_fault.Goals as goal

pub returns : goal.returns
returns c = phrase_or_fault
