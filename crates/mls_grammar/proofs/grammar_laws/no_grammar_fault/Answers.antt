use Rattle.mls_grammar.proofs.OneTree.{no_fault_beside_a_tree}
use Rattle.mls_grammar.proofs.grammar_laws.no_grammar_fault.Goals as goal

pub returns : goal.returns
returns c = no_fault_beside_a_tree
