use Rattle.mls_grammar.proofs.OneTree.{one_tree}
use Rattle.mls_grammar.proofs.grammar_laws.one_tree.Goals as goal

pub returns : goal.returns
returns c = one_tree
