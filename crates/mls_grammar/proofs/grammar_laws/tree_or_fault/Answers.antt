use Rattle.mls_grammar.proofs.FirstStops.{tree_or_fault}
use Rattle.mls_grammar.proofs.grammar_laws.tree_or_fault.Goals as goal

pub returns : goal.returns
returns c = tree_or_fault
