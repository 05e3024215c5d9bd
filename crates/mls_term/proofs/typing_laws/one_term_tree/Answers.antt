use Rattle.mls_term.proofs.TreesOfTerms.{one_term_tree}
use Rattle.mls_term.proofs.typing_laws.one_term_tree.Goals as goal

pub returns : goal.returns
returns c = one_term_tree
