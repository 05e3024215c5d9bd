use Rattle.mls_grammar.proofs.FaultsWithin.{fault-within}
use Rattle.mls_grammar.proofs.laws.fault_is_in_text.Goals as goal

pub returns : goal.returns
returns c = fault-within
