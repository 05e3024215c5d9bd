use Rattle.mls_grammar.proofs.FirstStops.{one_fault_before_names}
use Rattle.mls_grammar.proofs.grammar_laws.one_fault_before_names.Goals as goal

pub returns : goal.returns
returns c = one_fault_before_names
