use Rattle.mls_grammar.proofs.ModuleLaws.{no_fault_beside_a_module}
use Rattle.mls_grammar.proofs.laws.no_fault_beside_a_module.Goals as goal

pub returns : goal.returns
returns c = no_fault_beside_a_module
