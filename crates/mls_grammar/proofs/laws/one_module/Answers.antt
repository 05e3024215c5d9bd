use Rattle.mls_grammar.proofs.ModuleLaws.{one_module}
use Rattle.mls_grammar.proofs.laws.one_module.Goals as goal

pub returns : goal.returns
returns c = one_module
