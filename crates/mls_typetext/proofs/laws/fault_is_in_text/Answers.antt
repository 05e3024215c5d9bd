use Rattle.mls_typetext.proofs.FaultsWithin.{fault_is_in_text}
use Rattle.mls_typetext.proofs.laws.fault_is_in_text.Goals as goal

pub returns : goal.returns
returns c = fault_is_in_text
