use Rattle.mls_typetext.proofs.Total.{reading_or_fault}
use Rattle.mls_typetext.proofs.laws.reading_or_fault.Goals as goal

pub returns : goal.returns
returns c = reading_or_fault
