use Rattle.mls_typetext.proofs.ReadingsFrom.{one_reading_from}
use Rattle.mls_typetext.proofs.laws.one_reading_from.Goals as goal

pub returns : goal.returns
returns c = one_reading_from
