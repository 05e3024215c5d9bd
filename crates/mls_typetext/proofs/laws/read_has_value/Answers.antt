use Rattle.mls_typetext.proofs.ReadLaws.{read_has_value}
use Rattle.mls_typetext.proofs.laws.read_has_value.Goals as goal

pub returns : goal.returns
returns c = read_has_value
