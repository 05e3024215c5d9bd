use Rattle.mls_typetext.proofs.ReadLaws.{read_is_closed}
use Rattle.mls_typetext.proofs.laws.read_is_closed.Goals as goal

pub returns : goal.returns
returns c = read_is_closed
