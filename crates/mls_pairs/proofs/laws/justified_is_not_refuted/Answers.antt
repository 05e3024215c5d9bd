use Rattle.mls_pairs.proofs.Refuted.{justified_is_not_refuted}
use Rattle.mls_pairs.proofs.laws.justified_is_not_refuted.Goals as goal

pub returns : goal.returns
returns c = justified_is_not_refuted
