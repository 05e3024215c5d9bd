use Rattle.mls_iface.proofs.MatchLaws.{one_match_answer}
use Rattle.mls_iface.proofs.laws.one_match_answer.Goals as goal

pub returns : goal.returns
returns c = one_match_answer
