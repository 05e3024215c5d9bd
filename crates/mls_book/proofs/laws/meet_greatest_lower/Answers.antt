use Rattle.mls_book.proofs.OrderLaws.{meet_greatest_lower}
use Rattle.mls_book.proofs.laws.meet_greatest_lower.Goals as goal

pub returns : goal.returns
returns c = meet_greatest_lower
