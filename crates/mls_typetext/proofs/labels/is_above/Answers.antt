use Rattle.std.proofs.Common.{rules}
use Rattle.mls_typetext.proofs.RisingLabels.{all-lower}
use Rattle.mls_typetext.proofs.labels.is_above.Goals as goal

pub returns-in-Some : goal.returns-in-Some
returns-in-Some c = λ less.
    all-lower c.args.labels.now c.args.label.now c.in-Some.last.now c.requires c.in-Some.ensures.value (search rules)
