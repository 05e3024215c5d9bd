use Rattle.std.proofs.Common.{rules}
use Rattle.mls_reader.proofs.RisingNames.{all-lower}
use Rattle.mls_reader.proofs.names.is_above.Goals as goal

pub returns-in-Some : goal.returns-in-Some
returns-in-Some c = λ less.
    all-lower c.args.names.now c.args.name.now c.in-Some.last.now c.requires c.in-Some.ensures.value (search rules)
