use Rattle.std.proofs.Common.{◌/◌, length}
use Rattle.mls_infer.proofs.MetTogether.{halves_parts}
use Rattle.mls_infer.proofs.meets.+head_together.Goals as goal

pub returns-clause-parts : goal.returns-clause-parts
returns-clause-parts t c =
    halves_parts c.args.live.now.table c.args.entries.now (length c.args.entries.now / 2) c.in_ok-first.first c.in_ok-second.second c.in_ok-head-2.head
    c.in_ok-first.ensures.parts c.in_ok-second.ensures.parts c.in_ok-head-2.ensures.parts
