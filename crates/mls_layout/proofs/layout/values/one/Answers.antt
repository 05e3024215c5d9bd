use Rattle.std.proofs.Common.{◌≡◌}
use Rattle.mls_layout.proofs.Gathering.{gathered, gathers_one}
use Rattle.mls_layout.proofs.layout.values.one.Goals as goal

pub returns : goal.returns
returns c = gathered (λ i. c.args.id.0 ≡ i) c.new-ids.result c.push.new.self c.new-ids.ensures (gathers_one c.new-ids.result c.push.new.self c.args.id c.in_ok-push.ensures.ok)
