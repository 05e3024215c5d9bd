use Rattle.std.proofs.Common.{false, subst}
use Rattle.mls_biunify.specs.Live.{Inserts, Live}
use Rattle.mls_biunify.specs.steps.LiveParts.{live_of}
use Rattle.mls_biunify.proofs.Lives.{inserts-live}
use Rattle.mls_biunify.proofs.live.Live.insert.Goals as goal

pub returns-clause-inserts : goal.returns-clause-inserts
returns-clause-inserts c =
    subst (λ (live : Live). Inserts live (live_of (record { table = c.insert.new.self; relation = c.self.inside.relation; is_solved = false; is_ready = false })) c.in_ok-id.id.0 (record { polarity = c.args.polarity; head = c.args.head })) c.self.view_is
    (inserts-live c.self.inside.table c.insert.new.self c.in_ok-id.id.0 (record { polarity = c.args.polarity; head = c.args.head }) c.self.inside.relation c.self.inside.is_solved c.self.inside.is_ready c.in_ok-id.ensures.inserts)
