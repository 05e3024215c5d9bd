use Rattle.std.proofs.Common.{false, All, subst, sym}
use Rattle.mls_automaton.specs.declared.state_set.StateId.{StateId}
use Rattle.mls_biunify.specs.Live.{IsReachedFrom, IsThere, KeepsThere, Live}
use Rattle.mls_biunify.specs.steps.LiveParts.{live_of}
use Rattle.mls_biunify.proofs.Lives.{kept-live}
use Rattle.mls_biunify.proofs.live.Live.keep.Goals as goal

pub keep_reached-requires : goal.keep_reached-requires
keep_reached-requires c = subst (λ (live : Live). All (λ (root : StateId). IsThere live root.0) c.args.roots.now) (sym c.self.view_is) c.requires

pub returns-clause-kept : goal.returns-clause-kept
returns-clause-kept c =
    subst (λ (live : Live). KeepsThere live (live_of (record { table = c.keep_reached.new.table; relation = c.self.inside.relation; is_solved = false; is_ready = false })) (IsReachedFrom live.table c.args.roots.now)) c.self.view_is
    (kept-live c.self.inside.table c.keep_reached.new.table (IsReachedFrom c.self.inside.table.automaton c.args.roots.now) c.self.inside.relation c.self.inside.is_solved c.self.inside.is_ready c.in_ok-keep_reached.ensures.ok)
