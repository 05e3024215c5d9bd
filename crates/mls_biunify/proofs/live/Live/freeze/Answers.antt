use Rattle.std.proofs.Common.{All, subst, sym}
use Rattle.mls_automaton.specs.declared.automaton.Polarity.TheVariants.{Positive, Negative}
use Rattle.mls_automaton.specs.declared.scheme.EnvEntry.{EnvEntry}
use Rattle.mls_automaton.specs.Reached.{KeepsReached}
use Rattle.mls_automaton.specs.Schemes.{AreEquivalentSchemes}
use Rattle.mls_automaton.proofs.Kept.{kept_equivalent}
use Rattle.mls_solver.specs.Solutions.{scheme_over}
use Rattle.mls_biunify.specs.Live.{IsLiveState, Live}
use Rattle.mls_biunify.proofs.Copied.{table_scheme}
use Rattle.mls_biunify.proofs.live.Live.freeze.Goals as goal

pub returns-clause-kept : goal.returns-clause-kept
returns-clause-kept c = subst (λ (live : Live). KeepsReached c.in_ok-kept.kept (scheme_over live.table c.args.root.0 c.args.env.now)) c.self.view_is c.in_ok-kept.ensures.kept

pub returns-clause-equivalent : goal.returns-clause-equivalent
returns-clause-equivalent c =
    subst (λ (live : Live). AreEquivalentSchemes (scheme_over live.table c.args.root.0 c.args.env.now) c.in_ok-kept.kept) c.self.view_is
    (λ old new is-old is-new.
    let both = kept_equivalent c.in_ok-kept.kept (scheme_over c.self.inside.table.automaton c.args.root.0 c.args.env.now) new old c.in_ok-kept.ensures.scheme
    (table_scheme c.self.inside.table c.limit-limit.ensures.is c.args.root.0 c.args.env.now (subst (λ (live : Live). IsLiveState live Positive c.args.root.0) (sym c.self.view_is) c.requires.root) (subst (λ (live : Live). All (λ (entry : EnvEntry). IsLiveState live Negative entry.state.0) c.args.env.now) (sym c.self.view_is) c.requires.env))
    is-new is-old c.in_ok-kept.ensures.kept in
    (both.1, both.0))
