use Rattle.std.proofs.Common.{◌<◌, get_or, subst, sym}
use Rattle.std.specs.Prelude.{All}
use Rattle.mls_automaton.specs.declared.scheme.EnvEntry.{EnvEntry}
use Rattle.mls_emit.proofs.KnownNames.{all_before}
use Rattle.mls_emit.proofs.derive.section.env_of.Goals as goal

-- the binders rise
pub push-requires : goal.push-requires
push-requires c =
    subst (All (λ (other : EnvEntry). other.binder < get_or c.args.binders.now c.loop-binder.binder-index 0)) (sym c.loop-binder.invariant)
    (all_before c.args.posing.now c.args.binders.now c.requires c.loop-binder.binder-index c.loop-binder-test.true)
