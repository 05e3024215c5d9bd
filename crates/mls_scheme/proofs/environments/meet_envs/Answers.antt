use Rattle.std.proofs.Common.{List, arith, subst}
use Rattle.mls_automaton.specs.declared.scheme.EnvEntry.{EnvEntry}
use Rattle.mls_scheme.specs.steps.Environments.{IsMetEnv}
use Rattle.mls_scheme.proofs.MetEnvironments.{met}
use Rattle.mls_scheme.proofs.environments.meet_envs.Goals as goal

pub returns : goal.returns
returns c =
    subst (λ (es : List EnvEntry). IsMetEnv es c.args.second.now c.args.start c.loop-i.met.env c.loop-i.met.shared.items) c.as_slice-first.ensures.entries
    (subst (λ (es : List EnvEntry). IsMetEnv c.as_slice-first.result.now es c.args.start c.loop-i.met.env c.loop-i.met.shared.items) c.as_slice-second.ensures.entries
    (met c.as_slice-first.result.now c.as_slice-second.result.now c.loop-i.i c.loop-i.j c.args.start c.loop-i.met.env c.loop-i.met.shared.items c.loop-i.invariant.0 (omega arith) (omega arith)))
