use Rattle.std.proofs.Common.{◌∙◌, []}
use Rattle.mls_infer.specs.Constraints.{apply_constraint}
use Rattle.mls_infer.proofs.SameTables.{alone_states, no_entries}
use Rattle.mls_infer.proofs.clash.applied.Goals as goal

pub application-requires-clause-function : goal.application-requires-clause-function
application-requires-clause-function c =
    alone_states c.args.live.now c.in_ok-first.first [] c.args.function c.in_ok-first.ensures.same c.in_ok-first.ensures.part c.requires.function (no_entries c.args.live.now)

pub application-requires-clause-argument : goal.application-requires-clause-argument
application-requires-clause-argument c =
    alone_states c.args.live.now c.in_ok-second.second [] c.args.argument c.in_ok-second.ensures.same c.in_ok-second.ensures.part c.requires.argument (no_entries c.args.live.now)

pub returns-clause-constraint : goal.returns-clause-constraint
returns-clause-constraint c = (
  c.in_ok-first.first.automaton,
  c.in_ok-first.ensures.same,
  (
    c.in_ok-second.second.automaton,
    c.in_ok-second.ensures.same,
    c.in_ok-posed.ensures.constraint ∙ (λ i. apply_constraint (c.in_ok-first.ensures.part i) (c.in_ok-second.ensures.part i)),
  ),
)
