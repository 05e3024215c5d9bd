use Rattle.std.proofs.Common.{◌∙◌, []}
use Rattle.mls_infer.specs.Constraints.{choice_constraint}
use Rattle.mls_infer.proofs.SameTables.{alone_states, no_entries}
use Rattle.mls_infer.proofs.clash.chosen.Goals as goal

pub conditional-requires-clause-condition : goal.conditional-requires-clause-condition
conditional-requires-clause-condition c =
    alone_states c.args.live.now c.in_ok-tested.tested [] c.args.condition c.in_ok-tested.ensures.same c.in_ok-tested.ensures.part c.requires.condition (no_entries c.args.live.now)

pub conditional-requires-clause-first : goal.conditional-requires-clause-first
conditional-requires-clause-first c =
    alone_states c.args.live.now c.in_ok-one.one [] c.args.first c.in_ok-one.ensures.same c.in_ok-one.ensures.part c.requires.first (no_entries c.args.live.now)

pub conditional-requires-clause-second : goal.conditional-requires-clause-second
conditional-requires-clause-second c =
    alone_states c.args.live.now c.in_ok-other.other [] c.args.second c.in_ok-other.ensures.same c.in_ok-other.ensures.part c.requires.second (no_entries c.args.live.now)

pub returns-clause-constraint : goal.returns-clause-constraint
returns-clause-constraint c = (
  c.in_ok-tested.tested.automaton,
  c.in_ok-tested.ensures.same,
  (
    c.in_ok-one.one.automaton,
    c.in_ok-one.ensures.same,
    (
      c.in_ok-other.other.automaton,
      c.in_ok-other.ensures.same,
      c.in_ok-posed.ensures.constraint ∙ (λ i. choice_constraint (c.in_ok-tested.ensures.part i) (c.in_ok-one.ensures.part i) (c.in_ok-other.ensures.part i)),
    ),
  ),
)
