use Rattle.std.proofs.Common.{◌∙◌, []}
use Rattle.mls_infer.specs.Constraints.{project_constraint}
use Rattle.mls_infer.proofs.SameTables.{alone_states, no_entries}
use Rattle.mls_infer.proofs.clash.projected.Goals as goal

pub projection-requires : goal.projection-requires
projection-requires c =
    alone_states c.args.live.now c.in_ok-part.part [] c.args.body c.in_ok-part.ensures.same c.in_ok-part.ensures.part c.requires (no_entries c.args.live.now)

pub returns-clause-constraint : goal.returns-clause-constraint
returns-clause-constraint c = (
  c.in_ok-part.part.automaton,
  c.in_ok-part.ensures.same,
  c.in_ok-posed.ensures.constraint ∙ (λ i. project_constraint c.args.label.now (c.in_ok-part.ensures.part i)),
)
