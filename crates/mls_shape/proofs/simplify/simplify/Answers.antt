use Rattle.mls_shape.proofs.Equivalences.{simplified-equivalent, simplified-binders}
use Rattle.mls_shape.proofs.Simplifying.{simplified, simplifies}
use Rattle.mls_shape.proofs.simplify.simplify.Goals as goal

pub returns-clause-steps : goal.returns-clause-steps
returns-clause-steps c =
    simplifies c.args.s.now c.in_ok-deterministic.deterministic c.in_ok-dropped.dropped c.in_ok-minimal.minimal c.in_ok-deterministic.ensures.scheme c.in_ok-minimal.ensures.scheme
    c.in_ok-deterministic.ensures.form c.in_ok-dropped.ensures.drops c.in_ok-minimal.ensures.form

pub returns-clause-equivalent : goal.returns-clause-equivalent
returns-clause-equivalent c =
    simplified-equivalent c.args.s.now c.in_ok-minimal.minimal c.requires c.in_ok-minimal.ensures.scheme (returns-clause-steps c)

pub returns-clause-binders : goal.returns-clause-binders
returns-clause-binders c = simplified-binders c.args.s.now c.in_ok-minimal.minimal (returns-clause-steps c)

pub returns-clause-simplified : goal.returns-clause-simplified
returns-clause-simplified c =
    simplified c.args.s.now c.in_ok-minimal.minimal c.requires c.in_ok-minimal.ensures.scheme (returns-clause-steps c)
