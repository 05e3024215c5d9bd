use Rattle.std.proofs.Common.{subst}
use Rattle.mls_automaton.specs.declared.automaton.FieldSet.{FieldSet}
use Rattle.mls_solver.specs.steps.Growth.{Relates}
use Rattle.mls_solver.specs.steps.Consequences.{ByField}
use Rattle.mls_solver.proofs.Relating.{Relates-more, Relates-all}
use Rattle.mls_solver.proofs.search.add_fields.Goals as goal

pub loop-other-preserved : goal.loop-other-preserved
loop-other-preserved c =
    Relates-more c.args.found.now c.loop-other.found c.add_field.new.found c.args.others.now c.loop-other.other-index c.other-item.result (ByField c.args.fields.now)
    c.loop-other-test.true c.loop-other.invariant
    (subst (λ (other : FieldSet). Relates c.loop-other.found c.add_field.new.found (ByField c.args.fields.now other)) c.other-item.is c.in_ok-add_field.ensures)

pub returns : goal.returns
returns c =
    Relates-all c.args.found.now c.loop-other.found c.args.others.now c.loop-other.other-index (ByField c.args.fields.now)
    c.loop-other-test.false c.loop-other.invariant
