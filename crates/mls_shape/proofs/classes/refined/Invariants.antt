use Rattle.mls_shape.specs.steps.Classes.{class_in, IsKeyOf, IsNumbering}
use Rattle.mls_shape.proofs.classes.refined.Given as goal

abbrev pub invariant-loop-s : goal.invariant-loop-s
invariant-loop-s l = IsNumbering (IsKeyOf l.a (class_in l.classes)) l.s l.numbering
