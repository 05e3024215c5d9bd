use Rattle.std.proofs.Common.{ℕ, List, refl, subst}
use Rattle.mls_shape.specs.steps.Classes.{class_in, IsKeyOf}
use Rattle.mls_shape.proofs.FromLast.{knows_or}
use Rattle.mls_shape.proofs.upwards.classify.Goals as goal

pub returns : goal.returns
returns c = record {
  key = c.in_ok-key.key;
  class = c.in_ok-class.class;
  has = subst (λ (classes : List ℕ). IsKeyOf c.args.a.now (class_in classes) c.args.s c.in_ok-key.key) c.as_slice.ensures.value c.in_ok-key.ensures;
  knows = knows_or c.args.known.now c.number_or.new.numbers c.in_ok-key.key c.in_ok-class.class c.args.s c.in_ok-class.ensures.number c.in_ok-class.ensures.updates;
  stored = refl;
}
