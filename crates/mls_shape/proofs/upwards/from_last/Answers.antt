use Rattle.mls_shape.proofs.FromLast.{upwards_keep}
use Rattle.mls_shape.proofs.upwards.from_last.Goals as goal

pub returns : goal.returns
returns c = upwards_keep c.args.a.now c.requires.deterministic c.requires.later c.requires.closed c.add_others.new.classes.items c.add_others.new.known c.in_ok-add_others.ensures
