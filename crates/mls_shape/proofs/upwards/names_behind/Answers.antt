use Rattle.mls_shape.proofs.upwards.names_behind.Goals as goal

pub returns-then-arms_behind : goal.returns-then-arms_behind
returns-then-arms_behind c is p = record { function = c.arms_behind.ensures c.if-arms_behind.true p; fields = c.fields_behind.ensures is p }
