-- The operators stand first in an environment.
use Rattle.std.proofs.Common.{refl}
use Rattle.mls_grammar.specs.declared.module.Op.TheVariants.{Plus, Minus, Times, Less, Equal}
use Rattle.mls_top.specs.Laws.{OperatorsStandFirst}

pub operators_stand_first : OperatorsStandFirst
operators_stand_first Plus declared earlier = refl
operators_stand_first Minus declared earlier = refl
operators_stand_first Times declared earlier = refl
operators_stand_first Less declared earlier = refl
operators_stand_first Equal declared earlier = refl
