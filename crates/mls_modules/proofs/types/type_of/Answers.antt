use Rattle.std.proofs.Common.{rules}
use Rattle.mls_typetext.proofs.StopLaws.{no_fault_beside_reading}
use Rattle.mls_modules.proofs.types.type_of.Goals as goal

pub unreachable-requires : goal.unreachable-requires
unreachable-requires c = no_fault_beside_reading c.args.text.now c.requires.0 c.in-Err.fault c.requires.1 (c.in-Err.ensures.fault (search rules))
