use Rattle.std.proofs.Common.{take}
use Rattle.mls_shape.specs.steps.Registers.{IsRegister, sets_in}
use Rattle.mls_shape.specs.steps.Entries.{NumbersEnv}
use Rattle.mls_shape.proofs.environment.numbered_env.Given as goal

abbrev pub invariant-loop-entry : goal.invariant-loop-entry
invariant-loop-entry l = IsRegister l.register × NumbersEnv (take l.entry-index l.entry-items) (sets_in l.initial.register) (sets_in l.register) l.numbered
