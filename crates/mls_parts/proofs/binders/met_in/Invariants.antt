use Rattle.std.proofs.Common.{take}
use Rattle.mls_parts.specs.steps.MetBinders.{HasMet}
use Rattle.mls_parts.proofs.binders.met_in.Given as goal

-- the binders of the nodes so far are noted
abbrev pub invariant-loop-i : goal.invariant-loop-i
invariant-loop-i l = HasMet l.nodes l.lets (take l.i-index l.part) l.met
