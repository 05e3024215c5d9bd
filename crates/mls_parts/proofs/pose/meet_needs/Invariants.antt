use Rattle.std.proofs.Common.{take}
use Rattle.mls_parts.specs.MetNeeds.{HasMet}
use Rattle.mls_parts.proofs.pose.meet_needs.Given as goal

-- the needs so far are met
abbrev pub invariant-loop-need : goal.invariant-loop-need
invariant-loop-need l = HasMet l.binders (take l.need-index l.needs) l.fn.automaton l.automaton
