use Rattle.std.proofs.Common.{◌-◌, length}
use Rattle.mls_iface.specs.steps.Going.{LeadsTo}
use Rattle.mls_iface.proofs.grammar.check_grammar.Given as goal

abbrev pub invariant-loop-at : goal.invariant-loop-at
invariant-loop-at l = LeadsTo l.text l.tokens 0 l.at

abbrev pub decreases-loop-at : goal.decreases-loop-at
decreases-loop-at l = length l.tokens - l.at
