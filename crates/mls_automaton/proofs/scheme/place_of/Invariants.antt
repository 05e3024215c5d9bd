use Rattle.mls_automaton.specs.Environments.{HasNoEntry}
use Rattle.mls_automaton.proofs.scheme.place_of.Given as goal

abbrev pub invariant-loop-i : goal.invariant-loop-i
invariant-loop-i l = HasNoEntry l.entries l.binder l.i
