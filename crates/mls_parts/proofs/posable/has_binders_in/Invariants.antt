use Rattle.std.proofs.Common.{take, All}
use Rattle.mls_automaton.specs.declared.scheme.EnvEntry.{EnvEntry}
use Rattle.mls_layout.specs.steps.Posable.{Has}
use Rattle.mls_parts.proofs.posable.has_binders_in.Given as goal

abbrev pub invariant-loop-entry : goal.invariant-loop-entry
invariant-loop-entry l = All (λ (entry : EnvEntry). Has l.around entry.binder) (take l.entry-index l.env)
