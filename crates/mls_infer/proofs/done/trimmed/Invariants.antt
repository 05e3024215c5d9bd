use Rattle.std.proofs.Common.{◌≡◌, ◌++◌, map, take}
use Rattle.mls_automaton.specs.declared.scheme.EnvEntry.{EnvEntry}
use Rattle.mls_infer.proofs.done.trimmed.Given as goal

abbrev pub invariant-loop-entry : goal.invariant-loop-entry
invariant-loop-entry l = l.roots.items ≡ l.initial.roots.items ++ map (λ (e : EnvEntry). e.state) (take l.entry-index l.entry-items)
