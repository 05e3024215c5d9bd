use Rattle.std.proofs.Common.{◌≡◌, ◌∷◌, map, take}
use Rattle.mls_automaton.specs.declared.scheme.EnvEntry.{EnvEntry}
use Rattle.mls_biunify.proofs.frozen.roots_of.Given as goal

-- the roots so far
abbrev pub invariant-loop-entry : goal.invariant-loop-entry
invariant-loop-entry l = l.roots.items ≡ l.fn.root ∷ map (λ (entry : EnvEntry). entry.state) (take l.entry-index l.env)
