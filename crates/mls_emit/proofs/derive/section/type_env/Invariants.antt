use Rattle.std.proofs.Common.{◌≡◌, take, map}
use Rattle.mls_automaton.specs.declared.scheme.EnvEntry.{EnvEntry}
use Rattle.mls_layout.specs.LaidOut.{place_of}
use Rattle.mls_layout.specs.Scopes.{entry}
use Rattle.mls_emit.proofs.derive.section.type_env.Given as goal

-- the binders so far, with the nodes of their states
abbrev pub invariant-loop-entry : goal.invariant-loop-entry
invariant-loop-entry l = l.env ≡ map (λ (e : EnvEntry). entry e.binder (place_of l.at.places e.state.0)) (take l.entry-index l.entry-items)
