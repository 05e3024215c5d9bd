use Rattle.mls_grammar.specs.Modules.{IsModule}
use Rattle.mls_names.proofs.Resolving.{IsSoFar}
use Rattle.mls_names.proofs.resolve.resolve.Given as goal

-- the bindings so far
abbrev pub invariant-loop-binding : goal.invariant-loop-binding
invariant-loop-binding l = (p : IsModule l.module) → IsSoFar l.declared p.tree.bound l.binding-index l.resolver l.schemes l.bindings
