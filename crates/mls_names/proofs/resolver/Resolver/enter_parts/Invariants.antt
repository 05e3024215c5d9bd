use Rattle.std.proofs.Common.{drop}
use Rattle.mls_names.proofs.Tasks.{AreEntering}
use Rattle.mls_names.proofs.resolver.Resolver.enter_parts.Given as goal

-- the parts so far wait
abbrev pub invariant-loop-part : goal.invariant-loop-part
invariant-loop-part l = AreEntering l.initial.self l.self l.fn.stretch l.parts l.rest (drop l.part-index l.parts)
