use Rattle.mls_modules.specs.steps.Inferring.{AreTypes, HaveEntries}
use Rattle.mls_modules.proofs.infer.signature_of.Given as goal

-- the bindings before this one have entries, behind which the names mean what is known
abbrev pub invariant-loop-number : goal.invariant-loop-number
invariant-loop-number l = HaveEntries l.imports l.bindings l.number l.environment l.signature.entries × AreTypes l.types
