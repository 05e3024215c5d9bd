use Rattle.mls_modules.specs.steps.Inferring.{AreTypes, HaveLines}
use Rattle.mls_modules.proofs.infer.text_of.Given as goal

-- the bindings before this one have lines, and where another follows the names mean what is known behind them
abbrev pub invariant-loop-number : goal.invariant-loop-number
invariant-loop-number l = HaveLines l.imports l.bindings l.number l.environment l.text.items × AreTypes l.types
