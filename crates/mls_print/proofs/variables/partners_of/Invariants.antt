use Rattle.std.proofs.Common.{◌↔◌, ℕ, Contains, take}
use Rattle.mls_print.specs.steps.Variables.{HasPartner}
use Rattle.mls_print.proofs.variables.partners_of.Given as goal

abbrev pub invariant-loop-s : goal.invariant-loop-s
invariant-loop-s l = (j : ℕ) → Contains l.partners.items j ↔ HasPartner l.automaton (take l.s-index l.set) j
