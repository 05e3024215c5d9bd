-- The numbers of faults.
use Rattle.std.specs.Prelude.{ℕ}
use Rattle.mls_deriv.specs.declared.fault.DerivFault.{DerivFault}
use Rattle.mls_deriv.specs.declared.fault.DerivFault.TheVariants.{BadLine, Memory}

-- the number of a fault; Memory is none
abbrev pub fault_number : DerivFault → ℕ
fault_number (BadLine n) = 19
fault_number Memory = 0
