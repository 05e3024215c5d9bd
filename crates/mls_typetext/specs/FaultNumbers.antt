-- The numbers of faults.
use Rattle.std.specs.Prelude.{ℕ}
use Rattle.mls_typetext.specs.declared.scheme.TypeFault.{TypeFault}
use Rattle.mls_typetext.specs.declared.scheme.TypeFault.TheVariants.{BadByte, BigNumber, Unexpected, Ended, NotPolar}
use Rattle.mls_typetext.specs.declared.scheme.TypeFault.TheVariants.{Unguarded, Contravariant, DuplicateLabel, Memory}

-- the number of a fault; Memory is none
abbrev pub fault_number : TypeFault → ℕ
fault_number (BadByte at) = 1
fault_number (BigNumber at) = 2
fault_number (Unexpected at kind) = 10
fault_number Ended = 11
fault_number (NotPolar at) = 12
fault_number (Unguarded at) = 13
fault_number (Contravariant at) = 14
fault_number (DuplicateLabel at) = 15
fault_number Memory = 0
