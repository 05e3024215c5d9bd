-- The numbers and the places of faults.
use Rattle.std.specs.Prelude.{ℕ}
use Rattle.mls_iface.specs.declared.interface.IfaceFault.{IfaceFault}
use Rattle.mls_iface.specs.declared.interface.IfaceFault.TheVariants.{BadByte, BigNumber, Unexpected, Ended, NotPolar}
use Rattle.mls_iface.specs.declared.interface.IfaceFault.TheVariants.{Unguarded, Contravariant, DuplicateLabel}
use Rattle.mls_iface.specs.declared.interface.IfaceFault.TheVariants.{DuplicateVal, Memory}

-- the number of a fault; Memory is none
abbrev pub fault_number : IfaceFault → ℕ
fault_number (BadByte at) = 1
fault_number (BigNumber at) = 2
fault_number (Unexpected at kind) = 10
fault_number Ended = 11
fault_number (NotPolar at) = 12
fault_number (Unguarded at) = 13
fault_number (Contravariant at) = 14
fault_number (DuplicateLabel at) = 15
fault_number (DuplicateVal at) = 16
fault_number Memory = 0

-- the place of a fault in a text of this length: where it stands, or the end of the text
abbrev pub fault_place : ℕ → IfaceFault → ℕ
fault_place end (BadByte at) = at
fault_place end (BigNumber at) = at
fault_place end (Unexpected at kind) = at
fault_place end Ended = end
fault_place end (NotPolar at) = at
fault_place end (Unguarded at) = at
fault_place end (Contravariant at) = at
fault_place end (DuplicateLabel at) = at
fault_place end (DuplicateVal at) = at
fault_place end Memory = 0
