-- The numbers and the places of faults.
use Rattle.std.specs.Prelude.{ℕ}
use Rattle.mls_grammar.specs.declared.fault.Fault.{Fault}
use Rattle.mls_grammar.specs.declared.fault.Fault.TheVariants.{BadByte, BigNumber, Unexpected, Ended, TooDeep}
use Rattle.mls_grammar.specs.declared.fault.Fault.TheVariants.{DuplicateBinding, DuplicateLabel, DuplicateImport}
use Rattle.mls_grammar.specs.declared.fault.Fault.TheVariants.{UnknownName, Memory}

-- the number of a fault; Memory is none
abbrev pub fault_number : Fault → ℕ
fault_number (BadByte at) = 1
fault_number (BigNumber at) = 2
fault_number (Unexpected at kind) = 3
fault_number Ended = 4
fault_number (TooDeep at) = 5
fault_number (UnknownName at) = 6
fault_number (DuplicateBinding at) = 7
fault_number (DuplicateLabel at) = 8
fault_number (DuplicateImport at) = 9
fault_number Memory = 0

-- the place of a fault of a text of this length
abbrev pub fault_place : ℕ → Fault → ℕ
fault_place length (BadByte at) = at
fault_place length (BigNumber at) = at
fault_place length (Unexpected at kind) = at
fault_place length Ended = length
fault_place length (TooDeep at) = at
fault_place length (UnknownName at) = at
fault_place length (DuplicateBinding at) = at
fault_place length (DuplicateLabel at) = at
fault_place length (DuplicateImport at) = at
fault_place length Memory = 0
