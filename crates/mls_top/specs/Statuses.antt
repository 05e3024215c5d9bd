-- The exit codes.
use Rattle.std.specs.Prelude.{ℕ, Bool, true, false}
use Rattle.mls_top.specs.declared.status.Status.{Status}
use Rattle.mls_top.specs.declared.status.Status.TheVariants.{Done, NoScheme, Mismatch, BadText, NoFile}
use Rattle.mls_top.specs.declared.status.Status.TheVariants.{ReadFault, WriteFault}
use Rattle.mls_top.specs.declared.status.Status.TheVariants.{Memory, Usage, NotVerified, TooLong}

-- the exit code of each status
abbrev pub code_of : Status → ℕ
code_of Done = 0
code_of NoScheme = 1
code_of Mismatch = 2
code_of BadText = 3
code_of NoFile = 4
code_of ReadFault = 5
code_of WriteFault = 6
code_of Memory = 7
code_of Usage = 8
code_of NotVerified = 9
code_of TooLong = 11

-- a run that ended so did not give its whole answer
abbrev pub is_cut : Status → Bool
is_cut ReadFault = true
is_cut WriteFault = true
is_cut Memory = true
is_cut _ = false

-- a status of an answer of a command
abbrev pub is_answer : Status → Bool
is_answer Done = true
is_answer NoScheme = true
is_answer Mismatch = true
is_answer BadText = true
is_answer NoFile = true
is_answer NotVerified = true
is_answer TooLong = true
is_answer _ = false
