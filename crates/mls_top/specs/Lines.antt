-- The lines that are printed.
pub use Rattle.mls_grammar.specs.Faults.{fault_number, fault_place}
pub use Rattle.mls_iface.specs.FaultPlaces.{fault_number as interface_fault_number}
pub use Rattle.mls_iface.specs.FaultPlaces.{fault_place as interface_fault_place}
use Rattle.std.specs.Prelude.{ℕ, List, [], ◌++◌, codes, decimal}
use Rattle.std.specs.List.{flat_map}
use Rattle.mls_grammar.specs.declared.fault.Fault.{Fault}
use Rattle.mls_grammar.specs.declared.fault.Fault.TheVariants.{BadByte, BigNumber, Unexpected, Ended, TooDeep}
use Rattle.mls_grammar.specs.declared.fault.Fault.TheVariants.{DuplicateBinding, DuplicateLabel, DuplicateImport}
use Rattle.mls_grammar.specs.declared.fault.Fault.TheVariants.{UnknownName, Memory}
use Rattle.mls_automaton.specs.declared.automaton.HeadKind.{HeadKind}
use Rattle.mls_automaton.specs.declared.automaton.HeadKind.TheVariants as head
use Rattle.mls_infer.specs.declared.fault.SiteKind.{SiteKind}
use Rattle.mls_iface.specs.declared.interface.IfaceFault.{IfaceFault}
use Rattle.mls_iface.specs.declared.interface.IfaceFault.TheVariants as faulty
use Rattle.mls_subsume.specs.declared.verdict.Path.{Path}
use Rattle.mls_subsume.specs.declared.verdict.Step.{Step}
use Rattle.mls_subsume.specs.declared.verdict.Step.TheVariants.{Domain, Codomain, At}
use Rattle.mls_subsume.specs.declared.verdict.Reason.{Reason}
use Rattle.mls_subsume.specs.declared.verdict.Reason.TheVariants as reason
use Rattle.mls_infer.specs.declared.fault.SiteKind.TheVariants.{Unlike, Lacks}

abbrev pub usage_line : List ℕ
usage_line = codes "usage: mlsub COMMAND OPERANDS\n"

-- the file of a module's text
abbrev pub module_file : List ℕ → List ℕ
module_file x = x ++ codes ".ml"

-- the file of a module's interface
abbrev pub interface_file : List ℕ → List ℕ
interface_file x = x ++ codes ".mli"

-- the file of a derivation for a module
abbrev pub derivation_file : List ℕ → List ℕ
derivation_file x = x ++ codes ".mld"

abbrev pub not_found_line : List ℕ → List ℕ
not_found_line file = file ++ codes ": not found\n"

abbrev pub too_long_line : List ℕ → ℕ → List ℕ
too_long_line file limit = file ++ codes ": longer than " ++ decimal limit ++ codes " bytes\n"

-- what is said of a fault
abbrev pub fault_text : Fault → List ℕ
fault_text (BadByte at) = codes "a byte that begins no token"
fault_text (BigNumber at) = codes "a number above 9223372036854775807"
fault_text (Unexpected at kind) = codes "unexpected token"
fault_text Ended = codes "the text ends too early"
fault_text (TooDeep at) = codes "nesting above 200"
fault_text (UnknownName at) = codes "unknown name"
fault_text (DuplicateBinding at) = codes "name bound twice"
fault_text (DuplicateLabel at) = codes "label given twice"
fault_text (DuplicateImport at) = codes "module imported twice"
fault_text Memory = []

-- what is said of a fault of an interface
abbrev pub interface_fault_text : IfaceFault → List ℕ
interface_fault_text (faulty.BadByte at) = codes "a byte that begins no token"
interface_fault_text (faulty.BigNumber at) = codes "a number above 9223372036854775807"
interface_fault_text (faulty.Unexpected at kind) = codes "unexpected token in a type"
interface_fault_text faulty.Ended = codes "the type ends too early"
interface_fault_text (faulty.NotPolar at) = codes "not a polar type"
interface_fault_text (faulty.Unguarded at) = codes "unguarded recursion"
interface_fault_text (faulty.Contravariant at) = codes "contravariant recursion"
interface_fault_text (faulty.DuplicateLabel at) = codes "label given twice"
interface_fault_text (faulty.DuplicateVal at) = codes "name declared twice"
interface_fault_text faulty.Memory = []

-- FILE:LINE:COLUMN
abbrev pub place_text : List ℕ → (line column : ℕ) → List ℕ
place_text file line column = file ++ codes ":" ++ decimal line ++ codes ":" ++ decimal column

-- FILE:LINE:COLUMN: fault NUMBER: TEXT
abbrev pub fault_line : List ℕ → (line column number : ℕ) → List ℕ → List ℕ
fault_line file line column number text =
    place_text file line column ++ codes ": fault " ++ decimal number ++ codes ": " ++ text ++ codes "\n"

-- what is said of a part of a type
abbrev pub head_text : HeadKind → List ℕ
head_text head.Bool = codes "bool"
head_text head.Int = codes "int"
head_text head.Function = codes "a function"
head_text head.Rcd = codes "a record"

-- why an expression has no scheme: `X where Y is expected`, or `a record without the field LABEL`
abbrev pub kind_text : SiteKind → List ℕ
kind_text (Unlike there wanted) = head_text there ++ codes " where " ++ head_text wanted ++ codes " is expected"
kind_text (Lacks label) = codes "a record without the field " ++ label

-- FILE:LINE:COLUMN: no scheme for BINDING: KIND
abbrev pub no_scheme_line : List ℕ → (line column : ℕ) → List ℕ → SiteKind → List ℕ
no_scheme_line file line column x kind =
    place_text file line column ++ codes ": no scheme for " ++ x ++ codes ": " ++ kind_text kind ++ codes "\n"

-- NAME matches NAME.mli
abbrev pub matches_line : List ℕ → List ℕ
matches_line x = x ++ codes " matches " ++ interface_file x ++ codes "\n"

-- NAME is verified
abbrev pub verified_line : List ℕ → List ℕ
verified_line x = x ++ codes " is verified\n"

-- FILE:LINE: fault 19: bad line
abbrev pub bad_line_text : List ℕ → ℕ → List ℕ
bad_line_text file line = file ++ codes ":" ++ decimal line ++ codes ": fault 19: bad line\n"

-- MODULE: step N is not allowed
abbrev pub not_allowed_line : List ℕ → ℕ → List ℕ
not_allowed_line x step = x ++ codes ": step " ++ decimal step ++ codes " is not allowed\n"

-- generate: COUNT bindings, B bytes in, G bytes out
abbrev pub generated_line : (count bytes printed : ℕ) → List ℕ
generated_line count bytes printed =
    codes "generate: " ++ decimal count ++ codes " bindings, " ++ decimal bytes ++ codes " bytes in, "
    ++ decimal printed ++ codes " bytes out\n"

-- MODULE: val NAME is declared and not bound
abbrev pub absent_line : (x declared : List ℕ) → List ℕ
absent_line x declared = x ++ codes ": val " ++ declared ++ codes " is declared and not bound\n"

-- a step of a path: `.dom` into the domain of a function, `.cod` into its codomain, `.{LABEL}` into a field
abbrev pub step_text : Step → List ℕ
step_text Domain = codes ".dom"
step_text Codomain = codes ".cod"
step_text (At label) = codes ".{" ++ label ++ codes "}"

-- a path from the root of a type
abbrev pub path_text : List Step → List ℕ
path_text steps = codes "root" ++ flat_map step_text steps

-- what differs at the end of a path
abbrev pub part_text : HeadKind → List ℕ
part_text head.Bool = codes "bool"
part_text head.Int = codes "int"
part_text head.Function = codes "function"
part_text head.Rcd = codes "record"

abbrev pub reason_text : Reason → List ℕ
reason_text (reason.Head kind) = part_text kind
reason_text (reason.Label label) = codes "field " ++ label
reason_text reason.Flow = codes "flow"

-- MODULE: val NAME is not general enough at PATH (REASON)
abbrev pub too_special_line : (x declared : List ℕ) → Path → List ℕ
too_special_line x declared path =
    x ++ codes ": val " ++ declared ++ codes " is not general enough at " ++ path_text path.steps ++ codes " ("
    ++ reason_text path.reason ++ codes ")\n"
