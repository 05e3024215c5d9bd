-- Why a command is refused, and what is told of it.
use Rattle.std.specs.Prelude.{ℕ, nat_lt, if◌then◌else◌, List, length, Option, Some, None, Result, Ok, Err}
use Rattle.mls_base.specs.Files.{Files, bytes_at}
use Rattle.mls_lexer.specs.Tokens.{line_of, column_of}
use Rattle.mls_grammar.specs.declared.fault.Fault.{Fault}
use Rattle.mls_top.specs.declared.status.Status.{Status}
use Rattle.mls_top.specs.declared.status.Status.TheVariants.{NoScheme, Mismatch, BadText, NoFile, NotVerified, TooLong}
use Rattle.mls_infer.specs.declared.fault.SiteKind.{SiteKind}
use Rattle.mls_top.specs.Lines.{not_found_line, too_long_line, fault_line, fault_number, fault_text, fault_place}
use Rattle.mls_top.specs.Lines.{no_scheme_line, absent_line, too_special_line, bad_line_text, not_allowed_line}
use Rattle.mls_top.specs.Lines.{interface_fault_number, interface_fault_text, interface_fault_place}
use Rattle.mls_iface.specs.declared.interface.IfaceFault.{IfaceFault}
use Rattle.mls_subsume.specs.declared.verdict.Path.{Path}

pub data Refusal : Type 0 where
  -- there is no such file
  no_file : (file : List ℕ) → Refusal
  -- the file has more bytes than this
  too_long : (file : List ℕ) (limit : ℕ) → Refusal
  -- the text of the file has a fault at this place, which has a number and words
  bad_text : (file text : List ℕ) (place number : ℕ) (words : List ℕ) → Refusal
  -- the binding of this name in the text of the file has no scheme, by the expression at this place, for this reason
  no_scheme : (file text : List ℕ) (place : ℕ) (x : List ℕ) (kind : SiteKind) → Refusal
  -- the interface of the module x declares this name, and the module does not bind it
  absent : (x declared : List ℕ) → Refusal
  -- the interface of the module x declares this name with a type that that of its binding does not subsume: this is the
  -- path to the first difference, and the reason
  too_special : (x declared : List ℕ) (path : Path) → Refusal
  -- this line of the file, counted from 1, is not of the format of derivations
  bad_line : (file : List ℕ) (line : ℕ) → Refusal
  -- the step of this number of the derivation of the module x is not allowed
  not_allowed : (x : List ℕ) (step : ℕ) → Refusal

-- the refusal of a text for a fault of modules
abbrev pub for_fault : (file text : List ℕ) → Fault → Refusal
for_fault file text fault = bad_text file text (fault_place (length text) fault) (fault_number fault) (fault_text fault)

-- the refusal of a text for a fault of interfaces
abbrev pub for_interface_fault : (file text : List ℕ) → IfaceFault → Refusal
for_interface_fault file text fault =
    bad_text file text (interface_fault_place (length text) fault) (interface_fault_number fault)
    (interface_fault_text fault)

-- the bytes of a file that has at most so many, or why there are none
abbrev pub within : List ℕ → ℕ → List ℕ → Result (List ℕ) Refusal
within file limit bytes = if nat_lt limit (length bytes) then Err (too_long file limit) else Ok bytes

abbrev pub found : List ℕ → ℕ → Option (List ℕ) → Result (List ℕ) Refusal
found file limit None = Err (no_file file)
found file limit (Some bytes) = within file limit bytes

abbrev pub text_at : Files → List ℕ → ℕ → Result (List ℕ) Refusal
text_at files file limit = found file limit (bytes_at files file)

-- the status and the text that tell a refusal
abbrev pub refusal_status : Refusal → Status
refusal_status (no_file file) = NoFile
refusal_status (too_long file limit) = TooLong
refusal_status (bad_text file text place number words) = BadText
refusal_status (no_scheme file text place x kind) = NoScheme
refusal_status (absent x declared) = Mismatch
refusal_status (too_special x declared path) = Mismatch
refusal_status (bad_line file line) = BadText
refusal_status (not_allowed x step) = NotVerified

abbrev pub refusal_text : Refusal → List ℕ
refusal_text (no_file file) = not_found_line file
refusal_text (too_long file limit) = too_long_line file limit
refusal_text (bad_text file text place number words) =
    fault_line file (line_of text place) (column_of text place) number words
refusal_text (no_scheme file text place x kind) =
    no_scheme_line file (line_of text place) (column_of text place) x kind
refusal_text (absent x declared) = absent_line x declared
refusal_text (too_special x declared path) = too_special_line x declared path
refusal_text (bad_line file line) = bad_line_text file line
refusal_text (not_allowed x step) = not_allowed_line x step
