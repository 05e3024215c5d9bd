-- The laws of answers.
use Rattle.std.specs.Prelude.{◌≡◌, ◌≢◌, ◌⊎◌, ℕ, ◌≤◌, List, ◌∷◌, ◌++◌, length, All, codes, slice_get, Some, Ok}
use Rattle.mls_base.specs.Files.{Files}
use Rattle.mls_term.specs.declared.term.Resolved.{Resolved}
use Rattle.mls_grammar.specs.declared.module.Module.{Module}
use Rattle.mls_grammar.specs.declared.module.Op.{Op}
use Rattle.mls_grammar.specs.declared.module.Op.TheVariants.{Plus, Minus, Times, Less, Equal}
use Rattle.mls_names.specs.Resolution.{Resolves, operator_number}
use Rattle.mls_infer.specs.declared.fault.SiteKind.{SiteKind}
use Rattle.mls_typetext.specs.declared.scheme.ReadScheme.{ReadScheme}
use Rattle.mls_typetext.specs.Books.{Ty, boolean, integer, arrow}
use Rattle.mls_typetext.specs.Schemes.{type_scheme, environment}
use Rattle.mls_subsume.specs.declared.verdict.Path.{Path}
use Rattle.mls_iface.specs.declared.interface.Interface.{Interface}
use Rattle.mls_iface.specs.declared.signature.SigEntry.{SigEntry}
use Rattle.mls_iface.specs.declared.signature.Signature.{Signature}
use Rattle.mls_iface.specs.Signatures.{IsPlain, entry_line}
use Rattle.mls_modules.specs.Entries.{IsSignatureOf}
use Rattle.mls_modules.specs.Environments.{declared_names}
use Rattle.mls_top.specs.declared.command.Command.{Command}
use Rattle.mls_top.specs.declared.command.Command.TheVariants.{Infer, Check, Derive, Verify, Generate}
use Rattle.mls_top.specs.declared.status.Status.{Status}
use Rattle.mls_top.specs.declared.status.Status.TheVariants.{Done, NoScheme, Mismatch}
use Rattle.mls_top.specs.Answers.{IsAnswer, IsAnswerOf}
use Rattle.mls_top.specs.Commands.{command_of}
use Rattle.mls_top.specs.Generator.{generated_name, generated_files}
use Rattle.mls_top.specs.Lines.{derivation_file, no_scheme_line, absent_line, too_special_line, verified_line}
use Rattle.mls_top.specs.Outcomes.{derivation_limit, HasSource}
use Rattle.mls_top.specs.Refusals.{text_at}

-- both texts say of the same binding, at the same place of the same file, that it has no scheme
pub record SayNoScheme (text said : List ℕ) : Type 0 where
  pub file : List ℕ
  pub line : ℕ
  pub column : ℕ
  pub x : List ℕ
  pub kind : SiteKind
  pub other : SiteKind
  pub text_is : text ≡ no_scheme_line file line column x kind
  pub said_is : said ≡ no_scheme_line file line column x other

-- both texts say of the same declared name that the module does not keep it, as it does not bind the name, or as the
-- binding is not general enough, whatever path they name
pub data SayMismatch (text said : List ℕ) : Type 0 where
  both_absent : (x declared : List ℕ) → text ≡ absent_line x declared → said ≡ absent_line x declared
      → SayMismatch text said
  both_too_special : (x declared : List ℕ) (path other : Path) → text ≡ too_special_line x declared path
      → said ≡ too_special_line x declared other
      → SayMismatch text said

-- Two answers have one status. Where it is NoScheme they tell of the same binding and place, where it is Mismatch of
-- the same declaration, and where it is none of these and not Done they have one text.
pub record AreAlike (status other : Status) (text said : List ℕ) : Type 0 where
  pub one_status : status ≡ other
  pub one_text : status ≢ Done → status ≢ NoScheme → status ≢ Mismatch → text ≡ said
  pub one_binding : status ≡ NoScheme → SayNoScheme text said
  pub one_declaration : status ≡ Mismatch → SayMismatch text said

-- two answers of the same words over the same files are alike
abbrev pub OneAnswer : Type 0
OneAnswer =
    (files : Files) (words : List (List ℕ)) (status other : Status) (text said : List ℕ)
    → IsAnswer files words status text → IsAnswer files words other said
    → AreAlike status other text said

-- a command that infers the types of this module
abbrev pub InfersTypesOf : List ℕ → Command → Type 0
InfersTypesOf x (Infer y) = y ≡ x
InfersTypesOf x (Check y) = y ≡ x
InfersTypesOf x (Derive y) = y ≡ x
InfersTypesOf x (Verify y) = ⊥
InfersTypesOf x (Generate seed count) = generated_name ≡ x

-- the files that the module is read from, where these are those of the store
abbrev pub files_for : Files → Command → Files
files_for files (Generate seed count) = generated_files seed count
files_for files _ = files

-- the words ask for the types of a module whose imports are read and whose names have meanings
pub record AskForTypes (files : Files) (words : List (List ℕ)) : Type 0 where
  pub x : List ℕ
  pub command : Command
  pub infers : InfersTypesOf x command
  pub words_are : command_of words ≡ Some command
  pub text : List ℕ
  pub m : Module
  pub imports : List Interface
  pub r : Resolved
  pub source : HasSource (files_for files command) x text m imports
  pub resolves : Resolves m (declared_names imports) r

-- the words ask for the check of a derivation whose text is there, for such a module
pub record AskForCheck (files : Files) (words : List (List ℕ)) : Type 0 where
  pub x : List ℕ
  pub words_are : command_of words ≡ Some (Verify x)
  pub text : List ℕ
  pub m : Module
  pub imports : List Interface
  pub r : Resolved
  pub source : HasSource files x text m imports
  pub resolves : Resolves m (declared_names imports) r
  pub derivation : List ℕ
  pub derivation_is : text_at files (derivation_file x) derivation_limit ≡ Ok derivation

-- all words have an answer over all files, or ask for types of such a module, or for the check of a derivation for one
abbrev pub AnswerExists : Type 0
AnswerExists =
    (files : Files) (words : List (List ℕ))
    → ((status : Status) × (text : List ℕ) × IsAnswer files words status text)
    ⊎ AskForTypes files words ⊎ AskForCheck files words

-- a derivation that is printed for a module is verified where its text is stored beside the module, if it is not too
-- long to be read
abbrev pub DerivedIsVerified : Type 0
DerivedIsVerified =
    (files : Files) (x text : List ℕ) → IsAnswerOf files (Derive x) Done text → length text ≤ derivation_limit
    → IsAnswerOf ((derivation_file x, text) ∷ files) (Verify x) Done (verified_line x)

-- the line of an entry is plain up to the newline that ends it
pub record IsOneLine (e : SigEntry) : Type 0 where
  pub line : List ℕ
  pub plain : IsPlain line
  pub ended : entry_line e ≡ line ++ codes "\n"

-- a signature has one line for each entry
abbrev pub EachIsOneLine : Type 0
EachIsOneLine =
    (m : Module) (imports : List Interface) (s : Signature) → IsSignatureOf m imports s → All IsOneLine s.entries

-- the type of an operator
abbrev pub operator_type : Op → Ty
operator_type Plus = arrow integer (arrow integer integer)
operator_type Minus = arrow integer (arrow integer integer)
operator_type Times = arrow integer (arrow integer integer)
operator_type Less = arrow integer (arrow integer boolean)
operator_type Equal = arrow integer (arrow integer boolean)

-- whatever is declared and bound, the environment has the scheme of each operator at the operator's number
abbrev pub OperatorsStandFirst : Type 0
OperatorsStandFirst =
    (operator : Op) (declared earlier : List ReadScheme)
    → slice_get (environment declared earlier) (operator_number operator) ≡ Some (type_scheme (operator_type operator))
