-- What the parser of command lines is told, and the words that its answers stand for.
use Rattle.std.specs.Prelude.{ℕ, Bool, true, false, ◌==◌, List, [], ◌∷◌, ◌++◌, map, flat_map, codes, unwrap_or, Some}
use Rattle.clap.specs.Walk.{Row, Rule, Text, all_of}
use Rattle.clap.specs.Simple.{App, Shape, new_rule, new_shape}
use Rattle.clap.specs.declared.builder.action.ArgAction.TheVariants.{Set}

-- an operand that is one word and may not be left out
abbrev pub one_word : Text → Rule
one_word operand = record (new_rule operand) { required = true; action = Some Set }

-- a subcommand with these operands in order
abbrev pub subcommand : Text → List Text → Shape
subcommand name operands = record (new_shape name) { rules = map one_word operands }

-- the subcommands that are asked for the types of one module
abbrev pub type_subcommands : List Shape
type_subcommands = subcommand (codes "infer") (codes "NAME" ∷ []) ∷ subcommand (codes "check")
    (codes "NAME" ∷ []) ∷ []

-- all that are asked of one module
abbrev pub module_subcommands : List Shape
module_subcommands = type_subcommands ++ subcommand (codes "derive") (codes "NAME" ∷ []) ∷ subcommand (codes "verify")
    (codes "NAME" ∷ []) ∷ []

-- the table of the subcommands
abbrev pub subcommands : List Shape
subcommands = module_subcommands ++ subcommand (codes "generate") (codes "SEED" ∷ codes "COUNT" ∷ []) ∷ []

-- the program with these subcommands, one of which must be named; it has no options, and adds no command for help
abbrev pub program_of : List Shape → App
program_of subs = record {
  top = record (new_shape (codes "mlsub")) {
    is_leaf = false;
    no_binary_name = true;
    disable_help_flag = true;
    disable_help_subcommand = true;
    disable_version_flag = true;
    subcommand_required = true;
  };
  subs = subs;
}

abbrev pub program : App
program = program_of subcommands

-- the first byte is a hyphen
abbrev pub is_option : Text → Bool
is_option [] = false
is_option (first ∷ rest) = first == 45

-- the values that were found for an operand
abbrev pub values_of : List Row → Text → List Text
values_of rows operand = unwrap_or (all_of operand rows) []

-- the values of all operands that were found, one after another
abbrev pub values_in : List Row → List Text
values_in rows = flat_map (values_of rows) (map (λ r. r.id) rows)

-- the words that the name of a subcommand and its operands stand for
abbrev pub words_of : Text → List Row → List Text
words_of name rows = name ∷ values_in rows
