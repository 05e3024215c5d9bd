-- Which words are commands.
use Rattle.std.specs.Prelude.{ℕ, Bool, not, ◌&&◌, if◌then◌else◌, List, [], ◌∷◌, codes, bytes_eq, Option, Some, None}
use Rattle.mls_base.specs.Spelling.{is_spelled, is_reserved}
use Rattle.mls_top.specs.declared.command.Command.{Command}
use Rattle.mls_top.specs.declared.command.Command.TheVariants.{Infer, Check, Derive, Verify, Generate}
use Rattle.mls_top.specs.Numbers.{number_between}

-- a word is a name that is no reserved word
abbrev pub is_name_word : List ℕ → Bool
is_name_word word = is_spelled word && not (is_reserved word)

-- `infer NAME`, `check NAME`, `derive NAME` and `verify NAME`
abbrev pub command_named : List ℕ → List ℕ → Option Command
command_named first x =
    if bytes_eq first (codes "infer") then Some (Infer x)
    else if bytes_eq first (codes "check") then Some (Check x)
    else if bytes_eq first (codes "derive") then Some (Derive x)
    else if bytes_eq first (codes "verify") then Some (Verify x) else None

abbrev pub command_of_two : List ℕ → List ℕ → Option Command
command_of_two first second = if is_name_word second then command_named first second else None

-- `generate SEED COUNT`, with a seed from 0 to 2147483647 and from 1 to 10000 bindings
abbrev pub generate_of : (seed count : Option ℕ) → Option Command
generate_of (Some seed) (Some count) = Some (Generate seed count)
generate_of _ _ = None

abbrev pub command_of_three : (first seed count : List ℕ) → Option Command
command_of_three first seed count =
    if bytes_eq first (codes "generate")
    then generate_of (number_between 0 2147483647 seed) (number_between 1 10000 count) else None

-- the words of a command line without the program's own name are this command, or none
abbrev pub command_of : List (List ℕ) → Option Command
command_of (first ∷ second ∷ []) = command_of_two first second
command_of (first ∷ second ∷ third ∷ []) = command_of_three first second third
command_of _ = None
