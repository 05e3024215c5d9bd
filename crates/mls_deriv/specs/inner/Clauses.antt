-- Lines as clauses: a word that is no number, with the numbers behind it.
use Rattle.std.specs.Prelude.{◌≡◌, ℕ, ◌^◌, List, ◌∷◌, map, All, codes, decimal, bytes_eq, nat_lt, nat_eq, ◌&&◌}
use Rattle.std.specs.Prelude.{if◌then◌else◌, Option, Some, None}
use Rattle.std.specs.List.{flat_map, slice_split}
use Rattle.std.specs.Str.Parse.{digits_value}
use Rattle.mls_deriv.specs.declared.derivation.StepRule.{StepRule}
use Rattle.mls_deriv.specs.declared.derivation.StepRule.TheVariants as rule
use Rattle.mls_deriv.specs.Forms.{IsWord, arguments}

-- the number that a word spells
abbrev pub if_spelled : List ℕ → ℕ → Option ℕ
if_spelled word n = if (bytes_eq (decimal n) word && nat_lt n (2 ^ 64)) then Some n else None

unfoldable pub number_of : List ℕ → Option ℕ
number_of word = if_spelled word (digits_value 10 word)

-- a word with the numbers behind it
abbrev pub Said : Type 0
Said = List ℕ × List ℕ

-- the words of clauses
abbrev pub clause_words : Said → List (List ℕ)
clause_words c = c.0 ∷ map decimal c.1

abbrev pub words_of : List Said → List (List ℕ)
words_of = flat_map clause_words

-- a clause begins with a word that is no number, and its numbers are words
abbrev pub IsSaid : Said → Type 0
IsSaid c = (number_of c.0 ≡ None) × All IsWord c.1

-- the words of a line
abbrev pub line_parts : List ℕ → List (List ℕ)
line_parts = slice_split (λ byte. nat_eq byte 32)

-- the rules, by their words and numbers
abbrev pub rule_word : StepRule → List ℕ
rule_word rule.Var = codes "var"
rule_word (rule.Use s) = codes "use"
rule_word (rule.Name n) = codes "name"
rule_word rule.Lit = codes "lit"
rule_word (rule.Fun s) = codes "fun"
rule_word (rule.App s t) = codes "app"
rule_word (rule.Make numbers) = codes "make"
rule_word (rule.Proj s) = codes "proj"
rule_word (rule.If s t u) = codes "if"
rule_word (rule.Let s t) = codes "let"
rule_word (rule.Rec s) = codes "rec"
rule_word (rule.Sub s) = codes "sub"

abbrev pub rule_said : StepRule → Said
rule_said r = (rule_word r, arguments r)
