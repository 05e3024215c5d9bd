-- Small modules and texts that are none, as examples of the definitions.
use Rattle.std.proofs.Common.{◌≡◌, ℕ, List, [], ◌∷◌, refl}
use Rattle.mls_lexer.specs.declared.token.Kind.TheVariants as kind
use Rattle.mls_lexer.specs.Tokens.{Terminal, name, number, word}
use Rattle.mls_lexer.specs.steps.Machine.{run}
use Rattle.mls_grammar.specs.declared.fault.Fault.TheVariants.{DuplicateBinding, DuplicateLabel, DuplicateImport}
use Rattle.mls_grammar.specs.Phrases.{source, expr, atom, Phrase, whole, no_import, importing, no_binding, binding, simple, plain, summed, multiplied, applied, posted, no_compare, no_sum, no_product, no_argument, no_dot, literal, parens, braces, first_part, last_part, next_part, width}
use Rattle.mls_grammar.specs.GrammarFaults.{CanGoOn, nestings}
use Rattle.mls_grammar.specs.Doubles.{doubles}
use Rattle.mls_grammar.proofs.GrammarGoing.{going-read, read-going}

abbrev operand : Phrase atom → Phrase expr
operand x = plain (summed (multiplied (applied (posted x no_dot) no_argument) no_product) no_sum) no_compare

abbrev one : Phrase expr
one = operand (literal 1)

-- let a = (1)
abbrev in_parentheses : Phrase source
in_parentheses = whole no_import (binding (simple (97 ∷ []) (operand (parens one)) no_binding))

nestings-in_parentheses : nestings 0 in_parentheses [] ≡ 0 ∷ 0 ∷ 0 ∷ 1 ∷ 2 ∷ 0 ∷ []
unfolding nestings
nestings-in_parentheses = refl

-- let a = {a = {b = 1, b = 1}, a = 1}: the label of the inner record comes first
abbrev twice : List ℕ → Phrase expr → Phrase expr
twice label e = operand (braces (first_part label e (next_part label one last_part)))

doubles-inner_first : doubles (λ k. k) [] 0 (whole no_import (binding (simple (97 ∷ []) (twice (97 ∷ []) (twice (98 ∷ []) one)) no_binding))) ≡ DuplicateLabel 11 ∷ DuplicateLabel 16 ∷ []
unfolding doubles width
doubles-inner_first = refl

-- import b import b let a = 1 let a = 1
doubles-names : doubles (λ k. k) [] 0 (whole (importing (98 ∷ []) (importing (98 ∷ []) no_import)) (binding (simple (97 ∷ []) one (binding (simple (97 ∷ []) one no_binding))))) ≡ DuplicateImport 3 ∷ DuplicateBinding 9 ∷ []
unfolding doubles width
doubles-names = refl

-- let a = 1 < 1 goes on, and with < it does not
abbrev compared : List Terminal → List Terminal
compared more = word kind.WordLet ∷ name (97 ∷ []) ∷ word kind.Equals ∷ number 1 ∷ word kind.Less ∷ number 1 ∷ more

compared-goes_on : CanGoOn (compared [])
unfolding run
compared-goes_on = read-going (compared []) tt

compared_twice-stops : CanGoOn (compared (word kind.Less ∷ [])) → ⊥
unfolding run
compared_twice-stops can = going-read (compared (word kind.Less ∷ [])) can

-- let a = 1 fun stops
argument_fun-stops : CanGoOn (word kind.WordLet ∷ name (97 ∷ []) ∷ word kind.Equals ∷ number 1 ∷ word kind.WordFun ∷ []) → ⊥
unfolding run
argument_fun-stops can = going-read (word kind.WordLet ∷ name (97 ∷ []) ∷ word kind.Equals ∷ number 1 ∷ word kind.WordFun ∷ []) can
