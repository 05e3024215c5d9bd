-- The numbers of a command are within their limits.
use Rattle.std.proofs.Common.{◌≡◌, ℕ, ◌<◌, ◌≤◌, Bool, true, false, cond, List, [], ◌∷◌, refl, sym, subst, arith, codes}
use Rattle.std.specs.Prelude.{◌&&◌, nat_le, bytes_eq, Option, Some, None}
use Rattle.std.proofs.lemmas.Bool.Decides.{nat_tests}
use Rattle.mls_lexer.specs.Tokens.{digits_value}
use Rattle.mls_top.specs.declared.command.Command.{Command}
use Rattle.mls_top.specs.declared.command.Command.TheVariants.{Infer, Check, Derive, Verify, Generate}
use Rattle.mls_top.specs.Commands.{is_name_word, generate_of, command_of}
use Rattle.mls_top.specs.Numbers.{is_number_word, is_between, number_between}
use Rattle.mls_top.specs.steps.Answering.{IsWithinLimits}

between : (least greatest value : ℕ) → is_between least greatest value ≡ true → (least ≤ value) × (value ≤ greatest)
between least greatest value is = grind (arith, nat_tests)

number_within : (least greatest : ℕ) (word : List ℕ) (n : ℕ) → number_between least greatest word ≡ Some n → (least ≤ n) × (n ≤ greatest)
number_within least greatest word n is = by (is_number_word word) (is_between least greatest (digits_value word)) refl is
  where
    by : (number inside : Bool) → is_between least greatest (digits_value word) ≡ inside → cond (number && inside) (Some (digits_value word)) None ≡ Some n → (least ≤ n) × (n ≤ greatest)
    by true true holds is =
        let same : digits_value word ≡ n = cc in
        let P : ℕ → Type 0 = λ n. (least ≤ n) × (n ≤ greatest) in
        subst P same (between least greatest (digits_value word) holds)
    by true false holds is = absurd (cc)
    by false inside holds is = absurd (cc)

generate_within : (first : Bool) (seed count : Option ℕ) (command : Command) → ((n : ℕ) → seed ≡ Some n → (0 ≤ n) × (n ≤ 2147483647)) → ((n : ℕ) → count ≡ Some n → (1 ≤ n) × (n ≤ 10000))
    → cond first (generate_of seed count) None ≡ Some command → IsWithinLimits command
generate_within true (Some seed) (Some count) command low high is =
    let same : Generate seed count ≡ command = cc in
    let s = low seed refl in
    let c = high count refl in
    subst IsWithinLimits same (omega arith, c.0, c.1)
generate_within true (Some seed) None command low high is = absurd (cc)
generate_within true None count command low high is = absurd (cc)
generate_within false seed count command low high is = absurd (cc)

named_within : (name infers checks derives verifies : Bool) (x : List ℕ) (command : Command)
    → cond name (cond infers (Some (Infer x)) (cond checks (Some (Check x)) (cond derives (Some (Derive x)) (cond verifies (Some (Verify x)) None)))) None ≡ Some command → IsWithinLimits command
named_within true true checks derives verifies x command is = let same : Infer x ≡ command = cc in subst IsWithinLimits same tt
named_within true false true derives verifies x command is = let same : Check x ≡ command = cc in subst IsWithinLimits same tt
named_within true false false true verifies x command is = let same : Derive x ≡ command = cc in subst IsWithinLimits same tt
named_within true false false false true x command is = let same : Verify x ≡ command = cc in subst IsWithinLimits same tt
named_within true false false false false x command is = absurd (cc)
named_within false infers checks derives verifies x command is = absurd (cc)

pub command_within : (words : List (List ℕ)) (command : Command) → command_of words ≡ Some command → IsWithinLimits command
command_within [] command is = absurd (cc)
command_within (first ∷ []) command is = absurd (cc)
command_within (first ∷ second ∷ []) command is =
    named_within (is_name_word second) (bytes_eq first (codes "infer")) (bytes_eq first (codes "check")) (bytes_eq first (codes "derive")) (bytes_eq first (codes "verify")) second command is
command_within (first ∷ second ∷ third ∷ []) command is =
    generate_within (bytes_eq first (codes "generate")) (number_between 0 2147483647 second) (number_between 1 10000 third) command (number_within 0 2147483647 second) (number_within 1 10000 third) is
command_within (first ∷ second ∷ third ∷ fourth ∷ words) command is = absurd (cc)
