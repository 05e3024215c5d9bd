use Rattle.std.proofs.Common.{◌≡◌, true, false}
use Rattle.mls_deriv.proofs.ReadHeads.{no_word, no_name, no_colon}
use Rattle.mls_deriv.proofs.section.name_and_type.Goals as goal

pub returns-in-None-word_of : goal.returns-in-None-word_of
returns-in-None-word_of c = λ name type is e. no_word c.args.line.now c.in-Some.rest.now name type c.in-Some.ensures c.in-None-word_of.ensures e

pub returns-then-not-is_name : goal.returns-then-not-is_name
returns-then-not-is_name c = λ name type is e.
    no_name c.args.line.now c.in-Some.rest.now c.in-Some-word_of.word.line.now c.in-Some-word_of.word.rest.now name type c.in-Some.ensures c.in-Some-word_of.ensures.0 c.in-Some-word_of.ensures.1
    (λ w. let yes' : c.is_name.result ≡ true = c.is_name.ensures.1 w in let no' : c.is_name.result ≡ false = c.if-not-is_name.true in absurd (cc)) is e

pub returns-in-None-behind : goal.returns-in-None-behind
returns-in-None-behind c = λ name type is e.
    no_colon c.args.line.now c.in-Some.rest.now c.in-Some-word_of.word.line.now c.in-Some-word_of.word.rest.now name type c.in-Some.ensures c.in-Some-word_of.ensures.0 c.in-Some-word_of.ensures.1 c.in-None-behind.ensures is e
