use Rattle.std.proofs.Common.{◌≡◌, sym, ap, subst, ◌∙◌, true, false}
use Rattle.mls_deriv.specs.Spellings.{line_words}
use Rattle.mls_deriv.specs.inner.Readings.{HasRisingBinders}
use Rattle.mls_deriv.proofs.Guessed.{line_found, line_form, line_rises}
use Rattle.mls_deriv.proofs.section_line.read_line.Goals as goal

pub returns-then-not-has_rising : goal.returns-then-not-has_rising
returns-then-not-has_rising c = λ l is spelled.
    let found = c.in_ok-found.found in
    let same : found ≡ l = line_found c.args.line.now c.in_ok-words.words found l c.in_ok-words.ensures c.in_ok-found.ensures is spelled in
    let yes' : c.has_rising.result ≡ true = c.has_rising.ensures.1 (subst HasRisingBinders (sym same) (line_rises l is)) in
    let no' : c.has_rising.result ≡ false = c.if-not-has_rising.true in
    absurd (cc)

pub returns-then-branch : goal.returns-then-branch
returns-then-branch c = (line_form c.in_ok-words.words c.in_ok-found.found c.in_ok-found.ensures (c.has_rising.ensures.0 c.if-not-has_rising.false), c.in_ok-is_spelled.ensures.0 c.if-branch.true)

pub returns : goal.returns
returns c = λ l is spelled.
    let found = c.in_ok-found.found in
    let same : found ≡ l = line_found c.args.line.now c.in_ok-words.words found l c.in_ok-words.ensures c.in_ok-found.ensures is spelled in
    let yes' : c.in_ok-is_spelled.field-0 ≡ true = c.in_ok-is_spelled.ensures.1 (spelled ∙ ap line_words (sym same)) in
    let no' : c.in_ok-is_spelled.field-0 ≡ false = c.if-branch.false in
    absurd (cc)
