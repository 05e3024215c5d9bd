use Rattle.std.proofs.Common.{◌≡◌, ◌++◌, [], rules, sym, subst}
use Rattle.std.specs.Prelude.{All, Some, codes}
use Rattle.std.specs.List.{flat_map}
use Rattle.mls_deriv.specs.declared.derivation.SectionLine.TheVariants.{Step}
use Rattle.mls_deriv.specs.declared.derivation.StepLine.{StepLine}
use Rattle.mls_deriv.specs.Spellings.{entry_words, line_words, number_word}
use Rattle.mls_deriv.specs.Forms.{IsEntryForm, IsStepForm}
use Rattle.mls_deriv.specs.Steps.{IsRising}
use Rattle.mls_deriv.specs.inner.Readings.{IsLineRead}
use Rattle.mls_deriv.proofs.KnownLines.{step_known, with_env}
use Rattle.mls_deriv.proofs.line_reader.LineReader.step_between.Goals as goal

pub returns : goal.returns
returns c =
    let front = c.args.front.now in
    let back = c.args.back.now in
    let env = c.args.self.now in
    let step : StepLine = c.in-Some-Step.step in
    let short = c.as_slice.result.now in
    let cut : short ≡ front ++ back = search rules in
    let read : IsLineRead short (Some (Step step)) = rw c.in-Some-Step.field-0-is at (rw c.in-Some-Step.is at c.in_ok-step.ensures) in
    let none : step.env ≡ [] = search rules in
    let ends : back ≡ codes " type" ++ number_word step.root.0 = search rules in
    let same : c.in_ok-copy.field-0 ≡ env = search rules in
    let forms : All IsEntryForm env = search rules in
    let rising : IsRising env = search rules in
    let known = step_known front back short step env cut read none ends forms rising in
    subst (λ (s : StepLine). IsStepForm s × (front ++ flat_map entry_words env ++ back ≡ line_words (Step s))) (sym c.set_env.ensures)
    (subst (λ es. IsStepForm (with_env step es) × (front ++ flat_map entry_words env ++ back ≡ line_words (Step (with_env step es)))) (sym same) known)
