-- A step is spelled by the words around its environment.
use Rattle.std.proofs.Common.{◌≡◌, ℕ, List, [], ◌++◌, sym, ap, ◌∙◌, append_assoc, append-nil}
use Rattle.std.specs.Prelude.{All, Some, codes}
use Rattle.std.specs.List.{flat_map}
use Rattle.std.proofs.lemmas.List.{append_cancel_right}
use Rattle.mls_deriv.specs.declared.derivation.BinderNode.{BinderNode}
use Rattle.mls_deriv.specs.declared.derivation.SectionLine.TheVariants.{Step}
use Rattle.mls_deriv.specs.declared.derivation.StepLine.{StepLine}
use Rattle.mls_deriv.specs.Spellings.{entry_words, line_words, number_word, rule_words}
use Rattle.mls_deriv.specs.Forms.{IsEntryForm, IsStepForm}
use Rattle.mls_deriv.specs.Steps.{IsRising}
use Rattle.mls_deriv.specs.inner.Readings.{IsLineRead}

-- what stands in front of the environment, and behind it
abbrev front_of : StepLine → List ℕ
front_of step = codes "step" ++ number_word step.node ++ rule_words step.rule ++ codes " env"

abbrev back_of : StepLine → List ℕ
back_of step = codes " type" ++ number_word step.root.0

parted : (step : StepLine) → line_words (Step step) ≡ front_of step ++ flat_map entry_words step.env ++ back_of step
parted step = append_assoc (front_of step ++ flat_map entry_words step.env) (codes " type") (number_word step.root.0)

-- no entries have no words
without : (back : List ℕ) (step : StepLine) → step.env ≡ [] → back ≡ back_of step → front_of step ++ flat_map entry_words step.env ++ back_of step ≡ front_of step ++ back
without back step none ends = ap (λ es. front_of step ++ flat_map entry_words es ++ back_of step) none ∙ (ap (λ f. f ++ back_of step) (append-nil (front_of step)) ∙ ap (λ b. front_of step ++ b) (sym ends))

-- the step of a line without an environment, with this one put in
abbrev pub with_env : StepLine → List BinderNode → StepLine
with_env step env = record { node = step.node; rule = step.rule; env = env; root = step.root }

pub step_known : (front back short : List ℕ) (step : StepLine) (env : List BinderNode) → short ≡ front ++ back → IsLineRead short (Some (Step step)) → step.env ≡ [] → back ≡ back_of step
    → All IsEntryForm env → IsRising env → IsStepForm (with_env step env) × (front ++ flat_map entry_words env ++ back ≡ line_words (Step (with_env step env)))
step_known front back short step env cut read none ends forms rising =
    let whole : front ++ back ≡ front_of step ++ back = sym cut ∙ (read.1 ∙ (parted step ∙ without back step none ends)) in
    let begins : front ≡ front_of step = append_cancel_right front (front_of step) back whole in
    let spelled : front ++ flat_map entry_words env ++ back ≡ front_of step ++ flat_map entry_words env ++ back_of step =
    ap (λ f. f ++ flat_map entry_words env ++ back) begins ∙ ap (λ b. front_of step ++ flat_map entry_words env ++ b) ends in
    (record { node = read.0.node; rule = read.0.rule; env = forms; rising = rising; root = read.0.root }, spelled ∙ sym (parted (with_env step env)))
