-- Plans, one after the other.
--     lines_split         their lines
use Rattle.std.proofs.Common.{◌≡◌, List, [], ◌∷◌, ◌++◌, refl, sym, ap, ◌∙◌, subst, append-nil, append_assoc}
use Rattle.mls_book.specs.declared.book.Node.{Node}
use Rattle.mls_deriv.specs.declared.derivation.SectionLine.{SectionLine}
use Rattle.mls_deriv.specs.declared.derivation.SectionLine.TheVariants as line
use Rattle.mls_deriv.specs.declared.derivation.StepLine.{StepLine}
use Rattle.mls_layout.specs.Runs.{lines_of}
use Rattle.mls_layout.specs.Plans.{PlannedLine, a_step_with, a_let, planned_steps, AreLinesOf}

-- lines of two plans
pub record AreSplit (book : List Node) (steps : List StepLine) (plan more : List PlannedLine) (lines : List SectionLine) : Type 0 where
  pub first : List SectionLine
  pub rest : List SectionLine
  pub are : AreLinesOf book steps plan first
  pub later : AreLinesOf book (steps ++ planned_steps plan) more rest
  pub same : lines ≡ first ++ rest

module _ (book : List Node) (more : List PlannedLine) where
  pub lines_split : (plan : List PlannedLine) (steps : List StepLine) (lines : List SectionLine) → AreLinesOf book steps (plan ++ more) lines → AreSplit book steps plan more lines
  lines_split [] steps lines it = record {
    first = [];
    rest = lines;
    are = refl;
    later = subst (λ (l : List StepLine). AreLinesOf book l more lines) (sym (append-nil steps)) it;
    same = refl;
  }
  lines_split (a_step_with step puts ∷ plan) steps lines (pairs, others, list, is, it) =
      let next = lines_split plan (steps ++ step ∷ []) others it in
      record {
        first = lines_of step puts pairs ++ next.first;
        rest = next.rest;
        are = (pairs, next.first, list, refl, next.are);
        later = subst (λ (l : List StepLine). AreLinesOf book l more next.rest) (append_assoc steps (step ∷ []) (planned_steps plan)) next.later;
        same =
            is ∙ (ap (λ (l : List SectionLine). lines_of step puts pairs ++ l) next.same
            ∙ sym (append_assoc (lines_of step puts pairs) next.first next.rest));
      }
  lines_split (a_let k number ∷ plan) steps lines (others, is, it) =
      let next = lines_split plan steps others it in
      record {
        first = line.Let k number ∷ next.first;
        rest = next.rest;
        are = (next.first, refl, next.are);
        later = next.later;
        same = is ∙ ap (λ (l : List SectionLine). line.Let k number ∷ l) next.same;
      }
