-- The first parts of a section, written one after another.
--     firsts_then         one first part more
--     numbers_then        a first part with a number of its own
--     no_step             a line that gives a step to a let is no step
use Rattle.std.proofs.Common.{◌≡◌, ◌≢◌, ℕ, List, [], ◌∷◌, ◌++◌, refl, sym, ap, ◌∙◌, subst, append-nil, append_assoc, Contains}
use Rattle.std.proofs.lemmas.List.Elements.{All-cons, All-nil, All-append}
use Rattle.mls_automaton.proofs.Lists.{Contains-here, Contains-later}
use Rattle.mls_deriv.specs.declared.derivation.SectionLine.{SectionLine}
use Rattle.mls_deriv.specs.declared.derivation.SectionLine.TheVariants as line
use Rattle.mls_deriv.specs.declared.derivation.StepLine.{StepLine}
use Rattle.mls_deriv.specs.Sections.{steps_of}
use Rattle.mls_deriv.specs.Steps.{Before}
use Rattle.mls_layout.specs.Lets.{FirstPart, HaveOwnNumbers, after}
use Rattle.mls_layout.specs.Plans.{PlannedLine, a_let, planned_steps}
use Rattle.mls_lines.proofs.Runs.{steps_append}
use Rattle.mls_allowed.specs.WrittenParts.{AreFirstsWritten, IsPartWritten}

module _ (b : Before) (first : FirstPart) (own : List PlannedLine) where
  abbrev Written : List StepLine → List (ℕ × ℕ) → List FirstPart → Type 0
  Written steps lets known = IsPartWritten (after b steps lets) steps known first.part first.env first.type own

  -- behind no other
  one_written : (steps : List StepLine) (lets : List (ℕ × ℕ)) (known : List FirstPart) (it : Written steps lets known)
      → AreFirstsWritten b steps lets known (first ∷ []) (own ++ a_let first.number it.number ∷ []) (steps ++ planned_steps own) (lets ++ (first.number, it.number) ∷ [])
  one_written steps lets known it = (own, [], it, sym (append-nil (own ++ a_let first.number it.number ∷ [])), (refl, refl, refl))

  abbrev Goes : List StepLine → List (ℕ × ℕ) → List FirstPart → List StepLine → List (ℕ × ℕ) → List FirstPart → Type 0
  Goes steps lets known more others all = (it : Written more others all)
      → AreFirstsWritten b steps lets known (first ∷ []) (own ++ a_let first.number it.number ∷ []) (more ++ planned_steps own) (others ++ (first.number, it.number) ∷ [])

  abbrev Goes_on : List StepLine → List (ℕ × ℕ) → (known firsts : List FirstPart) → List PlannedLine → List StepLine → List (ℕ × ℕ) → List FirstPart → Type 0
  Goes_on steps lets known firsts plan more others all = (it : Written more others all)
      → AreFirstsWritten b steps lets known (firsts ++ first ∷ []) (plan ++ (own ++ a_let first.number it.number ∷ [])) (more ++ planned_steps own) (others ++ (first.number, it.number) ∷ [])

  pub firsts_then : (steps : List StepLine) (lets : List (ℕ × ℕ)) (known firsts : List FirstPart) (plan : List PlannedLine) (more : List StepLine) (others : List (ℕ × ℕ)) → AreFirstsWritten b steps lets known firsts plan more others
      → (it : Written more others (known ++ firsts))
      → AreFirstsWritten b steps lets known (firsts ++ first ∷ []) (plan ++ (own ++ a_let first.number it.number ∷ [])) (more ++ planned_steps own) (others ++ (first.number, it.number) ∷ [])
  firsts_then steps lets known [] plan more others (no_plan, same_steps, same_lets) it =
      subst (λ (l : List PlannedLine). AreFirstsWritten b steps lets known (first ∷ []) (l ++ (own ++ a_let first.number it.number ∷ [])) (more ++ planned_steps own) (others ++ (first.number, it.number) ∷ [])) (sym no_plan)
      (subst (λ (m : List StepLine). Goes steps lets known m others (known ++ [])) (sym same_steps)
      (subst (λ (o : List (ℕ × ℕ)). Goes steps lets known steps o (known ++ [])) (sym same_lets)
      (subst (Goes steps lets known steps lets) (sym (append-nil known)) (one_written steps lets known))) it)
  firsts_then steps lets known (earlier ∷ firsts) plan more others (lines, rest, part, is, later) it = (
    lines,
    rest ++ (own ++ a_let first.number it.number ∷ []),
    part,
    ap (λ (l : List PlannedLine). l ++ (own ++ a_let first.number it.number ∷ [])) is ∙ append_assoc (lines ++ a_let earlier.number part.number ∷ []) rest (own ++ a_let first.number it.number ∷ []),
    subst (Goes_on (steps ++ planned_steps lines) (lets ++ (earlier.number, part.number) ∷ []) (known ++ earlier ∷ []) firsts rest more others) (append_assoc known (earlier ∷ []) firsts)
        (firsts_then (steps ++ planned_steps lines) (lets ++ (earlier.number, part.number) ∷ []) (known ++ earlier ∷ []) firsts rest more others later) it,
  )

-- a first part with a number of its own
pub numbers_then : (firsts : List FirstPart) (first : FirstPart) → HaveOwnNumbers firsts → ((other : FirstPart) → Contains firsts other → other.number ≢ first.number) → HaveOwnNumbers (firsts ++ first ∷ [])
numbers_then [] first own apart = (All-nil (λ (other : FirstPart). first.number ≢ other.number), tt)
numbers_then (earlier ∷ firsts) first own apart = (
  All-append (λ (other : FirstPart). earlier.number ≢ other.number) firsts (first ∷ []) own.0
      (All-cons (λ (other : FirstPart). earlier.number ≢ other.number) first [] (apart earlier (Contains-here earlier firsts)) (All-nil (λ (other : FirstPart). earlier.number ≢ other.number))),
  numbers_then firsts first own.1 (λ other there. apart other (Contains-later earlier firsts other there)),
)

-- a line that gives a step to a let is no step
pub no_step : (lines : List SectionLine) (k number : ℕ) → steps_of (lines ++ line.Let k number ∷ []) ≡ steps_of lines
no_step lines k number = steps_append lines (line.Let k number ∷ []) ∙ append-nil (steps_of lines)
