-- Runs of lines.
--     nothing_run     no line
--     run_then        one run after the other
--     step_run        an allowed step
--     says_last, says_kept        what the steps say
use Rattle.std.proofs.Common.{◌≡◌, ℕ, zero, suc, List, [], ◌∷◌, ◌++◌, length, refl, sym, ap, ◌∙◌, subst, slice_get, append-nil, append_assoc, Some}
use Rattle.mls_deriv.specs.declared.derivation.SectionLine.{SectionLine}
use Rattle.mls_deriv.specs.declared.derivation.SectionLine.TheVariants as line
use Rattle.mls_deriv.specs.declared.derivation.StepLine.{StepLine}
use Rattle.mls_deriv.specs.declared.claim.Put.{Put}
use Rattle.mls_deriv.specs.declared.claim.Pair.{Pair}
use Rattle.mls_book.specs.Schemes.{Scheme}
use Rattle.mls_deriv.specs.Steps.{puts_of, pairs_of, Before, Says, conclusion, IsAllowed}
use Rattle.mls_deriv.specs.Sections.{after_step, steps_of, AreAllowed}
use Rattle.mls_layout.specs.Runs.{put_lines, pair_lines, lines_of, BeginsAnew, IsRun}

assoc : (xs ys zs : List SectionLine) → (xs ++ ys) ++ zs ≡ xs ++ (ys ++ zs)
assoc [] ys zs = refl
assoc (x ∷ xs) ys zs = ap (λ (l : List SectionLine). x ∷ l) (assoc xs ys zs)

pub steps_append : (lines more : List SectionLine) → steps_of (lines ++ more) ≡ steps_of lines ++ steps_of more
steps_append [] more = refl
steps_append (line.Let k n ∷ lines) more = steps_append lines more
steps_append (line.Step step ∷ lines) more = ap (λ (l : List StepLine). step ∷ l) (steps_append lines more)
steps_append (line.Put x n ∷ lines) more = steps_append lines more
steps_append (line.Pair mode i j ∷ lines) more = steps_append lines more

pub nothing_run : (b : Before) → IsRun b [] b
nothing_run b = record { steps = sym (append-nil b.steps); anew = λ rest anew. anew; allowed = λ rest anew all. all }

pub run_then : (b c d : Before) (lines more : List SectionLine) → IsRun b lines c → IsRun c more d → IsRun b (lines ++ more) d
run_then b c d lines more first second = record {
  steps =
      second.steps
      ∙ (ap (λ (l : List StepLine). l ++ steps_of more) first.steps
      ∙ (append_assoc b.steps (steps_of lines) (steps_of more)
      ∙ ap (λ (l : List StepLine). b.steps ++ l) (sym (steps_append lines more))));
  anew = λ rest anew. subst BeginsAnew (sym (assoc lines more rest)) (first.anew (more ++ rest) (second.anew rest anew));
  allowed = λ rest anew all. subst (AreAllowed b) (sym (assoc lines more rest)) (first.allowed (more ++ rest) (second.anew rest anew) (second.allowed rest anew all));
}

pairs_back : (pairs : List Pair) (rest : List SectionLine) → BeginsAnew rest → pairs_of (pair_lines pairs ++ rest) ≡ pairs
pairs_back [] rest anew = anew.pairs
pairs_back (pair ∷ pairs) rest anew = ap (λ (l : List Pair). pair ∷ l) (pairs_back pairs rest anew)

no_puts : (pairs : List Pair) (rest : List SectionLine) → BeginsAnew rest → puts_of (pair_lines pairs ++ rest) ≡ []
no_puts [] rest anew = anew.puts
no_puts (pair ∷ pairs) rest anew = no_puts pairs rest anew

puts_back : (puts : List Put) (pairs : List Pair) (rest : List SectionLine) → BeginsAnew rest → puts_of (put_lines puts ++ (pair_lines pairs ++ rest)) ≡ puts
puts_back [] pairs rest anew = no_puts pairs rest anew
puts_back (put ∷ puts) pairs rest anew = ap (λ (l : List Put). put ∷ l) (puts_back puts pairs rest anew)

pairs_past : (puts : List Put) (pairs : List Pair) (rest : List SectionLine) → BeginsAnew rest → pairs_of (put_lines puts ++ (pair_lines pairs ++ rest)) ≡ pairs
pairs_past [] pairs rest anew = pairs_back pairs rest anew
pairs_past (put ∷ puts) pairs rest anew = pairs_past puts pairs rest anew

past_pairs : (b : Before) (pairs : List Pair) (rest : List SectionLine) → AreAllowed b rest → AreAllowed b (pair_lines pairs ++ rest)
past_pairs b [] rest all = all
past_pairs b (pair ∷ pairs) rest all = past_pairs b pairs rest all

past_puts : (b : Before) (puts : List Put) (pairs : List Pair) (rest : List SectionLine) → AreAllowed b rest → AreAllowed b (put_lines puts ++ (pair_lines pairs ++ rest))
past_puts b [] pairs rest all = past_pairs b pairs rest all
past_puts b (put ∷ puts) pairs rest all = past_puts b puts pairs rest all

pub no_steps : (puts : List Put) (pairs : List Pair) → steps_of (put_lines puts ++ pair_lines pairs) ≡ []
no_steps [] [] = refl
no_steps [] (pair ∷ pairs) = no_steps [] pairs
no_steps (put ∷ puts) pairs = no_steps puts pairs

-- an allowed step, with its lines
pub step_run : (b : Before) (step : StepLine) (puts : List Put) (pairs : List Pair) → IsAllowed b puts pairs step → IsRun b (lines_of step puts pairs) (after_step b step)
step_run b step puts pairs it = record {
  steps = ap (λ (l : List StepLine). b.steps ++ step ∷ l) (sym (no_steps puts pairs));
  anew = λ rest anew. record { puts = refl; pairs = refl };
  allowed =
      λ rest anew all.
      subst (λ (l : List SectionLine). AreAllowed b (line.Step step ∷ l)) (sym (assoc (put_lines puts) (pair_lines pairs) rest)) (
        subst (λ (ps : List Put). IsAllowed b ps (pairs_of (put_lines puts ++ (pair_lines pairs ++ rest))) step) (sym (puts_back puts pairs rest anew))
            (subst (λ (ps : List Pair). IsAllowed b puts ps step) (sym (pairs_past puts pairs rest anew)) it),
        past_puts (after_step b step) puts pairs rest all,
      );
}

pub last_found : (steps : List StepLine) (step : StepLine) → slice_get (steps ++ step ∷ []) (length steps) ≡ Some step
last_found [] step = refl
last_found (first ∷ steps) step = last_found steps step

kept_found : (steps : List StepLine) (step found : StepLine) (n : ℕ) → slice_get steps n ≡ Some found → slice_get (steps ++ step ∷ []) n ≡ Some found
kept_found [] step found n e = absurd (cc)
kept_found (first ∷ steps) step found zero e = e
kept_found (first ∷ steps) step found (suc n) e = kept_found steps step found n e

pub says_last : (b : Before) (step : StepLine) → Says (after_step b step) (length b.steps) step.node (conclusion b.book step)
says_last b step = record { step = step; stands = last_found b.steps step; about = refl; concludes = refl }

pub says_kept : (b : Before) (step : StepLine) (n part : ℕ) (s : Scheme) → Says b n part s → Says (after_step b step) n part s
says_kept b step n part s it = record { step = it.step; stands = kept_found b.steps step it.step n it.stands; about = it.about; concludes = it.concludes }
