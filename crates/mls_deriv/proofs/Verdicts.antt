-- A derivation is allowed, or it has one first refused step.
use Rattle.std.proofs.Common.{◌≡◌, inl, inr, ℕ, suc, ◌+◌, List, [], ◌∷◌, ◌++◌, length, sym, ◌∙◌, subst}
use Rattle.mls_book.specs.Schemes.{Scheme}
use Rattle.mls_term.specs.declared.term.ResolvedBinding.{ResolvedBinding}
use Rattle.mls_typetext.specs.declared.scheme.ReadScheme.{ReadScheme}
use Rattle.mls_typetext.proofs.ReadLaws.{one_reading}
use Rattle.mls_deriv.specs.declared.derivation.Section.{Section}
use Rattle.mls_deriv.specs.declared.derivation.SectionLine.{SectionLine}
use Rattle.mls_deriv.specs.declared.derivation.SectionLine.TheVariants as line
use Rattle.mls_deriv.specs.Steps.{Before}
use Rattle.mls_deriv.specs.Sections.{after_step, after_let, AreAllowed, steps_of, HasRefused, at_start, IsEndAllowed, IsHeadRead, schemes_of, IsSectionAllowed, AreSectionsAllowed, HasRefusedStep, no_head, a_step, the_end, HasFirstRefused}
use Rattle.mls_deriv.specs.Laws.{OneVerdict}

-- of the lines of a section
not_both : (b : Before) (n : ℕ) (lines : List SectionLine) (refused : ℕ) → AreAllowed b lines → HasRefused b n lines refused → ⊥
not_both b n [] refused allowed h = absurd h
not_both b n (line.Let k number ∷ rest) refused allowed h = not_both (after_let b k number) n rest refused allowed h
not_both b n (line.Step step ∷ rest) refused allowed (inl h) = h.0 allowed.0
not_both b n (line.Step step ∷ rest) refused allowed (inr h) = not_both (after_step b step) (suc n) rest refused allowed.1 h.1
not_both b n (line.Put x m ∷ rest) refused allowed h = not_both b n rest refused allowed h
not_both b n (line.Pair mode i j ∷ rest) refused allowed h = not_both b n rest refused allowed h

one_refused : (b : Before) (n : ℕ) (lines : List SectionLine) (refused other : ℕ) → HasRefused b n lines refused → HasRefused b n lines other → refused ≡ other
one_refused b n [] refused other h k = absurd h
one_refused b n (line.Let x number ∷ rest) refused other h k = one_refused (after_let b x number) n rest refused other h k
one_refused b n (line.Step step ∷ rest) refused other (inl h) (inl k) = h.1 ∙ sym k.1
one_refused b n (line.Step step ∷ rest) refused other (inl h) (inr k) = absurd (h.0 k.0)
one_refused b n (line.Step step ∷ rest) refused other (inr h) (inl k) = absurd (k.0 h.0)
one_refused b n (line.Step step ∷ rest) refused other (inr h) (inr k) = one_refused (after_step b step) (suc n) rest refused other h.1 k.1
one_refused b n (line.Put x m ∷ rest) refused other h k = one_refused b n rest refused other h k
one_refused b n (line.Pair mode i j ∷ rest) refused other h k = one_refused b n rest refused other h k

-- the head of a section is read in one way
one_head : (section : Section) (read other : ReadScheme) → IsHeadRead section read → IsHeadRead section other → read ≡ other
one_head section read other h k = one_reading section.text read other h.text k.text

-- of one section
section_not_both : (globals : List Scheme) (n : ℕ) (binding : ResolvedBinding) (section : Section) (read : ReadScheme) (refused : ℕ) → IsSectionAllowed globals binding section read → HasRefusedStep globals n binding section refused → ⊥
section_not_both globals n binding section read refused allowed (no_head none e) = none read allowed.head
section_not_both globals n binding section read refused allowed (a_step other head h) = not_both (at_start globals binding section) n section.lines refused allowed.lines h
section_not_both globals n binding section read refused allowed (the_end other head lines none e) =
    none (subst (IsEndAllowed binding section) (one_head section read other allowed.head head) allowed.end)

one_step : (globals : List Scheme) (n : ℕ) (binding : ResolvedBinding) (section : Section) (refused other : ℕ) → HasRefusedStep globals n binding section refused → HasRefusedStep globals n binding section other → refused ≡ other
one_step globals n binding section refused other (no_head none e) (no_head none' e') = e ∙ sym e'
one_step globals n binding section refused other (no_head none e) (a_step read head h) = absurd (none read head)
one_step globals n binding section refused other (no_head none e) (the_end read head lines end e') = absurd (none read head)
one_step globals n binding section refused other (a_step read head h) (no_head none e) = absurd (none read head)
one_step globals n binding section refused other (a_step read head h) (a_step read' head' k) = one_refused (at_start globals binding section) n section.lines refused other h k
one_step globals n binding section refused other (a_step read head h) (the_end read' head' lines end e) = absurd (not_both (at_start globals binding section) n section.lines refused lines h)
one_step globals n binding section refused other (the_end read head lines end e) (no_head none e') = absurd (none read head)
one_step globals n binding section refused other (the_end read head lines end e) (a_step read' head' k) = absurd (not_both (at_start globals binding section) n section.lines other lines k)
one_step globals n binding section refused other (the_end read head lines end e) (the_end read' head' lines' end' e') = e ∙ sym e'

-- of all sections
none_refused : (known : List ReadScheme) (n : ℕ) (bindings : List ResolvedBinding) (sections : List Section) (refused : ℕ) → AreSectionsAllowed known bindings sections → HasFirstRefused known n bindings sections refused → ⊥
none_refused known n [] [] refused allowed h = absurd h
none_refused known n [] (section ∷ sections) refused allowed h = absurd allowed
none_refused known n (binding ∷ bindings) [] refused allowed h = absurd allowed
none_refused known n (binding ∷ bindings) (section ∷ sections) refused (read, allowed, rest) (inl h) = section_not_both (schemes_of known) n binding section read refused allowed h
none_refused known n (binding ∷ bindings) (section ∷ sections) refused (read, allowed, rest) (inr (other, allowed', h)) =
    none_refused (known ++ other ∷ []) (n + suc (length (steps_of section.lines))) bindings sections refused
    (subst (λ read. AreSectionsAllowed (known ++ read ∷ []) bindings sections) (one_head section read other allowed.head allowed'.head) rest) h

one_first : (known : List ReadScheme) (n : ℕ) (bindings : List ResolvedBinding) (sections : List Section) (refused other : ℕ) → HasFirstRefused known n bindings sections refused → HasFirstRefused known n bindings sections other → refused ≡ other
one_first known n [] [] refused other h k = absurd h
one_first known n [] (section ∷ sections) refused other h k = h ∙ sym k
one_first known n (binding ∷ bindings) [] refused other h k = h ∙ sym k
one_first known n (binding ∷ bindings) (section ∷ sections) refused other (inl h) (inl k) = one_step (schemes_of known) n binding section refused other h k
one_first known n (binding ∷ bindings) (section ∷ sections) refused other (inl h) (inr (read, allowed, k)) = absurd (section_not_both (schemes_of known) n binding section read refused allowed h)
one_first known n (binding ∷ bindings) (section ∷ sections) refused other (inr (read, allowed, h)) (inl k) = absurd (section_not_both (schemes_of known) n binding section read other allowed k)
one_first known n (binding ∷ bindings) (section ∷ sections) refused other (inr (read, allowed, h)) (inr (read', allowed', k)) =
    one_first (known ++ read ∷ []) (n + suc (length (steps_of section.lines))) bindings sections refused other h
    (subst (λ read. HasFirstRefused (known ++ read ∷ []) (n + suc (length (steps_of section.lines))) bindings sections other) (one_head section read' read allowed'.head allowed.head) k)

pub one_verdict : OneVerdict
one_verdict known bindings sections = record {
  not_both = none_refused known 0 bindings sections;
  one_refused = one_first known 0 bindings sections;
}
