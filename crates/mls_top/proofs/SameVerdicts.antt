-- What is allowed rests on the schemes of the known types alone, so a derivation has one verdict over names that mean the
-- same.
use Rattle.std.proofs.Common.{◌≡◌, inl, inr, ℕ, suc, ◌+◌, List, [], ◌∷◌, ◌++◌, length, sym, ap, ◌∙◌, subst}
use Rattle.std.proofs.lemmas.List.{map-append}
use Rattle.mls_book.specs.Schemes.{Scheme}
use Rattle.mls_term.specs.declared.term.ResolvedBinding.{ResolvedBinding}
use Rattle.mls_typetext.specs.declared.scheme.ReadScheme.{ReadScheme}
use Rattle.mls_typetext.specs.Schemes.{scheme_of}
use Rattle.mls_deriv.specs.declared.derivation.Section.{Section}
use Rattle.mls_deriv.specs.Sections.{steps_of, schemes_of, IsSectionAllowed, AreSectionsAllowed, HasRefusedStep, HasFirstRefused}

-- one more type is known
more_known : (known other : List ReadScheme) (read : ReadScheme) → schemes_of known ≡ schemes_of other → schemes_of (known ++ read ∷ []) ≡ schemes_of (other ++ read ∷ [])
more_known known other read same =
    map-append scheme_of known (read ∷ []) ∙ (ap (λ l. l ++ scheme_of read ∷ []) same ∙ sym (map-append scheme_of other (read ∷ [])))

pub allowed_over : (known other : List ReadScheme) → schemes_of known ≡ schemes_of other → (bindings : List ResolvedBinding) (sections : List Section)
    → AreSectionsAllowed known bindings sections → AreSectionsAllowed other bindings sections
allowed_over known other same [] [] h = tt
allowed_over known other same [] (section ∷ sections) h = absurd h
allowed_over known other same (binding ∷ bindings) [] h = absurd h
allowed_over known other same (binding ∷ bindings) (section ∷ sections) (read, allowed, rest) =
    let P : List Scheme → Type 0 = λ globals. IsSectionAllowed globals binding section read in
    (read, subst P same allowed, allowed_over (known ++ read ∷ []) (other ++ read ∷ []) (more_known known other read same) bindings sections rest)

pub refused_over : (known other : List ReadScheme) → schemes_of known ≡ schemes_of other → (n : ℕ) (bindings : List ResolvedBinding) (sections : List Section) (refused : ℕ)
    → HasFirstRefused known n bindings sections refused → HasFirstRefused other n bindings sections refused
refused_over known other same n [] [] refused h = absurd h
refused_over known other same n [] (section ∷ sections) refused h = h
refused_over known other same n (binding ∷ bindings) [] refused h = h
refused_over known other same n (binding ∷ bindings) (section ∷ sections) refused (inl h) =
    let P : List Scheme → Type 0 = λ globals. HasRefusedStep globals n binding section refused in
    inl (subst P same h)
refused_over known other same n (binding ∷ bindings) (section ∷ sections) refused (inr (read, allowed, h)) =
    let P : List Scheme → Type 0 = λ globals. IsSectionAllowed globals binding section read in
    inr (
      read,
      subst P same allowed,
      refused_over (known ++ read ∷ []) (other ++ read ∷ []) (more_known known other read same) (n + suc (length (steps_of section.lines))) bindings sections refused h,
    )
