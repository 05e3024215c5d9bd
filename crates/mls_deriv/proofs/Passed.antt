-- How the check of a derivation goes on.
use Rattle.std.proofs.Common.{◌≡◌, inl, inr, ℕ, suc, ◌+◌, ◌-◌, ◌<◌, ◌≤◌, List, [], ◌∷◌, ◌++◌, length, drop, get_or, refl, sym, ap, ◌∙◌, subst, arith, append_assoc, append-nil}
use Rattle.std.proofs.lemmas.List.{drop_more, drop_all, length-drop}
use Rattle.mls_term.specs.declared.term.ResolvedBinding.{ResolvedBinding}
use Rattle.mls_typetext.specs.declared.scheme.ReadScheme.{ReadScheme}
use Rattle.mls_deriv.specs.declared.derivation.Section.{Section}
use Rattle.mls_deriv.specs.Sections.{steps_of, schemes_of, IsSectionAllowed, HasRefusedStep, no_head, IsHeadRead, AreSectionsAllowed, HasFirstRefused}
use Rattle.mls_deriv.specs.declared.verify.Verified.{Verified}
use Rattle.mls_deriv.specs.declared.verify.Verified.TheVariants.{Yes, No}
use Rattle.std.specs.Prelude.{All}
use Rattle.mls_typetext.specs.Laws.{IsReadScheme}
use Rattle.mls_deriv.specs.Laws.{AreTerms}
use Rattle.mls_deriv.specs.Verdicts.{IsVerdict}
use Rattle.mls_deriv.specs.inner.Walks.{HavePassed, IsFound}
use Rattle.mls_deriv.proofs.AllowedSections.{allowed_is_derivable}

module _ (known : List ReadScheme) (bindings : List ResolvedBinding) (sections : List Section) where
  -- at the start
  pub passed_none : HavePassed known [] 0 bindings bindings sections sections
  passed_none = record {
    allowed = λ h. subst (λ ks. AreSectionsAllowed ks bindings sections) (append-nil known) h;
    refused = λ r h. subst (λ ks. HasFirstRefused ks 0 bindings sections r) (append-nil known) h;
  }

  module _ (earlier : List ReadScheme) (count : ℕ) where
    -- one more section
    pub passed_one : (binding : ResolvedBinding) (rest : List ResolvedBinding) (section : Section) (others : List Section) (read : ReadScheme) (steps next : ℕ)
        → HavePassed known earlier count bindings (binding ∷ rest) sections (section ∷ others) → IsSectionAllowed (schemes_of (known ++ earlier)) binding section read → steps ≡ length (steps_of section.lines)
        → next ≡ count + suc steps → HavePassed known (earlier ++ read ∷ []) next bindings rest sections others
    passed_one binding rest section others read steps next it allowed same is = record {
      allowed = λ h. it.allowed (read, allowed, subst (λ ks. AreSectionsAllowed ks rest others) (sym (append_assoc known earlier (read ∷ []))) h);
      refused = λ r h.
          it.refused r (inr (
            read,
            allowed,
            subst (λ ks. HasFirstRefused ks (count + suc (length (steps_of section.lines))) rest others r) (sym (append_assoc known earlier (read ∷ [])))
                (subst (λ n. HasFirstRefused (known ++ (earlier ++ read ∷ [])) n rest others r) (is ∙ ap (λ m. count + suc m) same) h),
          ));
    }

    -- a section that is refused, or whose head is
    pub stopped : (binding : ResolvedBinding) (rest : List ResolvedBinding) (section : Section) (others : List Section) (refused : ℕ)
        → HavePassed known earlier count bindings (binding ∷ rest) sections (section ∷ others) → HasRefusedStep (schemes_of (known ++ earlier)) count binding section refused → HasFirstRefused known 0 bindings sections refused
    stopped binding rest section others refused it h = it.refused refused (inl h)

    pub no_head_read : (binding : ResolvedBinding) (rest : List ResolvedBinding) (section : Section) (others : List Section)
        → HavePassed known earlier count bindings (binding ∷ rest) sections (section ∷ others) → ((read : ReadScheme) → IsHeadRead section read → ⊥) → HasFirstRefused known 0 bindings sections count
    no_head_read binding rest section others it none = it.refused count (inl (no_head none refl))

    -- a section is missing, or one is too many
    pub missing : (binding : ResolvedBinding) (rest : List ResolvedBinding) → HavePassed known earlier count bindings (binding ∷ rest) sections [] → HasFirstRefused known 0 bindings sections count
    missing binding rest it = it.refused count refl

    pub surplus : (section : Section) (others : List Section) → HavePassed known earlier count bindings [] sections (section ∷ others) → HasFirstRefused known 0 bindings sections count
    surplus section others it = it.refused count refl

    pub all_passed : HavePassed known earlier count bindings [] sections [] → AreSectionsAllowed known bindings sections
    all_passed it = it.allowed tt

-- what is left, by its first
pub rest_is : {X : Type 0} (xs : List X) (i : ℕ) (x : X) → i < length xs → get_or xs i x ≡ x → drop i xs ≡ x ∷ drop (i + 1) xs
rest_is {X} xs i x low is = drop_more xs i x low ∙ ap (λ (y : X). y ∷ drop (i + 1) xs) is

-- a section is left where no binding is
pub surplus_at : (known : List ReadScheme) (bindings : List ResolvedBinding) (sections : List Section) (earlier : List ReadScheme) (count i : ℕ)
    → length bindings ≤ i → i < length sections → HavePassed known earlier count bindings (drop i bindings) sections (drop i sections) → HasFirstRefused known 0 bindings sections count
surplus_at known bindings sections earlier count i none some it =
    let it' : HavePassed known earlier count bindings [] sections (drop i sections) = subst (λ bs. HavePassed known earlier count bindings bs sections (drop i sections)) (drop_all i bindings none) it in
    go (drop i sections) (let left : length (drop i sections) ≡ length sections - i = length-drop i sections in omega arith) it'
  where
    go : (others : List Section) → 0 < length others → HavePassed known earlier count bindings [] sections others → HasFirstRefused known 0 bindings sections count
    go [] low it = absurd (omega arith)
    go (section ∷ others) low it = surplus known bindings sections earlier count section others it

pub passed_at_end : (known : List ReadScheme) (bindings : List ResolvedBinding) (sections : List Section) (earlier : List ReadScheme) (count i : ℕ)
    → length bindings ≤ i → length sections ≤ i → HavePassed known earlier count bindings (drop i bindings) sections (drop i sections) → AreSectionsAllowed known bindings sections
passed_at_end known bindings sections earlier count i none none' it =
    all_passed known bindings sections earlier count
    (subst (λ ss. HavePassed known earlier count bindings [] sections ss) (drop_all i sections none')
    (subst (λ bs. HavePassed known earlier count bindings bs sections (drop i sections)) (drop_all i bindings none) it))

-- where all is allowed, what is stated is derivable
pub verdict : (known : List ReadScheme) (bindings : List ResolvedBinding) (sections : List Section) → All IsReadScheme known → AreTerms (length known) bindings
    → (v : Verified) → IsFound known bindings sections v → IsVerdict known bindings sections v
verdict known bindings sections all terms Yes h = (h, allowed_is_derivable known bindings sections all terms h)
verdict known bindings sections all terms (No n) h = h
