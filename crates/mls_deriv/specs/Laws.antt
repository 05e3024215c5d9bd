-- What an allowed derivation shows.
use Rattle.std.specs.Prelude.{◌≡◌, ℕ, suc, length, List, [], ◌∷◌, ◌++◌, All}
use Rattle.std.specs.FinMap as env
use Rattle.mls_book.specs.Schemes.{Scheme, IsScheme}
use Rattle.mls_term.specs.declared.term.ResolvedBinding.{ResolvedBinding}
use Rattle.mls_term.specs.Terms.{TermTree, postorder}
use Rattle.mls_term.specs.WellFormed.{IsTerm}
use Rattle.mls_term.specs.Derivations.{Derives}
use Rattle.mls_typetext.specs.declared.scheme.ReadScheme.{ReadScheme}
use Rattle.mls_typetext.specs.Laws.{IsReadScheme}
use Rattle.mls_typetext.specs.Schemes.{scheme_of}
use Rattle.mls_typetext.specs.Texts.{IsTypeText}
use Rattle.mls_deriv.specs.declared.derivation.Section.{Section}
use Rattle.mls_deriv.specs.Sections.{schemes_of, AreSectionsAllowed, HasFirstRefused}

-- the binding's term has the scheme, over an environment of these schemes
pub record IsDerivable (globals : List Scheme) (binding : ResolvedBinding) (s : Scheme) : Type 0 where
  pub is : IsScheme s
  pub term_tree : TermTree
  pub nodes : binding.term.nodes ≡ postorder 0 term_tree
  pub derives : Derives (record { globals = globals; lets = env.empty }) term_tree s

-- the text of each section's type is read as a scheme without binders, which is derivable for its binding, over the
-- known schemes and those of the sections before it
abbrev pub AreDerivable : (known : List ReadScheme) → List ResolvedBinding → List Section → Type 0
AreDerivable known [] [] = Unit {0}
AreDerivable known (binding ∷ bindings) (section ∷ sections) =
    (read : ReadScheme)
    × IsTypeText section.text read
    × IsDerivable (schemes_of known) binding (scheme_of read)
    × AreDerivable (known ++ read ∷ []) bindings sections
AreDerivable known _ _ = ⊥

-- each binding is a term over an environment of so many schemes, and one more for each binding before it
abbrev pub AreTerms : ℕ → List ResolvedBinding → Type 0
AreTerms count [] = Unit {0}
AreTerms count (b ∷ bs) = IsTerm count b.term.nodes b.term.binders b.term.lets × AreTerms (suc count) bs

-- an allowed derivation shows that its types are derivable, for bindings that are terms over the known schemes and the
-- bindings before
abbrev pub AllowedIsDerivable : Type 0
AllowedIsDerivable =
    (known : List ReadScheme) (bindings : List ResolvedBinding) (sections : List Section)
    → All IsReadScheme known → AreTerms (length known) bindings
    → AreSectionsAllowed known bindings sections
    → AreDerivable known bindings sections

-- where every step is allowed, none is refused, and there is one first refused step
pub record HasOneVerdict (known : List ReadScheme) (bindings : List ResolvedBinding)
    (sections : List Section) : Type 0 where
  pub not_both : (refused : ℕ) → AreSectionsAllowed known bindings sections
      → HasFirstRefused known 0 bindings sections refused → ⊥
  pub one_refused : (refused other : ℕ) → HasFirstRefused known 0 bindings sections refused
      → HasFirstRefused known 0 bindings sections other → refused ≡ other

abbrev pub OneVerdict : Type 0
OneVerdict = (known : List ReadScheme) (bindings : List ResolvedBinding) (sections : List Section)
    → HasOneVerdict known bindings sections
