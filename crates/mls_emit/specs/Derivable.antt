-- For which entries of a signature there is a derivation.
use Rattle.std.specs.Prelude.{◌≡◌, ℕ, List, [], ◌∷◌, ◌++◌, map}
use Rattle.mls_automaton.specs.declared.scheme.Scheme.{Scheme}
use Rattle.mls_automaton.specs.Schemes.{IsScheme}
use Rattle.mls_term.specs.declared.term.ResolvedBinding.{ResolvedBinding}
use Rattle.mls_term.specs.WellFormed.{HasRisingTree}
use Rattle.mls_typetext.specs.declared.scheme.ReadScheme.{ReadScheme}
use Rattle.mls_typetext.specs.Schemes.{scheme_of}
use Rattle.mls_print.specs.Printed.{HasNamedFields, IsPrinted}
use Rattle.mls_deriv.specs.Laws.{IsDerivable}
use Rattle.mls_deriv.specs.Sections.{schemes_of}
use Rattle.mls_iface.specs.declared.signature.SigEntry.{SigEntry}

-- what the names of the environment mean, by their numbers: what is declared, and behind it what the entries say
abbrev pub names_read : List ReadScheme → List SigEntry → List ReadScheme
names_read declared entries = declared ++ map (λ (entry : SigEntry). entry.scheme) entries

-- the text is printed of a scheme that needs no binder, and whose labels are names
pub record IsPrintedType (text : List ℕ) : Type 0 where
  pub scheme : Scheme
  pub is : IsScheme scheme
  pub free : scheme.env ≡ []
  pub named : HasNamedFields scheme.automaton
  pub printed : IsPrinted scheme text

-- The entry has the name of the binding and a printed text, whose type the rules derive for the term of the binding over
-- what these names were read as. Binders of the term rise inwards, as they do in what a module means.
pub record CanBeDerived (reads : List ReadScheme) (binding : ResolvedBinding) (e : SigEntry) : Type 0 where
  pub name : e.name ≡ binding.name
  pub text : IsPrintedType e.text
  pub rising : HasRisingTree binding.term.nodes
  pub derivable : IsDerivable (schemes_of reads) binding (scheme_of e.scheme)

-- there is one such entry for each binding, over what is known and what the entries before it say
abbrev pub CanAllBeDerived : (known : List ReadScheme) → List ResolvedBinding → List SigEntry → Type 0
CanAllBeDerived known [] [] = Unit {0}
CanAllBeDerived known (binding ∷ bindings) (e ∷ entries) =
    CanBeDerived known binding e × CanAllBeDerived (known ++ e.scheme ∷ []) bindings entries
CanAllBeDerived known _ _ = ⊥
