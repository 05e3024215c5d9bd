-- What a derivation of a module is.
use Rattle.std.specs.Prelude.{◌≡◌, ℕ, List, map}
use Rattle.mls_term.specs.declared.term.ResolvedBinding.{ResolvedBinding}
use Rattle.mls_typetext.specs.declared.scheme.ReadScheme.{ReadScheme}
use Rattle.mls_deriv.specs.declared.derivation.Section.{Section}
use Rattle.mls_deriv.specs.Sections.{AreSectionsAllowed}
use Rattle.mls_iface.specs.declared.signature.SigEntry.{SigEntry}

-- the names and the texts of the types of sections, and those of entries
abbrev pub section_names : List Section → List (List ℕ)
section_names sections = map (λ s. s.name) sections

abbrev pub section_texts : List Section → List (List ℕ)
section_texts sections = map (λ s. s.text) sections

abbrev pub entry_names : List SigEntry → List (List ℕ)
entry_names entries = map (λ e. e.name) entries

abbrev pub entry_texts : List SigEntry → List (List ℕ)
entry_texts entries = map (λ e. e.text) entries

-- Each section derives the type of an entry of the signature, which has its name and its text, and each step of it is
-- allowed, where these schemes are known.
pub record AreDerivations (known : List ReadScheme) (bindings : List ResolvedBinding) (entries : List SigEntry)
    (sections : List Section) : Type 0 where
  pub names : section_names sections ≡ entry_names entries
  pub texts : section_texts sections ≡ entry_texts entries
  pub allowed : AreSectionsAllowed known bindings sections
