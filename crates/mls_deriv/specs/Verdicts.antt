-- What the check of a derivation answers.
use Rattle.std.specs.Prelude.{List}
use Rattle.mls_term.specs.declared.term.ResolvedBinding.{ResolvedBinding}
use Rattle.mls_typetext.specs.declared.scheme.ReadScheme.{ReadScheme}
use Rattle.mls_deriv.specs.declared.derivation.Section.{Section}
use Rattle.mls_deriv.specs.declared.verify.Verified.{Verified}
use Rattle.mls_deriv.specs.declared.verify.Verified.TheVariants.{Yes, No}
use Rattle.mls_deriv.specs.Laws.{AreDerivable}
use Rattle.mls_deriv.specs.Sections.{AreSectionsAllowed, HasFirstRefused}

-- yes where each step is allowed, which then is a proof that the stated types are derivable; no with the first step
-- that is not
abbrev pub IsVerdict : List ReadScheme → List ResolvedBinding → List Section → Verified → Type 0
IsVerdict known bindings sections Yes =
    AreSectionsAllowed known bindings sections × AreDerivable known bindings sections
IsVerdict known bindings sections (No n) = HasFirstRefused known 0 bindings sections n
