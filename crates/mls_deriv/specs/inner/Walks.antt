-- How far the check of a section has come.
use Rattle.std.specs.Prelude.{◌≡◌, ℕ, ◌+◌, List, ◌++◌, length, slice_get, Option, Some, None, Bool, true, false}
use Rattle.std.specs.FinMap as env
use Rattle.std.specs.Ordering.{nat_cmp}
use Rattle.mls_book.specs.Schemes.{Scheme}
use Rattle.mls_term.specs.declared.term.ResolvedBinding.{ResolvedBinding}
use Rattle.mls_typetext.specs.declared.scheme.ReadScheme.{ReadScheme}
use Rattle.mls_deriv.specs.declared.derivation.Section.{Section}
use Rattle.mls_deriv.specs.declared.derivation.SectionLine.{SectionLine}
use Rattle.mls_deriv.specs.declared.derivation.StepLine.{StepLine}
use Rattle.mls_deriv.specs.declared.walk.Checked.{Checked}
use Rattle.mls_deriv.specs.declared.walk.Checked.TheVariants.{Allowed, Refused}
use Rattle.mls_deriv.specs.declared.verify.Verified.{Verified}
use Rattle.mls_deriv.specs.declared.verify.Verified.TheVariants.{Yes, No}
use Rattle.mls_deriv.specs.Sections.{AreAllowed, HasRefused, steps_of, IsSectionAllowed, HasRefusedStep, IsHeadRead}
use Rattle.mls_deriv.specs.Sections.{AreSectionsAllowed, HasFirstRefused}
use Rattle.mls_deriv.specs.Steps.{Before, IsRising}

-- behind these steps and let lines
abbrev pub behind : Before → List StepLine → List (ℕ × ℕ) → Before
behind b steps lets = record b { steps = steps; lets = lets }

-- the lines up to these are allowed, and gave these steps and lets
pub record HasCome (b : Before) (lines rest : List SectionLine) (steps : List StepLine) (let_of : ℕ
    → Option ℕ) : Type 0 where
  pub given : List (ℕ × ℕ)
  pub lets_are : (k : ℕ) → let_of k ≡ env.find nat_cmp k given
  pub rising : (n : ℕ) (s : StepLine) → slice_get steps n ≡ Some s → IsRising s.env
  pub so_far : steps ++ steps_of rest ≡ steps_of lines
  pub allowed : AreAllowed (behind b steps given) rest → AreAllowed b lines
  pub refused : (n r : ℕ) → HasRefused (behind b steps given) (n + length steps) rest r → HasRefused b n lines r

-- all lines are allowed and have these steps, or the first step behind these is not
abbrev pub AreChecked : Before → List SectionLine → List StepLine → Bool → Type 0
AreChecked b lines steps true = AreAllowed b lines × (steps ≡ steps_of lines)
AreChecked b lines steps false = (n : ℕ) → HasRefused b n lines (n + length steps)

-- the check has come to these lines, or it has stopped
abbrev pub GoesOn : Before → (lines rest : List SectionLine) → List StepLine → (ℕ → Option ℕ) → Bool → Type 0
GoesOn b lines rest steps let_of true = HasCome b lines rest steps let_of
GoesOn b lines rest steps let_of false = AreChecked b lines steps false

-- the section is allowed and counts so many steps, or this is the first that is not
abbrev pub IsChecked : List Scheme → ResolvedBinding → Section → ReadScheme → Checked → Type 0
IsChecked globals binding section read (Allowed count) =
    IsSectionAllowed globals binding section read × (count ≡ length (steps_of section.lines))
IsChecked globals binding section read (Refused count) = (n : ℕ) → HasRefusedStep globals n binding section (n + count)

-- the head of the section is read as this, or is not read
abbrev pub IsHead : Section → Option ReadScheme → Type 0
IsHead section (Some read) = IsHeadRead section read
IsHead section None = (read : ReadScheme) → IsHeadRead section read → ⊥

-- all sections are allowed, or the first step that is not has this number
abbrev pub IsFound : List ReadScheme → List ResolvedBinding → List Section → Verified → Type 0
IsFound known bindings sections Yes = AreSectionsAllowed known bindings sections
IsFound known bindings sections (No n) = HasFirstRefused known 0 bindings sections n

-- the sections up to these are allowed, whose types were read as these, and they have so many steps and ends
pub record HavePassed (known earlier : List ReadScheme) (count : ℕ) (bindings rest : List ResolvedBinding)
    (sections others : List Section) : Type 0 where
  pub allowed : AreSectionsAllowed (known ++ earlier) rest others → AreSectionsAllowed known bindings sections
  pub refused : (r : ℕ) → HasFirstRefused (known ++ earlier) count rest others r
      → HasFirstRefused known 0 bindings sections r
