-- What holds of the texts of derivations.
use Rattle.std.specs.Prelude.{◌≡◌, ℕ, List}
use Rattle.mls_book.specs.declared.book.Node.{Node}
use Rattle.mls_deriv.specs.declared.derivation.Derivation.{Derivation}
use Rattle.mls_deriv.specs.declared.derivation.SectionLine.{SectionLine}
use Rattle.mls_deriv.specs.Spellings.{line_text, node_line}
use Rattle.mls_deriv.specs.Forms.{IsLineForm, IsNodeForm}
use Rattle.mls_deriv.specs.Texts.{IsTextOf}
use Rattle.mls_deriv.specs.BadLines.{IsFirstBadLine}

-- bytes are the spelling of one line at most, of those behind the nodes of a section
abbrev pub OneLine : Type 0
OneLine = (l other : SectionLine) → IsLineForm l → IsLineForm other → line_text l ≡ line_text other → l ≡ other

-- and of one node at most
abbrev pub OneNode : Type 0
OneNode = (n other : Node) → IsNodeForm n → IsNodeForm other → node_line n ≡ node_line other → n ≡ other

-- a text is that of one derivation at most
abbrev pub OneDerivation : Type 0
OneDerivation = (text : List ℕ) (d other : Derivation) → IsTextOf text d → IsTextOf text other → d ≡ other

-- a text has one first bad line at most, and none if it is that of a derivation
pub record HasOneReading (text : List ℕ) : Type 0 where
  pub not_both : (d : Derivation) (n : ℕ) → IsTextOf text d → IsFirstBadLine text n → ⊥
  pub one_bad : (n m : ℕ) → IsFirstBadLine text n → IsFirstBadLine text m → n ≡ m

abbrev pub OneReading : Type 0
OneReading = (text : List ℕ) → HasOneReading text
