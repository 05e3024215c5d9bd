-- What the parts of a text of a derivation are read as.
use Rattle.std.specs.Prelude.{◌≡◌, ◌≢◌, ℕ, ◌<◌, ◌≤◌, List, ◌++◌, length, codes, All, Option, Some, None}
use Rattle.std.specs.Borrow.{Bor}
use Rattle.std.specs.List.{flat_map}
use Rattle.mls_base.specs.Spelling.{IsName}
use Rattle.mls_book.specs.declared.book.Node.{Node}
use Rattle.mls_typetext.specs.declared.scheme.ReadScheme.{ReadScheme}
use Rattle.mls_typetext.specs.Texts.{IsTypeText}
use Rattle.mls_book.specs.declared.book.Node.TheVariants.{Rcd}
use Rattle.mls_book.specs.Books.{AreRising}
use Rattle.mls_deriv.specs.declared.derivation.SectionLine.{SectionLine}
use Rattle.mls_deriv.specs.declared.derivation.SectionLine.TheVariants.{Step}
use Rattle.mls_deriv.specs.declared.section.Head.{Head}
use Rattle.mls_deriv.specs.declared.section.SectionRead.{SectionRead}
use Rattle.mls_deriv.specs.declared.section.SectionRead.TheVariants.{Bad, Good}
use Rattle.mls_deriv.specs.Steps.{IsRising}
use Rattle.mls_deriv.specs.Spellings.{node_words, node_line, line_words, section_text}
use Rattle.mls_deriv.specs.Forms.{IsNodeForm, IsLineForm}
use Rattle.mls_deriv.specs.Texts.{IsOneLine, IsSectionForm}
use Rattle.mls_deriv.specs.BadLines.{Begins, val_line, Fits, IsBadSection}

-- the line is that of the node, or of none
abbrev pub IsNodeRead : List ℕ → Option Node → Type 0
IsNodeRead line (Some n) = IsNodeForm n × (line ≡ codes "node" ++ node_words n)
IsNodeRead line None = (n : Node) → IsNodeForm n → line ≡ codes "node" ++ node_words n → ⊥

-- the line is this one of those behind the nodes, or none
abbrev pub IsLineRead : List ℕ → Option SectionLine → Type 0
IsLineRead line (Some l) = IsLineForm l × (line ≡ line_words l)
IsLineRead line None = (l : SectionLine) → IsLineForm l → line ≡ line_words l → ⊥

-- the labels of a record rise
abbrev pub HasRising : Node → Type 0
HasRising (Rcd fields) = AreRising fields
HasRising _ = Unit {0}

-- the binders of a step rise
abbrev pub HasRisingBinders : SectionLine → Type 0
HasRisingBinders (Step step) = IsRising step.env
HasRisingBinders _ = Unit {0}

-- no byte is a space
abbrev pub IsOneWord : List ℕ → Type 0
IsOneWord bytes = All (λ byte. byte ≢ 32) bytes

-- the line is that of this name and the text of a type, or of none
abbrev pub IsNameAndType : List ℕ → Option (Bor (List ℕ) × Bor (List ℕ)) → Type 0
IsNameAndType line (Some parts) =
    IsName parts.0.now × (line ≡ codes "val " ++ parts.0.now ++ codes " : " ++ parts.1.now)
IsNameAndType line None = (name type : List ℕ) → IsName name → line ≡ codes "val " ++ name ++ codes " : " ++ type → ⊥

-- the text is a type that is read as this, or no type
abbrev pub IsTypeFound : List ℕ → Option ReadScheme → Type 0
IsTypeFound text (Some read) = IsTypeText text read
IsTypeFound text None = (read : ReadScheme) → IsTypeText text read → ⊥

-- the text goes on with the line of a name and a type
pub record IsHeadLine (text : List ℕ) (head : Head) : Type 0 where
  pub spelled : text ≡ val_line head.name.now head.type_text.now ++ head.rest.now
  pub is_name : IsName head.name.now
  pub one_line : IsOneLine head.type_text.now
  pub type_is : IsTypeText head.type_text.now head.read

-- it does, or it goes on with none
abbrev pub IsHeadFound : List ℕ → Option Head → Type 0
IsHeadFound text (Some head) = IsHeadLine text head
IsHeadFound text None = (name type : List ℕ) (read : ReadScheme) → IsName name → IsOneLine type → IsTypeText type read
    → Begins text (val_line name type) → ⊥

-- the text goes on with the lines of these nodes and with something that is none
pub record HasNodes (text : List ℕ) (nodes : List Node) (rest : List ℕ) : Type 0 where
  pub spelled : text ≡ flat_map node_line nodes ++ rest
  pub forms : All IsNodeForm nodes
  pub no_more : (n : Node) → IsNodeForm n → Begins rest (node_line n) → ⊥

-- the first node that does not fit, where those in front are of this book
abbrev pub IsUnfit : (front nodes : List Node) → Option ℕ → Type 0
IsUnfit front nodes None = (i : ℕ) → Fits front nodes i
IsUnfit front nodes (Some i) =
    (i ≤ length nodes) × ((j : ℕ) → j < i → Fits front nodes j) × (Fits front nodes i → ⊥)

-- the text goes on with a section, or this is its first bad line
abbrev pub IsSectionRead : List ℕ → SectionRead → Type 0
IsSectionRead text (Bad k) = IsBadSection text k
IsSectionRead text (Good s left) = IsSectionForm s × (text ≡ section_text s ++ left.now)
