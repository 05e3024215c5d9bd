-- The first line of a text that is no line of a derivation where it stands.
use Rattle.std.specs.Prelude.{◌≡◌, ◌≢◌, ℕ, ◌+◌, ◌<◌, ◌≤◌, suc, List, [], ◌++◌, length, All, codes}
use Rattle.std.specs.List.{flat_map, fold, sum_by}
use Rattle.mls_base.specs.Spelling.{IsName}
use Rattle.mls_book.specs.declared.book.Node.{Node}
use Rattle.mls_book.specs.Books.{node_at, IsOrdered, HasChildrenBelow}
use Rattle.mls_typetext.specs.declared.scheme.ReadScheme.{ReadScheme}
use Rattle.mls_typetext.specs.Texts.{IsTypeText}
use Rattle.mls_deriv.specs.declared.derivation.Section.{Section}
use Rattle.mls_deriv.specs.declared.derivation.SectionLine.{SectionLine}
use Rattle.mls_deriv.specs.declared.fault.DerivFault.{DerivFault}
use Rattle.mls_deriv.specs.declared.fault.DerivFault.TheVariants.{BadLine, Memory}
use Rattle.mls_deriv.specs.Spellings.{node_line, line_text, section_text}
use Rattle.mls_deriv.specs.Forms.{IsNodeForm, IsLineForm}
use Rattle.mls_deriv.specs.Texts.{IsOneLine, Given, none_given, after, Stands, AllStand, IsSectionForm}

-- the text begins with the piece
abbrev pub Begins : (text piece : List ℕ) → Type 0
Begins text piece = (rest : List ℕ) × (text ≡ piece ++ rest)

-- the line of a name and a type
abbrev pub val_line : (name type : List ℕ) → List ℕ
val_line name type = codes "val " ++ name ++ codes " : " ++ type ++ codes "\n"

-- The text goes on with the line of a name and a type, the lines of these nodes, and something that is no line of a
-- node. The type is read as this.
pub record HasHead (text : List ℕ) (read : ReadScheme) (nodes : List Node) (rest : List ℕ) : Type 0 where
  pub name : List ℕ
  pub type : List ℕ
  pub spelled : text ≡ val_line name type ++ (flat_map node_line nodes ++ rest)
  pub is_name : IsName name
  pub one_line : IsOneLine type
  pub type_is : IsTypeText type read
  pub forms : All IsNodeForm nodes
  pub no_more : (n : Node) → IsNodeForm n → Begins rest (node_line n) → ⊥

-- Among these nodes, node i is as a book demands, its children are there, and it is the same as in the book in front.
-- If there are not so many nodes, then the book in front has no more either.
pub record Fits (front nodes : List Node) (i : ℕ) : Type 0 where
  pub there : i < length front → i < length nodes
  pub same : i < length front → node_at nodes i ≡ node_at front i
  pub ordered : IsOrdered i (node_at nodes i)
  pub below : HasChildrenBelow (length nodes) (node_at nodes i)

-- what lines have given
abbrev pub given_by : Given → List SectionLine → Given
given_by = fold after

-- Behind so many nodes, the text goes on with these lines and with something that is no line which may stand there.
pub record HasLines (nodes : ℕ) (text : List ℕ) (lines : List SectionLine) (rest : List ℕ) : Type 0 where
  pub spelled : text ≡ flat_map line_text lines ++ rest
  pub forms : All IsLineForm lines
  pub stand : AllStand nodes none_given lines
  pub no_more : (l : SectionLine) → IsLineForm l → Stands nodes (given_by none_given lines) l
      → Begins rest (line_text l) → ⊥

-- The text does not go on with a section, and this is the first bad line, where lines are counted from 0:
-- that of the name and the type; that of the first node that does not fit, or what stands where a node is missing; or
-- what stands behind the last line that may stand there.
pub data IsBadSection (text : List ℕ) : ℕ → Type 0 where
  bad_val : ((name type : List ℕ) (read : ReadScheme) → IsName name → IsOneLine type → IsTypeText type read
      → Begins text (val_line name type) → ⊥)
      → IsBadSection text 0
  bad_node : (read : ReadScheme) (nodes : List Node) (rest : List ℕ) (i : ℕ) → HasHead text read nodes rest
      → i ≤ length nodes → ((j : ℕ) → j < i → Fits read.book nodes j) → (Fits read.book nodes i → ⊥)
      → IsBadSection text (suc i)
  bad_line : (read : ReadScheme) (nodes : List Node) (rest : List ℕ) (lines : List SectionLine) (left : List ℕ)
      → HasHead text read nodes rest → ((i : ℕ) → Fits read.book nodes i) → HasLines (length nodes) rest lines left
      → (Begins left (codes "end\n") → ⊥)
      → IsBadSection text (suc (length nodes + length lines))

-- how many lines a section has
abbrev pub line_count : Section → ℕ
line_count s = 2 + (length s.nodes + length s.lines)

-- This line of the text, counted from 1, is the first bad one: the first line is no head, or behind the head and some
-- sections there is more text that does not go on with a section. Where a text ends early it is the line behind the
-- last.
pub data IsFirstBadLine (text : List ℕ) : ℕ → Type 0 where
  no_head : (Begins text (codes "derivation 1\n") → ⊥) → IsFirstBadLine text 1
  in_section : (sections : List Section) (rest : List ℕ) (k : ℕ) → All IsSectionForm sections → rest ≢ []
      → text ≡ codes "derivation 1\n" ++ (flat_map section_text sections ++ rest)
      → IsBadSection rest k
      → IsFirstBadLine text (2 + (sum_by line_count sections + k))

-- what a fault says of a text
abbrev pub IsDerivFault : List ℕ → DerivFault → Type 0
IsDerivFault text (BadLine n) = IsFirstBadLine text n
IsDerivFault text Memory = Unit {0}
