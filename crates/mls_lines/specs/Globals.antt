-- Where the types of the names of the environment stand in the book of a section.
use Rattle.std.specs.Prelude.{◌≡◌, ◌+◌, List}
use Rattle.mls_book.specs.declared.book.Node.{Node}
use Rattle.mls_typetext.specs.declared.scheme.ReadScheme.{ReadScheme}
use Rattle.mls_deriv.specs.Steps.{HasFrom}
use Rattle.mls_lines.specs.declared.known.GlobalAt.{GlobalAt}
use Rattle.mls_lines.specs.Showing.{ShowTops}

-- The nodes of what a name is read as stand in the book, from the first one of its place on, with its root; and it is
-- known of the name how many variables it has, and which negative tops show each of them.
pub record IsGlobalAt (book : List Node) (read : ReadScheme) (global : GlobalAt) : Type 0 where
  pub from : HasFrom book global.first read.book
  pub root : global.root.0 ≡ global.first + read.root.0
  pub variables : global.variables ≡ read.vars
  pub showing : ShowTops read.book read.root.0 global.showing
