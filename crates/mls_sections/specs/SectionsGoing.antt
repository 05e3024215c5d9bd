-- What holds of a section before its next part is written.
use Rattle.std.specs.Prelude.{length}
use Rattle.mls_book.specs.Books.{IsClosedBook}
use Rattle.mls_lines.specs.PlainLines.{HaveLowFirsts, HaveLowGlobals, HaveRisingFirsts}
use Rattle.mls_lines.specs.Stepping.{AreCounted}
use Rattle.mls_allowed.specs.SectionParts.{SoFar}

-- Its book is closed, its steps are counted, and the types of names are nodes of its book, where binders rise.
pub record CanGoOn (s : SoFar) : Type 0 where
  pub closed : IsClosedBook s.book
  pub counted : AreCounted s.steps
  pub rising : HaveRisingFirsts s.firsts
  pub low_firsts : HaveLowFirsts (length s.book) s.firsts
  pub low_globals : HaveLowGlobals (length s.book) s.globals
