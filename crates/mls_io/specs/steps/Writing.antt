-- What the writing to standard output does.
use Rattle.std.specs.Prelude.{◌≡◌, ℕ, List, ◌++◌, Option}
use Rattle.std.specs.Io.KnownBytes.{Appends}

-- known bytes grow by a part of the piece from its start
pub record AppendsPart (old new : Option (List ℕ)) (piece : List ℕ) : Type 0 where
  pub taken : List ℕ
  pub left : List ℕ
  pub parts : piece ≡ taken ++ left
  pub adds : Appends old new taken
