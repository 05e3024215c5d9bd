-- The pieces of a type with the sizes of their parts.
use Rattle.std.specs.Prelude.{ℕ, zero, suc, List, [], ◌∷◌, ◌++◌, Option, Some, None}
use Rattle.mls_typetext.specs.declared.piece.Size.{Size}
use Rattle.mls_typetext.specs.declared.piece.Member.{Member}
use Rattle.mls_typetext.specs.declared.piece.Member.TheVariants as member
use Rattle.mls_typetext.specs.Books.{Ty, var, again, boolean, integer, top, bot, arrow, join, meet, fields, rec}
use Rattle.mls_typetext.specs.Books.{TyFields, none, one, here, under}

-- the `rec` around a type for whose node it stands, where it has none of its own, counted from the nearest; a `rec`
-- that stands for its own node alone has none
abbrev pub outer : Option ℕ → Option ℕ
outer None = None
outer (Some zero) = None
outer (Some (suc k)) = Some k

abbrev pub stands_for : Ty → Option ℕ
stands_for (again k) = Some k
stands_for (rec a) = outer (stands_for a)
stands_for _ = None

abbrev pub size_of : Ty → Size
size_of a = record { here = here a; under = under a; again = stands_for a }

-- a piece stands behind its parts
abbrev mutual
  pub members : Ty → List Member
  members (var x) = member.Var x ∷ []
  members (again k) = member.Again k ∷ []
  members boolean = member.Bool ∷ []
  members integer = member.Int ∷ []
  members top = member.Top ∷ []
  members bot = member.Bot ∷ []
  members (arrow a b) = members a ++ (members b ++ member.Arrow (size_of a) (size_of b) ∷ [])
  members (join a b) = members a ++ (members b ++ member.Join (size_of a) (size_of b) ∷ [])
  members (meet a b) = members a ++ (members b ++ member.Meet (size_of a) (size_of b) ∷ [])
  members (fields all) = field_members all ++ member.Record ∷ []
  members (rec a) = members a ++ member.Rec (size_of a) ∷ []

  pub field_members : TyFields → List Member
  field_members none = member.Last ∷ []
  field_members (one label a rest) = members a ++ (field_members rest ++ member.Field label (size_of a) ∷ [])
