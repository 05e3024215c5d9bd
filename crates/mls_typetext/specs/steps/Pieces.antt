-- A tree as the list of its pieces, where each stands behind its parts.
use Rattle.std.specs.Prelude.{List, [], ◌∷◌, ◌++◌}
use Rattle.mls_typetext.specs.declared.piece.Piece.{Piece}
use Rattle.mls_typetext.specs.declared.piece.Piece.TheVariants as piece
use Rattle.mls_typetext.specs.Trees.{TypeTree, a_name, a_bool, an_int, a_top, a_bot, an_arrow, a_record, a_join, a_meet}
use Rattle.mls_typetext.specs.Trees.{a_rec, TypeFields, no_field, a_field}

-- the pieces of a tree
abbrev mutual
  pub postorder : TypeTree → List Piece
  postorder (a_name at x) = piece.Name at x ∷ []
  postorder a_bool = piece.Bool ∷ []
  postorder an_int = piece.Int ∷ []
  postorder (a_top at) = piece.Top at ∷ []
  postorder (a_bot at) = piece.Bot at ∷ []
  postorder (an_arrow from to) = postorder from ++ (postorder to ++ piece.Arrow ∷ [])
  postorder (a_record all) = field_postorder all ++ piece.Record ∷ []
  postorder (a_join left at right) = postorder left ++ (postorder right ++ piece.Join at ∷ [])
  postorder (a_meet left at right) = postorder left ++ (postorder right ++ piece.Meet at ∷ [])
  postorder (a_rec x t) = postorder t ++ piece.Rec x ∷ []

  pub field_postorder : TypeFields → List Piece
  field_postorder no_field = piece.Last ∷ []
  field_postorder (a_field at label t rest) = postorder t ++ (field_postorder rest ++ piece.Field at label ∷ [])
