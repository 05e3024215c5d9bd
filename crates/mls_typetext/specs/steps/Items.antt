-- The pieces of a tree whose recursive names are replaced by numbers.
use Rattle.std.specs.Prelude.{ℕ, List, [], ◌∷◌, ◌++◌, if◌then◌else◌}
use Rattle.mls_typetext.specs.declared.piece.Item.{Item}
use Rattle.mls_typetext.specs.declared.piece.Item.TheVariants as item
use Rattle.mls_typetext.specs.Trees.{TypeTree, a_name, a_bool, an_int, a_top, a_bot, an_arrow, a_record, a_join, a_meet}
use Rattle.mls_typetext.specs.Trees.{a_rec, TypeFields, no_field, a_field}
use Rattle.mls_typetext.specs.Books.{is_in, place_in}

-- where these names are those of the `rec`s around the tree, the nearest first; a piece stands behind its parts
abbrev mutual
  pub items : (recs : List (List ℕ)) → TypeTree → List Item
  items recs (a_name at x) = (if is_in recs x then item.Again (place_in recs x) else item.Variable x) ∷ []
  items recs a_bool = item.Bool ∷ []
  items recs an_int = item.Int ∷ []
  items recs (a_top at) = item.Top ∷ []
  items recs (a_bot at) = item.Bot ∷ []
  items recs (an_arrow from to) = items recs from ++ (items recs to ++ item.Arrow ∷ [])
  items recs (a_record all) = field_items recs all ++ item.Record ∷ []
  items recs (a_join left at right) = items recs left ++ (items recs right ++ item.Join ∷ [])
  items recs (a_meet left at right) = items recs left ++ (items recs right ++ item.Meet ∷ [])
  items recs (a_rec x t) = items (x ∷ recs) t ++ item.Rec ∷ []

  pub field_items : (recs : List (List ℕ)) → TypeFields → List Item
  field_items recs no_field = item.Last ∷ []
  field_items recs (a_field at label t rest) = items recs t ++ (field_items recs rest ++ item.Field label ∷ [])
