-- The books of some types, computed.
use Rattle.std.proofs.Common.{◌≡◌, true, [], ◌∷◌, refl, codes}
use Rattle.mls_book.specs.declared.book.Node.TheVariants as node
use Rattle.mls_typetext.specs.Trees.{TypeTree, a_name, a_bool, an_int, an_arrow, a_record, a_join, a_rec, no_field, a_field}
use Rattle.mls_typetext.specs.Faults.{faults}
use Rattle.mls_typetext.specs.Books.{type_of, book_of, id, here, under, under_fields, stands, placed, field_nodes, layer, below, below_fields}

-- a -> a
abbrev pub identity : TypeTree
identity = an_arrow (a_name 0 (codes "a")) (a_name 5 (codes "a"))

-- rec a. {l: a | int}
abbrev pub lists : TypeTree
lists = a_rec (codes "a") (a_record (a_field 8 (codes "l") (a_join (a_name 11 (codes "a")) 13 an_int) no_field))

-- {l: {m: int}, n: bool}
abbrev pub nested : TypeTree
nested = a_record (a_field 1 (codes "l") (a_record (a_field 5 (codes "m") an_int no_field)) (a_field 14 (codes "n") a_bool no_field))

pub identity-book : book_of (type_of identity) ≡ node.Arrow (id 1) (id 2) ∷ node.Var 0 ∷ node.Var 0 ∷ []
unfolding book_of here under under_fields stands placed field_nodes layer below below_fields
identity-book = refl

pub lists-book : book_of (type_of lists) ≡ node.Rcd (record { label = codes "l"; node = id 2 } ∷ []) ∷ node.Int ∷ node.Join (id 0) (id 1) ∷ []
unfolding book_of here under under_fields stands placed field_nodes layer below below_fields
lists-book = refl

pub nested-book : book_of (type_of nested) ≡ node.Rcd (record { label = codes "l"; node = id 1 } ∷ record { label = codes "n"; node = id 3 } ∷ []) ∷ node.Rcd (record { label = codes "m"; node = id 2 } ∷ []) ∷ node.Int ∷ node.Bool ∷ []
unfolding book_of here under under_fields stands placed field_nodes layer below below_fields
nested-book = refl

pub lists-faults : faults true [] 0 lists ≡ []
lists-faults = refl
