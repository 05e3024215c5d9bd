-- The passes over the pieces of a type, one after the other, give what its tree is read as.
use Rattle.std.proofs.Common.{◌≡◌, true, List, [], reverse, sym, ap, ◌∙◌, subst}
use Rattle.std.proofs.lemmas.List.{reverse-reverse}
use Rattle.mls_book.specs.declared.book.Node.{Node}
use Rattle.mls_book.specs.Books.{IsBook}
use Rattle.mls_typetext.specs.declared.measure.Measured.{Measured}
use Rattle.mls_typetext.specs.declared.piece.Piece.{Piece}
use Rattle.mls_typetext.specs.declared.piece.Item.{Item}
use Rattle.mls_typetext.specs.declared.scheme.ReadScheme.{ReadScheme}
use Rattle.mls_typetext.specs.Trees.{TypeTree}
use Rattle.mls_typetext.specs.Faults.{faults}
use Rattle.mls_typetext.specs.Books.{type_of, id, book_of, root_of}
use Rattle.mls_typetext.specs.steps.Pieces.{postorder}
use Rattle.mls_typetext.specs.Texts.{read_of}
use Rattle.mls_typetext.specs.steps.NameReaders.{GivesItems}
use Rattle.mls_typetext.specs.steps.Measuring.{Measures}
use Rattle.mls_typetext.specs.steps.Laying.{AreNodesOf, stand}
use Rattle.mls_typetext.proofs.Laid.{stands-is}
use Rattle.mls_typetext.proofs.ReadLaws.{read_of-closed}

module _ (pieces : List Piece) (found : List Item) (m : Measured) (nodes : List Node)
    (gives : GivesItems pieces found) (measures : Measures found m) (laid : AreNodesOf m.members.items m.size nodes)
    (t : TypeTree) (told : pieces ≡ postorder t) where
  clean : faults true [] 0 t ≡ []
  clean = (gives t told).0

  book_is : reverse nodes ≡ book_of (type_of t)
  book_is =
      let it = measures t (gives t told).1 in
      ap reverse (laid (type_of t) it.pieces it.whole) ∙ reverse-reverse (book_of (type_of t))

  -- the nodes are those of a book,
  pub nodes_are_book : IsBook (reverse nodes)
  nodes_are_book = subst IsBook (sym book_is) (read_of-closed t clean).book.book

  -- and what is made of them is what the tree is read as
  pub is_read_of : (r : ReadScheme) → r.book ≡ reverse nodes → r.root ≡ id (stand 0 [] m.size) → r.vars ≡ m.vars → (faults true [] 0 t ≡ []) × (r ≡ read_of t)
  unfolding root_of
  is_read_of r book root vars =
      let it = measures t (gives t told).1 in
      let where_root : r.root ≡ (read_of t).root = root ∙ (ap (λ size. id (stand 0 [] size)) it.whole ∙ ap id (sym (stands-is 0 [] (type_of t)))) in
      (clean, λ i. record { book = (book ∙ book_is) i; root = where_root i; vars = (vars ∙ it.count) i })
