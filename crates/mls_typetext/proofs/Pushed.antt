-- The nodes of a book can be pushed one after another.
use Rattle.std.proofs.Common.{◌≡◌, List, [], ◌∷◌, ◌++◌, length, reverse, sym, ap, ◌∙◌, subst}
use Rattle.std.proofs.Math.Seq.{get_or-append_seam}
use Rattle.std.proofs.lemmas.List.{reverse-append}
use Rattle.mls_book.specs.declared.book.Node.{Node}
use Rattle.mls_book.specs.declared.book.Node.TheVariants.{Bot}
use Rattle.mls_book.specs.Books.{IsBook, IsOrdered, node_at}

next_is : (all book left rest : List Node) (node : Node) → book ++ reverse left ≡ all → left ≡ rest ++ node ∷ [] → book ++ node ∷ reverse rest ≡ all
next_is all book left rest node e last = ap (λ nodes. book ++ nodes) (sym (ap reverse last ∙ reverse-append rest (node ∷ []))) ∙ e

pub next_ordered : (all book left rest : List Node) (node : Node) → IsBook all → book ++ reverse left ≡ all → left ≡ rest ++ node ∷ [] → IsOrdered (length book) node
next_ordered all book left rest node is e last =
    let at : node_at all (length book) ≡ node = ap (λ nodes. node_at nodes (length book)) (sym (next_is all book left rest node e last)) ∙ get_or-append_seam book node (reverse rest) Bot in
    subst (IsOrdered (length book)) at (is (length book))
