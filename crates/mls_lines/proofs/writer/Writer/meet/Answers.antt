use Rattle.std.proofs.Common.{◌≡◌, ◌∙◌, ◌∷◌, ◌++◌, [], List, refl, sym, ap, subst, rules}
use Rattle.mls_book.specs.declared.book.Node.{Node}
use Rattle.mls_book.specs.declared.book.Node.TheVariants as node
use Rattle.std.proofs.lemmas.List.Elements.{All-cons, All-nil}
use Rattle.mls_book.specs.Books.{node_at, IsClosedBook}
use Rattle.mls_layout.specs.Trees.{IsOfTree}
use Rattle.mls_layout.proofs.PartsLaidOut.{closed_with}
use Rattle.mls_layout.proofs.TreesMade.{book_pushed}
use Rattle.mls_lines.proofs.Growing.{pushed_node}
use Rattle.mls_lines.proofs.writer.Writer.meet.Goals as goal

pub returns-clause-grows : goal.returns-clause-grows
returns-clause-grows c = record {
  more = node.Meet c.args.left c.args.right ∷ [];
  book = c.in_ok-id.ensures.ok;
  closed =
      λ is.
      subst IsClosedBook (sym c.in_ok-id.ensures.ok)
      (closed_with c.args.self.now.laid.book (node.Meet c.args.left c.args.right ∷ []) is
      (book_pushed c.args.self.now.laid.book (node.Meet c.args.left c.args.right) is.book (search rules)) (All-cons IsOfTree (node.Meet c.args.left c.args.right) [] tt (All-nil IsOfTree)));
  places = refl;
  own = refl;
  boolean = refl;
  integer = refl;
  steps = refl;
  concluded = refl;
}

pub returns-clause-node : goal.returns-clause-node
returns-clause-node c =
    let old : List Node = c.args.self.now.laid.book in
    let met = node.Meet c.args.left c.args.right in
    subst (λ (book : List Node). node_at book c.in_ok-id.id.0 ≡ met) (sym c.in_ok-id.ensures.ok)
    (ap (node_at (old ++ met ∷ [])) c.in_ok-id.ensures.number ∙ pushed_node old met)
