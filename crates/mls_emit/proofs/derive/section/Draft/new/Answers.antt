use Rattle.std.proofs.Common.{◌∙◌, List, ap, length, subst, sym}
use Rattle.mls_book.specs.declared.book.Node.{Node}
use Rattle.mls_deriv.specs.Steps.{HasFrom}
use Rattle.mls_book.specs.Books.{IsClosedBook}
use Rattle.mls_emit.proofs.PlainSections.{nothing_closed}
use Rattle.mls_emit.proofs.derive.section.Draft.new.Goals as goal

pub returns-clause-begins : goal.returns-clause-begins
returns-clause-begins c = record {
  lines = c.new.ensures.lines;
  count = c.new.ensures.count;
  lets = c.new-2.ensures.empty;
  firsts = c.new-4.ensures.empty;
  from = subst (λ n. HasFrom c.push_book.new.book n c.args.read.now.book) (c.in_ok-push_book.ensures.first ∙ ap (λ (book : List Node). length book) c.new-book.ensures) c.in_ok-push_book.ensures.from;
}

-- the book of the type alone is closed
pub returns-clause-closed : goal.returns-clause-closed
returns-clause-closed c = c.in_ok-push_book.ensures.closed (subst IsClosedBook (sym c.new-book.ensures) nothing_closed) c.requires.0.book
