use Rattle.std.proofs.Common.{[], ◌∷◌}
use Rattle.mls_book.specs.declared.book.Node.TheVariants as node
use Rattle.mls_lines.proofs.Lengthening.{lengthens_book, lengthens_itself}
use Rattle.mls_lines.proofs.writer.Writer.greatest.Goals as goal

pub returns : goal.returns
returns c = lengthens_book c.args.self.now.laid c.push.new.self (node.Top ∷ [], c.in_ok-top.ensures.ok)

pub returns-in-Some : goal.returns-in-Some
returns-in-Some c = lengthens_itself c.args.self.now.laid
