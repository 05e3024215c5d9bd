use Rattle.mls_emit.proofs.AddedParts.{places_low, two_closed}
use Rattle.mls_emit.proofs.KnownNames.{read_type}
use Rattle.mls_typenodes.proofs.UsedTops.{whole_laid}
use Rattle.std.proofs.Common.{List, [], ◌∷◌, ◌++◌, subst, sym}
use Rattle.mls_book.specs.declared.book.Node.{Node}
use Rattle.mls_book.specs.Books.{IsClosedBook}
use Rattle.mls_book.specs.declared.book.Node.TheVariants as node
use Rattle.mls_lines.proofs.Growing.{longer_then}
use Rattle.mls_emit.proofs.derive.section.Draft.whole_type.Goals as goal

-- a type without binders
pub returns-clause-separate : goal.returns-clause-separate
returns-clause-separate c = (read_type c.in_ok-scheme.scheme c.in_ok-scheme.ensures.scheme c.in_ok-scheme.ensures.env).separate

-- the type that was read
pub returns-clause-whole : goal.returns-clause-whole
returns-clause-whole c = record {
  is = c.in_ok-scheme.ensures.scheme;
  free = c.in_ok-scheme.ensures.env;
  from = c.in_ok-scheme.ensures.book;
  equivalent = c.in_ok-scheme.ensures.equivalent;
  closed = λ closed.
      subst IsClosedBook (sym c.in_ok-top.ensures.ok)
      (subst (λ (book : List Node). IsClosedBook (book ++ node.Top ∷ [])) (sym c.in_ok-bot.ensures.ok) (two_closed c.args.self.now.book closed));
  laid =
      whole_laid c.args.read.now c.in_ok-scheme.scheme c.in_ok-scheme.ensures.book c.in_ok-scheme.ensures.scheme c.read_sets.ensures c.args.self.now.book c.push.new.self c.push-2.new.self c.in_ok-bot.bot.0 c.in_ok-top.top.0
      c.in_ok-bot.ensures.ok c.in_ok-bot.ensures.number c.in_ok-top.ensures.ok c.in_ok-top.ensures.number c.in_ok-places.places c.in_ok-places.ensures c.requires.begins;
}

pub returns-clause-longer : goal.returns-clause-longer
returns-clause-longer c = longer_then c.args.self.now.book c.push.new.self c.push-2.new.self (node.Bot ∷ [], c.in_ok-bot.ensures.ok) (node.Top ∷ [], c.in_ok-top.ensures.ok)

-- they are nodes of the book
pub returns-clause-places : goal.returns-clause-places
returns-clause-places c =
    places_low c.args.read.now c.in_ok-scheme.scheme c.in_ok-scheme.ensures.book c.args.self.now.book c.push.new.self c.push-2.new.self c.in_ok-bot.bot.0 c.in_ok-top.top.0
    c.in_ok-bot.ensures.ok c.in_ok-bot.ensures.number c.in_ok-top.ensures.ok c.in_ok-top.ensures.number c.in_ok-places.places c.in_ok-places.ensures c.requires.begins
