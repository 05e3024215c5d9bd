use Rattle.std.proofs.Common.{ap, ◌∙◌, refl}
use Rattle.mls_typetext.specs.Books.{id}
use Rattle.mls_typetext.proofs.SchemesRead.{nodes_are_book, is_read_of}
use Rattle.mls_typetext.proofs.from_text.scheme_of.Goals as goal

pub bind-requires : goal.bind-requires
bind-requires c =
    nodes_are_book c.in_ok-pieces.pieces.items c.in_ok-items.items.items c.in_ok-members.field-0 c.in_ok-nodes.nodes.items
    c.in_ok-items.ensures.items c.in_ok-members.ensures c.in_ok-nodes.ensures
    c.requires.is_type.0 (c.in_ok-pieces.ensures ∙ c.requires.is_type.1)

pub returns-clause-read : goal.returns-clause-read
returns-clause-read c = λ t told.
    is_read_of c.in_ok-pieces.pieces.items c.in_ok-items.items.items c.in_ok-members.field-0 c.in_ok-nodes.nodes.items
    c.in_ok-items.ensures.items c.in_ok-members.ensures c.in_ok-nodes.ensures
    t (c.in_ok-pieces.ensures ∙ told)
    (record { book = c.in_ok-book.book; root = id c.root_of.result; vars = c.in_ok-members.field-0.vars })
    c.in_ok-book.ensures (ap id c.root_of.ensures) refl
