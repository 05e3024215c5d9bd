use Rattle.std.proofs.Common.{◌≡◌, ◌∙◌, ◌+◌, ℕ, List, length, subst, arith}
use Rattle.mls_book.specs.declared.book.Node.{Node}
use Rattle.mls_book.specs.Books.{IsClosedBook}
use Rattle.mls_layout.specs.LaidOut.{IsLonger, IsTypeLaidOut, place_of}
use Rattle.mls_allowed.specs.MadeFirsts.{IsFirstType}
use Rattle.mls_emit.proofs.derive.section.Draft.first_type.Goals as goal

-- the type that `first_type_of` gives
pub returns-clause-first : goal.returns-clause-first
returns-clause-first c =
    subst (λ (binders : List (ℕ × ℕ)). IsFirstType c.args.solution.now.automaton c.args.root binders c.in_ok-scheme.scheme) (c.as_slice.ensures.value ∙ c.in_ok-states.ensures)
    (record {
      is = c.in_ok-scheme.ensures.scheme;
      single = c.in_ok-scheme.ensures.deterministic;
      all = c.in_ok-scheme.ensures.all;
      same = c.in_ok-scheme.ensures.binders;
      subsumes = c.in_ok-scheme.ensures.subsumes;
      subsumed = c.in_ok-scheme.ensures.subsumed;
    })

-- the nodes of the type stand behind those that are there
pub returns-clause-longer : goal.returns-clause-longer
returns-clause-longer c = subst (λ (book : List Node). IsLonger book c.in_ok-laid.laid.book) c.replace_book-book.ensures c.in_ok-laid.ensures.longer

-- what `lay_out_type` says of the book that was taken out
pub returns-clause-laid : goal.returns-clause-laid
returns-clause-laid c = record {
  closed = subst (λ (book : List Node). IsClosedBook book → IsClosedBook c.in_ok-laid.laid.book) c.replace_book-book.ensures c.in_ok-laid.ensures.closed;
  inside = c.in_ok-laid.ensures.places;
  layout =
      subst (λ (book : List Node). IsClosedBook book → IsTypeLaidOut book c.in_ok-scheme.scheme.automaton c.args.self.now.variable c.in_ok-laid.laid.book (place_of c.in_ok-laid.laid.places)) c.replace_book-book.ensures
      c.in_ok-laid.ensures.layout;
  variables = c.in_ok-laid.ensures.variables;
}

-- the variables of the type come behind those before
pub returns-clause-variable : goal.returns-clause-variable
returns-clause-variable c =
    let next : c.in_ok-laid.laid.variables ≡ c.args.self.now.variable + length c.in_ok-scheme.scheme.automaton.flows = c.in_ok-laid.ensures.variables in
    omega (arith, next)
