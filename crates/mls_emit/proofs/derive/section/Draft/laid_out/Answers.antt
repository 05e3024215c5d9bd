use Rattle.std.proofs.Common.{IfOk, List, length, subst, sym}
use Rattle.std.proofs.lemmas.Result.{IfOk-weaker}
use Rattle.mls_book.specs.declared.book.Node.{Node}
use Rattle.mls_book.specs.Books.{IsClosedBook}
use Rattle.mls_automaton.specs.declared.scheme.EnvEntry.{EnvEntry}
use Rattle.mls_subsume.specs.declared.verdict.StatePair.{StatePair}
use Rattle.mls_layout.specs.LaidOut.{place_of, IsLonger, LaysOut}
use Rattle.mls_layout.specs.Walks.{AreMet}
use Rattle.mls_lines.specs.PlainLines.{HaveLowPlaces}
use Rattle.mls_allowed.specs.MadeFirsts.{IsPartLaidOut}
use Rattle.mls_emit.proofs.derive.section.Draft.laid_out.Goals as goal

-- the places are nodes of the book that was taken out
pub lay_out-requires-clause-places : goal.lay_out-requires-clause-places
lay_out-requires-clause-places c = subst (λ (book : List Node). HaveLowPlaces (length book) c.args.at.now.places) (sym c.replace_book-book.ensures) c.requires.places

-- the pairs that `walk_of` answers, and what `lay_out` says of them
pub returns-clause-laid : goal.returns-clause-laid
returns-clause-laid c =
    IfOk-weaker c.lay_out.result
    (λ laid. IsClosedBook c.replace_book-book.result → LaysOut c.replace_book-book.result c.args.posing.now.automaton c.args.solution.found c.as_slice.result.now (place_of c.args.at.now.places) laid.book (place_of laid.places) laid.own laid.boolean laid.integer)
    (IsPartLaidOut c.args.self.now.book c.args.posing.now c.args.solution c.args.root c.args.around.now c.args.at.now.scheme c.args.at.now.places)
    (λ laid (is : IsClosedBook c.replace_book-book.result → LaysOut c.replace_book-book.result c.args.posing.now.automaton c.args.solution.found c.as_slice.result.now (place_of c.args.at.now.places) laid.book (place_of laid.places) laid.own laid.boolean laid.integer). record {
      pairs = c.in_ok-pairs.pairs;
      met = subst (λ (env : List EnvEntry). AreMet (record { automaton = c.args.solution.automaton; env = env; root = record { 0 = c.args.root } }) c.args.at.now.scheme c.in_ok-pairs.pairs) c.in_ok-env_of.ensures c.in_ok-pairs.ensures.met;
      nodes = subst (λ (book : List Node). IsClosedBook book → LaysOut book c.args.posing.now.automaton c.args.solution.found c.in_ok-pairs.pairs (place_of c.args.at.now.places) laid.book (place_of laid.places) laid.own laid.boolean laid.integer) c.replace_book-book.ensures
          (subst (λ (pairs : List StatePair). IsClosedBook c.replace_book-book.result → LaysOut c.replace_book-book.result c.args.posing.now.automaton c.args.solution.found pairs (place_of c.args.at.now.places) laid.book (place_of laid.places) laid.own laid.boolean laid.integer) c.as_slice.ensures is);
    })
    c.lay_out.ensures.laid

pub returns-clause-longer : goal.returns-clause-longer
returns-clause-longer c = subst (λ (book : List Node). IfOk c.lay_out.result (λ laid. IsLonger book laid.book)) c.replace_book-book.ensures c.lay_out.ensures.longer
