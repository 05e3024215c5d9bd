use Rattle.std.proofs.Common.{◌≡◌, ◌+◌, ◌*◌, List, ℕ, length, refl, sym, subst, ap, ◌∙◌}
use Rattle.mls_book.specs.Books.{IsBook}
use Rattle.mls_automaton.specs.steps.BookParts.{AreStates, IsLaid}
use Rattle.mls_automaton.proofs.BookLoops.{laid}
use Rattle.mls_automaton.proofs.LaidBooks.{laid_scheme}
use Rattle.mls_automaton.proofs.scheme_book.book_of.Goals as goal

pub returns : goal.returns
returns c =
    let is-sets : c.in_ok-sets.sets ≡ c.len-first.result + 8 * c.len.result = c.in_ok-sets.ensures ∙ ap (λ k. c.len-first.result + k) c.in_ok-product.ensures in
    let states : AreStates c.args.scheme.now.automaton c.in_ok-edges.edges.items c.len-first.result c.in_ok-sets.sets (length c.args.scheme.now.automaton.states) c.push_states.new.book =
    subst (λ (edges : List ℕ). AreStates c.args.scheme.now.automaton edges c.len-first.result c.in_ok-sets.sets (length c.args.scheme.now.automaton.states) c.push_states.new.book) c.as_slice.ensures.value
    (subst (λ n. AreStates c.args.scheme.now.automaton c.as_slice.result.now n c.in_ok-sets.sets (length c.args.scheme.now.automaton.states) c.push_states.new.book) (sym c.len-first.ensures.len) c.in_ok-push_states.ensures.states) in
    let whole : IsLaid c.args.scheme.now.automaton c.len-first.result c.push_sets.new.book =
    laid c.args.scheme.now.automaton c.in_ok-edges.edges.items c.push_all_edges.new.book c.push_states.new.book c.push_sets.new.book c.len-first.result c.in_ok-sets.sets c.len.result
    c.len.ensures.len c.in_ok-edges.ensures c.len-first.ensures.len is-sets
    states c.in_ok-push_states.ensures.longer c.in_ok-push_sets.ensures.sets c.in_ok-push_sets.ensures.longer c.in_ok-push_sets.ensures.heads in
    laid_scheme c.args.scheme.now c.requires c.len-first.result c.push_sets.new.book (subst IsBook c.book-3.view_is c.book-3.invariant) whole
    (record { book = c.push_sets.new.book; env = c.in_ok-env.env; root = c.in_ok-root.root }) refl c.in_ok-env.ensures c.in_ok-root.ensures
