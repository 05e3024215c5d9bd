-- What a text of a type is read as.
use Rattle.std.proofs.Common.{◌≡◌, ℕ, true, List, [], length, subst, sym, ap, ◌∙◌}
use Rattle.mls_lexer.specs.Tokens.{terminals, place_of}
use Rattle.mls_lexer.proofs.Readings as lexer
use Rattle.mls_typetext.specs.Phrases.{yields}
use Rattle.mls_typetext.specs.Trees.{TypeTree, meaning}
use Rattle.mls_typetext.specs.Faults.{faults}
use Rattle.mls_typetext.specs.Books.{type_of, variables}
use Rattle.mls_typetext.specs.Texts.{read_of, IsTypeOf}
use Rattle.mls_typetext.specs.Laws.{OneReading, IsReadScheme, ReadIsClosed, ReadHasValue}
use Rattle.mls_typetext.proofs.Fit.{IsFit}
use Rattle.mls_typetext.proofs.FitBooks.{book_of-closed, book_of-variables, root_of-below}
use Rattle.mls_typetext.proofs.FitTrees.{type_of-fit}
use Rattle.mls_typetext.proofs.TypeValues.{book_of-value}
use Rattle.mls_typetext.proofs.OnePhrase.{one_phrase}
use Rattle.mls_typetext.proofs.OneValue.{one_value}

-- a tree without faults is read as a closed book
pub read_of-closed : (tree : TypeTree) → faults true [] 0 tree ≡ [] → IsReadScheme (read_of tree)
read_of-closed tree e =
    let fit : IsFit (length (variables tree)) 0 0 (type_of tree) = type_of-fit tree e in
    record {
      book = book_of-closed (length (variables tree)) (type_of tree) fit;
      root = root_of-below (length (variables tree)) (type_of tree) fit;
      variables = book_of-variables (length (variables tree)) (type_of tree) fit;
    }

pub read_is_closed : ReadIsClosed
read_is_closed text read it = subst IsReadScheme (sym it.read_as) (read_of-closed it.tree it.text_of.no_fault)

pub read_has_value : ReadHasValue
read_has_value text tree it v =
    let fit : IsFit (length (variables tree)) 0 0 (type_of tree) = type_of-fit tree it.no_fault in
    record {
      value = book_of-value (length (variables tree)) (type_of tree) fit v;
      one = λ other is.
          one_value v (length (variables tree)) (type_of tree) other _ fit is
          (book_of-value (length (variables tree)) (type_of tree) fit v);
    }

-- a text is a type of one tree at most
pub one_tree : (text : List ℕ) (tree other : TypeTree) → IsTypeOf text tree → IsTypeOf text other → tree ≡ other
one_tree text tree other is is' =
    let same : is.tokens ≡ is'.tokens = lexer.one_reading text is.tokens is'.tokens is.has_tokens is'.has_tokens in
    let spelled : yields is.phrase [] ≡ yields is'.phrase [] = is.spelled ∙ (ap (terminals text) same ∙ sym is'.spelled) in
    let phrase : is.phrase ≡ is'.phrase = one_phrase is.phrase is'.phrase spelled in
    is.meant ∙ ((λ i. meaning (place_of (same i)) 0 (phrase i)) ∙ sym is'.meant)

pub one_reading : OneReading
one_reading text read other is is' = is.read_as ∙ (ap read_of (one_tree text is.tree is'.tree is.text_of is'.text_of) ∙ sym is'.read_as)
