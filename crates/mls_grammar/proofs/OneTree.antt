-- A text is a module of one tree.
use Rattle.std.proofs.Common.{◌≡◌, ℕ, List, [], sym, ap, ◌∙◌}
use Rattle.mls_lexer.specs.declared.token.Token.{Token}
use Rattle.mls_lexer.specs.Tokens.{terminals, place_of}
use Rattle.mls_lexer.proofs.Readings as lexer
use Rattle.mls_grammar.specs.Phrases.{Phrase, source, yields}
use Rattle.mls_grammar.specs.Trees.{meaning}
use Rattle.mls_grammar.specs.GrammarLaws.{OneTree, NoGrammarFault}
use Rattle.mls_grammar.proofs.OnePhrase.{one_phrase}
use Rattle.mls_grammar.proofs.GrammarStops as stops

-- the same tokens are spelled by one phrase, which has one meaning
pub one_meaning : (text : List ℕ) (tokens others : List Token) (p q : Phrase source) → tokens ≡ others → yields p [] ≡ terminals text tokens → yields q [] ≡ terminals text others → meaning (place_of tokens) 0 p ≡ meaning (place_of others) 0 q
one_meaning text tokens others p q same is is' =
    let phrase : p ≡ q = one_phrase p q (is ∙ (ap (terminals text) same ∙ sym is')) in
    λ i. meaning (place_of (same i)) 0 (phrase i)

pub one_tree : OneTree
one_tree text s t is is' =
    let same : is.tokens ≡ is'.tokens = lexer.one_reading text is.tokens is'.tokens is.has_tokens is'.has_tokens in
    is.meant ∙ (one_meaning text is.tokens is'.tokens is.phrase is'.phrase same is.spelled is'.spelled ∙ sym is'.meant)

pub no_fault_beside_a_tree : NoGrammarFault
no_fault_beside_a_tree text tree tokens fault is has h =
    let same : is.tokens ≡ tokens = lexer.one_reading text is.tokens tokens is.has_tokens has in
    stops.no_grammar_fault text tokens is.phrase fault (is.spelled ∙ ap (terminals text) same) is.shallow h
