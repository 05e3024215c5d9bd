-- The places of faults, and of what a module is made of, lie within its text.
use Rattle.std.proofs.Common.{ℕ, ◌≤◌, List, [], length, sym, subst, arith}
use Rattle.mls_lexer.specs.declared.token.LexFault.{LexFault}
use Rattle.mls_lexer.specs.declared.token.LexFault.TheVariants as lex
use Rattle.mls_lexer.specs.declared.token.Token.{Token}
use Rattle.mls_lexer.specs.Tokens.{IsTokens, place_of}
use Rattle.mls_lexer.proofs.TokensWithin.{lex_place, token_fault-within, start-within, place-within}
use Rattle.mls_grammar.specs.declared.fault.Fault.{Fault}
use Rattle.mls_grammar.specs.Trees.{SourceTree}
use Rattle.mls_grammar.specs.Modules.{IsTextOf}
use Rattle.mls_grammar.specs.Faults.{fault_place}
use Rattle.mls_grammar.specs.GrammarFaults.{HasGrammarFault, unexpected, ended, too_deep}
use Rattle.mls_grammar.specs.Laws.{FaultIsInText}
use Rattle.mls_grammar.specs.FirstFaults.{of_tokens, in_tokens, in_grammar, in_doubles}
use Rattle.mls_grammar.proofs.PlacesWithin.{ImportsWithin, BindingsWithin, FaultsWithin, meaning-within, doubles-within}

of_tokens-within : (n : ℕ) (fault : LexFault) → lex_place fault ≤ n → fault_place n (of_tokens fault) ≤ n
of_tokens-within n (lex.BadByte at) low = low
of_tokens-within n (lex.BigNumber at) low = low
of_tokens-within n lex.Memory low = low

grammar_fault-within : (text : List ℕ) (tokens : List Token) (fault : Fault) → IsTokens text tokens → HasGrammarFault text tokens fault → fault_place (length text) fault ≤ length text
grammar_fault-within text tokens _ are (unexpected k token at can cannot none) = start-within text tokens k token are at
grammar_fault-within text tokens _ are (ended can none deep) = omega arith
grammar_fault-within text tokens _ are (too_deep k token at deep none) = start-within text tokens k token are at

pub fault-within : FaultIsInText
fault-within text _ (in_tokens f h) = of_tokens-within (length text) f (token_fault-within text f h)
fault-within text _ (in_grammar tokens are f h) = grammar_fault-within text tokens f are h
fault-within text _ (in_doubles tokens are p spelled shallow f later e) =
    let all = doubles-within (length text) (place_of tokens) (place-within text tokens are) [] 0 p in
    (subst (FaultsWithin (length text)) e all).0

-- the places of a module are in its text
pub record SourceWithin (n : ℕ) (tree : SourceTree) : Type 0 where
  pub imported : ImportsWithin n tree.imported
  pub bound : BindingsWithin n tree.bound

pub text-within : (text : List ℕ) (tree : SourceTree) → IsTextOf text tree → SourceWithin (length text) tree
text-within text tree it =
    let all = meaning-within (length text) (place_of it.tokens) (place-within text it.tokens it.has_tokens) 0 it.phrase in
    subst (SourceWithin (length text)) (sym it.meant) (record { imported = all.0; bound = all.1 })
