-- A fault that is passed on is that of the text.
use Rattle.std.proofs.Common.{◌≡◌, ◌≢◌, ℕ, List, Result, Ok, Err, IfErr, sym, subst}
use Rattle.std.specs.Result.{IsErrAnd}
use Rattle.mls_lexer.specs.declared.token.LexFault.{LexFault}
use Rattle.mls_lexer.specs.declared.token.LexFault.TheVariants as lex
use Rattle.mls_lexer.specs.declared.token.Token.{Token}
use Rattle.mls_lexer.specs.Tokens.{IsTokens, HasTokenFault}
use Rattle.mls_grammar.specs.declared.fault.Fault.{Fault}
use Rattle.mls_grammar.specs.declared.fault.Fault.TheVariants.{Memory}
use Rattle.mls_grammar.specs.GrammarFaults.{HasGrammarFault}
use Rattle.mls_grammar.specs.FirstFaults.{of_tokens, HasFirstFault, in_tokens, in_grammar}

token_fault : (text : List ℕ) (e : LexFault) (fault : Fault) → fault ≡ of_tokens e → (e ≢ lex.Memory → HasTokenFault text e) → fault ≢ Memory → HasFirstFault text fault
token_fault text lex.Memory fault is h other = absurd (other is)
token_fault text (lex.BadByte at) fault is h other = subst (HasFirstFault text) (sym is) (in_tokens (lex.BadByte at) (h (λ e. cc)))
token_fault text (lex.BigNumber at) fault is h other = subst (HasFirstFault text) (sym is) (in_tokens (lex.BigNumber at) (h (λ e. cc)))

-- from the tokens,
pub tokens_passed : {T : Type 0} (text : List ℕ) (result : Result T Fault) (e : LexFault) → IsErrAnd result (λ fault. fault ≡ of_tokens e)
    → (e ≢ lex.Memory → HasTokenFault text e) → IfErr result (λ fault. fault ≢ Memory → HasFirstFault text fault)
tokens_passed text (Ok x) e is h = tt
tokens_passed text (Err fault) e is h = token_fault text e fault is h

-- and from the grammar
pub grammar_passed : {T : Type 0} (text : List ℕ) (tokens : List Token) (result : Result T Fault) (e : Fault) → IsTokens text tokens → IsErrAnd result (λ fault. fault ≡ e)
    → (e ≢ Memory → HasGrammarFault text tokens e) → IfErr result (λ fault. fault ≢ Memory → HasFirstFault text fault)
grammar_passed text tokens (Ok x) e are is h = tt
grammar_passed text tokens (Err fault) e are is h = λ other.
    in_grammar tokens are fault (subst (HasGrammarFault text tokens) (sym is) (h (λ same. other (subst (λ f. fault ≡ f) same is))))
