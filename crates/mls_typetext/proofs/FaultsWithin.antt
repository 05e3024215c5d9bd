-- The place of a fault of a type lies within the text.
use Rattle.std.proofs.Common.{◌≡◌, ℕ, ◌+◌, ◌≤◌, true, List, [], ◌∷◌, length, subst, sym, arith}
use Rattle.mls_lexer.specs.declared.token.LexFault.{LexFault}
use Rattle.mls_lexer.specs.declared.token.LexFault.TheVariants as lex
use Rattle.mls_lexer.specs.declared.token.Token.{Token}
use Rattle.mls_lexer.specs.Tokens.{IsTokens, place_of}
use Rattle.mls_lexer.proofs.TextOrder.{Rises}
use Rattle.mls_lexer.proofs.TokensWithin.{lex_place, token_fault-within, start-within, place-within}
use Rattle.mls_typetext.specs.declared.scheme.TypeFault.{TypeFault}
use Rattle.mls_typetext.specs.declared.scheme.TypeFault.TheVariants.{BadByte, BigNumber, Unexpected, Ended, NotPolar, Unguarded, Contravariant, DuplicateLabel, Memory}
use Rattle.mls_typetext.specs.Phrases.{Phrase, whole, width}
use Rattle.mls_typetext.specs.Trees.{meaning}
use Rattle.mls_typetext.specs.Faults.{faults}
use Rattle.mls_typetext.specs.Stops.{fault_place, tree_place, of_tokens, HasStop, stops_before, stops_at_end, HasTypeFault, in_tokens, before, at_end, in_tree}
use Rattle.mls_typetext.specs.TextsFrom.{HasFaultFrom, stops, in_tree_from}
use Rattle.mls_typetext.specs.Laws.{FaultIsInText}
use Rattle.mls_typetext.proofs.FaultsRise.{meaning-rises}

of_tokens-within : (n : ℕ) (fault : LexFault) → lex_place fault ≤ n → fault_place n (of_tokens fault) ≤ n
of_tokens-within n (lex.BadByte at) low = low
of_tokens-within n (lex.BigNumber at) low = low
of_tokens-within n lex.Memory low = low

-- where the place of a fault in a tree is within the text, its place is
by_tree_place : (n : ℕ) (fault : TypeFault) → tree_place fault ≤ n → fault_place n fault ≤ n
by_tree_place n (BadByte at) low = low
by_tree_place n (BigNumber at) low = low
by_tree_place n (Unexpected at kind) low = low
by_tree_place n Ended low = omega arith
by_tree_place n (NotPolar at) low = low
by_tree_place n (Unguarded at) low = low
by_tree_place n (Contravariant at) low = low
by_tree_place n (DuplicateLabel at) low = low
by_tree_place n Memory low = low

first-within : (n low high : ℕ) (place : ℕ → ℕ) → ((k : ℕ) → place k ≤ n) → (fault : TypeFault) (later : List TypeFault) → Rises tree_place place low high (fault ∷ later) → fault_place n fault ≤ n
first-within n low high place within fault later h = by_tree_place n fault (subst (λ at. at ≤ n) (sym h.2) (within h.0))

tree-within : (text : List ℕ) (tokens : List Token) (from : ℕ) (p : Phrase whole) (fault : TypeFault) (later : List TypeFault) → IsTokens text tokens → faults true [] 0 (meaning (place_of tokens) from p) ≡ fault ∷ later → fault_place (length text) fault ≤ length text
tree-within text tokens from p fault later are first =
    let all : Rises tree_place (place_of tokens) from (from + width p) (faults true [] 0 (meaning (place_of tokens) from p)) = meaning-rises (place_of tokens) from (from + width p) p (omega arith) true [] 0 in
    first-within (length text) from (from + width p) (place_of tokens) (place-within text tokens are) fault later
    (subst (Rises tree_place (place_of tokens) from (from + width p)) first all)

of_text : (text : List ℕ) (fault : TypeFault) → HasTypeFault text fault → fault_place (length text) fault ≤ length text
of_text text _ (in_tokens f h) = of_tokens-within (length text) f (token_fault-within text f h)
of_text text _ (before tokens are count token furthest at) = start-within text tokens count token are at
of_text text _ (at_end tokens are begins not) = omega arith
of_text text _ (in_tree tokens are p spells fault later first) = tree-within text tokens 0 p fault later are first

stop-within : (text : List ℕ) (tokens : List Token) (from : ℕ) (fault : TypeFault) → IsTokens text tokens → HasStop text tokens from fault → fault_place (length text) fault ≤ length text
stop-within text tokens from _ are (stops_before count token furthest not at) = start-within text tokens (from + count) token are at
stop-within text tokens from _ are (stops_at_end begins not) = omega arith

from_token : (text : List ℕ) (tokens : List Token) (from : ℕ) (fault : TypeFault) → IsTokens text tokens → HasFaultFrom text tokens from fault → fault_place (length text) fault ≤ length text
from_token text tokens from fault are (stops h) = stop-within text tokens from fault are h
from_token text tokens from fault are (in_tree_from k ends p spells f later first) = tree-within text tokens from p f later are first

pub fault_is_in_text : FaultIsInText
fault_is_in_text text = record { of_text = of_text text; from_token = from_token text }
