-- The place of a fault of an interface lies within its text.
use Rattle.std.proofs.Common.{◌≡◌, ℕ, suc, ◌+◌, ◌≤◌, Bool, true, false, if◌then◌else◌, List, [], ◌∷◌, ◌++◌, map, length, subst, arith}
use Rattle.std.specs.Prelude.{bytes_eq}
use Rattle.std.specs.List.{list_any}
use Rattle.mls_lexer.specs.declared.token.LexFault.{LexFault}
use Rattle.mls_lexer.specs.declared.token.LexFault.TheVariants as lex
use Rattle.mls_lexer.specs.declared.token.Token.{Token}
use Rattle.mls_lexer.specs.Tokens.{IsTokens, place_of}
use Rattle.mls_lexer.proofs.TextOrder.{Rises}
use Rattle.mls_lexer.proofs.TokensWithin.{lex_place, token_fault-within, start-within, place-within}
use Rattle.mls_typetext.specs.declared.scheme.TypeFault.{TypeFault}
use Rattle.mls_typetext.specs.declared.scheme.TypeFault.TheVariants as type
use Rattle.mls_typetext.specs.Phrases.{width}
use Rattle.mls_typetext.specs.Stops.{tree_place}
use Rattle.mls_typetext.specs.Trees.{meaning}
use Rattle.mls_typetext.specs.Faults.{faults}
use Rattle.mls_typetext.proofs.FaultsRise.{meaning-rises}
use Rattle.mls_iface.specs.declared.interface.IfaceFault.{IfaceFault}
use Rattle.mls_iface.specs.declared.interface.IfaceFault.TheVariants.{DuplicateVal}
use Rattle.mls_iface.specs.Declarations.{Declaration, behind}
use Rattle.mls_iface.specs.Faults.{of_tokens, of_type, HasGrammarFault, before, at_end, faults_of}
use Rattle.mls_iface.specs.Interfaces.{in_tokens, in_grammar, in_declarations}
use Rattle.mls_iface.specs.FaultPlaces.{fault_place}
use Rattle.mls_iface.specs.Laws.{FaultIsInText}

of_tokens-within : (n : ℕ) (fault : LexFault) → lex_place fault ≤ n → fault_place n (of_tokens fault) ≤ n
of_tokens-within n (lex.BadByte at) low = low
of_tokens-within n (lex.BigNumber at) low = low
of_tokens-within n lex.Memory low = low

-- all faults have their places up to n
abbrev Within : ℕ → List IfaceFault → Type 0
Within n [] = Unit {0}
Within n (fault ∷ faults) = (fault_place n fault ≤ n) × Within n faults

within-append : (n : ℕ) (xs ys : List IfaceFault) → Within n xs → Within n ys → Within n (xs ++ ys)
within-append n [] ys h h' = h'
within-append n (x ∷ xs) ys h h' = (h.0, within-append n xs ys h.1 h')

-- a fault of a tree has the place of the tree's fault
of_tree : (n k : ℕ) (place : ℕ → ℕ) → ((k : ℕ) → place k ≤ n) → (f : TypeFault) → tree_place f ≡ place k → fault_place n (of_type f) ≤ n
of_tree n k place low (type.BadByte at) is = let l = low k in omega arith
of_tree n k place low (type.BigNumber at) is = let l = low k in omega arith
of_tree n k place low (type.Unexpected at kind) is = let l = low k in omega arith
of_tree n k place low type.Ended is = omega arith
of_tree n k place low (type.NotPolar at) is = let l = low k in omega arith
of_tree n k place low (type.Unguarded at) is = let l = low k in omega arith
of_tree n k place low (type.Contravariant at) is = let l = low k in omega arith
of_tree n k place low (type.DuplicateLabel at) is = let l = low k in omega arith
of_tree n k place low type.Memory is = omega arith

tree-within : (n : ℕ) (place : ℕ → ℕ) → ((k : ℕ) → place k ≤ n) → (low high : ℕ) (fs : List TypeFault) → Rises tree_place place low high fs → Within n (map of_type fs)
tree-within n place within low high [] h = tt
tree-within n place within low high (f ∷ fs) h = (of_tree n h.0 place within f h.2, tree-within n place within (suc h.0) high fs h.3)

twice-within : (n : ℕ) (b : Bool) (at : ℕ) → at ≤ n → Within n (if b then DuplicateVal at ∷ [] else [])
twice-within n true at low = (low, tt)
twice-within n false at low = tt

declarations-within : (n : ℕ) (place : ℕ → ℕ) → ((k : ℕ) → place k ≤ n) → (k : ℕ) (earlier : List (List ℕ)) (ds : List Declaration) → Within n (faults_of place k earlier ds)
unfolding faults_of
declarations-within n place low k earlier [] = tt
declarations-within n place low k earlier (d ∷ ds) =
    let here : Rises tree_place place (k + 3) (k + 3 + width d.type) (faults true [] 0 (meaning place (k + 3) d.type)) =
    meaning-rises place (k + 3) (k + 3 + width d.type) d.type (omega arith) true [] 0 in
    within-append n (_ ++ map of_type (faults true [] 0 (meaning place (k + 3) d.type))) (faults_of place (behind k d) (d.declared ∷ earlier) ds)
    (within-append n _ (map of_type (faults true [] 0 (meaning place (k + 3) d.type))) (twice-within n (list_any (bytes_eq d.declared) earlier) (place (k + 1)) (low (k + 1)))
    (tree-within n place low (k + 3) (k + 3 + width d.type) (faults true [] 0 (meaning place (k + 3) d.type)) here))
    (declarations-within n place low (behind k d) (d.declared ∷ earlier) ds)

grammar-within : (text : List ℕ) (tokens : List Token) (from : ℕ) (fault : IfaceFault) → IsTokens text tokens → HasGrammarFault text tokens from fault → fault_place (length text) fault ≤ length text
grammar-within text tokens from _ are (before count token at begins stops) = start-within text tokens (from + count) token are at
grammar-within text tokens from _ are (at_end begins not) = omega arith

pub fault-within : FaultIsInText
fault-within text _ (in_tokens f h) = of_tokens-within (length text) f (token_fault-within text f h)
fault-within text fault (in_grammar tokens are f h) = grammar-within text tokens 0 f are h
fault-within text fault (in_declarations tokens are ds spells f later first) =
    (subst (Within (length text)) first (declarations-within (length text) (place_of tokens) (place-within text tokens are) 0 [] ds)).0
