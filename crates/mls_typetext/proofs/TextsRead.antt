-- What is read of the tokens of a type is what the type is read as, or its first fault.
use Rattle.std.proofs.Common.{◌≡◌, ◌≢◌, ℕ, ◌+◌, ◌-◌, ◌≤◌, List, [], length, take, drop, refl, sym, ap, ◌∙◌, subst, arith, All, Result, Ok, Err, IfOk, IfErr}
use Rattle.std.specs.Result.{IsErrAnd}
use Rattle.std.proofs.lemmas.List.{take_all, length-map}
use Rattle.std.proofs.lemmas.List.Elements.{All-take, All-drop}
use Rattle.mls_lexer.specs.declared.token.LexFault.{LexFault}
use Rattle.mls_lexer.specs.declared.token.LexFault.TheVariants as lex
use Rattle.mls_lexer.specs.declared.token.Token.{Token}
use Rattle.mls_lexer.specs.Tokens.{IsToken, IsTokens, HasTokenFault, terminal, terminals, place_of}
use Rattle.mls_lexer.proofs.Follows.{Follow-all}
use Rattle.mls_typetext.specs.declared.scheme.ReadScheme.{ReadScheme}
use Rattle.mls_typetext.specs.declared.scheme.TypeFault.{TypeFault}
use Rattle.mls_typetext.specs.declared.scheme.TypeFault.TheVariants.{Memory}
use Rattle.mls_typetext.specs.Phrases.{Phrase, whole, yields}
use Rattle.mls_typetext.specs.Trees.{meaning}
use Rattle.mls_typetext.specs.steps.Pieces.{postorder}
use Rattle.mls_lexer.specs.steps.Placed.{placed}
use Rattle.mls_typetext.specs.steps.PieceMachine.{told_of}
use Rattle.mls_typetext.specs.steps.ReadPieces.{IsTold, IsReadOf, IsFaultOf}
use Rattle.mls_typetext.specs.Texts.{IsTypeText}
use Rattle.mls_typetext.specs.Stops.{IsType, EndsBefore, of_tokens, HasTypeFault, in_tokens, in_tree}
use Rattle.mls_typetext.specs.TextsFrom.{ReadsFrom, HasFaultFrom, in_tree_from}
use Rattle.mls_typetext.proofs.ReadPieces.{told-pieces}
use Rattle.mls_typetext.proofs.WholeTexts.{whole-type}

-- a fault that is passed on
pub passed : {T : Type 0} (result : Result T TypeFault) (e : TypeFault) (P : TypeFault → Type 0) → IsErrAnd result (λ fault. fault ≡ e) → (e ≢ Memory → P e) → IfErr result (λ fault. fault ≢ Memory → P fault)
passed (Ok x) e P is h = tt
passed (Err fault) e P is h = λ other. subst P (sym is) (h (λ same. other (subst (λ f. fault ≡ f) same is)))

token_fault : (text : List ℕ) (e : LexFault) (fault : TypeFault) → fault ≡ of_tokens e → (e ≢ lex.Memory → HasTokenFault text e) → fault ≢ Memory → HasTypeFault text fault
token_fault text lex.Memory fault is h other = absurd (other is)
token_fault text (lex.BadByte at) fault is h other = subst (HasTypeFault text) (sym is) (in_tokens (lex.BadByte at) (h (λ e. cc)))
token_fault text (lex.BigNumber at) fault is h other = subst (HasTypeFault text) (sym is) (in_tokens (lex.BigNumber at) (h (λ e. cc)))

pub tokens_passed : {T : Type 0} (text : List ℕ) (result : Result T TypeFault) (e : LexFault) → IsErrAnd result (λ fault. fault ≡ of_tokens e) → (e ≢ lex.Memory → HasTokenFault text e) → IfErr result (λ fault. fault ≢ Memory → HasTypeFault text fault)
tokens_passed text (Ok x) e is h = tt
tokens_passed text (Err fault) e is h = token_fault text e fault is h

module _ (text : List ℕ) (tokens : List Token) (are : IsTokens text tokens) (from k : ℕ) (ends : EndsBefore text tokens from k) where
  abbrev between : List Token
  between = take (k - from) (drop from tokens)

  count-is : k - from ≡ ends.count
  count-is = let place : k ≡ from + ends.count = ends.place in omega arith

  told-between : (p : Phrase whole) → yields p [] ≡ take ends.count (drop from (terminals text tokens)) → told_of (placed text between) ≡ postorder (meaning (place_of tokens) from p)
  told-between p spelled = ap (λ n. told_of (placed text (take n (drop from tokens)))) count-is ∙ told-pieces text tokens from ends.count p spelled

  pub between_of_text : All (IsToken text) between
  between_of_text = All-take (IsToken text) (k - from) (drop from tokens) (All-drop (IsToken text) from tokens (Follow-all text 0 tokens _ are))

  pub is_told : IsTold (told_of (placed text between))
  is_told = (meaning (place_of tokens) from ends.is_type.0, told-between ends.is_type.0 ends.is_type.1)

  pub reads_from : (r : ReadScheme) → IsReadOf (told_of (placed text between)) r → ReadsFrom text tokens from r k
  reads_from r is =
      let p = ends.is_type.0 in
      let it = is (meaning (place_of tokens) from p) (told-between p ends.is_type.1) in
      record { ends = ends; phrase = p; spelled = ends.is_type.1; no_fault = it.0; read_as = it.1 }

  pub fault_from : (fault : TypeFault) → IsFaultOf (told_of (placed text between)) fault → HasFaultFrom text tokens from fault
  fault_from fault is =
      let p = ends.is_type.0 in
      let it = is (meaning (place_of tokens) from p) (told-between p ends.is_type.1) in
      in_tree_from k ends p ends.is_type.1 fault it.0 it.1

-- the same of all tokens of a text
module _ (text : List ℕ) (tokens : List Token) (are : IsTokens text tokens) (p : Phrase whole) (spelled : yields p [] ≡ terminals text tokens) where
  told-all : told_of (placed text tokens) ≡ postorder (meaning (place_of tokens) 0 p)
  told-all =
      let n = length tokens in
      let size : length (terminals text tokens) ≡ n = length-map tokens (λ (token : Token). terminal text token) in
      ap (λ ts. told_of (placed text ts)) (sym (take_all n tokens (omega arith)))
      ∙ told-pieces text tokens 0 n p (spelled ∙ sym (take_all n (terminals text tokens) (omega arith)))

  pub all_told : IsTold (told_of (placed text tokens))
  all_told = (meaning (place_of tokens) 0 p, told-all)

  pub type_text : (r : ReadScheme) → IsReadOf (told_of (placed text tokens)) r → IsTypeText text r
  type_text r is =
      let it = is (meaning (place_of tokens) 0 p) told-all in
      record {
        tree = meaning (place_of tokens) 0 p;
        text_of = record { tokens = tokens; has_tokens = are; phrase = p; spelled = spelled; meant = refl; no_fault = it.0 };
        read_as = it.1;
      }

  pub type_fault : (fault : TypeFault) → IsFaultOf (told_of (placed text tokens)) fault → HasTypeFault text fault
  type_fault fault is =
      let it = is (meaning (place_of tokens) 0 p) told-all in
      in_tree tokens are p spelled fault it.0 it.1

-- behind a type that ends at no token all tokens are one
pub whole_ended : (text : List ℕ) (tokens : List Token) (end : ℕ) → EndsBefore text tokens 0 end → length tokens ≤ end → IsType (terminals text tokens)
whole_ended text tokens end ends past =
    let size : length (drop 0 (terminals text tokens)) ≡ length tokens = length-map tokens (λ (token : Token). terminal text token) in
    let place : end ≡ 0 + ends.count = ends.place in
    let low : ends.count ≤ length (drop 0 (terminals text tokens)) = ends.furthest.within in
    let same : end ≡ length tokens = omega arith in
    whole-type text tokens (subst (EndsBefore text tokens 0) same ends)

pub passed_ok : {T : Type 0} (result : Result T TypeFault) (P Q : T → Type 0) → IfOk result P → ((x : T) → P x → Q x) → IfOk result Q
passed_ok (Ok x) P Q h f = f x h
passed_ok (Err e) P Q h f = tt

pub passed_err : {T : Type 0} (result : Result T TypeFault) (P Q : TypeFault → Type 0) → IfErr result (λ fault. fault ≢ Memory → P fault) → ((x : TypeFault) → P x → Q x) → IfErr result (λ fault. fault ≢ Memory → Q fault)
passed_err (Ok x) P Q h f = tt
passed_err (Err e) P Q h f = λ other. f e (h other)
