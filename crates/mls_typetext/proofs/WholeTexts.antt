-- Where the type that begins at the first token ends or stops, as a fault of the whole text.
use Rattle.std.proofs.Common.{◌≡◌, ℕ, List, length, sym, ap, ◌∙◌, subst, arith, zero-add, Some}
use Rattle.std.specs.Prelude.{slice_get}
use Rattle.std.proofs.lemmas.List.{length-map, take_all}
use Rattle.mls_lexer.specs.declared.token.Token.{Token}
use Rattle.mls_lexer.specs.Tokens.{IsTokens, terminal, terminals}
use Rattle.mls_typetext.specs.declared.scheme.TypeFault.{TypeFault}
use Rattle.mls_typetext.specs.declared.scheme.TypeFault.TheVariants.{Unexpected}
use Rattle.mls_typetext.specs.Stops.{IsType, EndsBefore, HasStop, stops_before, stops_at_end, HasTypeFault, before, at_end}

module _ (text : List ℕ) (tokens : List Token) (are : IsTokens text tokens) where
  -- what stops there is a fault of the text,
  pub whole-stop : (fault : TypeFault) → HasStop text tokens 0 fault → HasTypeFault text fault
  whole-stop _ (stops_before n token is no_type at) = before tokens are n token is (ap (slice_get tokens) (sym (zero-add n)) ∙ at)
  whole-stop _ (stops_at_end begins no_type) = at_end tokens are begins no_type

  count-end : (k : ℕ) (it : EndsBefore text tokens 0 k) → k ≡ it.count
  count-end k it = it.place ∙ zero-add it.count

  -- and so is a token at which it ends;
  pub whole-end : (k : ℕ) (token : Token) → EndsBefore text tokens 0 k → slice_get tokens k ≡ Some token → HasTypeFault text (Unexpected token.start token.kind)
  whole-end k token it at = before tokens are it.count token it.furthest (ap (slice_get tokens) (sym (count-end k it)) ∙ at)

-- where it ends behind the last token, all tokens are a type
pub whole-type : (text : List ℕ) (tokens : List Token) → EndsBefore text tokens 0 (length tokens) → IsType (terminals text tokens)
whole-type text tokens it =
    let size : length (terminals text tokens) ≡ length tokens = length-map tokens (λ token. terminal text token) in
    let count : length tokens ≡ it.count = it.place ∙ zero-add it.count in
    subst IsType (take_all it.count (terminals text tokens) (omega arith)) it.is_type
