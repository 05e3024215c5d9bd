-- Every text is an interface or has a first fault.
use Rattle.std.proofs.Common.{◌≡◌, ◌≢◌, ◌⊎◌, inl, inr, ℕ, zero, suc, ◌+◌, ◌<◌, ◌≤◌, List, [], ◌∷◌, length, refl, arith, Some, None}
use Rattle.std.specs.Prelude.{Option, slice_get}
use Rattle.std.proofs.lemmas.Bool.{cases_lt}
use Rattle.mls_lexer.specs.declared.token.Kind.{Kind}
use Rattle.mls_lexer.specs.declared.token.Kind.TheVariants as kind
use Rattle.mls_lexer.specs.declared.token.LexFault.{LexFault}
use Rattle.mls_lexer.specs.declared.token.Token.{Token}
use Rattle.mls_lexer.specs.Tokens.{IsTokens, HasTokenFault, terminals, place_of}
use Rattle.mls_lexer.proofs.Total.{tokens_or_fault}
use Rattle.mls_typetext.specs.declared.scheme.TypeFault.{TypeFault}
use Rattle.mls_typetext.specs.Stops.{EndsBefore, HasStop}
use Rattle.mls_typetext.proofs.Total.{ends_or_stops}
use Rattle.mls_iface.specs.declared.interface.IfaceFault.{IfaceFault}
use Rattle.mls_iface.specs.declared.interface.IfaceFault.TheVariants.{Unexpected, Ended}
use Rattle.mls_iface.specs.declared.interface.Interface.{Interface}
use Rattle.mls_iface.specs.Declarations.{Declaration, spelled, IsInterface, vals_of}
use Rattle.mls_iface.specs.Faults.{of_tokens, of_type, HasGrammarFault, faults_of}
use Rattle.mls_iface.specs.Interfaces.{IsInterfaceText, HasInterfaceFault, in_tokens, in_grammar, in_declarations}
use Rattle.mls_iface.specs.Laws.{InterfaceOrFault}
use Rattle.mls_iface.specs.steps.Going.{LeadsTo, IsThere, IsMissing, other, absent}
use Rattle.mls_iface.proofs.GrammarSteps.{val_missing, name_missing, colon_missing, type_missing, val_missing_behind, leads_behind, bound_none, bound_val, leads_on, leads_nowhere, all_gone}

-- a kind is the wanted one or not
val_or_not : (k : Kind) → (k ≡ kind.WordVal) ⊎ (k ≢ kind.WordVal)
val_or_not kind.WordVal = inl refl
val_or_not _ = inr (λ same. absurd (cc))

name_or_not : (k : Kind) → (k ≡ kind.Name) ⊎ (k ≢ kind.Name)
name_or_not kind.Name = inl refl
name_or_not _ = inr (λ same. absurd (cc))

colon_or_not : (k : Kind) → (k ≡ kind.Colon) ⊎ (k ≢ kind.Colon)
colon_or_not kind.Colon = inl refl
colon_or_not _ = inr (λ same. absurd (cc))

module _ (text : List ℕ) (tokens : List Token) where
  -- a token of this kind is there or missing
  abbrev ThereOrMissing : ℕ → Kind → Type 0
  ThereOrMissing i wanted = IsThere tokens i wanted ⊎ ((fault : IfaceFault) × IsMissing tokens i wanted fault)

  there_or_missing : (i : ℕ) (wanted : Kind) → ((k : Kind) → (k ≡ wanted) ⊎ (k ≢ wanted)) → ThereOrMissing i wanted
  there_or_missing i wanted decide = go (slice_get tokens i) refl
    where
      by_kind : (token : Token) → slice_get tokens i ≡ Some token → (token.kind ≡ wanted) ⊎ (token.kind ≢ wanted) → ThereOrMissing i wanted
      by_kind token at (inl is) = inl (token, at, is)
      by_kind token at (inr differs) = inr (Unexpected token.start token.kind, other token at differs)

      go : (o : Option Token) → slice_get tokens i ≡ o → ThereOrMissing i wanted
      go None at = inr (Ended, absent at)
      go (Some token) at = by_kind token at (decide token.kind)

  -- from a token on a declaration leads further, or there is a fault
  abbrev Goes : ℕ → Type 0
  Goes from = ((k : ℕ) × (from < k) × LeadsTo text tokens from k) ⊎ ((fault : IfaceFault) × HasGrammarFault text tokens from fault)

  module _ (from : ℕ) (val : IsThere tokens from kind.WordVal) (second : IsThere tokens (suc from) kind.Name)
      (third : IsThere tokens (suc (suc from)) kind.Colon) where
    behind_type : (k : ℕ) → EndsBefore text tokens (suc (suc (suc from))) k → Goes from
    behind_type k ends = go (slice_get tokens k) refl
      where
        further : from < k
        further = let place : k ≡ suc (suc (suc from)) + ends.count = ends.place in omega arith

        by_kind : (token : Token) → slice_get tokens k ≡ Some token → (token.kind ≡ kind.WordVal) ⊎ (token.kind ≢ kind.WordVal) → Goes from
        by_kind token at (inl is) = inl (k, further, leads_behind text tokens from val second third k ends (bound_val text tokens k (token, at, is)))
        by_kind token at (inr differs) =
            inr (Unexpected token.start token.kind, val_missing_behind text tokens from val second third k token ends at differs)

        go : (o : Option Token) → slice_get tokens k ≡ o → Goes from
        go None at = inl (k, further, leads_behind text tokens from val second third k ends (bound_none text tokens k at))
        go (Some token) at = by_kind token at (val_or_not token.kind)

    behind_colon : ((k : ℕ) × EndsBefore text tokens (suc (suc (suc from))) k) ⊎ ((fault : TypeFault) × HasStop text tokens (suc (suc (suc from))) fault) → Goes from
    behind_colon (inl (k, ends)) = behind_type k ends
    behind_colon (inr (fault, stop)) = inr (of_type fault, type_missing text tokens from val second third fault stop)

  goes : (from : ℕ) → from < length tokens → Goes from
  goes from low = by_val (there_or_missing from kind.WordVal val_or_not)
    where
      by_colon : IsThere tokens from kind.WordVal → IsThere tokens (suc from) kind.Name → ThereOrMissing (suc (suc from)) kind.Colon → Goes from
      by_colon val second (inl third) = behind_colon from val second third (ends_or_stops text tokens (suc (suc (suc from))))
      by_colon val second (inr (fault, missing)) = inr (fault, colon_missing text tokens from fault val second missing)

      by_name : IsThere tokens from kind.WordVal → ThereOrMissing (suc from) kind.Name → Goes from
      by_name val (inl second) = by_colon val second (there_or_missing (suc (suc from)) kind.Colon colon_or_not)
      by_name val (inr (fault, missing)) = inr (fault, name_missing text tokens from fault val missing)

      by_val : ThereOrMissing from kind.WordVal → Goes from
      by_val (inl val) = by_name val (there_or_missing (suc from) kind.Name name_or_not)
      by_val (inr (fault, missing)) = inr (fault, val_missing text tokens from fault low missing)

  abbrev Grammar : Type 0
  Grammar = IsInterface (terminals text tokens) ⊎ ((fault : IfaceFault) × HasGrammarFault text tokens 0 fault)

  walk : (left from : ℕ) → length tokens ≤ from + left → LeadsTo text tokens 0 from → Grammar
  walk zero from le leads = inl (all_gone text tokens from (omega arith) leads)
  walk (suc left) from le leads = go (λ k less. walk left k less) (cases_lt from (length tokens))
    where
      on : ((k : ℕ) → length tokens ≤ k + left → LeadsTo text tokens 0 k → Grammar) → Goes from → Grammar
      on again (inl (k, further, next)) = again k (omega arith) (leads_on text tokens 0 from k leads next)
      on again (inr (fault, has)) = inr (fault, leads.faulty fault has)

      go : ((k : ℕ) → length tokens ≤ k + left → LeadsTo text tokens 0 k → Grammar) → (from < length tokens) ⊎ (length tokens ≤ from) → Grammar
      go again (inl low) = on again (goes from low)
      go again (inr past) = inl (all_gone text tokens from past leads)

  abbrev Answer : Type 0
  Answer = ((interface : Interface) × IsInterfaceText text interface) ⊎ ((fault : IfaceFault) × HasInterfaceFault text fault)

  of_all_tokens : IsTokens text tokens → Answer
  of_all_tokens are = by_grammar (walk (length tokens) 0 (omega arith) (leads_nowhere text tokens 0))
    where
      by_faults : (ds : List Declaration) → spelled ds ≡ terminals text tokens → (fs : List IfaceFault) → faults_of (place_of tokens) 0 [] ds ≡ fs → Answer
      by_faults ds spells [] none =
          inl (
            record { vals = vals_of (place_of tokens) 0 ds },
            record { tokens = tokens; has_tokens = are; declarations = ds; spells = spells; no_fault = none; declares = refl },
          )
      by_faults ds spells (fault ∷ later) first = inr (fault, in_declarations tokens are ds spells fault later first)

      by_grammar : Grammar → Answer
      by_grammar (inl (ds, spells)) = by_faults ds spells (faults_of (place_of tokens) 0 [] ds) refl
      by_grammar (inr (fault, has)) = inr (fault, in_grammar tokens are fault has)

pub interface_or_fault : InterfaceOrFault
interface_or_fault text = by_tokens (tokens_or_fault text)
  where
    by_tokens : ((tokens : List Token) × IsTokens text tokens) ⊎ ((fault : LexFault) × HasTokenFault text fault)
        → ((interface : Interface) × IsInterfaceText text interface) ⊎ ((fault : IfaceFault) × HasInterfaceFault text fault)
    by_tokens (inl (tokens, are)) = of_all_tokens text tokens are
    by_tokens (inr (fault, has)) = inr (of_tokens fault, in_tokens fault has)
