-- From a token on a type ends or stops, and so every text is read or has a fault.
use Rattle.std.proofs.Common.{◌≡◌, ◌⊎◌, inl, inr, ℕ, zero, suc, ◌+◌, ◌-◌, ◌<◌, ◌≤◌, true, false, List, [], ◌∷◌, length, drop, refl, sym, ap, ◌∙◌, subst, arith, Some, None}
use Rattle.std.specs.Prelude.{Option, slice_get}
use Rattle.std.proofs.lemmas.Bool.{cases_lt, cases_Bool}
use Rattle.std.proofs.lemmas.List.{take_all, length-map, length-drop}
use Rattle.std.proofs.lemmas.Option.{slice_get_within}
use Rattle.mls_lexer.specs.declared.token.Token.{Token}
use Rattle.mls_lexer.specs.declared.token.LexFault.{LexFault}
use Rattle.mls_lexer.specs.Tokens.{Terminal, IsTokens, HasTokenFault, terminal, terminals}
use Rattle.mls_lexer.specs.steps.Machine.{run, step, can_end}
use Rattle.mls_lexer.proofs.TextOrder.{token_at}
use Rattle.mls_lexer.proofs.Total.{tokens_or_fault}
use Rattle.mls_typetext.specs.declared.scheme.ReadScheme.{ReadScheme}
use Rattle.mls_typetext.specs.declared.scheme.TypeFault.{TypeFault}
use Rattle.mls_typetext.specs.declared.scheme.TypeFault.TheVariants.{Unexpected, Ended}
use Rattle.mls_typetext.specs.Phrases.{Phrase, whole, yields}
use Rattle.mls_typetext.specs.Trees.{meaning}
use Rattle.mls_typetext.specs.Faults.{faults}
use Rattle.mls_typetext.specs.steps.EndTable.{ToCome, a, opens, may_end}
use Rattle.mls_lexer.specs.Tokens.{place_of}
use Rattle.mls_typetext.specs.Texts.{read_of, IsTypeText}
use Rattle.mls_typetext.specs.Stops.{EndsBefore, HasStop, of_tokens, HasTypeFault, in_tokens, in_tree}
use Rattle.mls_typetext.specs.Laws.{ReadingOrFault}
use Rattle.mls_typetext.proofs.TypeMachine.{read}
use Rattle.mls_typetext.proofs.TypeStops.{IsRead, IsStuck, ends_before, has_stop, has_ended}
use Rattle.mls_typetext.proofs.TypeEnds.{read-more, stuck-at}
use Rattle.mls_typetext.proofs.WholeTexts.{whole-stop, whole-end, whole-type}

-- where the machine stops
record StopsAt (ts : List Terminal) : Type 0 where
  pub count : ℕ
  pub left : List ToCome
  pub within : count ≤ length ts
  pub is_read : IsRead ts count left
  pub stuck : IsStuck ts count left

-- it stops somewhere from each place on
stops_from : (ts : List Terminal) (more n : ℕ) (st : List ToCome) → n + more ≡ length ts → IsRead ts n st → StopsAt ts
stops_from ts zero n st all is =
    record {
      count = n;
      left = st;
      within = omega arith;
      is_read = is;
      stuck = λ t at. let low : n < length ts = slice_get_within ts n t at in absurd (omega arith);
    }
stops_from ts (suc more) n st all is = by_next (slice_get ts n) refl (λ next further. stops_from ts more (suc n) next (omega arith) further)
  where
    by_step : (t : Terminal) → slice_get ts n ≡ Some t → (o : Option (List ToCome)) → step opens may_end st t ≡ o
        → ((next : List ToCome) → IsRead ts (suc n) next → StopsAt ts) → StopsAt ts
    by_step t at None none further =
        record { count = n; left = st; within = omega arith; is_read = is; stuck = stuck-at ts n t st at none }
    by_step t at (Some next) goes further = further next (read-more ts n t st next is at goes)

    by_next : (o : Option Terminal) → slice_get ts n ≡ o → ((next : List ToCome) → IsRead ts (suc n) next → StopsAt ts) → StopsAt ts
    by_next None none further =
        record {
          count = n;
          left = st;
          within = omega arith;
          is_read = is;
          stuck = λ t at. let wrong : None ≡ Some t = sym none ∙ at in absurd (cc);
        }
    by_next (Some t) at further = by_step t at (step opens may_end st t) refl further

nothing_read : (ts : List Terminal) → IsRead ts 0 (a whole ∷ [])
unfolding run
nothing_read ts = refl

-- from a token on a type ends or stops
pub ends_or_stops : (text : List ℕ) (tokens : List Token) (from : ℕ)
    → ((k : ℕ) × EndsBefore text tokens from k) ⊎ ((fault : TypeFault) × HasStop text tokens from fault)
ends_or_stops text tokens from = by_end (cases_Bool (can_end may_end it.left))
  where
    ts : List Terminal
    ts = drop from (terminals text tokens)

    it : StopsAt ts
    it = stops_from ts (length ts) 0 (a whole ∷ []) (omega arith) (nothing_read ts)

    Answer : Type 0
    Answer = ((k : ℕ) × EndsBefore text tokens from k) ⊎ ((fault : TypeFault) × HasStop text tokens from fault)

    by_token : can_end may_end it.left ≡ false → (it.count < length ts) ⊎ (length ts ≤ it.count) → Answer
    by_token owed (inl low) =
        let rest : length (drop from (terminals text tokens)) ≡ length (terminals text tokens) - from = length-drop from (terminals text tokens) in
        let size : length (terminals text tokens) ≡ length tokens = length-map tokens (λ (token : Token). terminal text token) in
        let at = token_at tokens (from + it.count) (omega arith) in
        inr (Unexpected at.0.start at.0.kind, has_stop text tokens from it.count it.left at.0 it.within it.is_read it.stuck owed at.1)
    by_token owed (inr past) =
        inr (Ended, has_ended text tokens from it.left (ap (read (a whole ∷ [])) (sym (take_all it.count ts past)) ∙ it.is_read) owed)

    by_end : (can_end may_end it.left ≡ true) ⊎ (can_end may_end it.left ≡ false) → Answer
    by_end (inl can) = inl (from + it.count, ends_before text tokens from it.count it.left it.within it.is_read it.stuck can)
    by_end (inr owed) = by_token owed (cases_lt it.count (length ts))

-- what its tokens give
of_all_tokens : (text : List ℕ) (tokens : List Token) → IsTokens text tokens
    → ((read : ReadScheme) × IsTypeText text read) ⊎ ((fault : TypeFault) × HasTypeFault text fault)
of_all_tokens text tokens are = by_end (ends_or_stops text tokens 0)
  where
    Answer : Type 0
    Answer = ((read : ReadScheme) × IsTypeText text read) ⊎ ((fault : TypeFault) × HasTypeFault text fault)

    by_faults : (p : Phrase whole) → yields p [] ≡ terminals text tokens → (fs : List TypeFault)
        → faults true [] 0 (meaning (place_of tokens) 0 p) ≡ fs → Answer
    by_faults p spelled [] none =
        inl (
          read_of (meaning (place_of tokens) 0 p),
          record {
            tree = meaning (place_of tokens) 0 p;
            text_of = record { tokens = tokens; has_tokens = are; phrase = p; spelled = spelled; meant = refl; no_fault = none };
            read_as = refl;
          },
        )
    by_faults p spelled (fault ∷ later) first = inr (fault, in_tree tokens are p spelled fault later first)

    by_place : (k : ℕ) → EndsBefore text tokens 0 k → (k < length tokens) ⊎ (length tokens ≤ k) → Answer
    by_place k ends (inl low) =
        let at = token_at tokens k low in
        inr (Unexpected at.0.start at.0.kind, whole-end text tokens are k at.0 ends at.1)
    by_place k ends (inr past) =
        let size : length (terminals text tokens) ≡ length tokens = length-map tokens (λ (token : Token). terminal text token) in
        let place : k ≡ 0 + ends.count = ends.place in
        let low = ends.furthest.within in
        let all : k ≡ length tokens = omega arith in
        let type = whole-type text tokens (subst (EndsBefore text tokens 0) all ends) in
        by_faults type.0 type.1 (faults true [] 0 (meaning (place_of tokens) 0 type.0)) refl

    by_end : ((k : ℕ) × EndsBefore text tokens 0 k) ⊎ ((fault : TypeFault) × HasStop text tokens 0 fault) → Answer
    by_end (inl (k, ends)) = by_place k ends (cases_lt k (length tokens))
    by_end (inr (fault, stop)) = inr (fault, whole-stop text tokens are fault stop)

pub reading_or_fault : ReadingOrFault
reading_or_fault text = by_tokens (tokens_or_fault text)
  where
    by_tokens : ((tokens : List Token) × IsTokens text tokens) ⊎ ((fault : LexFault) × HasTokenFault text fault)
        → ((read : ReadScheme) × IsTypeText text read) ⊎ ((fault : TypeFault) × HasTypeFault text fault)
    by_tokens (inl (tokens, are)) = of_all_tokens text tokens are
    by_tokens (inr (fault, has)) = inr (of_tokens fault, in_tokens fault has)
