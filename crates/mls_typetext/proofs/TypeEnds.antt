-- How the loop over tokens goes on and ends, where the stack is that of the machine.
use Rattle.std.proofs.Common.{◌≡◌, ℕ, zero, suc, ◌+◌, ◌-◌, ◌<◌, ◌≤◌, true, false, List, [], ◌∷◌, ◌++◌, length, take, drop, slice_range, get_or, sym, ap, ◌∙◌, subst, arith, add-one, Some, None}
use Rattle.std.specs.Prelude.{slice_get, option_map}
use Rattle.std.specs.List.{list_all}
use Rattle.std.proofs.lemmas.List.{length-map, length-drop, take_all, drop-map, get_or-drop}
use Rattle.std.proofs.lemmas.Option.{slice_get-map, slice_get-get_or, slice_get_past, get_or_from_slice_get}
use Rattle.mls_lexer.specs.declared.token.Token.{Token}
use Rattle.mls_lexer.specs.Tokens.{Terminal, terminal, terminals}
use Rattle.mls_lexer.specs.steps.Machine.{run, step, onward}
use Rattle.mls_lexer.proofs.Machine.{run-append}
use Rattle.mls_typetext.specs.declared.end.EndPart.{EndPart as Kept}
use Rattle.mls_typetext.specs.declared.end.Step.TheVariants.{Read, Over, Stuck}
use Rattle.mls_typetext.specs.declared.scheme.TypeFault.TheVariants.{Unexpected, Ended}
use Rattle.mls_typetext.specs.Phrases.{whole}
use Rattle.mls_typetext.specs.steps.EndTable.{ToCome, a, opens, may_end}
use Rattle.mls_typetext.specs.steps.EndStacks.{part_of, stack_of, Stepped}
use Rattle.mls_typetext.specs.Stops.{EndsBefore, HasStop}
use Rattle.mls_typetext.proofs.TypeMachine.{read}
use Rattle.mls_typetext.proofs.TypeStops.{IsRead, IsStuck, ends_before, has_stop, has_ended}
use Rattle.mls_typetext.proofs.StackSteps.{all-can_end}

pub take-more : (ts : List Terminal) (n : ℕ) (t : Terminal) → slice_get ts n ≡ Some t → take (suc n) ts ≡ take n ts ++ t ∷ []
take-more [] n t e = absurd (cc)
take-more (first ∷ ts) zero t e = let same : first ≡ t = cc in ap (λ t. t ∷ []) same
take-more (first ∷ ts) (suc n) t e = ap (λ us. first ∷ us) (take-more ts n t e)

-- one terminal more is read by one step
pub read-more : (ts : List Terminal) (n : ℕ) (t : Terminal) (st next : List ToCome) → IsRead ts n st → slice_get ts n ≡ Some t → step opens may_end st t ≡ Some next → IsRead ts (suc n) next
unfolding run
read-more ts n t st next is at goes =
    ap (read (a whole ∷ [])) (take-more ts n t at)
    ∙ (run-append opens may_end (a whole ∷ []) (take n ts) (t ∷ [])
    ∙ (ap (λ o. onward o (λ next. read next (t ∷ []))) is
    ∙ ap (λ o. onward o (λ next. read next [])) goes))

pub stuck-at : (ts : List Terminal) (n : ℕ) (t : Terminal) (st : List ToCome) → slice_get ts n ≡ Some t → step opens may_end st t ≡ None → IsStuck ts n st
stuck-at ts n t st at none = λ other at'.
    let same : t ≡ other = same_some t other (sym at ∙ at') in
    ap (step opens may_end st) (sym same) ∙ none
  where
    same_some : (x y : Terminal) → Some x ≡ Some y → x ≡ y
    same_some x y e = cc

stuck-past : (ts : List Terminal) (n : ℕ) (st : List ToCome) → length ts ≤ n → IsStuck ts n st
stuck-past ts n st past = λ t at. let none : None ≡ Some t = sym (slice_get_past ts n past) ∙ at in absurd (cc)

-- the tokens from a token on, as the loop has them
abbrev pub rest_of : List Token → ℕ → List Token
rest_of tokens from = take (length tokens - from) (drop from tokens)

rest_of-drop : (tokens : List Token) (from : ℕ) → rest_of tokens from ≡ drop from tokens
rest_of-drop tokens from =
    let size : length (drop from tokens) ≡ length tokens - from = length-drop from tokens in
    take_all (length tokens - from) (drop from tokens) (omega arith)

module _ (text : List ℕ) (tokens : List Token) (from : ℕ) where
  count-rest : length (drop from (terminals text tokens)) ≡ length tokens - from
  count-rest = length-drop from (terminals text tokens) ∙ ap (λ n. n - from) (length-map tokens (λ token. terminal text token))

  count-tokens : length (rest_of tokens from) ≡ length tokens - from
  count-tokens = ap length (rest_of-drop tokens from) ∙ length-drop from tokens

  -- token n of the rest, and its terminal
  module _ (n : ℕ) (d : Token) (less : n < length (rest_of tokens from)) where
    abbrev bytes : List ℕ
    bytes = slice_range text (get_or (rest_of tokens from) n d).start (get_or (rest_of tokens from) n d).end

    token-rest : slice_get (drop from tokens) n ≡ Some (get_or (rest_of tokens from) n d)
    token-rest = ap (λ ts. slice_get ts n) (sym (rest_of-drop tokens from)) ∙ slice_get-get_or (rest_of tokens from) n d less

    terminal-rest : slice_get (drop from (terminals text tokens)) n ≡ Some (terminal text (get_or (rest_of tokens from) n d))
    terminal-rest =
        ap (λ ts. slice_get ts n) (drop-map (λ token. terminal text token) from tokens)
        ∙ (slice_get-map (λ token. terminal text token) (drop from tokens) n
        ∙ ap (option_map (λ token. terminal text token)) token-rest)

    token-all : slice_get tokens (from + n) ≡ Some (get_or (rest_of tokens from) n d)
    token-all =
        let size = count-tokens in
        slice_get-get_or tokens (from + n) d (omega arith)
        ∙ ap Some (sym (get_or-drop from tokens n d) ∙ get_or_from_slice_get (drop from tokens) n (get_or (rest_of tokens from) n d) d token-rest)

    within : n ≤ length (drop from (terminals text tokens))
    within = let size = count-tokens in let size' = count-rest in omega arith

    -- a token is read,
    pub token-read : (old new : List Kept) → IsRead (drop from (terminals text tokens)) n (stack_of old) → Stepped (get_or (rest_of tokens from) n d).kind old new Read → IsRead (drop from (terminals text tokens)) (n + 1) (stack_of new)
    token-read old new is it =
        subst (λ m. IsRead (drop from (terminals text tokens)) m (stack_of new)) (sym (add-one n))
        (read-more (drop from (terminals text tokens)) n (terminal text (get_or (rest_of tokens from) n d)) (stack_of old) (stack_of new) is terminal-rest (it bytes))

    -- the type is over before it,
    pub token-over : (old new : List Kept) → IsRead (drop from (terminals text tokens)) n (stack_of old) → Stepped (get_or (rest_of tokens from) n d).kind old new Over → EndsBefore text tokens from (from + n)
    token-over old new is it =
        ends_before text tokens from n (stack_of old) within is
        (stuck-at (drop from (terminals text tokens)) n (terminal text (get_or (rest_of tokens from) n d)) (stack_of old) terminal-rest (it.0 bytes))
        it.1

    -- or it is unexpected
    pub token-stuck : (old new : List Kept) → IsRead (drop from (terminals text tokens)) n (stack_of old) → Stepped (get_or (rest_of tokens from) n d).kind old new Stuck → HasStop text tokens from (Unexpected (get_or (rest_of tokens from) n d).start (get_or (rest_of tokens from) n d).kind)
    token-stuck old new is it =
        has_stop text tokens from n (stack_of old) (get_or (rest_of tokens from) n d) within is
        (stuck-at (drop from (terminals text tokens)) n (terminal text (get_or (rest_of tokens from) n d)) (stack_of old) terminal-rest (it.0 bytes))
        it.1 token-all

  -- behind the last token the type is over,
  read-all : (n : ℕ) (st : List ToCome) → length (rest_of tokens from) ≤ n → IsRead (drop from (terminals text tokens)) n st → read (a whole ∷ []) (drop from (terminals text tokens)) ≡ Some st
  read-all n st past is =
      let size = count-tokens in
      let size' = count-rest in
      ap (read (a whole ∷ [])) (sym (take_all n (drop from (terminals text tokens)) (omega arith))) ∙ is

  pub last-over : (n : ℕ) (st : List Kept) → from ≤ length tokens → length (rest_of tokens from) ≤ n → IsRead (drop from (terminals text tokens)) n (stack_of st)
      → list_all (λ part. may_end (part_of part)) st ≡ true → EndsBefore text tokens from (length tokens)
  last-over n st inside past is can =
      let ts = drop from (terminals text tokens) in
      let size = count-rest in
      subst (EndsBefore text tokens from) (omega arith)
      (ends_before text tokens from (length ts) (stack_of st) (omega arith)
      (ap (read (a whole ∷ [])) (take_all (length ts) ts (omega arith)) ∙ read-all n (stack_of st) past is)
      (stuck-past ts (length ts) (stack_of st) (omega arith))
      (sym (all-can_end st) ∙ can))

  -- or it ends too early
  pub last-early : (n : ℕ) (st : List Kept) → length (rest_of tokens from) ≤ n → IsRead (drop from (terminals text tokens)) n (stack_of st)
      → list_all (λ part. may_end (part_of part)) st ≡ false → HasStop text tokens from Ended
  last-early n st past is owed = has_ended text tokens from (stack_of st) (read-all n (stack_of st) past is) (sym (all-can_end st) ∙ owed)
