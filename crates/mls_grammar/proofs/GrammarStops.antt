-- The grammar has one fault at most, and none beside a module.
use Rattle.std.proofs.Common.{◌≡◌, ◌⊎◌, inl, inr, ℕ, zero, suc, ◌<◌, ◌≤◌, List, [], ◌∷◌, ◌++◌, take, drop, refl, sym, ap, ◌∙◌, subst, arith, Some, append-nil}
use Rattle.std.specs.Prelude.{slice_get}
use Rattle.std.proofs.lemmas.Bool.{cases_lt}
use Rattle.std.proofs.lemmas.List.{take-append-drop, append_assoc}
use Rattle.std.proofs.lemmas.Option.{slice_get_within}
use Rattle.mls_lexer.specs.declared.token.Token.{Token}
use Rattle.mls_lexer.specs.Tokens.{Terminal, terminals}
use Rattle.mls_grammar.specs.declared.fault.Fault.{Fault}
use Rattle.mls_grammar.specs.declared.fault.Fault.TheVariants.{Unexpected, TooDeep}
use Rattle.mls_grammar.specs.Phrases.{Phrase, source, yields, nesting}
use Rattle.mls_grammar.specs.GrammarFaults.{IsSource, CanGoOn, IsDeepAt, NoneDeepBefore, HasGrammarFault, unexpected, ended, too_deep}
use Rattle.mls_grammar.proofs.GrammarNesting.{deep-here, shallow-not_deep}

-- what begins a module begins it with its own beginning
going-front : (us vs : List Terminal) → CanGoOn (us ++ vs) → CanGoOn us
going-front us vs it = (vs ++ it.0, (it.1.0, it.1.1 ∙ append_assoc us vs it.0))

take_front : (ts : List Terminal) (n m : ℕ) → n ≤ m → (rest : List Terminal) × (take m ts ≡ take n ts ++ rest)
take_front [] zero m le = (take m [], refl)
take_front [] (suc n) zero le = absurd (omega arith)
take_front [] (suc n) (suc m) le = ([], refl)
take_front (t ∷ ts) zero m le = (take m (t ∷ ts), refl)
take_front (t ∷ ts) (suc n) zero le = absurd (omega arith)
take_front (t ∷ ts) (suc n) (suc m) le =
    let it = take_front ts n m (omega arith) in
    (it.0, ap (λ us. t ∷ us) it.1)

going-less : (ts : List Terminal) (n m : ℕ) → n ≤ m → CanGoOn (take m ts) → CanGoOn (take n ts)
going-less ts n m le can =
    let it = take_front ts n m le in
    going-front (take n ts) it.0 (subst CanGoOn it.1 can)

going-all : (ts : List Terminal) (n : ℕ) → CanGoOn ts → CanGoOn (take n ts)
going-all ts n can = going-front (take n ts) (drop n ts) (subst CanGoOn (sym (take-append-drop n ts)) can)

-- a module goes on
pub source-going : (ts : List Terminal) → IsSource ts → CanGoOn ts
source-going ts is = ([], subst IsSource (sym (append-nil ts)) is)

-- where an expression is too deep, it has begun
deep-going : (ts : List Terminal) (k : ℕ) → IsDeepAt ts k → CanGoOn (take (suc k) ts)
deep-going ts k it = (it.more, (it.phrase, it.spelled))

unexpected_token : (token other : Token) → Some token ≡ Some other → Unexpected token.start token.kind ≡ Unexpected other.start other.kind
unexpected_token token other e = let same : token ≡ other = cc in λ i. Unexpected (same i).start (same i).kind

deep_token : (token other : Token) → Some token ≡ Some other → TooDeep token.start ≡ TooDeep other.start
deep_token token other e = let same : token ≡ other = cc in λ i. TooDeep (same i).start

one_unexpected : (ts : List Terminal) (n m : ℕ) → CanGoOn (take n ts) → (CanGoOn (take (suc n) ts) → ⊥) → CanGoOn (take m ts) → (CanGoOn (take (suc m) ts) → ⊥) → n ≡ m
one_unexpected ts n m can stop can' stop' = go (cases_lt n m) (cases_lt m n)
  where
    go : (n < m) ⊎ (m ≤ n) → (m < n) ⊎ (n ≤ m) → n ≡ m
    go (inl h) other = absurd (stop (going-less ts (suc n) m (omega arith) can'))
    go (inr h) (inl k) = absurd (stop' (going-less ts (suc m) n (omega arith) can))
    go (inr h) (inr k) = omega arith

one_deep : (ts : List Terminal) (n m : ℕ) → IsDeepAt ts n → NoneDeepBefore ts n → IsDeepAt ts m → NoneDeepBefore ts m → n ≡ m
one_deep ts n m deep none deep' none' = go (cases_lt n m) (cases_lt m n)
  where
    go : (n < m) ⊎ (m ≤ n) → (m < n) ⊎ (n ≤ m) → n ≡ m
    go (inl h) other = absurd (none' n h deep)
    go (inr h) (inl k) = absurd (none m k deep')
    go (inr h) (inr k) = omega arith

-- no token is unexpected where an expression is the first too deep one
not_both : (ts : List Terminal) (n m : ℕ) → (CanGoOn (take (suc n) ts) → ⊥) → NoneDeepBefore ts n → IsDeepAt ts m → ⊥
not_both ts n m stop none deep = go (cases_lt m n)
  where
    go : (m < n) ⊎ (n ≤ m) → ⊥
    go (inl h) = none m h deep
    go (inr h) = stop (going-less ts (suc n) (suc m) (omega arith) (deep-going ts m deep))

pub one_grammar_fault : (text : List ℕ) (tokens : List Token) (fault other : Fault) → HasGrammarFault text tokens fault → HasGrammarFault text tokens other → fault ≡ other
one_grammar_fault text tokens _ _ (unexpected n token at can stop none) (unexpected m other at' can' stop' none') =
    let same : n ≡ m = one_unexpected (terminals text tokens) n m can stop can' stop' in
    unexpected_token token other (sym at ∙ (ap (slice_get tokens) same ∙ at'))
one_grammar_fault text tokens _ _ (unexpected n token at can stop none) (ended can' no_source none') = absurd (stop (going-all (terminals text tokens) (suc n) can'))
one_grammar_fault text tokens _ _ (unexpected n token at can stop none) (too_deep m other at' deep none') = absurd (not_both (terminals text tokens) n m stop none deep)
one_grammar_fault text tokens _ _ (ended can no_source none) (unexpected n token at can' stop none') = absurd (stop (going-all (terminals text tokens) (suc n) can))
one_grammar_fault text tokens _ _ (ended can no_source none) (ended can' no_source' none') = refl
one_grammar_fault text tokens _ _ (ended can no_source none) (too_deep m other at deep none') = absurd (none m (slice_get_within tokens m other at) deep)
one_grammar_fault text tokens _ _ (too_deep m other at deep none) (unexpected n token at' can stop none') = absurd (not_both (terminals text tokens) n m stop none' deep)
one_grammar_fault text tokens _ _ (too_deep m other at deep none) (ended can no_source none') = absurd (none' m (slice_get_within tokens m other at) deep)
one_grammar_fault text tokens _ _ (too_deep n token at deep none) (too_deep m other at' deep' none') =
    let same : n ≡ m = one_deep (terminals text tokens) n m deep none deep' none' in
    deep_token token other (sym at ∙ (ap (slice_get tokens) same ∙ at'))

-- where a phrase that is not too deep spells the tokens, there is none
pub no_grammar_fault : (text : List ℕ) (tokens : List Token) (p : Phrase source) (fault : Fault) → yields p [] ≡ terminals text tokens → nesting p ≤ 200 → HasGrammarFault text tokens fault → ⊥
no_grammar_fault text tokens p _ is shallow (unexpected n token at can stop none) = stop (going-all (terminals text tokens) (suc n) (source-going (terminals text tokens) (p, is)))
no_grammar_fault text tokens p _ is shallow (ended can no_source none) = no_source (p, is)
no_grammar_fault text tokens p _ is shallow (too_deep n token at deep none) = shallow-not_deep p n shallow (deep-here (terminals text tokens) n p is deep)
