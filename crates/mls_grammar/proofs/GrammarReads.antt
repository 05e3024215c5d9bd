-- Where the machine stops, or has an expression of nesting 201, the grammar has its fault: what a reader with a stack has to know.
use Rattle.std.proofs.Common.{◌≡◌, ℕ, zero, suc, ◌<◌, ◌≤◌, Bool, true, false, List, [], ◌∷◌, ◌++◌, length, take, drop, sym, ap, ◌∙◌, subst, arith, Some, None}
use Rattle.std.specs.Prelude.{Option, slice_get}
use Rattle.std.proofs.lemmas.List.{take-append-drop, length-take-le, length-map}
use Rattle.std.proofs.lemmas.Option.{slice_get_within}
use Rattle.mls_lexer.specs.declared.token.Token.{Token}
use Rattle.mls_lexer.specs.Tokens.{Terminal, terminal, terminals}
use Rattle.mls_lexer.specs.steps.Machine.{run, step, chosen, onward, can_end}
use Rattle.mls_lexer.proofs.Machine.{run-append}
use Rattle.mls_grammar.specs.declared.fault.Fault.TheVariants.{Unexpected, Ended, TooDeep}
use Rattle.mls_grammar.specs.Phrases.{Phrase, source, yields}
use Rattle.mls_grammar.specs.GrammarFaults.{nestings, IsDeepAt, NoneDeepBefore, HasGrammarFault, unexpected, ended, too_deep}
use Rattle.mls_grammar.proofs.GrammarMachine.{ToCome, opens, may_end, read, start}
use Rattle.mls_grammar.proofs.GrammarGoing.{IsThere, going-read, read-going, source-ends}
use Rattle.mls_grammar.proofs.GrammarNesting.{own, picked, begun, further, marks, marked-source, marks-front}

-- the mark of a terminal, by any module that begins with the terminals up to it
front-mark : (ts more : List Terminal) (k : ℕ) (p : Phrase source) → k < length ts → yields p [] ≡ take (suc k) ts ++ more → slice_get (nestings 0 p []) k ≡ slice_get (marks start ts) k
front-mark ts more k p within is =
    let le : suc k ≤ length ts = within in
    let size : length (take (suc k) ts) ≡ suc k = length-take-le (suc k) ts le in
    let low : k < length (take (suc k) ts) = omega arith in
    let split : take (suc k) ts ++ drop (suc k) ts ≡ ts = take-append-drop (suc k) ts in
    let theirs : nestings 0 p [] ≡ marks start (take (suc k) ts ++ more) = sym (marked-source p) ∙ ap (marks start) is in
    ap (λ ms. slice_get ms k) theirs
    ∙ (marks-front (take (suc k) ts) more (drop (suc k) ts) start k low
    ∙ ap (λ us. slice_get (marks start us) k) split)

-- where an expression is too deep the machine has the mark
pub deep-mark : (ts : List Terminal) (k : ℕ) → IsDeepAt ts k → slice_get (marks start ts) k ≡ Some 201
deep-mark ts k it = sym (front-mark ts it.more k it.phrase it.within it.spelled) ∙ it.deep

-- where an expression begins the machine goes on
begun-step : (st : List ToCome) (t : Terminal) (m : ℕ) → begun st t ≡ suc m → IsThere (step opens may_end st t)
begun-step [] t m e = cc
begun-step (s ∷ st) t m e = go (opens s t) (may_end s) e (λ h. begun-step st t m h)
  where
    go : (o : Option (List ToCome)) (b : Bool) → picked o b (own s) (begun st t) ≡ suc m → (begun st t ≡ suc m → IsThere (step opens may_end st t)) → IsThere (chosen o b st (step opens may_end st t))
    go (Some new) b e later = tt
    go None true e later = later e
    go None false e later = cc

mark-there : (ts : List Terminal) (st : List ToCome) (k m : ℕ) → slice_get (marks st ts) k ≡ Some (suc m) → IsThere (read st (take (suc k) ts))
unfolding marks run
mark-there [] st k m e = absurd (cc)
mark-there (t ∷ ts) st zero m e = go (step opens may_end st t) (begun-step st t m cc)
  where
    go : (o : Option (List ToCome)) → IsThere o → IsThere (onward o (λ next. Some next))
    go None there = there
    go (Some next) there = tt
mark-there (t ∷ ts) st (suc k) m e = go (step opens may_end st t) e (λ next h. mark-there ts next k m h)
  where
    go : (o : Option (List ToCome)) → slice_get (further o (λ next. marks next ts)) k ≡ Some (suc m) → ((next : List ToCome) → slice_get (marks next ts) k ≡ Some (suc m) → IsThere (read next (take (suc k) ts))) → IsThere (onward o (λ next. read next (take (suc k) ts)))
    go None e later = cc
    go (Some next) e later = later next e

-- and where the machine has the mark an expression is too deep
pub mark-deep : (ts : List Terminal) (k : ℕ) → k < length ts → slice_get (marks start ts) k ≡ Some 201 → IsDeepAt ts k
mark-deep ts k within e =
    let it = read-going (take (suc k) ts) (mark-there ts start k 200 e) in
    record {
      within = within;
      phrase = it.1.0;
      more = it.0;
      spelled = it.1.1;
      deep = front-mark ts it.0 k it.1.0 within it.1.1 ∙ e;
    }

-- no mark before this number is 201
abbrev pub NoMarkBefore : List Terminal → ℕ → Type 0
NoMarkBefore ts k = (j : ℕ) → j < k → slice_get (marks start ts) j ≡ Some 201 → ⊥

none-deep : (ts : List Terminal) (k : ℕ) → NoMarkBefore ts k → NoneDeepBefore ts k
none-deep ts k none = λ j low deep. none j low (deep-mark ts j deep)

next_taken : (ts : List Terminal) (k : ℕ) (t : Terminal) → slice_get ts k ≡ Some t → take (suc k) ts ≡ take k ts ++ t ∷ []
next_taken [] k t e = absurd (cc)
next_taken (u ∷ ts) zero t e = let same : u ≡ t = cc in ap (λ v. v ∷ []) same
next_taken (u ∷ ts) (suc k) t e = ap (λ us. u ∷ us) (next_taken ts k t e)

terminal_at : (text : List ℕ) (tokens : List Token) (k : ℕ) (token : Token) → slice_get tokens k ≡ Some token → slice_get (terminals text tokens) k ≡ Some (terminal text token)
terminal_at text [] k token e = absurd (cc)
terminal_at text (t ∷ tokens) zero token e = let same : t ≡ token = cc in ap (λ u. Some (terminal text u)) same
terminal_at text (t ∷ tokens) (suc k) token e = terminal_at text tokens k token e

-- so the machine finds which token is unexpected,
pub has_unexpected : (text : List ℕ) (tokens : List Token) (k : ℕ) (token : Token) (st : List ToCome) → slice_get tokens k ≡ Some token → read start (take k (terminals text tokens)) ≡ Some st → step opens may_end st (terminal text token) ≡ None → NoMarkBefore (terminals text tokens) k → HasGrammarFault text tokens (Unexpected token.start token.kind)
unfolding run
has_unexpected text tokens k token st at is stuck none =
    let ts : List Terminal = terminals text tokens in
    let split : take (suc k) ts ≡ take k ts ++ terminal text token ∷ [] = next_taken ts k (terminal text token) (terminal_at text tokens k token at) in
    let stopped : read start (take (suc k) ts) ≡ None =
    ap (read start) split
    ∙ (run-append opens may_end start (take k ts) (terminal text token ∷ [])
    ∙ (ap (λ o. onward o (λ next. read next (terminal text token ∷ []))) is
    ∙ ap (λ o. onward o (λ next. read next [])) stuck)) in
    unexpected k token at (read-going (take k ts) (subst IsThere (sym is) tt)) (λ can. subst IsThere stopped (going-read (take (suc k) ts) can)) (none-deep ts k none)

-- that the text ends too early,
pub has_ended : (text : List ℕ) (tokens : List Token) (st : List ToCome) → read start (terminals text tokens) ≡ Some st → can_end may_end st ≡ false → NoMarkBefore (terminals text tokens) (length tokens) → HasGrammarFault text tokens Ended
has_ended text tokens st is owed none =
    ended (read-going (terminals text tokens) (subst IsThere (sym is) tt))
    (λ whole. let yes : can_end may_end st ≡ true = source-ends (terminals text tokens) st is whole in cc)
    (none-deep (terminals text tokens) (length tokens) none)

-- and where an expression is nested too deep
pub has_too_deep : (text : List ℕ) (tokens : List Token) (k : ℕ) (token : Token) → slice_get tokens k ≡ Some token → slice_get (marks start (terminals text tokens)) k ≡ Some 201 → NoMarkBefore (terminals text tokens) k → HasGrammarFault text tokens (TooDeep token.start)
has_too_deep text tokens k token at mark none =
    let low : k < length tokens = slice_get_within tokens k token at in
    let size : length (terminals text tokens) ≡ length tokens = length-map tokens (λ token. terminal text token) in
    too_deep k token at (mark-deep (terminals text tokens) k (omega arith) mark) (none-deep (terminals text tokens) k none)
