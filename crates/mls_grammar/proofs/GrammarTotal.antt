-- Tokens are spelled by a phrase that is nested at most 200 deep, or the grammar has a fault.
use Rattle.std.proofs.Common.{◌≡◌, ◌⊎◌, inl, inr, ℕ, zero, suc, ◌+◌, ◌<◌, ◌≤◌, Bool, true, false, List, [], ◌∷◌, length, take, refl, sym, ap, ◌∙◌, arith, Some, None}
use Rattle.std.specs.Prelude.{Option, slice_get, max}
use Rattle.std.proofs.Math.Nat.{max-eq_left, max-eq_right}
use Rattle.std.proofs.lemmas.Bool.{cases_lt}
use Rattle.std.proofs.lemmas.List.{length-map}
use Rattle.std.proofs.lemmas.Option.{slice_get_within}
use Rattle.mls_lexer.specs.declared.token.Token.{Token}
use Rattle.mls_lexer.specs.Tokens.{Terminal, terminal, terminals}
use Rattle.mls_lexer.specs.steps.Machine.{run, step, onward, can_end}
use Rattle.mls_grammar.specs.declared.fault.Fault.TheVariants.{Unexpected, Ended, TooDeep}
use Rattle.mls_grammar.specs.Phrases.{sum, atom, Phrase, source, whole, no_import, importing, no_binding, binding, simple, recursive, fun, fix, local, choice, plain, simple_in, recursive_in, no_compare, less, equal, summed, no_sum, plus, minus, multiplied, no_product, times, applied, no_argument, argument, posted, no_dot, dot, variable, literal, truth, parens, braces, no_part, first_part, last_part, next_part, Sort, nesting}
use Rattle.mls_grammar.specs.GrammarFaults.{begin_first, nestings}
use Rattle.mls_grammar.specs.GrammarLaws.{IsPhraseOrFault, PhraseOrFault}
use Rattle.mls_grammar.proofs.GrammarMachine.{ToCome, opens, may_end, read, start}
use Rattle.mls_grammar.proofs.GrammarGoing.{ends-source}
use Rattle.mls_grammar.proofs.GrammarNesting.{further, marks, marked-source}
use Rattle.mls_grammar.proofs.GrammarReads.{has_unexpected, has_ended, has_too_deep}

-- the number is one of these
abbrev Has : ℕ → List ℕ → Type 0
Has m [] = ⊥
Has m (x ∷ xs) = (x ≡ m) ⊎ Has m xs

-- they begin with 0
abbrev BeginsZero : List ℕ → Type 0
BeginsZero [] = ⊥
BeginsZero (x ∷ xs) = x ≡ 0

atom-zero : (x : Phrase atom) (n : ℕ) (ms : List ℕ) → BeginsZero (nestings n x ms)
unfolding nestings
atom-zero (variable x) n ms = refl
atom-zero (literal value) n ms = refl
atom-zero (truth value) n ms = refl
atom-zero (parens e) n ms = refl
atom-zero (braces p) n ms = refl

sum-zero : (s : Phrase sum) (n : ℕ) (ms : List ℕ) → BeginsZero (nestings n s ms)
unfolding nestings
sum-zero (summed (multiplied (applied (posted x d) m) t) u) n ms = atom-zero x n (nestings n d (nestings n m (nestings n t (nestings n u ms))))

keep-first : (n m : ℕ) (ms : List ℕ) → 0 < m → BeginsZero ms → Has m ms → Has m (begin_first n ms)
keep-first n m [] positive begins has = absurd begins
keep-first n m (x ∷ xs) positive begins (inl e) = let zero_m : 0 ≡ m = sym begins ∙ e in absurd (omega arith)
keep-first n m (x ∷ xs) positive begins (inr has) = inr has

-- the marks of what follows a phrase stand behind its own
keep : {s : Sort} (p : Phrase s) (n m : ℕ) (ms : List ℕ) → 0 < m → Has m ms → Has m (nestings n p ms)
unfolding nestings
keep (whole i b) n m ms pos has = keep i n m _ pos (keep b n m ms pos has)
keep no_import n m ms pos has = has
keep (importing x i) n m ms pos has = inr (inr (keep i n m ms pos has))
keep no_binding n m ms pos has = has
keep (binding r) n m ms pos has = inr (keep r n m ms pos has)
keep (simple x e b) n m ms pos has = inr (inr (keep e n m _ pos (keep b n m ms pos has)))
keep (recursive x e b) n m ms pos has = inr (inr (inr (keep e n m _ pos (keep b n m ms pos has))))
keep (fun x e) n m ms pos has = inr (inr (inr (keep e (suc n) m ms pos has)))
keep (fix x e) n m ms pos has = inr (inr (inr (keep e (suc n) m ms pos has)))
keep (local r) n m ms pos has = inr (keep r (suc n) m ms pos has)
keep (choice c e f) n m ms pos has = inr (keep c (suc n) m _ pos (inr (keep e (suc n) m _ pos (inr (keep f (suc n) m ms pos has)))))
keep (plain s t) n m ms pos has = keep-first (suc n) m _ pos (sum-zero s (suc n) _) (keep s (suc n) m _ pos (keep t (suc n) m ms pos has))
keep (simple_in x e f) n m ms pos has = inr (inr (keep e n m _ pos (inr (keep f n m ms pos has))))
keep (recursive_in x e f) n m ms pos has = inr (inr (inr (keep e n m _ pos (inr (keep f n m ms pos has)))))
keep no_compare n m ms pos has = has
keep (less s) n m ms pos has = inr (keep s n m ms pos has)
keep (equal s) n m ms pos has = inr (keep s n m ms pos has)
keep (summed p t) n m ms pos has = keep p n m _ pos (keep t n m ms pos has)
keep no_sum n m ms pos has = has
keep (plus p t) n m ms pos has = inr (keep p n m _ pos (keep t n m ms pos has))
keep (minus p t) n m ms pos has = inr (keep p n m _ pos (keep t n m ms pos has))
keep (multiplied p t) n m ms pos has = keep p n m _ pos (keep t n m ms pos has)
keep no_product n m ms pos has = has
keep (times p t) n m ms pos has = inr (keep p n m _ pos (keep t n m ms pos has))
keep (applied p t) n m ms pos has = keep p n m _ pos (keep t n m ms pos has)
keep no_argument n m ms pos has = has
keep (argument p t) n m ms pos has = keep p n m _ pos (keep t n m ms pos has)
keep (posted p t) n m ms pos has = keep p n m _ pos (keep t n m ms pos has)
keep no_dot n m ms pos has = has
keep (dot x d) n m ms pos has = inr (inr (keep d n m ms pos has))
keep (variable x) n m ms pos has = inr has
keep (literal value) n m ms pos has = inr has
keep (truth value) n m ms pos has = inr has
keep (parens e) n m ms pos has = inr (keep e n m _ pos (inr has))
keep (braces p) n m ms pos has = inr (keep p n m ms pos has)
keep no_part n m ms pos has = inr has
keep (first_part x e p) n m ms pos has = inr (inr (keep e n m _ pos (keep p n m ms pos has)))
keep last_part n m ms pos has = inr has
keep (next_part x e p) n m ms pos has = inr (inr (inr (keep e n m _ pos (keep p n m ms pos has))))

either : (n m x y : ℕ) (P : Type 0) → m ≤ n + max x y → (m ≤ n + x → P) → (m ≤ n + y → P) → P
either n m x y P high first second = go (cases_lt x y)
  where
    x-below : x < y → x ≤ y
    x-below h = omega arith

    go : (x < y) ⊎ (y ≤ x) → P
    go (inl h) = let e : max x y ≡ y = max-eq_right (x-below h) in second (omega arith)
    go (inr h) = let e : max x y ≡ x = max-eq_left h in first (omega arith)

-- an expression has its own nesting first
own-or : (n m x : ℕ) (ms : List ℕ) → n < m → m ≤ n + suc x → (suc n < m → m ≤ suc n + x → Has m ms) → Has m (suc n ∷ ms)
own-or n m x ms low high rest = go (cases_lt (suc n) m)
  where
    go : (suc n < m) ⊎ (m ≤ suc n) → Has m (suc n ∷ ms)
    go (inl h) = inr (rest h (omega arith))
    go (inr h) = inl (omega arith)

first-or : (n m x : ℕ) (ms : List ℕ) → BeginsZero ms → n < m → m ≤ n + suc x → (suc n < m → m ≤ suc n + x → Has m ms) → Has m (begin_first (suc n) ms)
first-or n m x [] begins low high rest = absurd begins
first-or n m x (z ∷ zs) begins low high rest = go (cases_lt (suc n) m)
  where
    go : (suc n < m) ⊎ (m ≤ suc n) → Has m (suc n ∷ zs)
    go (inl h) = keep-first (suc n) m (z ∷ zs) (omega arith) begins (rest h (omega arith))
    go (inr h) = inl (omega arith)

-- each number up to the nesting of a phrase is one of its marks
reach : {s : Sort} (p : Phrase s) (n m : ℕ) (ms : List ℕ) → n < m → m ≤ n + nesting p → Has m (nestings n p ms)
unfolding nestings nesting
reach (whole i b) n m ms low high = keep i n m _ (omega arith) (reach b n m ms low high)
reach no_import n m ms low high = absurd (omega arith)
reach (importing x i) n m ms low high = absurd (omega arith)
reach no_binding n m ms low high = absurd (omega arith)
reach (binding r) n m ms low high = inr (reach r n m ms low high)
reach (simple x e b) n m ms low high = either n m (nesting e) (nesting b) (Has m (nestings n (simple x e b) ms)) high (λ h. inr (inr (reach e n m _ low h))) (λ h. inr (inr (keep e n m _ (omega arith) (reach b n m ms low h))))
reach (recursive x e b) n m ms low high = either n m (nesting e) (nesting b) (Has m (nestings n (recursive x e b) ms)) high (λ h. inr (inr (inr (reach e n m _ low h)))) (λ h. inr (inr (inr (keep e n m _ (omega arith) (reach b n m ms low h)))))
reach (fun x e) n m ms low high = own-or n m (nesting e) (0 ∷ 0 ∷ nestings (suc n) e ms) low high (λ l h. inr (inr (reach e (suc n) m ms l h)))
reach (fix x e) n m ms low high = own-or n m (nesting e) (0 ∷ 0 ∷ nestings (suc n) e ms) low high (λ l h. inr (inr (reach e (suc n) m ms l h)))
reach (local r) n m ms low high = own-or n m (nesting r) (nestings (suc n) r ms) low high (λ l h. reach r (suc n) m ms l h)
reach (choice c e f) n m ms low high =
    own-or n m (max (nesting c) (max (nesting e) (nesting f))) (nestings (suc n) c (0 ∷ nestings (suc n) e (0 ∷ nestings (suc n) f ms))) low high
    (λ l h. either (suc n) m (nesting c) (max (nesting e) (nesting f)) (Has m (nestings (suc n) c (0 ∷ nestings (suc n) e (0 ∷ nestings (suc n) f ms)))) h
    (λ h. reach c (suc n) m _ l h)
    (λ h. keep c (suc n) m _ (omega arith)
    (inr (either (suc n) m (nesting e) (nesting f) (Has m (nestings (suc n) e (0 ∷ nestings (suc n) f ms))) h
    (λ h. reach e (suc n) m _ l h)
    (λ h. keep e (suc n) m _ (omega arith) (inr (reach f (suc n) m ms l h)))))))
reach (plain s t) n m ms low high =
    first-or n m (max (nesting s) (nesting t)) (nestings (suc n) s (nestings (suc n) t ms)) (sum-zero s (suc n) _) low high
    (λ l h. either (suc n) m (nesting s) (nesting t) (Has m (nestings (suc n) s (nestings (suc n) t ms))) h (λ h. reach s (suc n) m _ l h) (λ h. keep s (suc n) m _ (omega arith) (reach t (suc n) m ms l h)))
reach (simple_in x e f) n m ms low high = either n m (nesting e) (nesting f) (Has m (nestings n (simple_in x e f) ms)) high (λ h. inr (inr (reach e n m _ low h))) (λ h. inr (inr (keep e n m _ (omega arith) (inr (reach f n m ms low h)))))
reach (recursive_in x e f) n m ms low high = either n m (nesting e) (nesting f) (Has m (nestings n (recursive_in x e f) ms)) high (λ h. inr (inr (inr (reach e n m _ low h)))) (λ h. inr (inr (inr (keep e n m _ (omega arith) (inr (reach f n m ms low h))))))
reach no_compare n m ms low high = absurd (omega arith)
reach (less s) n m ms low high = inr (reach s n m ms low high)
reach (equal s) n m ms low high = inr (reach s n m ms low high)
reach (summed p t) n m ms low high = either n m (nesting p) (nesting t) (Has m (nestings n (summed p t) ms)) high (λ h. reach p n m _ low h) (λ h. keep p n m _ (omega arith) (reach t n m ms low h))
reach no_sum n m ms low high = absurd (omega arith)
reach (plus p t) n m ms low high = either n m (nesting p) (nesting t) (Has m (nestings n (plus p t) ms)) high (λ h. inr (reach p n m _ low h)) (λ h. inr (keep p n m _ (omega arith) (reach t n m ms low h)))
reach (minus p t) n m ms low high = either n m (nesting p) (nesting t) (Has m (nestings n (minus p t) ms)) high (λ h. inr (reach p n m _ low h)) (λ h. inr (keep p n m _ (omega arith) (reach t n m ms low h)))
reach (multiplied p t) n m ms low high = either n m (nesting p) (nesting t) (Has m (nestings n (multiplied p t) ms)) high (λ h. reach p n m _ low h) (λ h. keep p n m _ (omega arith) (reach t n m ms low h))
reach no_product n m ms low high = absurd (omega arith)
reach (times p t) n m ms low high = either n m (nesting p) (nesting t) (Has m (nestings n (times p t) ms)) high (λ h. inr (reach p n m _ low h)) (λ h. inr (keep p n m _ (omega arith) (reach t n m ms low h)))
reach (applied p t) n m ms low high = either n m (nesting p) (nesting t) (Has m (nestings n (applied p t) ms)) high (λ h. reach p n m _ low h) (λ h. keep p n m _ (omega arith) (reach t n m ms low h))
reach no_argument n m ms low high = absurd (omega arith)
reach (argument p t) n m ms low high = either n m (nesting p) (nesting t) (Has m (nestings n (argument p t) ms)) high (λ h. reach p n m _ low h) (λ h. keep p n m _ (omega arith) (reach t n m ms low h))
reach (posted p t) n m ms low high = either n m (nesting p) (nesting t) (Has m (nestings n (posted p t) ms)) high (λ h. reach p n m _ low h) (λ h. keep p n m _ (omega arith) (reach t n m ms low h))
reach no_dot n m ms low high = absurd (omega arith)
reach (dot x d) n m ms low high = inr (inr (reach d n m ms low high))
reach (variable x) n m ms low high = absurd (omega arith)
reach (literal value) n m ms low high = absurd (omega arith)
reach (truth value) n m ms low high = absurd (omega arith)
reach (parens e) n m ms low high = inr (reach e n m _ low high)
reach (braces p) n m ms low high = inr (reach p n m ms low high)
reach no_part n m ms low high = absurd (omega arith)
reach (first_part x e p) n m ms low high = either n m (nesting e) (nesting p) (Has m (nestings n (first_part x e p) ms)) high (λ h. inr (inr (reach e n m _ low h))) (λ h. inr (inr (keep e n m _ (omega arith) (reach p n m ms low h))))
reach last_part n m ms low high = absurd (omega arith)
reach (next_part x e p) n m ms low high = either n m (nesting e) (nesting p) (Has m (nestings n (next_part x e p) ms)) high (λ h. inr (inr (inr (reach e n m _ low h)))) (λ h. inr (inr (inr (keep e n m _ (omega arith) (reach p n m ms low h)))))

has-at : (m : ℕ) (ms : List ℕ) → Has m ms → (k : ℕ) × (slice_get ms k ≡ Some m)
has-at m [] has = absurd has
has-at m (x ∷ xs) (inl e) = (0, ap (λ y. Some y) e)
has-at m (x ∷ xs) (inr has) = let it = has-at m xs has in (suc it.0, it.1)

-- a module without a mark of 201 is nested at most 200 deep
pub shallow : (p : Phrase source) → ((k : ℕ) → slice_get (nestings 0 p []) k ≡ Some 201 → ⊥) → nesting p ≤ 200
shallow p none = go (cases_lt 200 (nesting p))
  where
    go : (200 < nesting p) ⊎ (nesting p ≤ 200) → nesting p ≤ 200
    go (inl h) = let it = has-at 201 (nestings 0 p []) (reach p 0 201 [] (omega arith) (omega arith)) in absurd (none it.0 it.1)
    go (inr h) = h

-- the machine reads all, or stops before a terminal
abbrev Stop : List Terminal → List ToCome → Type 0
Stop ts st =
    ((next : List ToCome) × (read st ts ≡ Some next))
    ⊎ ((k : ℕ) × (next : List ToCome) × (t : Terminal) × (slice_get ts k ≡ Some t) × (read st (take k ts) ≡ Some next) × (step opens may_end next t ≡ None))

stop : (ts : List Terminal) (st : List ToCome) → Stop ts st
unfolding run
stop [] st = inl (st, refl)
stop (t ∷ ts) st = go (step opens may_end st t) refl (λ next. stop ts next)
  where
    behind : (next : List ToCome) → step opens may_end st t ≡ Some next → Stop ts next → Stop (t ∷ ts) st
    behind next e (inl it) = inl (it.0, ap (λ o. onward o (λ next. read next ts)) e ∙ it.1)
    behind next e (inr it) = inr (suc it.0, it.1, it.2, it.3, ap (λ o. onward o (λ next. read next (take it.0 ts))) e ∙ it.4, it.5)

    go : (o : Option (List ToCome)) → step opens may_end st t ≡ o → ((next : List ToCome) → Stop ts next) → Stop (t ∷ ts) st
    go None e later = inr (0, st, t, refl, refl, e)
    go (Some next) e later = behind next e (later next)

-- the first mark of 201, or none
abbrev First : List ℕ → Type 0
First ms =
    ((k : ℕ) × (slice_get ms k ≡ Some 201) × ((j : ℕ) → j < k → slice_get ms j ≡ Some 201 → ⊥))
    ⊎ ((j : ℕ) → slice_get ms j ≡ Some 201 → ⊥)

first-later : (x : ℕ) (xs : List ℕ) → (x ≡ 201 → ⊥) → First xs → First (x ∷ xs)
first-later x xs other (inl it) = inl (suc it.0, it.1, earlier)
  where
    earlier : (j : ℕ) → j < suc it.0 → slice_get (x ∷ xs) j ≡ Some 201 → ⊥
    earlier zero low e = other cc
    earlier (suc j) low e = it.2 j (omega arith) e
first-later x xs other (inr none) = inr nowhere
  where
    nowhere : (j : ℕ) → slice_get (x ∷ xs) j ≡ Some 201 → ⊥
    nowhere zero e = other cc
    nowhere (suc j) e = none j e

first : (ms : List ℕ) → First ms
first [] = inr (λ j e. cc)
first (x ∷ xs) = go (cases_lt x 201) (cases_lt 201 x) (first xs)
  where
    go : (x < 201) ⊎ (201 ≤ x) → (201 < x) ⊎ (x ≤ 201) → First xs → First (x ∷ xs)
    go (inl h) other rest = first-later x xs (λ e. absurd (omega arith)) rest
    go (inr h) (inl i) rest = first-later x xs (λ e. absurd (omega arith)) rest
    go (inr h) (inr i) rest = let here : x ≡ 201 = omega arith in inl (0, ap (λ y. Some y) here, (λ j low e. absurd (omega arith)))

pub mark-within : (ts : List Terminal) (st : List ToCome) (k m : ℕ) → slice_get (marks st ts) k ≡ Some m → k < length ts
unfolding marks
mark-within [] st k m e = absurd (cc)
mark-within (t ∷ ts) st zero m e = omega arith
mark-within (t ∷ ts) st (suc k) m e = go (step opens may_end st t) e (λ next h. mark-within ts next k m h)
  where
    go : (o : Option (List ToCome)) → slice_get (further o (λ next. marks next ts)) k ≡ Some m → ((next : List ToCome) → slice_get (marks next ts) k ≡ Some m → k < length ts) → suc k < suc (length ts)
    go None e later = absurd (cc)
    go (Some next) e later = let low : k < length ts = later next e in omega arith

token_at : (tokens : List Token) (k : ℕ) → k < length tokens → (token : Token) × (slice_get tokens k ≡ Some token)
token_at [] k low = absurd (omega arith)
token_at (t ∷ tokens) zero low = (t, refl)
token_at (t ∷ tokens) (suc k) low = token_at tokens k (omega arith)

terminal_within : (text : List ℕ) (tokens : List Token) (k : ℕ) → k < length (terminals text tokens) → k < length tokens
terminal_within text tokens k low = let size : length (terminals text tokens) ≡ length tokens = length-map tokens (λ token. terminal text token) in omega arith

token_terminal : (text : List ℕ) (tokens : List Token) (k : ℕ) (token : Token) (t : Terminal) → slice_get tokens k ≡ Some token → slice_get (terminals text tokens) k ≡ Some t → terminal text token ≡ t
token_terminal text [] k token t e e' = absurd (cc)
token_terminal text (u ∷ tokens) zero token t e e' =
    let same : u ≡ token = cc in
    let there : terminal text u ≡ t = cc in
    ap (terminal text) (sym same) ∙ there
token_terminal text (u ∷ tokens) (suc k) token t e e' = token_terminal text tokens k token t e e'

pub phrase_or_fault : PhraseOrFault
phrase_or_fault text tokens = by_mark (first (marks start ts))
  where
    ts : List Terminal
    ts = terminals text tokens

    read_all : (st : List ToCome) → read start ts ≡ Some st → ((j : ℕ) → slice_get (marks start ts) j ≡ Some 201 → ⊥) → (b : Bool) → can_end may_end st ≡ b → IsPhraseOrFault text tokens
    read_all st is none true e =
        let it = ends-source ts st is e in
        let same : nestings 0 it.0 [] ≡ marks start ts = sym (marked-source it.0) ∙ ap (marks start) it.1 in
        inl (it.0, it.1, shallow it.0 (λ k h. none k (ap (λ ms. slice_get ms k) (sym same) ∙ h)))
    read_all st is none false e = inr (Ended, has_ended text tokens st is e (λ j low h. none j h))

    by_stop : ((j : ℕ) → slice_get (marks start ts) j ≡ Some 201 → ⊥) → Stop ts start → IsPhraseOrFault text tokens
    by_stop none (inl it) = read_all it.0 it.1 none (can_end may_end it.0) refl
    by_stop none (inr it) =
        let low : it.0 < length ts = slice_get_within ts it.0 it.2 it.3 in
        let at = token_at tokens it.0 (terminal_within text tokens it.0 low) in
        let same : terminal text at.0 ≡ it.2 = token_terminal text tokens it.0 at.0 it.2 at.1 it.3 in
        let stuck : step opens may_end it.1 (terminal text at.0) ≡ None = ap (step opens may_end it.1) same ∙ it.5 in
        inr (Unexpected at.0.start at.0.kind, has_unexpected text tokens it.0 at.0 it.1 at.1 it.4 stuck (λ j low h. none j h))

    by_mark : First (marks start ts) → IsPhraseOrFault text tokens
    by_mark (inl it) =
        let at = token_at tokens it.0 (terminal_within text tokens it.0 (mark-within ts start it.0 201 it.1)) in
        inr (TooDeep at.0.start, has_too_deep text tokens it.0 at.0 at.1 it.1 it.2)
    by_mark (inr none) = by_stop none (stop ts start)
