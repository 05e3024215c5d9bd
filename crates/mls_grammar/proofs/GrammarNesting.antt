-- The machine knows the nesting of the expression that begins at a terminal, so all modules with the terminals up to it agree on it.
use Rattle.std.proofs.Common.{◌≡◌, ℕ, zero, suc, ◌+◌, ◌<◌, ◌≤◌, Bool, true, false, List, [], ◌∷◌, ◌++◌, length, take, drop, refl, sym, ap, ◌∙◌, arith, Some, None}
use Rattle.std.specs.Prelude.{Option, slice_get, max}
use Rattle.std.proofs.Math.Nat.{le-max_left, le-max_right}
use Rattle.std.proofs.lemmas.List.{take-append-drop, length-take-le}
use Rattle.mls_lexer.specs.declared.token.Kind.TheVariants as kind
use Rattle.mls_lexer.specs.Tokens.{Terminal, word}
use Rattle.mls_lexer.specs.steps.Machine.{step}
use Rattle.mls_grammar.specs.Phrases.{Sort, source, imports, bindings, bind_rest, expr, compare_tail, sum, sum_tail, product, product_tail, apply, arguments, post, dots, atom, more_parts, Phrase, whole, no_import, importing, no_binding, binding, simple, recursive, fun, fix, local, choice, plain, simple_in, recursive_in, no_compare, less, equal, summed, no_sum, plus, minus, multiplied, no_product, times, applied, no_argument, argument, posted, no_dot, dot, variable, literal, truth, parens, braces, no_part, first_part, last_part, next_part, yields, nesting}
use Rattle.mls_grammar.specs.GrammarFaults.{begin_first, nestings, IsDeepAt}
use Rattle.mls_grammar.proofs.GrammarMachine.{ToCome, a, the_then, the_else, the_in, the_paren, opens, may_end, start, End, behind_imports, may_compare, compared, tails, end_of, before, left}

-- the nesting of the expression that a part is, and 0 for any other part
abbrev pub own : ToCome → ℕ
own (a n expr) = suc n
own _ = 0

abbrev pub picked : Option (List ToCome) → Bool → ℕ → ℕ → ℕ
picked (Some new) empty n later = n
picked None true n later = later
picked None false n later = 0

-- the nesting of the expression that begins at a terminal
abbrev pub begun : List ToCome → Terminal → ℕ
begun [] t = 0
begun (s ∷ st) t = picked (opens s t) (may_end s) (own s) (begun st t)

abbrev pub further : Option (List ToCome) → (List ToCome → List ℕ) → List ℕ
further None next = []
further (Some st) next = next st

-- and so for each of the terminals that the machine reads
unfoldable pub marks : List ToCome → List Terminal → List ℕ
marks st [] = []
marks st (t ∷ ts) = begun st t ∷ further (step opens may_end st t) (λ next. marks next ts)

-- where an expression ends, no tail of it begins
pass_let : (e : End) (n : ℕ) (st : List ToCome) (ts : List Terminal) → marks (tails e ++ a n bindings ∷ st) (word kind.WordLet ∷ ts) ≡ 0 ∷ marks (a n bind_rest ∷ st) ts
unfolding marks
pass_let (behind_imports m) n st ts = refl
pass_let (may_compare m) n st ts = refl
pass_let (compared m) n st ts = refl

pass_then : (e : End) (st : List ToCome) (ts : List Terminal) → marks (tails e ++ the_then ∷ st) (word kind.WordThen ∷ ts) ≡ 0 ∷ marks st ts
unfolding marks
pass_then (behind_imports m) st ts = refl
pass_then (may_compare m) st ts = refl
pass_then (compared m) st ts = refl

pass_else : (e : End) (st : List ToCome) (ts : List Terminal) → marks (tails e ++ the_else ∷ st) (word kind.WordElse ∷ ts) ≡ 0 ∷ marks st ts
unfolding marks
pass_else (behind_imports m) st ts = refl
pass_else (may_compare m) st ts = refl
pass_else (compared m) st ts = refl

pass_in : (e : End) (st : List ToCome) (ts : List Terminal) → marks (tails e ++ the_in ∷ st) (word kind.WordIn ∷ ts) ≡ 0 ∷ marks st ts
unfolding marks
pass_in (behind_imports m) st ts = refl
pass_in (may_compare m) st ts = refl
pass_in (compared m) st ts = refl

pass_paren : (e : End) (st : List ToCome) (ts : List Terminal) → marks (tails e ++ the_paren ∷ st) (word kind.ParenRight ∷ ts) ≡ 0 ∷ marks st ts
unfolding marks
pass_paren (behind_imports m) st ts = refl
pass_paren (may_compare m) st ts = refl
pass_paren (compared m) st ts = refl

pass_part : (e : End) (n : ℕ) (p : Phrase more_parts) (st : List ToCome) (ts : List Terminal) → marks (tails e ++ a n more_parts ∷ st) (yields p ts) ≡ marks (a n more_parts ∷ st) (yields p ts)
unfolding marks yields
pass_part (behind_imports m) n last_part st ts = refl
pass_part (may_compare m) n last_part st ts = refl
pass_part (compared m) n last_part st ts = refl
pass_part (behind_imports m) n (next_part x e p) st ts = refl
pass_part (may_compare m) n (next_part x e p) st ts = refl
pass_part (compared m) n (next_part x e p) st ts = refl

-- an operand begins with its first atom
begins_plain : (n : ℕ) (x : Phrase atom) (st : List ToCome) (ts : List Terminal) → marks (a n expr ∷ st) (yields x ts) ≡ begin_first (suc n) (marks (a (suc n) sum ∷ a (suc n) compare_tail ∷ st) (yields x ts))
unfolding yields marks
begins_plain n (variable x) st ts = refl
begins_plain n (literal value) st ts = refl
begins_plain n (truth true) st ts = refl
begins_plain n (truth false) st ts = refl
begins_plain n (parens e) st ts = refl
begins_plain n (braces p) st ts = refl

begins_sum : (n : ℕ) (x : Phrase atom) (st : List ToCome) (ts : List Terminal) → marks (a n sum ∷ st) (yields x ts) ≡ marks (a n product ∷ a n sum_tail ∷ st) (yields x ts)
unfolding yields marks
begins_sum n (variable x) st ts = refl
begins_sum n (literal value) st ts = refl
begins_sum n (truth true) st ts = refl
begins_sum n (truth false) st ts = refl
begins_sum n (parens e) st ts = refl
begins_sum n (braces p) st ts = refl

begins_product : (n : ℕ) (x : Phrase atom) (st : List ToCome) (ts : List Terminal) → marks (a n product ∷ st) (yields x ts) ≡ marks (a n apply ∷ a n product_tail ∷ st) (yields x ts)
unfolding yields marks
begins_product n (variable x) st ts = refl
begins_product n (literal value) st ts = refl
begins_product n (truth true) st ts = refl
begins_product n (truth false) st ts = refl
begins_product n (parens e) st ts = refl
begins_product n (braces p) st ts = refl

begins_apply : (n : ℕ) (x : Phrase atom) (st : List ToCome) (ts : List Terminal) → marks (a n apply ∷ st) (yields x ts) ≡ marks (a n post ∷ a n arguments ∷ st) (yields x ts)
unfolding yields marks
begins_apply n (variable x) st ts = refl
begins_apply n (literal value) st ts = refl
begins_apply n (truth true) st ts = refl
begins_apply n (truth false) st ts = refl
begins_apply n (parens e) st ts = refl
begins_apply n (braces p) st ts = refl

begins_argument : (n : ℕ) (x : Phrase atom) (st : List ToCome) (ts : List Terminal) → marks (a n dots ∷ a n arguments ∷ st) (yields x ts) ≡ marks (a n post ∷ a n arguments ∷ st) (yields x ts)
unfolding yields marks
begins_argument n (variable x) st ts = refl
begins_argument n (literal value) st ts = refl
begins_argument n (truth true) st ts = refl
begins_argument n (truth false) st ts = refl
begins_argument n (parens e) st ts = refl
begins_argument n (braces p) st ts = refl

begins_post : (n : ℕ) (x : Phrase atom) (st : List ToCome) (ts : List Terminal) → marks (a n post ∷ st) (yields x ts) ≡ marks (a n atom ∷ a n dots ∷ st) (yields x ts)
unfolding yields marks
begins_post n (variable x) st ts = refl
begins_post n (literal value) st ts = refl
begins_post n (truth true) st ts = refl
begins_post n (truth false) st ts = refl
begins_post n (parens e) st ts = refl
begins_post n (braces p) st ts = refl

plain_begins : (n : ℕ) (s : Phrase sum) (st : List ToCome) (ts : List Terminal) → marks (a n expr ∷ st) (yields s ts) ≡ begin_first (suc n) (marks (a (suc n) sum ∷ a (suc n) compare_tail ∷ st) (yields s ts))
unfolding yields
plain_begins n (summed (multiplied (applied (posted x d) m) t) u) st ts = begins_plain n x st (yields d (yields m (yields t (yields u ts))))

sum_begins : (n : ℕ) (p : Phrase product) (st : List ToCome) (ts : List Terminal) → marks (a n sum ∷ st) (yields p ts) ≡ marks (a n product ∷ a n sum_tail ∷ st) (yields p ts)
unfolding yields
sum_begins n (multiplied (applied (posted x d) m) t) st ts = begins_sum n x st (yields d (yields m (yields t ts)))

product_begins : (n : ℕ) (p : Phrase apply) (st : List ToCome) (ts : List Terminal) → marks (a n product ∷ st) (yields p ts) ≡ marks (a n apply ∷ a n product_tail ∷ st) (yields p ts)
unfolding yields
product_begins n (applied (posted x d) m) st ts = begins_product n x st (yields d (yields m ts))

apply_begins : (n : ℕ) (p : Phrase post) (st : List ToCome) (ts : List Terminal) → marks (a n apply ∷ st) (yields p ts) ≡ marks (a n post ∷ a n arguments ∷ st) (yields p ts)
unfolding yields
apply_begins n (posted x d) st ts = begins_apply n x st (yields d ts)

argument_begins : (n : ℕ) (p : Phrase post) (st : List ToCome) (ts : List Terminal) → marks (a n dots ∷ a n arguments ∷ st) (yields p ts) ≡ marks (a n post ∷ a n arguments ∷ st) (yields p ts)
unfolding yields
argument_begins n (posted x d) st ts = begins_argument n x st (yields d ts)

-- the machine marks the terminals of a phrase as the phrase does
pub marked : {s : Sort} (p : Phrase s) (n : ℕ) (e : End) (st : List ToCome) (ts : List Terminal) → marks (before s n e st) (yields p ts) ≡ nestings n p (marks (left s n (end_of n e p) st) ts)
unfolding yields marks end_of nestings
marked (whole i b) n e st ts = marked i n e (a n bindings ∷ st) (yields b ts) ∙ ap (nestings n i) (marked b n (behind_imports n) st ts)
marked no_import n e st ts = refl
marked (importing x i) n e st ts = ap (λ ms. 0 ∷ 0 ∷ ms) (marked i n e st ts)
marked no_binding n e st ts = refl
marked (binding r) n e st ts = pass_let e n st (yields r ts) ∙ ap (λ ms. 0 ∷ ms) (marked r n e st ts)
marked (simple x p b) n e st ts = ap (λ ms. 0 ∷ 0 ∷ ms) (marked p n e (a n bindings ∷ st) (yields b ts) ∙ ap (nestings n p) (marked b n (end_of n e p) st ts))
marked (recursive x p b) n e st ts = ap (λ ms. 0 ∷ 0 ∷ 0 ∷ ms) (marked p n e (a n bindings ∷ st) (yields b ts) ∙ ap (nestings n p) (marked b n (end_of n e p) st ts))
marked (fun x p) n e st ts = ap (λ ms. suc n ∷ 0 ∷ 0 ∷ ms) (marked p (suc n) e st ts)
marked (fix x p) n e st ts = ap (λ ms. suc n ∷ 0 ∷ 0 ∷ ms) (marked p (suc n) e st ts)
marked (local r) n e st ts = ap (λ ms. suc n ∷ ms) (marked r (suc n) e st ts)
marked (choice c p q) n e st ts =
    ap (λ ms. suc n ∷ ms)
    (marked c (suc n) e (the_then ∷ a (suc n) expr ∷ the_else ∷ a (suc n) expr ∷ st) _
    ∙ ap (nestings (suc n) c)
    (pass_then (end_of (suc n) e c) (a (suc n) expr ∷ the_else ∷ a (suc n) expr ∷ st) _
    ∙ ap (λ ms. 0 ∷ ms)
    (marked p (suc n) e (the_else ∷ a (suc n) expr ∷ st) _
    ∙ ap (nestings (suc n) p)
    (pass_else (end_of (suc n) e p) (a (suc n) expr ∷ st) _
    ∙ ap (λ ms. 0 ∷ ms) (marked q (suc n) e st ts)))))
marked (plain s t) n e st ts =
    plain_begins n s st (yields t ts)
    ∙ ap (begin_first (suc n)) (marked s (suc n) e (a (suc n) compare_tail ∷ st) (yields t ts) ∙ ap (nestings (suc n) s) (marked t (suc n) e st ts))
marked (simple_in x p q) n e st ts =
    ap (λ ms. 0 ∷ 0 ∷ ms)
    (marked p n e (the_in ∷ a n expr ∷ st) _
    ∙ ap (nestings n p) (pass_in (end_of n e p) (a n expr ∷ st) _ ∙ ap (λ ms. 0 ∷ ms) (marked q n e st ts)))
marked (recursive_in x p q) n e st ts =
    ap (λ ms. 0 ∷ 0 ∷ 0 ∷ ms)
    (marked p n e (the_in ∷ a n expr ∷ st) _
    ∙ ap (nestings n p) (pass_in (end_of n e p) (a n expr ∷ st) _ ∙ ap (λ ms. 0 ∷ ms) (marked q n e st ts)))
marked no_compare n e st ts = refl
marked (less s) n e st ts = ap (λ ms. 0 ∷ ms) (marked s n e st ts)
marked (equal s) n e st ts = ap (λ ms. 0 ∷ ms) (marked s n e st ts)
marked (summed p t) n e st ts = sum_begins n p st (yields t ts) ∙ (marked p n e (a n sum_tail ∷ st) (yields t ts) ∙ ap (nestings n p) (marked t n e st ts))
marked no_sum n e st ts = refl
marked (plus p t) n e st ts = ap (λ ms. 0 ∷ ms) (marked p n e (a n sum_tail ∷ st) (yields t ts) ∙ ap (nestings n p) (marked t n e st ts))
marked (minus p t) n e st ts = ap (λ ms. 0 ∷ ms) (marked p n e (a n sum_tail ∷ st) (yields t ts) ∙ ap (nestings n p) (marked t n e st ts))
marked (multiplied p t) n e st ts = product_begins n p st (yields t ts) ∙ (marked p n e (a n product_tail ∷ st) (yields t ts) ∙ ap (nestings n p) (marked t n e st ts))
marked no_product n e st ts = refl
marked (times p t) n e st ts = ap (λ ms. 0 ∷ ms) (marked p n e (a n product_tail ∷ st) (yields t ts) ∙ ap (nestings n p) (marked t n e st ts))
marked (applied p m) n e st ts = apply_begins n p st (yields m ts) ∙ (marked p n e (a n arguments ∷ st) (yields m ts) ∙ ap (nestings n p) (marked m n e st ts))
marked no_argument n e st ts = refl
marked (argument p m) n e st ts = argument_begins n p st (yields m ts) ∙ (marked p n e (a n arguments ∷ st) (yields m ts) ∙ ap (nestings n p) (marked m n e st ts))
marked (posted x d) n e st ts = begins_post n x st (yields d ts) ∙ (marked x n e (a n dots ∷ st) (yields d ts) ∙ ap (nestings n x) (marked d n e st ts))
marked no_dot n e st ts = refl
marked (dot x d) n e st ts = ap (λ ms. 0 ∷ 0 ∷ ms) (marked d n e st ts)
marked (variable x) n e st ts = refl
marked (literal value) n e st ts = refl
marked (truth true) n e st ts = refl
marked (truth false) n e st ts = refl
marked (parens p) n e st ts = ap (λ ms. 0 ∷ ms) (marked p n e (the_paren ∷ st) (word kind.ParenRight ∷ ts) ∙ ap (nestings n p) (pass_paren (end_of n e p) st ts))
marked (braces p) n e st ts = ap (λ ms. 0 ∷ ms) (marked p n e st ts)
marked no_part n e st ts = refl
marked (first_part x p q) n e st ts =
    ap (λ ms. 0 ∷ 0 ∷ ms)
    (marked p n e (a n more_parts ∷ st) (yields q ts) ∙ ap (nestings n p) (pass_part (end_of n e p) n q st ts ∙ marked q n e st ts))
marked last_part n e st ts = refl
marked (next_part x p q) n e st ts =
    ap (λ ms. 0 ∷ 0 ∷ 0 ∷ ms)
    (marked p n e (a n more_parts ∷ st) (yields q ts) ∙ ap (nestings n p) (pass_part (end_of n e p) n q st ts ∙ marked q n e st ts))

-- of a whole module
pub marked-source : (p : Phrase source) → marks start (yields p []) ≡ nestings 0 p []
unfolding marks
marked-source p = marked p 0 (behind_imports 0) [] []

-- a mark depends on the terminals up to its own alone
pub marks-front : (us xs ys : List Terminal) (st : List ToCome) (k : ℕ) → k < length us → slice_get (marks st (us ++ xs)) k ≡ slice_get (marks st (us ++ ys)) k
unfolding marks
marks-front [] xs ys st k low = absurd (omega arith)
marks-front (u ∷ us) xs ys st zero low = refl
marks-front (u ∷ us) xs ys st (suc k) low = go (step opens may_end st u) (λ next. marks-front us xs ys next k (omega arith))
  where
    go : (o : Option (List ToCome)) → ((next : List ToCome) → slice_get (marks next (us ++ xs)) k ≡ slice_get (marks next (us ++ ys)) k) → slice_get (further o (λ next. marks next (us ++ xs))) k ≡ slice_get (further o (λ next. marks next (us ++ ys))) k
    go None later = refl
    go (Some next) later = later next

-- so a module with all the terminals is nested there too
pub deep-here : (ts : List Terminal) (k : ℕ) (p : Phrase source) → yields p [] ≡ ts → IsDeepAt ts k → slice_get (nestings 0 p []) k ≡ Some 201
deep-here ts k p is it =
    let le : suc k ≤ length ts = it.within in
    let size : length (take (suc k) ts) ≡ suc k = length-take-le (suc k) ts le in
    let low : k < length (take (suc k) ts) = omega arith in
    let split : ts ≡ take (suc k) ts ++ drop (suc k) ts = sym (take-append-drop (suc k) ts) in
    let mine : nestings 0 p [] ≡ marks start (take (suc k) ts ++ drop (suc k) ts) = sym (marked-source p) ∙ ap (marks start) (is ∙ split) in
    let theirs : nestings 0 it.phrase [] ≡ marks start (take (suc k) ts ++ it.more) = sym (marked-source it.phrase) ∙ ap (marks start) it.spelled in
    ap (λ ms. slice_get ms k) mine
    ∙ (marks-front (take (suc k) ts) (drop (suc k) ts) it.more start k low
    ∙ (ap (λ ms. slice_get ms k) (sym theirs) ∙ it.deep))

-- all marks are at most this
abbrev pub Below : ℕ → List ℕ → Type 0
Below b [] = Unit {0}
Below b (m ∷ ms) = (m ≤ b) × Below b ms

below-first : (b n : ℕ) (ms : List ℕ) → n ≤ b → Below b ms → Below b (begin_first n ms)
below-first b n [] le below = tt
below-first b n (m ∷ ms) le below = (le, below.1)

below-get : (b : ℕ) (ms : List ℕ) (k m : ℕ) → Below b ms → slice_get ms k ≡ Some m → m ≤ b
below-get b [] k m below e = absurd (cc)
below-get b (x ∷ ms) zero m below e = let same : x ≡ m = cc in let le : x ≤ b = below.0 in omega arith
below-get b (x ∷ ms) (suc k) m below e = below-get b ms k m below.1 e

left-le : (n x y b : ℕ) → n + max x y ≤ b → n + x ≤ b
left-le n x y b le = let low : x ≤ max x y = le-max_left x y in omega arith

right-le : (n x y b : ℕ) → n + max x y ≤ b → n + y ≤ b
right-le n x y b le = let low : y ≤ max x y = le-max_right x y in omega arith

inner-le : (n x b : ℕ) → n + suc x ≤ b → suc n + x ≤ b
inner-le n x b le = omega arith

own-le : (n x b : ℕ) → n + suc x ≤ b → suc n ≤ b
own-le n x b le = omega arith

none-le : (b : ℕ) → 0 ≤ b
none-le b = omega arith

nested-imports : (i : Phrase imports) (n b : ℕ) (ms : List ℕ) → Below b ms → Below b (nestings n i ms)
unfolding nestings
nested-imports no_import n b ms below = below
nested-imports (importing x i) n b ms below = (none-le b, (none-le b, nested-imports i n b ms below))

-- no mark of a phrase is above its nesting
pub nested : {s : Sort} (p : Phrase s) (n b : ℕ) (ms : List ℕ) → n + nesting p ≤ b → Below b ms → Below b (nestings n p ms)
unfolding nestings nesting
nested (whole i c) n b ms le below = nested-imports i n b (nestings n c ms) (nested c n b ms le below)
nested no_import n b ms le below = below
nested (importing x i) n b ms le below = (none-le b, (none-le b, nested-imports i n b ms below))
nested no_binding n b ms le below = below
nested (binding r) n b ms le below = (none-le b, nested r n b ms le below)
nested (simple x e c) n b ms le below = (none-le b, (none-le b, nested e n b _ (left-le n _ _ b le) (nested c n b ms (right-le n _ _ b le) below)))
nested (recursive x e c) n b ms le below = (none-le b, (none-le b, (none-le b, nested e n b _ (left-le n _ _ b le) (nested c n b ms (right-le n _ _ b le) below))))
nested (fun x e) n b ms le below = (own-le n _ b le, (none-le b, (none-le b, nested e (suc n) b ms (inner-le n _ b le) below)))
nested (fix x e) n b ms le below = (own-le n _ b le, (none-le b, (none-le b, nested e (suc n) b ms (inner-le n _ b le) below)))
nested (local r) n b ms le below = (own-le n _ b le, nested r (suc n) b ms (inner-le n _ b le) below)
nested (choice c e f) n b ms le below =
    let le' = inner-le n (max (nesting c) (max (nesting e) (nesting f))) b le in
    let le'' = right-le (suc n) (nesting c) (max (nesting e) (nesting f)) b le' in (
      own-le n _ b le,
      nested c (suc n) b _ (left-le (suc n) _ _ b le') (
        none-le b,
        nested e (suc n) b _ (left-le (suc n) _ _ b le'')
            (none-le b, nested f (suc n) b ms (right-le (suc n) _ _ b le'') below),
      ),
    )
nested (plain s t) n b ms le below =
    let le' = inner-le n (max (nesting s) (nesting t)) b le in
    below-first b (suc n) _ (own-le n _ b le) (nested s (suc n) b _ (left-le (suc n) _ _ b le') (nested t (suc n) b ms (right-le (suc n) _ _ b le') below))
nested (simple_in x e f) n b ms le below = (none-le b, (none-le b, nested e n b _ (left-le n _ _ b le) (none-le b, nested f n b ms (right-le n _ _ b le) below)))
nested (recursive_in x e f) n b ms le below = (none-le b, (none-le b, (none-le b, nested e n b _ (left-le n _ _ b le) (none-le b, nested f n b ms (right-le n _ _ b le) below))))
nested no_compare n b ms le below = below
nested (less s) n b ms le below = (none-le b, nested s n b ms le below)
nested (equal s) n b ms le below = (none-le b, nested s n b ms le below)
nested (summed p t) n b ms le below = nested p n b _ (left-le n _ _ b le) (nested t n b ms (right-le n _ _ b le) below)
nested no_sum n b ms le below = below
nested (plus p t) n b ms le below = (none-le b, nested p n b _ (left-le n _ _ b le) (nested t n b ms (right-le n _ _ b le) below))
nested (minus p t) n b ms le below = (none-le b, nested p n b _ (left-le n _ _ b le) (nested t n b ms (right-le n _ _ b le) below))
nested (multiplied p t) n b ms le below = nested p n b _ (left-le n _ _ b le) (nested t n b ms (right-le n _ _ b le) below)
nested no_product n b ms le below = below
nested (times p t) n b ms le below = (none-le b, nested p n b _ (left-le n _ _ b le) (nested t n b ms (right-le n _ _ b le) below))
nested (applied p t) n b ms le below = nested p n b _ (left-le n _ _ b le) (nested t n b ms (right-le n _ _ b le) below)
nested no_argument n b ms le below = below
nested (argument p t) n b ms le below = nested p n b _ (left-le n _ _ b le) (nested t n b ms (right-le n _ _ b le) below)
nested (posted p t) n b ms le below = nested p n b _ (left-le n _ _ b le) (nested t n b ms (right-le n _ _ b le) below)
nested no_dot n b ms le below = below
nested (dot x d) n b ms le below = (none-le b, (none-le b, nested d n b ms le below))
nested (variable x) n b ms le below = (none-le b, below)
nested (literal value) n b ms le below = (none-le b, below)
nested (truth value) n b ms le below = (none-le b, below)
nested (parens e) n b ms le below = (none-le b, nested e n b _ le (none-le b, below))
nested (braces p) n b ms le below = (none-le b, nested p n b ms le below)
nested no_part n b ms le below = (none-le b, below)
nested (first_part x e p) n b ms le below = (none-le b, (none-le b, nested e n b _ (left-le n _ _ b le) (nested p n b ms (right-le n _ _ b le) below)))
nested last_part n b ms le below = (none-le b, below)
nested (next_part x e p) n b ms le below = (none-le b, (none-le b, (none-le b, nested e n b _ (left-le n _ _ b le) (nested p n b ms (right-le n _ _ b le) below))))

-- a module that is nested at most 200 deep has no expression of nesting 201
pub shallow-not_deep : (p : Phrase source) (k : ℕ) → nesting p ≤ 200 → slice_get (nestings 0 p []) k ≡ Some 201 → ⊥
shallow-not_deep p k le e =
    let all : 0 + nesting p ≤ 200 = omega arith in
    let high : 201 ≤ 200 = below-get 200 (nestings 0 p []) k 201 (nested p 0 200 [] all tt) e in
    absurd (omega arith)
