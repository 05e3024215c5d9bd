-- The terminals of a module are spelled by at most one phrase.
use Rattle.std.proofs.Common.{◌≡◌, ℕ, ◌<◌, ◌≤◌, Bool, true, false, List, [], ◌∷◌, refl, sym, ap, ◌∙◌, subst, arith}
use Rattle.mls_lexer.specs.declared.token.Kind.TheVariants as kind
use Rattle.mls_lexer.specs.Tokens.{Terminal, name, number, word}
use Rattle.mls_grammar.specs.Phrases.{Sort, source, imports, bindings, bind_rest, expr, let_rest, compare_tail, sum, sum_tail, product, product_tail, apply, arguments, post, dots, atom, parts, more_parts, Phrase, whole, no_import, importing, no_binding, binding, simple, recursive, fun, fix, local, choice, plain, simple_in, recursive_in, no_compare, less, equal, summed, no_sum, plus, minus, multiplied, no_product, times, applied, no_argument, argument, posted, no_dot, dot, variable, literal, truth, parens, braces, no_part, first_part, last_part, next_part, truth_word, yields}

-- how far out a terminal goes on: with a dot an operand goes on, with an operand an application, and so on outwards
abbrev pub level : Terminal → ℕ
level (name x) = 2
level (number value) = 2
level (word kind.Dot) = 1
level (word kind.WordTrue) = 2
level (word kind.WordFalse) = 2
level (word kind.ParenLeft) = 2
level (word kind.BraceLeft) = 2
level (word kind.Star) = 3
level (word kind.Plus) = 4
level (word kind.Minus) = 4
level (word kind.Less) = 5
level (word kind.DoubleEquals) = 5
level (word kind.WordLet) = 7
level (word _) = 6

-- the highest level with which a phrase of a sort goes on
abbrev pub reach : Sort → ℕ
reach source = 7
reach imports = 6
reach bindings = 7
reach bind_rest = 7
reach expr = 5
reach let_rest = 5
reach compare_tail = 5
reach sum = 4
reach sum_tail = 4
reach product = 3
reach product_tail = 3
reach apply = 2
reach arguments = 2
reach post = 1
reach dots = 1
reach atom = 0
reach parts = 0
reach more_parts = 0

-- the terminals do not go on at this level or below it
abbrev pub Over : ℕ → List Terminal → Type 0
Over n [] = Unit {0}
Over n (t ∷ ts) = n < level t

over-less : (n m : ℕ) (ts : List Terminal) → m ≤ n → Over n ts → Over m ts
over-less n m [] le over = tt
over-less n m (t ∷ ts) le over = omega arith

-- a terminal that goes on is none of them
not_over : (n : ℕ) (t : Terminal) (ts us : List Terminal) → level t ≤ n → us ≡ t ∷ ts → Over n us → ⊥
not_over n t ts us le e over =
    let there : n < level t = subst (Over n) e over in
    absurd (omega arith)

-- an atom begins with a terminal of its own
pub atom_begins : (x : Phrase atom) (ts : List Terminal) → (t : Terminal) × (us : List Terminal) × (yields x ts ≡ t ∷ us) × (level t ≡ 2)
unfolding yields
atom_begins (variable x) ts = (name x, ts, refl, refl)
atom_begins (literal value) ts = (number value, ts, refl, refl)
atom_begins (truth true) ts = (word kind.WordTrue, ts, refl, refl)
atom_begins (truth false) ts = (word kind.WordFalse, ts, refl, refl)
atom_begins (parens e) ts = (word kind.ParenLeft, yields e (word kind.ParenRight ∷ ts), refl, refl)
atom_begins (braces p) ts = (word kind.BraceLeft, yields p ts, refl, refl)

over-atom : (x : Phrase atom) (ts : List Terminal) → Over 1 (yields x ts)
over-atom x ts =
    let it = atom_begins x ts in
    let two : level it.0 ≡ 2 = it.3 in
    let above : 1 < level it.0 = omega arith in
    subst (Over 1) (sym it.2) above

-- what follows a part within a phrase does not go on with it
over-dots : (d : Phrase dots) (ts : List Terminal) → Over 0 (yields d ts)
unfolding yields
over-dots no_dot [] = tt
over-dots no_dot (t ∷ ts) = level-some t
  where
    level-some : (t : Terminal) → 0 < level t
    level-some (name x) = omega arith
    level-some (number value) = omega arith
    level-some (word k) = level-word k
      where
        level-word : (k : _) → 0 < level (word k)
        level-word kind.Dot = omega arith
        level-word _ = omega arith
over-dots (dot label d) ts = omega arith

over-arguments : (a : Phrase arguments) (ts : List Terminal) → Over 2 ts → Over 1 (yields a ts)
unfolding yields
over-arguments no_argument ts over = over-less 2 1 ts (omega arith) over
over-arguments (argument (posted x d) a) ts over = over-atom x (yields d (yields a ts))

over-product_tail : (t : Phrase product_tail) (ts : List Terminal) → Over 3 ts → Over 2 (yields t ts)
unfolding yields
over-product_tail no_product ts over = over-less 3 2 ts (omega arith) over
over-product_tail (times a t) ts over = omega arith

over-sum_tail : (t : Phrase sum_tail) (ts : List Terminal) → Over 4 ts → Over 3 (yields t ts)
unfolding yields
over-sum_tail no_sum ts over = over-less 4 3 ts (omega arith) over
over-sum_tail (plus p t) ts over = omega arith
over-sum_tail (minus p t) ts over = omega arith

over-compare_tail : (t : Phrase compare_tail) (ts : List Terminal) → Over 5 ts → Over 4 (yields t ts)
unfolding yields
over-compare_tail no_compare ts over = over-less 5 4 ts (omega arith) over
over-compare_tail (less s) ts over = omega arith
over-compare_tail (equal s) ts over = omega arith

over-more_parts : (p : Phrase more_parts) (ts : List Terminal) → Over 5 (yields p ts)
unfolding yields
over-more_parts last_part ts = omega arith
over-more_parts (next_part label e p) ts = omega arith

over-bindings : (b : Phrase bindings) (ts : List Terminal) → Over 7 ts → Over 6 (yields b ts)
unfolding yields
over-bindings no_binding ts over = over-less 7 6 ts (omega arith) over
over-bindings (binding r) ts over = omega arith

-- a sum begins with no word of another expression
not_sum : (s : Phrase sum) (ts us : List Terminal) (t : Terminal) → 2 < level t → yields s ts ≡ t ∷ us → ⊥
unfolding yields
not_sum (summed (multiplied (applied (posted x d) a) u) v) ts us t above e =
    let it = atom_begins x (yields d (yields a (yields u (yields v ts)))) in
    let two : level it.0 ≡ 2 = it.3 in
    let same : it.0 ≡ t = first_of it.0 t it.1 us (sym it.2 ∙ e) in
    let levels : level it.0 ≡ level t = ap level same in
    absurd (omega arith)
  where
    first_of : (t u : Terminal) (ts us : List Terminal) → t ∷ ts ≡ u ∷ us → t ≡ u
    first_of t u ts us e = cc

-- no argument is spelled by what does not go on with one
not_argument : (p : Phrase post) (ts us : List Terminal) → us ≡ yields p ts → Over 2 us → ⊥
unfolding yields
not_argument (posted x d) ts us e over =
    let it = atom_begins x (yields d ts) in
    let two : level it.0 ≡ 2 = it.3 in
    not_over 2 it.0 it.1 us (omega arith) (e ∙ it.2) over

rest_of : (t u : Terminal) (ts us : List Terminal) → t ∷ ts ≡ u ∷ us → ts ≡ us
rest_of t u ts us e = cc

name_of : (x y : List ℕ) (ts us : List Terminal) → name x ∷ ts ≡ name y ∷ us → x ≡ y
name_of x y ts us e = cc

number_of : (x y : ℕ) (ts us : List Terminal) → number x ∷ ts ≡ number y ∷ us → x ≡ y
number_of x y ts us e = cc

truth_of : (a b : Bool) (ts us : List Terminal) → truth_word a ∷ ts ≡ truth_word b ∷ us → a ≡ b
truth_of true true ts us e = refl
truth_of false false ts us e = refl
truth_of true false ts us e = absurd (cc)
truth_of false true ts us e = absurd (cc)

over-then : (ts : List Terminal) → Over 5 (word kind.WordThen ∷ ts)
over-then ts = omega arith

over-else : (ts : List Terminal) → Over 5 (word kind.WordElse ∷ ts)
over-else ts = omega arith

over-in : (ts : List Terminal) → Over 5 (word kind.WordIn ∷ ts)
over-in ts = omega arith

over-paren : (ts : List Terminal) → Over 5 (word kind.ParenRight ∷ ts)
over-paren ts = omega arith

-- two phrases that spell the same, with what follows them, are one
abbrev Same : (s : Sort) → Phrase s → Phrase s → List Terminal → List Terminal → Type 0
Same s p q ts us = (p ≡ q) × (ts ≡ us)

pub same_phrase : {s : Sort} (p q : Phrase s) (ts us : List Terminal) → Over (reach s) ts → Over (reach s) us → yields p ts ≡ yields q us → Same s p q ts us
unfolding yields
same_phrase (whole i b) (whole j c) ts us over over' e =
    let left = same_phrase i j (yields b ts) (yields c us) (over-bindings b ts over) (over-bindings c us over') e in
    let right = same_phrase b c ts us over over' left.1 in
    (λ k. whole (left.0 k) (right.0 k), right.1)
same_phrase no_import no_import ts us over over' e = (refl, e)
same_phrase no_import (importing x i) ts us over over' e = absurd (not_over 6 (word kind.WordImport) (name x ∷ yields i us) ts (omega arith) e over)
same_phrase (importing x i) no_import ts us over over' e = absurd (not_over 6 (word kind.WordImport) (name x ∷ yields i ts) us (omega arith) (sym e) over')
same_phrase (importing x i) (importing y j) ts us over over' e =
    let e' : name x ∷ yields i ts ≡ name y ∷ yields j us = rest_of _ _ _ _ e in
    let it = same_phrase i j ts us over over' (rest_of _ _ _ _ e') in
    (λ k. importing (name_of x y _ _ e' k) (it.0 k), it.1)
same_phrase no_binding no_binding ts us over over' e = (refl, e)
same_phrase no_binding (binding r) ts us over over' e = absurd (not_over 7 (word kind.WordLet) (yields r us) ts (omega arith) e over)
same_phrase (binding r) no_binding ts us over over' e = absurd (not_over 7 (word kind.WordLet) (yields r ts) us (omega arith) (sym e) over')
same_phrase (binding r) (binding q) ts us over over' e =
    let it = same_phrase r q ts us over over' (rest_of _ _ _ _ e) in
    (λ k. binding (it.0 k), it.1)
same_phrase (simple x e b) (simple y f c) ts us over over' h =
    let h' : yields e (yields b ts) ≡ yields f (yields c us) = rest_of _ _ _ _ (rest_of _ _ _ _ h) in
    let left = same_phrase e f (yields b ts) (yields c us) (over-less 6 5 _ (omega arith) (over-bindings b ts over)) (over-less 6 5 _ (omega arith) (over-bindings c us over')) h' in
    let right = same_phrase b c ts us over over' left.1 in
    (λ k. simple (name_of x y _ _ h k) (left.0 k) (right.0 k), right.1)
same_phrase (simple x e b) (recursive y f c) ts us over over' h = absurd (cc)
same_phrase (recursive x e b) (simple y f c) ts us over over' h = absurd (cc)
same_phrase (recursive x e b) (recursive y f c) ts us over over' h =
    let h' : name x ∷ word kind.Equals ∷ yields e (yields b ts) ≡ name y ∷ word kind.Equals ∷ yields f (yields c us) = rest_of _ _ _ _ h in
    let h'' : yields e (yields b ts) ≡ yields f (yields c us) = rest_of _ _ _ _ (rest_of _ _ _ _ h') in
    let left = same_phrase e f (yields b ts) (yields c us) (over-less 6 5 _ (omega arith) (over-bindings b ts over)) (over-less 6 5 _ (omega arith) (over-bindings c us over')) h'' in
    let right = same_phrase b c ts us over over' left.1 in
    (λ k. recursive (name_of x y _ _ h' k) (left.0 k) (right.0 k), right.1)
same_phrase (fun x e) (fun y f) ts us over over' h =
    let h' : name x ∷ word kind.Arrow ∷ yields e ts ≡ name y ∷ word kind.Arrow ∷ yields f us = rest_of _ _ _ _ h in
    let it = same_phrase e f ts us over over' (rest_of _ _ _ _ (rest_of _ _ _ _ h')) in
    (λ k. fun (name_of x y _ _ h' k) (it.0 k), it.1)
same_phrase (fix x e) (fix y f) ts us over over' h =
    let h' : name x ∷ word kind.Arrow ∷ yields e ts ≡ name y ∷ word kind.Arrow ∷ yields f us = rest_of _ _ _ _ h in
    let it = same_phrase e f ts us over over' (rest_of _ _ _ _ (rest_of _ _ _ _ h')) in
    (λ k. fix (name_of x y _ _ h' k) (it.0 k), it.1)
same_phrase (local r) (local q) ts us over over' h =
    let it = same_phrase r q ts us over over' (rest_of _ _ _ _ h) in
    (λ k. local (it.0 k), it.1)
same_phrase (choice c e f) (choice c' e' f') ts us over over' h =
    let one = same_phrase c c' _ _ (over-then (yields e (word kind.WordElse ∷ yields f ts))) (over-then (yields e' (word kind.WordElse ∷ yields f' us))) (rest_of _ _ _ _ h) in
    let two = same_phrase e e' _ _ (over-else (yields f ts)) (over-else (yields f' us)) (rest_of _ _ _ _ one.1) in
    let three = same_phrase f f' ts us over over' (rest_of _ _ _ _ two.1) in
    (λ k. choice (one.0 k) (two.0 k) (three.0 k), three.1)
same_phrase (plain s t) (plain r u) ts us over over' h =
    let left = same_phrase s r (yields t ts) (yields u us) (over-compare_tail t ts over) (over-compare_tail u us over') h in
    let right = same_phrase t u ts us over over' left.1 in
    (λ k. plain (left.0 k) (right.0 k), right.1)
same_phrase (plain s t) (fun x e) ts us over over' h = absurd (not_sum s _ _ (word kind.WordFun) (omega arith) h)
same_phrase (plain s t) (fix x e) ts us over over' h = absurd (not_sum s _ _ (word kind.WordRec) (omega arith) h)
same_phrase (plain s t) (local r) ts us over over' h = absurd (not_sum s _ _ (word kind.WordLet) (omega arith) h)
same_phrase (plain s t) (choice c e f) ts us over over' h = absurd (not_sum s _ _ (word kind.WordIf) (omega arith) h)
same_phrase (fun x e) (plain s t) ts us over over' h = absurd (not_sum s _ _ (word kind.WordFun) (omega arith) (sym h))
same_phrase (fix x e) (plain s t) ts us over over' h = absurd (not_sum s _ _ (word kind.WordRec) (omega arith) (sym h))
same_phrase (local r) (plain s t) ts us over over' h = absurd (not_sum s _ _ (word kind.WordLet) (omega arith) (sym h))
same_phrase (choice c e f) (plain s t) ts us over over' h = absurd (not_sum s _ _ (word kind.WordIf) (omega arith) (sym h))
same_phrase (fun x e) q ts us over over' h = absurd (cc)
same_phrase (fix x e) q ts us over over' h = absurd (cc)
same_phrase (local r) q ts us over over' h = absurd (cc)
same_phrase (choice c e f) q ts us over over' h = absurd (cc)
same_phrase (simple_in x e f) (simple_in y e' f') ts us over over' h =
    let one = same_phrase e e' _ _ (over-in (yields f ts)) (over-in (yields f' us)) (rest_of _ _ _ _ (rest_of _ _ _ _ h)) in
    let two = same_phrase f f' ts us over over' (rest_of _ _ _ _ one.1) in
    (λ k. simple_in (name_of x y _ _ h k) (one.0 k) (two.0 k), two.1)
same_phrase (simple_in x e f) (recursive_in y e' f') ts us over over' h = absurd (cc)
same_phrase (recursive_in x e f) (simple_in y e' f') ts us over over' h = absurd (cc)
same_phrase (recursive_in x e f) (recursive_in y e' f') ts us over over' h =
    let h' : name x ∷ word kind.Equals ∷ yields e (word kind.WordIn ∷ yields f ts) ≡ name y ∷ word kind.Equals ∷ yields e' (word kind.WordIn ∷ yields f' us) = rest_of _ _ _ _ h in
    let one = same_phrase e e' _ _ (over-in (yields f ts)) (over-in (yields f' us)) (rest_of _ _ _ _ (rest_of _ _ _ _ h')) in
    let two = same_phrase f f' ts us over over' (rest_of _ _ _ _ one.1) in
    (λ k. recursive_in (name_of x y _ _ h' k) (one.0 k) (two.0 k), two.1)
same_phrase no_compare no_compare ts us over over' h = (refl, h)
same_phrase no_compare (less s) ts us over over' h = absurd (not_over 5 (word kind.Less) (yields s us) ts (omega arith) h over)
same_phrase no_compare (equal s) ts us over over' h = absurd (not_over 5 (word kind.DoubleEquals) (yields s us) ts (omega arith) h over)
same_phrase (less s) no_compare ts us over over' h = absurd (not_over 5 (word kind.Less) (yields s ts) us (omega arith) (sym h) over')
same_phrase (equal s) no_compare ts us over over' h = absurd (not_over 5 (word kind.DoubleEquals) (yields s ts) us (omega arith) (sym h) over')
same_phrase (less s) (less r) ts us over over' h =
    let it = same_phrase s r ts us (over-less 5 4 ts (omega arith) over) (over-less 5 4 us (omega arith) over') (rest_of _ _ _ _ h) in
    (λ k. less (it.0 k), it.1)
same_phrase (equal s) (equal r) ts us over over' h =
    let it = same_phrase s r ts us (over-less 5 4 ts (omega arith) over) (over-less 5 4 us (omega arith) over') (rest_of _ _ _ _ h) in
    (λ k. equal (it.0 k), it.1)
same_phrase (less s) (equal r) ts us over over' h = absurd (cc)
same_phrase (equal s) (less r) ts us over over' h = absurd (cc)
same_phrase (summed p t) (summed q u) ts us over over' h =
    let left = same_phrase p q (yields t ts) (yields u us) (over-sum_tail t ts over) (over-sum_tail u us over') h in
    let right = same_phrase t u ts us over over' left.1 in
    (λ k. summed (left.0 k) (right.0 k), right.1)
same_phrase no_sum no_sum ts us over over' h = (refl, h)
same_phrase no_sum (plus p t) ts us over over' h = absurd (not_over 4 (word kind.Plus) (yields p (yields t us)) ts (omega arith) h over)
same_phrase no_sum (minus p t) ts us over over' h = absurd (not_over 4 (word kind.Minus) (yields p (yields t us)) ts (omega arith) h over)
same_phrase (plus p t) no_sum ts us over over' h = absurd (not_over 4 (word kind.Plus) (yields p (yields t ts)) us (omega arith) (sym h) over')
same_phrase (minus p t) no_sum ts us over over' h = absurd (not_over 4 (word kind.Minus) (yields p (yields t ts)) us (omega arith) (sym h) over')
same_phrase (plus p t) (plus q u) ts us over over' h =
    let left = same_phrase p q (yields t ts) (yields u us) (over-sum_tail t ts over) (over-sum_tail u us over') (rest_of _ _ _ _ h) in
    let right = same_phrase t u ts us over over' left.1 in
    (λ k. plus (left.0 k) (right.0 k), right.1)
same_phrase (minus p t) (minus q u) ts us over over' h =
    let left = same_phrase p q (yields t ts) (yields u us) (over-sum_tail t ts over) (over-sum_tail u us over') (rest_of _ _ _ _ h) in
    let right = same_phrase t u ts us over over' left.1 in
    (λ k. minus (left.0 k) (right.0 k), right.1)
same_phrase (plus p t) (minus q u) ts us over over' h = absurd (cc)
same_phrase (minus p t) (plus q u) ts us over over' h = absurd (cc)
same_phrase (multiplied a t) (multiplied b u) ts us over over' h =
    let left = same_phrase a b (yields t ts) (yields u us) (over-product_tail t ts over) (over-product_tail u us over') h in
    let right = same_phrase t u ts us over over' left.1 in
    (λ k. multiplied (left.0 k) (right.0 k), right.1)
same_phrase no_product no_product ts us over over' h = (refl, h)
same_phrase no_product (times a t) ts us over over' h = absurd (not_over 3 (word kind.Star) (yields a (yields t us)) ts (omega arith) h over)
same_phrase (times a t) no_product ts us over over' h = absurd (not_over 3 (word kind.Star) (yields a (yields t ts)) us (omega arith) (sym h) over')
same_phrase (times a t) (times b u) ts us over over' h =
    let left = same_phrase a b (yields t ts) (yields u us) (over-product_tail t ts over) (over-product_tail u us over') (rest_of _ _ _ _ h) in
    let right = same_phrase t u ts us over over' left.1 in
    (λ k. times (left.0 k) (right.0 k), right.1)
same_phrase (applied p a) (applied q b) ts us over over' h =
    let left = same_phrase p q (yields a ts) (yields b us) (over-arguments a ts over) (over-arguments b us over') h in
    let right = same_phrase a b ts us over over' left.1 in
    (λ k. applied (left.0 k) (right.0 k), right.1)
same_phrase no_argument no_argument ts us over over' h = (refl, h)
same_phrase no_argument (argument p a) ts us over over' h = absurd (not_argument p (yields a us) ts h over)
same_phrase (argument p a) no_argument ts us over over' h = absurd (not_argument p (yields a ts) us (sym h) over')
same_phrase (argument p a) (argument q b) ts us over over' h =
    let left = same_phrase p q (yields a ts) (yields b us) (over-arguments a ts over) (over-arguments b us over') h in
    let right = same_phrase a b ts us over over' left.1 in
    (λ k. argument (left.0 k) (right.0 k), right.1)
same_phrase (posted x d) (posted y f) ts us over over' h =
    let left = same_phrase x y (yields d ts) (yields f us) (over-dots d ts) (over-dots f us) h in
    let right = same_phrase d f ts us over over' left.1 in
    (λ k. posted (left.0 k) (right.0 k), right.1)
same_phrase no_dot no_dot ts us over over' h = (refl, h)
same_phrase no_dot (dot x d) ts us over over' h = absurd (not_over 1 (word kind.Dot) (name x ∷ yields d us) ts (omega arith) h over)
same_phrase (dot x d) no_dot ts us over over' h = absurd (not_over 1 (word kind.Dot) (name x ∷ yields d ts) us (omega arith) (sym h) over')
same_phrase (dot x d) (dot y f) ts us over over' h =
    let h' : name x ∷ yields d ts ≡ name y ∷ yields f us = rest_of _ _ _ _ h in
    let it = same_phrase d f ts us over over' (rest_of _ _ _ _ h') in
    (λ k. dot (name_of x y _ _ h' k) (it.0 k), it.1)
same_phrase (variable x) (variable y) ts us over over' h = (λ k. variable (name_of x y _ _ h k), rest_of _ _ _ _ h)
same_phrase (literal x) (literal y) ts us over over' h = (λ k. literal (number_of x y _ _ h k), rest_of _ _ _ _ h)
same_phrase (truth a) (truth b) ts us over over' h = (λ k. truth (truth_of a b _ _ h k), rest_of _ _ _ _ h)
same_phrase (parens e) (parens f) ts us over over' h =
    let it = same_phrase e f _ _ (over-paren ts) (over-paren us) (rest_of _ _ _ _ h) in
    (λ k. parens (it.0 k), rest_of _ _ _ _ it.1)
same_phrase (braces p) (braces q) ts us over over' h =
    let it = same_phrase p q ts us over over' (rest_of _ _ _ _ h) in
    (λ k. braces (it.0 k), it.1)
same_phrase (variable x) (truth true) ts us over over' h = absurd (cc)
same_phrase (variable x) (truth false) ts us over over' h = absurd (cc)
same_phrase (literal x) (truth true) ts us over over' h = absurd (cc)
same_phrase (literal x) (truth false) ts us over over' h = absurd (cc)
same_phrase (parens e) (truth true) ts us over over' h = absurd (cc)
same_phrase (parens e) (truth false) ts us over over' h = absurd (cc)
same_phrase (braces p) (truth true) ts us over over' h = absurd (cc)
same_phrase (braces p) (truth false) ts us over over' h = absurd (cc)
same_phrase (variable x) q ts us over over' h = absurd (cc)
same_phrase (literal x) q ts us over over' h = absurd (cc)
same_phrase (parens e) q ts us over over' h = absurd (cc)
same_phrase (braces p) q ts us over over' h = absurd (cc)
same_phrase (truth true) q ts us over over' h = absurd (cc)
same_phrase (truth false) q ts us over over' h = absurd (cc)
same_phrase no_part no_part ts us over over' h = (refl, rest_of _ _ _ _ h)
same_phrase no_part (first_part x e p) ts us over over' h = absurd (cc)
same_phrase (first_part x e p) no_part ts us over over' h = absurd (cc)
same_phrase (first_part x e p) (first_part y f q) ts us over over' h =
    let left = same_phrase e f (yields p ts) (yields q us) (over-more_parts p ts) (over-more_parts q us) (rest_of _ _ _ _ (rest_of _ _ _ _ h)) in
    let right = same_phrase p q ts us over over' left.1 in
    (λ k. first_part (name_of x y _ _ h k) (left.0 k) (right.0 k), right.1)
same_phrase last_part last_part ts us over over' h = (refl, rest_of _ _ _ _ h)
same_phrase last_part (next_part x e p) ts us over over' h = absurd (cc)
same_phrase (next_part x e p) last_part ts us over over' h = absurd (cc)
same_phrase (next_part x e p) (next_part y f q) ts us over over' h =
    let h' : name x ∷ word kind.Equals ∷ yields e (yields p ts) ≡ name y ∷ word kind.Equals ∷ yields f (yields q us) = rest_of _ _ _ _ h in
    let left = same_phrase e f (yields p ts) (yields q us) (over-more_parts p ts) (over-more_parts q us) (rest_of _ _ _ _ (rest_of _ _ _ _ h')) in
    let right = same_phrase p q ts us over over' left.1 in
    (λ k. next_part (name_of x y _ _ h' k) (left.0 k) (right.0 k), right.1)

pub one_phrase : (p q : Phrase source) → yields p [] ≡ yields q [] → p ≡ q
one_phrase p q e = (same_phrase p q [] [] tt tt e).0
