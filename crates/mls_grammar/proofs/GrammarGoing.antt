-- Terminals begin a module exactly where the machine reads them, and are one exactly where nothing more has to come.
use Rattle.std.proofs.Common.{◌≡◌, ℕ, suc, true, false, List, [], ◌∷◌, ◌++◌, refl, sym, ap, ◌∙◌, Some, None, append-nil}
use Rattle.std.specs.Prelude.{Option}
use Rattle.mls_lexer.specs.declared.token.Kind.TheVariants as kind
use Rattle.mls_lexer.specs.Tokens.{Terminal, name, number, word}
use Rattle.mls_lexer.specs.steps.Machine.{run, can_end, onward}
use Rattle.mls_lexer.proofs.Machine.{run-append, Phrases, spell, some_phrases, OpensSoundly, ReadsSoundly, IsSound, run-sound, empty_phrases}
use Rattle.mls_grammar.specs.Phrases.{source, imports, bindings, bind_rest, expr, let_rest, compare_tail, sum, sum_tail, product, product_tail, apply, arguments, post, dots, atom, parts, more_parts, Phrase, whole, no_import, importing, no_binding, binding, simple, recursive, fun, fix, local, choice, plain, simple_in, recursive_in, no_compare, less, equal, summed, no_sum, plus, minus, multiplied, no_product, times, applied, no_argument, argument, posted, no_dot, dot, variable, literal, truth, parens, braces, no_part, first_part, last_part, next_part, yields}
use Rattle.mls_grammar.specs.GrammarFaults.{IsSource, CanGoOn}
use Rattle.mls_grammar.proofs.GrammarMachine.{ToCome, a, the_name, the_equals, the_arrow, the_then, the_else, the_in, the_paren, dots_row, arguments_row, product_row, sum_row, compare_row, atom_opens, opens, may_end, read, start, End, behind_imports, may_compare, compared, tails, end_of, left, reads}

-- phrases of parts, and what they spell
abbrev pub PhraseOf : ToCome → Type 0
PhraseOf (a n s) = Phrase s
PhraseOf the_name = List ℕ
PhraseOf the_equals = Unit {0}
PhraseOf the_arrow = Unit {0}
PhraseOf the_then = Unit {0}
PhraseOf the_else = Unit {0}
PhraseOf the_in = Unit {0}
PhraseOf the_paren = Unit {0}

abbrev pub yields_of : (s : ToCome) → PhraseOf s → List Terminal → List Terminal
yields_of (a n s) p ts = yields p ts
yields_of the_name x ts = name x ∷ ts
yields_of the_equals p ts = word kind.Equals ∷ ts
yields_of the_arrow p ts = word kind.Arrow ∷ ts
yields_of the_then p ts = word kind.WordThen ∷ ts
yields_of the_else p ts = word kind.WordElse ∷ ts
yields_of the_in p ts = word kind.WordIn ∷ ts
yields_of the_paren p ts = word kind.ParenRight ∷ ts

-- there is a phrase of each sort
abbrev some_post : Phrase post
some_post = posted (literal 0) no_dot

abbrev some_apply : Phrase apply
some_apply = applied some_post no_argument

abbrev some_product : Phrase product
some_product = multiplied some_apply no_product

abbrev some_sum : Phrase sum
some_sum = summed some_product no_sum

abbrev some_expr : Phrase expr
some_expr = plain some_sum no_compare

some_phrase : (s : ToCome) → PhraseOf s
some_phrase (a n source) = whole no_import no_binding
some_phrase (a n imports) = no_import
some_phrase (a n bindings) = no_binding
some_phrase (a n bind_rest) = simple [] some_expr no_binding
some_phrase (a n expr) = some_expr
some_phrase (a n let_rest) = simple_in [] some_expr some_expr
some_phrase (a n compare_tail) = no_compare
some_phrase (a n sum) = some_sum
some_phrase (a n sum_tail) = no_sum
some_phrase (a n product) = some_product
some_phrase (a n product_tail) = no_product
some_phrase (a n apply) = some_apply
some_phrase (a n arguments) = no_argument
some_phrase (a n post) = some_post
some_phrase (a n dots) = no_dot
some_phrase (a n atom) = literal 0
some_phrase (a n parts) = no_part
some_phrase (a n more_parts) = last_part
some_phrase the_name = []
some_phrase the_equals = tt
some_phrase the_arrow = tt
some_phrase the_then = tt
some_phrase the_else = tt
some_phrase the_in = tt
some_phrase the_paren = tt

-- an atom opens soundly, where it and what comes behind it make the part
abbrev Builds : ToCome → List ToCome → Type 0
Builds s row = (x : Phrase atom) (qs : Phrases PhraseOf row) → (p : PhraseOf s) × ((ts : List Terminal) → yields_of s p ts ≡ yields x (spell PhraseOf yields_of row qs ts))

atom-sound : (s : ToCome) (n : ℕ) (row : List ToCome) → Builds s row → (t : Terminal) → OpensSoundly PhraseOf yields_of s t (atom_opens n row t)
unfolding yields
atom-sound s n row build (name x) = λ qs. build (variable x) qs
atom-sound s n row build (number value) = λ qs. build (literal value) qs
atom-sound s n row build (word kind.WordTrue) = λ qs. build (truth true) qs
atom-sound s n row build (word kind.WordFalse) = λ qs. build (truth false) qs
atom-sound s n row build (word kind.ParenLeft) = λ qs. build (parens qs.0) qs.1.1
atom-sound s n row build (word kind.BraceLeft) = λ qs. build (braces qs.0) qs.1
atom-sound s n row build _ = tt

build_expr : (n : ℕ) → Builds (a n expr) (compare_row (suc n))
unfolding yields
build_expr n x qs = (plain (summed (multiplied (applied (posted x qs.0) qs.1.0) qs.1.1.0) qs.1.1.1.0) qs.1.1.1.1.0, λ ts. refl)

build_sum : (n : ℕ) → Builds (a n sum) (sum_row n)
unfolding yields
build_sum n x qs = (summed (multiplied (applied (posted x qs.0) qs.1.0) qs.1.1.0) qs.1.1.1.0, λ ts. refl)

build_product : (n : ℕ) → Builds (a n product) (product_row n)
unfolding yields
build_product n x qs = (multiplied (applied (posted x qs.0) qs.1.0) qs.1.1.0, λ ts. refl)

build_apply : (n : ℕ) → Builds (a n apply) (arguments_row n)
unfolding yields
build_apply n x qs = (applied (posted x qs.0) qs.1.0, λ ts. refl)

build_argument : (n : ℕ) → Builds (a n arguments) (arguments_row n)
unfolding yields
build_argument n x qs = (argument (posted x qs.0) qs.1.0, λ ts. refl)

build_post : (n : ℕ) → Builds (a n post) (dots_row n)
unfolding yields
build_post n x qs = (posted x qs.0, λ ts. refl)

build_atom : (n : ℕ) → Builds (a n atom) []
build_atom n x qs = (x, λ ts. refl)

opening : (s : ToCome) (t : Terminal) → OpensSoundly PhraseOf yields_of s t (opens s t)
unfolding yields
opening (a n source) t = tt
opening (a n imports) (word kind.WordImport) = λ qs. (importing qs.0 qs.1.0, λ ts. refl)
opening (a n imports) _ = tt
opening (a n bindings) (word kind.WordLet) = λ qs. (binding qs.0, λ ts. refl)
opening (a n bindings) _ = tt
opening (a n bind_rest) (name x) = λ qs. (simple x qs.1.0 qs.1.1.0, λ ts. refl)
opening (a n bind_rest) (word kind.WordRec) = λ qs. (recursive qs.0 qs.1.1.0 qs.1.1.1.0, λ ts. refl)
opening (a n bind_rest) _ = tt
opening (a n expr) (word kind.WordFun) = λ qs. (fun qs.0 qs.1.1.0, λ ts. refl)
opening (a n expr) (word kind.WordRec) = λ qs. (fix qs.0 qs.1.1.0, λ ts. refl)
opening (a n expr) (word kind.WordLet) = λ qs. (local qs.0, λ ts. refl)
opening (a n expr) (word kind.WordIf) = λ qs. (choice qs.0 qs.1.1.0 qs.1.1.1.1.0, λ ts. refl)
opening (a n expr) t = atom-sound (a n expr) (suc n) (compare_row (suc n)) (build_expr n) t
opening (a n let_rest) (name x) = λ qs. (simple_in x qs.1.0 qs.1.1.1.0, λ ts. refl)
opening (a n let_rest) (word kind.WordRec) = λ qs. (recursive_in qs.0 qs.1.1.0 qs.1.1.1.1.0, λ ts. refl)
opening (a n let_rest) _ = tt
opening (a n compare_tail) (word kind.Less) = λ qs. (less qs.0, λ ts. refl)
opening (a n compare_tail) (word kind.DoubleEquals) = λ qs. (equal qs.0, λ ts. refl)
opening (a n compare_tail) _ = tt
opening (a n sum) t = atom-sound (a n sum) n (sum_row n) (build_sum n) t
opening (a n sum_tail) (word kind.Plus) = λ qs. (plus qs.0 qs.1.0, λ ts. refl)
opening (a n sum_tail) (word kind.Minus) = λ qs. (minus qs.0 qs.1.0, λ ts. refl)
opening (a n sum_tail) _ = tt
opening (a n product) t = atom-sound (a n product) n (product_row n) (build_product n) t
opening (a n product_tail) (word kind.Star) = λ qs. (times qs.0 qs.1.0, λ ts. refl)
opening (a n product_tail) _ = tt
opening (a n apply) t = atom-sound (a n apply) n (arguments_row n) (build_apply n) t
opening (a n arguments) t = atom-sound (a n arguments) n (arguments_row n) (build_argument n) t
opening (a n post) t = atom-sound (a n post) n (dots_row n) (build_post n) t
opening (a n dots) (word kind.Dot) = λ qs. (dot qs.0 qs.1.0, λ ts. refl)
opening (a n dots) _ = tt
opening (a n atom) t = atom-sound (a n atom) n [] (build_atom n) t
opening (a n parts) (word kind.BraceRight) = λ qs. (no_part, λ ts. refl)
opening (a n parts) (name x) = λ qs. (first_part x qs.1.0 qs.1.1.0, λ ts. refl)
opening (a n parts) _ = tt
opening (a n more_parts) (word kind.BraceRight) = λ qs. (last_part, λ ts. refl)
opening (a n more_parts) (word kind.Comma) = λ qs. (next_part qs.0 qs.1.1.0 qs.1.1.1.0, λ ts. refl)
opening (a n more_parts) _ = tt
opening the_name (name x) = λ qs. (x, λ ts. refl)
opening the_name _ = tt
opening the_equals (word kind.Equals) = λ qs. (tt, λ ts. refl)
opening the_equals _ = tt
opening the_arrow (word kind.Arrow) = λ qs. (tt, λ ts. refl)
opening the_arrow _ = tt
opening the_then (word kind.WordThen) = λ qs. (tt, λ ts. refl)
opening the_then _ = tt
opening the_else (word kind.WordElse) = λ qs. (tt, λ ts. refl)
opening the_else _ = tt
opening the_in (word kind.WordIn) = λ qs. (tt, λ ts. refl)
opening the_in _ = tt
opening the_paren (word kind.ParenRight) = λ qs. (tt, λ ts. refl)
opening the_paren _ = tt

empty : (s : ToCome) → may_end s ≡ true → (p : PhraseOf s) × ((ts : List Terminal) → yields_of s p ts ≡ ts)
unfolding yields
empty (a n imports) e = (no_import, λ ts. refl)
empty (a n bindings) e = (no_binding, λ ts. refl)
empty (a n compare_tail) e = (no_compare, λ ts. refl)
empty (a n sum_tail) e = (no_sum, λ ts. refl)
empty (a n product_tail) e = (no_product, λ ts. refl)
empty (a n arguments) e = (no_argument, λ ts. refl)
empty (a n dots) e = (no_dot, λ ts. refl)
empty (a n source) e = absurd (cc)
empty (a n bind_rest) e = absurd (cc)
empty (a n expr) e = absurd (cc)
empty (a n let_rest) e = absurd (cc)
empty (a n sum) e = absurd (cc)
empty (a n product) e = absurd (cc)
empty (a n apply) e = absurd (cc)
empty (a n post) e = absurd (cc)
empty (a n atom) e = absurd (cc)
empty (a n parts) e = absurd (cc)
empty (a n more_parts) e = absurd (cc)
empty the_name e = absurd (cc)
empty the_equals e = absurd (cc)
empty the_arrow e = absurd (cc)
empty the_then e = absurd (cc)
empty the_else e = absurd (cc)
empty the_in e = absurd (cc)
empty the_paren e = absurd (cc)

pub grammar_is_sound : IsSound opens may_end PhraseOf yields_of
grammar_is_sound = record { opening = opening; empty = empty }

abbrev pub IsThere : Option (List ToCome) → Type 0
IsThere None = ⊥
IsThere (Some st) = Unit {0}

-- what a whole module leaves
abbrev pub left_of : Phrase source → List ToCome
left_of p = left source 0 (end_of 0 (behind_imports 0) p) []

-- what begins a module is read
pub going-read : (us : List Terminal) → CanGoOn us → IsThere (read start us)
unfolding run
going-read us it = go (read start us) both
  where
    both : onward (read start us) (λ next. read next it.0) ≡ Some (left_of it.1.0)
    both = sym (run-append opens may_end start us it.0) ∙ (ap (read start) (sym it.1.1) ∙ reads it.1.0 0 (behind_imports 0) [] [])

    go : (o : Option (List ToCome)) → onward o (λ next. read next it.0) ≡ Some (left_of it.1.0) → IsThere o
    go None e = cc
    go (Some st) e = tt

-- phrases for the start are a module
whole_of : (us : List Terminal) (ps : Phrases PhraseOf start) → spell PhraseOf yields_of start ps [] ≡ us → IsSource us
unfolding yields
whole_of us ps e = (whole ps.0 ps.1.0, e)

-- and what is read begins one
pub read-going : (us : List Terminal) → IsThere (read start us) → CanGoOn us
read-going us there = go (read start us) (run-sound opens may_end PhraseOf yields_of grammar_is_sound us start) there
  where
    go : (o : Option (List ToCome)) → ReadsSoundly PhraseOf yields_of start us o → IsThere o → CanGoOn us
    go None sound there = absurd there
    go (Some st) sound there =
        let qs : Phrases PhraseOf st = some_phrases PhraseOf some_phrase st in
        let ps = sound qs in
        (spell PhraseOf yields_of st qs [], whole_of (us ++ spell PhraseOf yields_of st qs []) ps.0 (ps.1 []))

-- a whole module leaves nothing that has to come
left-ends : (e : End) → can_end may_end (tails e ++ a 0 bindings ∷ []) ≡ true
left-ends (behind_imports n) = refl
left-ends (may_compare n) = refl
left-ends (compared n) = refl

pub source-ends : (us : List Terminal) (st : List ToCome) → read start us ≡ Some st → IsSource us → can_end may_end st ≡ true
unfolding run
source-ends us st is it =
    let whole_read : read start us ≡ Some (left_of it.0) = ap (read start) (sym it.1) ∙ reads it.0 0 (behind_imports 0) [] [] in
    let same : left_of it.0 ≡ st = same_some (left_of it.0) st (sym whole_read ∙ is) in
    ap (can_end may_end) (sym same) ∙ left-ends (end_of 0 (behind_imports 0) it.0)
  where
    same_some : (x y : List ToCome) → Some x ≡ Some y → x ≡ y
    same_some x y e = cc

-- and terminals behind which nothing has to come are a module
pub ends-source : (us : List Terminal) (st : List ToCome) → read start us ≡ Some st → can_end may_end st ≡ true → IsSource us
ends-source us st is can = go (read start us) (run-sound opens may_end PhraseOf yields_of grammar_is_sound us start) is
  where
    go : (o : Option (List ToCome)) → ReadsSoundly PhraseOf yields_of start us o → o ≡ Some st → IsSource us
    go None sound e = absurd (cc)
    go (Some next) sound e =
        let same : next ≡ st = cc in
        let ends : can_end may_end next ≡ true = ap (can_end may_end) same ∙ can in
        let qs = empty_phrases opens may_end PhraseOf yields_of grammar_is_sound next ends in
        let ps = sound qs.0 in
        whole_of us ps.0 (ps.1 [] ∙ (ap (λ vs. us ++ vs) (qs.1 []) ∙ append-nil us))
