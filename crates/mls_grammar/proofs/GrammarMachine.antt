-- The machine of the grammar of modules: with which terminals a module can go on is computed.
use Rattle.std.proofs.Common.{◌≡◌, ℕ, suc, Bool, true, false, List, [], ◌∷◌, ◌++◌, refl, ◌∙◌, Some, None}
use Rattle.std.specs.Prelude.{Option}
use Rattle.mls_lexer.specs.declared.token.Kind.TheVariants as kind
use Rattle.mls_lexer.specs.Tokens.{Terminal, name, number, word}
use Rattle.mls_lexer.specs.steps.Machine.{run}
use Rattle.mls_grammar.specs.Phrases.{Sort, source, imports, bindings, bind_rest, expr, let_rest, compare_tail, sum, sum_tail, product, product_tail, apply, arguments, post, dots, atom, parts, more_parts, Phrase, whole, no_import, importing, no_binding, binding, simple, recursive, fun, fix, local, choice, plain, simple_in, recursive_in, no_compare, less, equal, summed, no_sum, plus, minus, multiplied, no_product, times, applied, no_argument, argument, posted, no_dot, dot, variable, literal, truth, parens, braces, no_part, first_part, last_part, next_part, yields}

-- what can be still to come: a phrase of a sort, with the nesting of the nearest expression around it, or a name or a word
pub data ToCome : Type 0 where
  a : (around : ℕ) → Sort → ToCome
  the_name the_equals the_arrow the_then the_else the_in the_paren : ToCome

-- the tails that can still begin behind an operand, from the innermost one on
abbrev pub dots_row : ℕ → List ToCome
dots_row n = a n dots ∷ []

abbrev pub arguments_row : ℕ → List ToCome
arguments_row n = a n dots ∷ a n arguments ∷ []

abbrev pub product_row : ℕ → List ToCome
product_row n = a n dots ∷ a n arguments ∷ a n product_tail ∷ []

abbrev pub sum_row : ℕ → List ToCome
sum_row n = a n dots ∷ a n arguments ∷ a n product_tail ∷ a n sum_tail ∷ []

abbrev pub compare_row : ℕ → List ToCome
compare_row n = a n dots ∷ a n arguments ∷ a n product_tail ∷ a n sum_tail ∷ a n compare_tail ∷ []

-- where an atom can begin, with what comes behind it
abbrev pub atom_opens : ℕ → List ToCome → Terminal → Option (List ToCome)
atom_opens n row (name x) = Some row
atom_opens n row (number value) = Some row
atom_opens n row (word kind.WordTrue) = Some row
atom_opens n row (word kind.WordFalse) = Some row
atom_opens n row (word kind.ParenLeft) = Some (a n expr ∷ the_paren ∷ row)
atom_opens n row (word kind.BraceLeft) = Some (a n parts ∷ row)
atom_opens n row _ = None

abbrev pub imports_opens : ℕ → Terminal → Option (List ToCome)
imports_opens n (word kind.WordImport) = Some (the_name ∷ a n imports ∷ [])
imports_opens n _ = None

abbrev pub bindings_opens : ℕ → Terminal → Option (List ToCome)
bindings_opens n (word kind.WordLet) = Some (a n bind_rest ∷ [])
bindings_opens n _ = None

abbrev pub bind_rest_opens : ℕ → Terminal → Option (List ToCome)
bind_rest_opens n (name x) = Some (the_equals ∷ a n expr ∷ a n bindings ∷ [])
bind_rest_opens n (word kind.WordRec) = Some (the_name ∷ the_equals ∷ a n expr ∷ a n bindings ∷ [])
bind_rest_opens n _ = None

abbrev pub expr_opens : ℕ → Terminal → Option (List ToCome)
expr_opens n (word kind.WordFun) = Some (the_name ∷ the_arrow ∷ a (suc n) expr ∷ [])
expr_opens n (word kind.WordRec) = Some (the_name ∷ the_arrow ∷ a (suc n) expr ∷ [])
expr_opens n (word kind.WordLet) = Some (a (suc n) let_rest ∷ [])
expr_opens n (word kind.WordIf) = Some (a (suc n) expr ∷ the_then ∷ a (suc n) expr ∷ the_else ∷ a (suc n) expr ∷ [])
expr_opens n t = atom_opens (suc n) (compare_row (suc n)) t

abbrev pub let_rest_opens : ℕ → Terminal → Option (List ToCome)
let_rest_opens n (name x) = Some (the_equals ∷ a n expr ∷ the_in ∷ a n expr ∷ [])
let_rest_opens n (word kind.WordRec) = Some (the_name ∷ the_equals ∷ a n expr ∷ the_in ∷ a n expr ∷ [])
let_rest_opens n _ = None

abbrev pub compare_tail_opens : ℕ → Terminal → Option (List ToCome)
compare_tail_opens n (word kind.Less) = Some (a n sum ∷ [])
compare_tail_opens n (word kind.DoubleEquals) = Some (a n sum ∷ [])
compare_tail_opens n _ = None

abbrev pub sum_tail_opens : ℕ → Terminal → Option (List ToCome)
sum_tail_opens n (word kind.Plus) = Some (a n product ∷ a n sum_tail ∷ [])
sum_tail_opens n (word kind.Minus) = Some (a n product ∷ a n sum_tail ∷ [])
sum_tail_opens n _ = None

abbrev pub product_tail_opens : ℕ → Terminal → Option (List ToCome)
product_tail_opens n (word kind.Star) = Some (a n apply ∷ a n product_tail ∷ [])
product_tail_opens n _ = None

abbrev pub dots_opens : ℕ → Terminal → Option (List ToCome)
dots_opens n (word kind.Dot) = Some (the_name ∷ a n dots ∷ [])
dots_opens n _ = None

abbrev pub parts_opens : ℕ → Terminal → Option (List ToCome)
parts_opens n (word kind.BraceRight) = Some []
parts_opens n (name x) = Some (the_equals ∷ a n expr ∷ a n more_parts ∷ [])
parts_opens n _ = None

abbrev pub more_parts_opens : ℕ → Terminal → Option (List ToCome)
more_parts_opens n (word kind.BraceRight) = Some []
more_parts_opens n (word kind.Comma) = Some (the_name ∷ the_equals ∷ a n expr ∷ a n more_parts ∷ [])
more_parts_opens n _ = None

abbrev pub name_opens : Terminal → Option (List ToCome)
name_opens (name x) = Some []
name_opens _ = None

abbrev pub equals_opens : Terminal → Option (List ToCome)
equals_opens (word kind.Equals) = Some []
equals_opens _ = None

abbrev pub arrow_opens : Terminal → Option (List ToCome)
arrow_opens (word kind.Arrow) = Some []
arrow_opens _ = None

abbrev pub then_opens : Terminal → Option (List ToCome)
then_opens (word kind.WordThen) = Some []
then_opens _ = None

abbrev pub else_opens : Terminal → Option (List ToCome)
else_opens (word kind.WordElse) = Some []
else_opens _ = None

abbrev pub in_opens : Terminal → Option (List ToCome)
in_opens (word kind.WordIn) = Some []
in_opens _ = None

abbrev pub paren_opens : Terminal → Option (List ToCome)
paren_opens (word kind.ParenRight) = Some []
paren_opens _ = None

-- what a part leaves to come behind a terminal with which it can begin; a source is on the stack as its imports and bindings
abbrev pub opens : ToCome → Terminal → Option (List ToCome)
opens (a n source) t = None
opens (a n imports) t = imports_opens n t
opens (a n bindings) t = bindings_opens n t
opens (a n bind_rest) t = bind_rest_opens n t
opens (a n expr) t = expr_opens n t
opens (a n let_rest) t = let_rest_opens n t
opens (a n compare_tail) t = compare_tail_opens n t
opens (a n sum) t = atom_opens n (sum_row n) t
opens (a n sum_tail) t = sum_tail_opens n t
opens (a n product) t = atom_opens n (product_row n) t
opens (a n product_tail) t = product_tail_opens n t
opens (a n apply) t = atom_opens n (arguments_row n) t
opens (a n arguments) t = atom_opens n (arguments_row n) t
opens (a n post) t = atom_opens n (dots_row n) t
opens (a n dots) t = dots_opens n t
opens (a n atom) t = atom_opens n [] t
opens (a n parts) t = parts_opens n t
opens (a n more_parts) t = more_parts_opens n t
opens the_name t = name_opens t
opens the_equals t = equals_opens t
opens the_arrow t = arrow_opens t
opens the_then t = then_opens t
opens the_else t = else_opens t
opens the_in t = in_opens t
opens the_paren t = paren_opens t

-- what may be empty
abbrev pub may_end : ToCome → Bool
may_end (a n imports) = true
may_end (a n bindings) = true
may_end (a n compare_tail) = true
may_end (a n sum_tail) = true
may_end (a n product_tail) = true
may_end (a n arguments) = true
may_end (a n dots) = true
may_end _ = false

-- what is left to come behind terminals
abbrev pub read : List ToCome → List Terminal → Option (List ToCome)
read st ts = run opens may_end st ts

-- a whole module
abbrev pub start : List ToCome
start = a 0 imports ∷ a 0 bindings ∷ []

-- what can still begin behind imports, behind an expression, or behind one that is compared
pub data End : Type 0 where
  behind_imports may_compare compared : (around : ℕ) → End

abbrev pub tails : End → List ToCome
tails (behind_imports n) = a n imports ∷ []
tails (may_compare n) = compare_row n
tails (compared n) = sum_row n

-- what can still begin behind a phrase, where this is what could before
unfoldable pub end_of : ℕ → End → {s : Sort} → Phrase s → End
end_of n e (whole i b) = end_of n (behind_imports n) b
end_of n e no_import = e
end_of n e (importing x i) = e
end_of n e no_binding = e
end_of n e (binding r) = end_of n e r
end_of n e (simple x p b) = end_of n (end_of n e p) b
end_of n e (recursive x p b) = end_of n (end_of n e p) b
end_of n e (fun x p) = end_of (suc n) e p
end_of n e (fix x p) = end_of (suc n) e p
end_of n e (local r) = end_of (suc n) e r
end_of n e (choice c p q) = end_of (suc n) e q
end_of n e (plain s t) = end_of (suc n) e t
end_of n e (simple_in x p q) = end_of n e q
end_of n e (recursive_in x p q) = end_of n e q
end_of n e no_compare = may_compare n
end_of n e (less s) = compared n
end_of n e (equal s) = compared n
end_of n e (summed p t) = e
end_of n e no_sum = e
end_of n e (plus p t) = e
end_of n e (minus p t) = e
end_of n e (multiplied p t) = e
end_of n e no_product = e
end_of n e (times p t) = e
end_of n e (applied p t) = e
end_of n e no_argument = e
end_of n e (argument p t) = e
end_of n e (posted p d) = e
end_of n e no_dot = e
end_of n e (dot x d) = e
end_of n e (variable x) = e
end_of n e (literal value) = e
end_of n e (truth value) = e
end_of n e (parens p) = e
end_of n e (braces p) = e
end_of n e no_part = e
end_of n e (first_part x p q) = e
end_of n e last_part = e
end_of n e (next_part x p q) = e

-- what stands on the stack before a phrase of a sort: what its left neighbour left, and the part itself
abbrev pub before : Sort → ℕ → End → List ToCome → List ToCome
before source n e st = a n imports ∷ a n bindings ∷ st
before imports n e st = a n imports ∷ st
before bindings n e st = tails e ++ a n bindings ∷ st
before compare_tail n e st = sum_row n ++ a n compare_tail ∷ st
before sum_tail n e st = product_row n ++ a n sum_tail ∷ st
before product_tail n e st = arguments_row n ++ a n product_tail ∷ st
before arguments n e st = dots_row n ++ a n arguments ∷ st
before s n e st = a n s ∷ st

-- what it leaves
abbrev pub left : Sort → ℕ → End → List ToCome → List ToCome
left source n e st = tails e ++ a n bindings ∷ st
left imports n e st = a n imports ∷ st
left bindings n e st = tails e ++ a n bindings ∷ st
left bind_rest n e st = tails e ++ a n bindings ∷ st
left expr n e st = tails e ++ st
left let_rest n e st = tails e ++ st
left compare_tail n e st = tails e ++ st
left sum n e st = sum_row n ++ st
left sum_tail n e st = sum_row n ++ st
left product n e st = product_row n ++ st
left product_tail n e st = product_row n ++ st
left apply n e st = arguments_row n ++ st
left arguments n e st = arguments_row n ++ st
left post n e st = dots_row n ++ st
left dots n e st = dots_row n ++ st
left atom n e st = st
left parts n e st = st
left more_parts n e st = st

-- where an expression ends, no tail of it begins
pass_let : (e : End) (n : ℕ) (st : List ToCome) (ts : List Terminal) → read (tails e ++ a n bindings ∷ st) (word kind.WordLet ∷ ts) ≡ read (a n bind_rest ∷ st) ts
unfolding run
pass_let (behind_imports m) n st ts = refl
pass_let (may_compare m) n st ts = refl
pass_let (compared m) n st ts = refl

pass_then : (e : End) (st : List ToCome) (ts : List Terminal) → read (tails e ++ the_then ∷ st) (word kind.WordThen ∷ ts) ≡ read st ts
unfolding run
pass_then (behind_imports m) st ts = refl
pass_then (may_compare m) st ts = refl
pass_then (compared m) st ts = refl

pass_else : (e : End) (st : List ToCome) (ts : List Terminal) → read (tails e ++ the_else ∷ st) (word kind.WordElse ∷ ts) ≡ read st ts
unfolding run
pass_else (behind_imports m) st ts = refl
pass_else (may_compare m) st ts = refl
pass_else (compared m) st ts = refl

pass_in : (e : End) (st : List ToCome) (ts : List Terminal) → read (tails e ++ the_in ∷ st) (word kind.WordIn ∷ ts) ≡ read st ts
unfolding run
pass_in (behind_imports m) st ts = refl
pass_in (may_compare m) st ts = refl
pass_in (compared m) st ts = refl

pass_paren : (e : End) (st : List ToCome) (ts : List Terminal) → read (tails e ++ the_paren ∷ st) (word kind.ParenRight ∷ ts) ≡ read st ts
unfolding run
pass_paren (behind_imports m) st ts = refl
pass_paren (may_compare m) st ts = refl
pass_paren (compared m) st ts = refl

pass_part : (e : End) (n : ℕ) (p : Phrase more_parts) (st : List ToCome) (ts : List Terminal) → read (tails e ++ a n more_parts ∷ st) (yields p ts) ≡ read (a n more_parts ∷ st) (yields p ts)
unfolding run yields
pass_part (behind_imports m) n last_part st ts = refl
pass_part (may_compare m) n last_part st ts = refl
pass_part (compared m) n last_part st ts = refl
pass_part (behind_imports m) n (next_part x e p) st ts = refl
pass_part (may_compare m) n (next_part x e p) st ts = refl
pass_part (compared m) n (next_part x e p) st ts = refl

-- an operand begins with its first atom
begins_plain : (n : ℕ) (x : Phrase atom) (st : List ToCome) (ts : List Terminal) → read (a n expr ∷ st) (yields x ts) ≡ read (a (suc n) sum ∷ a (suc n) compare_tail ∷ st) (yields x ts)
unfolding yields run
begins_plain n (variable x) st ts = refl
begins_plain n (literal value) st ts = refl
begins_plain n (truth true) st ts = refl
begins_plain n (truth false) st ts = refl
begins_plain n (parens e) st ts = refl
begins_plain n (braces p) st ts = refl

begins_sum : (n : ℕ) (x : Phrase atom) (st : List ToCome) (ts : List Terminal) → read (a n sum ∷ st) (yields x ts) ≡ read (a n product ∷ a n sum_tail ∷ st) (yields x ts)
unfolding yields run
begins_sum n (variable x) st ts = refl
begins_sum n (literal value) st ts = refl
begins_sum n (truth true) st ts = refl
begins_sum n (truth false) st ts = refl
begins_sum n (parens e) st ts = refl
begins_sum n (braces p) st ts = refl

begins_product : (n : ℕ) (x : Phrase atom) (st : List ToCome) (ts : List Terminal) → read (a n product ∷ st) (yields x ts) ≡ read (a n apply ∷ a n product_tail ∷ st) (yields x ts)
unfolding yields run
begins_product n (variable x) st ts = refl
begins_product n (literal value) st ts = refl
begins_product n (truth true) st ts = refl
begins_product n (truth false) st ts = refl
begins_product n (parens e) st ts = refl
begins_product n (braces p) st ts = refl

begins_apply : (n : ℕ) (x : Phrase atom) (st : List ToCome) (ts : List Terminal) → read (a n apply ∷ st) (yields x ts) ≡ read (a n post ∷ a n arguments ∷ st) (yields x ts)
unfolding yields run
begins_apply n (variable x) st ts = refl
begins_apply n (literal value) st ts = refl
begins_apply n (truth true) st ts = refl
begins_apply n (truth false) st ts = refl
begins_apply n (parens e) st ts = refl
begins_apply n (braces p) st ts = refl

begins_argument : (n : ℕ) (x : Phrase atom) (st : List ToCome) (ts : List Terminal) → read (a n dots ∷ a n arguments ∷ st) (yields x ts) ≡ read (a n post ∷ a n arguments ∷ st) (yields x ts)
unfolding yields run
begins_argument n (variable x) st ts = refl
begins_argument n (literal value) st ts = refl
begins_argument n (truth true) st ts = refl
begins_argument n (truth false) st ts = refl
begins_argument n (parens e) st ts = refl
begins_argument n (braces p) st ts = refl

begins_post : (n : ℕ) (x : Phrase atom) (st : List ToCome) (ts : List Terminal) → read (a n post ∷ st) (yields x ts) ≡ read (a n atom ∷ a n dots ∷ st) (yields x ts)
unfolding yields run
begins_post n (variable x) st ts = refl
begins_post n (literal value) st ts = refl
begins_post n (truth true) st ts = refl
begins_post n (truth false) st ts = refl
begins_post n (parens e) st ts = refl
begins_post n (braces p) st ts = refl

plain_begins : (n : ℕ) (s : Phrase sum) (st : List ToCome) (ts : List Terminal) → read (a n expr ∷ st) (yields s ts) ≡ read (a (suc n) sum ∷ a (suc n) compare_tail ∷ st) (yields s ts)
unfolding yields
plain_begins n (summed (multiplied (applied (posted x d) m) t) u) st ts = begins_plain n x st (yields d (yields m (yields t (yields u ts))))

sum_begins : (n : ℕ) (p : Phrase product) (st : List ToCome) (ts : List Terminal) → read (a n sum ∷ st) (yields p ts) ≡ read (a n product ∷ a n sum_tail ∷ st) (yields p ts)
unfolding yields
sum_begins n (multiplied (applied (posted x d) m) t) st ts = begins_sum n x st (yields d (yields m (yields t ts)))

product_begins : (n : ℕ) (p : Phrase apply) (st : List ToCome) (ts : List Terminal) → read (a n product ∷ st) (yields p ts) ≡ read (a n apply ∷ a n product_tail ∷ st) (yields p ts)
unfolding yields
product_begins n (applied (posted x d) m) st ts = begins_product n x st (yields d (yields m ts))

apply_begins : (n : ℕ) (p : Phrase post) (st : List ToCome) (ts : List Terminal) → read (a n apply ∷ st) (yields p ts) ≡ read (a n post ∷ a n arguments ∷ st) (yields p ts)
unfolding yields
apply_begins n (posted x d) st ts = begins_apply n x st (yields d ts)

argument_begins : (n : ℕ) (p : Phrase post) (st : List ToCome) (ts : List Terminal) → read (a n dots ∷ a n arguments ∷ st) (yields p ts) ≡ read (a n post ∷ a n arguments ∷ st) (yields p ts)
unfolding yields
argument_begins n (posted x d) st ts = begins_argument n x st (yields d ts)

-- the machine reads each phrase
pub reads : {s : Sort} (p : Phrase s) (n : ℕ) (e : End) (st : List ToCome) (ts : List Terminal) → read (before s n e st) (yields p ts) ≡ read (left s n (end_of n e p) st) ts
unfolding yields run end_of
reads (whole i b) n e st ts = reads i n e (a n bindings ∷ st) (yields b ts) ∙ reads b n (behind_imports n) st ts
reads no_import n e st ts = refl
reads (importing x i) n e st ts = reads i n e st ts
reads no_binding n e st ts = refl
reads (binding r) n e st ts = pass_let e n st (yields r ts) ∙ reads r n e st ts
reads (simple x p b) n e st ts = reads p n e (a n bindings ∷ st) (yields b ts) ∙ reads b n (end_of n e p) st ts
reads (recursive x p b) n e st ts = reads p n e (a n bindings ∷ st) (yields b ts) ∙ reads b n (end_of n e p) st ts
reads (fun x p) n e st ts = reads p (suc n) e st ts
reads (fix x p) n e st ts = reads p (suc n) e st ts
reads (local r) n e st ts = reads r (suc n) e st ts
reads (choice c p q) n e st ts =
    reads c (suc n) e (the_then ∷ a (suc n) expr ∷ the_else ∷ a (suc n) expr ∷ st) _
    ∙ (pass_then (end_of (suc n) e c) (a (suc n) expr ∷ the_else ∷ a (suc n) expr ∷ st) _
    ∙ (reads p (suc n) e (the_else ∷ a (suc n) expr ∷ st) _
    ∙ (pass_else (end_of (suc n) e p) (a (suc n) expr ∷ st) _
    ∙ reads q (suc n) e st ts)))
reads (plain s t) n e st ts = plain_begins n s st (yields t ts) ∙ (reads s (suc n) e (a (suc n) compare_tail ∷ st) (yields t ts) ∙ reads t (suc n) e st ts)
reads (simple_in x p q) n e st ts = reads p n e (the_in ∷ a n expr ∷ st) _ ∙ (pass_in (end_of n e p) (a n expr ∷ st) _ ∙ reads q n e st ts)
reads (recursive_in x p q) n e st ts = reads p n e (the_in ∷ a n expr ∷ st) _ ∙ (pass_in (end_of n e p) (a n expr ∷ st) _ ∙ reads q n e st ts)
reads no_compare n e st ts = refl
reads (less s) n e st ts = reads s n e st ts
reads (equal s) n e st ts = reads s n e st ts
reads (summed p t) n e st ts = sum_begins n p st (yields t ts) ∙ (reads p n e (a n sum_tail ∷ st) (yields t ts) ∙ reads t n e st ts)
reads no_sum n e st ts = refl
reads (plus p t) n e st ts = reads p n e (a n sum_tail ∷ st) (yields t ts) ∙ reads t n e st ts
reads (minus p t) n e st ts = reads p n e (a n sum_tail ∷ st) (yields t ts) ∙ reads t n e st ts
reads (multiplied p t) n e st ts = product_begins n p st (yields t ts) ∙ (reads p n e (a n product_tail ∷ st) (yields t ts) ∙ reads t n e st ts)
reads no_product n e st ts = refl
reads (times p t) n e st ts = reads p n e (a n product_tail ∷ st) (yields t ts) ∙ reads t n e st ts
reads (applied p m) n e st ts = apply_begins n p st (yields m ts) ∙ (reads p n e (a n arguments ∷ st) (yields m ts) ∙ reads m n e st ts)
reads no_argument n e st ts = refl
reads (argument p m) n e st ts = argument_begins n p st (yields m ts) ∙ (reads p n e (a n arguments ∷ st) (yields m ts) ∙ reads m n e st ts)
reads (posted x d) n e st ts = begins_post n x st (yields d ts) ∙ (reads x n e (a n dots ∷ st) (yields d ts) ∙ reads d n e st ts)
reads no_dot n e st ts = refl
reads (dot x d) n e st ts = reads d n e st ts
reads (variable x) n e st ts = refl
reads (literal value) n e st ts = refl
reads (truth true) n e st ts = refl
reads (truth false) n e st ts = refl
reads (parens p) n e st ts = reads p n e (the_paren ∷ st) (word kind.ParenRight ∷ ts) ∙ pass_paren (end_of n e p) st ts
reads (braces p) n e st ts = reads p n e st ts
reads no_part n e st ts = refl
reads (first_part x p q) n e st ts = reads p n e (a n more_parts ∷ st) (yields q ts) ∙ (pass_part (end_of n e p) n q st ts ∙ reads q n e st ts)
reads last_part n e st ts = refl
reads (next_part x p q) n e st ts = reads p n e (a n more_parts ∷ st) (yields q ts) ∙ (pass_part (end_of n e p) n q st ts ∙ reads q n e st ts)
