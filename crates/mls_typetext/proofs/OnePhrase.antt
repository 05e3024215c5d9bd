-- The terminals of a type are spelled by at most one phrase.
use Rattle.std.proofs.Common.{◌≡◌, ℕ, List, [], ◌∷◌, refl}
use Rattle.mls_lexer.specs.declared.token.Kind.{Kind}
use Rattle.mls_lexer.specs.declared.token.Kind.TheVariants as kind
use Rattle.mls_lexer.specs.Tokens.{Terminal, name, word}
use Rattle.mls_typetext.specs.Phrases.{Sort, whole, codomain, join, join_tail, meet, meet_tail, atom, fields, more_fields, Phrase, recursive, joined, no_codomain, to, joins, no_join, or, meets, no_meet, and, named, boolean, integer, top, bot, parens, braces, no_field, first_field, last_field, next_field, yields}

-- the terminals do not begin with this word
abbrev pub NotAt : Kind → List Terminal → Type 0
NotAt k ts = (rest : List Terminal) → ts ≡ word k ∷ rest → ⊥

-- a phrase of this sort does not go on with these terminals
abbrev pub IsOver : Sort → List Terminal → Type 0
IsOver whole ts = NotAt kind.Arrow ts × NotAt kind.Bar ts × NotAt kind.Amp ts
IsOver codomain ts = NotAt kind.Arrow ts × NotAt kind.Bar ts × NotAt kind.Amp ts
IsOver join ts = NotAt kind.Bar ts × NotAt kind.Amp ts
IsOver join_tail ts = NotAt kind.Bar ts × NotAt kind.Amp ts
IsOver meet ts = NotAt kind.Amp ts
IsOver meet_tail ts = NotAt kind.Amp ts
IsOver atom ts = Unit {0}
IsOver fields ts = Unit {0}
IsOver more_fields ts = Unit {0}

-- what follows a part within a phrase does not go on with it
over-codomain : (c : Phrase codomain) (ts : List Terminal) → IsOver codomain ts → IsOver join (yields c ts)
unfolding yields
over-codomain no_codomain ts over = (over.1, over.2)
over-codomain (to t) ts over = (λ rest e. cc, λ rest e. cc)

over-join_tail : (c : Phrase join_tail) (ts : List Terminal) → IsOver join_tail ts → IsOver meet (yields c ts)
unfolding yields
over-join_tail no_join ts over = over.1
over-join_tail (or m t) ts over = λ rest e. cc

over-more_fields : (f : Phrase more_fields) (ts : List Terminal) → IsOver whole (yields f ts)
unfolding yields
over-more_fields last_field ts = (λ rest e. cc, λ rest e. cc, λ rest e. cc)
over-more_fields (next_field label t f) ts = (λ rest e. cc, λ rest e. cc, λ rest e. cc)

over-paren : (ts : List Terminal) → IsOver whole (word kind.ParenRight ∷ ts)
over-paren ts = (λ rest e. cc, λ rest e. cc, λ rest e. cc)

-- no operand begins with `rec`
no_rec-atom : (a : Phrase atom) (ts : List Terminal) → NotAt kind.WordRec (yields a ts)
unfolding yields
no_rec-atom (named x) ts rest e = cc
no_rec-atom boolean ts rest e = cc
no_rec-atom integer ts rest e = cc
no_rec-atom top ts rest e = cc
no_rec-atom bot ts rest e = cc
no_rec-atom (parens t) ts rest e = cc
no_rec-atom (braces f) ts rest e = cc

no_rec : (j : Phrase join) (ts : List Terminal) → NotAt kind.WordRec (yields j ts)
unfolding yields
no_rec (joins (meets a t) u) ts = no_rec-atom a (yields t (yields u ts))

-- two phrases that spell the same, with what follows them, are one
abbrev Same : (s : Sort) → Phrase s → Phrase s → List Terminal → List Terminal → Type 0
Same s p q ts us = (p ≡ q) × (ts ≡ us)

rest_of : (t u : Terminal) (ts us : List Terminal) → t ∷ ts ≡ u ∷ us → ts ≡ us
rest_of t u ts us e = cc

name_of : (x y : List ℕ) (ts us : List Terminal) → name x ∷ ts ≡ name y ∷ us → x ≡ y
name_of x y ts us e = cc

same_phrase : {s : Sort} (p q : Phrase s) (ts us : List Terminal) → IsOver s ts → IsOver s us → yields p ts ≡ yields q us → Same s p q ts us
unfolding yields
same_phrase (recursive x t) (recursive y u) ts us over over' e =
    let e' : name x ∷ word kind.Dot ∷ yields t ts ≡ name y ∷ word kind.Dot ∷ yields u us = rest_of _ _ _ _ e in
    let e'' : yields t ts ≡ yields u us = rest_of _ _ _ _ (rest_of _ _ _ _ e') in
    let it = same_phrase t u ts us over over' e'' in
    (λ i. recursive (name_of x y _ _ e' i) (it.0 i), it.1)
same_phrase (recursive x t) (joined j c) ts us over over' e = absurd (no_rec j (yields c us) _ (λ i. e' i))
  where
    e' : yields j (yields c us) ≡ word kind.WordRec ∷ name x ∷ word kind.Dot ∷ yields t ts
    e' = cc
same_phrase (joined j c) (recursive x t) ts us over over' e = absurd (no_rec j (yields c ts) _ e)
same_phrase (joined j c) (joined k d) ts us over over' e =
    let left = same_phrase j k (yields c ts) (yields d us) (over-codomain c ts over) (over-codomain d us over') e in
    let right = same_phrase c d ts us over over' left.1 in
    (λ i. joined (left.0 i) (right.0 i), right.1)
same_phrase no_codomain no_codomain ts us over over' e = (refl, e)
same_phrase no_codomain (to t) ts us over over' e = absurd (over.0 _ e)
same_phrase (to t) no_codomain ts us over over' e = let e' : us ≡ word kind.Arrow ∷ yields t ts = cc in absurd (over'.0 _ e')
same_phrase (to t) (to u) ts us over over' e =
    let it = same_phrase t u ts us over over' (rest_of _ _ _ _ e) in
    (λ i. to (it.0 i), it.1)
same_phrase (joins m t) (joins n u) ts us over over' e =
    let left = same_phrase m n (yields t ts) (yields u us) (over-join_tail t ts over) (over-join_tail u us over') e in
    let right = same_phrase t u ts us over over' left.1 in
    (λ i. joins (left.0 i) (right.0 i), right.1)
same_phrase no_join no_join ts us over over' e = (refl, e)
same_phrase no_join (or m t) ts us over over' e = absurd (over.0 _ e)
same_phrase (or m t) no_join ts us over over' e = let e' : us ≡ word kind.Bar ∷ yields m (yields t ts) = cc in absurd (over'.0 _ e')
same_phrase (or m t) (or n u) ts us over over' e =
    let left = same_phrase m n (yields t ts) (yields u us) (over-join_tail t ts over) (over-join_tail u us over') (rest_of _ _ _ _ e) in
    let right = same_phrase t u ts us over over' left.1 in
    (λ i. or (left.0 i) (right.0 i), right.1)
same_phrase (meets a t) (meets b u) ts us over over' e =
    let left = same_phrase a b (yields t ts) (yields u us) tt tt e in
    let right = same_phrase t u ts us over over' left.1 in
    (λ i. meets (left.0 i) (right.0 i), right.1)
same_phrase no_meet no_meet ts us over over' e = (refl, e)
same_phrase no_meet (and a t) ts us over over' e = absurd (over _ e)
same_phrase (and a t) no_meet ts us over over' e = let e' : us ≡ word kind.Amp ∷ yields a (yields t ts) = cc in absurd (over' _ e')
same_phrase (and a t) (and b u) ts us over over' e =
    let left = same_phrase a b (yields t ts) (yields u us) tt tt (rest_of _ _ _ _ e) in
    let right = same_phrase t u ts us over over' left.1 in
    (λ i. and (left.0 i) (right.0 i), right.1)
same_phrase (named x) (named y) ts us over over' e = (λ i. named (name_of x y _ _ e i), rest_of _ _ _ _ e)
same_phrase boolean boolean ts us over over' e = (refl, rest_of _ _ _ _ e)
same_phrase integer integer ts us over over' e = (refl, rest_of _ _ _ _ e)
same_phrase top top ts us over over' e = (refl, rest_of _ _ _ _ e)
same_phrase bot bot ts us over over' e = (refl, rest_of _ _ _ _ e)
same_phrase (parens t) (parens u) ts us over over' e =
    let it = same_phrase t u (word kind.ParenRight ∷ ts) (word kind.ParenRight ∷ us) (over-paren ts) (over-paren us) (rest_of _ _ _ _ e) in
    (λ i. parens (it.0 i), rest_of _ _ _ _ it.1)
same_phrase (braces f) (braces g) ts us over over' e =
    let it = same_phrase f g ts us tt tt (rest_of _ _ _ _ e) in
    (λ i. braces (it.0 i), it.1)
same_phrase (named x) q ts us over over' e = absurd (cc)
same_phrase boolean q ts us over over' e = absurd (cc)
same_phrase integer q ts us over over' e = absurd (cc)
same_phrase top q ts us over over' e = absurd (cc)
same_phrase bot q ts us over over' e = absurd (cc)
same_phrase (parens t) q ts us over over' e = absurd (cc)
same_phrase (braces f) q ts us over over' e = absurd (cc)
same_phrase no_field no_field ts us over over' e = (refl, rest_of _ _ _ _ e)
same_phrase no_field (first_field label t f) ts us over over' e = absurd (cc)
same_phrase (first_field label t f) no_field ts us over over' e = absurd (cc)
same_phrase (first_field label t f) (first_field other u g) ts us over over' e =
    let left = same_phrase t u (yields f ts) (yields g us) (over-more_fields f ts) (over-more_fields g us) (rest_of _ _ _ _ (rest_of _ _ _ _ e)) in
    let right = same_phrase f g ts us tt tt left.1 in
    (λ i. first_field (name_of label other _ _ e i) (left.0 i) (right.0 i), right.1)
same_phrase last_field last_field ts us over over' e = (refl, rest_of _ _ _ _ e)
same_phrase last_field (next_field label t f) ts us over over' e = absurd (cc)
same_phrase (next_field label t f) last_field ts us over over' e = absurd (cc)
same_phrase (next_field label t f) (next_field other u g) ts us over over' e =
    let e' : name label ∷ word kind.Colon ∷ yields t (yields f ts) ≡ name other ∷ word kind.Colon ∷ yields u (yields g us) = rest_of _ _ _ _ e in
    let left = same_phrase t u (yields f ts) (yields g us) (over-more_fields f ts) (over-more_fields g us) (rest_of _ _ _ _ (rest_of _ _ _ _ e')) in
    let right = same_phrase f g ts us tt tt left.1 in
    (λ i. next_field (name_of label other _ _ e' i) (left.0 i) (right.0 i), right.1)

-- at the end of the terminals nothing goes on
over-end : IsOver whole []
over-end = (λ rest e. cc, λ rest e. cc, λ rest e. cc)

pub one_phrase : (p q : Phrase whole) → yields p [] ≡ yields q [] → p ≡ q
one_phrase p q e = (same_phrase p q [] [] over-end over-end e).0

-- so it is where terminals follow that do not go on with either
pub one_phrase_before : (p q : Phrase whole) (ts us : List Terminal) → IsOver whole ts → IsOver whole us → yields p ts ≡ yields q us → (p ≡ q) × (ts ≡ us)
one_phrase_before = same_phrase
