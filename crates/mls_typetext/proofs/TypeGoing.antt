-- Terminals begin a type exactly where the machine reads them, and are one exactly where nothing more has to come.
use Rattle.std.proofs.Common.{◌≡◌, true, ℕ, List, [], ◌∷◌, ◌++◌, refl, sym, ap, ◌∙◌, Some, None, append-nil}
use Rattle.std.specs.Prelude.{Option}
use Rattle.mls_lexer.specs.declared.token.Kind.TheVariants as kind
use Rattle.mls_lexer.specs.Tokens.{Terminal, name, word}
use Rattle.mls_lexer.specs.steps.Machine.{run, can_end, onward}
use Rattle.mls_lexer.proofs.Machine.{run-append, Phrases, spell, some_phrases, OpensSoundly, ReadsSoundly, IsSound, run-sound, empty_phrases}
use Rattle.mls_typetext.specs.Phrases.{whole, codomain, join, join_tail, meet, meet_tail, atom, fields, more_fields, Phrase, recursive, joined, no_codomain, to, joins, no_join, or, meets, no_meet, and, named, boolean, integer, top, bot, parens, braces, no_field, first_field, last_field, next_field, yields}
use Rattle.mls_typetext.specs.steps.EndTable.{ToCome, a, the_name, the_dot, the_colon, the_paren, atom_opens, opens, may_end}
use Rattle.mls_typetext.proofs.TypeMachine.{read, left, reads}

-- phrases of parts, and what they spell
abbrev pub PhraseOf : ToCome → Type 0
PhraseOf (a s) = Phrase s
PhraseOf the_name = List ℕ
PhraseOf the_dot = Unit {0}
PhraseOf the_colon = Unit {0}
PhraseOf the_paren = Unit {0}

abbrev pub yields_of : (s : ToCome) → PhraseOf s → List Terminal → List Terminal
yields_of (a s) p ts = yields p ts
yields_of the_name x ts = name x ∷ ts
yields_of the_dot p ts = word kind.Dot ∷ ts
yields_of the_colon p ts = word kind.Colon ∷ ts
yields_of the_paren p ts = word kind.ParenRight ∷ ts

-- there is a phrase of each sort
some_phrase : (s : ToCome) → PhraseOf s
some_phrase (a whole) = joined (joins (meets boolean no_meet) no_join) no_codomain
some_phrase (a codomain) = no_codomain
some_phrase (a join) = joins (meets boolean no_meet) no_join
some_phrase (a join_tail) = no_join
some_phrase (a meet) = meets boolean no_meet
some_phrase (a meet_tail) = no_meet
some_phrase (a atom) = boolean
some_phrase (a fields) = no_field
some_phrase (a more_fields) = last_field
some_phrase the_name = []
some_phrase the_dot = tt
some_phrase the_colon = tt
some_phrase the_paren = tt

-- an atom opens soundly, where it and what comes behind it make the part
abbrev Builds : ToCome → List ToCome → Type 0
Builds s row = (x : Phrase atom) (qs : Phrases PhraseOf row) → (p : PhraseOf s) × ((ts : List Terminal) → yields_of s p ts ≡ yields x (spell PhraseOf yields_of row qs ts))

atom-sound : (s : ToCome) (row : List ToCome) → Builds s row → (t : Terminal) → OpensSoundly PhraseOf yields_of s t (atom_opens row t)
unfolding yields
atom-sound s row build (name x) = λ qs. build (named x) qs
atom-sound s row build (word kind.WordBool) = λ qs. build boolean qs
atom-sound s row build (word kind.WordInt) = λ qs. build integer qs
atom-sound s row build (word kind.WordTop) = λ qs. build top qs
atom-sound s row build (word kind.WordBot) = λ qs. build bot qs
atom-sound s row build (word kind.ParenLeft) = λ qs. build (parens qs.0) qs.1.1
atom-sound s row build (word kind.BraceLeft) = λ qs. build (braces qs.0) qs.1
atom-sound s row build _ = tt

build_whole : Builds (a whole) (a meet_tail ∷ a join_tail ∷ a codomain ∷ [])
unfolding yields
build_whole x qs = (joined (joins (meets x qs.0) qs.1.0) qs.1.1.0, λ ts. refl)

build_join : Builds (a join) (a meet_tail ∷ a join_tail ∷ [])
unfolding yields
build_join x qs = (joins (meets x qs.0) qs.1.0, λ ts. refl)

build_meet : Builds (a meet) (a meet_tail ∷ [])
unfolding yields
build_meet x qs = (meets x qs.0, λ ts. refl)

build_atom : Builds (a atom) []
build_atom x qs = (x, λ ts. refl)

opening : (s : ToCome) (t : Terminal) → OpensSoundly PhraseOf yields_of s t (opens s t)
unfolding yields
opening (a whole) (word kind.WordRec) = λ qs. (recursive qs.0 qs.1.1.0, λ ts. refl)
opening (a whole) t = atom-sound (a whole) (a meet_tail ∷ a join_tail ∷ a codomain ∷ []) build_whole t
opening (a codomain) (word kind.Arrow) = λ qs. (to qs.0, λ ts. refl)
opening (a codomain) _ = tt
opening (a join) t = atom-sound (a join) (a meet_tail ∷ a join_tail ∷ []) build_join t
opening (a join_tail) (word kind.Bar) = λ qs. (or qs.0 qs.1.0, λ ts. refl)
opening (a join_tail) _ = tt
opening (a meet) t = atom-sound (a meet) (a meet_tail ∷ []) build_meet t
opening (a meet_tail) (word kind.Amp) = λ qs. (and qs.0 qs.1.0, λ ts. refl)
opening (a meet_tail) _ = tt
opening (a atom) t = atom-sound (a atom) [] build_atom t
opening (a fields) (word kind.BraceRight) = λ qs. (no_field, λ ts. refl)
opening (a fields) (name x) = λ qs. (first_field x qs.1.0 qs.1.1.0, λ ts. refl)
opening (a fields) _ = tt
opening (a more_fields) (word kind.BraceRight) = λ qs. (last_field, λ ts. refl)
opening (a more_fields) (word kind.Comma) = λ qs. (next_field qs.0 qs.1.1.0 qs.1.1.1.0, λ ts. refl)
opening (a more_fields) _ = tt
opening the_name (name x) = λ qs. (x, λ ts. refl)
opening the_name _ = tt
opening the_dot (word kind.Dot) = λ qs. (tt, λ ts. refl)
opening the_dot _ = tt
opening the_colon (word kind.Colon) = λ qs. (tt, λ ts. refl)
opening the_colon _ = tt
opening the_paren (word kind.ParenRight) = λ qs. (tt, λ ts. refl)
opening the_paren _ = tt

empty : (s : ToCome) → may_end s ≡ true → (p : PhraseOf s) × ((ts : List Terminal) → yields_of s p ts ≡ ts)
unfolding yields
empty (a codomain) e = (no_codomain, λ ts. refl)
empty (a join_tail) e = (no_join, λ ts. refl)
empty (a meet_tail) e = (no_meet, λ ts. refl)
empty (a whole) e = absurd (cc)
empty (a join) e = absurd (cc)
empty (a meet) e = absurd (cc)
empty (a atom) e = absurd (cc)
empty (a fields) e = absurd (cc)
empty (a more_fields) e = absurd (cc)
empty the_name e = absurd (cc)
empty the_dot e = absurd (cc)
empty the_colon e = absurd (cc)
empty the_paren e = absurd (cc)

pub grammar_is_sound : IsSound opens may_end PhraseOf yields_of
grammar_is_sound = record { opening = opening; empty = empty }

-- terminals begin a type where more terminals make them one
abbrev pub Begins : List Terminal → Type 0
Begins us = (p : Phrase whole) × (more : List Terminal) × (yields p [] ≡ us ++ more)

abbrev pub IsThere : Option (List ToCome) → Type 0
IsThere None = ⊥
IsThere (Some st) = Unit {0}

-- what begins a type is read
pub begins-read : (us : List Terminal) → Begins us → IsThere (read (a whole ∷ []) us)
unfolding run
begins-read us it = go (read (a whole ∷ []) us) both
  where
    both : onward (read (a whole ∷ []) us) (λ next. read next it.1) ≡ Some (left whole ++ [])
    both = sym (run-append opens may_end (a whole ∷ []) us it.1) ∙ (ap (read (a whole ∷ [])) (sym it.2) ∙ reads it.0 [] [])

    go : (o : Option (List ToCome)) → onward o (λ next. read next it.1) ≡ Some (left whole ++ []) → IsThere o
    go None e = cc
    go (Some st) e = tt

-- and what is read begins one
pub read-begins : (us : List Terminal) → IsThere (read (a whole ∷ []) us) → Begins us
read-begins us there = go (read (a whole ∷ []) us) (run-sound opens may_end PhraseOf yields_of grammar_is_sound us (a whole ∷ [])) there
  where
    go : (o : Option (List ToCome)) → ReadsSoundly PhraseOf yields_of (a whole ∷ []) us o → IsThere o → Begins us
    go None sound there = absurd there
    go (Some st) sound there =
        let qs : Phrases PhraseOf st = some_phrases PhraseOf some_phrase st in
        let ps = sound qs in
        (ps.0.0, spell PhraseOf yields_of st qs [], ps.1 [])

-- a whole type leaves nothing that has to come
pub type-read : (us : List Terminal) (p : Phrase whole) → yields p [] ≡ us → read (a whole ∷ []) us ≡ Some (left whole)
unfolding run
type-read us p e = ap (read (a whole ∷ [])) (sym e) ∙ reads p [] []

-- and terminals behind which nothing has to come are a type
pub read-type : (us : List Terminal) (st : List ToCome) → read (a whole ∷ []) us ≡ Some st → can_end may_end st ≡ true → (p : Phrase whole) × (yields p [] ≡ us)
read-type us st is can = go (read (a whole ∷ []) us) (run-sound opens may_end PhraseOf yields_of grammar_is_sound us (a whole ∷ [])) is
  where
    go : (o : Option (List ToCome)) → ReadsSoundly PhraseOf yields_of (a whole ∷ []) us o → o ≡ Some st → (p : Phrase whole) × (yields p [] ≡ us)
    go None sound e = absurd (cc)
    go (Some next) sound e =
        let same : next ≡ st = cc in
        let ends : can_end may_end next ≡ true = ap (can_end may_end) same ∙ can in
        let qs = empty_phrases opens may_end PhraseOf yields_of grammar_is_sound next ends in
        let ps = sound qs.0 in
        (ps.0.0, ps.1 [] ∙ (ap (λ vs. us ++ vs) (qs.1 []) ∙ append-nil us))
