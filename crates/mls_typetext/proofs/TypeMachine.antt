-- The machine of the grammar of types: with which terminals a type can go on is computed.
use Rattle.std.proofs.Common.{◌≡◌, List, [], ◌∷◌, ◌++◌, refl, ◌∙◌}
use Rattle.std.specs.Prelude.{Option}
use Rattle.mls_lexer.specs.declared.token.Kind.TheVariants as kind
use Rattle.mls_lexer.specs.Tokens.{Terminal, word}
use Rattle.mls_lexer.specs.steps.Machine.{run}
use Rattle.mls_typetext.specs.steps.EndTable.{ToCome, a, the_paren, opens, may_end}
use Rattle.mls_typetext.specs.Phrases.{Sort, whole, codomain, join, join_tail, meet, meet_tail, atom, fields, more_fields, Phrase, recursive, joined, no_codomain, to, joins, no_join, or, meets, no_meet, and, named, boolean, integer, top, bot, parens, braces, no_field, first_field, last_field, next_field, yields}

-- what is left to come behind terminals
abbrev pub read : List ToCome → List Terminal → Option (List ToCome)
read st ts = run opens may_end st ts

-- what a phrase of a sort leaves: the tails that could still begin
abbrev pub left : Sort → List ToCome
left whole = a meet_tail ∷ a join_tail ∷ a codomain ∷ []
left codomain = a meet_tail ∷ a join_tail ∷ a codomain ∷ []
left join = a meet_tail ∷ a join_tail ∷ []
left join_tail = a meet_tail ∷ a join_tail ∷ []
left meet = a meet_tail ∷ []
left meet_tail = a meet_tail ∷ []
left atom = []
left fields = []
left more_fields = []

-- what its left neighbour left before a tail
abbrev pub front : Sort → List ToCome
front codomain = a meet_tail ∷ a join_tail ∷ []
front join_tail = a meet_tail ∷ []
front _ = []

-- an operand begins with its first atom
whole_begins : (x : Phrase atom) (st : List ToCome) (ts : List Terminal) → read (a whole ∷ st) (yields x ts) ≡ read (a join ∷ a codomain ∷ st) (yields x ts)
unfolding yields run
whole_begins (named x) st ts = refl
whole_begins boolean st ts = refl
whole_begins integer st ts = refl
whole_begins top st ts = refl
whole_begins bot st ts = refl
whole_begins (parens t) st ts = refl
whole_begins (braces f) st ts = refl

join_begins : (x : Phrase atom) (st : List ToCome) (ts : List Terminal) → read (a join ∷ st) (yields x ts) ≡ read (a meet ∷ a join_tail ∷ st) (yields x ts)
unfolding yields run
join_begins (named x) st ts = refl
join_begins boolean st ts = refl
join_begins integer st ts = refl
join_begins top st ts = refl
join_begins bot st ts = refl
join_begins (parens t) st ts = refl
join_begins (braces f) st ts = refl

meet_begins : (x : Phrase atom) (st : List ToCome) (ts : List Terminal) → read (a meet ∷ st) (yields x ts) ≡ read (a atom ∷ a meet_tail ∷ st) (yields x ts)
unfolding yields run
meet_begins (named x) st ts = refl
meet_begins boolean st ts = refl
meet_begins integer st ts = refl
meet_begins top st ts = refl
meet_begins bot st ts = refl
meet_begins (parens t) st ts = refl
meet_begins (braces f) st ts = refl

whole_begins-join : (j : Phrase join) (st : List ToCome) (ts : List Terminal) → read (a whole ∷ st) (yields j ts) ≡ read (a join ∷ a codomain ∷ st) (yields j ts)
unfolding yields
whole_begins-join (joins (meets x t) u) st ts = whole_begins x st (yields t (yields u ts))

join_begins-meet : (m : Phrase meet) (st : List ToCome) (ts : List Terminal) → read (a join ∷ st) (yields m ts) ≡ read (a meet ∷ a join_tail ∷ st) (yields m ts)
unfolding yields
join_begins-meet (meets x t) st ts = join_begins x st (yields t ts)

-- behind the fields' types
read-more_fields : (f : Phrase more_fields) (st : List ToCome) (ts : List Terminal) → read (left whole ++ a more_fields ∷ st) (yields f ts) ≡ read (a more_fields ∷ st) (yields f ts)
unfolding yields run
read-more_fields last_field st ts = refl
read-more_fields (next_field label t f) st ts = refl

-- the machine reads each phrase
pub reads : {s : Sort} (p : Phrase s) (st : List ToCome) (ts : List Terminal) → read (front s ++ a s ∷ st) (yields p ts) ≡ read (left s ++ st) ts
unfolding yields run
reads (recursive x t) st ts = reads t st ts
reads (joined j c) st ts = whole_begins-join j st (yields c ts) ∙ (reads j (a codomain ∷ st) (yields c ts) ∙ reads c st ts)
reads no_codomain st ts = refl
reads (to t) st ts = reads t st ts
reads (joins m t) st ts = join_begins-meet m st (yields t ts) ∙ (reads m (a join_tail ∷ st) (yields t ts) ∙ reads t st ts)
reads no_join st ts = refl
reads (or m t) st ts = reads m (a join_tail ∷ st) (yields t ts) ∙ reads t st ts
reads (meets x t) st ts = meet_begins x st (yields t ts) ∙ (reads x (a meet_tail ∷ st) (yields t ts) ∙ reads t st ts)
reads no_meet st ts = refl
reads (and x t) st ts = reads x (a meet_tail ∷ st) (yields t ts) ∙ reads t st ts
reads (named x) st ts = refl
reads boolean st ts = refl
reads integer st ts = refl
reads top st ts = refl
reads bot st ts = refl
reads (parens t) st ts = reads t (the_paren ∷ st) (word kind.ParenRight ∷ ts)
reads (braces f) st ts = reads f st ts
reads no_field st ts = refl
reads (first_field label t f) st ts = reads t (a more_fields ∷ st) (yields f ts) ∙ (read-more_fields f st ts ∙ reads f st ts)
reads last_field st ts = refl
reads (next_field label t f) st ts = reads t (a more_fields ∷ st) (yields f ts) ∙ (read-more_fields f st ts ∙ reads f st ts)
