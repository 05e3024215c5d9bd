-- The trees that phrases of types stand for, and their names.
use Rattle.std.specs.Prelude.{ℕ, ◌+◌, List}
use Rattle.mls_typetext.specs.Phrases.{Sort, whole, codomain, join, join_tail, meet, meet_tail, atom, fields}
use Rattle.mls_typetext.specs.Phrases.{more_fields, Phrase, recursive, joined, no_codomain, to, joins, no_join, or}
use Rattle.mls_typetext.specs.Phrases.{meets, no_meet, and, named, boolean, integer, top, bot, parens, braces}
use Rattle.mls_typetext.specs.Phrases.{first_field, last_field, next_field, width}
use Rattle.mls_typetext.specs.Phrases as phrase

-- a type, with the place of each part at which a fault can stand, which is a number of bytes before it
mutual
  pub data TypeTree : Type 0 where
    a_name : (at : ℕ) (x : List ℕ) → TypeTree
    a_bool an_int : TypeTree
    a_top a_bot : (at : ℕ) → TypeTree
    an_arrow : (from to : TypeTree) → TypeTree
    a_record : TypeFields → TypeTree
    a_join a_meet : TypeTree → (at : ℕ) → TypeTree → TypeTree
    a_rec : (x : List ℕ) → TypeTree → TypeTree

  -- the fields of a record, in the order of the text
  pub data TypeFields : Type 0 where
    no_field : TypeFields
    a_field : (at : ℕ) (label : List ℕ) → TypeTree → TypeFields → TypeFields

-- what a phrase of a sort stands for; a tail stands for what it makes of the part before it
abbrev pub Meaning : Sort → Type 0
Meaning whole = TypeTree
Meaning codomain = TypeTree → TypeTree
Meaning join = TypeTree
Meaning join_tail = TypeTree → TypeTree
Meaning meet = TypeTree
Meaning meet_tail = TypeTree → TypeTree
Meaning atom = TypeTree
Meaning fields = TypeFields
Meaning more_fields = TypeFields

-- what the phrase that begins at token k stands for, where token i has the place `place i`; `|` and `&` group to the
-- left
unfoldable pub meaning : (place : ℕ → ℕ) → {s : Sort} → ℕ → Phrase s → Meaning s
meaning place k (recursive x t) = a_rec x (meaning place (k + 3) t)
meaning place k (joined j c) = meaning place (k + width j) c (meaning place k j)
meaning place k no_codomain = λ left. left
meaning place k (to t) = λ left. an_arrow left (meaning place (k + 1) t)
meaning place k (joins m t) = meaning place (k + width m) t (meaning place k m)
meaning place k no_join = λ left. left
meaning place k (or m t) = λ left. meaning place (k + 1 + width m) t (a_join left (place k) (meaning place (k + 1) m))
meaning place k (meets a t) = meaning place (k + width a) t (meaning place k a)
meaning place k no_meet = λ left. left
meaning place k (and a t) = λ left. meaning place (k + 1 + width a) t (a_meet left (place k) (meaning place (k + 1) a))
meaning place k (named x) = a_name (place k) x
meaning place k boolean = a_bool
meaning place k integer = an_int
meaning place k top = a_top (place k)
meaning place k bot = a_bot (place k)
meaning place k (parens t) = meaning place (k + 1) t
meaning place k (braces f) = a_record (meaning place (k + 1) f)
meaning place k phrase.no_field = no_field
meaning place k (first_field label t f) =
    a_field (place k) label (meaning place (k + 2) t) (meaning place (k + 2 + width t) f)
meaning place k last_field = no_field
meaning place k (next_field label t f) =
    a_field (place (k + 1)) label (meaning place (k + 3) t) (meaning place (k + 3 + width t) f)
