-- The pieces of a tree in the order in which a reader of the text, from left to right, can tell them.
use Rattle.std.proofs.Common.{◌≡◌, ℕ, ◌+◌, List, [], ◌∷◌, ◌++◌, refl, sym, ap, ◌∙◌, append-nil}
use Rattle.std.proofs.lemmas.List.{append_assoc}
use Rattle.mls_typetext.specs.Phrases.{Sort, whole, codomain, join, join_tail, meet, meet_tail, atom, fields, more_fields, Phrase, recursive, joined, no_codomain, to, joins, no_join, or, meets, no_meet, and, named, boolean, integer, top, bot, parens, braces, no_field, first_field, last_field, next_field, width}
use Rattle.mls_typetext.specs.Trees.{TypeTree, a_join, a_meet, Meaning, meaning}
use Rattle.mls_typetext.specs.declared.piece.Piece.{Piece}
use Rattle.mls_typetext.specs.declared.piece.Piece.TheVariants as piece
use Rattle.mls_typetext.specs.steps.Pieces.{postorder, field_postorder}

-- what a phrase that begins at token k tells, each piece as soon as its parts are told
unfoldable pub emitted : (place : ℕ → ℕ) → {s : Sort} → ℕ → Phrase s → List Piece
emitted place k (recursive x t) = emitted place (k + 3) t ++ piece.Rec x ∷ []
emitted place k (joined j c) = emitted place k j ++ emitted place (k + width j) c
emitted place k no_codomain = []
emitted place k (to t) = emitted place (k + 1) t ++ piece.Arrow ∷ []
emitted place k (joins m t) = emitted place k m ++ emitted place (k + width m) t
emitted place k no_join = []
emitted place k (or m t) = emitted place (k + 1) m ++ (piece.Join (place k) ∷ emitted place (k + 1 + width m) t)
emitted place k (meets a t) = emitted place k a ++ emitted place (k + width a) t
emitted place k no_meet = []
emitted place k (and a t) = emitted place (k + 1) a ++ (piece.Meet (place k) ∷ emitted place (k + 1 + width a) t)
emitted place k (named x) = piece.Name (place k) x ∷ []
emitted place k boolean = piece.Bool ∷ []
emitted place k integer = piece.Int ∷ []
emitted place k top = piece.Top (place k) ∷ []
emitted place k bot = piece.Bot (place k) ∷ []
emitted place k (parens t) = emitted place (k + 1) t
emitted place k (braces f) = emitted place (k + 1) f ++ piece.Record ∷ []
emitted place k no_field = piece.Last ∷ []
emitted place k (first_field label t f) = emitted place (k + 2) t ++ (emitted place (k + 2 + width t) f ++ piece.Field (place k) label ∷ [])
emitted place k last_field = piece.Last ∷ []
emitted place k (next_field label t f) = emitted place (k + 3) t ++ (emitted place (k + 3 + width t) f ++ piece.Field (place (k + 1)) label ∷ [])

-- these pieces are those of what a phrase stands for; of a tail those behind the part before it
abbrev pub Tells : (s : Sort) → Meaning s → List Piece → Type 0
Tells whole t out = postorder t ≡ out
Tells codomain f out = (left : TypeTree) → postorder (f left) ≡ postorder left ++ out
Tells join t out = postorder t ≡ out
Tells join_tail f out = (left : TypeTree) → postorder (f left) ≡ postorder left ++ out
Tells meet t out = postorder t ≡ out
Tells meet_tail f out = (left : TypeTree) → postorder (f left) ≡ postorder left ++ out
Tells atom t out = postorder t ≡ out
Tells fields all out = field_postorder all ≡ out
Tells more_fields all out = field_postorder all ≡ out

-- an operand with its operator, before what follows
operand : (left right told later : List Piece) (operator : Piece) → right ≡ told → (left ++ (right ++ operator ∷ [])) ++ later ≡ left ++ (told ++ (operator ∷ later))
operand left right told later operator e =
    append_assoc left (right ++ operator ∷ []) later
    ∙ (ap (λ out. left ++ out) (append_assoc right (operator ∷ []) later)
    ∙ ap (λ out. left ++ (out ++ (operator ∷ later))) e)

pub emitted-meaning : (place : ℕ → ℕ) {s : Sort} (k : ℕ) (p : Phrase s) → Tells s (meaning place k p) (emitted place k p)
unfolding emitted meaning
emitted-meaning place k (recursive x t) = ap (λ out. out ++ piece.Rec x ∷ []) (emitted-meaning place (k + 3) t)
emitted-meaning place k (joined j c) =
    emitted-meaning place (k + width j) c (meaning place k j)
    ∙ ap (λ out. out ++ emitted place (k + width j) c) (emitted-meaning place k j)
emitted-meaning place k no_codomain = λ left. sym (append-nil (postorder left))
emitted-meaning place k (to t) = λ left. ap (λ out. postorder left ++ (out ++ piece.Arrow ∷ [])) (emitted-meaning place (k + 1) t)
emitted-meaning place k (joins m t) =
    emitted-meaning place (k + width m) t (meaning place k m)
    ∙ ap (λ out. out ++ emitted place (k + width m) t) (emitted-meaning place k m)
emitted-meaning place k no_join = λ left. sym (append-nil (postorder left))
emitted-meaning place k (or m t) = λ left.
    emitted-meaning place (k + 1 + width m) t (a_join left (place k) (meaning place (k + 1) m))
    ∙ operand (postorder left) (postorder (meaning place (k + 1) m)) (emitted place (k + 1) m) (emitted place (k + 1 + width m) t) (piece.Join (place k)) (emitted-meaning place (k + 1) m)
emitted-meaning place k (meets a t) =
    emitted-meaning place (k + width a) t (meaning place k a)
    ∙ ap (λ out. out ++ emitted place (k + width a) t) (emitted-meaning place k a)
emitted-meaning place k no_meet = λ left. sym (append-nil (postorder left))
emitted-meaning place k (and a t) = λ left.
    emitted-meaning place (k + 1 + width a) t (a_meet left (place k) (meaning place (k + 1) a))
    ∙ operand (postorder left) (postorder (meaning place (k + 1) a)) (emitted place (k + 1) a) (emitted place (k + 1 + width a) t) (piece.Meet (place k)) (emitted-meaning place (k + 1) a)
emitted-meaning place k (named x) = refl
emitted-meaning place k boolean = refl
emitted-meaning place k integer = refl
emitted-meaning place k top = refl
emitted-meaning place k bot = refl
emitted-meaning place k (parens t) = emitted-meaning place (k + 1) t
emitted-meaning place k (braces f) = ap (λ out. out ++ piece.Record ∷ []) (emitted-meaning place (k + 1) f)
emitted-meaning place k no_field = refl
emitted-meaning place k (first_field label t f) =
    λ i. emitted-meaning place (k + 2) t i ++ (emitted-meaning place (k + 2 + width t) f i ++ piece.Field (place k) label ∷ [])
emitted-meaning place k last_field = refl
emitted-meaning place k (next_field label t f) =
    λ i. emitted-meaning place (k + 3) t i ++ (emitted-meaning place (k + 3 + width t) f i ++ piece.Field (place (k + 1)) label ∷ [])
