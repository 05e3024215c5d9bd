-- Wherever a phrase begins, it is read as the same, and it has a fault or none.
--     unplaced        a tree without the places of its parts
--     meaning-same    a phrase has one tree without places
--     read-same, faultless-same
use Rattle.std.proofs.Common.{◌≡◌, ℕ, suc, ◌+◌, Bool, true, false, not, ◌==◌, List, [], ◌∷◌, ◌++◌, length, refl, sym, ap, ◌∙◌, arith, length-append, Some, None}
use Rattle.std.specs.Prelude.{Option, bytes_eq, if◌then◌else◌}
use Rattle.std.specs.List.{list_any}
use Rattle.mls_typetext.specs.declared.scheme.TypeFault.{TypeFault}
use Rattle.mls_typetext.specs.declared.scheme.TypeFault.TheVariants.{NotPolar, Unguarded, Contravariant, DuplicateLabel}
use Rattle.mls_typetext.specs.Phrases.{Sort, whole, codomain, join, join_tail, meet, meet_tail, atom, fields, more_fields, Phrase, recursive, joined, no_codomain, to, joins, no_join, or, meets, no_meet, and, named, boolean, integer, top, bot, parens, braces, first_field, last_field, next_field, width}
use Rattle.mls_typetext.specs.Phrases as phrase
use Rattle.mls_typetext.specs.Trees.{TypeTree, a_name, a_bool, an_int, a_top, a_bot, an_arrow, a_record, a_join, a_meet, a_rec, TypeFields, no_field, a_field, Meaning, meaning}
use Rattle.mls_typetext.specs.Faults.{Around, same, nearest, name_faults, faults, field_faults}
use Rattle.mls_typetext.specs.Books as ty
use Rattle.mls_typetext.specs.Books.{Ty, TyFields, is_in, place_in, first_places, variables_in, field_variables, variables, numbered, numbered_fields, type_of, book_of, root_of, id}
use Rattle.mls_typetext.specs.Texts.{read_of}

abbrev mutual
  pub unplaced : TypeTree → TypeTree
  unplaced (a_name at x) = a_name 0 x
  unplaced a_bool = a_bool
  unplaced an_int = an_int
  unplaced (a_top at) = a_top 0
  unplaced (a_bot at) = a_bot 0
  unplaced (an_arrow a b) = an_arrow (unplaced a) (unplaced b)
  unplaced (a_record all) = a_record (unplaced_fields all)
  unplaced (a_join left at right) = a_join (unplaced left) 0 (unplaced right)
  unplaced (a_meet left at right) = a_meet (unplaced left) 0 (unplaced right)
  unplaced (a_rec x t) = a_rec x (unplaced t)

  pub unplaced_fields : TypeFields → TypeFields
  unplaced_fields no_field = no_field
  unplaced_fields (a_field at label t rest) = a_field 0 label (unplaced t) (unplaced_fields rest)

-- its variables are the same,
mutual
  variables-unplaced : (recs : List (List ℕ)) (t : TypeTree) → variables_in recs (unplaced t) ≡ variables_in recs t
  variables-unplaced recs (a_name at x) = refl
  variables-unplaced recs a_bool = refl
  variables-unplaced recs an_int = refl
  variables-unplaced recs (a_top at) = refl
  variables-unplaced recs (a_bot at) = refl
  variables-unplaced recs (an_arrow a b) = λ i. variables-unplaced recs a i ++ variables-unplaced recs b i
  variables-unplaced recs (a_record all) = field_variables-unplaced recs all
  variables-unplaced recs (a_join left at right) = λ i. variables-unplaced recs left i ++ variables-unplaced recs right i
  variables-unplaced recs (a_meet left at right) = λ i. variables-unplaced recs left i ++ variables-unplaced recs right i
  variables-unplaced recs (a_rec x t) = variables-unplaced (x ∷ recs) t

  field_variables-unplaced : (recs : List (List ℕ)) (fs : TypeFields) → field_variables recs (unplaced_fields fs) ≡ field_variables recs fs
  field_variables-unplaced recs no_field = refl
  field_variables-unplaced recs (a_field at label t rest) = λ i. variables-unplaced recs t i ++ field_variables-unplaced recs rest i

-- and the tree with numbers for names;
mutual
  numbered-unplaced : (vars recs : List (List ℕ)) (t : TypeTree) → numbered vars recs (unplaced t) ≡ numbered vars recs t
  numbered-unplaced vars recs (a_name at x) = refl
  numbered-unplaced vars recs a_bool = refl
  numbered-unplaced vars recs an_int = refl
  numbered-unplaced vars recs (a_top at) = refl
  numbered-unplaced vars recs (a_bot at) = refl
  numbered-unplaced vars recs (an_arrow a b) = λ i. ty.arrow (numbered-unplaced vars recs a i) (numbered-unplaced vars recs b i)
  numbered-unplaced vars recs (a_record all) = ap ty.fields (numbered_fields-unplaced vars recs all)
  numbered-unplaced vars recs (a_join left at right) = λ i. ty.join (numbered-unplaced vars recs left i) (numbered-unplaced vars recs right i)
  numbered-unplaced vars recs (a_meet left at right) = λ i. ty.meet (numbered-unplaced vars recs left i) (numbered-unplaced vars recs right i)
  numbered-unplaced vars recs (a_rec x t) = ap ty.rec (numbered-unplaced vars (x ∷ recs) t)

  numbered_fields-unplaced : (vars recs : List (List ℕ)) (fs : TypeFields) → numbered_fields vars recs (unplaced_fields fs) ≡ numbered_fields vars recs fs
  numbered_fields-unplaced vars recs no_field = refl
  numbered_fields-unplaced vars recs (a_field at label t rest) = λ i. ty.one label (numbered-unplaced vars recs t i) (numbered_fields-unplaced vars recs rest i)

type_of-unplaced : (t : TypeTree) → type_of (unplaced t) ≡ type_of t
type_of-unplaced t =
    ap (λ vs. numbered (first_places vs) [] (unplaced t)) (variables-unplaced [] t) ∙ numbered-unplaced (variables t) [] t

read_of-unplaced : (t : TypeTree) → read_of (unplaced t) ≡ read_of t
read_of-unplaced t = λ i. record {
  book = book_of (type_of-unplaced t i);
  root = id (root_of (type_of-unplaced t i));
  vars = length (first_places (variables-unplaced [] t i));
}

-- and it has as many faults.
name_faults-size : (p : Bool) (guards at other : ℕ) (o : Option Around) → length (name_faults p guards at o) ≡ length (name_faults p guards other o)
name_faults-size p guards at other None = refl
name_faults-size p guards at other (Some r) = go (r.guards == guards) (same r.is_positive p)
  where
    go : (unguarded sign : Bool) → length (if unguarded then Unguarded at ∷ [] else (if sign then [] else Contravariant at ∷ []))
        ≡ length (if unguarded then Unguarded other ∷ [] else (if sign then [] else Contravariant other ∷ []))
    go true sign = refl
    go false true = refl
    go false false = refl

then-size : (b : Bool) (f g : TypeFault) → length (if b then f ∷ [] else []) ≡ length (if b then g ∷ [] else [])
then-size true f g = refl
then-size false f g = refl

else-size : (b : Bool) (f g : TypeFault) → length (if b then [] else f ∷ []) ≡ length (if b then [] else g ∷ [])
else-size true f g = refl
else-size false f g = refl

append-size : {X : Type 0} (xs ys xs' ys' : List X) → length xs ≡ length xs' → length ys ≡ length ys' → length (xs ++ ys) ≡ length (xs' ++ ys')
append-size xs ys xs' ys' e e' = omega (arith, length-append xs ys, length-append xs' ys')

mutual
  faults-size : (p : Bool) (around : List Around) (guards : ℕ) (t : TypeTree) → length (faults p around guards (unplaced t)) ≡ length (faults p around guards t)
  faults-size p around guards (a_name at x) = name_faults-size p guards 0 at (nearest around x)
  faults-size p around guards a_bool = refl
  faults-size p around guards an_int = refl
  faults-size p around guards (a_top at) = then-size p (NotPolar 0) (NotPolar at)
  faults-size p around guards (a_bot at) = else-size p (NotPolar 0) (NotPolar at)
  faults-size p around guards (an_arrow a b) =
      append-size _ _ _ _ (faults-size (not p) around (suc guards) a) (faults-size p around (suc guards) b)
  faults-size p around guards (a_record all) = field_faults-size p around (suc guards) [] all
  faults-size p around guards (a_join left at right) =
      append-size _ _ _ _ (append-size _ _ _ _ (faults-size p around guards left) (else-size p (NotPolar 0) (NotPolar at))) (faults-size p around guards right)
  faults-size p around guards (a_meet left at right) =
      append-size _ _ _ _ (append-size _ _ _ _ (faults-size p around guards left) (then-size p (NotPolar 0) (NotPolar at))) (faults-size p around guards right)
  faults-size p around guards (a_rec x t) = faults-size p (record { x = x; is_positive = p; guards = guards } ∷ around) guards t

  field_faults-size : (p : Bool) (around : List Around) (guards : ℕ) (labels : List (List ℕ)) (fs : TypeFields)
      → length (field_faults p around guards labels (unplaced_fields fs)) ≡ length (field_faults p around guards labels fs)
  field_faults-size p around guards labels no_field = refl
  field_faults-size p around guards labels (a_field at label t rest) =
      append-size _ _ _ _ (append-size _ _ _ _ (then-size (list_any (bytes_eq label) labels) (DuplicateLabel 0) (DuplicateLabel at)) (faults-size p around guards t))
      (field_faults-size p around guards (label ∷ labels) rest)

-- what a phrase of a sort stands for is the same without places; a tail makes the same of the same
abbrev SortSame : (s : Sort) → Meaning s → Meaning s → Type 0
SortSame whole t u = unplaced t ≡ unplaced u
SortSame codomain f g = (l m : TypeTree) → unplaced l ≡ unplaced m → unplaced (f l) ≡ unplaced (g m)
SortSame join t u = unplaced t ≡ unplaced u
SortSame join_tail f g = (l m : TypeTree) → unplaced l ≡ unplaced m → unplaced (f l) ≡ unplaced (g m)
SortSame meet t u = unplaced t ≡ unplaced u
SortSame meet_tail f g = (l m : TypeTree) → unplaced l ≡ unplaced m → unplaced (f l) ≡ unplaced (g m)
SortSame atom t u = unplaced t ≡ unplaced u
SortSame fields fs gs = unplaced_fields fs ≡ unplaced_fields gs
SortSame more_fields fs gs = unplaced_fields fs ≡ unplaced_fields gs

module _ (place other : ℕ → ℕ) where
  meaning-same : {s : Sort} (k l : ℕ) (p : Phrase s) → SortSame s (meaning place k p) (meaning other l p)
  unfolding meaning
  meaning-same k l (recursive x t) = ap (a_rec x) (meaning-same (k + 3) (l + 3) t)
  meaning-same k l (joined j c) = meaning-same (k + width j) (l + width j) c (meaning place k j) (meaning other l j) (meaning-same k l j)
  meaning-same k l no_codomain = λ a b same. same
  meaning-same k l (to t) = λ a b same i. an_arrow (same i) (meaning-same (k + 1) (l + 1) t i)
  meaning-same k l (joins m t) = meaning-same (k + width m) (l + width m) t (meaning place k m) (meaning other l m) (meaning-same k l m)
  meaning-same k l no_join = λ a b same. same
  meaning-same k l (or m t) = λ a b same.
      meaning-same (k + 1 + width m) (l + 1 + width m) t (a_join a (place k) (meaning place (k + 1) m)) (a_join b (other l) (meaning other (l + 1) m))
      (λ i. a_join (same i) 0 (meaning-same (k + 1) (l + 1) m i))
  meaning-same k l (meets a t) = meaning-same (k + width a) (l + width a) t (meaning place k a) (meaning other l a) (meaning-same k l a)
  meaning-same k l no_meet = λ a b same. same
  meaning-same k l (and m t) = λ a b same.
      meaning-same (k + 1 + width m) (l + 1 + width m) t (a_meet a (place k) (meaning place (k + 1) m)) (a_meet b (other l) (meaning other (l + 1) m))
      (λ i. a_meet (same i) 0 (meaning-same (k + 1) (l + 1) m i))
  meaning-same k l (named x) = refl
  meaning-same k l boolean = refl
  meaning-same k l integer = refl
  meaning-same k l top = refl
  meaning-same k l bot = refl
  meaning-same k l (parens t) = meaning-same (k + 1) (l + 1) t
  meaning-same k l (braces f) = ap a_record (meaning-same (k + 1) (l + 1) f)
  meaning-same k l phrase.no_field = refl
  meaning-same k l (first_field label t f) = λ i. a_field 0 label (meaning-same (k + 2) (l + 2) t i) (meaning-same (k + 2 + width t) (l + 2 + width t) f i)
  meaning-same k l last_field = refl
  meaning-same k l (next_field label t f) = λ i. a_field 0 label (meaning-same (k + 3) (l + 3) t i) (meaning-same (k + 3 + width t) (l + 3 + width t) f i)

  pub read-same : (k l : ℕ) (p : Phrase whole) → read_of (meaning place k p) ≡ read_of (meaning other l p)
  read-same k l p =
      sym (read_of-unplaced (meaning place k p)) ∙ (ap read_of (meaning-same k l p) ∙ read_of-unplaced (meaning other l p))

  pub faultless-same : (k l : ℕ) (p : Phrase whole) → faults true [] 0 (meaning place k p) ≡ [] → faults true [] 0 (meaning other l p) ≡ []
  faultless-same k l p none =
      empty (faults true [] 0 (meaning other l p))
      (sym (faults-size true [] 0 (meaning other l p))
      ∙ (ap (λ t. length (faults true [] 0 t)) (sym (meaning-same k l p))
      ∙ (faults-size true [] 0 (meaning place k p) ∙ ap length none)))
    where
      empty : (fs : List TypeFault) → length fs ≡ 0 → fs ≡ []
      empty [] e = refl
      empty (f ∷ fs) e = absurd (omega arith)
