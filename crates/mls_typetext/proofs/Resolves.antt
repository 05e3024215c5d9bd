-- The machine that reads pieces from their end reads the pieces of a tree as its items and its first fault.
use Rattle.std.proofs.Common.{◌≡◌, ℕ, suc, ◌+◌, ◌-◌, Bool, true, false, not, if◌then◌else◌, List, [], ◌∷◌, ◌++◌, length, map, reverse, refl, sym, ap, ◌∙◌, arith, append_assoc, Some, None}
use Rattle.std.specs.Prelude.{Option, ◌||◌, ◌==◌, bytes_eq}
use Rattle.std.specs.List.{list_any}
use Rattle.std.proofs.lemmas.List.{reverse-append, append-nil}
use Rattle.std.proofs.lemmas.Slice.Eq.{bytes_eq-Decides}
use Rattle.mls_typetext.specs.declared.scheme.TypeFault.{TypeFault}
use Rattle.mls_typetext.specs.declared.scheme.TypeFault.TheVariants.{NotPolar, Unguarded, Contravariant, DuplicateLabel}
use Rattle.mls_typetext.specs.declared.piece.Piece.{Piece}
use Rattle.mls_typetext.specs.declared.piece.Piece.TheVariants as piece
use Rattle.mls_typetext.specs.declared.piece.Item.{Item}
use Rattle.mls_typetext.specs.declared.piece.Item.TheVariants as item
use Rattle.mls_typetext.specs.declared.resolve.NamePlace.{NamePlace}
use Rattle.mls_typetext.specs.declared.resolve.NameTask.{NameTask}
use Rattle.mls_typetext.specs.declared.resolve.NameTask.TheVariants.{Part, Leave, Note}
use Rattle.mls_typetext.specs.Trees.{TypeTree, a_name, a_bool, an_int, a_top, a_bot, an_arrow, a_record, a_join, a_meet, a_rec, TypeFields, no_field, a_field}
use Rattle.mls_typetext.specs.Books.{is_in, place_in}
use Rattle.mls_typetext.specs.Faults.{Around, nearest, same, name_faults, faults, field_faults}
use Rattle.mls_typetext.specs.steps.Pieces.{postorder, field_postorder}
use Rattle.mls_typetext.specs.steps.Items.{items, field_items}
use Rattle.mls_typetext.specs.steps.NameMachine.{Known, whole_place, domain, nothing_known, told, noted, naming, fault_if, name_fault, name_item, notes, opened, taken, ended, known_after}

-- what is to do before the next piece is done at it, or at the end
pub after_leave : (x : List ℕ) (outer : Option NamePlace) (st : List NameTask) (k : Known) (ps : List Piece) → known_after (Leave x outer ∷ st) k ps ≡ known_after st (naming x outer k) ps
unfolding known_after taken ended
after_leave x outer st k [] = refl
after_leave x outer st k (piece ∷ ps) = refl

pub after_note : (fault : TypeFault) (st : List NameTask) (k : Known) (ps : List Piece) → known_after (Note fault ∷ st) k ps ≡ known_after st (noted (Some fault) k) ps
unfolding known_after taken ended
after_note fault st k [] = refl
after_note fault st k (piece ∷ ps) = refl

after_notes : (fault : Option TypeFault) (st : List NameTask) (k : Known) (ps : List Piece) → known_after (notes fault ++ st) k ps ≡ known_after st (noted fault k) ps
after_notes None st k ps = refl
after_notes (Some fault) st k ps = after_note fault st k ps

pub after_piece : (piece : Piece) (p : NamePlace) (st : List NameTask) (k : Known) (ps : List Piece)
    → known_after (Part p ∷ st) k (piece ∷ ps) ≡ known_after (opened piece p st k).tasks (opened piece p st k).known ps
unfolding known_after taken
after_piece piece p st k ps = refl

pub after_all : (p : NamePlace) (st : List NameTask) (k : Known) → known_after (Part p ∷ st) k [] ≡ known_after st k []
unfolding known_after ended
after_all p st k = refl

-- where no task is left nothing changes any more
pub after_none : (k : Known) (ps : List Piece) → known_after [] k ps ≡ k
unfolding known_after taken ended
after_none k [] = refl
after_none k (piece ∷ ps) = after_none k ps

-- lists that are read from their end
module _ {A : Type 0} where
  ends_one : (xs : List A) (z : A) (rest : List A) → reverse (xs ++ z ∷ []) ++ rest ≡ z ∷ (reverse xs ++ rest)
  ends_one xs z rest = ap (λ l. l ++ rest) (reverse-append xs (z ∷ []))

  ends_two : (xs ys : List A) (z : A) (rest : List A) → reverse (xs ++ (ys ++ z ∷ [])) ++ rest ≡ z ∷ (reverse ys ++ (reverse xs ++ rest))
  ends_two xs ys z rest =
      ap (λ l. l ++ rest) (reverse-append xs (ys ++ z ∷ []) ∙ ap (λ l. l ++ reverse xs) (reverse-append ys (z ∷ [])))
      ∙ ap (λ l. z ∷ l) (append_assoc (reverse ys) (reverse xs) rest)

  tells_one : (out xs : List A) (z : A) → (out ++ z ∷ []) ++ reverse xs ≡ out ++ reverse (xs ++ z ∷ [])
  tells_one out xs z = append_assoc out (z ∷ []) (reverse xs) ∙ ap (λ l. out ++ l) (sym (reverse-append xs (z ∷ [])))

  tells_two : (out xs ys : List A) (z : A) → ((out ++ z ∷ []) ++ reverse ys) ++ reverse xs ≡ out ++ reverse (xs ++ (ys ++ z ∷ []))
  tells_two out xs ys z =
      ap (λ l. l ++ reverse xs) (tells_one out ys z)
      ∙ (append_assoc out (reverse (ys ++ z ∷ [])) (reverse xs)
      ∙ ap (λ l. out ++ l) (sym (reverse-append xs (ys ++ z ∷ []))))

-- the first of these faults, or another if there is none
abbrev pub first_or : List TypeFault → Option TypeFault → Option TypeFault
first_or [] other = other
first_or (fault ∷ later) other = Some fault

first_or-append : (xs ys : List TypeFault) (other : Option TypeFault) → first_or xs (first_or ys other) ≡ first_or (xs ++ ys) other
first_or-append [] ys other = refl
first_or-append (x ∷ xs) ys other = refl

abbrev one_of : Option TypeFault → List TypeFault
one_of None = []
one_of (Some fault) = fault ∷ []

-- what the names of these `rec`s mean
abbrev pub found : List Around → List ℕ → Option NamePlace
found [] x = None
found (r ∷ rs) x = if bytes_eq r.x x then Some (record { is_positive = r.is_positive; guards = r.guards; depth = suc (length rs) }) else found rs x

abbrev pub names : List Around → List (List ℕ)
names around = map (λ r. r.x) around

-- a name of a `rec` or of none
pub data Means (around : List Around) (x : List ℕ) : Type 0 where
  none : found around x ≡ None → nearest around x ≡ None → is_in (names around) x ≡ false → Means around x
  some : (b : NamePlace) (r : Around) → found around x ≡ Some b → nearest around x ≡ Some r → is_in (names around) x ≡ true
      → b.is_positive ≡ r.is_positive → b.guards ≡ r.guards → length around ≡ b.depth + place_in (names around) x → Means around x

means : (around : List Around) (x : List ℕ) → Means around x
means [] x = none refl refl refl
means (r ∷ rs) x = go (bytes_eq r.x x) refl (means rs x)
  where
    go : (b : Bool) → bytes_eq r.x x ≡ b → Means rs x → Means (r ∷ rs) x
    go true e m =
        some (record { is_positive = r.is_positive; guards = r.guards; depth = suc (length rs) }) r
        (ap (λ b. if b then Some (record { is_positive = r.is_positive; guards = r.guards; depth = suc (length rs) }) else found rs x) e)
        (ap (λ b. if b then Some r else nearest rs x) e)
        (ap (λ b. if b then true else is_in (names rs) x) e)
        refl refl
        (sym (ap (λ b. suc (length rs) + (if b then 0 else suc (place_in (names rs) x))) e ∙ omega arith))
    go false e (none f n i) =
        none
        (ap (λ b. if b then Some (record { is_positive = r.is_positive; guards = r.guards; depth = suc (length rs) }) else found rs x) e ∙ f)
        (ap (λ b. if b then Some r else nearest rs x) e ∙ n)
        (ap (λ b. if b then true else is_in (names rs) x) e ∙ i)
    go false e (some b r' f n i s g d) =
        some b r'
        (ap (λ b. if b then Some (record { is_positive = r.is_positive; guards = r.guards; depth = suc (length rs) }) else found rs x) e ∙ f)
        (ap (λ b. if b then Some r else nearest rs x) e ∙ n)
        (ap (λ b. if b then true else is_in (names rs) x) e ∙ i)
        s g
        (ap suc d ∙ (omega arith ∙ sym (ap (λ c. b.depth + (if c then 0 else suc (place_in (names rs) x))) e)))

-- the place of a part under these `rec`s, and what is known there
abbrev at_place : Bool → ℕ → List Around → NamePlace
at_place is_positive guards around = record { is_positive = is_positive; guards = guards; depth = length around }

abbrev under : List Around → (List ℕ → Bool) → Option TypeFault → List Item → Known
under around labels fault out = record { recs = found around; labels = labels; fault = fault; items = out }

noted-under : (f : Option TypeFault) (around : List Around) (labels : List ℕ → Bool) (fault : Option TypeFault) (out : List Item)
    → noted f (under around labels fault out) ≡ under around labels (first_or (one_of f) fault) out
noted-under None around labels fault out = refl
noted-under (Some f) around labels fault out = refl

told-noted : (f : Option TypeFault) (fs : List TypeFault) (told_item it : Item) (around : List Around) (labels : List ℕ → Bool) (fault : Option TypeFault) (out : List Item)
    → one_of f ≡ fs → told_item ≡ it
    → told told_item (noted f (under around labels fault out)) ≡ under around labels (first_or fs fault) (out ++ it ∷ [])
told-noted f fs told_item it around labels fault out e e' =
    ap (told told_item) (noted-under f around labels fault out)
    ∙ (λ i. under around labels (first_or (e i) fault) (out ++ e' i ∷ []))

one_if : (b : Bool) (fault : TypeFault) → one_of (fault_if b fault) ≡ (if b then fault ∷ [] else [])
one_if true fault = refl
one_if false fault = refl

one_unless : (b : Bool) (fault : TypeFault) → one_of (fault_if (not b) fault) ≡ (if b then [] else fault ∷ [])
one_unless true fault = refl
one_unless false fault = refl

-- the labels of the record that was read last, once a part was read
abbrev mutual
  labels_after : (List ℕ → Bool) → TypeTree → List ℕ → Bool
  labels_after labels (a_name at x) = labels
  labels_after labels a_bool = labels
  labels_after labels an_int = labels
  labels_after labels (a_top at) = labels
  labels_after labels (a_bot at) = labels
  labels_after labels (an_arrow from to) = labels_after (labels_after labels to) from
  labels_after labels (a_record all) = field_labels_after (λ x. false) all
  labels_after labels (a_join left at right) = labels_after (labels_after labels right) left
  labels_after labels (a_meet left at right) = labels_after (labels_after labels right) left
  labels_after labels (a_rec x t) = labels_after labels t

  field_labels_after : (List ℕ → Bool) → TypeFields → List ℕ → Bool
  field_labels_after labels no_field = labels
  field_labels_after labels (a_field at label t rest) = labels_after (field_labels_after (λ x. bytes_eq x label || labels x) rest) t

-- the pieces of a tree are read as its items and its first fault
abbrev pub Reads : TypeTree → Type 0
Reads t = (p : Bool) (around : List Around) (guards : ℕ) (st : List NameTask) (labels : List ℕ → Bool) (fault : Option TypeFault) (out : List Item) (rest : List Piece)
    → known_after (Part (at_place p guards around) ∷ st) (under around labels fault out) (reverse (postorder t) ++ rest)
    ≡ known_after st (under around (labels_after labels t) (first_or (faults p around guards t) fault) (out ++ reverse (items (names around) t))) rest

abbrev in_list : List (List ℕ) → List ℕ → Bool
in_list labels x = list_any (bytes_eq x) labels

abbrev pub ReadsFields : TypeFields → Type 0
ReadsFields all = (p : Bool) (around : List Around) (guards : ℕ) (st : List NameTask) (labels : List (List ℕ)) (fault : Option TypeFault) (out : List Item) (rest : List Piece)
    → known_after (Part (at_place p guards around) ∷ st) (under around (in_list labels) fault out) (reverse (field_postorder all) ++ rest)
    ≡ known_after st (under around (field_labels_after (in_list labels) all) (first_or (field_faults p around guards labels all) fault) (out ++ reverse (field_items (names around) all))) rest

name_faults-same : (guarded kept : Bool) (unguarded contravariant : TypeFault)
    → one_of (if guarded then Some unguarded else fault_if (not kept) contravariant) ≡ (if guarded then unguarded ∷ [] else (if kept then [] else contravariant ∷ []))
name_faults-same true kept u c = refl
name_faults-same false true u c = refl
name_faults-same false false u c = refl

name-fault : (p : Bool) (around : List Around) (guards at : ℕ) (x : List ℕ) → Means around x
    → one_of (name_fault (at_place p guards around) at (found around x)) ≡ name_faults p guards at (nearest around x)
name-fault p around guards at x (none f n i) =
    ap (λ o. one_of (name_fault (at_place p guards around) at o)) f ∙ sym (ap (name_faults p guards at) n)
name-fault p around guards at x (some b r f n i s g d) =
    ap (λ o. one_of (name_fault (at_place p guards around) at o)) f
    ∙ (name_faults-same (b.guards == guards) (same b.is_positive p) (Unguarded at) (Contravariant at)
    ∙ ((λ i. if g i == guards then Unguarded at ∷ [] else (if same (s i) p then [] else Contravariant at ∷ []))
    ∙ sym (ap (name_faults p guards at) n)))

name-item : (p : Bool) (around : List Around) (guards : ℕ) (x : List ℕ) → Means around x
    → name_item (at_place p guards around) x (found around x) ≡ (if is_in (names around) x then item.Again (place_in (names around) x) else item.Variable x)
name-item p around guards x (none f n i) =
    ap (name_item (at_place p guards around) x) f ∙ sym (ap (λ b. if b then item.Again (place_in (names around) x) else item.Variable x) i)
name-item p around guards x (some b r f n i s g d) =
    let k : length around - b.depth ≡ place_in (names around) x = omega (arith, d) in
    ap (name_item (at_place p guards around) x) f
    ∙ (ap item.Again k
    ∙ sym (ap (λ b. if b then item.Again (place_in (names around) x) else item.Variable x) i))

reads-name : (at : ℕ) (x : List ℕ) → Reads (a_name at x)
reads-name at x p around guards st labels fault out rest =
    after_piece (piece.Name at x) (at_place p guards around) st (under around labels fault out) rest
    ∙ ap (λ k. known_after st k rest) (told-noted _ _ _ _ around labels fault out (name-fault p around guards at x (means around x)) (name-item p around guards x (means around x)))

reads-top : (at : ℕ) → Reads (a_top at)
reads-top at p around guards st labels fault out rest =
    after_piece (piece.Top at) (at_place p guards around) st (under around labels fault out) rest
    ∙ ap (λ k. known_after st k rest) (told-noted _ _ item.Top item.Top around labels fault out (one_if p (NotPolar at)) refl)

reads-bot : (at : ℕ) → Reads (a_bot at)
reads-bot at p around guards st labels fault out rest =
    after_piece (piece.Bot at) (at_place p guards around) st (under around labels fault out) rest
    ∙ ap (λ k. known_after st k rest) (told-noted _ _ item.Bot item.Bot around labels fault out (one_unless p (NotPolar at)) refl)

reads-arrow : (from to : TypeTree) → Reads from → Reads to → Reads (an_arrow from to)
reads-arrow from to h h' p around guards st labels fault out rest =
    let here = at_place p guards around in
    ap (known_after (Part here ∷ st) (under around labels fault out)) (ends_two (postorder from) (postorder to) piece.Arrow rest)
    ∙ (after_piece piece.Arrow here st (under around labels fault out) (reverse (postorder to) ++ (reverse (postorder from) ++ rest))
    ∙ (h' p around (suc guards) (Part (domain here) ∷ st) labels fault (out ++ item.Arrow ∷ []) (reverse (postorder from) ++ rest)
    ∙ (h (not p) around (suc guards) st _ _ _ rest
    ∙ (λ i. known_after st (under around (labels_after (labels_after labels to) from)
    (first_or-append (faults (not p) around (suc guards) from) (faults p around (suc guards) to) fault i)
    (tells_two out (items (names around) from) (items (names around) to) item.Arrow i)) rest))))

-- a join or a meet, whose own fault stands between its parts
module _ (left right : TypeTree) (h : Reads left) (h' : Reads right) (it : Item) (p : Bool) (around : List Around) (guards : ℕ) (own : Option TypeFault) (own_faults : List TypeFault) (e : one_of own ≡ own_faults) where
  reads-pair : (st : List NameTask) (labels : List ℕ → Bool) (fault : Option TypeFault) (out : List Item) (rest : List Piece)
      → known_after (Part (at_place p guards around) ∷ notes own ++ Part (at_place p guards around) ∷ st) (told it (under around labels fault out)) (reverse (postorder right) ++ (reverse (postorder left) ++ rest))
      ≡ known_after st (under around (labels_after (labels_after labels right) left)
      (first_or ((faults p around guards left ++ own_faults) ++ faults p around guards right) fault)
      (out ++ reverse (items (names around) left ++ (items (names around) right ++ it ∷ [])))) rest
  reads-pair st labels fault out rest =
      let here = at_place p guards around in
      let left_faults = faults p around guards left in
      let right_faults = faults p around guards right in
      h' p around guards (notes own ++ Part here ∷ st) labels fault (out ++ it ∷ []) (reverse (postorder left) ++ rest)
      ∙ (after_notes own (Part here ∷ st) _ (reverse (postorder left) ++ rest)
      ∙ (ap (λ k. known_after (Part here ∷ st) k (reverse (postorder left) ++ rest)) (noted-under own around (labels_after labels right) (first_or right_faults fault) ((out ++ it ∷ []) ++ reverse (items (names around) right)))
      ∙ (h p around guards st _ _ _ rest
      ∙ (λ i. known_after st (under around (labels_after (labels_after labels right) left)
      ((ap (λ fs. first_or left_faults (first_or fs (first_or right_faults fault))) e
      ∙ (first_or-append left_faults own_faults (first_or right_faults fault)
      ∙ first_or-append (left_faults ++ own_faults) right_faults fault)) i)
      (tells_two out (items (names around) left) (items (names around) right) it i)) rest))))

reads-join : (left right : TypeTree) (at : ℕ) → Reads left → Reads right → Reads (a_join left at right)
reads-join left right at h h' p around guards st labels fault out rest =
    let here = at_place p guards around in
    ap (known_after (Part here ∷ st) (under around labels fault out)) (ends_two (postorder left) (postorder right) (piece.Join at) rest)
    ∙ (after_piece (piece.Join at) here st (under around labels fault out) (reverse (postorder right) ++ (reverse (postorder left) ++ rest))
    ∙ reads-pair left right h h' item.Join p around guards (fault_if (not p) (NotPolar at)) _ (one_unless p (NotPolar at)) st labels fault out rest)

reads-meet : (left right : TypeTree) (at : ℕ) → Reads left → Reads right → Reads (a_meet left at right)
reads-meet left right at h h' p around guards st labels fault out rest =
    let here = at_place p guards around in
    ap (known_after (Part here ∷ st) (under around labels fault out)) (ends_two (postorder left) (postorder right) (piece.Meet at) rest)
    ∙ (after_piece (piece.Meet at) here st (under around labels fault out) (reverse (postorder right) ++ (reverse (postorder left) ++ rest))
    ∙ reads-pair left right h h' item.Meet p around guards (fault_if p (NotPolar at)) _ (one_if p (NotPolar at)) st labels fault out rest)

-- behind a `rec` its name means what it meant before
put_back-at : (x : List ℕ) (r : Around) (around : List Around) (y : List ℕ) → r.x ≡ x → (if bytes_eq x y then found around x else found (r ∷ around) y) ≡ found around y
put_back-at x r around y is = go (bytes_eq x y) refl
  where
    go : (b : Bool) → bytes_eq x y ≡ b → (if b then found around x else found (r ∷ around) y) ≡ found around y
    go true e = let same : x ≡ y = (bytes_eq-Decides x y).0 e in ap (found around) same
    go false e =
        ap (λ b. if b then Some (record { is_positive = r.is_positive; guards = r.guards; depth = suc (length around) }) else found around y)
        (ap (λ z. bytes_eq z y) is ∙ e)

reads-rec : (x : List ℕ) (t : TypeTree) → Reads t → Reads (a_rec x t)
reads-rec x t h p around guards st labels fault out rest =
    let here = at_place p guards around in
    let r : Around = record { x = x; is_positive = p; guards = guards } in
    ap (known_after (Part here ∷ st) (under around labels fault out)) (ends_one (postorder t) (piece.Rec x) rest)
    ∙ (after_piece (piece.Rec x) here st (under around labels fault out) (reverse (postorder t) ++ rest)
    ∙ (h p (r ∷ around) guards (Leave x (found around x) ∷ st) labels fault (out ++ item.Rec ∷ []) rest
    ∙ (after_leave x (found around x) st _ rest
    ∙ (λ i. known_after st (record {
      recs = λ y. put_back-at x r around y refl i;
      labels = labels_after labels t;
      fault = first_or (faults p (r ∷ around) guards t) fault;
      items = tells_one out (items (x ∷ names around) t) item.Rec i;
    }) rest))))

reads-record : (all : TypeFields) → ReadsFields all → Reads (a_record all)
reads-record all h p around guards st labels fault out rest =
    let here = at_place p guards around in
    ap (known_after (Part here ∷ st) (under around labels fault out)) (ends_one (field_postorder all) piece.Record rest)
    ∙ (after_piece piece.Record here st (under around labels fault out) (reverse (field_postorder all) ++ rest)
    ∙ (h p around (suc guards) st [] fault (out ++ item.Record ∷ []) rest
    ∙ (λ i. known_after st (under around (field_labels_after (λ x. false) all) (first_or (field_faults p around (suc guards) [] all) fault)
    (tells_one out (field_items (names around) all) item.Record i)) rest)))

reads-field : (at : ℕ) (label : List ℕ) (t : TypeTree) (more : TypeFields) → Reads t → ReadsFields more → ReadsFields (a_field at label t more)
reads-field at label t more h h' p around guards st labels fault out rest =
    let here = at_place p guards around in
    let own = fault_if (in_list labels label) (DuplicateLabel at) in
    let own_faults : List TypeFault = (if in_list labels label then DuplicateLabel at ∷ [] else []) in
    let first_faults = faults p around guards t in
    let more_faults = field_faults p around guards (label ∷ labels) more in
    ap (known_after (Part here ∷ st) (under around (in_list labels) fault out)) (ends_two (postorder t) (field_postorder more) (piece.Field at label) rest)
    ∙ (after_piece (piece.Field at label) here st (under around (in_list labels) fault out) (reverse (field_postorder more) ++ (reverse (postorder t) ++ rest))
    ∙ (h' p around guards (Part here ∷ notes own ++ st) (label ∷ labels) fault (out ++ item.Field label ∷ []) (reverse (postorder t) ++ rest)
    ∙ (h p around guards (notes own ++ st) _ _ _ rest
    ∙ (after_notes own st _ rest
    ∙ (ap (λ k. known_after st k rest) (noted-under own around _ _ _)
    ∙ (λ i. known_after st (under around (labels_after (field_labels_after (in_list (label ∷ labels)) more) t)
    ((ap (λ fs. first_or fs (first_or first_faults (first_or more_faults fault))) (one_if (in_list labels label) (DuplicateLabel at))
    ∙ (first_or-append own_faults first_faults (first_or more_faults fault)
    ∙ first_or-append (own_faults ++ first_faults) more_faults fault)) i)
    (tells_two out (items (names around) t) (field_items (names around) more) (item.Field label) i)) rest))))))

mutual
  pub reads : (t : TypeTree) → Reads t
  reads (a_name at x) = reads-name at x
  reads a_bool = λ p around guards st labels fault out rest. after_piece piece.Bool (at_place p guards around) st (under around labels fault out) rest
  reads an_int = λ p around guards st labels fault out rest. after_piece piece.Int (at_place p guards around) st (under around labels fault out) rest
  reads (a_top at) = reads-top at
  reads (a_bot at) = reads-bot at
  reads (an_arrow from to) = reads-arrow from to (reads from) (reads to)
  reads (a_record all) = reads-record all (reads-fields all)
  reads (a_join left at right) = reads-join left right at (reads left) (reads right)
  reads (a_meet left at right) = reads-meet left right at (reads left) (reads right)
  reads (a_rec x t) = reads-rec x t (reads t)

  reads-fields : (all : TypeFields) → ReadsFields all
  reads-fields no_field = λ p around guards st labels fault out rest. after_piece piece.Last (at_place p guards around) st (under around (in_list labels) fault out) rest
  reads-fields (a_field at label t more) = reads-field at label t more (reads t) (reads-fields more)

pub reads-whole : (t : TypeTree)
    → known_after (Part whole_place ∷ []) nothing_known (reverse (postorder t))
    ≡ under [] (labels_after (λ x. false) t) (first_or (faults true [] 0 t) None) (reverse (items [] t))
reads-whole t =
    ap (known_after (Part whole_place ∷ []) nothing_known) (sym (append-nil (reverse (postorder t))))
    ∙ (reads t true [] 0 [] (λ x. false) None [] []
    ∙ after_none _ [])
