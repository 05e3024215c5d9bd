-- The faults of the tree of a text come in the order of the text.
use Rattle.std.proofs.Common.{◌≡◌, ℕ, suc, ◌+◌, ◌<◌, ◌≤◌, Bool, true, false, not, ◌==◌, if◌then◌else◌, List, [], ◌∷◌, ◌++◌, refl, arith}
use Rattle.std.specs.Prelude.{Option, Some, None, bytes_eq}
use Rattle.std.specs.List.{list_any}
use Rattle.mls_lexer.proofs.TextOrder.{Rises, rises-low, rises-high, rises-append, rises-if}
use Rattle.mls_typetext.specs.declared.scheme.TypeFault.{TypeFault}
use Rattle.mls_typetext.specs.declared.scheme.TypeFault.TheVariants.{NotPolar, Unguarded, Contravariant, DuplicateLabel}
use Rattle.mls_typetext.specs.Phrases.{Sort, whole, codomain, join, join_tail, meet, meet_tail, atom, fields, more_fields, Phrase, recursive, joined, no_codomain, to, joins, no_join, or, meets, no_meet, and, named, boolean, integer, top, bot, parens, braces, first_field, last_field, next_field, width}
use Rattle.mls_typetext.specs.Phrases as phrase
use Rattle.mls_typetext.specs.Trees.{TypeTree, a_join, a_meet, TypeFields, a_field, Meaning, meaning}
use Rattle.mls_typetext.specs.Faults.{Around, same, nearest, name_faults, faults, field_faults}
use Rattle.mls_typetext.specs.Stops.{tree_place}

module _ (place : ℕ → ℕ) where
  abbrev Up : ℕ → ℕ → List TypeFault → Type 0
  Up = Rises tree_place place

  -- the faults of a tree stand at tokens from number `low` on and before number `high`, wherever it stands
  abbrev TreeRises : ℕ → ℕ → TypeTree → Type 0
  TreeRises low high t = (p : Bool) (around : List Around) (guards : ℕ) → Up low high (faults p around guards t)

  abbrev FieldsRise : ℕ → ℕ → TypeFields → Type 0
  FieldsRise low high fs = (p : Bool) (around : List Around) (guards : ℕ) (labels : List (List ℕ)) → Up low high (field_faults p around guards labels fs)

  -- what a phrase of this sort stands for; a tail makes such a tree of one before it
  abbrev SortRises : (low high : ℕ) (s : Sort) → Meaning s → Type 0
  SortRises low high whole t = TreeRises low high t
  SortRises low high codomain f = (before : ℕ) (left : TypeTree) → TreeRises before low left → TreeRises before high (f left)
  SortRises low high join t = TreeRises low high t
  SortRises low high join_tail f = (before : ℕ) (left : TypeTree) → TreeRises before low left → TreeRises before high (f left)
  SortRises low high meet t = TreeRises low high t
  SortRises low high meet_tail f = (before : ℕ) (left : TypeTree) → TreeRises before low left → TreeRises before high (f left)
  SortRises low high atom t = TreeRises low high t
  SortRises low high fields fs = FieldsRise low high fs
  SortRises low high more_fields fs = FieldsRise low high fs

  tree-high : (low high other : ℕ) (t : TypeTree) → high ≤ other → TreeRises low high t → TreeRises low other t
  tree-high low high other t le h p around guards = rises-high tree_place place low high other (faults p around guards t) le (h p around guards)

  -- a name is at most one fault, at its place
  name-rises : (low high k : ℕ) (p : Bool) (guards : ℕ) (o : Option Around) → low ≤ k → k < high → Up low high (name_faults p guards (place k) o)
  name-rises low high k p guards None le less = omega arith
  name-rises low high k p guards (Some r) le less = by_guards (r.guards == guards) (same r.is_positive p)
    where
      by_guards : (unguarded sign : Bool) → Up low high (if unguarded then Unguarded (place k) ∷ [] else (if sign then [] else Contravariant (place k) ∷ []))
      by_guards true sign = (k, le, refl, omega arith)
      by_guards false true = omega arith
      by_guards false false = (k, le, refl, omega arith)

  one : (low high k : ℕ) (b : Bool) (fault : TypeFault) → low ≤ k → k < high → tree_place fault ≡ place k → Up low high (if b then fault ∷ [] else [])
  one low high k b fault = rises-if tree_place place low high k b fault

  none : (low high k : ℕ) (b : Bool) (fault : TypeFault) → low ≤ k → k < high → tree_place fault ≡ place k → Up low high (if b then [] else fault ∷ [])
  none low high k true fault le less is = omega arith
  none low high k false fault le less is = (k, le, is, omega arith)

  both : (low mid high : ℕ) (xs ys : List TypeFault) → Up low mid xs → Up mid high ys → Up low high (xs ++ ys)
  both = rises-append tree_place place

  -- a field: its label, its type and the fields behind it
  field-rises : (low k mid high : ℕ) (label : List ℕ) (t : TypeTree) (rest : TypeFields) → low ≤ k → TreeRises (suc k) mid t → FieldsRise mid high rest
      → FieldsRise low high (a_field (place k) label t rest)
  field-rises low k mid high label t rest le h h' p around guards labels =
      both low mid high _ _
      (both low (suc k) mid _ _ (one low (suc k) k (list_any (bytes_eq label) labels) (DuplicateLabel (place k)) le (omega arith) refl) (h p around guards))
      (h' p around guards (label ∷ labels))

  pub meaning-rises : {s : Sort} (k high : ℕ) (p : Phrase s) → k + width p ≤ high → SortRises k high s (meaning place k p)
  unfolding meaning width
  meaning-rises k high (recursive x t) le = λ p around guards.
      rises-low tree_place place k (k + 3) high _ (omega arith) (meaning-rises (k + 3) high t (omega arith) p _ guards)
  meaning-rises k high (joined j c) le = meaning-rises (k + width j) high c (omega arith) k (meaning place k j) (meaning-rises k (k + width j) j (omega arith))
  meaning-rises k high no_codomain le = λ before left h. tree-high before k high left (omega arith) h
  meaning-rises k high (to t) le = λ before left h p around guards.
      both before k high _ _ (h (not p) around (suc guards))
      (rises-low tree_place place k (k + 1) high _ (omega arith) (meaning-rises (k + 1) high t (omega arith) p around (suc guards)))
  meaning-rises k high (joins m t) le = meaning-rises (k + width m) high t (omega arith) k (meaning place k m) (meaning-rises k (k + width m) m (omega arith))
  meaning-rises k high no_join le = λ before left h. tree-high before k high left (omega arith) h
  meaning-rises k high (or m t) le = λ before left h.
      meaning-rises (k + 1 + width m) high t (omega arith) before (a_join left (place k) (meaning place (k + 1) m))
      (λ p around guards.
      both before (k + 1) (k + 1 + width m) _ _
      (both before k (k + 1) _ _ (h p around guards) (none k (k + 1) k p (NotPolar (place k)) (omega arith) (omega arith) refl))
      (meaning-rises (k + 1) (k + 1 + width m) m (omega arith) p around guards))
  meaning-rises k high (meets a t) le = meaning-rises (k + width a) high t (omega arith) k (meaning place k a) (meaning-rises k (k + width a) a (omega arith))
  meaning-rises k high no_meet le = λ before left h. tree-high before k high left (omega arith) h
  meaning-rises k high (and a t) le = λ before left h.
      meaning-rises (k + 1 + width a) high t (omega arith) before (a_meet left (place k) (meaning place (k + 1) a))
      (λ p around guards.
      both before (k + 1) (k + 1 + width a) _ _
      (both before k (k + 1) _ _ (h p around guards) (one k (k + 1) k p (NotPolar (place k)) (omega arith) (omega arith) refl))
      (meaning-rises (k + 1) (k + 1 + width a) a (omega arith) p around guards))
  meaning-rises k high (named x) le = λ p around guards. name-rises k high k p guards (nearest around x) (omega arith) (omega arith)
  meaning-rises k high boolean le = λ p around guards. omega arith
  meaning-rises k high integer le = λ p around guards. omega arith
  meaning-rises k high top le = λ p around guards. one k high k p (NotPolar (place k)) (omega arith) (omega arith) refl
  meaning-rises k high bot le = λ p around guards. none k high k p (NotPolar (place k)) (omega arith) (omega arith) refl
  meaning-rises k high (parens t) le = λ p around guards.
      rises-low tree_place place k (k + 1) high _ (omega arith) (meaning-rises (k + 1) high t (omega arith) p around guards)
  meaning-rises k high (braces f) le = λ p around guards.
      rises-low tree_place place k (k + 1) high _ (omega arith) (meaning-rises (k + 1) high f (omega arith) p around (suc guards) [])
  meaning-rises k high phrase.no_field le = λ p around guards labels. omega arith
  meaning-rises k high (first_field label t f) le =
      field-rises k k (k + 2 + width t) high label (meaning place (k + 2) t) (meaning place (k + 2 + width t) f) (omega arith)
      (λ p around guards. rises-low tree_place place (suc k) (k + 2) (k + 2 + width t) _ (omega arith) (meaning-rises (k + 2) (k + 2 + width t) t (omega arith) p around guards))
      (meaning-rises (k + 2 + width t) high f (omega arith))
  meaning-rises k high last_field le = λ p around guards labels. omega arith
  meaning-rises k high (next_field label t f) le =
      field-rises k (k + 1) (k + 3 + width t) high label (meaning place (k + 3) t) (meaning place (k + 3 + width t) f) (omega arith)
      (λ p around guards. rises-low tree_place place (suc (k + 1)) (k + 3) (k + 3 + width t) _ (omega arith) (meaning-rises (k + 3) (k + 3 + width t) t (omega arith) p around guards))
      (meaning-rises (k + 3 + width t) high f (omega arith))
