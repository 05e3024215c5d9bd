-- Fields put in the order of their labels.
use Rattle.std.proofs.Common.{◌≡◌, ℕ, Bool, true, false, List, [], ◌∷◌, refl, sym, ap, ◌∙◌, subst, Some, None}
use Rattle.std.specs.Prelude.{All, cond, bytes_eq, find, option_map, Option}
use Rattle.std.specs.Ordering.{nat_cmp, is_eq, ordering_reverse}
use Rattle.std.specs.declared.cmp.Ordering.{Ordering}
use Rattle.std.specs.declared.cmp.Ordering.TheVariants.{Less, Equal, Greater}
use Rattle.std.specs.Cmp.Lexicographic.{slice_cmp}
use Rattle.std.proofs.lemmas.Cmp.{nat_list_cmp_total}
use Rattle.std.proofs.lemmas.List.Elements.{All-nil, All-cons, All-head, All-tail, All-weaker}
use Rattle.std.proofs.lemmas.Map.Text.{is_eq-slice_cmp}
use Rattle.std.proofs.lemmas.Slice.Eq.{bytes_eq-Decides}
use Rattle.mls_book.specs.declared.book.Field.{Field}
use Rattle.mls_book.specs.declared.book.NodeId.{NodeId}
use Rattle.mls_book.specs.Books.{field_at, AreRising}
use Rattle.mls_typetext.specs.Books.{placed_by, placed}

pub bytes_eq-same : (xs ys : List ℕ) → bytes_eq xs ys ≡ true → xs ≡ ys
bytes_eq-same xs ys = (bytes_eq-Decides xs ys).0

pub bytes_eq-self : (xs : List ℕ) → bytes_eq xs xs ≡ true
bytes_eq-self xs = (bytes_eq-Decides xs xs).1 refl

pub bytes_eq-swap : (xs ys : List ℕ) → bytes_eq xs ys ≡ true → bytes_eq ys xs ≡ true
bytes_eq-swap xs ys e = (bytes_eq-Decides ys xs).1 (sym (bytes_eq-same xs ys e))

-- what holds of a field and of all fields holds of all with it
pub All-placed : (P : Field → Type 0) (field : Field) (fields : List Field) → P field → All P fields → All P (placed field fields)
unfolding placed
All-placed P field [] h all = All-cons P field [] h all
All-placed P field (first ∷ rest) h all = go (slice_cmp nat_cmp field.label first.label) (All-placed P field rest h (All-tail P first rest all))
  where
    go : (o : Ordering) → All P (placed field rest) → All P (placed_by o field first rest (placed field rest))
    go Less later = All-cons P field (first ∷ rest) h all
    go Equal later = All-cons P field (first ∷ rest) h all
    go Greater later = All-cons P first (placed field rest) (All-head P first rest all) later

abbrev pub IsLess : Field → Field → Type 0
IsLess first second = slice_cmp nat_cmp first.label second.label ≡ Less

-- two labels that are not in order are the same
cmp-greater : (first second : List ℕ) → slice_cmp nat_cmp first second ≡ Greater → slice_cmp nat_cmp second first ≡ Less
cmp-greater first second e = nat_list_cmp_total.antisymm second first ∙ ap ordering_reverse e

cmp-equal : (first second : List ℕ) → slice_cmp nat_cmp first second ≡ Equal → bytes_eq second first ≡ true
cmp-equal first second e = bytes_eq-swap first second (sym (is_eq-slice_cmp first second) ∙ ap is_eq e)

cmp-unlike : (first second : List ℕ) → slice_cmp nat_cmp first second ≡ Greater → bytes_eq first second ≡ false
cmp-unlike first second e = sym (is_eq-slice_cmp first second) ∙ ap is_eq e

-- labels rise with a field of another label too
pub AreRising-placed : (field : Field) (fields : List Field) → AreRising fields → All (λ other. bytes_eq other.label field.label ≡ false) fields → AreRising (placed field fields)
unfolding placed
AreRising-placed field [] rising unlike = (All-nil (IsLess field), tt)
AreRising-placed field (first ∷ rest) rising unlike =
    go (slice_cmp nat_cmp field.label first.label) refl
    (AreRising-placed field rest rising.1 (All-tail (λ other. bytes_eq other.label field.label ≡ false) first rest unlike))
  where
    go : (o : Ordering) → slice_cmp nat_cmp field.label first.label ≡ o → AreRising (placed field rest) → AreRising (placed_by o field first rest (placed field rest))
    go Less e later = (
      All-cons (IsLess field) first rest e
          (All-weaker (IsLess first) (IsLess field) (λ other h. nat_list_cmp_total.trans field.label first.label other.label e h) rest rising.0),
      rising,
    )
    go Equal e later =
        let same : bytes_eq first.label field.label ≡ true = cmp-equal field.label first.label e in
        let other : bytes_eq first.label field.label ≡ false = All-head (λ other. bytes_eq other.label field.label ≡ false) first rest unlike in
        absurd (cc)
    go Greater e later = (
      All-placed (IsLess first) field rest (cmp-greater field.label first.label e) rising.0,
      later,
    )

-- what is found at a label among placed fields
node_of-cond : (b : Bool) (f : Field) (o : Option Field) → option_map (λ (f : Field). f.node) (cond b (Some f) o) ≡ cond b (Some f.node) (option_map (λ (f : Field). f.node) o)
node_of-cond true f o = refl
node_of-cond false f o = refl

found_past : (b c : Bool) (n m : NodeId) (o later : Option NodeId) → (c ≡ true → b ≡ false) → later ≡ cond b (Some n) o → cond c (Some m) later ≡ cond b (Some n) (cond c (Some m) o)
found_past true true n m o later unlike e = let no : true ≡ false = unlike refl in absurd (cc)
found_past false true n m o later unlike e = refl
found_past true false n m o later unlike e = e
found_past false false n m o later unlike e = e

pub field_at-placed : (x : List ℕ) (field : Field) (fields : List Field) → field_at x (placed field fields) ≡ cond (bytes_eq field.label x) (Some field.node) (field_at x fields)
unfolding placed
field_at-placed x field [] = node_of-cond (bytes_eq field.label x) field None
field_at-placed x field (first ∷ rest) = go (slice_cmp nat_cmp field.label first.label) refl (field_at-placed x field rest)
  where
    go : (o : Ordering) → slice_cmp nat_cmp field.label first.label ≡ o → field_at x (placed field rest) ≡ cond (bytes_eq field.label x) (Some field.node) (field_at x rest) → field_at x (placed_by o field first rest (placed field rest)) ≡ cond (bytes_eq field.label x) (Some field.node) (field_at x (first ∷ rest))
    go Less e later = node_of-cond (bytes_eq field.label x) field (find (λ f. bytes_eq f.label x) (first ∷ rest))
    go Equal e later = node_of-cond (bytes_eq field.label x) field (find (λ f. bytes_eq f.label x) (first ∷ rest))
    go Greater e later =
        node_of-cond (bytes_eq first.label x) first (find (λ f. bytes_eq f.label x) (placed field rest))
        ∙ (found_past (bytes_eq field.label x) (bytes_eq first.label x) field.node first.node (field_at x rest) (field_at x (placed field rest))
        (λ same. subst (λ y. bytes_eq field.label y ≡ false) (bytes_eq-same first.label x same) (cmp-unlike field.label first.label e)) later
        ∙ ap (λ o. cond (bytes_eq field.label x) (Some field.node) o) (sym (node_of-cond (bytes_eq first.label x) first (find (λ f. bytes_eq f.label x) rest))))
