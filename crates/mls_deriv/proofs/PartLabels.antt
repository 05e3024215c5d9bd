-- The labels of parts, as a set that grows part by part.
use Rattle.std.proofs.Common.{◌≡◌, ℕ, Bool, true, false, List, [], ◌∷◌, ◌++◌, refl, sym, ap, ◌∙◌, Some, None}
use Rattle.std.specs.Prelude.{bytes_eq, cond, find, is_some, option_map}
use Rattle.std.specs.Ordering.{nat_cmp}
use Rattle.std.specs.Cmp.Lexicographic.{slice_cmp}
use Rattle.std.specs.BTreeSet.{BTreeSet, contains, Updates}
use Rattle.std.proofs.lemmas.Map.Text.{is_eq-slice_cmp}
use Rattle.mls_term.specs.declared.term.Part.{Part}
use Rattle.mls_deriv.specs.inner.Rules.{child_of, AreLabelsOf}

-- the parts and one more
one_more : (before : List Part) (part : Part) (label : List ℕ) → is_some (child_of (before ++ part ∷ []) label) ≡ cond (bytes_eq part.label label) true (is_some (child_of before label))
one_more [] part label = go (bytes_eq part.label label)
  where
    go : (b : Bool) → is_some (option_map (λ (p : Part). p.child) (cond b (Some part) None)) ≡ cond b true false
    go true = refl
    go false = refl
one_more (first ∷ rest) part label = go (bytes_eq first.label label) (bytes_eq part.label label) (one_more rest part label)
  where
    go : (b other : Bool) → is_some (child_of (rest ++ part ∷ []) label) ≡ cond other true (is_some (child_of rest label))
        → is_some (option_map (λ (p : Part). p.child) (cond b (Some first) (find (λ (p : Part). bytes_eq p.label label) (rest ++ part ∷ []))))
        ≡ cond other true (is_some (option_map (λ (p : Part). p.child) (cond b (Some first) (find (λ (p : Part). bytes_eq p.label label) rest))))
    go true true later = refl
    go true false later = refl
    go false other later = later

pub labels_more : (before : List Part) (part : Part) (old new : BTreeSet (List ℕ)) → AreLabelsOf before (contains (slice_cmp nat_cmp) old)
    → Updates (slice_cmp nat_cmp) old new part.label true → AreLabelsOf (before ++ part ∷ []) (contains (slice_cmp nat_cmp) new)
labels_more before part old new are updates label =
    updates.0 label
    ∙ (ap (λ b. cond b true (contains (slice_cmp nat_cmp) old label)) (is_eq-slice_cmp part.label label)
    ∙ (ap (cond (bytes_eq part.label label) true) (are label)
    ∙ sym (one_more before part label)))
