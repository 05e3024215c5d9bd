-- The fields of a record's head: the roots of its parts by their labels, in the order of labels.
--     mapped_at                    an element of a list that is mapped
--     rows_more                    one more label in the map
--     fields_made                  the fields of the map are those of the parts
--     some_parts, same_labels      parts with these labels
use Rattle.std.proofs.Common.{◌≡◌, ◌≢◌, ◌⊎◌, ◌↔◌, inl, inr, ℕ, zero, suc, ◌+◌, ◌<◌, Bool, true, false, cond, List, [], ◌∷◌, map, length, get_or, refl, sym, ap, ◌∙◌, subst, arith, Some, None, All, Contains}
use Rattle.std.specs.Prelude.{Option, option_map, find, IsSome, bytes_eq}
use Rattle.std.specs.List.{AllPairs}
use Rattle.std.specs.Ordering.{nat_cmp, is_eq}
use Rattle.std.specs.declared.cmp.Ordering.TheVariants.{Less}
use Rattle.std.specs.Cmp.Lexicographic.{slice_cmp}
use Rattle.std.specs.List.Sorted.{IsStrictlySortedBy}
use Rattle.std.specs.BTreeMap.{is_at, IsOrdered, Updates}
use Rattle.std.specs.Map.{lookup}
use Rattle.std.proofs.lemmas.Cmp.{nat_list_cmp_total, nat_list_eq_equiv}
use Rattle.std.proofs.lemmas.Map.Lookups.{CmpEqualImpliesEq}
use Rattle.std.proofs.lemmas.Map.Text.{is_eq-slice_cmp}
use Rattle.std.proofs.lemmas.Map.Keys.{sorted_tail}
use Rattle.std.proofs.lemmas.Map.Views.{All-after_first, btree_map_get_iff}
use Rattle.std.proofs.lemmas.Slice.Eq.{bytes_eq-Decides}
use Rattle.std.proofs.lemmas.List.Elements.{All-map}
use Rattle.mls_book.proofs.LongerBooks.{below_or_more}
use Rattle.mls_automaton.specs.declared.state_set.StateId.{StateId}
use Rattle.mls_automaton.specs.declared.automaton.FieldSet.{FieldSet}
use Rattle.mls_automaton.specs.Heads.{set_at, AreRising}
use Rattle.mls_automaton.proofs.Lists.{All-contained}
use Rattle.mls_term.specs.Terms.{TermFields, no_field, a_field, number}
use Rattle.mls_term.specs.Derivations.{labels_of}
use Rattle.mls_infer.specs.Constraints.{AreRoots, AreFieldsOf}
use Rattle.mls_infer.specs.Joining.{Rows, row_at, row_field, AreRows}

exact : CmpEqualImpliesEq (slice_cmp nat_cmp)
exact x y e = (bytes_eq-Decides x y).0 (sym (is_eq-slice_cmp x y) ∙ ap is_eq e)

-- an element of a list that is mapped
pub mapped_at : {X Y : Type 0} (f : X → Y) (xs : List X) (i : ℕ) (d : Y) (x : X) → i < length xs → get_or (map f xs) i d ≡ f (get_or xs i x)
mapped_at f [] i d x low = absurd (omega arith)
mapped_at f (y ∷ ys) zero d x low = refl
mapped_at f (y ∷ ys) (suc i) d x low = mapped_at f ys i d x (omega arith)

-- one more label, which is none of those before
module _ (n : ℕ) (labels : List (List ℕ)) (roots : List ℕ) (m m' : Rows) (label : List ℕ) (root : StateId)
    (low : n < length labels) (distinct : AllPairs (λ x y. x ≢ y) labels)
    (label_is : (d : List ℕ) → label ≡ get_or labels n d) (root_is : (r : ℕ) → root.0 ≡ get_or roots n r)
    (updates : Updates (slice_cmp nat_cmp) m m' label (Some root)) (are : AreRows n labels roots m) where
  now : (q : List ℕ) → row_at m' q ≡ cond (bytes_eq label q) (Some root) (row_at m q)
  now q = updates.0 q ∙ ap (λ b. cond b (Some root) (row_at m q)) (is_eq-slice_cmp label q)

  other : (q : List ℕ) → label ≢ q → row_at m' q ≡ row_at m q
  other q apart = now q ∙ go (bytes_eq label q) refl
    where
      go : (b : Bool) → bytes_eq label q ≡ b → cond b (Some root) (row_at m q) ≡ row_at m q
      go true e = absurd (apart ((bytes_eq-Decides label q).0 e))
      go false e = refl

  here : row_at m' label ≡ Some root
  here = now label ∙ ap (λ b. cond b (Some root) (row_at m label)) ((bytes_eq-Decides label label).1 refl)

  there_more : (k : ℕ) (d : List ℕ) (r : ℕ) → (k < n) ⊎ ((j : ℕ) × (k ≡ n + j)) → k < suc n → row_at m' (get_or labels k d) ≡ Some (record { 0 = get_or roots k r })
  there_more k d r (inl before) le =
      let differs : label ≢ get_or labels k d = λ same. distinct k n d before low (sym same ∙ label_is d) in
      other (get_or labels k d) differs ∙ are.there k d r before
  there_more k d r (inr it) le =
      let at : n ≡ k = let is : k ≡ n + it.0 = it.1 in omega arith in
      let P : ℕ → Type 0 = λ k. row_at m' (get_or labels k d) ≡ Some (record { 0 = get_or roots k r }) in
      subst P at (ap (row_at m') (sym (label_is d)) ∙ (here ∙ (λ i. Some (record { 0 = root_is r i }))))

  Found : List ℕ → StateId → ℕ → Type 0
  Found q s n = (k : ℕ) × (k < n) × ((d : List ℕ) → get_or labels k d ≡ q) × ((r : ℕ) → get_or roots k r ≡ s.0)

  back_more : (q : List ℕ) (s : StateId) → row_at m' q ≡ Some s → (k : ℕ) × (k < suc n) × ((d : List ℕ) → get_or labels k d ≡ q) × ((r : ℕ) → get_or roots k r ≡ s.0)
  back_more q s e = go (bytes_eq label q) refl (sym (now q) ∙ e)
    where
      go : (b : Bool) → bytes_eq label q ≡ b → cond b (Some root) (row_at m q) ≡ Some s → (k : ℕ) × (k < suc n) × ((d : List ℕ) → get_or labels k d ≡ q) × ((r : ℕ) → get_or roots k r ≡ s.0)
      go true test is =
          let same : label ≡ q = (bytes_eq-Decides label q).0 test in
          let root_same : root ≡ s = cc in
          (n, omega arith, (λ d. sym (label_is d) ∙ same), (λ r. sym (root_is r) ∙ ap (λ (s : StateId). s.0) root_same))
      go false test is =
          let it = are.back q s is in
          let before : it.0 < n = it.1 in
          (it.0, omega arith, it.2, it.3)

  pub rows_more : AreRows (suc n) labels roots m'
  rows_more = record { there = λ k d r le. there_more k d r (below_or_more k n) le; back = back_more }

-- the fields of a map
later_rise : (q : List ℕ) (es : List (List ℕ × StateId)) → All (λ p. slice_cmp nat_cmp q p ≡ Less) (map (λ e. e.0) es) → All (λ (f : FieldSet). slice_cmp nat_cmp q f.label ≡ Less) (map row_field es)
later_rise q [] each k d low = absurd (omega arith)
later_rise q (x ∷ es) each zero d low = each 0 [] (omega arith)
later_rise q (x ∷ es) each (suc k) d low = later_rise q es (λ j d low. each (suc j) d (omega arith)) k d (omega arith)

rows_rise : (es : List (List ℕ × StateId)) → IsStrictlySortedBy (slice_cmp nat_cmp) (map (λ e. e.0) es) → AreRising (map row_field es)
rows_rise [] sorted = tt
rows_rise (e ∷ es) sorted = (
  later_rise e.0 es (All-after_first (slice_cmp nat_cmp) e.0 (map (λ e. e.0) es) sorted),
  rows_rise es (sorted_tail (slice_cmp nat_cmp) e.0 (map (λ e. e.0) es) sorted),
)

row_set : (es : List (List ℕ × StateId)) (q : List ℕ) → set_at (map row_field es) q ≡ option_map (λ (s : StateId). s.0 ∷ []) (lookup (is_at (slice_cmp nat_cmp q)) es)
row_set [] q = refl
row_set (e ∷ es) q =
    let test : is_eq (slice_cmp nat_cmp q e.0) ≡ bytes_eq e.0 q = is_eq-slice_cmp q e.0 ∙ bytes_same q e.0 in
    go (bytes_eq e.0 q) (row_set es q) ∙ sym (λ k. option_map (λ (s : StateId). s.0 ∷ []) (cond (test k) (Some e.1) (lookup (is_at (slice_cmp nat_cmp q)) es)))
  where
    bytes_same : (x y : List ℕ) → bytes_eq x y ≡ bytes_eq y x
    bytes_same x y = nat_list_eq_equiv.symm x y

    go : (b : Bool) → set_at (map row_field es) q ≡ option_map (λ (s : StateId). s.0 ∷ []) (lookup (is_at (slice_cmp nat_cmp q)) es)
        → option_map (λ (f : FieldSet). f.set) (cond b (Some (row_field e)) (find (λ (f : FieldSet). bytes_eq f.label q) (map row_field es))) ≡ option_map (λ (s : StateId). s.0 ∷ []) (cond b (Some e.1) (lookup (is_at (slice_cmp nat_cmp q)) es))
    go true later = refl
    go false later = later

module _ (labels : List (List ℕ)) (roots : List ℕ) (m : Rows) (ordered : IsOrdered (slice_cmp nat_cmp) m) (many : length labels ≡ length roots) (are : AreRows (length labels) labels roots m) where
  abbrev fields : List FieldSet
  fields = map row_field m.entries

  at_label : (q : List ℕ) → set_at fields q ≡ option_map (λ (s : StateId). s.0 ∷ []) (row_at m q)
  at_label q = row_set m.entries q

  each_root : (parts : TermFields) (rs : List ℕ) → length (labels_of parts) ≡ length rs
      → ((k : ℕ) (d : List ℕ) (r : ℕ) → k < length (labels_of parts) → row_at m (get_or (labels_of parts) k d) ≡ Some (record { 0 = get_or rs k r })) → AreRoots parts rs fields
  each_root no_field [] same each = tt
  each_root no_field (r ∷ rs) same each = absurd (omega arith)
  each_root (a_field label e rest) [] same each = absurd (omega arith)
  each_root (a_field label e rest) (r ∷ rs) same each =
      (at_label label ∙ ap (option_map (λ (s : StateId). s.0 ∷ [])) (each 0 [] 0 (omega arith)), each_root rest rs (omega arith) (λ k d r low. each (suc k) d r (omega arith)))

  label_there : (q : List ℕ) → IsSome (set_at fields q) → Contains labels q
  label_there q some = go (row_at m q) refl (subst IsSome (at_label q) some)
    where
      go : (o : Option StateId) → row_at m q ≡ o → IsSome (option_map (λ (s : StateId). s.0 ∷ []) o) → Contains labels q
      go None e it = absurd (cc)
      go (Some s) e it = let found = are.back q s e in (found.0, found.1, found.2 q)

  there_label : (q : List ℕ) → Contains labels q → IsSome (set_at fields q)
  there_label q it =
      let found : row_at m (get_or labels it.0 q) ≡ Some (record { 0 = get_or roots it.0 0 }) = are.there it.0 q 0 it.1 in
      let set : set_at fields q ≡ Some (get_or roots it.0 0 ∷ []) = at_label q ∙ (ap (λ q. option_map (λ (s : StateId). s.0 ∷ []) (row_at m q)) (sym it.2) ∙ ap (option_map (λ (s : StateId). s.0 ∷ [])) found) in
      subst IsSome (sym set) refl

  one_root : (e : List ℕ × StateId) → Contains m.entries e → (root : ℕ) × Contains roots root × ((row_field e).set ≡ root ∷ [])
  one_root e it =
      let found = are.back e.0 e.1 ((btree_map_get_iff nat_list_cmp_total exact m ordered e.0 e.1).1 it) in
      let low : found.0 < length labels = found.1 in
      (e.1.0, (found.0, omega arith, found.3 e.1.0), refl)

  pub fields_made : (parts : TermFields) → labels_of parts ≡ labels → AreFieldsOf parts roots fields
  fields_made parts is =
      let P : List (List ℕ) → Type 0 = λ ls. (k : ℕ) (d : List ℕ) (r : ℕ) → k < length ls → row_at m (get_or ls k d) ≡ Some (record { 0 = get_or roots k r }) in
      let Q : List (List ℕ) → Type 0 = λ ls. (q : List ℕ) → IsSome (set_at fields q) ↔ Contains ls q in
      record {
        rising = rows_rise m.entries ordered;
        found = each_root parts roots (ap length is ∙ many) (subst P (sym is) are.there);
        labels = subst Q (sym is) (λ q. (label_there q, there_label q));
        single = All-map (λ field. (root : ℕ) × Contains roots root × (field.set ≡ root ∷ [])) row_field m.entries (All-contained (λ e. (root : ℕ) × Contains roots root × ((row_field e).set ≡ root ∷ [])) m.entries one_root);
      }

pub some_parts : List (List ℕ) → TermFields
some_parts [] = no_field
some_parts (label ∷ rest) = a_field label (number 0 0) (some_parts rest)

pub same_labels : (labels : List (List ℕ)) → labels_of (some_parts labels) ≡ labels
unfolding some_parts
same_labels [] = refl
same_labels (label ∷ rest) = ap (λ ls. label ∷ ls) (same_labels rest)
