-- One more part of a record.
--     rows_with
--     first_pairs, label_at      labels of the first parts
use Rattle.std.proofs.Common.{◌≡◌, ◌≢◌, ◌⊎◌, ◌↔◌, inl, inr, ℕ, suc, ◌+◌, ◌<◌, zero, List, [], ◌∷◌, ◌++◌, length, take, get_or, refl, sym, ap, ◌∙◌, subst, arith, length-append, Some, Contains}
use Rattle.std.specs.List.{AllPairs}
use Rattle.std.specs.BTreeMap.{Updates}
use Rattle.std.specs.Ordering.{nat_cmp}
use Rattle.std.specs.Cmp.Lexicographic.{slice_cmp}
use Rattle.std.proofs.lemmas.List.{get_or-take, get_or_append_left, length-map, map-append}
use Rattle.std.proofs.lemmas.List.Elements.{Contains-append_cases, Contains-append_left, Contains-append_right}
use Rattle.mls_automaton.specs.declared.scheme.EnvEntry.{EnvEntry}
use Rattle.mls_term.specs.declared.term.Part.{Part}
use Rattle.mls_infer.specs.declared.forms.Rows.{Rows}
use Rattle.mls_infer.specs.Joining.{AreRows, part_labels}
use Rattle.mls_infer.specs.Joining as joining
use Rattle.mls_infer.specs.Pending.{AreRowsOf, all_states, states_in}
use Rattle.mls_infer.specs.Regions.{InEnvs, TablePart, part_roots}
use Rattle.mls_infer.proofs.ConstraintRows.{nothing_in}
use Rattle.mls_infer.proofs.DoneNodes.{in_snoc}
use Rattle.mls_infer.proofs.FieldRows.{rows_more}

at_end : {X : Type 0} (xs : List X) (x d : X) → get_or (xs ++ x ∷ []) (length xs) d ≡ x
at_end [] x d = refl
at_end (y ∷ xs) x d = at_end xs x d

to_snoc : (parts : List TablePart) (part : TablePart) (s : ℕ) → Contains (all_states parts) s ⊎ Contains part.states s → Contains (all_states (parts ++ part ∷ [])) s
to_snoc [] part s (inl none) = absurd (nothing_in s none)
to_snoc [] part s (inr own) = Contains-append_left part.states [] s own
to_snoc (p ∷ rest) part s (inr own) = Contains-append_right p.states (all_states (rest ++ part ∷ [])) s (to_snoc rest part s (inr own))
to_snoc (p ∷ rest) part s (inl it) = elim (Contains-append_cases p.states (all_states rest) s it) [
  | inl here ↦ Contains-append_left p.states (all_states (rest ++ part ∷ [])) s here
  | inr later ↦ Contains-append_right p.states (all_states (rest ++ part ∷ [])) s (to_snoc rest part s (inl later))
]

in_envs : (parts : List TablePart) (part : TablePart) (e : EnvEntry) → InEnvs (parts ++ part ∷ []) e ↔ InEnvs parts e ⊎ Contains part.env e
in_envs [] part e = ((λ it. elim it [ inl own ↦ inr own | inr none ↦ inl none ]), (λ it. elim it [ inl none ↦ inr none | inr own ↦ inl own ]))
in_envs (p ∷ rest) part e =
    let it = in_envs rest part e in (
      (λ h. elim h [ inl here ↦ inl (inl here) | inr later ↦ elim (it.0 later) [ inl old ↦ inl (inr old) | inr own ↦ inr own ] ]),
      (λ h. elim h [ inl first ↦ elim first [ inl here ↦ inl here | inr old ↦ inr (it.1 (inl old)) ] | inr own ↦ inr (it.1 (inr own)) ]),
    )

module _ (labels : List (List ℕ)) (parts : List TablePart) (rows new : Rows) (label : List ℕ) (part : TablePart) (are : AreRowsOf labels parts rows) (distinct : AllPairs (λ x y. x ≢ y) (labels ++ label ∷ [])) (updates : Updates (slice_cmp nat_cmp) rows.roots new.roots label (Some part.root))
    (states : (s : ℕ) → Contains (states_in new.region) s ↔ Contains (states_in rows.region) s ⊎ Contains part.states s) (env : (e : EnvEntry) → Contains new.env e ↔ Contains rows.env e ⊎ Contains part.env e) where
  abbrev more : List (List ℕ)
  more = labels ++ label ∷ []

  abbrev roots : List ℕ
  roots = part_roots parts ++ part.root.0 ∷ []

  low_root : (k : ℕ) → k < length labels → k < length (part_roots parts)
  low_root k low =
      let each : length labels ≡ length parts = are.each in
      let size : length (part_roots parts) ≡ length parts = length-map parts (λ (part : TablePart). part.root.0) in
      omega arith

  before : AreRows (length labels) more roots rows.roots
  before = record {
    there = λ k d r low.
        ap (joining.row_at rows.roots) (get_or_append_left labels (label ∷ []) d k low)
        ∙ (are.roots.there k d r low ∙ (λ i. Some (record { 0 = sym (get_or_append_left (part_roots parts) (part.root.0 ∷ []) r k (low_root k low)) i })));
    back = λ q s at.
        let it = are.roots.back q s at in
        (it.0, it.1, (λ d. get_or_append_left labels (label ∷ []) d it.0 it.1 ∙ it.2 d), (λ r. get_or_append_left (part_roots parts) (part.root.0 ∷ []) r it.0 (low_root it.0 it.1) ∙ it.3 r));
  }

  pub rows_with : AreRowsOf more (parts ++ part ∷ []) new
  rows_with =
      let n : ℕ = length labels in
      let longer : length more ≡ length labels + 1 = length-append labels (label ∷ []) in
      let longer' : length (parts ++ part ∷ []) ≡ length parts + 1 = length-append parts (part ∷ []) in
      let each : length labels ≡ length parts = are.each in
      let low : n < length more = omega arith in
      let size : suc n ≡ length more = omega arith in
      let same_size : length (part_roots parts) ≡ n = length-map parts (λ (part : TablePart). part.root.0) ∙ sym each in
      let root_is : (r : ℕ) → part.root.0 ≡ get_or roots n r = λ r. sym (at_end (part_roots parts) part.root.0 r) ∙ ap (λ k. get_or roots k r) same_size in
      let all : AreRows (suc n) more roots new.roots = rows_more n more roots rows.roots new.roots label part.root low distinct (λ d. sym (at_end labels label d)) root_is updates before in
      let R : List ℕ → Type 0 = λ roots. AreRows (length more) more roots new.roots in
      let N : ℕ → Type 0 = λ n. AreRows n more roots new.roots in
      record {
        each = omega arith;
        roots = subst R (sym (map-append (λ (part : TablePart). part.root.0) parts (part ∷ []))) (subst N size all);
        states = λ s. (
          (λ it. to_snoc parts part s (elim ((states s).0 it) [ inl old ↦ inl ((are.states s).0 old) | inr own ↦ inr own ])),
          (λ it. (states s).1 (elim (in_snoc parts part s it) [ inl old ↦ inl ((are.states s).1 old) | inr own ↦ inr own ])),
        );
        env = λ e. (
          (λ it. (in_envs parts part e).1 (elim ((env e).0 it) [ inl old ↦ inl ((are.env e).0 old) | inr own ↦ inr own ])),
          (λ it. (env e).1 (elim ((in_envs parts part e).0 it) [ inl old ↦ inl ((are.env e).1 old) | inr own ↦ inr own ])),
        );
      }

-- labels of the first parts
pub first_pairs : (labels : List (List ℕ)) (n : ℕ) → AllPairs (λ x y. x ≢ y) labels → AllPairs (λ x y. x ≢ y) (take n labels)
first_pairs labels n distinct i j d less low same =
    let it = take_low labels n j low in
    let below : i < n = let at : j < n = it.1 in omega arith in
    distinct i j d less it.0 (sym (get_or-take n labels i d below) ∙ (same ∙ get_or-take n labels j d it.1))
  where
    take_low : (labels : List (List ℕ)) (n j : ℕ) → j < length (take n labels) → (j < length labels) × (j < n)
    take_low labels zero j low = absurd (omega arith)
    take_low [] (suc n) j low = absurd (omega arith)
    take_low (x ∷ xs) (suc n) zero low = (omega arith, omega arith)
    take_low (x ∷ xs) (suc n) (suc j) low = let it = take_low xs n j (omega arith) in (let one : j < length xs = it.0 in omega arith, let two : j < n = it.1 in omega arith)

pub label_at : (parts : List Part) (i : ℕ) (part : Part) → i < length parts → get_or parts i part ≡ part → get_or (part_labels parts) i part.label ≡ part.label
label_at [] i part low is = absurd (omega arith)
label_at (x ∷ xs) zero part low is = ap (λ (part : Part). part.label) is
label_at (x ∷ xs) (suc i) part low is = label_at xs i part (omega arith) is
