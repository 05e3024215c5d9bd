-- Two rising lists that are merged, number by number.
use Rattle.std.proofs.Common.{◌≡◌, ◌↔◌, ◌⊎◌, inl, inr, ℕ, ◌<◌, ◌≤◌, ◌+◌, List, [], ◌∷◌, ◌++◌, take, sym, subst, arith, length, get_or, Contains, All}
use Rattle.std.proofs.lemmas.List.Elements.{All-append, Contains-append_cases, Contains-append_left, Contains-append_right}
use Rattle.mls_automaton.specs.Sets.{Rises}
use Rattle.mls_automaton.specs.steps.Merging.{AreMerged, GoesPast, StandsAt}
use Rattle.mls_automaton.proofs.Lists.{All-one, Contains-here, Contains-cases}
use Rattle.mls_automaton.proofs.Searches.{next-cases, next-last, next-more, take-all}

-- One of the two lists, where a place goes past a number or stays.
module _ (list : List ℕ) (i s : ℕ) where
  past-more : (next x : ℕ) → GoesPast list i s next → Contains (take i list) x → Contains (take next list) x
  past-more next x (inl goes) it = subst (λ k. Contains (take k list) x) (sym goes.0) (next-more list i 0 goes.1.0 x it)
  past-more next x (inr stays) it = subst (λ k. Contains (take k list) x) (sym stays.0) it

  past-cases : (next x : ℕ) → GoesPast list i s next → Contains (take next list) x → Contains (take i list) x ⊎ (s ≡ x)
  past-cases next x (inl goes) it = elim (next-cases list i 0 goes.1.0 x (subst (λ k. Contains (take k list) x) goes.0 it)) [
    | inl before ↦ inl before
    | inr last ↦ inr (let at : get_or list i 0 ≡ s = goes.1.1 in let e : get_or list i 0 ≡ x = last in let r : s ≡ x = omega arith in r)
  ]
  past-cases next x (inr stays) it = inl (subst (λ k. Contains (take k list) x) stays.0 it)

  past-there : (next : ℕ) → StandsAt list i s → GoesPast list i s next → Contains (take next list) s
  past-there next at (inl goes) = subst (λ k. Contains (take k list) s) (sym goes.0) (subst (λ x. Contains (take (i + 1) list) x) at.1 (next-last list i 0 at.0))
  past-there next at (inr stays) = let h : s < get_or list i 0 = stays.1 at.0 in let e : get_or list i 0 ≡ s = at.1 in absurd (omega arith)

  past-in_range : (next : ℕ) → i ≤ length list → GoesPast list i s next → next ≤ length list
  past-in_range next le (inl goes) = let low : i < length list = goes.1.0 in let e : next ≡ i + 1 = goes.0 in omega arith
  past-in_range next le (inr stays) = let e : next ≡ i = stays.0 in omega arith

  past-above : (both : List ℕ) (next : ℕ) → Rises list → (i < length list → All (λ x. x < get_or list i 0) both) → GoesPast list i s next → next < length list → All (λ x. x < get_or list next 0) (both ++ s ∷ [])
  past-above both next rises above (inl goes) low =
      let e : next ≡ i + 1 = goes.0 in
      let at : get_or list i 0 ≡ s = goes.1.1 in
      let in_list : i < length list = goes.1.0 in
      let up : get_or list i 0 < get_or list next 0 = rises i next (omega arith) low in
      All-append (λ x. x < get_or list next 0) both (s ∷ [])
      (λ k d there. let h : get_or both k d < get_or list i 0 = above in_list k d there in omega arith)
      (All-one (λ x. x < get_or list next 0) s (omega arith))
  past-above both next rises above (inr stays) low =
      let e : next ≡ i = stays.0 in
      let in_list : i < length list = omega arith in
      subst (λ n. All (λ x. x < get_or list n 0) (both ++ s ∷ [])) (sym e)
      (All-append (λ x. x < get_or list i 0) both (s ∷ []) (above in_list) (All-one (λ x. x < get_or list i 0) s (stays.1 in_list)))

module _ (first second both : List ℕ) (i j s : ℕ) (merged : AreMerged first second i j both) (there : StandsAt first i s ⊎ StandsAt second j s) where
  -- one number more
  pub merged-next : (i' j' : ℕ) → Rises first → Rises second → GoesPast first i s i' → GoesPast second j s j' → AreMerged first second i' j' (both ++ s ∷ [])
  merged-next i' j' first-rises second-rises one other = record {
    first_there = past-in_range first i s i' merged.first_there one;
    second_there = past-in_range second j s j' merged.second_there other;
    members = λ x. (to x, from x);
    before_first = past-above first i s both i' first-rises merged.before_first one;
    before_second = past-above second j s both j' second-rises merged.before_second other;
  }
    where
      last : (x : ℕ) → s ≡ x → Contains (take i' first) x ⊎ Contains (take j' second) x
      last x e = elim there [
        | inl at ↦ inl (subst (λ k. Contains (take i' first) k) e (past-there first i s i' at one))
        | inr at ↦ inr (subst (λ k. Contains (take j' second) k) e (past-there second j s j' at other))
      ]

      to : (x : ℕ) → Contains (both ++ s ∷ []) x → Contains (take i' first) x ⊎ Contains (take j' second) x
      to x it = elim (Contains-append_cases both (s ∷ []) x it) [
        | inl old ↦ elim ((merged.members x).0 old) [
          | inl own ↦ inl (past-more first i s i' x one own)
          | inr its ↦ inr (past-more second j s j' x other its)
        ]
        | inr new ↦ elim (Contains-cases s [] x new) [
          | inl e ↦ last x e
          | inr none ↦ let low : none.0 < 0 = none.1 in absurd (omega arith)
        ]
      ]

      new : (x : ℕ) → s ≡ x → Contains (both ++ s ∷ []) x
      new x e = Contains-append_right both (s ∷ []) x (subst (λ k. Contains (s ∷ []) k) e (Contains-here s []))

      from : (x : ℕ) → Contains (take i' first) x ⊎ Contains (take j' second) x → Contains (both ++ s ∷ []) x
      from x (inl it) = elim (past-cases first i s i' x one it) [
        | inl old ↦ Contains-append_left both (s ∷ []) x ((merged.members x).1 (inl old))
        | inr e ↦ new x e
      ]
      from x (inr it) = elim (past-cases second j s j' x other it) [
        | inl old ↦ Contains-append_left both (s ∷ []) x ((merged.members x).1 (inr old))
        | inr e ↦ new x e
      ]

-- in the end all numbers of both are there
pub merged-all : (first second both : List ℕ) (i j : ℕ) → AreMerged first second i j both → length first ≤ i → length second ≤ j → (x : ℕ) → Contains both x ↔ Contains first x ⊎ Contains second x
merged-all first second both i j merged all every x =
    subst (λ xs. Contains both x ↔ Contains xs x ⊎ Contains second x) (take-all first i all)
    (subst (λ xs. Contains both x ↔ Contains (take i first) x ⊎ Contains xs x) (take-all second j every) (merged.members x))
