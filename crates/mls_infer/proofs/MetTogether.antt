-- What the states of some entries have together.
--     halves_parts             the heads of two halves
--     ends_step, ends_all      the ends of their edges, entry by entry
--     set_step, set_all        the set of some numbers
use Rattle.std.proofs.Common.{◌≡◌, ◌⊎◌, ◌↔◌, inl, inr, ℕ, ◌<◌, ◌≤◌, ◌+◌, ◌-◌, List, [], ◌∷◌, ◌++◌, length, get_or, take, drop, refl, sym, subst, arith, Contains}
use Rattle.std.specs.List.Sorted.{IsPermutation}
use Rattle.std.proofs.lemmas.List.{length-drop, take_all, take_more}
use Rattle.std.proofs.lemmas.List.Elements.{Contains-append_cases, Contains-append_left, Contains-append_right}
use Rattle.std.proofs.lemmas.List.Sorted.{Contains-permutation, IsPermutation-sym}
use Rattle.mls_automaton.specs.declared.automaton.Polarity.TheVariants.{Negative}
use Rattle.mls_automaton.specs.declared.automaton.Head.{Head}
use Rattle.mls_automaton.specs.declared.scheme.EnvEntry.{EnvEntry}
use Rattle.mls_automaton.specs.Automata.{Automaton, HasFlow, head_at}
use Rattle.mls_automaton.specs.Heads.{IsSameParts, combined_two, parts_of}
use Rattle.mls_automaton.proofs.Lists.{Contains-cases, Contains-here}
use Rattle.mls_automaton.proofs.CombinedHeads.{same_parts-halves}
use Rattle.mls_infer.specs.Meets.{HasFlowOfOne, parts_together}
use Rattle.mls_infer.proofs.ConstraintRows.{nothing_in}

-- two halves
module _ (a : Automaton) (entries : List EnvEntry) (h : ℕ) where
  abbrev X : List EnvEntry
  X = take h entries

  abbrev Y : List EnvEntry
  Y = take (length entries - h) (drop h entries)

  rest_is : Y ≡ drop h entries
  rest_is = let size : length (drop h entries) ≡ length entries - h = length-drop h entries in take_all (length entries - h) (drop h entries) (omega arith)

  pub halves_parts : (first second both : Head) → IsSameParts (parts_of first) (parts_together a X) → IsSameParts (parts_of second) (parts_together a Y)
      → IsSameParts (parts_of both) (combined_two Negative (parts_of first) (parts_of second)) → IsSameParts (parts_of both) (parts_together a entries)
  halves_parts first second both one other it =
      same_parts-halves Negative (λ (e : EnvEntry). parts_of (head_at a e.state.0)) h entries (parts_of first) (parts_of second) (parts_of both) one
      (subst (λ (xs : List EnvEntry). IsSameParts (parts_of second) (parts_together a xs)) rest_is other) it

-- what one element more brings
more_taken : {X : Type 0} (xs : List X) (i : ℕ) (d : X) → i < length xs → (x : X) → Contains (take (i + 1) xs) x ↔ Contains (take i xs) x ⊎ (get_or xs i d ≡ x)
more_taken xs i d low x =
    let more : take (i + 1) xs ≡ take i xs ++ get_or xs i d ∷ [] = take_more xs i d low in (
      λ inside. elim (Contains-append_cases (take i xs) (get_or xs i d ∷ []) x (subst (λ (ys : List _). Contains ys x) more inside)) [
        | inl old ↦ inl old
        | inr new ↦ elim (Contains-cases (get_or xs i d) [] x new) [ inl same ↦ inr same | inr none ↦ absurd (nothing_in x none) ]
      ],
      λ it. subst (λ (ys : List _). Contains ys x) (sym more) (elim it [
        | inl old ↦ Contains-append_left (take i xs) (get_or xs i d ∷ []) x old
        | inr same ↦ Contains-append_right (take i xs) (get_or xs i d ∷ []) x (subst (Contains (get_or xs i d ∷ [])) same (Contains-here (get_or xs i d) []))
      ]),
    )

-- the edges of one entry more
module _ (a : Automaton) (entries : List EnvEntry) (i : ℕ) where
  pub ends_step : (d : EnvEntry) → i < length entries → (old new after : List ℕ) → ((p : ℕ) → Contains old p ↔ HasFlowOfOne a (take i entries) p) → new ≡ old ++ after
      → ((p : ℕ) → Contains after p ↔ HasFlow a (get_or entries i d).state.0 p) → (p : ℕ) → Contains new p ↔ HasFlowOfOne a (take (i + 1) entries) p
  ends_step d low old new after before longer are p =
      let e : EnvEntry = get_or entries i d in (
        λ inside. elim (Contains-append_cases old after p (subst (λ (ns : List ℕ). Contains ns p) longer inside)) [
          | inl was ↦ let edge = (before p).0 was in (edge.0, (more_taken entries i d low edge.0).1 (inl edge.1), edge.2)
          | inr own ↦ (e, (more_taken entries i d low e).1 (inr refl), (are p).0 own)
        ],
        λ edge. subst (λ (ns : List ℕ). Contains ns p) (sym longer) (elim ((more_taken entries i d low edge.0).0 edge.1) [
          | inl was ↦ Contains-append_left old after p ((before p).1 (edge.0, was, edge.2))
          | inr same ↦ Contains-append_right old after p ((are p).1 (subst (λ (e : EnvEntry). HasFlow a e.state.0 p) (sym same) edge.2))
        ]),
      )

  pub ends_all : length entries ≤ i → (numbers : List ℕ) → ((p : ℕ) → Contains numbers p ↔ HasFlowOfOne a (take i entries) p) → (sorted : List ℕ) → IsPermutation numbers sorted
      → (ends : List ℕ) → ((s : ℕ) → Contains ends s ↔ Contains sorted s) → (p : ℕ) → Contains ends p ↔ HasFlowOfOne a entries p
  ends_all past numbers they sorted moved ends are p =
      let all : Contains numbers p ↔ HasFlowOfOne a entries p = subst (λ (xs : List EnvEntry). Contains numbers p ↔ HasFlowOfOne a xs p) (take_all i entries past) (they p) in (
        λ inside. all.0 (Contains-permutation sorted numbers p (IsPermutation-sym numbers sorted moved) ((are p).0 inside)),
        λ edge. (are p).1 (Contains-permutation numbers sorted p moved (all.1 edge)),
      )

-- the set of some numbers
module _ (numbers : List ℕ) (i : ℕ) where
  pub set_step : (d : ℕ) → i < length numbers → (old new : List ℕ) → ((s : ℕ) → Contains old s ↔ Contains (take i numbers) s) → ((s : ℕ) → Contains new s ↔ (s ≡ get_or numbers i d) ⊎ Contains old s)
      → (s : ℕ) → Contains new s ↔ Contains (take (i + 1) numbers) s
  set_step d low old new before after s = (
    λ inside. (more_taken numbers i d low s).1 (elim ((after s).0 inside) [ inl same ↦ inr (sym same) | inr was ↦ inl ((before s).0 was) ]),
    λ inside. (after s).1 (elim ((more_taken numbers i d low s).0 inside) [ inl was ↦ inr ((before s).1 was) | inr same ↦ inl (sym same) ]),
  )

  pub set_all : length numbers ≤ i → (set : List ℕ) → ((s : ℕ) → Contains set s ↔ Contains (take i numbers) s) → (s : ℕ) → Contains set s ↔ Contains numbers s
  set_all past set they s = subst (λ (ns : List ℕ). Contains set s ↔ Contains ns s) (take_all i numbers past) (they s)
