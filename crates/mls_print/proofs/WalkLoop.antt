-- The loop of the walk: what is left on the stack leads to the same states as the root.
--     walk_begins, walk_seen, walk_new, walk_ends      one round of the loop
--     weight-set                                        its measure
use Rattle.std.proofs.Common.{◌≡◌, ◌≢◌, inl, inr, ℕ, zero, suc, ◌+◌, ◌<◌, List, [], ◌∷◌, ◌++◌, sym, ap, ◌∙◌, subst, arith, length, get_or, All, Contains, true, false, Some, None, reverse, replicate, slice_set}
use Rattle.std.specs.Prelude.{Option, is_some, is_none, unwrap_or}
use Rattle.std.proofs.lemmas.List.Sorted.{All-permutation, IsPermutation-reverse}
use Rattle.std.proofs.lemmas.List.{get_or_default, length-reverse, reverse-append, reverse-reverse, length-set, length-append, length-replicate, get_or-replicate, get_or_append_left, get_or_push, get_or-set_same, get_or-set_other}
use Rattle.std.proofs.lemmas.List.Elements.{All-nil, All-append, All-push, All-contains, Contains-append_right, Contains-get_or}
use Rattle.std.proofs.lemmas.Bool.{cases_eq}
use Rattle.mls_automaton.specs.Automata.{Automaton}
use Rattle.mls_automaton.specs.Models.{IsClosed}
use Rattle.mls_automaton.proofs.Lists.{All-one, Contains-here}
use Rattle.mls_print.specs.Walks.{states_below, Visits, done}
use Rattle.mls_print.specs.steps.Numbering.{IsNumbered}
use Rattle.mls_print.proofs.WalkSteps.{taken_seen, taken_new}
use Rattle.mls_print.proofs.WalkExists.{below-low}

none-some : (o : Option ℕ) (k : ℕ) → o ≡ None → o ≡ Some k → ⊥
none-some o k e e' =
    let no : is_some o ≡ false = ap is_some e in
    let yes : is_some o ≡ true = ap is_some e' in
    absurd (cc)

some-same : (o : Option ℕ) (j k : ℕ) → o ≡ Some j → o ≡ Some k → j ≡ k
some-same o j k e e' = ap (λ o. unwrap_or o 0) (sym e ∙ e')

-- what was read of the numbers
pub read-none : (numbers : List (Option ℕ)) (s : ℕ) (o : Option ℕ) → s < length numbers → o ≡ get_or numbers s o → is_none o ≡ true → get_or numbers s None ≡ None
read-none numbers s None low e none = sym e
read-none numbers s (Some k) low e none = absurd (cc)

pub read-some : (numbers : List (Option ℕ)) (s : ℕ) (o : Option ℕ) → s < length numbers → o ≡ get_or numbers s o → is_none o ≡ false → (k : ℕ) × (get_or numbers s None ≡ Some k)
read-some numbers s None low e some = absurd (cc)
read-some numbers s (Some k) low e some = (k, get_or_default numbers s None (Some k) low ∙ sym e)

module _ (a : Automaton) (root : ℕ) where
  abbrev pub size : ℕ
  size = length a.states

  pub record IsWalking (order : List ℕ) (numbers : List (Option ℕ)) (stack : List ℕ) : Type 0 where
    pub numbered : IsNumbered size order numbers
    pub low : All (λ s. s < size) stack
    pub leads : (final : List ℕ) → Visits a order (reverse stack) final → Visits a [] (root ∷ []) final

  pub walk_begins : root < size → IsWalking [] (replicate size None) (root ∷ [])
  walk_begins low = record {
    numbered = record {
      size = length-replicate size None;
      low = All-nil (λ s. s < size);
      numbered = λ k below. absurd (omega arith);
      found = λ s k below e. absurd (none-some (get_or (replicate size None) s None) k (get_or-replicate size s None None below) e);
    };
    low = All-one (λ s. s < size) root low;
    leads = λ final it. it;
  }

  reverse-push : (stack : List ℕ) (s : ℕ) → reverse (stack ++ s ∷ []) ≡ s ∷ reverse stack
  reverse-push stack s = reverse-append stack (s ∷ [])

  known : (order : List ℕ) (numbers : List (Option ℕ)) (s k : ℕ) → IsNumbered size order numbers → s < size → get_or numbers s None ≡ Some k → Contains order s
  known order numbers s k it low e =
      let found = it.found s k low e in
      subst (Contains order) found.1 (Contains-get_or order k 0 found.0)

  unknown : (order : List ℕ) (numbers : List (Option ℕ)) (s : ℕ) → IsNumbered size order numbers → get_or numbers s None ≡ None → Contains order s → ⊥
  unknown order numbers s it e there =
      let at : get_or order there.0 0 ≡ s = get_or_default order there.0 0 s there.1 ∙ there.2 in
      let one : get_or numbers (get_or order there.0 0) None ≡ Some there.0 = it.numbered there.0 there.1 in
      none-some (get_or numbers s None) there.0 e (subst (λ j. get_or numbers j None ≡ Some there.0) at one)

  last_low : (stack : List ℕ) (s : ℕ) → All (λ s. s < size) (stack ++ s ∷ []) → s < size
  last_low stack s all = All-contains (λ s. s < size) (stack ++ s ∷ []) s all (Contains-append_right stack (s ∷ []) s (Contains-here s []))

  front_low : (stack rest : List ℕ) → All (λ s. s < size) (stack ++ rest) → All (λ s. s < size) stack
  front_low stack rest all = λ k d low.
      let longer : k < length (stack ++ rest) = omega (arith, length-append stack rest) in
      subst (λ x. x < size) (get_or_append_left stack rest d k low) (all k d longer)

  -- the last state on the stack has a number or can get one
  pub taken_low : (order : List ℕ) (numbers : List (Option ℕ)) (stack : List ℕ) (s : ℕ) → IsWalking order numbers (stack ++ s ∷ []) → s < length numbers
  taken_low order numbers stack s it = let low : s < size = last_low stack s it.low in omega (arith, it.numbered.size)

  pub walk_seen : (order : List ℕ) (numbers : List (Option ℕ)) (stack : List ℕ) (s k : ℕ) → IsWalking order numbers (stack ++ s ∷ []) → get_or numbers s None ≡ Some k → IsWalking order numbers stack
  walk_seen order numbers stack s k it e =
      let low : s < size = last_low stack s it.low in
      record {
        numbered = it.numbered;
        low = front_low stack (s ∷ []) it.low;
        leads = λ final visits.
            it.leads final
            (subst (λ rest. Visits a order rest final) (sym (reverse-push stack s))
            ((taken_seen a order (reverse stack) final s (known order numbers s k it.numbered low e)).1 visits));
      }

  numbered-new : (order : List ℕ) (numbers : List (Option ℕ)) (s : ℕ) → IsNumbered size order numbers → s < size → get_or numbers s None ≡ None → IsNumbered size (order ++ s ∷ []) (slice_set numbers s (Some (length order)))
  numbered-new order numbers s it low e = record {
    size = length-set numbers s (Some (length order)) ∙ it.size;
    low = All-push (λ s. s < size) order s it.low low;
    numbered = λ k below.
        elim (cases_eq k (length order)) [
          | inl same ↦
              let at : get_or (order ++ s ∷ []) k 0 ≡ s = get_or_push order s 0 k (sym same) in
              let inside : s < length numbers = omega (arith, it.size) in
              ap (λ j. get_or (slice_set numbers s (Some (length order))) j None) at ∙ (get_or-set_same numbers s (Some (length order)) None inside ∙ ap Some (sym same))
          | inr other ↦
              let less : k < length order = omega (arith, length-append order (s ∷ [])) in
              let at : get_or (order ++ s ∷ []) k 0 ≡ get_or order k 0 = get_or_append_left order (s ∷ []) 0 k less in
              let had : get_or numbers (get_or order k 0) None ≡ Some k = it.numbered k less in
              let apart : get_or order k 0 ≢ s = λ same. none-some (get_or numbers s None) k e (subst (λ j. get_or numbers j None ≡ Some k) same had) in
              ap (λ j. get_or (slice_set numbers s (Some (length order))) j None) at ∙ (get_or-set_other numbers s (get_or order k 0) (Some (length order)) None apart ∙ had)
        ];
    found = λ j k below is.
        elim (cases_eq j s) [
          | inl same ↦
              let inside : s < length numbers = omega (arith, it.size) in
              let here : get_or (slice_set numbers s (Some (length order))) s None ≡ Some (length order) = get_or-set_same numbers s (Some (length order)) None inside in
              let there : get_or (slice_set numbers s (Some (length order))) s None ≡ Some k = subst (λ j. get_or (slice_set numbers s (Some (length order))) j None ≡ Some k) same is in
              let place : length order ≡ k = some-same (get_or (slice_set numbers s (Some (length order))) s None) (length order) k here there in
              (omega (arith, length-append order (s ∷ [])), get_or_push order s 0 k place ∙ sym same)
          | inr other ↦
              let had : get_or numbers j None ≡ Some k = sym (get_or-set_other numbers s j (Some (length order)) None other) ∙ is in
              let found = it.found j k below had in
              (omega (arith, length-append order (s ∷ []), found.0), get_or_append_left order (s ∷ []) 0 k found.0 ∙ found.1)
        ];
  }

  all-reversed : (xs : List ℕ) → All (λ s. s < size) xs → All (λ s. s < size) (reverse xs)
  all-reversed xs all = All-permutation (λ s. s < size) xs (reverse xs) (IsPermutation-reverse xs) all

  pub walk_new : IsClosed a → (order : List ℕ) (numbers : List (Option ℕ)) (stack : List ℕ) (s : ℕ) → IsWalking order numbers (stack ++ s ∷ []) → get_or numbers s None ≡ None → IsWalking (order ++ s ∷ []) (slice_set numbers s (Some (length order))) (stack ++ reverse (states_below a s))
  walk_new closed order numbers stack s it e =
      let low : s < size = last_low stack s it.low in
      record {
        numbered = numbered-new order numbers s it.numbered low e;
        low = All-append (λ s. s < size) stack (reverse (states_below a s)) (front_low stack (s ∷ []) it.low) (all-reversed (states_below a s) (below-low a closed s));
        leads = λ final visits.
            let turned : reverse (stack ++ reverse (states_below a s)) ≡ states_below a s ++ reverse stack =
            reverse-append stack (reverse (states_below a s)) ∙ ap (λ front. front ++ reverse stack) (reverse-reverse (states_below a s)) in
            it.leads final
            (subst (λ rest. Visits a order rest final) (sym (reverse-push stack s))
            ((taken_new a order (reverse stack) final s (unknown order numbers s it.numbered e)).1
            (subst (λ rest. Visits a (order ++ s ∷ []) rest final) turned visits)));
      }

  pub walk_ends : (order : List ℕ) (numbers : List (Option ℕ)) → IsWalking order numbers [] → Visits a [] (root ∷ []) order
  walk_ends order numbers it = it.leads order done

-- what the states that have no number have below them, from state i on
abbrev pub weight : Automaton → ℕ → List (Option ℕ) → ℕ
weight a i [] = 0
weight a i (None ∷ rest) = length (states_below a i) + weight a (suc i) rest
weight a i (Some k ∷ rest) = weight a (suc i) rest

pub weight-set : (a : Automaton) (i s k : ℕ) (numbers : List (Option ℕ)) → s < length numbers → get_or numbers s None ≡ None → weight a i numbers ≡ length (states_below a (i + s)) + weight a i (slice_set numbers s (Some k))
weight-set a i s k [] low e = absurd (omega arith)
weight-set a i zero k (None ∷ rest) low e = let same : i + 0 ≡ i = omega arith in ap (λ j. length (states_below a j) + weight a (suc i) rest) (sym same)
weight-set a i zero k (Some n ∷ rest) low e = absurd (cc)
weight-set a i (suc s) k (None ∷ rest) low e =
    let same : suc i + s ≡ i + suc s = omega arith in
    let later : weight a (suc i) rest ≡ length (states_below a (suc i + s)) + weight a (suc i) (slice_set rest s (Some k)) = weight-set a (suc i) s k rest (omega arith) e in
    let later' : weight a (suc i) rest ≡ length (states_below a (i + suc s)) + weight a (suc i) (slice_set rest s (Some k)) = subst (λ j. weight a (suc i) rest ≡ length (states_below a j) + weight a (suc i) (slice_set rest s (Some k))) same later in
    omega (arith, later')
weight-set a i (suc s) k (Some n ∷ rest) low e =
    let same : suc i + s ≡ i + suc s = omega arith in
    let later : weight a (suc i) rest ≡ length (states_below a (suc i + s)) + weight a (suc i) (slice_set rest s (Some k)) = weight-set a (suc i) s k rest (omega arith) e in
    subst (λ j. weight a (suc i) rest ≡ length (states_below a j) + weight a (suc i) (slice_set rest s (Some k))) same later

-- a state that is taken from the stack and gets a number makes the measure less
pub measure-new : (a : Automaton) (stack : List ℕ) (s k : ℕ) (numbers : List (Option ℕ)) → s < length numbers → get_or numbers s None ≡ None
    → length (stack ++ reverse (states_below a s)) + weight a 0 (slice_set numbers s (Some k)) < length (stack ++ s ∷ []) + weight a 0 numbers
measure-new a stack s k numbers low new =
    let same : 0 + s ≡ s = omega arith in
    let W : ℕ → Type 0 = λ j. weight a 0 numbers ≡ length (states_below a j) + weight a 0 (slice_set numbers s (Some k)) in
    let falls : W s = subst W same (weight-set a 0 s k numbers low new) in
    let grown = length-append stack (reverse (states_below a s)) in
    let turned = length-reverse (states_below a s) in
    omega (arith, falls, grown, turned, length-append stack (s ∷ []))
