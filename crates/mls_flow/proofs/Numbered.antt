-- How pairs get their numbers.
use Rattle.std.proofs.Common.{◌≡◌, ◌≢◌, ◌⊎◌, inl, inr, ℕ, ◌+◌, ◌<◌, List, [], ◌∷◌, ◌++◌, sym, ap, ◌∙◌, subst, arith, length, get_or, All}
use Rattle.std.specs.Prelude.{Option, Some, None}
use Rattle.std.specs.BTreeMap.{BTreeMap}
use Rattle.std.proofs.Math.ListN.{get_or-append}
use Rattle.std.proofs.Math.Seq.{get_or-append_seam}
use Rattle.std.proofs.lemmas.Bool.{cases_eq}
use Rattle.std.proofs.lemmas.List.{length-append}
use Rattle.std.proofs.lemmas.List.Elements.{All-contains, Contains-append_cases}
use Rattle.mls_automaton.proofs.Lists.{Contains-cases, All-contained}
use Rattle.mls_automaton.specs.declared.automaton.Flow.{Flow}
use Rattle.mls_automaton.specs.Automata.{flow}
use Rattle.mls_flow.specs.Pairs.{IsAt}
use Rattle.mls_flow.specs.steps.Numbering.{number_in, IsNumbering}

-- the same pairs with the same numbers
pub numbering-kept : (list list' : List Flow) (rows rows' : List (BTreeMap ℕ ℕ)) → IsNumbering list rows → list' ≡ list → length rows' ≡ length rows
    → ((n p : ℕ) → number_in rows' n p ≡ number_in rows n p) → IsNumbering list' rows'
numbering-kept list list' rows rows' it same-list same-length same =
    subst (λ l. IsNumbering l rows') (sym same-list)
    (record {
      low = subst (λ size. All (λ (f : Flow). f.negative.0 < size) list) (sym same-length) it.low;
      just = λ n p k. (
        (λ h. (it.just n p k).0 (sym (same n p) ∙ h)),
        (λ h. same n p ∙ (it.just n p k).1 h),
      );
    })

-- one more pair
module _ (list : List Flow) (rows rows' : List (BTreeMap ℕ ℕ)) (it : IsNumbering list rows) (n p : ℕ) (low : n < length rows) (new : (k : ℕ) → number_in rows n p ≡ Some k → ⊥)
    (same-length : length rows' ≡ length rows) (here : number_in rows' n p ≡ Some (length list))
    (others : (m q : ℕ) → (m ≢ n) ⊎ (q ≢ p) → number_in rows' m q ≡ number_in rows m q) where
  abbrev longer : List Flow
  longer = list ++ flow n p ∷ []

  size : length longer ≡ length list + 1
  size = length-append list (flow n p ∷ [])

  before : (m q k : ℕ) → IsAt list k m q → IsAt longer k m q
  before m q k at = let low-k : k < length list = at.0 in (rw size (omega arith), get_or-append list (flow n p ∷ []) (flow m q) k low-k ∙ at.1)

  last : IsAt longer (length list) n p
  last = (rw size (omega arith), get_or-append_seam list (flow n p) [] (flow n p))

  cases : (m q k : ℕ) → IsAt longer k m q → IsAt list k m q ⊎ ((k ≡ length list) × (m ≡ n) × (q ≡ p))
  cases m q k at =
      elim (cases_eq k (length list)) [
        | inl same ↦
            let pair : flow m q ≡ flow n p =
            sym (subst (λ i. get_or longer i (flow m q) ≡ flow m q) same at.1) ∙ get_or-append_seam list (flow n p) [] (flow m q) in
            inr (same, ap (λ (f : Flow). f.negative.0) pair, ap (λ (f : Flow). f.positive.0) pair)
        | inr other ↦
            let low-k : k < length list + 1 = subst (λ s. k < s) size at.0 in
            let inside : k < length list = omega arith in
            inl (inside, sym (get_or-append list (flow n p ∷ []) (flow m q) k inside) ∙ at.1)
      ]

  some-injective : (i j : ℕ) → Some i ≡ Some j → i ≡ j
  some-injective i j e = ap (λ (o : Option ℕ). value o) e
    where
      value : Option ℕ → ℕ
      value None = i
      value (Some k) = k

  pair-cases : (m q : ℕ) → ((m ≡ n) × (q ≡ p)) ⊎ ((m ≢ n) ⊎ (q ≢ p))
  pair-cases m q =
      elim (cases_eq m n) [
        | inl same ↦ elim (cases_eq q p) [ inl same' ↦ inl (same, same') | inr other ↦ inr (inr other) ]
        | inr other ↦ inr (inl other)
      ]

  pub numbering-added : (list' : List Flow) → list' ≡ longer → IsNumbering list' rows'
  numbering-added list' is =
      subst (λ l. IsNumbering l rows') (sym is)
      (record {
        low = All-contained (λ (f : Flow). f.negative.0 < length rows') longer (λ f inside. elim (Contains-append_cases list (flow n p ∷ []) f inside) [
          | inl old ↦ subst (λ s. f.negative.0 < s) (sym same-length) (All-contains (λ (g : Flow). g.negative.0 < length rows) list f it.low old)
          | inr added ↦
              elim (Contains-cases (flow n p) [] f added) [
                | inl same ↦ subst (λ (g : Flow). g.negative.0 < length rows') same (subst (λ s. n < s) (sym same-length) low)
                | inr none ↦ let no-low : none.0 < 0 = none.1 in absurd (omega arith)
              ]
        ]);
        just = λ m q k. (to m q k, from m q k);
      })
    where
      to : (m q k : ℕ) → number_in rows' m q ≡ Some k → IsAt longer k m q
      to m q k e =
          elim (pair-cases m q) [
            | inl same ↦
                let at : number_in rows' n p ≡ Some k = subst (λ i. number_in rows' i p ≡ Some k) same.0 (subst (λ i. number_in rows' m i ≡ Some k) same.1 e) in
                let is-k : length list ≡ k = some-injective (length list) k (sym here ∙ at) in
                subst (λ i. IsAt longer i m q) is-k (subst (λ i. IsAt longer (length list) i q) (sym same.0) (subst (λ i. IsAt longer (length list) n i) (sym same.1) last))
            | inr other ↦ before m q k ((it.just m q k).0 (sym (others m q other) ∙ e))
          ]

      from : (m q k : ℕ) → IsAt longer k m q → number_in rows' m q ≡ Some k
      from m q k at =
          elim (cases m q k at) [
            | inl old ↦
                let was : number_in rows m q ≡ Some k = (it.just m q k).1 old in
                elim (pair-cases m q) [
                  | inl same ↦
                      let there : number_in rows n p ≡ Some k = subst (λ i. number_in rows i p ≡ Some k) same.0 (subst (λ i. number_in rows m i ≡ Some k) same.1 was) in
                      absurd (new k there)
                  | inr other ↦ others m q other ∙ was
                ]
            | inr added ↦
                subst (λ i. number_in rows' m q ≡ Some i) (sym added.0)
                (subst (λ i. number_in rows' i q ≡ Some (length list)) (sym added.1) (subst (λ i. number_in rows' n i ≡ Some (length list)) (sym added.2) here))
          ]
