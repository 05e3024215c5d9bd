-- The pairs that were met, by the polarity of their general states: together they are a walk where no pair fails.
use Rattle.std.proofs.Common.{◌≡◌, ◌≢◌, ◌⊎◌, inl, inr, ℕ, ◌+◌, ◌<◌, List, [], ◌∷◌, ◌++◌, refl, sym, ap, ◌∙◌, subst, arith, length, get_or, Contains}
use Rattle.std.specs.Prelude.{◌↔◌}
use Rattle.std.proofs.lemmas.Bool.{cases_eq}
use Rattle.std.proofs.lemmas.List.Elements.{Contains-append_left, Contains-append_right, Contains-append_cases, Contains-get_or}
use Rattle.mls_automaton.specs.declared.automaton.Polarity.{Polarity}
use Rattle.mls_automaton.specs.declared.automaton.Polarity.TheVariants.{Positive, Negative}
use Rattle.mls_automaton.specs.declared.scheme.Scheme.{Scheme}
use Rattle.mls_automaton.specs.Automata.{Automaton, polarity_at}
use Rattle.mls_automaton.specs.Models.{IsDeterministic}
use Rattle.mls_automaton.specs.Schemes.{IsScheme}
use Rattle.mls_automaton.proofs.BooksExist.{scheme_exists}
use Rattle.mls_automaton.proofs.Lists.{Contains-here, Contains-cases}
use Rattle.mls_subsume.specs.declared.verdict.Reason.{Reason}
use Rattle.mls_subsume.specs.declared.verdict.StatePair.{StatePair}
use Rattle.mls_subsume.specs.declared.verdict.Walk.{Walk}
use Rattle.mls_subsume.specs.Pairs.{IsPaired}
use Rattle.mls_subsume.specs.Failures.{Fails}
use Rattle.mls_subsume.specs.Searches.{HasNoFailure, IsSearch, Met, met_at}
use Rattle.mls_subsume.specs.Verdicts.{IsSplitWalk}
use Rattle.mls_subsume.specs.Walks.{IsIn, pair}
use Rattle.mls_subsume.specs.steps.Queues.{IsMet}
use Rattle.mls_subsume.proofs.Completing.{no_failure_walk}
use Rattle.mls_subsume.proofs.Exploring.{met_at-contained}
use Rattle.mls_subsume.proofs.Searching.{met_first}
use Rattle.mls_subsume.proofs.Targeting.{none-there}

-- the pair of this number is of this polarity
abbrev pub IsPairAt : Automaton → Polarity → List Met → ℕ → ℕ → ℕ → Type 0
IsPairAt a p met k g s = ((met_at met k).general ≡ g) × ((met_at met k).special ≡ s) × (polarity_at a g ≡ p)

-- those before this number
abbrev pub ArePairsBefore : Automaton → Polarity → List Met → ℕ → List StatePair → Type 0
ArePairsBefore a p met n pairs = (g s : ℕ) → IsIn pairs g s ↔ (k : ℕ) × (k < n) × IsPairAt a p met k g s

pub pairs-start : (a : Automaton) (p : Polarity) (met : List Met) → ArePairsBefore a p met 0 []
pairs-start a p met g s = (λ there. absurd (none-there (pair g s) there), λ it. let no : it.0 < 0 = it.1 in absurd (omega arith))

pub pairs-done : (a : Automaton) (p : Polarity) (met : List Met) (pairs : List StatePair) → ArePairsBefore a p met (length met) pairs → (g s : ℕ) → IsIn pairs g s ↔ IsMet met g s × (polarity_at a g ≡ p)
pairs-done a p met pairs it g s = (
  λ there. let at = (it g s).0 there in ((met_at met at.0, Contains-get_or met at.0 (record { general = 0; special = 0; steps = [] }) at.1, at.2.0, at.2.1), at.2.2),
  λ is.
      let at = met_at-contained met is.0.0 is.0.1 in
      (it g s).1 (at.0, at.1, (ap (λ (m : Met). m.general) at.2 ∙ is.0.2, ap (λ (m : Met). m.special) at.2 ∙ is.0.3, is.1)),
)

module _ (a : Automaton) (p : Polarity) (met : List Met) (n : ℕ) (pairs : List StatePair) (it : ArePairsBefore a p met n pairs) where
  pub pairs-more : (pairs' : List StatePair) (one : StatePair) → one.general.0 ≡ (met_at met n).general → one.special.0 ≡ (met_at met n).special → polarity_at a one.general.0 ≡ p → pairs' ≡ pairs ++ one ∷ [] → ArePairsBefore a p met (n + 1) pairs'
  pairs-more pairs' one is_g is_s positive added = subst (ArePairsBefore a p met (n + 1)) (sym added) (λ g s. (to g s, from g s))
    where
      to : (g s : ℕ) → IsIn (pairs ++ one ∷ []) g s → (k : ℕ) × (k < n + 1) × IsPairAt a p met k g s
      to g s there =
          elim (Contains-append_cases pairs (one ∷ []) (pair g s) there) [
            | inl old ↦ let at = (it g s).0 old in let low : at.0 < n = at.1 in (at.0, omega arith, at.2)
            | inr new ↦ elim (Contains-cases one [] (pair g s) new) [
              | inl same ↦
                  let left : one.general.0 ≡ g = ap (λ (x : StatePair). x.general.0) same in
                  let right : one.special.0 ≡ s = ap (λ (x : StatePair). x.special.0) same in
                  (n, omega arith, (sym is_g ∙ left, sym is_s ∙ right, ap (polarity_at a) (sym left) ∙ positive))
              | inr none ↦ absurd (none-there (pair g s) none)
            ]
          ]

      from : (g s : ℕ) → (k : ℕ) × (k < n + 1) × IsPairAt a p met k g s → IsIn (pairs ++ one ∷ []) g s
      from g s at =
          elim (cases_eq at.0 n) [
            | inl same ↦
                let left : one.general.0 ≡ g = is_g ∙ (ap (λ k. (met_at met k).general) (sym same) ∙ at.2.0) in
                let right : one.special.0 ≡ s = is_s ∙ (ap (λ k. (met_at met k).special) (sym same) ∙ at.2.1) in
                let is : one ≡ pair g s = λ i. pair (left i) (right i) in
                Contains-append_right pairs (one ∷ []) (pair g s) (subst (Contains (one ∷ [])) is (Contains-here one []))
            | inr other ↦ let low : at.0 < n + 1 = at.1 in Contains-append_left pairs (one ∷ []) (pair g s) ((it g s).1 (at.0, omega arith, at.2))
          ]

  pub pairs-same : (pairs' : List StatePair) (g' : ℕ) → g' ≡ (met_at met n).general → (polarity_at a g' ≡ p → ⊥) → pairs' ≡ pairs → ArePairsBefore a p met (n + 1) pairs'
  pairs-same pairs' g' is_g other same = subst (ArePairsBefore a p met (n + 1)) (sym same) (λ g s. (
    λ there. let at = (it g s).0 there in let low : at.0 < n = at.1 in (at.0, omega arith, at.2),
    λ at. elim (cases_eq at.0 n) [
      | inl last ↦ absurd (other (ap (polarity_at a) (is_g ∙ (ap (λ k. (met_at met k).general) (sym last) ∙ at.2.0)) ∙ at.2.2))
      | inr before ↦ let low : at.0 < n + 1 = at.1 in (it g s).1 (at.0, omega arith, at.2)
    ],
  ))

module _ (general special : Scheme) (is_g : IsScheme general) (is_s : IsScheme special) (single : IsDeterministic special.automaton) (met : List Met) (it : IsSearch general special met) (fine : HasNoFailure general special met) (positives negatives : List StatePair) where
  abbrev AreOf : Polarity → List StatePair → Type 0
  AreOf p pairs = (g s : ℕ) → IsIn pairs g s ↔ IsMet met g s × (polarity_at general.automaton g ≡ p)

  none_fails : (g s : ℕ) → IsPaired general special g s → (why : Reason) → Fails general special (polarity_at general.automaton g) g s why → ⊥
  none_fails g s paired why fails =
      let found = met_first general special met it paired.0 g s paired.1 in
      fine found.0 why found.1
      (subst (λ g. Fails general special (polarity_at general.automaton g) g found.0.special why) (sym found.2)
      (subst (λ s. Fails general special (polarity_at general.automaton g) g s why) (sym found.3) fails))

  met_paired : (g s : ℕ) → IsMet met g s → IsPaired general special g s
  met_paired g s is =
      let m : Met = is.0 in
      subst (λ g. IsPaired general special g s) is.2 (subst (λ s. IsPaired general special m.general s) is.3 (m.steps, it.leads m is.1))

  by_polarity : (g s : ℕ) → AreOf Positive positives → AreOf Negative negatives → IsMet met g s → (p : Polarity) → polarity_at general.automaton g ≡ p → IsIn (positives ++ negatives) g s
  by_polarity g s are are' is Positive e = Contains-append_left positives negatives (pair g s) ((are g s).1 (is, e))
  by_polarity g s are are' is Negative e = Contains-append_right positives negatives (pair g s) ((are' g s).1 (is, e))

  pub split_walk : AreOf Positive positives → AreOf Negative negatives → IsSplitWalk general special (record { positives = positives; negatives = negatives })
  split_walk are are' =
      let a_book = scheme_exists special is_s in
      record {
        together = no_failure_walk general special is_g is_s single a_book.1.variable a_book.1.book.distinct (positives ++ negatives) (λ g s. (
          λ there. elim (Contains-append_cases positives negatives (pair g s) there) [
            | inl left ↦ met_paired g s ((are g s).0 left).0
            | inr right ↦ met_paired g s ((are' g s).0 right).0
          ],
          λ paired.
              let found = met_first general special met it paired.0 g s paired.1 in
              by_polarity g s are are' (found.0, found.1, found.2, found.3) (polarity_at general.automaton g) refl,
        )) none_fails;
        positives = λ g s there. ((are g s).0 there).1;
        negatives = λ g s there. ((are' g s).0 there).1;
      }
