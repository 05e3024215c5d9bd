-- One entry for several of a binder: its state comes behind all others, and the types are the same.
--     entry_at     the entry of a binder at a state
--     met_all      there is such a state, with the combined head and all edges of theirs
use Rattle.std.proofs.Common.{◌≡◌, ◌↔◌, inl, inr, ℕ, ◌<◌, ◌≤◌, List, [], ◌∷◌, length, refl, sym, ap, subst, arith, Contains}
use Rattle.mls_automaton.specs.declared.automaton.Polarity.TheVariants.{Negative}
use Rattle.mls_automaton.specs.declared.automaton.Head.{Head}
use Rattle.mls_automaton.specs.declared.automaton.State.{State}
use Rattle.mls_automaton.specs.declared.scheme.EnvEntry.{EnvEntry}
use Rattle.mls_automaton.specs.Automata.{Automaton, HasFlow, IsState, flow, head_at}
use Rattle.mls_automaton.specs.Heads.{IsSameParts, combined_two, parts_of}
use Rattle.mls_automaton.specs.Models.{IsClosed}
use Rattle.mls_automaton.proofs.Lists.{Contains-cases, Contains-here, Contains-later}
use Rattle.mls_scheme.proofs.MetStates.{combined-none, state-new}
use Rattle.mls_automaton.proofs.CombinedHeads.{same_parts-self, same_parts-trans, same_parts-two}
use Rattle.mls_infer.specs.Constraints.{id}
use Rattle.mls_infer.specs.Meets.{HasFlowOfOne, parts_together}
use Rattle.mls_infer.specs.Merges.{AreNegative, IsMet, Merges}
use Rattle.mls_infer.proofs.ConstraintRows.{nothing_in}
use Rattle.mls_infer.proofs.MergedSchemes.{met_exists}
use Rattle.mls_infer.proofs.Merges.{merges_append, merges_met, merges_refl, merges_trans}

-- the entry of a binder at a state
abbrev pub entry_at : ℕ → ℕ → EnvEntry
entry_at binder k = record { binder = binder; state = id k }

-- The entries of a binder give way to one. Its state has the combined head and all edges of theirs. Where they are
-- several, it comes behind all states that there were.
pub record IsMetAll (a : Automaton) (binder : ℕ) (entries : List EnvEntry) (b : Automaton) (n : ℕ) : Type 0 where
  pub merges : Merges a entries b (entry_at binder n ∷ [])
  pub parts : IsSameParts (parts_of (head_at b n)) (parts_together a entries)
  pub flows : (p : ℕ) → HasFlow b n p ↔ HasFlowOfOne a entries p
  pub behind : 1 < length entries → length a.states ≤ n

module _ (a : Automaton) (closed : IsClosed a) (binder : ℕ) where
  -- one entry for itself
  one_met : (x : EnvEntry) → x.binder ≡ binder → AreNegative a (x ∷ []) → IsMetAll a binder (x ∷ []) a x.state.0
  one_met x own are = record {
    merges = subst (λ k. Merges a (x ∷ []) a (entry_at k x.state.0 ∷ [])) own (merges_refl a (x ∷ []) closed are);
    parts = subst (IsSameParts (parts_of (head_at a x.state.0))) (sym (combined-none Negative (parts_of (head_at a x.state.0)))) (same_parts-self (parts_of (head_at a x.state.0)));
    flows = λ p. (
      λ edge. (x, Contains-here x [], edge),
      λ it. elim (Contains-cases x [] it.0 it.1) [
        | inl here ↦ subst (λ (e : EnvEntry). HasFlow a e.state.0 p) (sym here) it.2
        | inr none ↦ absurd (nothing_in it.0 none)
      ],
    );
    behind = λ more. absurd (omega arith);
  }

  -- one more, and the state that stands for the others
  module _ (x : EnvEntry) (rest : List EnvEntry) (own : x.binder ≡ binder) (is : IsState a Negative x.state.0) (are : AreNegative a rest)
      (c : Automaton) (m : ℕ) (later : IsMetAll a binder rest c m) (b : Automaton) (met : IsMet x.state.0 m (length c.states) c b) where
    abbrev n : ℕ
    n = length c.states

    closed_c : IsClosed c
    closed_c = later.merges.closed

    is_x : IsState c Negative x.state.0
    is_x = later.merges.states Negative x.state.0 is

    is_m : IsState c Negative m
    is_m = later.merges.negative (entry_at binder m) (Contains-here (entry_at binder m) [])

    are_one : AreNegative a (x ∷ [])
    are_one e inside = elim (Contains-cases x [] e inside) [
      | inl here ↦ subst (λ (e : EnvEntry). IsState a Negative e.state.0) here is
      | inr none ↦ absurd (nothing_in e none)
    ]

    two_merged : Merges c (x ∷ entry_at binder m ∷ []) b (entry_at binder n ∷ [])
    two_merged =
        subst (λ k. Merges c (entry_at k x.state.0 ∷ entry_at binder m ∷ []) b (entry_at binder n ∷ [])) (sym own)
        (merges_met c b closed_c binder x.state.0 m n is_x is_m met)

    head_n : head_at b n ≡ met.adds.state.head
    head_n = ap (λ (s : State). s.head) (state-new x.state.0 m c b closed_c is_x is_m met.adds)

    head_x : head_at c x.state.0 ≡ head_at a x.state.0
    head_x = later.merges.extended.heads x.state.0 is.in_range

    same_parts : IsSameParts (parts_of met.adds.state.head) (parts_together a (x ∷ rest))
    same_parts =
        same_parts-trans (parts_of met.adds.state.head) (combined_two Negative (parts_of (head_at c x.state.0)) (parts_of (head_at c m))) (parts_together a (x ∷ rest)) met.adds.head
        (same_parts-two Negative (parts_of (head_at c x.state.0)) (parts_of (head_at c m)) (parts_of (head_at a x.state.0)) (parts_together a rest)
        (subst (λ (h : Head). IsSameParts (parts_of h) (parts_of (head_at a x.state.0))) (sym head_x) (same_parts-self (parts_of (head_at a x.state.0)))) later.parts)

    flow_of : (p : ℕ) → HasFlow b n p → HasFlowOfOne a (x ∷ rest) p
    flow_of p edge = elim ((met.adds.flows n p).0 edge) [
      | inl before ↦ absurd (let low : n < n = (closed_c.negative (flow n p) before).in_range in omega arith)
      | inr came ↦ elim came.1 [
        | inl one ↦ (x, Contains-here x rest, (later.merges.extended.flows x.state.0 p is.in_range).0 one)
        | inr other ↦ let found = (later.flows p).0 other in (found.0, Contains-later x rest found.0 found.1, found.2)
      ]
    ]

    flow_back : (p : ℕ) → HasFlowOfOne a (x ∷ rest) p → HasFlow b n p
    flow_back p found = (met.adds.flows n p).1 (inr (
      refl,
      elim (Contains-cases x rest found.0 found.1) [
        | inl here ↦ inl ((later.merges.extended.flows x.state.0 p is.in_range).1 (subst (λ (e : EnvEntry). HasFlow a e.state.0 p) (sym here) found.2))
        | inr other ↦ inr ((later.flows p).1 (found.0, other, found.2))
      ],
    ))

    next_met : IsMetAll a binder (x ∷ rest) b n
    next_met = record {
      merges =
          merges_trans a c b (x ∷ rest) (x ∷ entry_at binder m ∷ []) (entry_at binder n ∷ [])
          (merges_append a a c (x ∷ []) rest (x ∷ []) (entry_at binder m ∷ []) are_one are (merges_refl a (x ∷ []) closed are_one) later.merges) two_merged;
      parts = subst (λ (h : Head). IsSameParts (parts_of h) (parts_together a (x ∷ rest))) (sym head_n) same_parts;
      flows = λ p. (flow_of p, flow_back p);
      behind = λ more. later.merges.extended.longer;
    }

  pub met_all : (entries : List EnvEntry) → 0 < length entries → ((e : EnvEntry) → Contains entries e → e.binder ≡ binder) → AreNegative a entries
      → (b : Automaton) × (n : ℕ) × IsMetAll a binder entries b n
  met_all [] some own are = absurd (omega arith)
  met_all (x ∷ []) some own are = (a, x.state.0, one_met x (own x (Contains-here x [])) are)
  met_all (x ∷ y ∷ rest) some own are =
      let rest_are : AreNegative a (y ∷ rest) = λ e inside. are e (Contains-later x (y ∷ rest) e inside) in
      let later = met_all (y ∷ rest) (omega arith) (λ e inside. own e (Contains-later x (y ∷ rest) e inside)) rest_are in
      let new = met_exists later.0 later.2.merges.closed x.state.0 later.1 in (
        new.0,
        length later.0.states,
        next_met x (y ∷ rest) (own x (Contains-here x (y ∷ rest))) (are x (Contains-here x (y ∷ rest))) rest_are later.0 later.1 later.2 new.0 new.1,
      )
