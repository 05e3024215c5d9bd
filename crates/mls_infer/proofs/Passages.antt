-- Adding a passage: its edge is a new one.
--     passage_added
use Rattle.std.proofs.Common.{◌≡◌, ℕ, suc, ◌+◌, ◌<◌, [], ◌∷◌, ◌++◌, length, sym, ap, ◌∙◌, arith, subst, length-append}
use Rattle.std.proofs.lemmas.List.{append_assoc}
use Rattle.mls_automaton.specs.Automata.{Automaton, empty_head, flow, HasFlow, HasTrueFlows, with_state, with_flow}
use Rattle.mls_infer.specs.Constraints.{negative, positive, size}
use Rattle.mls_infer.specs.Joining.{with_passage}

module _ (a : Automaton) (ends : HasTrueFlows a) where
  abbrev one : Automaton
  one = with_state a (negative empty_head)

  abbrev two : Automaton
  two = with_state one (positive empty_head)

  fresh : (p : ℕ) → HasFlow two (size a) p → ⊥
  fresh p it = let low : size a < length a.states = (ends.negative (flow (size a) p) it).in_range in absurd (omega arith)

  is_passage : with_flow two (flow (size a) (suc (size a))) ≡ with_passage a
  is_passage = λ i. record {
    states = append_assoc a.states (negative empty_head ∷ []) (positive empty_head ∷ []) i;
    flows = a.flows ++ flow (size a) (suc (size a)) ∷ [];
  }

  at_new : (n p : ℕ) → n ≡ size a → p ≡ length one.states → (b : Automaton) → ((HasFlow two n p → ⊥) → b ≡ with_flow two (flow n p)) → b ≡ with_passage a
  at_new n p n_is p_is b added =
      let p_is' : p ≡ suc (size a) = let all : length one.states ≡ size a + 1 = length-append a.states (negative empty_head ∷ []) in omega arith in
      let is : b ≡ with_flow two (flow n p) = added (subst (λ m. HasFlow two m p → ⊥) (sym n_is) (fresh p)) in
      is ∙ ((λ i. with_flow two (flow (n_is i) (p_is' i))) ∙ is_passage)

  pub passage_added : (n p : ℕ) → n ≡ size a → (first second b : Automaton) → first ≡ one → p ≡ length first.states → second ≡ with_state first (positive empty_head)
      → ((HasFlow second n p → ⊥) → b ≡ with_flow second (flow n p)) → b ≡ with_passage a
  passage_added n p n_is first second b first_is p_is second_is added =
      let P : Automaton → Type 0 = λ s. (HasFlow s n p → ⊥) → b ≡ with_flow s (flow n p) in
      let two_is : second ≡ two = second_is ∙ ap (λ x. with_state x (positive empty_head)) first_is in
      at_new n p n_is (p_is ∙ ap (λ (x : Automaton). length x.states) first_is) b (subst P two_is added)

  pub passage_size : size (with_passage a) ≡ suc (suc (size a))
  passage_size = let all : size (with_passage a) ≡ size a + 2 = length-append a.states (negative empty_head ∷ positive empty_head ∷ []) in omega arith
