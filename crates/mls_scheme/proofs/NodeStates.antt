-- The states of a book, one after another.
use Rattle.std.proofs.Common.{◌≡◌, ◌⊎◌, inl, inr, ℕ, ◌+◌, ◌<◌, List, [], ◌∷◌, ◌++◌, sym, ap, ◌∙◌, subst, arith, length, get_or, None}
use Rattle.std.specs.Prelude.{Option}
use Rattle.std.proofs.lemmas.List.{get_or_default, get_or_append_left, length-append}
use Rattle.std.proofs.Math.Seq.{get_or-append_seam}
use Rattle.mls_book.specs.declared.book.Node.{Node}
use Rattle.mls_book.proofs.LongerBooks.{below_or_more}
use Rattle.mls_automaton.specs.declared.automaton.Polarity.{Polarity}
use Rattle.mls_automaton.specs.declared.automaton.Polarity.TheVariants.{Positive}
use Rattle.mls_automaton.specs.declared.automaton.State.{State}
use Rattle.mls_automaton.specs.Automata.{Automaton, empty_head, state_at}
use Rattle.mls_scheme.specs.steps.Signs.{sign_at}
use Rattle.mls_scheme.specs.steps.States.{AddsNode, AreStatesTo, IsNodeState}

pub states-none : (nodes : List Node) (signs : List (Option Polarity)) (a : Automaton) → a ≡ record { states = []; flows = [] } → AreStatesTo 0 nodes signs a
states-none nodes signs a is = record {
  size = ap (λ (b : Automaton). length b.states) is;
  no_flows = ap (λ (b : Automaton). b.flows) is;
  state = λ i low. absurd (omega arith);
}

pub states-more : (nodes : List Node) (signs : List (Option Polarity)) (i : ℕ) (d : Option Polarity) (old new : Automaton) → i < length signs → AreStatesTo i nodes signs old → AddsNode nodes i (get_or signs i d) old new → AreStatesTo (i + 1) nodes signs new
states-more nodes signs i d old new in_list are (s, is, of) = record {
  size = ap length states ∙ (length-append old.states (s ∷ []) ∙ ap (λ k. k + 1) are.size);
  no_flows = ap (λ (b : Automaton). b.flows) is ∙ are.no_flows;
  state = λ j low. state j low (below_or_more j i);
}
  where
    states : new.states ≡ old.states ++ s ∷ []
    states = ap (λ (b : Automaton). b.states) is

    last : state_at new i ≡ s
    last =
        ap (λ (ss : List State). get_or ss i (record { polarity = Positive; head = empty_head })) states
        ∙ (ap (λ j. get_or (old.states ++ s ∷ []) j (record { polarity = Positive; head = empty_head })) (sym are.size)
        ∙ get_or-append_seam old.states s [] (record { polarity = Positive; head = empty_head }))

    state : (j : ℕ) → j < i + 1 → (j < i) ⊎ ((k : ℕ) × (j ≡ i + k)) → IsNodeState nodes j (sign_at signs j) (state_at new j)
    state j low (inl before) =
        let size : length old.states ≡ i = are.size in
        let there : j < length old.states = omega arith in
        subst (IsNodeState nodes j (sign_at signs j))
        (sym (ap (λ (ss : List State). get_or ss j (record { polarity = Positive; head = empty_head })) states ∙ get_or_append_left old.states (s ∷ []) (record { polarity = Positive; head = empty_head }) j there))
        (are.state j before)
    state j low (inr (k, e)) =
        let same : i ≡ j = omega arith in
        subst (λ j. IsNodeState nodes j (sign_at signs j) (state_at new j)) same
        (subst (λ o. IsNodeState nodes i o (state_at new i)) (get_or_default signs i d None in_list)
        (subst (IsNodeState nodes i (get_or signs i d)) (sym last) of))
