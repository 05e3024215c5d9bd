-- Which states are there behind `absorb` and `keep`, and with which polarity.
use Rattle.std.proofs.Common.{◌≡◌, inl, inr, ℕ, ◌<◌, true, false, List, Contains, get_or, sym, ap, ◌∙◌, subst}
use Rattle.std.proofs.lemmas.List.Elements.{Contains-get_or}
use Rattle.mls_automaton.specs.declared.automaton.Polarity.{Polarity}
use Rattle.mls_automaton.specs.declared.automaton.State.{State}
use Rattle.mls_automaton.specs.Automata.{Automaton, IsState}
use Rattle.mls_biunify.specs.Live.{AddsStates, IsCopyAt, IsLiveState, IsThere, KeepsThere, Live, number_of}

module _ (old new : Live) (numbers : List ℕ) (adds : AddsStates old new numbers) where
  -- a state that was there stays
  pub old-state : (p : Polarity) (s : ℕ) → IsLiveState old p s → IsLiveState new p s
  old-state p s it = record {
    there = (adds.there s).1 (inl it.there);
    polarity = ap (λ (state : State). state.polarity) (adds.others s it.there) ∙ it.polarity;
  }

  -- and has no number of a copy
  pub old-apart : (s : ℕ) → IsThere old s → Contains numbers s → ⊥
  old-apart s there one =
      let free : get_or old.there s false ≡ false = adds.were_free s one in
      let wrong : true ≡ false = sym there ∙ free in
      cc

  -- a copy is there
  pub copied-state : (a : Automaton) → IsCopyAt a numbers new.table → (p : Polarity) (s : ℕ) → IsState a p s → IsLiveState new p (number_of numbers s)
  copied-state a copy p s it = record {
    there = (adds.there (number_of numbers s)).1 (inr (Contains-get_or numbers s 0 (subst (λ n. s < n) (sym copy.count) it.in_range)));
    polarity = copy.embedded.polarity s it.in_range ∙ it.polarity;
  }

-- a state that stays
pub kept-state : (old new : Live) (IsKept : ℕ → Type 0) → KeepsThere old new IsKept → (p : Polarity) (s : ℕ) → IsKept s → IsLiveState old p s → IsLiveState new p s
kept-state old new IsKept keeps p s kept it = record {
  there = (keeps.there s).1 kept;
  polarity = ap (λ (state : State). state.polarity) (keeps.states s kept) ∙ it.polarity;
}
