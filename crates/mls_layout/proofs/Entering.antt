-- What flows in at negative states, and what states are the trees of.
--     not_from                        no edge goes from a positive state
--     of_state, entering_made         the head of a state and what flows in to it; and what flows in at a negative state
--     placed_made, positive_valued, negative_valued       what a state is the tree of
--     entering_low, placed_low        all of these stand before the trees
use Rattle.std.proofs.Common.{◌≡◌, ◌⊎◌, inl, inr, ℕ, ◌<◌, ◌≤◌, List, [], ◌∷◌, ◌++◌, sym, ◌∙◌, arith}
use Rattle.std.specs.Prelude.{◌↔◌, Contains}
use Rattle.mls_book.specs.declared.book.NodeId.{NodeId}
use Rattle.mls_automaton.specs.declared.automaton.Polarity.{Polarity}
use Rattle.mls_automaton.specs.declared.automaton.Polarity.TheVariants.{Positive, Negative}
use Rattle.mls_automaton.specs.Automata.{Automaton, HasFlow, IsPartner, flow, polarity_at}
use Rattle.mls_automaton.specs.Models.{IsClosed}
use Rattle.mls_layout.specs.declared.layout.sources.Sources.{Sources}
use Rattle.mls_layout.specs.Trees.{IsNodeIn}
use Rattle.mls_layout.specs.steps.Sources.{Gathers, IsOfState, IsEntering, IsValued, IsPlaced, AreBelow, parts_in, partners_in}
use Rattle.mls_layout.proofs.Gathering.{BySome, gathers_append, gathers_then, gathers_same, gathers_one, gathered}

module _ (a : Automaton) (closed : IsClosed a) where
  -- no edge goes from a positive state, and none to a negative one
  pub not_from : (p k : ℕ) → polarity_at a p ≡ Positive → HasFlow a p k → ⊥
  not_from p k is it = let e : Positive ≡ Negative = sym is ∙ (closed.negative (flow p k) it).polarity in cc

  partner_back : (p k : ℕ) → polarity_at a p ≡ Positive → IsPartner a p k → HasFlow a k p
  partner_back p k is (inl it) = absurd (not_from p k is it)
  partner_back p k is (inr it) = it

  module _ (sources : Sources) where
    -- the parts of a positive state's head, and then what its partners give
    pub of_state : (p : ℕ) → polarity_at a p ≡ Positive → (partners : List ℕ) → ((j : ℕ) → Contains partners j ↔ IsPartner a p j) → (old now new : List NodeId) → now ≡ old ++ parts_in sources p
        → Gathers (BySome partners (λ k i. IsNodeIn (partners_in sources k) i)) now new → Gathers (IsOfState a sources p) old new
    of_state p is partners are old now new first then =
        gathers_then (IsNodeIn (parts_in sources p)) (BySome partners (λ k i. IsNodeIn (partners_in sources k) i)) (IsOfState a sources p) old now new
        (gathers_append old (parts_in sources p) now first) then to from
      where
        to : (i : ℕ) → IsNodeIn (parts_in sources p) i ⊎ BySome partners (λ k i. IsNodeIn (partners_in sources k) i) i → IsOfState a sources p i
        to i (inl it) = inl it
        to i (inr (k, there, it)) = inr (k, partner_back p k is ((are k).0 there), it)

        from : (i : ℕ) → IsOfState a sources p i → IsNodeIn (parts_in sources p) i ⊎ BySome partners (λ k i. IsNodeIn (partners_in sources k) i) i
        from i (inl it) = inl it
        from i (inr (k, edge, it)) = inr (k, (are k).1 (inr edge), it)

    pub entering_made : (R : ℕ → ℕ → Type 0) (n : ℕ) (above : List ℕ) → ((p : ℕ) → Contains above p ↔ R p n) → (old now new : List NodeId) → old ≡ [] → now ≡ old ++ partners_in sources n
        → Gathers (BySome above (IsOfState a sources)) now new → (i : ℕ) → IsNodeIn new i ↔ IsEntering a R sources Negative n i
    entering_made R n above are old now new none first then =
        gathered (IsEntering a R sources Negative n) old new none
        (gathers_then (IsNodeIn (partners_in sources n)) (BySome above (IsOfState a sources)) (IsEntering a R sources Negative n) old now new
        (gathers_append old (partners_in sources n) now first) then to from)
      where
        to : (i : ℕ) → IsNodeIn (partners_in sources n) i ⊎ BySome above (IsOfState a sources) i → IsEntering a R sources Negative n i
        to i (inl it) = inl it
        to i (inr (p, there, it)) = inr (p, (are p).0 there, it)

        from : (i : ℕ) → IsEntering a R sources Negative n i → IsNodeIn (partners_in sources n) i ⊎ BySome above (IsOfState a sources) i
        from i (inl it) = inl it
        from i (inr (p, related, it)) = inr (p, (are p).1 related, it)

    pub placed_made : (value : ℕ → ℕ) (p : Polarity) (s : ℕ) (old now new : List NodeId) → old ≡ [] → now ≡ old ++ parts_in sources s → Gathers (IsValued a value p s) now new
        → (i : ℕ) → IsNodeIn new i ↔ IsPlaced a sources value p s i
    placed_made value p s old now new none first then =
        gathered (IsPlaced a sources value p s) old new none
        (gathers_then (IsNodeIn (parts_in sources s)) (IsValued a value p s) (IsPlaced a sources value p s) old now new
        (gathers_append old (parts_in sources s) now first) then (λ i it. it) (λ i it. it))

  pub positive_valued : (value : ℕ → ℕ) (s : ℕ) → polarity_at a s ≡ Positive → (partners : List ℕ) → ((j : ℕ) → Contains partners j ↔ IsPartner a s j) → (old new : List NodeId)
      → Gathers (BySome partners (λ n i. value n ≡ i)) old new → Gathers (IsValued a value Positive s) old new
  positive_valued value s is partners are old new it =
      gathers_same (BySome partners (λ n i. value n ≡ i)) (IsValued a value Positive s) old new
      (λ i. (λ w. (w.0, partner_back s w.0 is ((are w.0).0 w.1), w.2), λ w. (w.0, (are w.0).1 (inr w.1), w.2))) it

  pub negative_valued : (value : ℕ → ℕ) (s : ℕ) (id : NodeId) → id.0 ≡ value s → (old new : List NodeId) → new ≡ old ++ id ∷ [] → Gathers (IsValued a value Negative s) old new
  negative_valued value s id of old new is =
      gathers_same (λ i. id.0 ≡ i) (IsValued a value Negative s) old new (λ i. (λ e. sym of ∙ e, λ e. of ∙ e)) (gathers_one old new id is)

-- the members of all these trees are low
module _ (a : Automaton) (sources : Sources) (start end : ℕ) (below : AreBelow sources start) (more : start ≤ end) where
  of_state_low : (p i : ℕ) → IsOfState a sources p i → i < end
  of_state_low p i (inl it) = let low : i < start = below.parts p i it in omega (arith, low, more)
  of_state_low p i (inr (k, edge, it)) = let low : i < start = below.partners k i it in omega (arith, low, more)

  pub entering_low : (R : ℕ → ℕ → Type 0) (p : Polarity) (n i : ℕ) → IsEntering a R sources p n i → i < end
  entering_low R Positive n i it = let low : sources.nothing.0 < start = below.nothing in omega (arith, low, more, it)
  entering_low R Negative n i (inl it) = let low : i < start = below.partners n i it in omega (arith, low, more)
  entering_low R Negative n i (inr (p, related, it)) = of_state_low p i it

  valued_low : (value : ℕ → ℕ) → ((n : ℕ) → value n < end) → (p : Polarity) (s i : ℕ) → IsValued a value p s i → i < end
  valued_low value values Positive s i (n, edge, e) = let low : value n < end = values n in omega (arith, low, e)
  valued_low value values Negative s i e = let low : value s < end = values s in omega (arith, low, e)

  pub placed_low : (value : ℕ → ℕ) → ((n : ℕ) → value n < end) → (p : Polarity) (s i : ℕ) → IsPlaced a sources value p s i → i < end
  placed_low value values p s i (inl it) = let low : i < start = below.parts s i it in omega (arith, low, more)
  placed_low value values p s i (inr it) = valued_low value values p s i it
