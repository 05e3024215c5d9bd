-- Some of the states of a table, as the list of their numbers.
use Rattle.std.proofs.Common.{◌≡◌, ◌↔◌, ℕ, Bool, true, false, List, [], ◌∷◌, ◌++◌, All, Contains, get_or, refl, ap, ◌∙◌}
use Rattle.std.proofs.lemmas.List.Elements.{All-map}
use Rattle.mls_automaton.specs.declared.state_set.StateId.{StateId}
use Rattle.mls_automaton.specs.Automata.{Automaton, HasFlow}
use Rattle.mls_automaton.specs.Reached.{Names}
use Rattle.mls_biunify.specs.Live.{IsRegion, numbers_in}

pub numbers-more : (old new : List StateId) (s : StateId) → new ≡ old ++ s ∷ [] → numbers_in new ≡ numbers_in old ++ s.0 ∷ []
numbers-more old new s e = ap numbers_in e ∙ go old
  where
    go : (xs : List StateId) → numbers_in (xs ++ s ∷ []) ≡ numbers_in xs ++ s.0 ∷ []
    go [] = refl
    go (x ∷ rest) = ap (λ ys. x.0 ∷ ys) (go rest)

-- these states are there
pub numbers-there : (there : List Bool) (states : List StateId) (list : List ℕ) → list ≡ numbers_in states → All (λ (s : StateId). get_or there s.0 false ≡ true) states → All (λ s. get_or there s false ≡ true) list
numbers-there there states list same all = rw same (All-map (λ s. get_or there s false ≡ true) (λ (s : StateId). s.0) states all)

pub region-heads : (a : Automaton) (states list : List ℕ) → list ≡ states → IsRegion a states → (s t : ℕ) → Names a s t → Contains list s ↔ Contains list t
region-heads a states list same region = rw same region.heads

pub region-flows : (a : Automaton) (states list : List ℕ) → list ≡ states → IsRegion a states → (n p : ℕ) → HasFlow a n p → Contains list n ↔ Contains list p
region-flows a states list same region = rw same region.flows
