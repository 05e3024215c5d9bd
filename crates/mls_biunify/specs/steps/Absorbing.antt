-- States that come into a table, and the copy that they become.
use Rattle.std.specs.Prelude.{◌≡◌, ◌≢◌, ◌↔◌, ◌⊎◌, ℕ, ◌<◌, true, false, List, length, get_or, Contains}
use Rattle.mls_automaton.specs.declared.automaton.Head.{Head}
use Rattle.mls_automaton.specs.declared.automaton.Flow.{Flow}
use Rattle.mls_automaton.specs.Automata.{Automaton, HasFlow, empty_head, head_at, polarity_at, state_at}
use Rattle.mls_automaton.specs.Embeddings.{renamed_head, renamed_state}
use Rattle.mls_automaton.specs.Reached.{Names}
use Rattle.mls_biunify.specs.Live.{IsCopiedFlow, number_of}
use Rattle.mls_biunify.specs.steps.Tables.{Numbered}

-- each number is another one
abbrev pub AreDistinct : List ℕ → Type 0
AreDistinct numbers = (i j : ℕ) → i < j → j < length numbers → get_or numbers i 0 ≢ get_or numbers j 0

-- the same numbers, states and edges
pub record IsSameTable (old new : Numbered) : Type 0 where
  pub there : (s : ℕ) → get_or new.there s false ≡ get_or old.there s false
  pub states : (s : ℕ) → state_at new.automaton s ≡ state_at old.automaton s
  pub flows : (n p : ℕ) → HasFlow new.automaton n p ↔ HasFlow old.automaton n p

abbrev pub AreEmpty : Numbered → List ℕ → Type 0
AreEmpty t states = (s : ℕ) → Contains states s → head_at t.automaton s ≡ empty_head

-- just these states came, without heads and under numbers that were free
pub record Claims (old new : Numbered) (numbers : List ℕ) : Type 0 where
  pub were_free : (j : ℕ) → Contains numbers j → get_or old.there j false ≡ false
  pub there : (j : ℕ) → get_or new.there j false ≡ true ↔ (get_or old.there j false ≡ true) ⊎ Contains numbers j
  pub empty : AreEmpty new numbers
  pub others : (j : ℕ) → get_or old.there j false ≡ true → state_at new.automaton j ≡ state_at old.automaton j
  pub flows : (n p : ℕ) → HasFlow new.automaton n p ↔ HasFlow old.automaton n p

-- these states are there, no head of a state that is there names one of them, and no edge begins or ends at one
pub record AreLoose (t : Numbered) (states : List ℕ) : Type 0 where
  pub there : (s : ℕ) → Contains states s → get_or t.there s false ≡ true
  pub unnamed : (j s : ℕ) → get_or t.there j false ≡ true → Contains states s → Names t.automaton j s → ⊥
  pub unlinked : (n p : ℕ) → HasFlow t.automaton n p → (Contains states n → ⊥) × (Contains states p → ⊥)

-- the first of these states have the polarities of those of the automaton, and all else stays
pub record AreSigned (old : Numbered) (a : Automaton) (numbers : List ℕ) (count : ℕ) (new : Numbered) : Type 0 where
  pub there : new.there ≡ old.there
  pub flows : new.automaton.flows ≡ old.automaton.flows
  pub signed : (i : ℕ) → i < count → polarity_at new.automaton (number_of numbers i) ≡ polarity_at a i
  pub heads : (j : ℕ) → head_at new.automaton j ≡ head_at old.automaton j
  pub others : (j : ℕ) → (Contains numbers j → ⊥) → state_at new.automaton j ≡ state_at old.automaton j

-- the heads of the first states under the new numbers
abbrev pub renamed_at : Automaton → List ℕ → ℕ → ℕ × Head
renamed_at a numbers i = (number_of numbers i, renamed_head (number_of numbers) (head_at a i))

abbrev pub AreRenamedHeads : Automaton → List ℕ → ℕ → List (ℕ × Head) → Type 0
AreRenamedHeads a numbers count heads =
    (x : ℕ × Head) → Contains heads x ↔ ((i : ℕ) × (i < count) × (renamed_at a numbers i ≡ x))

-- the edge under the new numbers
abbrev pub renamed_pair : List ℕ → Flow → ℕ × ℕ
renamed_pair numbers f = (number_of numbers f.negative.0, number_of numbers f.positive.0)

-- these states are a copy of the automaton, and all else stays
pub record Fills (old new : Numbered) (a : Automaton) (numbers : List ℕ) : Type 0 where
  pub there : new.there ≡ old.there
  pub copies : (i : ℕ) → i < length a.states
      → state_at new.automaton (number_of numbers i) ≡ renamed_state (number_of numbers) (state_at a i)
  pub others : (j : ℕ) → (Contains numbers j → ⊥) → state_at new.automaton j ≡ state_at old.automaton j
  pub flows : (n p : ℕ) → HasFlow new.automaton n p ↔ HasFlow old.automaton n p ⊎ IsCopiedFlow a numbers n p

-- these states have no heads, and all else stays
pub record AreUnfilled (old new : Numbered) (numbers : List ℕ) : Type 0 where
  pub there : new.there ≡ old.there
  pub empty : AreEmpty new numbers
  pub others : (j : ℕ) → (Contains numbers j → ⊥) → state_at new.automaton j ≡ state_at old.automaton j
  pub flows : (n p : ℕ) → HasFlow new.automaton n p ↔ HasFlow old.automaton n p

-- a copy of the automaton came, under numbers that were free; all else stays
pub record AddsCopy (old new : Numbered) (a : Automaton) (numbers : List ℕ) : Type 0 where
  pub were_free : (j : ℕ) → Contains numbers j → get_or old.there j false ≡ false
  pub there : (j : ℕ) → get_or new.there j false ≡ true ↔ (get_or old.there j false ≡ true) ⊎ Contains numbers j
  pub copies : (i : ℕ) → i < length a.states
      → state_at new.automaton (number_of numbers i) ≡ renamed_state (number_of numbers) (state_at a i)
  pub others : (j : ℕ) → get_or old.there j false ≡ true → state_at new.automaton j ≡ state_at old.automaton j
  pub flows : (n p : ℕ) → HasFlow new.automaton n p ↔ HasFlow old.automaton n p ⊎ IsCopiedFlow a numbers n p

-- just these states are gone
pub record RemovesStates (old : Numbered) (states : List ℕ) (new : Numbered) : Type 0 where
  pub there : (j : ℕ) → get_or new.there j false ≡ true ↔ ((get_or old.there j false ≡ true) × (Contains states j → ⊥))
  pub others : (j : ℕ) → (Contains states j → ⊥) → state_at new.automaton j ≡ state_at old.automaton j
  pub flows : new.automaton.flows ≡ old.automaton.flows
