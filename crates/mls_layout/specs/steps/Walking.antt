-- Pairs of states that a walk meets, one after another.
use Rattle.std.specs.Prelude.{◌≡◌, ◌↔◌, ◌⊎◌, ℕ, ◌<◌, List, ◌++◌, length, get_or, Contains, IsTrue}
use Rattle.std.specs.Prelude.{Some}
use Rattle.std.specs.BTreeMap.{BTreeMap, get}
use Rattle.std.specs.BTreeSet.{BTreeSet, contains}
use Rattle.std.specs.Ordering.{nat_cmp}
use Rattle.mls_automaton.specs.declared.scheme.EnvEntry.{EnvEntry}
use Rattle.mls_automaton.specs.declared.scheme.Scheme.{Scheme}
use Rattle.mls_automaton.specs.Automata.{Automaton, head_at}
use Rattle.mls_deriv.specs.inner.Tables.{numbers_cmp}
use Rattle.mls_subsume.specs.declared.verdict.StatePair.{StatePair}
use Rattle.mls_subsume.specs.Walks.{IsIn}
use Rattle.mls_layout.specs.Walks.{AreAlike, IsEnd, IsMet, IsOfAny, IsOfHeads, IsThis}

abbrev pub pair_of : ℕ × ℕ → StatePair
pair_of pair = record { general = record { 0 = pair.0 }; special = record { 0 = pair.1 } }

-- the set has just these pairs
abbrev pub IsMarked : BTreeSet (ℕ × ℕ) → List StatePair → Type 0
IsMarked marked pairs = (g s : ℕ) → IsTrue (contains numbers_cmp marked (g, s)) ↔ IsIn pairs g s

-- Pairs are met behind those that were: just these.
pub record Meets (IsNew : ℕ → ℕ → Type 0) (old new : List StatePair) : Type 0 where
  pub more : List StatePair
  pub extends : new ≡ old ++ more
  pub there : (g s : ℕ) → IsNew g s → IsIn new g s
  pub back : (g s : ℕ) → IsIn new g s → IsIn old g s ⊎ IsNew g s

abbrev pub IsAlikeIn : Automaton → Automaton → List (ℕ × ℕ) → ℕ → ℕ → Type 0
IsAlikeIn a b pairs g s = Contains pairs (g, s) × AreAlike a b g s

abbrev pub IsThisAlike : Automaton → Automaton → ℕ × ℕ → ℕ → ℕ → Type 0
IsThisAlike a b pair g s = IsThis pair g s × AreAlike a b g s

-- Pairs of numbers are listed with those that were: just these.
abbrev pub Lists : (IsNew : ℕ → ℕ → Type 0) → (old new : List (ℕ × ℕ)) → Type 0
Lists IsNew old new = (g s : ℕ) → Contains new (g, s) ↔ (Contains old (g, s) ⊎ IsNew g s)

-- the states of binders by their numbers
abbrev pub AreStatesOf : List EnvEntry → BTreeMap ℕ ℕ → Type 0
AreStatesOf env states = (x s : ℕ) → (get nat_cmp states x ≡ Some s)
    ↔ ((entry : EnvEntry) × Contains env entry × (entry.binder ≡ x) × (entry.state.0 ≡ s))

-- the state of the entry's binder, with the state that the map has for it
abbrev pub IsOfEntry : BTreeMap ℕ ℕ → EnvEntry → ℕ → ℕ → Type 0
IsOfEntry states entry g s = (g ≡ entry.state.0) × (get nat_cmp states entry.binder ≡ Some s)

abbrev pub IsOfEntries : BTreeMap ℕ ℕ → List EnvEntry → ℕ → ℕ → Type 0
IsOfEntries states env = IsOfAny env (IsOfEntry states)

-- Pairs that are being met: the ends that are alike are there, and what is behind the first pairs.
pub record AreMeeting (general special : Scheme) (pairs : List StatePair) (place : ℕ) : Type 0 where
  pub ends : (g s : ℕ) → IsEnd general special g s → AreAlike general.automaton special.automaton g s → IsIn pairs g s
  pub behind : (k h t g s : ℕ) → k < place → k < length pairs → get_or pairs k (pair_of (h, t)) ≡ pair_of (h, t)
      → IsOfHeads (head_at general.automaton h) (head_at special.automaton t) g s
      → AreAlike general.automaton special.automaton g s → IsIn pairs g s
  pub back : (g s : ℕ) → IsIn pairs g s → IsMet general special g s
