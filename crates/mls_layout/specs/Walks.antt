-- The pairs of states of two schemes that are met from their ends.
use Rattle.std.specs.Prelude.{◌≡◌, ◌↔◌, ◌⊎◌, ℕ, ◌<◌, List, length, Contains}
use Rattle.std.specs.Prelude.{Option, Some, None}
use Rattle.mls_automaton.specs.declared.automaton.Arms.{Arms}
use Rattle.mls_automaton.specs.declared.automaton.FieldSet.{FieldSet}
use Rattle.mls_automaton.specs.declared.automaton.Head.{Head}
use Rattle.mls_automaton.specs.declared.scheme.Scheme.{Scheme}
use Rattle.mls_automaton.specs.Automata.{Automaton, head_at, polarity_at}
use Rattle.mls_automaton.specs.Heads.{set_at}
use Rattle.mls_automaton.specs.Schemes.{state_of}
use Rattle.mls_subsume.specs.declared.verdict.StatePair.{StatePair}
use Rattle.mls_subsume.specs.Walks.{IsIn}

-- both states are there, and they have one polarity
pub record AreAlike (a b : Automaton) (s t : ℕ) : Type 0 where
  pub general : s < length a.states
  pub special : t < length b.states
  pub polarity : polarity_at a s ≡ polarity_at b t

abbrev pub IsPairAlike : Automaton → Automaton → StatePair → Type 0
IsPairAlike a b pair = AreAlike a b pair.general.0 pair.special.0

-- one pair, and those of a list that are alike
abbrev pub IsThis : ℕ × ℕ → ℕ → ℕ → Type 0
IsThis pair g s = (g ≡ pair.0) × (s ≡ pair.1)

-- what some member of the list gives
abbrev pub IsOfAny : {X : Type 0} → List X → (X → ℕ → ℕ → Type 0) → ℕ → ℕ → Type 0
IsOfAny {X} xs Gives g s = (x : X) × Contains xs x × Gives x g s

-- each state of the one set with each of the other
abbrev pub IsOfSets : (general special : List ℕ) → ℕ → ℕ → Type 0
IsOfSets general special g s = Contains general g × Contains special s

-- what two functions name in the same place, what two records name at a label that both have, and what two heads do
abbrev pub IsOfArms : Arms → Arms → ℕ → ℕ → Type 0
IsOfArms arms others g s = IsOfSets arms.domain others.domain g s ⊎ IsOfSets arms.codomain others.codomain g s

abbrev pub IsOfSet : Option (List ℕ) → List ℕ → ℕ → ℕ → Type 0
IsOfSet None set g s = ⊥
IsOfSet (Some general) set g s = IsOfSets general set g s

abbrev pub IsOfField : List FieldSet → FieldSet → ℕ → ℕ → Type 0
IsOfField fields field g s = IsOfSet (set_at fields field.label) field.set g s

abbrev pub IsOfFields : List FieldSet → List FieldSet → ℕ → ℕ → Type 0
IsOfFields fields others = IsOfAny others (IsOfField fields)

abbrev pub IsOfFunctions : Option Arms → Option Arms → ℕ → ℕ → Type 0
IsOfFunctions (Some arms) (Some others) g s = IsOfArms arms others g s
IsOfFunctions _ _ g s = ⊥

abbrev pub IsOfRecords : Option (List FieldSet) → Option (List FieldSet) → ℕ → ℕ → Type 0
IsOfRecords (Some fields) (Some others) g s = IsOfFields fields others g s
IsOfRecords _ _ g s = ⊥

abbrev pub IsOfHeads : Head → Head → ℕ → ℕ → Type 0
IsOfHeads h k g s = IsOfFunctions h.function k.function g s ⊎ IsOfRecords h.fields k.fields g s

-- the roots, and the states of each binder that both schemes have
abbrev pub IsEnd : Scheme → Scheme → ℕ → ℕ → Type 0
IsEnd general special g s = IsThis (general.root.0, special.root.0) g s
    ⊎ ((x : ℕ) × (state_of general.env x ≡ Some g) × (state_of special.env x ≡ Some s))

-- the pairs that are met from the ends, through what both heads name in the same place, as far as they are alike
pub data IsMet (general special : Scheme) : ℕ → ℕ → Type 0 where
  end : {g s : ℕ} → IsEnd general special g s → AreAlike general.automaton special.automaton g s
      → IsMet general special g s
  behind : {g s : ℕ} (h t : ℕ) → IsMet general special h t
      → IsOfHeads (head_at general.automaton h) (head_at special.automaton t) g s
      → AreAlike general.automaton special.automaton g s → IsMet general special g s

-- they are just those that are met
abbrev pub AreMet : Scheme → Scheme → List StatePair → Type 0
AreMet general special pairs = (g s : ℕ) → IsIn pairs g s ↔ IsMet general special g s
