-- Walks: pairs of states by which a general scheme subsumes a special one.
use Rattle.std.specs.Prelude.{ℕ, List, Contains}
use Rattle.mls_automaton.specs.declared.scheme.Scheme.{Scheme}
use Rattle.mls_automaton.specs.Automata.{polarity_at, head_at, HasFlow, IsState}
use Rattle.mls_automaton.specs.Heads.{parts_of}
use Rattle.mls_flow.specs.Simulations.{IsHeadWithin}
use Rattle.mls_flow.specs.Admissible.{IsAdmissible}
use Rattle.mls_subsume.specs.declared.verdict.StatePair.{StatePair}

abbrev pub pair : ℕ → ℕ → StatePair
pair g s = record { general = record { 0 = g }; special = record { 0 = s } }

abbrev pub IsIn : List StatePair → ℕ → ℕ → Type 0
IsIn pairs g s = Contains pairs (pair g s)

-- The pairs hold the roots, are of states of one polarity, and are closed under heads; and where the general scheme has
-- an edge, the special one admits a flow between all partners of its ends.
pub record IsWalk (general special : Scheme) (pairs : List StatePair) : Type 0 where
  pub roots : IsIn pairs general.root.0 special.root.0
  pub states : (g s : ℕ) → IsIn pairs g s → IsState special.automaton (polarity_at general.automaton g) s
  pub heads : (g s : ℕ) → IsIn pairs g s
      → IsHeadWithin (IsIn pairs) (polarity_at general.automaton g)
      (parts_of (head_at general.automaton g)) (parts_of (head_at special.automaton s))
  pub flows : (h g t s : ℕ) → HasFlow general.automaton h g → IsIn pairs h t → IsIn pairs g s
      → IsAdmissible special.automaton t s
