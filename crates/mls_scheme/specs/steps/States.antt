-- The states of the scheme of a book, one after another.
use Rattle.std.specs.Prelude.{◌≡◌, ℕ, ◌<◌, List, [], length, map, Option, Some, None}
use Rattle.mls_book.specs.declared.book.Node.{Node}
use Rattle.mls_book.specs.Books.{node_at}
use Rattle.mls_automaton.specs.declared.automaton.Polarity.{Polarity}
use Rattle.mls_automaton.specs.declared.automaton.Polarity.TheVariants.{Positive}
use Rattle.mls_automaton.specs.declared.automaton.State.{State}
use Rattle.mls_automaton.specs.Automata.{Automaton, empty_head, state_at, with_state}
use Rattle.mls_automaton.specs.Heads.{combined, parts_of, IsSameParts}
use Rattle.mls_automaton.specs.Models.{HasRisingLabels}
use Rattle.mls_scheme.specs.ReadAutomata.{atom_parts, atoms}
use Rattle.mls_scheme.specs.steps.Signs.{sign_at}

-- the state of a top, with the combined head of its atoms
pub record IsTopState (nodes : List Node) (i : ℕ) (p : Polarity) (s : State) : Type 0 where
  pub polarity : s.polarity ≡ p
  pub head : IsSameParts (parts_of s.head) (combined p (map (λ j. atom_parts (node_at nodes j)) (atoms nodes i)))
  pub labels : HasRisingLabels s.head.fields

-- the state of a node, by its polarity if it is a top
abbrev pub IsNodeState : List Node → ℕ → Option Polarity → State → Type 0
IsNodeState nodes i None s = s ≡ record { polarity = Positive; head = empty_head }
IsNodeState nodes i (Some p) s = IsTopState nodes i p s

abbrev pub AddsNode : List Node → ℕ → Option Polarity → Automaton → Automaton → Type 0
AddsNode nodes i o old new = (s : State) × (new ≡ with_state old s) × IsNodeState nodes i o s

-- so many nodes have states
pub record AreStatesTo (n : ℕ) (nodes : List Node) (signs : List (Option Polarity)) (a : Automaton) : Type 0 where
  pub size : length a.states ≡ n
  pub no_flows : a.flows ≡ []
  pub state : (i : ℕ) → i < n → IsNodeState nodes i (sign_at signs i) (state_at a i)

-- all nodes have them
abbrev pub AreNodeStates : List Node → List (Option Polarity) → Automaton → Type 0
AreNodeStates nodes signs a = AreStatesTo (length nodes) nodes signs a
