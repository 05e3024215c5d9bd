-- What copies of known types need of binders, met by the heads of their states.
use Rattle.std.specs.Prelude.{◌≡◌, ℕ, List, length, Contains}
use Rattle.std.specs.BTreeMap.{BTreeMap}
use Rattle.mls_book.specs.Predicates.{Predicate, Implies}
use Rattle.mls_automaton.specs.declared.automaton.Polarity.TheVariants.{Negative}
use Rattle.mls_automaton.specs.Automata.{Automaton, head_at, polarity_at, IsState}
use Rattle.mls_automaton.specs.Heads.{head_value, parts_of}
use Rattle.mls_automaton.specs.Models.{HasRisingLabels, HasStatesIn}
use Rattle.mls_flow.specs.Simulations.{IsHeadWithin}
use Rattle.mls_parts.specs.declared.pose.Need.{Need}
use Rattle.mls_parts.specs.Posings.{number_at}

abbrev pub IsSame : ℕ → ℕ → Type 0
IsSame x y = x ≡ y

-- the state of the binder that has a need
abbrev pub needy : BTreeMap ℕ ℕ → Need → ℕ
needy binders need = number_at binders need.binder

-- each need is of a binder with a negative state, and names states that are there
pub record AreNeeds (a : Automaton) (binders : BTreeMap ℕ ℕ) (needs : List Need) : Type 0 where
  pub negative : (need : Need) → Contains needs need → IsState a Negative (needy binders need)
  pub states : (need : Need) → Contains needs need → HasStatesIn (IsState a) Negative need.head
  pub labels : (need : Need) → Contains needs need → HasRisingLabels need.head.fields

-- The second automaton is the first, but that the heads of the states of binders have what these needs ask for: they
-- name no other states, and what lies below a head and below the needs of its state lies below its new head.
pub record HasMet (binders : BTreeMap ℕ ℕ) (needs : List Need) (a b : Automaton) : Type 0 where
  pub same_length : length b.states ≡ length a.states
  pub polarity : (s : ℕ) → polarity_at b s ≡ polarity_at a s
  pub flows : b.flows ≡ a.flows
  pub others : (s : ℕ) → ((need : Need) → Contains needs need → needy binders need ≡ s → ⊥) → head_at b s ≡ head_at a s
  pub needed : (need : Need) → Contains needs need
      → IsHeadWithin IsSame Negative (parts_of need.head) (parts_of (head_at b (needy binders need)))
  pub states : (s : ℕ) → HasStatesIn (IsState a) (polarity_at a s) (head_at b s)
  pub labels : (s : ℕ) → HasRisingLabels (head_at b s).fields
  pub below : (value : ℕ → Predicate) (s : ℕ) (f : Predicate) → Implies f (head_value Negative value (head_at a s))
      → ((need : Need) → Contains needs need → needy binders need ≡ s → Implies f (head_value Negative value need.head))
      → Implies f (head_value Negative value (head_at b s))
