-- The numbers of the nodes of functions and records.
use Rattle.std.specs.Prelude.{◌≡◌, ℕ, ◌<◌, ◌+◌, Bool, true, false, List, [], ◌∷◌, ◌++◌, length, get_or, is_some}
use Rattle.std.specs.Prelude.{Option, Some, None}
use Rattle.mls_book.specs.declared.book.NodeId.{NodeId}
use Rattle.mls_automaton.specs.declared.automaton.Head.{Head}
use Rattle.mls_automaton.specs.Automata.{Automaton, head_at}
use Rattle.mls_layout.specs.declared.layout.numbers.Owned.{Owned}
use Rattle.mls_layout.specs.steps.Sources.{count_if, own_before}

abbrev pub node_if : Bool → ℕ → Option NodeId
node_if true n = Some (record { 0 = n })
node_if false n = None

abbrev pub node_in : List (Option NodeId) → ℕ → Option NodeId
node_in nodes s = get_or nodes s None

-- the nodes of a head, of which its own ones have the numbers from this one on
abbrev pub function_at : ℕ → Head → Option NodeId
function_at first h = node_if (is_some h.function) first

abbrev pub record_at : ℕ → Head → Option NodeId
record_at first h = node_if (is_some h.fields) (first + count_if (is_some h.function))

-- those of one head more
pub record AddsNumbers (old new : Owned) (first : ℕ) (h : Head) : Type 0 where
  pub functions : new.functions ≡ old.functions ++ function_at first h ∷ []
  pub records : new.records ≡ old.records ++ record_at first h ∷ []

-- the functions and records of the first n states have the numbers from `start` up to `end`
pub record HasNumbers (a : Automaton) (start n end : ℕ) (own : Owned) : Type 0 where
  pub functions_size : length own.functions ≡ n
  pub records_size : length own.records ≡ n
  pub counted : end ≡ start + own_before a n
  pub functions : (s : ℕ) → s < n → node_in own.functions s ≡ function_at (start + own_before a s) (head_at a s)
  pub records : (s : ℕ) → s < n → node_in own.records s ≡ record_at (start + own_before a s) (head_at a s)

-- each state has the function and the record of its head, and the others have none
pub record AreOwned (a : Automaton) (start : ℕ) (own : Owned) : Type 0 where
  pub functions : (s : ℕ) → node_in own.functions s ≡ function_at (start + own_before a s) (head_at a s)
  pub records : (s : ℕ) → node_in own.records s ≡ record_at (start + own_before a s) (head_at a s)
