-- The rows and columns of the first states of an automaton.
use Rattle.std.specs.Prelude.{◌≡◌, ◌↔◌, ℕ, ◌+◌, ◌<◌, [], take, length, count_by, Contains}
use Rattle.mls_automaton.specs.declared.automaton.Polarity.TheVariants.{Positive, Negative}
use Rattle.mls_automaton.specs.Automata.{Automaton, polarity_at}
use Rattle.mls_solver.specs.Rooms.{Room, is_positive, is_negative}

pub record AreNumbered (a : Automaton) (old : Room) (s : ℕ) (room : Room) : Type 0 where
  pub positives : room.positives ≡ old.positives
  pub negatives : room.negatives ≡ old.negatives
  pub empty : room.pairs ≡ []
  pub total : length room.rows + length room.columns ≡ s
  pub row_count : length room.rows ≡ count_by is_positive (take s a.states)
  pub column_count : length room.columns ≡ count_by is_negative (take s a.states)
  pub rows : (p : ℕ) → Contains room.rows p ↔ (p < s) × (polarity_at a p ≡ Positive)
  pub columns : (n : ℕ) → Contains room.columns n ↔ (n < s) × (polarity_at a n ≡ Negative)
