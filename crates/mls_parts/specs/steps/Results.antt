-- Steps by which nodes are posed.
use Rattle.std.specs.Prelude.{◌≡◌, ◌⊎◌, ◌↔◌, ℕ, suc, ◌+◌, [], ◌∷◌, ◌++◌}
use Rattle.mls_automaton.specs.declared.automaton.Polarity.{Polarity}
use Rattle.mls_automaton.specs.declared.automaton.Polarity.TheVariants.{Negative}
use Rattle.mls_automaton.specs.declared.scheme.EnvEntry.{EnvEntry}
use Rattle.mls_automaton.specs.declared.scheme.Scheme.{Scheme}
use Rattle.mls_automaton.specs.Automata.{empty_head, head_at, HasFlow, IsState}
use Rattle.mls_automaton.specs.Models.{IsClosed}
use Rattle.mls_parts.specs.declared.pose.Posing.{Posing}
use Rattle.mls_parts.specs.Posings.{IsBinderEdge, OneEdge, binder_in, copied_need, negative, positive, size}

-- The second constraint has a positive state and a negative one more, which flows into it.
pub record HasResult (p q : Posing) : Type 0 where
  pub states : q.automaton.states ≡ p.automaton.states ++ positive empty_head ∷ negative empty_head ∷ []
  pub flows : (n s : ℕ) → HasFlow q.automaton n s ↔ (HasFlow p.automaton n s ⊎ OneEdge (suc (size p)) (size p) n s)
  pub goals : q.goals ≡ p.goals
  pub needs : q.needs ≡ p.needs
  pub roots : q.roots ≡ p.roots
  pub binders : q.binders ≡ p.binders
  pub copies : q.copies ≡ p.copies
  pub results : q.results ≡ p.results

-- The second constraint has these edges more.
pub record AddsEdges (p q : Posing) (IsEdge : ℕ → ℕ → Type 0) : Type 0 where
  pub states : q.automaton.states ≡ p.automaton.states
  pub flows : (n s : ℕ) → HasFlow q.automaton n s ↔ (HasFlow p.automaton n s ⊎ IsEdge n s)
  pub goals : q.goals ≡ p.goals
  pub needs : q.needs ≡ p.needs
  pub roots : q.roots ≡ p.roots
  pub binders : q.binders ≡ p.binders
  pub copies : q.copies ≡ p.copies
  pub results : q.results ≡ p.results

-- the copy of the known type stands from state n on, and the binder is around
pub record CanBind (p : Posing) (n : ℕ) (known : Scheme) (entry : EnvEntry) : Type 0 where
  pub binder : IsState p.automaton Negative (binder_in p entry.binder)
  pub closed : IsClosed known.automaton
  pub state : IsState known.automaton Negative entry.state.0
  pub above : (q : Polarity) (k : ℕ) → IsState known.automaton q k → IsState p.automaton q (n + k)
  pub head : head_at p.automaton (n + entry.state.0) ≡ (copied_need n known entry).head

-- the second constraint has the edges and the need of this binder more
pub record Binds (p q : Posing) (n : ℕ) (known : Scheme) (entry : EnvEntry) : Type 0 where
  pub states : q.automaton.states ≡ p.automaton.states
  pub flows : (m r : ℕ) → HasFlow q.automaton m r
      ↔ (HasFlow p.automaton m r ⊎ IsBinderEdge n (binder_in p) known entry m r)
  pub goals : q.goals ≡ p.goals
  pub needs : q.needs ≡ p.needs ++ copied_need n known entry ∷ []
  pub roots : q.roots ≡ p.roots
  pub binders : q.binders ≡ p.binders
  pub copies : q.copies ≡ p.copies
  pub results : q.results ≡ p.results
