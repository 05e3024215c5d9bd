-- Constraints whose binders have fewer states, with the same types.
use Rattle.std.specs.Prelude.{◌≡◌, ◌≢◌, ◌↔◌, ℕ, ◌<◌, ◌≤◌, List, [], ◌∷◌, ◌++◌, length, get_or, Contains}
use Rattle.mls_book.specs.Predicates.{Predicate}
use Rattle.mls_automaton.specs.declared.automaton.Polarity.{Polarity}
use Rattle.mls_automaton.specs.declared.automaton.Polarity.TheVariants.{Positive, Negative}
use Rattle.mls_automaton.specs.declared.state_set.StateId.{StateId}
use Rattle.mls_automaton.specs.declared.scheme.EnvEntry.{EnvEntry}
use Rattle.mls_automaton.specs.Automata.{Automaton, HasFlow, head_at, IsState}
use Rattle.mls_automaton.specs.Environments.{BindersRise}
use Rattle.mls_automaton.specs.Models.{IsClosed}
use Rattle.mls_scheme.specs.steps.Meeting.{AddsMet}
use Rattle.mls_automaton.specs.declared.scheme.Scheme.{Scheme}
use Rattle.mls_automaton.specs.Schemes.{IsScheme}
use Rattle.mls_infer.specs.Constraints.{Constraint, HasOneState, HasStates, HasTypes, no_goals, states_of}

-- models of the two give the same types
abbrev pub HaveSameTypes : Constraint → Constraint → Type 0
HaveSameTypes c d = (types : ℕ → Predicate) (f : Predicate) → HasTypes c types f ↔ HasTypes d types f

-- the constraint over an automaton with these binders
abbrev pub over : Automaton → List EnvEntry → StateId → List (ℕ × ℕ) → Constraint
over a env root goals = record { scheme = record { automaton = a; env = env; root = root }; goals = goals }

-- each goal goes from a positive state to a negative one
abbrev pub AreBetween : Automaton → List (ℕ × ℕ) → Type 0
AreBetween a goals = (p n : ℕ) → Contains goals (p, n) → IsState a Positive p × IsState a Negative n

-- all states of binders are negative
abbrev pub AreNegative : Automaton → List EnvEntry → Type 0
AreNegative a env = (entry : EnvEntry) → Contains env entry → IsState a Negative entry.state.0

-- they ascend by their binders
abbrev pub BindersAscend : List EnvEntry → Type 0
BindersAscend env = (i j : ℕ) (d : EnvEntry) → i ≤ j → j < length env
    → (get_or env i d).binder ≤ (get_or env j d).binder

abbrev pub HasSameMembers : {A : Type 0} → List A → List A → Type 0
HasSameMembers xs ys = (x : _) → Contains xs x ↔ Contains ys x

-- The second automaton has further states behind those of the first. These have the heads and the edges that they had.
pub record IsExtended (a b : Automaton) : Type 0 where
  pub longer : length a.states ≤ length b.states
  pub heads : (s : ℕ) → s < length a.states → head_at b s ≡ head_at a s
  pub flows : (n p : ℕ) → n < length a.states → HasFlow b n p ↔ HasFlow a n p

-- The second automaton has the states of the first and more. Constraints over it, with the second entries, have the
-- same types as those over the first, with the first entries, whatever their other entries, their root and their goals.
pub record Merges (a : Automaton) (env : List EnvEntry) (b : Automaton) (fewer : List EnvEntry) : Type 0 where
  pub closed : IsClosed b
  pub extended : IsExtended a b
  pub states : (p : Polarity) (s : ℕ) → IsState a p s → IsState b p s
  pub negative : AreNegative b fewer
  pub types : (others : List EnvEntry) (root : StateId) (goals : List (ℕ × ℕ)) → AreNegative a others
      → IsState a Positive root.0 → AreBetween a goals
      → HaveSameTypes (over a (env ++ others) root goals) (over b (fewer ++ others) root goals)

-- A scheme in which each binder has one state, with the same types: it has further states behind those of the other. A
-- binder that has one state at most keeps it.
pub record IsMergedScheme (s m : Scheme) : Type 0 where
  pub is : IsScheme m
  pub rise : BindersRise m.env
  pub extended : IsExtended s.automaton m.automaton
  pub root : m.root ≡ s.root
  pub types : HaveSameTypes (no_goals s) (no_goals m)
  pub one : (x : ℕ) → HasOneState x s → states_of x m.env ≡ states_of x s.env

abbrev pub AreMergedSchemes : List Scheme → List Scheme → Type 0
AreMergedSchemes [] [] = Unit {0}
AreMergedSchemes (s ∷ ss) (m ∷ ms) = IsMergedScheme s m × AreMergedSchemes ss ms
AreMergedSchemes _ _ = ⊥

-- schemes with the same types, pair by pair
abbrev pub AreAlike : List Scheme → List Scheme → Type 0
AreAlike [] [] = Unit {0}
AreAlike (s ∷ ss) (t ∷ ts) = (HasStates t × HaveSameTypes (no_goals s) (no_goals t)) × AreAlike ss ts
AreAlike _ _ = ⊥

-- the new state has the combined head and all edges of the two
pub record IsMet (first second state : ℕ) (old new : Automaton) : Type 0 where
  pub is_last : state ≡ length old.states
  pub adds : AddsMet first second old new

-- the entries from the one place up to the other are those of one binder
pub record IsGroup (env : List EnvEntry) (start end : ℕ) : Type 0 where
  pub some : start < end
  pub within : end ≤ length env
  pub same : (k : ℕ) (d : EnvEntry) → start ≤ k → k < end → (get_or env k d).binder ≡ (get_or env start d).binder
  pub other : (d : EnvEntry) → end < length env → (get_or env end d).binder ≢ (get_or env start d).binder
