-- What holds of a constraint while nodes are posed, and of the copies of known types in it.
use Rattle.std.specs.Prelude.{◌≡◌, ℕ, ◌<◌, ◌≤◌, ◌+◌, length, Contains, IsSome, Option, Some}
use Rattle.std.specs.BTreeMap.{get}
use Rattle.std.specs.Ordering.{nat_cmp}
use Rattle.mls_automaton.specs.declared.automaton.Polarity.TheVariants.{Negative, Positive}
use Rattle.mls_automaton.specs.declared.scheme.EnvEntry.{EnvEntry}
use Rattle.mls_automaton.specs.declared.scheme.Scheme.{Scheme}
use Rattle.mls_automaton.specs.Automata.{empty_head, head_at, state_at, HasFlow, IsState}
use Rattle.mls_automaton.specs.Embeddings.{renamed_state}
use Rattle.mls_automaton.specs.Models.{HasRisingLabels, HasStatesIn, IsClosed}
use Rattle.mls_solver.specs.declared.goal.Goal.{Goal}
use Rattle.mls_solver.specs.Relations.{IsGoalOf}
use Rattle.mls_term.specs.declared.term.TermForm.{TermForm}
use Rattle.mls_term.specs.declared.term.TermForm.TheVariants as form
use Rattle.mls_parts.specs.declared.pose.Need.{Need}
use Rattle.mls_parts.specs.declared.pose.Posing.{Posing}
use Rattle.mls_parts.specs.Posings.{binder_in, copied_need, root_in, size}

-- the branches of node `i`, which has a root, go into this negative state, which flows into the root
pub record IsResult (p : Posing) (i n : ℕ) : Type 0 where
  pub negative : IsState p.automaton Negative n
  pub rooted : IsSome (get nat_cmp p.roots i)
  pub flows : HasFlow p.automaton n (root_in p i)

-- All that heads and edges name is there, with the polarity of its place; goals go from positive to negative states;
-- roots are positive; binders have negative states without a head; and what is needed of them names states that are
-- there. Copies are noted of nodes with a root, and of a conditional the state that its branches go into.
pub record IsGood (p : Posing) : Type 0 where
  pub closed : IsClosed p.automaton
  pub goals : (g : Goal) → Contains p.goals g → IsGoalOf p.automaton g
  pub roots : (i s : ℕ) → get nat_cmp p.roots i ≡ Some s → IsState p.automaton Positive s
  pub binders : (x s : ℕ) → get nat_cmp p.binders x ≡ Some s → IsState p.automaton Negative s
  pub no_head : (x s : ℕ) → get nat_cmp p.binders x ≡ Some s → head_at p.automaton s ≡ empty_head
  pub needs : (need : Need) → Contains p.needs need → HasStatesIn (IsState p.automaton) Negative need.head
  pub labels : (need : Need) → Contains p.needs need → HasRisingLabels need.head.fields
  pub around : (need : Need) → Contains p.needs need → IsSome (get nat_cmp p.binders need.binder)
  pub copies : (i n : ℕ) → get nat_cmp p.copies i ≡ Some n → IsSome (get nat_cmp p.roots i)
  pub results : (i n : ℕ) → get nat_cmp p.results i ≡ Some n → IsResult p i n

-- the node has no root yet
abbrev pub IsNew : Posing → ℕ → Type 0
IsNew p i = IsSome (get nat_cmp p.roots i) → ⊥

-- The second constraint has all that the first one has.
pub record Extends (p q : Posing) : Type 0 where
  pub more : size p ≤ size q
  pub states : (s : ℕ) → s < size p → state_at q.automaton s ≡ state_at p.automaton s
  pub flows : (n s : ℕ) → HasFlow p.automaton n s → HasFlow q.automaton n s
  pub goals : (g : Goal) → Contains p.goals g → Contains q.goals g
  pub roots : (i s : ℕ) → get nat_cmp p.roots i ≡ Some s → get nat_cmp q.roots i ≡ Some s
  pub binders : q.binders ≡ p.binders
  pub needs : (need : Need) → Contains p.needs need → Contains q.needs need
  pub copies : (i n : ℕ) → get nat_cmp p.copies i ≡ Some n → get nat_cmp q.copies i ≡ Some n
  pub results : (i n : ℕ) → get nat_cmp p.results i ≡ Some n → get nat_cmp q.results i ≡ Some n

-- The states of the known type stand from n on, behind those of binders, with their heads and edges; the edges of its
-- binders go from those around, which need their heads.
pub record IsCopyAt (q : Posing) (s : Scheme) (n : ℕ) : Type 0 where
  pub inside : n + length s.automaton.states ≤ size q
  pub behind : (x m : ℕ) → get nat_cmp q.binders x ≡ Some m → m < n
  pub states : (k : ℕ) → k < length s.automaton.states
      → state_at q.automaton (n + k) ≡ renamed_state (λ j. n + j) (state_at s.automaton k)
  pub flows : (k l : ℕ) → HasFlow s.automaton k l → HasFlow q.automaton (n + k) (n + l)
  pub bound : (entry : EnvEntry) (l : ℕ) → Contains s.env entry → HasFlow s.automaton entry.state.0 l
      → HasFlow q.automaton (binder_in q entry.binder) (n + l)
  pub needs : (entry : EnvEntry) → Contains s.env entry → Contains q.needs (copied_need n s entry)

-- node `i` has a copy of the known type, whose first state is noted
pub record HasCopyAt (q : Posing) (i : ℕ) (s : Scheme) : Type 0 where
  pub first : ℕ
  pub noted : get nat_cmp q.copies i ≡ Some first
  pub stands : IsCopyAt q s first

-- a name has a copy of its known type, in which its root is the root, and a let one of that of its first part
module _ (known_global known_let : ℕ → Option Scheme) (q : Posing) (i : ℕ) where
  abbrev pub IsUsePosed : TermForm → Type 0
  IsUsePosed (form.Inner k) = (s : Scheme) × (known_let k ≡ Some s) × (has : HasCopyAt q i s)
      × (root_in q i ≡ has.first + s.root.0)
  IsUsePosed (form.Global g) = (s : Scheme) × (known_global g ≡ Some s) × (has : HasCopyAt q i s)
      × (root_in q i ≡ has.first + s.root.0)
  IsUsePosed (form.Let k j l) = (s : Scheme) × (known_let k ≡ Some s) × HasCopyAt q i s
  IsUsePosed _ = ⊥

-- a binder is there
abbrev pub HasBinder : Posing → ℕ → Type 0
HasBinder p x = IsSome (get nat_cmp p.binders x)

-- the binder of a function, a recursion or a use is there
abbrev pub HasBinderOf : Posing → TermForm → Type 0
HasBinderOf p (form.Bound x) = HasBinder p x
HasBinderOf p (form.Fun x j) = HasBinder p x
HasBinderOf p (form.Rec x j) = HasBinder p x
HasBinderOf p _ = Unit {0}
