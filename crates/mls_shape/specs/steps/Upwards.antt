-- Classes of states whose heads name alone later states, and states whose heads name none, from the last state to the
-- first.
use Rattle.std.specs.Prelude.{◌≡◌, ◌⊎◌, ◌&&◌, ℕ, ◌<◌, ◌≤◌, ◌+◌, Bool, true, List, length, set, get_or, is_none, Option, Some, None}
use Rattle.std.specs.BTreeMap.{BTreeMap, get}
use Rattle.std.specs.Ordering.{nat_cmp}
use Rattle.std.specs.Cmp.Lexicographic.{slice_cmp}
use Rattle.mls_automaton.specs.declared.automaton.Head.{Head}
use Rattle.mls_automaton.specs.Automata.{Automaton, polarity_at, head_at}
use Rattle.mls_automaton.specs.Models.{HasStatesIn}
use Rattle.mls_shape.specs.steps.Classes.{class_in, IsKeyOf}

-- whether a head names no state
abbrev pub names_none : Head → Bool
names_none h = is_none h.function && is_none h.fields

-- whether the head of a state names none
abbrev pub is_leaf : Automaton → ℕ → Bool
is_leaf a s = names_none (head_at a s)

-- the state comes later, or its head names none
abbrev pub StandsBehind : Automaton → ℕ → ℕ → Type 0
StandsBehind a s c = (s < c) ⊎ (is_leaf a c ≡ true)

-- each head names such states alone
abbrev pub NamesLater : Automaton → Type 0
NamesLater a = (s : ℕ) → s < length a.states
    → HasStatesIn (λ q c. StandsBehind a s c) (polarity_at a s) (head_at a s)

-- the key has this number from now on, and others keep theirs
pub record Knows (key : List ℕ) (number : ℕ) (old new : BTreeMap (List ℕ) ℕ) : Type 0 where
  pub now : get (slice_cmp nat_cmp) new key ≡ Some number
  pub kept : (other : List ℕ) (n : ℕ) → get (slice_cmp nat_cmp) old other ≡ Some n → get (slice_cmp nat_cmp) new other ≡ Some n

-- these states have the classes of their keys
pub record AreKeyed (a : Automaton) (IsDone : ℕ → Type 0) (classes : List ℕ) (known : BTreeMap (List ℕ) ℕ) : Type 0 where
  pub size : length classes ≡ length a.states
  pub keyed : (s : ℕ) → s < length a.states → IsDone s
      → (key : List ℕ) × IsKeyOf a (class_in classes) s key
      × (get (slice_cmp nat_cmp) known key ≡ Some (class_in classes s))

-- the head of the state names none, and it is one of the first k
abbrev pub IsLeafBelow : Automaton → ℕ → ℕ → Type 0
IsLeafBelow a k s = (is_leaf a s ≡ true) × (s < k)

-- the head of the state names none, or it is one of the last k
abbrev pub IsLeafOrLast : Automaton → ℕ → ℕ → Type 0
IsLeafOrLast a k s = (is_leaf a s ≡ true) ⊎ (length a.states ≤ s + k)

-- the state gets the class of its key
pub record Classifies (a : Automaton) (s : ℕ) (old : List ℕ) (known : BTreeMap (List ℕ) ℕ) (new : List ℕ)
    (known' : BTreeMap (List ℕ) ℕ) : Type 0 where
  pub key : List ℕ
  pub class : ℕ
  pub has : IsKeyOf a (class_in old) s key
  pub knows : Knows key class known known'
  pub stored : new ≡ set old s class

-- the class has this number from now on, and others keep theirs
pub record NumbersClass (class number : ℕ) (old new : List (Option ℕ)) : Type 0 where
  pub now : get_or new class None ≡ Some number
  pub kept : (other n : ℕ) → get_or old other None ≡ Some n → get_or new other None ≡ Some n

-- the first k states have the numbers of their classes
pub record AreInOrder (k : ℕ) (classes : List ℕ) (numbers : List (Option ℕ)) (ordered : List ℕ) : Type 0 where
  pub size : length ordered ≡ k
  pub numbered : (s : ℕ) → s < k → get_or numbers (class_in classes s) None ≡ Some (class_in ordered s)

-- among the first n states, those of one class have one number
pub record AreJoined (n : ℕ) (classes ordered : List ℕ) : Type 0 where
  pub size : length ordered ≡ n
  pub same : (i j : ℕ) → i < n → j < n → class_in classes i ≡ class_in classes j
      → class_in ordered i ≡ class_in ordered j

-- the numbers from 0 on
pub record AreCounted (n : ℕ) (counted : List ℕ) : Type 0 where
  pub size : length counted ≡ n
  pub own : (k : ℕ) → k < n → class_in counted k ≡ k
