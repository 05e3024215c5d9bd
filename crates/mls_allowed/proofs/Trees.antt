-- Pairs of trees.
--     IsInside            below for positive places, above for negative places
--     only_inside         a tree is inside what all its members are inside
--     member_inside       what is inside a member is inside the tree
--     below_only, member_below    the same for meets, written as pairs
use Rattle.std.proofs.Common.{ℕ, Bool, List, subst, sym}
use Rattle.mls_book.specs.declared.book.Node.{Node}
use Rattle.mls_automaton.specs.declared.automaton.Polarity.{Polarity}
use Rattle.mls_automaton.specs.declared.automaton.Polarity.TheVariants.{Positive, Negative}
use Rattle.mls_deriv.specs.declared.derivation.Mode.{Mode}
use Rattle.mls_deriv.specs.declared.derivation.Mode.TheVariants.{Lr, Rl, Pp}
use Rattle.mls_deriv.specs.Pairs.{exchanged}
use Rattle.mls_deriv.specs.declared.claim.Put.{Put}
use Rattle.mls_layout.specs.Shown.{IsShown, bot_left, top_right, join_left, meet_right, meet_first, meet_second, join_first, join_second}
use Rattle.mls_layout.specs.Trees.{HasOnly, member, none, two, HasMember, here, first, second}

-- at a positive place the first node is below the second, at a negative place above it
abbrev pub IsInside : List Node → List Put → (base claims : Mode → ℕ → ℕ → Type 0) → Bool → Polarity → Mode → ℕ → ℕ → Type 0
IsInside book puts base claims level Positive mode i j = IsShown book puts base claims level mode i j
IsInside book puts base claims level Negative mode i j = IsShown book puts base claims level (exchanged mode) j i

module _ (book : List Node) (puts : List Put) (base claims : Mode → ℕ → ℕ → Type 0) (level : Bool) where
  abbrev Inside : Polarity → Mode → ℕ → ℕ → Type 0
  Inside = IsInside book puts base claims level

  pub only_inside : (p : Polarity) (mode : Mode) (Member : ℕ → Type 0) (i j : ℕ) → HasOnly book p Member i → ((k : ℕ) → Member k → Inside p mode k j) → Inside p mode i j
  only_inside p mode Member i j (member it) all = all i it
  only_inside Positive mode Member i j (none e) all = bot_left e
  only_inside Negative mode Member i j (none e) all = top_right e
  only_inside Positive mode Member i j (two l r e h k) all = join_left l r e (only_inside Positive mode Member l.0 j h all) (only_inside Positive mode Member r.0 j k all)
  only_inside Negative mode Member i j (two l r e h k) all = meet_right l r e (only_inside Negative mode Member l.0 j h all) (only_inside Negative mode Member r.0 j k all)

  pub member_inside : (p : Polarity) (mode : Mode) (i k j : ℕ) → HasMember book p k j → Inside p mode i k → Inside p mode i j
  member_inside p mode i k j (here e) inside = subst (Inside p mode i) (sym e) inside
  member_inside Positive mode i k j (first l r e h) inside = join_first l r e (member_inside Positive mode i k l.0 h inside)
  member_inside Negative mode i k j (first l r e h) inside = meet_first l r e (member_inside Negative mode i k l.0 h inside)
  member_inside Positive mode i k j (second l r e h) inside = join_second l r e (member_inside Positive mode i k r.0 h inside)
  member_inside Negative mode i k j (second l r e h) inside = meet_second l r e (member_inside Negative mode i k r.0 h inside)

  pub exchanged-back : (mode : Mode) (i j : ℕ) → IsShown book puts base claims level mode i j → Inside Negative (exchanged mode) j i
  exchanged-back Lr i j h = h
  exchanged-back Rl i j h = h
  exchanged-back Pp i j h = h

  pub exchanged-forth : (mode : Mode) (i j : ℕ) → Inside Negative (exchanged mode) j i → IsShown book puts base claims level mode i j
  exchanged-forth Lr i j h = h
  exchanged-forth Rl i j h = h
  exchanged-forth Pp i j h = h

  -- the same for meets, on the right side and on the left
  pub below_only : (mode : Mode) (Member : ℕ → Type 0) (i j : ℕ) → HasOnly book Negative Member j → ((k : ℕ) → Member k → IsShown book puts base claims level mode i k) → IsShown book puts base claims level mode i j
  below_only mode Member i j only all = exchanged-forth mode i j (only_inside Negative (exchanged mode) Member j i only (λ k it. exchanged-back mode i k (all k it)))

  pub member_below : (mode : Mode) (i k j : ℕ) → HasMember book Negative k i → IsShown book puts base claims level mode k j → IsShown book puts base claims level mode i j
  member_below mode i k j there h = exchanged-forth mode i j (member_inside Negative (exchanged mode) j k i there (exchanged-back mode k j h))
