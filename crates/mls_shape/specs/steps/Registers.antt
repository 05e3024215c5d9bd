-- How sets of states of one polarity get their numbers.
use Rattle.std.specs.Prelude.{◌≡◌, ◌≢◌, ℕ, zero, suc, ◌<◌, ◌≤◌, List, [], ◌∷◌, ◌++◌, length, map, get_or, All, Option, Some, None}
use Rattle.std.specs.BTreeMap.{get}
use Rattle.std.specs.Ordering.{nat_cmp}
use Rattle.std.specs.Cmp.Lexicographic.{slice_cmp}
use Rattle.mls_automaton.specs.declared.automaton.Polarity.{Polarity}
use Rattle.mls_automaton.specs.declared.automaton.Polarity.TheVariants.{Positive, Negative}
use Rattle.mls_automaton.specs.Sets.{Rises}
use Rattle.mls_shape.specs.declared.register.SetState.{SetState}
use Rattle.mls_shape.specs.declared.register.Register.{Register}

-- the key of a set: the number of its polarity, then its members
abbrev pub sign : Polarity → ℕ
sign Positive = 0
sign Negative = 1

abbrev pub key_of : Polarity → List ℕ → List ℕ
key_of p members = sign p ∷ members

abbrev pub key_in : SetState → List ℕ
key_in set = key_of set.polarity set.members

abbrev pub sets_in : Register → List SetState
sets_in register = register.sets.items

abbrev pub keys_in : Register → List (List ℕ)
keys_in register = map key_in (sets_in register)

-- the key of a number
abbrev pub key_at : List (List ℕ) → ℕ → List ℕ
key_at keys n = get_or keys n []

-- the number of the set of one state of this polarity alone
abbrev pub single_in : Register → Polarity → ℕ → Option ℕ
single_in register Positive s = get_or register.positive s None
single_in register Negative s = get_or register.negative s None

-- the number of the set with this key
abbrev pub number_in : Register → List ℕ → Option ℕ
number_in register (zero ∷ s ∷ []) = single_in register Positive s
number_in register (suc zero ∷ s ∷ []) = single_in register Negative s
number_in register key = get (slice_cmp nat_cmp) register.numbers key

-- the state has this number, and the others are as before
pub record PutsNumber (s number : ℕ) (old new : List (Option ℕ)) : Type 0 where
  pub here : get_or new s None ≡ Some number
  pub others : (t : ℕ) → t ≢ s → get_or new t None ≡ get_or old t None

-- the set of one state of this polarity has this number, and all else is as before
pub record PutsSingle (p : Polarity) (s number : ℕ) (old new : Register) : Type 0 where
  pub here : single_in new p s ≡ Some number
  pub others : (q : Polarity) (t : ℕ) → ((q ≡ p) → (t ≡ s) → ⊥) → single_in new q t ≡ single_in old q t
  pub sets : new.sets ≡ old.sets
  pub numbers : new.numbers ≡ old.numbers

-- each set rises, and has its place as its number
pub record IsRegister (register : Register) : Type 0 where
  pub rising : All (λ set. Rises set.members) (sets_in register)
  pub numbered : (n : ℕ) → n < length (keys_in register) → number_in register (key_at (keys_in register) n) ≡ Some n
  pub found : (key : List ℕ) (n : ℕ) → number_in register key ≡ Some n
      → (n < length (keys_in register)) × (key_at (keys_in register) n ≡ key)

-- the set of this number has this polarity and these members
abbrev pub IsAt : List SetState → ℕ → Polarity → List ℕ → Type 0
IsAt sets n p members = (n < length sets)
    × ((d : SetState) → get_or sets n d ≡ record { polarity = p; members = members })

-- sets came behind those that were there, and the numbers of all new ones are such
pub record Grows (IsSuch : ℕ → Type 0) (old new : List SetState) : Type 0 where
  pub more : List SetState
  pub grown : new ≡ old ++ more
  pub such : (k : ℕ) → length old ≤ k → k < length new → IsSuch k

-- the number of the set of these members
pub record Numbers (p : Polarity) (members : List ℕ) (old new : List SetState) (n : ℕ) : Type 0 where
  pub grows : Grows (λ k. k ≡ n) old new
  pub at : IsAt new n p members
