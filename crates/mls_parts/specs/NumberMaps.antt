-- Maps from numbers, as lists of entries whose numbers rise. An entry whose item was taken out has none.
use Rattle.std.specs.Prelude.{◌≡◌, ℕ, ◌<◌, ◌≤◌, List, [], ◌∷◌, ◌++◌, length, slice_index_or, Option, Some, None}
use Rattle.std.specs.BTreeMap.{BTreeMap}
use Rattle.std_collections.specs.Layout.BTreeMap.{btree_map}
use mathlib.Core.Logic.{inl}

-- numbers with their items, which may be taken out
abbrev pub Entries : Type 0 → Type 0
Entries X = List (ℕ × Option X)

-- an entry before these, if it has an item
abbrev pub with_entry : {X : Type 0} → ℕ → Option X → List (ℕ × X) → List (ℕ × X)
with_entry k None es = es
with_entry k (Some x) es = (k, x) ∷ es

-- the entries that have an item
abbrev pub held : {X : Type 0} → Entries X → List (ℕ × X)
held [] = []
held (e ∷ es) = with_entry e.0 e.1 (held es)

-- the map that has these
abbrev pub map_of : {X : Type 0} → Entries X → BTreeMap ℕ X
map_of es = btree_map (held es) (inl tt)

-- the number of the entry at a place
abbrev pub number_of : {X : Type 0} → Entries X → ℕ → ℕ
number_of es i = let e = slice_index_or es i (0, None) in e.0

-- the numbers rise
abbrev pub AreRising : {X : Type 0} → Entries X → Type 0
AreRising es = (i j : ℕ) → i < j → j < length es → number_of es i < number_of es j

-- the entry at the place has the number
pub record IsAt {X : Type 0} (es : Entries X) (k i : ℕ) : Type 0 where
  pub in_range : i < length es
  pub has_number : number_of es i ≡ k

-- an entry of the number would go to the place: the numbers before it are smaller, and those from it on greater
pub record IsGapFor {X : Type 0} (es : Entries X) (k i : ℕ) : Type 0 where
  pub in_range : i ≤ length es
  pub smaller : (j : ℕ) → j < i → number_of es j < k
  pub greater : (j : ℕ) → i ≤ j → j < length es → k < number_of es j

-- the last entry has no item
abbrev pub EndsEmpty : {X : Type 0} → Entries X → Type 0
EndsEmpty {X} es = (front : Entries X) × (k : ℕ) × (es ≡ front ++ (k, None) ∷ [])
