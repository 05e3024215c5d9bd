-- Names with their numbers, which are their places.
use Rattle.std.specs.Prelude.{◌≡◌, ℕ, suc, cond, List, [], ◌∷◌, ◌++◌, if◌then◌else◌, bytes_eq}
use Rattle.std.specs.Prelude.{Option, Some, None, option_map}
use Rattle.std.specs.List.{list_any}
use Rattle.std.specs.BTreeMap.{BTreeMap, get}
use Rattle.std.specs.Ordering.{nat_cmp}
use Rattle.std.specs.Cmp.Lexicographic.{slice_cmp}

-- one name more, unless it is there
abbrev pub with_name : List (List ℕ) → List ℕ → List (List ℕ)
with_name names x = if list_any (bytes_eq x) names then names else names ++ x ∷ []

-- the place of a name, where it has one
abbrev pub number_in : List (List ℕ) → List ℕ → Option ℕ
number_in [] x = None
number_in (y ∷ names) x = cond (bytes_eq x y) (Some 0) (option_map suc (number_in names x))

-- the map has the place of each name
abbrev pub AreNumbers : List (List ℕ) → BTreeMap (List ℕ) ℕ → Type 0
AreNumbers names numbers = (x : List ℕ) → get (slice_cmp nat_cmp) numbers x ≡ number_in names x
