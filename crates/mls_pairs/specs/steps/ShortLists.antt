-- Lists that are kept in one of two places.
use Rattle.std.specs.Prelude.{List, [], ◌∷◌}

-- the items are in the second place where there is one
abbrev pub short_items : {X : Type 0} → List X → List X → List X
short_items few [] = few
short_items few (x ∷ xs) = x ∷ xs
