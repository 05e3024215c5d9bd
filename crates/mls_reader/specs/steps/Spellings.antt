-- The order of names where they stand in a text.
use Rattle.std.specs.Prelude.{ℕ, List, length}
use Rattle.std.specs.Ordering.{nat_cmp, on, then_cmp}
use Rattle.std.specs.declared.cmp.Ordering.{Ordering}
use Rattle.std.specs.Cmp.Lexicographic.{slice_cmp}

-- shorter names first, and those of one length as in a dictionary
abbrev pub spelling_cmp : List ℕ → List ℕ → Ordering
spelling_cmp = then_cmp (on length nat_cmp) (slice_cmp nat_cmp)
