-- The order of types.
use Rattle.std.specs.Prelude.{ℕ, List}
use Rattle.mls_book.specs.declared.book.Node.{Node}
use Rattle.mls_book.specs.Predicates.{Implies}
use Rattle.mls_book.specs.Passes.{passes}

-- node i of the one book is below node j of the other: j passes every test that i passes
abbrev pub IsBelow : List Node → ℕ → List Node → ℕ → Type 0
IsBelow b i c j = Implies (passes b i) (passes c j)

-- each is below the other
abbrev pub AreEqual : List Node → ℕ → List Node → ℕ → Type 0
AreEqual b i c j = IsBelow b i c j × IsBelow c j b i
