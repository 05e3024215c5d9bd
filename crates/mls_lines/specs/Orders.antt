-- Relations of nodes that justify themselves, one after the other.
use Rattle.std.specs.Prelude.{ℕ, zero, suc, List, []}
use Rattle.mls_book.specs.declared.book.Node.{Node}
use Rattle.mls_deriv.specs.declared.derivation.Mode.{Mode}
use Rattle.mls_deriv.specs.declared.derivation.Mode.TheVariants.{Lr, Rl, Pp}
use Rattle.mls_deriv.specs.declared.claim.Put.{Put}
use Rattle.mls_deriv.specs.Pairs.{IsJustified}

-- each claim is justified by other ones
abbrev pub JustifiesItself : List Node → List Put → (Mode → ℕ → ℕ → Type 0) → Type 0
JustifiesItself book puts claims = (mode : Mode) (i j : ℕ) → claims mode i j → IsJustified book puts claims mode i j

-- An order of nodes: no variable stands for another node, so all modes read alike.
abbrev pub IsOrder : List Node → (ℕ → ℕ → Type 0) → Type 0
IsOrder book Below = (i j : ℕ) → Below i j → IsJustified book [] (λ mode. Below) Lr i j

-- through a node between
abbrev pub Through : (First Second : ℕ → ℕ → Type 0) → ℕ → ℕ → Type 0
Through First Second i j = (k : ℕ) × First i k × Second k j

-- in so many steps, and one
abbrev pub InSteps : (ℕ → ℕ → Type 0) → ℕ → ℕ → ℕ → Type 0
InSteps Below zero = Below
InSteps Below (suc n) = Through Below (InSteps Below n)

abbrev pub InSomeSteps : (ℕ → ℕ → Type 0) → ℕ → ℕ → Type 0
InSomeSteps Below i j = (n : ℕ) × InSteps Below n i j

-- Claims, and then or before them an order on the side on which no variable stands for another node.
abbrev pub Along : (Mode → ℕ → ℕ → Type 0) → (ℕ → ℕ → Type 0) → Mode → ℕ → ℕ → Type 0
Along claims Below Lr = Through (claims Lr) Below
Along claims Below Rl = Through Below (claims Rl)
Along claims Below Pp = Below
