-- What holds of the parts of a set of numbers.
use Rattle.std.specs.Prelude.{◌≡◌, ℕ, ◌≤◌, ◌^◌, ◌==◌, Bool, false, List, length, take, get_or}
use Rattle.std.specs.List.{IsDistinct}
use Rattle.mls_solver.specs.steps.Among.{is_among}
use Rattle.mls_solver.specs.declared.cells.Cells.TheInside.{Inside}

-- The first so many of `order` are the members, each once. Those numbers are marked.
pub record AreCells (marks : List Bool) (order : List ℕ) (len : ℕ) : Type 0 where
  pub in_range : len ≤ length order
  pub same_length : length order ≡ length marks
  pub small : length marks ≤ 2 ^ 32
  pub distinct : IsDistinct (λ x y. x == y) (take len order)
  pub marked : (x : ℕ) → get_or marks x false ≡ is_among (take len order) x

abbrev pub IsCells : Inside → Type 0
IsCells a = AreCells a.marks.items a.order.items a.len
