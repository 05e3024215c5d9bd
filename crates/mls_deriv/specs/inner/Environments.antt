-- Environments that are kept in one of two places.
use Rattle.std.specs.Prelude.{ℕ, List, [], ◌∷◌, Option, Some, None, nat_lt, cond}
use Rattle.mls_deriv.specs.declared.derivation.BinderNode.{BinderNode}

-- the entries are those that are shared, where there are such
abbrev pub entries_of : (own : List BinderNode) → (shared : Option (List BinderNode)) → List BinderNode
entries_of own (Some shared) = shared
entries_of own None = own

-- the higher of two numbers
abbrev pub higher : ℕ → ℕ → ℕ
higher m n = cond (nat_lt m n) n m

-- the highest node, 0 where there is none
abbrev pub top_node : List BinderNode → ℕ
top_node [] = 0
top_node (entry ∷ rest) = higher entry.node.0 (top_node rest)
