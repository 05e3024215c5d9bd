-- Environments of steps: the binders around a node, each with the node of its state.
use Rattle.std.specs.Prelude.{ℕ, List, map}
use Rattle.mls_deriv.specs.declared.derivation.BinderNode.{BinderNode}
use Rattle.mls_layout.specs.Runs.{id}

abbrev pub entry : ℕ → ℕ → BinderNode
entry x i = record { binder = x; node = id i }

-- these binders, from the outermost on
abbrev pub entries : (node : ℕ → ℕ) → List ℕ → List BinderNode
entries node scope = map (λ x. entry x (node x)) scope
