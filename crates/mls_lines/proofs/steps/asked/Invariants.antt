use Rattle.std.proofs.Common.{◌≡◌, ◌∷◌, take}
use Rattle.std.specs.List.{flat_map}
use Rattle.mls_deriv.specs.declared.derivation.Mode.TheVariants.{Lr}
use Rattle.mls_deriv.specs.Steps.{IsRising}
use Rattle.mls_layout.specs.Emitted.{binder_pair}
use Rattle.mls_pairs.specs.PairLists.{pair_of}
use Rattle.mls_lines.proofs.steps.asked.Given as goal

-- the pairs of the entries so far
abbrev pub invariant-loop-entry : goal.invariant-loop-entry
invariant-loop-entry l =
    IsRising l.env → l.pairs ≡ pair_of Lr l.from.root.0 l.fn.root.0 ∷ flat_map (binder_pair l.env) (take l.entry-index l.from.env)
