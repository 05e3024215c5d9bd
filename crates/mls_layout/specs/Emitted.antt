-- The pairs of a step by pairs.
use Rattle.std.specs.Prelude.{ℕ, true, List, [], ◌∷◌, slice_get, Option, Some, None}
use Rattle.std.specs.List.{flat_map}
use Rattle.std.specs.FinMap as env
use Rattle.mls_book.specs.declared.book.Node.{Node}
use Rattle.mls_deriv.specs.declared.derivation.BinderNode.{BinderNode}
use Rattle.mls_deriv.specs.declared.derivation.Mode.{Mode}
use Rattle.mls_deriv.specs.declared.derivation.Mode.TheVariants.{Lr, Rl}
use Rattle.mls_deriv.specs.declared.derivation.StepLine.{StepLine}
use Rattle.mls_deriv.specs.declared.derivation.StepRule.{StepRule}
use Rattle.mls_deriv.specs.declared.derivation.StepRule.TheVariants as rule
use Rattle.mls_deriv.specs.declared.claim.Pair.{Pair}
use Rattle.mls_deriv.specs.declared.claim.Put.{Put}
use Rattle.mls_deriv.specs.Pairs.{Claims, AreJustified}
use Rattle.mls_deriv.specs.Steps.{env_of}
use Rattle.mls_pairs.specs.PairLists.{pair_of}
use Rattle.mls_layout.specs.Shown.{IsShown}

-- the pair of the two nodes of a binder, where the later environment has the binder
abbrev pub pair_with : Option ℕ → ℕ → List Pair
pair_with None n = []
pair_with (Some m) n = pair_of Rl m n ∷ []

abbrev pub binder_pair : (later : List BinderNode) → BinderNode → List Pair
binder_pair later entry = pair_with (env.get (env_of later) entry.binder) entry.node.0

-- the pair of the two types, and that of each binder of the earlier step
abbrev pub asked_pairs : (earlier later : StepLine) → List Pair
asked_pairs earlier later =
    pair_of Lr earlier.root.0 later.root.0 ∷ flat_map (binder_pair later.env) earlier.env

-- what a step asks for that follows this earlier step by pairs
abbrev pub asked_after : Option StepLine → StepLine → List Pair
asked_after None step = []
asked_after (Some earlier) step = asked_pairs earlier step

-- what a step of this rule asks for behind these steps
abbrev pub asked_by : StepRule → List StepLine → StepLine → List Pair
asked_by (rule.Sub number) steps step = asked_after (slice_get steps number) step
asked_by _ steps step = []

abbrev pub asked_at : List StepLine → StepLine → List Pair
asked_at steps step = asked_by step.rule steps step

-- The list justifies itself, and each wanted pair that follows from the claims is in it.
pub record IsListOf (book : List Node) (puts : List Put) (base claims : Mode → ℕ → ℕ → Type 0)
    (wanted pairs : List Pair) : Type 0 where
  pub justified : AreJustified book puts pairs
  pub holds : (mode : Mode) (i j : ℕ) → Claims wanted mode i j → IsShown book puts base claims true mode i j
      → Claims pairs mode i j
