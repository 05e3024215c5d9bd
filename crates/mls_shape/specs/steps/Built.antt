-- How the deterministic form is put together.
use Rattle.std.specs.Prelude.{List, [], ◌∷◌}
use Rattle.mls_automaton.specs.declared.automaton.Polarity.TheVariants.{Positive}
use Rattle.mls_automaton.specs.declared.scheme.Scheme.{Scheme}
use Rattle.mls_automaton.specs.Automata.{Automaton}
use Rattle.mls_automaton.specs.Environments.{BindersRise}
use Rattle.mls_shape.specs.declared.register.Register.{Register}
use Rattle.mls_shape.specs.declared.register.SetState.{SetState}
use Rattle.mls_shape.specs.steps.Registers.{IsRegister, Numbers, sets_in}
use Rattle.mls_shape.specs.steps.Entries.{NumbersEnv}
use Rattle.mls_shape.specs.steps.Building.{AreStatesOf}
use Rattle.mls_shape.specs.steps.Edges.{AddsFlows, IsEdge}

-- the set of the root came first, then those of the binders, then those that states name, and at last the edges
pub record IsBuilt (s d : Scheme) : Type 0 where
  pub register : Register
  pub is : IsRegister register
  pub of_root : List SetState
  pub of_binders : List SetState
  pub without_flows : Automaton
  pub rises : BindersRise s.env
  pub root : Numbers Positive (s.root.0 ∷ []) [] of_root d.root.0
  pub env : NumbersEnv s.env of_root of_binders d.env
  pub states : AreStatesOf s.automaton of_binders (sets_in register) without_flows
  pub flows : AddsFlows without_flows d.automaton (IsEdge s.automaton (sets_in register))
