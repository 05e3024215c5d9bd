-- What is joined of the members of a set.
use Rattle.std.specs.Prelude.{ℕ, List, Option, option_map}
use Rattle.mls_automaton.specs.declared.automaton.Arms.{Arms}
use Rattle.mls_automaton.specs.Automata.{Automaton, head_at}
use Rattle.mls_automaton.specs.Heads.{set_at}
use Rattle.mls_print.specs.declared.join.JoinedArms.{JoinedArms}
use Rattle.mls_print.specs.steps.Flat.{flat_function}

-- the sets of a function
abbrev pub arms_in : JoinedArms → Arms
arms_in arms = record { domain = arms.domain.items; codomain = arms.codomain.items }

-- the function of the combined head of a set
abbrev pub function_of_all : Automaton → List ℕ → Option Arms
function_of_all a set = flat_function (λ s. (head_at a s).function) (λ s. option_map set_at (head_at a s).fields) set
