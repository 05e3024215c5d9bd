-- Pairs of a general and a special state, and the paths that lead to them.
use Rattle.std.specs.Prelude.{ℕ, List, [], ◌∷◌}
use Rattle.mls_automaton.specs.declared.scheme.Scheme.{Scheme}
use Rattle.mls_automaton.specs.Automata.{Automaton}
use Rattle.mls_solver.specs.Relations.{InDomain, InCodomain, InField}
use Rattle.mls_subsume.specs.declared.verdict.Step.{Step}
use Rattle.mls_subsume.specs.declared.verdict.Step.TheVariants as step

-- the step leads from the first pair of states to the second, through a part that both heads have
abbrev pub Leads : Automaton → Automaton → Step → (g s g' s' : ℕ) → Type 0
Leads a b step.Domain g s g' s' = InDomain a g g' × InDomain b s s'
Leads a b step.Codomain g s g' s' = InCodomain a g g' × InCodomain b s s'
Leads a b (step.At label) g s g' s' = InField a g label g' × InField b s label s'

-- the steps lead from the first pair of states to the second
pub data IsPath (a b : Automaton) : List Step → (g s g' s' : ℕ) → Type 0 where
  none : {g s : ℕ} → IsPath a b [] g s g s
  more : {step : Step} {rest : List Step} {g s h t g' s' : ℕ} → Leads a b step g s h t → IsPath a b rest h t g' s'
      → IsPath a b (step ∷ rest) g s g' s'

-- they lead there from the roots
abbrev pub IsPathTo : Scheme → Scheme → List Step → ℕ → ℕ → Type 0
IsPathTo general special steps g s = IsPath general.automaton special.automaton steps general.root.0 special.root.0 g s

-- the pair is met on the way from the roots
abbrev pub IsPaired : Scheme → Scheme → ℕ → ℕ → Type 0
IsPaired general special g s = (steps : List Step) × IsPathTo general special steps g s
