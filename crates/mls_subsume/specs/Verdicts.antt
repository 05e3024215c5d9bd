-- Right verdicts.
use Rattle.std.specs.Prelude.{◌≡◌, ℕ, List, ◌++◌}
use Rattle.mls_book.specs.Schemes as book
use Rattle.mls_book.specs.Schemes.{Subsumes}
use Rattle.mls_automaton.specs.declared.automaton.Polarity.{Polarity}
use Rattle.mls_automaton.specs.declared.automaton.Polarity.TheVariants.{Positive, Negative}
use Rattle.mls_automaton.specs.declared.scheme.Scheme.{Scheme}
use Rattle.mls_automaton.specs.Automata.{polarity_at}
use Rattle.mls_automaton.specs.Schemes.{IsSchemeOf}
use Rattle.mls_subsume.specs.declared.verdict.StatePair.{StatePair}
use Rattle.mls_subsume.specs.declared.verdict.Path.{Path}
use Rattle.mls_subsume.specs.declared.verdict.Walk.{Walk}
use Rattle.mls_subsume.specs.declared.verdict.Verdict.{Verdict}
use Rattle.mls_subsume.specs.declared.verdict.Verdict.TheVariants as verdict
use Rattle.mls_subsume.specs.Walks.{IsIn, IsWalk}

-- said of the books of the two schemes
abbrev pub DoesSubsume : Scheme → Scheme → Type 0
DoesSubsume general special = (b c : book.Scheme) → IsSchemeOf general b → IsSchemeOf special c → Subsumes b c

abbrev pub DoesNotSubsume : Scheme → Scheme → Type 0
DoesNotSubsume general special = (b c : book.Scheme) → IsSchemeOf general b → IsSchemeOf special c → Subsumes b c → ⊥

-- the general states of the pairs have this polarity
abbrev pub HavePolarity : Scheme → Polarity → List StatePair → Type 0
HavePolarity general p pairs = (g s : ℕ) → IsIn pairs g s → polarity_at general.automaton g ≡ p

-- The two lists together are a walk, and each has the pairs of its polarity.
pub record IsSplitWalk (general special : Scheme) (walk : Walk) : Type 0 where
  pub together : IsWalk general special (walk.positives ++ walk.negatives)
  pub positives : HavePolarity general Positive walk.positives
  pub negatives : HavePolarity general Negative walk.negatives

-- the verdict is yes
abbrev pub IsYes : Verdict → Type 0
IsYes (verdict.Yes walk) = Unit {0}
IsYes (verdict.No path) = ⊥

-- what is said of the walk of a Yes, and of the path of a No
abbrev pub IfYes : Verdict → (Walk → Type 0) → Type 0
IfYes (verdict.Yes walk) P = P walk
IfYes (verdict.No path) P = Unit {0}

abbrev pub IfNo : Verdict → (Path → Type 0) → Type 0
IfNo (verdict.Yes walk) P = Unit {0}
IfNo (verdict.No path) P = P path
