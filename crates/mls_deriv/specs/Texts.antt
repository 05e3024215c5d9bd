-- Which texts are those of derivations.
use Rattle.std.specs.Prelude.{◌≡◌, ◌≢◌, ℕ, ◌<◌, suc, List, [], ◌∷◌, length, All, Contains}
use Rattle.std.specs.Prelude.{Option, Some, None, option_map, IsSome}
use Rattle.mls_base.specs.Spelling.{IsName}
use Rattle.mls_typetext.specs.declared.scheme.ReadScheme.{ReadScheme}
use Rattle.mls_deriv.specs.declared.derivation.Derivation.{Derivation}
use Rattle.mls_deriv.specs.declared.derivation.Section.{Section}
use Rattle.mls_deriv.specs.declared.derivation.SectionLine.{SectionLine}
use Rattle.mls_deriv.specs.declared.derivation.SectionLine.TheVariants as line
use Rattle.mls_deriv.specs.declared.derivation.StepRule.{StepRule}
use Rattle.mls_deriv.specs.declared.derivation.StepRule.TheVariants as rule
use Rattle.mls_deriv.specs.Spellings.{derivation_text}
use Rattle.mls_deriv.specs.Forms.{arguments, IsNodeForm, IsLineForm, HasRisingLabels, HasRisingBinders}
use Rattle.mls_deriv.specs.Sections.{IsHeadRead}

-- no byte is a newline
abbrev pub IsOneLine : List ℕ → Type 0
IsOneLine bytes = All (λ byte. byte ≢ 10) bytes

-- What the lines of a section so far have given: how many steps, which let numbers, and the variables that the `put`
-- lines of the last step give a node, if it is a step by pairs that nothing else followed.
pub record Given : Type 0 where
  pub steps : ℕ
  pub lets : List ℕ
  pub puts : Option (List ℕ)

abbrev pub none_given : Given
none_given = record { steps = 0; lets = []; puts = None }

-- only a step by pairs may be followed by `put` and `pair` lines
abbrev pub puts_behind : StepRule → Option (List ℕ)
puts_behind (rule.Sub s) = Some []
puts_behind _ = None

abbrev pub after : Given → SectionLine → Given
after g (line.Let k s) = record g { lets = k ∷ g.lets; puts = None }
after g (line.Step step) = record g { steps = suc g.steps; puts = puts_behind step.rule }
after g (line.Put x n) = record g { puts = option_map (λ xs. x ∷ xs) g.puts }
after g (line.Pair mode i j) = g

-- the nodes and the earlier steps that a rule names are there, in a section of so many nodes behind so many steps
abbrev pub IsRuleInRange : (nodes steps : ℕ) → StepRule → Type 0
IsRuleInRange nodes steps (rule.Name n) = n.0 < nodes
IsRuleInRange nodes steps other = All (λ s. s < steps) (arguments other)

-- the line may stand here, in a section of so many nodes
abbrev pub Stands : (nodes : ℕ) → Given → SectionLine → Type 0
Stands nodes g (line.Let k s) = (s < g.steps) × (Contains g.lets k → ⊥)
Stands nodes g (line.Step step) =
    IsRuleInRange nodes g.steps step.rule × All (λ entry. entry.node.0 < nodes) step.env × (step.root.0 < nodes)
Stands nodes g (line.Put x n) = (n.0 < nodes) × ((xs : List ℕ) × (g.puts ≡ Some xs) × (Contains xs x → ⊥))
Stands nodes g (line.Pair mode i j) = (i.0 < nodes) × (j.0 < nodes) × IsSome g.puts

-- each of the lines may stand behind those before it
abbrev pub AllStand : (nodes : ℕ) → Given → List SectionLine → Type 0
AllStand nodes g [] = Unit {0}
AllStand nodes g (l ∷ rest) = Stands nodes g l × AllStand nodes (after g l) rest

-- each line of the section may stand behind those before it
abbrev pub LinesStand : Section → Type 0
LinesStand s = AllStand (length s.nodes) none_given s.lines

-- labels and binders rise in the section
pub record IsRisingSection (s : Section) : Type 0 where
  pub labels : All HasRisingLabels s.nodes
  pub binders : All HasRisingBinders s.lines

-- each node and each line of the section may be spelled
pub record IsSpelledSection (s : Section) : Type 0 where
  pub nodes : All IsNodeForm s.nodes
  pub lines : All IsLineForm s.lines

-- a section that has a text
pub record IsSectionForm (s : Section) : Type 0 where
  pub name : IsName s.name
  pub one_line : IsOneLine s.text
  pub read : ReadScheme
  pub head : IsHeadRead s read
  pub nodes : All IsNodeForm s.nodes
  pub lines : All IsLineForm s.lines
  pub stand : AllStand (length s.nodes) none_given s.lines

-- the text is that of the derivation
pub record IsTextOf (text : List ℕ) (d : Derivation) : Type 0 where
  pub spelled : text ≡ derivation_text d
  pub sections : All IsSectionForm d.sections
