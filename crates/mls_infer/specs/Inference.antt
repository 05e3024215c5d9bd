-- What inference of a whole expression answers.
use Rattle.std.specs.Prelude.{◌≡◌, ℕ, ◌+◌, List, [], ◌∷◌, map, All}
use Rattle.mls_book.specs.Schemes as book
use Rattle.mls_term.specs.declared.term.Term.{Term}
use Rattle.mls_term.specs.Terms.{TermTree, before, postorder}
use Rattle.mls_term.specs.Derivations.{Known, IsBest}
use Rattle.mls_term.specs.WellFormed.{early_parts, IsPartOf, IsFirstNone}
use Rattle.mls_typing.specs.InferenceLaws.{at_start}
use Rattle.mls_typetext.specs.declared.scheme.Names.{Names}
use Rattle.mls_typetext.specs.Laws.{IsReadScheme}
use Rattle.mls_typetext.specs.Schemes.{scheme_of}
use Rattle.mls_automaton.specs.declared.scheme.Scheme.{Scheme}
use Rattle.mls_automaton.specs.Schemes.{IsScheme, IsSchemeOf}
use Rattle.mls_scheme.specs.ReadTypes.{IsPolarisedRead}
use Rattle.mls_infer.specs.declared.fault.InferFault.{InferFault}
use Rattle.mls_infer.specs.declared.fault.InferFault.TheVariants as fault
use Rattle.mls_infer.specs.declared.fault.SiteKind.{SiteKind}
use Rattle.mls_infer.specs.Constraints.{Constraint}
use Rattle.mls_infer.specs.Solved.{GoalsOf, IsFirstKind}
use Rattle.mls_infer.specs.Steps.{IsConstraintOf, IsReadAs}

-- each scheme of the environment is one that was read
abbrev pub AreNames : Names → Type 0
AreNames names = All (λ read. IsReadScheme read × IsPolarisedRead read) names.schemes

-- what the names mean
abbrev pub schemes_in : Names → List book.Scheme
schemes_in names = map scheme_of names.schemes

-- each book of the scheme is a most general scheme of the expression
abbrev pub IsBestFor : Names → Term → Scheme → Type 0
IsBestFor names term s =
    (t : TermTree) (u : book.Scheme) → term.nodes ≡ postorder 0 t → IsSchemeOf s u
    → IsBest (at_start (schemes_in names)) t u

-- the expression has no scheme, and this node is the first that has none
abbrev pub IsFirstWithout : Names → Term → InferFault → Type 0
IsFirstWithout names term (fault.NoScheme site) =
    (t : TermTree) → term.nodes ≡ postorder 0 t → IsFirstNone (schemes_in names) t site.node
IsFirstWithout names term fault.Memory = Unit {0}

-- each scheme over an automaton has just the types of a most general scheme of its part
abbrev pub AreBestFor : Known → List (ℕ × TermTree) → List Scheme → Type 0
AreBestFor known [] [] = Unit {0}
AreBestFor known (part ∷ parts) (s ∷ ss) =
    (IsScheme s × (u : book.Scheme) × IsReadAs s u × IsBest known part.1 u) × AreBestFor known parts ss
AreBestFor known _ _ = ⊥

-- The kind of the node of this number: the constraint of its expression, over most general schemes of the parts, has
-- clashes, and this is the kind of the first of them.
pub record IsKindAt (globals : List book.Scheme) (whole : TermTree) (i : ℕ) (m : SiteKind) : Type 0 where
  pub n : ℕ
  pub t : TermTree
  pub known : Known
  pub part : IsPartOf globals whole n t known
  pub number_is : i ≡ n + before t
  pub schemes : List Scheme
  pub best : AreBestFor known (early_parts n t) schemes
  pub constraint : Constraint
  pub constraint_is : IsConstraintOf known t schemes constraint
  pub first : IsFirstKind constraint.scheme.automaton (GoalsOf constraint) m

-- the kind of the node that has no scheme is told
abbrev pub TellsKindOf : Names → Term → InferFault → Type 0
TellsKindOf names term (fault.NoScheme site) =
    (t : TermTree) → term.nodes ≡ postorder 0 t → IsKindAt (schemes_in names) t site.node site.kind
TellsKindOf names term fault.Memory = Unit {0}
