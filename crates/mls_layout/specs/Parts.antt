-- The parts of a term (the first part of each let, and the whole), each with its constraint, the walk from the solved
-- constraint to its type, and the nodes of both.
use Rattle.std.specs.Prelude.{◌≡◌, ℕ, ◌<◌, Bool, IsTrue, List, [], ◌∷◌, ◌++◌, length, Contains}
use Rattle.mls_book.specs.declared.book.Node.{Node}
use Rattle.mls_book.specs.Books.{IsClosedBook}
use Rattle.mls_book.specs.Schemes.{Env}
use Rattle.mls_automaton.specs.declared.automaton.Polarity.TheVariants.{Positive, Negative}
use Rattle.mls_automaton.specs.declared.scheme.Scheme.{Scheme}
use Rattle.mls_automaton.specs.Automata.{Automaton, IsState, polarity_at}
use Rattle.mls_automaton.specs.Models.{IsClosed}
use Rattle.mls_solver.specs.Relations.{IsRelated}
use Rattle.mls_solver.specs.Clashes.{HasNoClash}
use Rattle.mls_solver.specs.Solved.{IsSolved}
use Rattle.mls_subsume.specs.declared.verdict.StatePair.{StatePair}
use Rattle.mls_subsume.specs.Walks.{IsIn, IsWalk}
use Rattle.mls_term.specs.Terms.{TermTree}
use Rattle.mls_deriv.specs.Steps.{env_of, IsRising, Before}
use Rattle.mls_layout.specs.Layouts.{IsLayout}
use Rattle.mls_layout.specs.Lets.{FirstPart}
use Rattle.mls_layout.specs.Posed.{IsPosed}
use Rattle.mls_layout.specs.PosedUses.{IsUse}
use Rattle.mls_layout.specs.Scopes.{entries}

-- a constraint: an automaton and the pairs of its states that are to be in order
pub record Constraint : Type 0 where
  pub automaton : Automaton
  pub goals : List (ℕ × ℕ)

abbrev pub IsGoalOf : Constraint → ℕ → ℕ → Type 0
IsGoalOf c p n = Contains c.goals (p, n)

-- the closed relation of the goals
abbrev pub IsRelatedIn : Constraint → ℕ → ℕ → Type 0
IsRelatedIn c = IsRelated c.automaton (IsGoalOf c)

-- The goals do not clash, and a walk leads from the solved constraint to the type.
pub record IsSolvedTo (c : Constraint) (general special : Scheme) (walked : List StatePair) : Type 0 where
  pub closed : IsClosed c.automaton
  pub goals : (p n : ℕ) → IsGoalOf c p n → IsState c.automaton Positive p × IsState c.automaton Negative n
  pub free : HasNoClash c.automaton (IsRelatedIn c)
  pub solved : IsSolved c.automaton (IsRelatedIn c) general.automaton
  pub closed_type : IsClosed special.automaton
  pub walk : IsWalk general special walked
  pub is_positive : polarity_at c.automaton general.root.0 ≡ Positive

-- The nodes of the states of a constraint and of its type stand in the book.
pub record IsLaidOut (book : List Node) (c : Constraint) (special : Scheme) (walked : List StatePair) (place type_place
    : ℕ → ℕ) : Type 0 where
  pub closed : IsClosedBook book
  pub layout : IsLayout book c.automaton special.automaton (IsRelatedIn c) (IsIn walked) place type_place
  pub parts : (s i : ℕ) → Contains (layout.parts s) i → i < length book
  pub values : (n : ℕ) → layout.value n < length book
  pub places : (s : ℕ) → place s < length book
  pub type_places : (s : ℕ) → type_place s < length book

-- Node `part` of the term has a constraint, where the first parts of these lets are known: its root is that of the
-- constraint, and each binder around it has a state of the type, so that it gets this environment and this type.
pub record HasConstraint (b : Before) (known : List FirstPart) (part : ℕ) (d : Env) (type : ℕ) : Type 0 where
  pub constraint : Constraint
  pub general : Scheme
  pub special : Scheme
  pub walked : List StatePair
  pub solved : IsSolvedTo constraint general special walked
  pub place : ℕ → ℕ
  pub type_place : ℕ → ℕ
  pub laid_out : IsLaidOut b.book constraint special walked place type_place
  pub root : ℕ → ℕ
  pub binder : ℕ → ℕ
  pub is_place : ℕ → ℕ → Bool
  pub is_free : ℕ → ℕ → Bool
  pub tree : TermTree
  pub scope : List ℕ
  pub rising : IsRising (entries (λ x. place (binder x)) scope)
  pub posed : IsPosed b.term_nodes constraint.automaton (IsGoalOf constraint) root binder
      (IsUse b constraint.automaton place known root binder (λ i s. IsTrue (is_place i s))
      (λ i n. IsTrue (is_free i n))) scope part tree
  pub is_root : root part ≡ general.root.0
  pub partner : ℕ → ℕ
  pub paired : (x : ℕ) → Contains scope x
      → (polarity_at constraint.automaton (binder x) ≡ Negative) × IsIn walked (binder x) (partner x)
  pub env : d ≡ env_of (entries (λ x. type_place (partner x)) scope)
  pub is_type : type ≡ type_place special.root.0

-- each first part has its constraint, where those before it are known
abbrev pub HaveConstraints : Before → (known firsts : List FirstPart) → Type 0
HaveConstraints b known [] = Unit {0}
HaveConstraints b known (first ∷ firsts) =
    HasConstraint b known first.part first.env first.type × HaveConstraints b (known ++ first ∷ []) firsts
