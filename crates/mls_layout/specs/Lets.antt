-- What is known of the lets of a section, whose first parts stand one after another before the whole term.
use Rattle.std.specs.Prelude.{◌≡◌, ◌≢◌, ℕ, List, [], ◌∷◌, ◌++◌, All, Contains, Some}
use Rattle.std.specs.FinMap as env
use Rattle.std.specs.Ordering.{nat_cmp}
use Rattle.mls_book.specs.Schemes.{Env}
use Rattle.mls_deriv.specs.declared.derivation.StepLine.{StepLine}
use Rattle.mls_deriv.specs.Steps.{Before, Says}
use Rattle.mls_layout.specs.Rows.{concluded, HasRow}

-- the first part of a let: the let's number, the part's root, and the environment and the type that it has
pub record FirstPart : Type 0 where
  pub number : ℕ
  pub part : ℕ
  pub env : Env
  pub type : ℕ

-- a let line gives the let the step about its first part
pub record KnowsLet (b : Before) (first : FirstPart) : Type 0 where
  pub number : ℕ
  pub found : env.find nat_cmp first.number b.lets ≡ Some number
  pub says : Says b number first.part (concluded b first.env first.type)

abbrev pub KnowsLets : Before → List FirstPart → Type 0
KnowsLets b firsts = (first : FirstPart) → Contains firsts first → KnowsLet b first

-- the same section, after these steps and let lines
abbrev pub after : Before → List StepLine → List (ℕ × ℕ) → Before
after b steps lets = record b { steps = steps; lets = lets }

-- wherever these lets are known, a plan leads to a step about the part
abbrev pub HasRowWhere : Before → (known : List FirstPart) → (part : ℕ) → Env → (type : ℕ) → Type 0
HasRowWhere b known part d t =
    (steps : List StepLine) (lets : List (ℕ × ℕ)) → KnowsLets (after b steps lets) known
    → HasRow (after b steps lets) steps part d t

-- each first part has a row wherever those before it are known
abbrev pub HaveRows : Before → (known firsts : List FirstPart) → Type 0
HaveRows b known [] = Unit {0}
HaveRows b known (first ∷ firsts) =
    HasRowWhere b known first.part first.env first.type × HaveRows b (known ++ first ∷ []) firsts

-- no let has two first parts
abbrev pub HaveOwnNumbers : List FirstPart → Type 0
HaveOwnNumbers [] = Unit {0}
HaveOwnNumbers (first ∷ firsts) =
    All (λ (other : FirstPart). first.number ≢ other.number) firsts × HaveOwnNumbers firsts
