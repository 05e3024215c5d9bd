-- How two environments are put together, binder by binder.
use Rattle.std.specs.Prelude.{◌≡◌, ◌⊎◌, ℕ, ◌<◌, List, [], ◌∷◌, map, length, get_or, All, Contains, IsSome, Option, Some, None}
use Rattle.mls_book.specs.declared.book.Node.{Node}
use Rattle.mls_book.specs.declared.book.Node.TheVariants as node
use Rattle.mls_book.specs.Books.{node_at}
use Rattle.mls_term.specs.Derivations.{IsMeet}
use Rattle.mls_deriv.specs.declared.derivation.BinderNode.{BinderNode}
use Rattle.mls_deriv.specs.Steps.{env_of, IsRising}
use Rattle.mls_layout.specs.Runs.{id}
use Rattle.mls_lines.specs.declared.envs.Needed.{Needed}
use Rattle.mls_lines.specs.declared.envs.Needed.TheVariants as needed
use Rattle.mls_lines.specs.Stepping.{binder_node}

-- numbers in rising order, among which are the binders of two environments
pub record AreBinders (d e : List BinderNode) (binders : List ℕ) : Type 0 where
  pub rise : (i j : ℕ) → i < j → j < length binders → get_or binders i 0 < get_or binders j 0
  pub first : (x : ℕ) → IsSome (binder_node d x) → Contains binders x
  pub second : (x : ℕ) → IsSome (binder_node e x) → Contains binders x

-- the binder of what two environments need
abbrev pub needed_binder : Needed → ℕ
needed_binder (needed.One entry) = entry.binder
needed_binder (needed.Both x left right) = x

-- it has just these nodes in them
abbrev pub HasNodes : (d e : List BinderNode) → Needed → Type 0
HasNodes d e (needed.One entry) = ((binder_node d entry.binder ≡ Some entry.node.0) × (binder_node e entry.binder ≡ None))
    ⊎ ((binder_node d entry.binder ≡ None) × (binder_node e entry.binder ≡ Some entry.node.0))
HasNodes d e (needed.Both x left right) = (binder_node d x ≡ Some left.0) × (binder_node e x ≡ Some right.0)

-- the binders of two environments in rising order, each with its nodes
pub record AreNeeded (d e : List BinderNode) (all : List Needed) : Type 0 where
  pub binders : AreBinders d e (map needed_binder all)
  pub nodes : All (HasNodes d e) all

-- what comes first of two entries, and how many of each environment are gone then
abbrev pub IsNext : (left right : BinderNode) → Needed → (first second : ℕ) → Type 0
IsNext left right next first second =
    ((left.binder < right.binder) × (next ≡ needed.One left) × (first ≡ 1) × (second ≡ 0))
    ⊎ (((left.binder ≡ right.binder) × (next ≡ needed.Both left.binder left.node right.node) × (first ≡ 1) × (second ≡ 1))
    ⊎ ((right.binder < left.binder) × (next ≡ needed.One right) × (first ≡ 0) × (second ≡ 1)))

-- the node of a binder that has two: both are the same, or it is the binder's own, or their meet
abbrev pub Agrees : List Node → (own l r n : ℕ) → Type 0
Agrees book own l r n = ((l ≡ n) × (r ≡ n)) ⊎ ((n ≡ own) ⊎ (node_at book n ≡ node.Meet (id l) (id r)))

-- the node of a binder that has these nodes in two environments
abbrev pub JoinsAt : List Node → (own : ℕ) → (left right : Option ℕ) → (n : ℕ) → Type 0
JoinsAt book own (Some l) (Some r) n = Agrees book own l r n
JoinsAt book own (Some l) None n = l ≡ n
JoinsAt book own None (Some r) n = r ≡ n
JoinsAt book own None None n = ⊥

abbrev pub JoinsIn : List Node → (node_of : ℕ → ℕ) → (d e : List BinderNode) → (x n : ℕ) → Type 0
JoinsIn book node_of d e x n = JoinsAt book (node_of x) (binder_node d x) (binder_node e x) n

-- the same where it is the meet of both nodes
abbrev pub MeetsAt : List Node → (left right : Option ℕ) → (n : ℕ) → Type 0
MeetsAt book (Some l) (Some r) n = node_at book n ≡ node.Meet (id l) (id r)
MeetsAt book (Some l) None n = l ≡ n
MeetsAt book None (Some r) n = r ≡ n
MeetsAt book None None n = ⊥

abbrev pub MeetsIn : List Node → (d e : List BinderNode) → (x n : ℕ) → Type 0
MeetsIn book d e x n = MeetsAt book (binder_node d x) (binder_node e x) n

-- the meet of two environments
pub record IsMetIn (book : List Node) (d e met : List BinderNode) : Type 0 where
  pub rising : IsRising met
  pub meets : IsMeet book (env_of d) (env_of e) (env_of met)

-- these binders, each with a node of which this holds
abbrev pub AreEntries : (Holds : ℕ → ℕ → Type 0) → List ℕ → List BinderNode → Type 0
AreEntries Holds [] [] = Unit {0}
AreEntries Holds (x ∷ xs) (entry ∷ rest) = (entry.binder ≡ x) × Holds x entry.node.0 × AreEntries Holds xs rest
AreEntries Holds _ _ = ⊥
