-- Typing schemes, and which subsumes which.
use Rattle.std.specs.Prelude.{◌≡◌, ℕ, ◌<◌, List, length, Option, Some, None}
use Rattle.std.specs.FinMap as map
use Rattle.std.specs.FinMap.{FinMap}
use Rattle.std.specs.Ordering.{nat_cmp}
use Rattle.mls_book.specs.declared.book.Node.{Node}
use Rattle.mls_book.specs.Books.{IsClosedBook}
use Rattle.mls_book.specs.Predicates.{Predicate, Implies, top}
use Rattle.mls_book.specs.Passes.{passes, passes_under}

-- nodes of a book by binder numbers
abbrev pub Env : Type 0
Env = FinMap nat_cmp ℕ

-- a type, and the types of the binders that it needs
pub record Scheme : Type 0 where
  pub book : List Node
  pub env : Env
  pub root : ℕ

-- the book is closed, and what the scheme names is there
pub record IsScheme (s : Scheme) : Type 0 where
  pub book : IsClosedBook s.book
  pub root : s.root < length s.book
  pub env : (x i : ℕ) → map.get s.env x ≡ Some i → i < length s.book

-- what a binder passes: one that is not there counts as `Top`
abbrev pub binder_passes : (ℕ → Predicate) → Option ℕ → Predicate
binder_passes node_passes None = top
binder_passes node_passes (Some i) = node_passes i

-- a node of a second closed book for each variable
pub record Substitution : Type 0 where
  pub book : List Node
  pub node_of : ℕ → ℕ
  pub closed : IsClosedBook book
  pub in_range : (x : ℕ) → node_of x < length book

-- what a node passes under a substitution
abbrev pub passes_at : Substitution → List Node → ℕ → Predicate
passes_at r nodes = passes_under r.book r.node_of nodes

-- the first scheme subsumes the second by this substitution
pub record SubsumesBy (first second : Scheme) (r : Substitution) : Type 0 where
  pub root : Implies (passes_at r first.book first.root) (passes second.book second.root)
  pub env : (x : ℕ) → Implies (binder_passes (passes second.book) (map.get second.env x))
      (binder_passes (passes_at r first.book) (map.get first.env x))

-- the second scheme is an instance of the first
abbrev pub Subsumes : Scheme → Scheme → Type 0
Subsumes first second = (r : Substitution) × SubsumesBy first second r

abbrev pub AreEquivalent : Scheme → Scheme → Type 0
AreEquivalent s t = Subsumes s t × Subsumes t s
