-- Derivations of some expressions, as examples of the rules.
use Rattle.std.proofs.Common.{inl, inr, ℕ, zero, suc, ◌+◌, ◌<◌, [], ◌∷◌, refl, sym, subst, ◌∙◌, arith, Option}
use Rattle.std.specs.FinMap as env
use Rattle.std.specs.FinMap.{get-empty}
use Rattle.std.specs.Ordering.{nat_cmp}
use Rattle.mls_book.specs.declared.book.NodeId.{NodeId}
use Rattle.mls_book.specs.declared.book.Node.{Node}
use Rattle.mls_book.specs.declared.book.Node.TheVariants as node
use Rattle.mls_book.specs.Books.{node_at, IsClosedBook}
use Rattle.mls_book.specs.Predicates.{Predicate, Implies, var, arrow}
use Rattle.mls_book.specs.Passes.{passes}
use Rattle.mls_book.specs.Schemes.{Scheme, binder_passes}
use Rattle.mls_book.proofs.Constructors.{arrow-implies}
use Rattle.mls_book.proofs.Depths.{Implies-same}
use Rattle.mls_book.proofs.LongerBooks.{IsGood, closed_from}
use Rattle.mls_book.proofs.Subsumption.{Subsumes-below}
use Rattle.mls_book.proofs.Table.{value-top, value-int, value-arrow}
use Rattle.mls_term.proofs.Environments.{one, get-one, remove-empty, remove-one, is_scheme-empty, is_scheme-one}
use Rattle.mls_term.specs.Terms.{TermTree, bound, number, fun}
use Rattle.mls_term.specs.Derivations.{Known, Derives, var_fun, lit_number, abs, sub}

abbrev id : ℕ → NodeId
id n = record { 0 = n }

abbrev pub nothing : Known
nothing = record { globals = []; lets = env.empty }

-- fun x -> x at int -> int
abbrev pub identity : TermTree
identity = fun 0 0 (bound 9 0)

abbrev pub int_to_int : Scheme
int_to_int = record { book = node.Arrow (id 1) (id 1) ∷ node.Int ∷ []; env = env.empty; root = 0 }

-- a book of good nodes is closed
two_closed : (j k : ℕ) (second : Node) → j < 2 → k < 2 → IsGood 2 1 second → IsClosedBook (node.Arrow (id j) (id k) ∷ second ∷ [])
two_closed j k second j_low k_low good = closed_from (node.Arrow (id j) (id k) ∷ second ∷ []) at
  where
    at : (i : ℕ) → i < 2 → IsGood 2 (0 + i) (node_at (node.Arrow (id j) (id k) ∷ second ∷ []) i)
    at zero low = record { ordered = tt; below = (j_low, k_low) }
    at (suc zero) low = good
    at (suc (suc i)) low = absurd (omega arith)

int_to_int_closed : IsClosedBook int_to_int.book
int_to_int_closed = two_closed 1 1 node.Int (omega arith) (omega arith) (record { ordered = tt; below = tt })

pub identity_derived : Derives nothing identity int_to_int
identity_derived =
    abs 0 0 (bound 9 0) (one 0 1) (id 1) (id 1) refl (is_scheme-empty int_to_int.book int_to_int_closed 0 (omega arith)) (sym (remove-one 0 1)) (inl (get-one 0 1)) refl
    (var_fun 9 0 refl (is_scheme-one int_to_int.book int_to_int_closed 0 1 1 (omega arith) (omega arith)) refl)

-- fun x -> 7: its domain is `top` by the rules, and a function from `top` is one from `int`
abbrev pub seven : TermTree
seven = fun 0 0 (number 9 7)

abbrev pub top_to_int : Scheme
top_to_int = record { book = node.Arrow (id 1) (id 2) ∷ node.Top ∷ node.Int ∷ []; env = env.empty; root = 0 }

top_to_int_closed : IsClosedBook top_to_int.book
top_to_int_closed = closed_from top_to_int.book at
  where
    at : (i : ℕ) → i < 3 → IsGood 3 (0 + i) (node_at top_to_int.book i)
    at zero low = record { ordered = tt; below = (omega arith, omega arith) }
    at (suc zero) low = record { ordered = tt; below = tt }
    at (suc (suc zero)) low = record { ordered = tt; below = tt }
    at (suc (suc (suc i))) low = absurd (omega arith)

pub seven_derived : Derives nothing seven top_to_int
seven_derived =
    abs 0 0 (number 9 7) env.empty (id 1) (id 2) refl (is_scheme-empty top_to_int.book top_to_int_closed 0 (omega arith)) (sym (remove-empty 0)) (inr (get-empty nat_cmp 0, refl)) refl
    (lit_number 9 7 refl (is_scheme-empty top_to_int.book top_to_int_closed 2 (omega arith)) refl refl)

-- what `top -> int` passes, `int -> int` passes too
from_top : Implies (passes top_to_int.book 0) (passes int_to_int.book 0)
from_top =
    let Left : Predicate → Type 0 = λ f. Implies f (passes int_to_int.book 0) in
    let Right : Predicate → Type 0 = λ f. Implies (arrow (passes top_to_int.book 1) (passes top_to_int.book 2)) f in
    subst Left (sym (value-arrow var top_to_int.book top_to_int_closed.book 0 (id 1) (id 2) refl))
    (subst Right (sym (value-arrow var int_to_int.book int_to_int_closed.book 0 (id 1) (id 1) refl))
    (arrow-implies (passes top_to_int.book 1) (passes top_to_int.book 2) (passes int_to_int.book 1) (passes int_to_int.book 1)
    (let P : Predicate → Type 0 = λ f. Implies (passes int_to_int.book 1) f in subst P (sym (value-top var top_to_int.book top_to_int_closed.book 1 refl)) (λ t e. refl))
    (Implies-same (passes top_to_int.book 2) (passes int_to_int.book 1) (value-int var top_to_int.book top_to_int_closed.book 2 refl ∙ sym (value-int var int_to_int.book int_to_int_closed.book 1 refl)))))

no_needs : (x : ℕ) → Implies (binder_passes (passes int_to_int.book) (env.get int_to_int.env x)) (binder_passes (passes top_to_int.book) (env.get top_to_int.env x))
no_needs x =
    let P : Option ℕ → Type 0 = λ o. Implies (binder_passes (passes int_to_int.book) (env.get int_to_int.env x)) (binder_passes (passes top_to_int.book) o) in
    subst P (sym (get-empty nat_cmp x)) (λ t e. refl)

pub seven_at_int : Derives nothing seven int_to_int
seven_at_int =
    sub top_to_int seven_derived
    (Subsumes-below top_to_int int_to_int (record { root = from_top; env = no_needs }))
    (is_scheme-empty int_to_int.book int_to_int_closed 0 (omega arith))
