-- The order of predicates on tests up to a depth. It is what an induction on tests proves, depth by depth.
use Rattle.std.proofs.Common.{◌≡◌, ℕ, zero, suc, ◌<◌, ◌≤◌, true, sym, ◌∙◌, arith}
use Rattle.mls_book.specs.Tests.{Test, depth}
use Rattle.mls_book.specs.Predicates.{Predicate, Implies}

-- every test of less than this depth that passes the first passes the second
abbrev pub ImpliesTo : ℕ → Predicate → Predicate → Type 0
ImpliesTo d f g = (t : Test) → depth t < d → f t ≡ true → g t ≡ true

-- the two agree on every test of less than this depth
abbrev pub IsSameTo : ℕ → Predicate → Predicate → Type 0
IsSameTo d f g = (t : Test) → depth t < d → f t ≡ g t

pub Implies-refl : (f : Predicate) → Implies f f
Implies-refl f t e = e

pub Implies-trans : (f g h : Predicate) → Implies f g → Implies g h → Implies f h
Implies-trans f g h first second t e = second t (first t e)

-- equal predicates are in order both ways
pub Implies-same : (f g : Predicate) → f ≡ g → Implies f g
Implies-same f g e t h = (λ k. sym e k t) ∙ h

pub Implies-same_back : (f g : Predicate) → f ≡ g → Implies g f
Implies-same_back f g e t h = (λ k. e k t) ∙ h

pub ImpliesTo-refl : (d : ℕ) (f : Predicate) → ImpliesTo d f f
ImpliesTo-refl d f t h e = e

pub ImpliesTo-trans : (d : ℕ) (f g h : Predicate) → ImpliesTo d f g → ImpliesTo d g h → ImpliesTo d f h
ImpliesTo-trans d f g h first second t low e = second t low (first t low e)

-- no test has a depth below 0
pub ImpliesTo-zero : (f g : Predicate) → ImpliesTo 0 f g
ImpliesTo-zero f g t h e = absurd (omega arith)

pub ImpliesTo-less : (d e : ℕ) (f g : Predicate) → d ≤ e → ImpliesTo e f g → ImpliesTo d f g
ImpliesTo-less d e f g le below t h p = below t (omega arith) p

-- the order is the order to every depth
pub Implies-to : (d : ℕ) (f g : Predicate) → Implies f g → ImpliesTo d f g
Implies-to d f g below t h e = below t e

pub Implies-all : (f g : Predicate) → ((d : ℕ) → ImpliesTo d f g) → Implies f g
Implies-all f g below t e = below (suc (depth t)) t (omega arith) e

-- a claim that holds to each next depth holds to every depth
pub to_every_depth : (P : ℕ → Type 0) → P 0 → ((d : ℕ) → P d → P (suc d)) → (d : ℕ) → P d
to_every_depth P first next zero = first
to_every_depth P first next (suc d) = next d (to_every_depth P first next d)

pub same_all : (f g : Predicate) → ((d : ℕ) → IsSameTo d f g) → f ≡ g
same_all f g same = λ k t. same (suc (depth t)) t (omega arith) k
