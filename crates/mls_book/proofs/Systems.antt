-- Systems of equations: types given by one another and by types that are there.
--     Term B            a type by members of its system and by what B names
--     IsSystem          the terms of a system name what is there, and a member alone, not in a function or record, comes before
--     IsSolution        a family of predicates that is as the terms say
--     solution_unique   it is the only one
use Rattle.std.proofs.lemmas.List.Elements.{All-head, All-tail}
use Rattle.std.proofs.Common.{[], ◌∷◌, map, ◌≡◌, inr, ℕ, ◌<◌, ◌&&◌, ◌||◌, List, refl, ap, arith, ◌∷◌, map}
use Rattle.std.specs.Prelude.{All}
use Rattle.mls_book.specs.declared.book.Field.{Field}
use Rattle.mls_book.specs.declared.book.Node.{Node}
use Rattle.mls_book.specs.declared.book.Node.TheVariants as node
use Rattle.mls_book.specs.Books.{AreRising, IsOrdered}
use Rattle.mls_book.specs.Tests.{Test}
use Rattle.mls_book.specs.Predicates as predicate
use Rattle.mls_book.specs.Predicates.{Predicate}
use Rattle.mls_book.specs.Passes.{node_value, field_values}
use Rattle.mls_book.proofs.Children.{HasChildrenIn}
use Rattle.mls_book.proofs.Guarded.{IsBefore, IsGuarded, guarded_unique, node_value-agree}

-- the numbers under a function and in the fields of a record are those of members
pub data Term (B : Type 0) : Type 0 where
  bot top bool int : Term B
  var : ℕ → Term B
  arrow : ℕ → ℕ → Term B
  rcd : List Field → Term B
  join meet : Term B → Term B → Term B
  base : B → Term B
  member : ℕ → Term B

-- what a term passes, by what variables, what is there, and the members pass
abbrev pub term_value : {B : Type 0} → (ℕ → Predicate) → (B → Predicate) → (ℕ → Predicate) → Term B → Predicate
term_value v given f bot = predicate.bot
term_value v given f top = predicate.top
term_value v given f bool = predicate.bool
term_value v given f int = predicate.int
term_value v given f (var x) = v x
term_value v given f (arrow i j) = predicate.arrow (f i) (f j)
term_value v given f (rcd fields) = predicate.rcd (field_values f fields)
term_value v given f (join t u) = predicate.join (term_value v given f t) (term_value v given f u)
term_value v given f (meet t u) = predicate.meet (term_value v given f t) (term_value v given f u)
term_value v given f (base i) = given i
term_value v given f (member k) = f k

-- the term of member k of a system of n members, where `There` says what is there
abbrev pub IsTerm : {B : Type 0} → (B → Type 0) → ℕ → ℕ → Term B → Type 0
IsTerm There n k (arrow i j) = (i < n) × (j < n)
IsTerm There n k (rcd fields) = AreRising fields × All (λ field. field.node.0 < n) fields
IsTerm There n k (join t u) = IsTerm There n k t × IsTerm There n k u
IsTerm There n k (meet t u) = IsTerm There n k t × IsTerm There n k u
IsTerm There n k (base b) = There b
IsTerm There n k (member j) = j < k
IsTerm There n k _ = Unit {0}

abbrev pub IsSystem : {B : Type 0} → (B → Type 0) → ℕ → (ℕ → Term B) → Type 0
IsSystem There n term = (k : ℕ) → k < n → IsTerm There n k (term k)

abbrev pub IsSolution : {B : Type 0} → (ℕ → Predicate) → (B → Predicate) → ℕ → (ℕ → Term B) → (ℕ → Predicate) → Type 0
IsSolution v given n term f = (k : ℕ) → k < n → f k ≡ term_value v given f (term k)

-- what a term passes depends on what comes before alone
module _ {B : Type 0} (There : B → Type 0) (v : ℕ → Predicate) (given : B → Predicate) (n : ℕ) where
  term_value-agree : (f g : ℕ → Predicate) (k : ℕ) (t : Test) (term : Term B) → k < n → IsTerm There n k term → ((j : ℕ) (u : Test) → j < n → IsBefore j u k t → f j u ≡ g j u) → term_value v given f term t ≡ term_value v given g term t
  term_value-agree f g k t bot low is ask = refl
  term_value-agree f g k t top low is ask = refl
  term_value-agree f g k t bool low is ask = refl
  term_value-agree f g k t int low is ask = refl
  term_value-agree f g k t (var x) low is ask = refl
  term_value-agree f g k t (arrow i j) low is ask =
      node_value-agree v (λ i. i < n) f g k t (node.Arrow (record { 0 = i }) (record { 0 = j })) tt is ask
  term_value-agree f g k t (rcd fields) low is ask =
      node_value-agree v (λ i. i < n) f g k t (node.Rcd fields) is.0 is.1 ask
  term_value-agree f g k t (join s u) low is ask =
      λ i. term_value-agree f g k t s low is.0 ask i || term_value-agree f g k t u low is.1 ask i
  term_value-agree f g k t (meet s u) low is ask =
      λ i. term_value-agree f g k t s low is.0 ask i && term_value-agree f g k t u low is.1 ask i
  term_value-agree f g k t (base i) low is ask = refl
  term_value-agree f g k t (member j) low is ask = ask j t (omega arith) (inr (refl, is))

  system-guarded : (term : ℕ → Term B) → IsSystem There n term → IsGuarded (λ k. k < n) (λ f k. term_value v given f (term k))
  system-guarded term is f g k t low ask = term_value-agree f g k t (term k) low (is k low) ask

  -- two solutions are the same
  pub solution_unique : (term : ℕ → Term B) → IsSystem There n term → (f g : ℕ → Predicate) → IsSolution v given n term f → IsSolution v given n term g → (k : ℕ) → k < n → f k ≡ g k
  solution_unique term is f g is_f is_g = guarded_unique (λ k. k < n) (λ f k. term_value v given f (term k)) (system-guarded term is) f g is_f is_g

-- the join of a list of terms, and their meet
abbrev pub join_all : {B : Type 0} → List (Term B) → Term B
join_all [] = bot
join_all (t ∷ rest) = join t (join_all rest)

abbrev pub meet_all : {B : Type 0} → List (Term B) → Term B
meet_all [] = top
meet_all (t ∷ rest) = meet t (meet_all rest)

-- of a family of terms
module _ {B X : Type 0} (v : ℕ → Predicate) (given : B → Predicate) (f : ℕ → Predicate) (term : X → Term B) where
  pub term_value-join_all : (xs : List X) → term_value v given f (join_all (map term xs)) ≡ predicate.joins (map (λ x. term_value v given f (term x)) xs)
  term_value-join_all [] = refl
  term_value-join_all (x ∷ rest) = ap (predicate.join (term_value v given f (term x))) (term_value-join_all rest)

  pub term_value-meet_all : (xs : List X) → term_value v given f (meet_all (map term xs)) ≡ predicate.meets (map (λ x. term_value v given f (term x)) xs)
  term_value-meet_all [] = refl
  term_value-meet_all (x ∷ rest) = ap (predicate.meet (term_value v given f (term x))) (term_value-meet_all rest)

module _ {B X : Type 0} (There : B → Type 0) (n k : ℕ) (term : X → Term B) where
  pub IsTerm-join_all : (xs : List X) → All (λ x. IsTerm There n k (term x)) xs → IsTerm There n k (join_all (map term xs))
  IsTerm-join_all [] each = tt
  IsTerm-join_all (x ∷ rest) each = (All-head (λ x. IsTerm There n k (term x)) x rest each, IsTerm-join_all rest (All-tail (λ x. IsTerm There n k (term x)) x rest each))

  pub IsTerm-meet_all : (xs : List X) → All (λ x. IsTerm There n k (term x)) xs → IsTerm There n k (meet_all (map term xs))
  IsTerm-meet_all [] each = tt
  IsTerm-meet_all (x ∷ rest) each = (All-head (λ x. IsTerm There n k (term x)) x rest each, IsTerm-meet_all rest (All-tail (λ x. IsTerm There n k (term x)) x rest each))

-- the same term over other names for what is there
abbrev pub term_map : {B C : Type 0} → (B → C) → Term B → Term C
term_map h bot = bot
term_map h top = top
term_map h bool = bool
term_map h int = int
term_map h (var x) = var x
term_map h (arrow i j) = arrow i j
term_map h (rcd fields) = rcd fields
term_map h (join t u) = join (term_map h t) (term_map h u)
term_map h (meet t u) = meet (term_map h t) (term_map h u)
term_map h (base b) = base (h b)
term_map h (member k) = member k

pub term_value-map : {B C : Type 0} (h : B → C) (v : ℕ → Predicate) (given : B → Predicate) (given' : C → Predicate) → ((b : B) → given' (h b) ≡ given b) → (f : ℕ → Predicate) (t : Term B) → term_value v given' f (term_map h t) ≡ term_value v given f t
term_value-map h v given given' same f bot = refl
term_value-map h v given given' same f top = refl
term_value-map h v given given' same f bool = refl
term_value-map h v given given' same f int = refl
term_value-map h v given given' same f (var x) = refl
term_value-map h v given given' same f (arrow i j) = refl
term_value-map h v given given' same f (rcd fields) = refl
term_value-map h v given given' same f (join t u) = λ i. predicate.join (term_value-map h v given given' same f t i) (term_value-map h v given given' same f u i)
term_value-map h v given given' same f (meet t u) = λ i. predicate.meet (term_value-map h v given given' same f t i) (term_value-map h v given given' same f u i)
term_value-map h v given given' same f (base b) = same b
term_value-map h v given given' same f (member k) = refl

pub IsTerm-map : {B C : Type 0} (h : B → C) (There : B → Type 0) (There' : C → Type 0) → ((b : B) → There b → There' (h b)) → (n k : ℕ) (t : Term B) → IsTerm There n k t → IsTerm There' n k (term_map h t)
IsTerm-map h There There' there n k bot is = is
IsTerm-map h There There' there n k top is = is
IsTerm-map h There There' there n k bool is = is
IsTerm-map h There There' there n k int is = is
IsTerm-map h There There' there n k (var x) is = is
IsTerm-map h There There' there n k (arrow i j) is = is
IsTerm-map h There There' there n k (rcd fields) is = is
IsTerm-map h There There' there n k (join t u) is = (IsTerm-map h There There' there n k t is.0, IsTerm-map h There There' there n k u is.1)
IsTerm-map h There There' there n k (meet t u) is = (IsTerm-map h There There' there n k t is.0, IsTerm-map h There There' there n k u is.1)
IsTerm-map h There There' there n k (base b) is = there b is
IsTerm-map h There There' there n k (member j) is = is

-- a node of a book as a term, where the variables are what is there
abbrev pub term_of : {B : Type 0} → (ℕ → B) → Node → Term B
term_of of node.Bot = bot
term_of of node.Top = top
term_of of (node.Var x) = base (of x)
term_of of node.Bool = bool
term_of of node.Int = int
term_of of (node.Arrow j k) = arrow j.0 k.0
term_of of (node.Rcd fields) = rcd fields
term_of of (node.Join j k) = join (member j.0) (member k.0)
term_of of (node.Meet j k) = meet (member j.0) (member k.0)

pub term_value-term_of : {B : Type 0} (of : ℕ → B) (v : ℕ → Predicate) (given : B → Predicate) (f : ℕ → Predicate) (x : Node) → term_value v given f (term_of of x) ≡ node_value (λ x. given (of x)) f x
term_value-term_of of v given f node.Bot = refl
term_value-term_of of v given f node.Top = refl
term_value-term_of of v given f (node.Var x) = refl
term_value-term_of of v given f node.Bool = refl
term_value-term_of of v given f node.Int = refl
term_value-term_of of v given f (node.Arrow j k) = refl
term_value-term_of of v given f (node.Rcd fields) = refl
term_value-term_of of v given f (node.Join j k) = refl
term_value-term_of of v given f (node.Meet j k) = refl

pub IsTerm-term_of : {B : Type 0} (of : ℕ → B) (There : B → Type 0) → ((x : ℕ) → There (of x)) → (n k : ℕ) (x : Node) → IsOrdered k x → HasChildrenIn (λ j. j < n) x → IsTerm There n k (term_of of x)
IsTerm-term_of of There there n k node.Bot ordered within = tt
IsTerm-term_of of There there n k node.Top ordered within = tt
IsTerm-term_of of There there n k (node.Var x) ordered within = there x
IsTerm-term_of of There there n k node.Bool ordered within = tt
IsTerm-term_of of There there n k node.Int ordered within = tt
IsTerm-term_of of There there n k (node.Arrow i j) ordered within = within
IsTerm-term_of of There there n k (node.Rcd fields) ordered within = (ordered, within)
IsTerm-term_of of There there n k (node.Join i j) ordered within = ordered
IsTerm-term_of of There there n k (node.Meet i j) ordered within = ordered
