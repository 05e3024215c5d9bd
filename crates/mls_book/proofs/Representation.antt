-- Every system of equations over a closed book is solved by nodes of a longer closed book.
--     system_represented     for all readings of variables at once: a place for each member
--     IsIn, Given            a predicate of a node of a book
--     family_held            a family that solves a system over such predicates is one of nodes of a longer book
--     substituted_held       the nodes of a book under a substitution are nodes of a longer second book
use Rattle.std.proofs.Common.{◌≡◌, ◌⊎◌, inl, inr, ℕ, zero, suc, ◌+◌, ◌<◌, ◌≤◌, List, [], ◌∷◌, ◌++◌, map, length, refl, sym, ap, ◌∙◌, subst, arith, length-append}
use Rattle.std.proofs.Math.ListN.{get_or-append}
use Rattle.std.proofs.lemmas.List.{get_or-append-add}
use Rattle.mls_book.specs.declared.book.Node.{Node}
use Rattle.mls_book.specs.declared.book.NodeId.{NodeId}
use Rattle.mls_book.specs.declared.book.Node.TheVariants as node
use Rattle.mls_book.specs.Books.{node_at, IsBook, IsClosedBook}
use Rattle.mls_book.specs.Predicates as predicate
use Rattle.mls_book.specs.Predicates.{Predicate}
use Rattle.mls_book.specs.Passes.{passes, passes_by}
use Rattle.mls_book.specs.Schemes.{Substitution}
use Rattle.mls_book.proofs.Table.{value_at}
use Rattle.mls_book.proofs.Lattice.{join_self}
use Rattle.mls_book.proofs.Children.{closed_children}
use Rattle.mls_book.proofs.Guarded.{passes_by-unique}
use Rattle.mls_book.proofs.LongerBooks.{AllFrom, Stand, AllFrom-append, AllFrom-first, AllFrom-second, AllFrom-one, below_or_more, IsGood, closed_from, closed_all, Extends, Extends-value, renamed_field, AreRising-renamed, fields_below-renamed, field_values-renamed, Holds}
use Rattle.mls_book.proofs.Systems.{Term, bot, top, bool, int, var, arrow, rcd, join, meet, base, member, term_value, IsTerm, IsSystem, IsSolution, solution_unique, term_map, term_value-map, IsTerm-map, term_of, term_value-term_of, IsTerm-term_of}

-- how many nodes of a term come before its own
abbrev before : Term ℕ → ℕ
before (join t u) = suc (before t) + suc (before u)
before (meet t u) = suc (before t) + suc (before u)
before _ = 0

abbrev id : ℕ → NodeId
id i = record { 0 = i }

-- the nodes of a term from a number on, where the members stand at `place`
abbrev emitted : (ℕ → ℕ) → Term ℕ → ℕ → List Node
emitted place bot a = node.Bot ∷ []
emitted place top a = node.Top ∷ []
emitted place bool a = node.Bool ∷ []
emitted place int a = node.Int ∷ []
emitted place (var x) a = node.Var x ∷ []
emitted place (arrow i j) a = node.Arrow (id (place i)) (id (place j)) ∷ []
emitted place (rcd fields) a = node.Rcd (map (renamed_field place) fields) ∷ []
emitted place (join t u) a = emitted place t a ++ (emitted place u (a + suc (before t)) ++ node.Join (id (a + before t)) (id (a + suc (before t) + before u)) ∷ [])
emitted place (meet t u) a = emitted place t a ++ (emitted place u (a + suc (before t)) ++ node.Meet (id (a + before t)) (id (a + suc (before t) + before u)) ∷ [])
emitted place (base i) a = node.Join (id i) (id i) ∷ []
emitted place (member k) a = node.Join (id (place k)) (id (place k)) ∷ []

length-three : (xs ys : List Node) (x : Node) (n m : ℕ) → length xs ≡ n → length ys ≡ m → length (xs ++ (ys ++ x ∷ [])) ≡ suc (n + m)
length-three xs ys x n m is is' =
    let outer : length (xs ++ (ys ++ x ∷ [])) ≡ length xs + length (ys ++ x ∷ []) = length-append xs (ys ++ x ∷ []) in
    let inner : length (ys ++ x ∷ []) ≡ length ys + 1 = length-append ys (x ∷ []) in
    omega arith

length-emitted : (place : ℕ → ℕ) (t : Term ℕ) (a : ℕ) → length (emitted place t a) ≡ suc (before t)
length-emitted place bot a = refl
length-emitted place top a = refl
length-emitted place bool a = refl
length-emitted place int a = refl
length-emitted place (var x) a = refl
length-emitted place (arrow i j) a = refl
length-emitted place (rcd fields) a = refl
length-emitted place (join t u) a = length-three _ _ _ (suc (before t)) (suc (before u)) (length-emitted place t a) (length-emitted place u (a + suc (before t)))
length-emitted place (meet t u) a = length-three _ _ _ (suc (before t)) (suc (before u)) (length-emitted place t a) (length-emitted place u (a + suc (before t)))
length-emitted place (base i) a = refl
length-emitted place (member k) a = refl

-- three parts in a row
three : (G : ℕ → Node → Type 0) (a : ℕ) (xs ys : List Node) (x : Node) (n m : ℕ) → length xs ≡ n → length ys ≡ m → AllFrom G a xs → AllFrom G (a + n) ys → G (a + n + m) x → AllFrom G a (xs ++ (ys ++ x ∷ []))
three G a xs ys x n m is is' first second third =
    AllFrom-append G a xs (ys ++ x ∷ []) first
    (AllFrom-append G (a + length xs) ys (x ∷ [])
    (subst (λ n. AllFrom G (a + n) ys) (sym is) second)
    (AllFrom-one G (a + length xs + length ys) x
    (subst (λ n. G n x) (let at : a + n + m ≡ a + length xs + length ys = omega arith in at) third)))

first_of_three : (G : ℕ → Node → Type 0) (a : ℕ) (xs ys : List Node) (x : Node) → AllFrom G a (xs ++ (ys ++ x ∷ [])) → AllFrom G a xs
first_of_three G a xs ys x all = AllFrom-first G a xs (ys ++ x ∷ []) all

second_of_three : (G : ℕ → Node → Type 0) (a : ℕ) (xs ys : List Node) (x : Node) (n : ℕ) → length xs ≡ n → AllFrom G a (xs ++ (ys ++ x ∷ [])) → AllFrom G (a + n) ys
second_of_three G a xs ys x n is all =
    subst (λ n. AllFrom G (a + n) ys) is
    (AllFrom-first G (a + length xs) ys (x ∷ []) (AllFrom-second G a xs (ys ++ x ∷ []) all))

third_of_three : (G : ℕ → Node → Type 0) (a : ℕ) (xs ys : List Node) (x : Node) (n m : ℕ) → length xs ≡ n → length ys ≡ m → AllFrom G a (xs ++ (ys ++ x ∷ [])) → G (a + (n + m)) x
third_of_three G a xs ys x n m is is' all =
    subst (λ k. G k x) (let at : a + length xs + length ys + 0 ≡ a + (n + m) = omega arith in at)
    (AllFrom-second G (a + length xs) ys (x ∷ []) (AllFrom-second G a xs (ys ++ x ∷ []) all) 0 (omega arith))

one : (G : ℕ → Node → Type 0) (a : ℕ) (x : Node) → AllFrom G a (x ∷ []) → G (a + 0) x
one G a x all = all 0 (omega arith)

-- the nodes of a term are good, where what is there and the members before stand before, and all members in range
module _ (m n k low high : ℕ) (place : ℕ → ℕ) (within : (j : ℕ) → j < n → place j < high) (earlier : (j : ℕ) → j < k → place j < low) (there : m ≤ low) where
  emitted-good : (t : Term ℕ) (a : ℕ) → IsTerm (λ i. i < m) n k t → low ≤ a → a + before t < high → AllFrom (IsGood high) a (emitted place t a)
  emitted-good bot a is le lt = AllFrom-one (IsGood high) a node.Bot (record { ordered = tt; below = tt })
  emitted-good top a is le lt = AllFrom-one (IsGood high) a node.Top (record { ordered = tt; below = tt })
  emitted-good bool a is le lt = AllFrom-one (IsGood high) a node.Bool (record { ordered = tt; below = tt })
  emitted-good int a is le lt = AllFrom-one (IsGood high) a node.Int (record { ordered = tt; below = tt })
  emitted-good (var x) a is le lt = AllFrom-one (IsGood high) a (node.Var x) (record { ordered = tt; below = tt })
  emitted-good (arrow i j) a is le lt =
      AllFrom-one (IsGood high) a (node.Arrow (id (place i)) (id (place j)))
      (record { ordered = tt; below = (within i is.0, within j is.1) })
  emitted-good (rcd fields) a is le lt =
      AllFrom-one (IsGood high) a (node.Rcd (map (renamed_field place) fields))
      (record { ordered = AreRising-renamed place fields is.0; below = fields_below-renamed place n high within fields is.1 })
  emitted-good (join t u) a is le lt =
      three (IsGood high) a (emitted place t a) (emitted place u (a + suc (before t))) (node.Join (id (a + before t)) (id (a + suc (before t) + before u)))
      (suc (before t)) (suc (before u)) (length-emitted place t a) (length-emitted place u (a + suc (before t)))
      (emitted-good t a is.0 le (omega arith))
      (emitted-good u (a + suc (before t)) is.1 (omega arith) (omega arith))
      (record { ordered = (omega arith, omega arith); below = (omega arith, omega arith) })
  emitted-good (meet t u) a is le lt =
      three (IsGood high) a (emitted place t a) (emitted place u (a + suc (before t))) (node.Meet (id (a + before t)) (id (a + suc (before t) + before u)))
      (suc (before t)) (suc (before u)) (length-emitted place t a) (length-emitted place u (a + suc (before t)))
      (emitted-good t a is.0 le (omega arith))
      (emitted-good u (a + suc (before t)) is.1 (omega arith) (omega arith))
      (record { ordered = (omega arith, omega arith); below = (omega arith, omega arith) })
  emitted-good (base i) a is le lt =
      AllFrom-one (IsGood high) a (node.Join (id i) (id i))
      (record { ordered = (omega arith, omega arith); below = (omega arith, omega arith) })
  emitted-good (member j) a is le lt =
      let h : place j < low = earlier j is in
      AllFrom-one (IsGood high) a (node.Join (id (place j)) (id (place j)))
      (record { ordered = (omega arith, omega arith); below = (omega arith, omega arith) })

-- where its nodes stand in a book, the last of them has the value of the term
module _ (v : ℕ → Predicate) (b : List Node) (book : IsBook b) (given : ℕ → Predicate) (m n k : ℕ) (place : ℕ → ℕ) (there : (i : ℕ) → i < m → passes_by v b i ≡ given i) where
  abbrev value : ℕ → Predicate
  value = passes_by v b

  abbrev f : ℕ → Predicate
  f j = value (place j)

  emitted-value : (t : Term ℕ) (a : ℕ) → IsTerm (λ i. i < m) n k t → Stand b a (emitted place t a) → value (a + before t) ≡ term_value v given f t
  emitted-value bot a is stand = value_at v b book (a + 0) node.Bot (one (λ i x. node_at b i ≡ x) a node.Bot stand)
  emitted-value top a is stand = value_at v b book (a + 0) node.Top (one (λ i x. node_at b i ≡ x) a node.Top stand)
  emitted-value bool a is stand = value_at v b book (a + 0) node.Bool (one (λ i x. node_at b i ≡ x) a node.Bool stand)
  emitted-value int a is stand = value_at v b book (a + 0) node.Int (one (λ i x. node_at b i ≡ x) a node.Int stand)
  emitted-value (var x) a is stand = value_at v b book (a + 0) (node.Var x) (one (λ i x. node_at b i ≡ x) a (node.Var x) stand)
  emitted-value (arrow i j) a is stand =
      value_at v b book (a + 0) (node.Arrow (id (place i)) (id (place j))) (one (λ i x. node_at b i ≡ x) a (node.Arrow (id (place i)) (id (place j))) stand)
  emitted-value (rcd fields) a is stand =
      value_at v b book (a + 0) (node.Rcd (map (renamed_field place) fields)) (one (λ i x. node_at b i ≡ x) a (node.Rcd (map (renamed_field place) fields)) stand)
      ∙ ap predicate.rcd (field_values-renamed place value fields)
  emitted-value (join t u) a is stand =
      let xs : List Node = emitted place t a in
      let ys : List Node = emitted place u (a + suc (before t)) in
      let x : Node = node.Join (id (a + before t)) (id (a + suc (before t) + before u)) in
      let is_xs : length xs ≡ suc (before t) = length-emitted place t a in
      let is_ys : length ys ≡ suc (before u) = length-emitted place u (a + suc (before t)) in
      let at : ℕ → Node → Type 0 = λ i x. node_at b i ≡ x in
      value_at v b book (a + (suc (before t) + suc (before u))) x (third_of_three at a xs ys x (suc (before t)) (suc (before u)) is_xs is_ys stand)
      ∙ (λ i. predicate.join
      (emitted-value t a is.0 (first_of_three at a xs ys x stand) i)
      (emitted-value u (a + suc (before t)) is.1 (second_of_three at a xs ys x (suc (before t)) is_xs stand) i))
  emitted-value (meet t u) a is stand =
      let xs : List Node = emitted place t a in
      let ys : List Node = emitted place u (a + suc (before t)) in
      let x : Node = node.Meet (id (a + before t)) (id (a + suc (before t) + before u)) in
      let is_xs : length xs ≡ suc (before t) = length-emitted place t a in
      let is_ys : length ys ≡ suc (before u) = length-emitted place u (a + suc (before t)) in
      let at : ℕ → Node → Type 0 = λ i x. node_at b i ≡ x in
      value_at v b book (a + (suc (before t) + suc (before u))) x (third_of_three at a xs ys x (suc (before t)) (suc (before u)) is_xs is_ys stand)
      ∙ (λ i. predicate.meet
      (emitted-value t a is.0 (first_of_three at a xs ys x stand) i)
      (emitted-value u (a + suc (before t)) is.1 (second_of_three at a xs ys x (suc (before t)) is_xs stand) i))
  emitted-value (base i) a is stand =
      value_at v b book (a + 0) (node.Join (id i) (id i)) (one (λ i x. node_at b i ≡ x) a (node.Join (id i) (id i)) stand)
      ∙ (join_self (value i) ∙ there i is)
  emitted-value (member j) a is stand =
      value_at v b book (a + 0) (node.Join (id (place j)) (id (place j))) (one (λ i x. node_at b i ≡ x) a (node.Join (id (place j)) (id (place j))) stand)
      ∙ join_self (value (place j))

-- the places of a system's members behind the nodes of a closed book, and the book
module _ (b : List Node) (closed : IsClosedBook b) (n : ℕ) (term : ℕ → Term ℕ) (is : IsSystem (λ i. i < length b) n term) where
  start : ℕ → ℕ
  start zero = length b
  start (suc k) = start k + suc (before (term k))

  place : ℕ → ℕ
  place k = start k + before (term k)

  built : ℕ → List Node
  built zero = b
  built (suc k) = built k ++ emitted place (term k) (start k)

  length-built : (k : ℕ) → length (built k) ≡ start k
  unfolding built start
  length-built zero = refl
  length-built (suc k) =
      length-append (built k) (emitted place (term k) (start k))
      ∙ (λ i. length-built k i + length-emitted place (term k) (start k) i)

  start-more : (j k : ℕ) → start j ≤ start (j + k)
  unfolding start
  start-more j zero = let at : j ≡ j + 0 = omega arith in subst (λ i. start j ≤ start i) at (omega arith)
  start-more j (suc k) =
      let at : suc (j + k) ≡ j + suc k = omega arith in
      let less : start j ≤ start (j + k) = start-more j k in
      subst (λ i. start j ≤ start i) at (omega arith)

  start-le : (j k : ℕ) → j ≤ k → start j ≤ start k
  start-le j k le = go (below_or_more k j)
    where
      go : (k < j) ⊎ ((i : ℕ) × (k ≡ j + i)) → start j ≤ start k
      go (inl h) = absurd (omega arith)
      go (inr h) = subst (λ i. start j ≤ start i) (sym h.1) (start-more j h.0)

  place-below : (j k : ℕ) → j < k → place j < start k
  unfolding start place
  place-below j k lt = let next : start j + suc (before (term j)) ≤ start k = start-le (suc j) k (omega arith) in omega arith

  behind : (k : ℕ) → length b ≤ start k
  unfolding start
  behind k = start-le 0 k (omega arith)

  built-good : (k : ℕ) → k ≤ n → AllFrom (IsGood (start n)) 0 (built k)
  unfolding built start place
  built-good zero le = closed_all b closed (start n) (behind n)
  built-good (suc k) le =
      AllFrom-append (IsGood (start n)) 0 (built k) (emitted place (term k) (start k)) (built-good k (omega arith))
      (let at : start k ≡ 0 + length (built k) = let all : length (built k) ≡ start k = length-built k in omega arith in
      subst (λ a. AllFrom (IsGood (start n)) a (emitted place (term k) (start k))) at
      (emitted-good (length b) n k (start k) (start n) place
      (λ j lt. place-below j n lt)
      (λ j lt. place-below j k lt)
      (behind k) (term k) (start k) (is k (omega arith)) (omega arith)
      (let next : start k + suc (before (term k)) ≤ start n = start-le (suc k) n le in omega arith)))

  closed-built : IsClosedBook (built n)
  closed-built = closed_from (built n) (subst (λ m. AllFrom (IsGood m) 0 (built n)) (sym (length-built n)) (built-good n (omega arith)))

  -- the nodes of the book stand first
  begins : (m i : ℕ) → i < length b → node_at (built m) i ≡ node_at b i
  unfolding built
  begins zero i low = refl
  begins (suc m) i low =
      get_or-append (built m) (emitted place (term m) (start m)) node.Bot i
      (let all : length (built m) ≡ start m = length-built m in let le : length b ≤ start m = behind m in omega arith)
      ∙ begins m i low

  -- and then the nodes of each member
  stands : (m k : ℕ) → k < m → Stand (built m) (start k) (emitted place (term k) (start k))
  unfolding built start
  stands zero k lt = absurd (omega arith)
  stands (suc m) k lt = go (below_or_more k m) (stands m)
    where
      go : (k < m) ⊎ ((j : ℕ) × (k ≡ m + j)) → ((k : ℕ) → k < m → Stand (built m) (start k) (emitted place (term k) (start k))) → Stand (built (suc m)) (start k) (emitted place (term k) (start k))
      go (inl h) earlier = λ i low.
          get_or-append (built m) (emitted place (term m) (start m)) node.Bot (start k + i)
          (let all : length (built m) ≡ start m = length-built m in
          let next : start k + suc (before (term k)) ≤ start m = start-le (suc k) m h in
          let size : length (emitted place (term k) (start k)) ≡ suc (before (term k)) = length-emitted place (term k) (start k) in
          omega arith)
          ∙ earlier k h i low
      go (inr h) earlier =
          let same : m ≡ k = let at : k ≡ m + h.0 = h.1 in omega arith in
          subst (λ k. Stand (built (suc m)) (start k) (emitted place (term k) (start k))) same
          (subst (λ a. Stand (built (suc m)) a (emitted place (term m) (start m))) (length-built m)
          (λ i low. get_or-append-add (built m) (emitted place (term m) (start m)) i node.Bot))

  extends-built : Extends b (built n)
  extends-built = record {
    closed = closed-built;
    longer = let all : length (built n) ≡ start n = length-built n in let le : length b ≤ start n = behind n in omega arith;
    same = begins n;
  }

  in_range-built : (k : ℕ) → k < n → place k < length (built n)
  in_range-built k low = let all : length (built n) ≡ start n = length-built n in let lt : place k < start n = place-below k n low in omega arith

  solves-built : (v : ℕ → Predicate) → IsSolution v (passes_by v b) n term (λ k. passes_by v (built n) (place k))
  unfolding place
  solves-built v k low =
      emitted-value v (built n) closed-built.book (passes_by v b) (length b) n k place
      (Extends-value b (built n) closed extends-built v)
      (term k) (start k) (is k low) (stands n k low)

-- a longer closed book with a place for each member of a system, at which it is solved, however variables are read
pub record Represents (b : List Node) (n : ℕ) (term : ℕ → Term ℕ) : Type 0 where
  pub book : List Node
  pub extends : Extends b book
  pub place : ℕ → ℕ
  pub in_range : (k : ℕ) → k < n → place k < length book
  pub solves : (v : ℕ → Predicate) → IsSolution v (passes_by v b) n term (λ k. passes_by v book (place k))

pub system_represented : (b : List Node) → IsClosedBook b → (n : ℕ) (term : ℕ → Term ℕ) → IsSystem (λ i. i < length b) n term → Represents b n term
system_represented b closed n term is = record {
  book = built b closed n term is n;
  extends = extends-built b closed n term is;
  place = place b closed n term is;
  in_range = in_range-built b closed n term is;
  solves = solves-built b closed n term is;
}

-- a node of the book passes just this
abbrev pub IsIn : List Node → Predicate → Type 0
IsIn b f = (i : ℕ) × (i < length b) × (passes b i ≡ f)

pub IsIn-longer : (b c : List Node) (f : Predicate) → IsClosedBook b → Extends b c → IsIn b f → IsIn c f
IsIn-longer b c f closed more it =
    let low : it.0 < length b = it.1 in
    let le : length b ≤ length c = more.longer in
    (it.0, omega arith, Extends-value b c closed more predicate.var it.0 low ∙ it.2)

pub IsIn-same : (b : List Node) (f g : Predicate) → f ≡ g → IsIn b f → IsIn b g
IsIn-same b f g same it = (it.0, it.1, it.2 ∙ same)

-- also where another book holds the values
pub IsIn-held : (b c : List Node) (place : ℕ → ℕ) (f : Predicate) → Holds b c place → IsIn b f → IsIn c f
IsIn-held b c place f holds it = (place it.0, holds.in_range it.0 it.1, holds.value predicate.var it.0 it.1 ∙ it.2)

-- a predicate of a node of the book
pub record Given (b : List Node) : Type 0 where
  pub predicate : Predicate
  pub held : IsIn b predicate

pub given_node : (b : List Node) (i : ℕ) → i < length b → Given b
given_node b i low = record { predicate = passes b i; held = (i, low, refl) }

pub Given-longer : (b c : List Node) → IsClosedBook b → Extends b c → Given b → Given c
Given-longer b c closed more given = record { predicate = given.predicate; held = IsIn-longer b c given.predicate closed more given.held }

-- any name for what is given will do
abbrev pub Any : {b : List Node} → Given b → Type 0
Any given = Unit {0}

abbrev pub predicate_of : {b : List Node} → Given b → Predicate
predicate_of given = given.predicate

-- a family that solves a system over predicates of a closed book's nodes is one of nodes of a longer book
pub family_held : (b : List Node) → IsClosedBook b → (n : ℕ) (term : ℕ → Term (Given b)) → IsSystem Any n term → (f : ℕ → Predicate) → IsSolution predicate.var predicate_of n term f → (c : List Node) × Extends b c × ((k : ℕ) → k < n → IsIn c (f k))
family_held b closed n term is f solved =
    let node_of : Given b → ℕ = λ given. given.held.0 in
    let bare : ℕ → Term ℕ = λ k. term_map node_of (term k) in
    let is_bare : IsSystem (λ i. i < length b) n bare = λ k low. IsTerm-map node_of Any (λ i. i < length b) (λ given there. given.held.1) n k (term k) (is k low) in
    let it : Represents b n bare = system_represented b closed n bare is_bare in
    let solved' : IsSolution predicate.var (passes b) n bare f = λ k low. solved k low ∙ sym (term_value-map node_of predicate.var predicate_of (passes b) (λ given. given.held.2) f (term k)) in (
      it.book,
      it.extends,
      λ k low. (
        it.place k,
        it.in_range k low,
        solution_unique (λ i. i < length b) predicate.var (passes b) n bare is_bare (λ k. passes it.book (it.place k)) f (it.solves predicate.var) solved' k low,
      ),
    )

-- the book has at these places the nodes of the first, where each variable stands for its node of the substitution
pub record HoldsUnder (r : Substitution) (b c : List Node) (place : ℕ → ℕ) : Type 0 where
  pub in_range : (i : ℕ) → i < length b → place i < length c
  pub value : (v : ℕ → Predicate) (i : ℕ) → i < length b → passes_by v c (place i) ≡ passes_by (λ x. passes_by v r.book (r.node_of x)) b i

pub substituted_held : (r : Substitution) (b : List Node) → IsClosedBook b → (c : List Node) × Extends r.book c × ((place : ℕ → ℕ) × HoldsUnder r b c place)
substituted_held r b closed =
    let term : ℕ → Term ℕ = λ i. term_of r.node_of (node_at b i) in
    let is : IsSystem (λ i. i < length r.book) (length b) term = λ k low. IsTerm-term_of r.node_of (λ i. i < length r.book) r.in_range (length b) k (node_at b k) (closed.book k) (closed_children b closed.closed k low) in
    let it : Represents r.book (length b) term = system_represented r.book r.closed (length b) term is in (
      it.book,
      it.extends,
      (
        it.place,
        record {
          in_range = it.in_range;
          value = λ v.
              passes_by-unique (λ x. passes_by v r.book (r.node_of x)) b closed (λ i. passes_by v it.book (it.place i))
              (λ i low. it.solves v i low ∙ term_value-term_of r.node_of v (passes_by v r.book) (λ k. passes_by v it.book (it.place k)) (node_at b i));
        },
      ),
    )
