-- Books that begin with, or hold moved, the nodes of another book. Values stay.
use Rattle.std.proofs.Common.{◌≡◌, ◌⊎◌, inl, inr, ℕ, zero, suc, ◌+◌, ◌-◌, ◌<◌, ◌≤◌, true, false, List, [], ◌∷◌, ◌++◌, map, length, refl, sym, ap, ◌∙◌, subst, arith, length-append, Some, None}
use Rattle.std.specs.Prelude.{All, get_or, Option, option_map, bytes_eq, find, cond}
use Rattle.std.specs.Cmp.Lexicographic.{slice_cmp}
use Rattle.std.specs.Ordering.{nat_cmp}
use Rattle.std.specs.declared.cmp.Ordering.TheVariants.{Less}
use Rattle.std.proofs.Math.ListN.{get_or-append, get_or-map}
use Rattle.std.proofs.lemmas.List.{get_or-append-add, length-map}
use Rattle.std.proofs.lemmas.List.Elements.{All-map}
use Rattle.std.proofs.lemmas.Bool.Decides.{leb_tells}
use Rattle.mls_book.specs.declared.book.Field.{Field}
use Rattle.mls_book.specs.declared.book.Node.{Node}
use Rattle.mls_book.specs.declared.book.NodeId.{NodeId}
use Rattle.mls_book.specs.declared.book.Node.TheVariants as node
use Rattle.mls_book.specs.Books.{node_at, field_at, AreRising, IsOrdered, IsBook, HasChildrenBelow, IsClosedBook}
use Rattle.mls_book.specs.Predicates.{Predicate, rcd}
use Rattle.mls_book.specs.Passes.{passes_by, node_value, field_values}
use Rattle.mls_book.proofs.Table.{passes_by-value, value_at}
use Rattle.mls_book.proofs.Children.{HasChildrenIn-more, children_below}
use Rattle.mls_book.proofs.Guarded.{node_value-same, passes_by-unique}

-- a number is below another, or it is that and some more
pub below_or_more : (i n : ℕ) → (i < n) ⊎ ((j : ℕ) × (i ≡ n + j))
below_or_more i n = elim (leb_tells (suc i) n) [
  | inl h ↦ inl h.1
  | inr h ↦ inr (i - n, omega arith)
]

-- G holds of each node of the list, where the first one has this number
abbrev pub AllFrom : (ℕ → Node → Type 0) → ℕ → List Node → Type 0
AllFrom G a nodes = (i : ℕ) → i < length nodes → G (a + i) (node_at nodes i)

-- the book has these nodes from this number on
abbrev pub Stand : List Node → ℕ → List Node → Type 0
Stand b = AllFrom (λ i x. node_at b i ≡ x)

pub AllFrom-append : (G : ℕ → Node → Type 0) (a : ℕ) (xs ys : List Node) → AllFrom G a xs → AllFrom G (a + length xs) ys → AllFrom G a (xs ++ ys)
AllFrom-append G a xs ys first second i low = go (below_or_more i (length xs))
  where
    go : (i < length xs) ⊎ ((j : ℕ) × (i ≡ length xs + j)) → G (a + i) (node_at (xs ++ ys) i)
    go (inl h) = subst (G (a + i)) (sym (get_or-append xs ys node.Bot i h)) (first i h)
    go (inr h) =
        let is : i ≡ length xs + h.0 = h.1 in
        let lower : h.0 < length ys = let all : length (xs ++ ys) ≡ length xs + length ys = length-append xs ys in omega arith in
        let at : a + length xs + h.0 ≡ a + i = omega arith in
        subst (λ n. G n (node_at (xs ++ ys) i)) at
        (subst (G (a + length xs + h.0)) (sym (ap (node_at (xs ++ ys)) is ∙ get_or-append-add xs ys h.0 node.Bot)) (second h.0 lower))

pub AllFrom-first : (G : ℕ → Node → Type 0) (a : ℕ) (xs ys : List Node) → AllFrom G a (xs ++ ys) → AllFrom G a xs
AllFrom-first G a xs ys all i low =
    let lower : i < length (xs ++ ys) = let both : length (xs ++ ys) ≡ length xs + length ys = length-append xs ys in omega arith in
    subst (G (a + i)) (get_or-append xs ys node.Bot i low) (all i lower)

pub AllFrom-second : (G : ℕ → Node → Type 0) (a : ℕ) (xs ys : List Node) → AllFrom G a (xs ++ ys) → AllFrom G (a + length xs) ys
AllFrom-second G a xs ys all i low =
    let lower : length xs + i < length (xs ++ ys) = let both : length (xs ++ ys) ≡ length xs + length ys = length-append xs ys in omega arith in
    let at : a + (length xs + i) ≡ a + length xs + i = omega arith in
    subst (λ n. G n (node_at ys i)) at (subst (G (a + (length xs + i))) (get_or-append-add xs ys i node.Bot) (all (length xs + i) lower))

-- one node
pub AllFrom-one : (G : ℕ → Node → Type 0) (a : ℕ) (x : Node) → G a x → AllFrom G a (x ∷ [])
AllFrom-one G a x h zero low = let at : a ≡ a + 0 = omega arith in subst (λ n. G n x) at h
AllFrom-one G a x h (suc i) low = absurd (omega arith)

-- the nodes past the end are `Bot`
past : (b : List Node) (i : ℕ) → length b ≤ i → node_at b i ≡ node.Bot
past [] i h = refl
past (x ∷ rest) zero h = absurd (omega arith)
past (x ∷ rest) (suc i) h = past rest i (omega arith)

-- what a closed book asks of a node, where it has this many
pub record IsGood (n i : ℕ) (x : Node) : Type 0 where
  pub ordered : IsOrdered i x
  pub below : HasChildrenBelow n x

pub closed_from : (b : List Node) → AllFrom (IsGood (length b)) 0 b → IsClosedBook b
closed_from b all = record {
  book = λ i. go i (below_or_more i (length b));
  closed = closed 0 b (λ i low. (all i low).below);
}
  where
    go : (i : ℕ) → (i < length b) ⊎ ((j : ℕ) × (i ≡ length b + j)) → IsOrdered i (node_at b i)
    go i (inl low) = subst (λ n. IsOrdered n (node_at b i)) (let at : 0 + i ≡ i = omega arith in at) (all i low).ordered
    go i (inr h) = let is : i ≡ length b + h.0 = h.1 in subst (IsOrdered i) (sym (past b i (omega arith))) tt

    closed : (a : ℕ) (xs : List Node) → ((i : ℕ) → i < length xs → HasChildrenBelow (length b) (node_at xs i)) → All (HasChildrenBelow (length b)) xs
    closed a [] each i d low = absurd (omega arith)
    closed a (x ∷ rest) each zero d low = each 0 low
    closed a (x ∷ rest) each (suc i) d low = closed a rest (λ j h. each (suc j) (omega arith)) i d (omega arith)

pub HasChildrenBelow-more : (n m : ℕ) → n ≤ m → (x : Node) → HasChildrenBelow n x → HasChildrenBelow m x
HasChildrenBelow-more n m le node.Bot below = tt
HasChildrenBelow-more n m le node.Top below = tt
HasChildrenBelow-more n m le (node.Var x) below = tt
HasChildrenBelow-more n m le node.Bool below = tt
HasChildrenBelow-more n m le node.Int below = tt
HasChildrenBelow-more n m le (node.Arrow j k) below = (omega arith, omega arith)
HasChildrenBelow-more n m le (node.Rcd fields) below = λ i d h. let one : (get_or fields i d).node.0 < n = below i d h in omega arith
HasChildrenBelow-more n m le (node.Join j k) below = (omega arith, omega arith)
HasChildrenBelow-more n m le (node.Meet j k) below = (omega arith, omega arith)

pub closed_all : (b : List Node) → IsClosedBook b → (n : ℕ) → length b ≤ n → AllFrom (IsGood n) 0 b
closed_all b closed n le i low = record {
  ordered = let at : i ≡ 0 + i = omega arith in subst (λ m. IsOrdered m (node_at b i)) at (closed.book i);
  below = HasChildrenBelow-more (length b) n le (node_at b i) (closed.closed i node.Bot low);
}

-- the second is a closed book that begins with the nodes of the first
pub record Extends (b c : List Node) : Type 0 where
  pub closed : IsClosedBook c
  pub longer : length b ≤ length c
  pub same : (i : ℕ) → i < length b → node_at c i ≡ node_at b i

pub Extends-refl : (b : List Node) → IsClosedBook b → Extends b b
Extends-refl b closed = record { closed = closed; longer = omega arith; same = λ i low. refl }

pub Extends-trans : (b c d : List Node) → Extends b c → Extends c d → Extends b d
Extends-trans b c d first second =
    let le : length b ≤ length c = first.longer in
    let le' : length c ≤ length d = second.longer in
    record {
      closed = second.closed;
      longer = omega arith;
      same = λ i low. second.same i (omega arith) ∙ first.same i low;
    }

-- what the nodes of the first pass stays as it was
pub Extends-value : (b c : List Node) → IsClosedBook b → Extends b c → (v : ℕ → Predicate) (i : ℕ) → i < length b → passes_by v c i ≡ passes_by v b i
Extends-value b c closed more v =
    passes_by-unique v b closed (passes_by v c)
    (λ i low. passes_by-value v c more.closed.book i ∙ ap (node_value v (passes_by v c)) (more.same i low))

-- a closed book has a longer one with one node more
pub extended_with : (b : List Node) (x : Node) → IsClosedBook b → IsOrdered (length b) x → HasChildrenBelow (suc (length b)) x → (c : List Node) × Extends b c × ((n : ℕ) × (n < length c) × (node_at c n ≡ x))
extended_with b x closed ordered below = (
  b ++ x ∷ [],
  record {
    closed =
        closed_from (b ++ x ∷ [])
        (AllFrom-append (IsGood (length (b ++ x ∷ []))) 0 b (x ∷ [])
        (closed_all b closed (length (b ++ x ∷ [])) (omega (arith, all)))
        (AllFrom-one (IsGood (length (b ++ x ∷ []))) (0 + length b) x
        (record {
          ordered = subst (λ n. IsOrdered n x) (let at : length b ≡ 0 + length b = omega arith in at) ordered;
          below = HasChildrenBelow-more (suc (length b)) (length (b ++ x ∷ [])) (omega (arith, all)) x below;
        })));
    longer = omega (arith, all);
    same = λ i low. get_or-append b (x ∷ []) node.Bot i low;
  },
  (
    length b,
    omega (arith, all),
    (λ k. node_at (b ++ x ∷ []) (zero-more k)) ∙ get_or-append-add b (x ∷ []) 0 node.Bot,
  ),
)
  where
    all : length (b ++ x ∷ []) ≡ suc (length b)
    all = let both : length (b ++ x ∷ []) ≡ length b + 1 = length-append b (x ∷ []) in omega arith

    zero-more : length b ≡ length b + 0
    zero-more = omega arith

-- what it passes, where its children are old
pub extended-value : (b c : List Node) (x : Node) (n : ℕ) → IsClosedBook b → Extends b c → HasChildrenBelow (length b) x → node_at c n ≡ x → (v : ℕ → Predicate) → passes_by v c n ≡ node_value v (passes_by v b) x
extended-value b c x n closed more below is v =
    value_at v c more.closed.book n x is
    ∙ node_value-same v (passes_by v c) (passes_by v b) x
    (HasChildrenIn-more (λ j. j < length b) (λ j. passes_by v c j ≡ passes_by v b j) (Extends-value b c closed more v) x (children_below (length b) x below))

-- the second book has the values of the nodes of the first, at these places
pub record Holds (b c : List Node) (place : ℕ → ℕ) : Type 0 where
  pub in_range : (i : ℕ) → i < length b → place i < length c
  pub value : (v : ℕ → Predicate) (i : ℕ) → i < length b → passes_by v c (place i) ≡ passes_by v b i

pub Extends-holds : (b c : List Node) → IsClosedBook b → Extends b c → Holds b c (λ i. i)
Extends-holds b c closed more =
    let le : length b ≤ length c = more.longer in
    record {
      in_range = λ i low. omega arith;
      value = Extends-value b c closed more;
    }

pub Holds-trans : (b c d : List Node) (place next : ℕ → ℕ) → Holds b c place → Holds c d next → Holds b d (λ i. next (place i))
Holds-trans b c d place next first second = record {
  in_range = λ i low. second.in_range (place i) (first.in_range i low);
  value = λ v i low. second.value v (place i) (first.in_range i low) ∙ first.value v i low;
}

-- a node with other numbers for its children, and other variables
abbrev pub renamed_id : (ℕ → ℕ) → NodeId → NodeId
renamed_id place id = record { 0 = place id.0 }

abbrev pub renamed_field : (ℕ → ℕ) → Field → Field
renamed_field place field = record { label = field.label; node = renamed_id place field.node }

abbrev pub renamed : (place variable : ℕ → ℕ) → Node → Node
renamed place variable node.Bot = node.Bot
renamed place variable node.Top = node.Top
renamed place variable (node.Var x) = node.Var (variable x)
renamed place variable node.Bool = node.Bool
renamed place variable node.Int = node.Int
renamed place variable (node.Arrow j k) = node.Arrow (renamed_id place j) (renamed_id place k)
renamed place variable (node.Rcd fields) = node.Rcd (map (renamed_field place) fields)
renamed place variable (node.Join j k) = node.Join (renamed_id place j) (renamed_id place k)
renamed place variable (node.Meet j k) = node.Meet (renamed_id place j) (renamed_id place k)

pub field_at-renamed : (place : ℕ → ℕ) (label : List ℕ) (fields : List Field) → field_at label (map (renamed_field place) fields) ≡ option_map (renamed_id place) (field_at label fields)
field_at-renamed place label [] = refl
field_at-renamed place label (field ∷ rest) =
    elim (bytes_eq field.label label) as (λ b. option_map (λ (f : Field). f.node) (cond b (Some (renamed_field place field)) (find (λ f. bytes_eq f.label label) (map (renamed_field place) rest))) ≡ option_map (renamed_id place) (option_map (λ (f : Field). f.node) (cond b (Some field) (find (λ f. bytes_eq f.label label) rest)))) [
      | true ↦ refl
      | false ↦ field_at-renamed place label rest
    ]

option_map-renamed : (place : ℕ → ℕ) (f : ℕ → Predicate) (o : Option NodeId) → option_map (λ id. f id.0) (option_map (renamed_id place) o) ≡ option_map (λ id. f (place id.0)) o
option_map-renamed place f None = refl
option_map-renamed place f (Some id) = refl

pub field_values-renamed : (place : ℕ → ℕ) (f : ℕ → Predicate) (fields : List Field) → field_values f (map (renamed_field place) fields) ≡ field_values (λ i. f (place i)) fields
field_values-renamed place f fields = λ k label. (ap (option_map (λ id. f id.0)) (field_at-renamed place label fields) ∙ option_map-renamed place f (field_at label fields)) k

pub node_value-renamed : (place variable : ℕ → ℕ) (v f : ℕ → Predicate) (x : Node) → node_value v f (renamed place variable x) ≡ node_value (λ x. v (variable x)) (λ i. f (place i)) x
node_value-renamed place variable v f node.Bot = refl
node_value-renamed place variable v f node.Top = refl
node_value-renamed place variable v f (node.Var x) = refl
node_value-renamed place variable v f node.Bool = refl
node_value-renamed place variable v f node.Int = refl
node_value-renamed place variable v f (node.Arrow j k) = refl
node_value-renamed place variable v f (node.Rcd fields) = ap rcd (field_values-renamed place f fields)
node_value-renamed place variable v f (node.Join j k) = refl
node_value-renamed place variable v f (node.Meet j k) = refl

-- the second book has the nodes of the first at other places, with other variables
pub record IsCopied (b c : List Node) (place variable : ℕ → ℕ) : Type 0 where
  pub in_range : (i : ℕ) → i < length b → place i < length c
  pub node : (i : ℕ) → i < length b → node_at c (place i) ≡ renamed place variable (node_at b i)

-- they pass what the nodes of the first pass with the variables read so
pub IsCopied-value : (b c : List Node) (place variable : ℕ → ℕ) → IsClosedBook b → IsBook c → IsCopied b c place variable → (v : ℕ → Predicate) (i : ℕ) → i < length b → passes_by v c (place i) ≡ passes_by (λ x. v (variable x)) b i
IsCopied-value b c place variable closed book copied v =
    passes_by-unique (λ x. v (variable x)) b closed (λ i. passes_by v c (place i))
    (λ i low.
    passes_by-value v c book (place i)
    ∙ (ap (node_value v (passes_by v c)) (copied.node i low)
    ∙ node_value-renamed place variable v (passes_by v c) (node_at b i)))

pub AreRising-renamed : (place : ℕ → ℕ) (fields : List Field) → AreRising fields → AreRising (map (renamed_field place) fields)
AreRising-renamed place [] rising = tt
AreRising-renamed place (field ∷ rest) rising = (
  All-map (λ later. slice_cmp nat_cmp field.label later.label ≡ Less) (renamed_field place) rest rising.0,
  AreRising-renamed place rest rising.1,
)

pub fields_below-renamed : (place : ℕ → ℕ) (n m : ℕ) → ((i : ℕ) → i < n → place i < m) → (fields : List Field) → All (λ field. field.node.0 < n) fields → All (λ field. field.node.0 < m) (map (renamed_field place) fields)
fields_below-renamed place n m within fields below = All-map (λ field. field.node.0 < m) (renamed_field place) fields (λ i d h. within _ (below i d h))

-- two books stand in one: the first at its own numbers, the second moved up
module _ (b c : List Node) (closed : IsClosedBook b) (closed' : IsClosedBook c) where
  abbrev up : ℕ → ℕ
  up i = length b + i

  abbrev same : ℕ → ℕ
  same x = x

  abbrev pub both : List Node
  both = b ++ map (renamed up same) c

  length-both : length both ≡ length b + length c
  length-both = length-append b (map (renamed up same) c) ∙ ap (λ n. length b + n) (length-map c (renamed up same))

  node-both : (i : ℕ) → node_at both (length b + i) ≡ renamed up same (node_at c i)
  node-both i = get_or-append-add b (map (renamed up same) c) i node.Bot ∙ get_or-map (renamed up same) c i node.Bot

  good : (n i j : ℕ) (x : Node) → n ≡ length b + length c → j ≡ length b + i → IsOrdered i x → HasChildrenBelow (length c) x → IsGood n j (renamed up same x)
  good n i j node.Bot is at ordered below = record { ordered = tt; below = tt }
  good n i j node.Top is at ordered below = record { ordered = tt; below = tt }
  good n i j (node.Var x) is at ordered below = record { ordered = tt; below = tt }
  good n i j node.Bool is at ordered below = record { ordered = tt; below = tt }
  good n i j node.Int is at ordered below = record { ordered = tt; below = tt }
  good n i j (node.Arrow k l) is at ordered below = record { ordered = tt; below = (omega arith, omega arith) }
  good n i j (node.Rcd fields) is at ordered below = record {
    ordered = AreRising-renamed up fields ordered;
    below = fields_below-renamed up (length c) n (λ i h. omega arith) fields below;
  }
  good n i j (node.Join k l) is at ordered below = record { ordered = (omega arith, omega arith); below = (omega arith, omega arith) }
  good n i j (node.Meet k l) is at ordered below = record { ordered = (omega arith, omega arith); below = (omega arith, omega arith) }

  second_good : AllFrom (IsGood (length both)) (0 + length b) (map (renamed up same) c)
  second_good i low =
      let lower : i < length c = let is : length (map (renamed up same) c) ≡ length c = length-map c (renamed up same) in omega arith in
      subst (IsGood (length both) (0 + length b + i)) (sym (get_or-map (renamed up same) c i node.Bot))
      (good (length both) i (0 + length b + i) (node_at c i) length-both (omega arith) (closed'.book i) (closed'.closed i node.Bot lower))

  closed-both : IsClosedBook both
  closed-both =
      closed_from both
      (AllFrom-append (IsGood (length both)) 0 b (map (renamed up same) c)
      (closed_all b closed (length both) (omega (arith, length-both)))
      second_good)

  pub Extends-both : Extends b both
  Extends-both = record {
    closed = closed-both;
    longer = omega (arith, length-both);
    same = λ i low. get_or-append b (map (renamed up same) c) node.Bot i low;
  }

  pub Holds-both : Holds c both up
  Holds-both = record {
    in_range = λ i low. omega (arith, length-both);
    value = IsCopied-value c both up same closed' closed-both.book (record { in_range = λ i low. omega (arith, length-both); node = λ i low. node-both i });
  }

-- so two closed books have a common longer one
pub united : (b c : List Node) → IsClosedBook b → IsClosedBook c → (d : List Node) × Extends b d × ((place : ℕ → ℕ) × Holds c d place)
united b c closed closed' = (both b c closed closed', Extends-both b c closed closed', (λ i. length b + i, Holds-both b c closed closed'))

-- the book with other variables
abbrev pub renamed_book : (ℕ → ℕ) → List Node → List Node
renamed_book variable b = map (renamed (λ i. i) variable) b

renamed_good : (variable : ℕ → ℕ) (n i : ℕ) (x : Node) → IsOrdered i x → HasChildrenBelow n x → IsGood n i (renamed (λ i. i) variable x)
renamed_good variable n i node.Bot ordered below = record { ordered = tt; below = tt }
renamed_good variable n i node.Top ordered below = record { ordered = tt; below = tt }
renamed_good variable n i (node.Var x) ordered below = record { ordered = tt; below = tt }
renamed_good variable n i node.Bool ordered below = record { ordered = tt; below = tt }
renamed_good variable n i node.Int ordered below = record { ordered = tt; below = tt }
renamed_good variable n i (node.Arrow k l) ordered below = record { ordered = tt; below = below }
renamed_good variable n i (node.Rcd fields) ordered below = record {
  ordered = AreRising-renamed (λ i. i) fields ordered;
  below = fields_below-renamed (λ i. i) n n (λ i h. h) fields below;
}
renamed_good variable n i (node.Join k l) ordered below = record { ordered = ordered; below = below }
renamed_good variable n i (node.Meet k l) ordered below = record { ordered = ordered; below = below }

pub closed-renamed_book : (variable : ℕ → ℕ) (b : List Node) → IsClosedBook b → IsClosedBook (renamed_book variable b)
closed-renamed_book variable b closed =
    closed_from (renamed_book variable b)
    (λ i low.
    let size : length (renamed_book variable b) ≡ length b = length-map b (renamed (λ i. i) variable) in
    let lower : i < length b = omega arith in
    let at : i ≡ 0 + i = omega arith in
    subst (λ n. IsGood n (0 + i) (node_at (renamed_book variable b) i)) (sym size)
    (subst (λ j. IsGood (length b) j (node_at (renamed_book variable b) i)) at
    (subst (IsGood (length b) i) (sym (get_or-map (renamed (λ i. i) variable) b i node.Bot))
    (renamed_good variable (length b) i (node_at b i) (closed.book i) (closed.closed i node.Bot lower)))))

pub value-renamed_book : (variable : ℕ → ℕ) (b : List Node) → IsClosedBook b → (v : ℕ → Predicate) (i : ℕ) → i < length b → passes_by v (renamed_book variable b) i ≡ passes_by (λ x. v (variable x)) b i
value-renamed_book variable b closed =
    IsCopied-value b (renamed_book variable b) (λ i. i) variable closed (closed-renamed_book variable b closed).book
    (record {
      in_range = λ i low. let size : length (renamed_book variable b) ≡ length b = length-map b (renamed (λ i. i) variable) in omega arith;
      node = λ i low. get_or-map (renamed (λ i. i) variable) b i node.Bot;
    })
