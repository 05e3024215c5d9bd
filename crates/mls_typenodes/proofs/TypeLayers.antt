-- In the book of a type each layer has the functions and records of its place in the type.
--     HasOneLayer        a type in which each layer has one function and one record at most
--     book_has_one       so has its book
use Rattle.std.proofs.Common.{◌≡◌, inl, inr, ℕ, zero, suc, ◌+◌, ◌-◌, ◌<◌, ◌≤◌, Bool, true, List, [], ◌∷◌, ◌++◌, length, Contains, refl, sym, ap, ◌∙◌, subst, arith}
use Rattle.std.proofs.lemmas.List.Elements.{Contains-append_cases}
use Rattle.mls_book.specs.declared.book.Node.{Node}
use Rattle.mls_book.specs.declared.book.Node.TheVariants as node
use Rattle.mls_book.specs.Books.{node_at}
use Rattle.mls_book.proofs.LongerBooks.{below_or_more, AllFrom, AllFrom-append, AllFrom-first, AllFrom-second, AllFrom-one, Stand}
use Rattle.mls_typetext.specs.Books.{Ty, var, again, boolean, integer, top, bot, arrow, join, meet, fields, rec, TyFields, none, one, here, under, under_fields, stands, id, field_nodes, layer, below, below_fields, book_of}
use Rattle.mls_typetext.proofs.Fit.{length-layer, length-below, length-block, length-book_of, block}
use Rattle.mls_automaton.proofs.Lists.{Contains-cases}
use Rattle.mls_scheme.specs.ReadAutomata.{atoms, atoms_below, atoms_step}
use Rattle.mls_typenodes.specs.OneEach.{is_function, is_record, HasOneEach}

-- no recursive name stands in the layer
abbrev pub IsPlain : Ty → Type 0
IsPlain (again k) = ⊥
IsPlain (join a b) = IsPlain a × IsPlain b
IsPlain (meet a b) = IsPlain a × IsPlain b
IsPlain (rec a) = IsPlain a
IsPlain _ = Unit {0}

-- what the layer has, where a function counts f and a record r
abbrev pub weight : (f r : ℕ) → Ty → ℕ
weight f r (arrow a b) = f
weight f r (fields all) = r
weight f r (join a b) = weight f r a + weight f r b
weight f r (meet a b) = weight f r a + weight f r b
weight f r (rec a) = weight f r a
weight f r _ = 0

-- the layer is a recursive name alone, or has none, and one function and one record at most
pub data IsOneLayer : Ty → Type 0 where
  alone : (k : ℕ) → IsOneLayer (again k)
  plain : {a : Ty} → IsPlain a → weight 1 0 a ≤ 1 → weight 0 1 a ≤ 1 → IsOneLayer a

-- so all layers below that of the type, and then that too
abbrev mutual
  pub HasOneBelow : Ty → Type 0
  HasOneBelow (arrow a b) = (IsOneLayer a × HasOneBelow a) × (IsOneLayer b × HasOneBelow b)
  HasOneBelow (join a b) = HasOneBelow a × HasOneBelow b
  HasOneBelow (meet a b) = HasOneBelow a × HasOneBelow b
  HasOneBelow (fields all) = HaveOneBelow all
  HasOneBelow (rec a) = HasOneBelow a
  HasOneBelow _ = Unit {0}

  pub HaveOneBelow : TyFields → Type 0
  HaveOneBelow none = Unit {0}
  HaveOneBelow (one label a rest) = (IsOneLayer a × HasOneBelow a) × HaveOneBelow rest

abbrev pub HasOneLayers : Ty → Type 0
HasOneLayers a = IsOneLayer a × HasOneBelow a

-- what nodes have
abbrev node_weight : (f r : ℕ) → Node → ℕ
node_weight f r (node.Arrow j k) = f
node_weight f r (node.Rcd all) = r
node_weight f r _ = 0

abbrev nodes_weight : (f r : ℕ) → List Node → ℕ
nodes_weight f r [] = 0
nodes_weight f r (x ∷ rest) = node_weight f r x + nodes_weight f r rest

weight-append : (f r : ℕ) (xs ys : List Node) → nodes_weight f r (xs ++ ys) ≡ nodes_weight f r xs + nodes_weight f r ys
weight-append f r [] ys = omega arith
weight-append f r (x ∷ rest) ys = let later = weight-append f r rest ys in omega arith

-- an operator weighs nothing
weight-two : (f r n m : ℕ) (xs ys : List Node) (x : Node) → nodes_weight f r xs ≡ n → nodes_weight f r ys ≡ m → node_weight f r x ≡ 0 → nodes_weight f r ((xs ++ ys) ++ x ∷ []) ≡ n + m
weight-two f r n m xs ys x is is' free =
    let first = weight-append f r (xs ++ ys) (x ∷ []) in
    let second = weight-append f r xs ys in
    omega arith

weight-layer : (f r p q : ℕ) (recs : List ℕ) (a : Ty) → nodes_weight f r (layer p q recs a) ≡ weight f r a
unfolding layer
weight-layer f r p q recs (var x) = refl
weight-layer f r p q recs (again k) = refl
weight-layer f r p q recs boolean = refl
weight-layer f r p q recs integer = refl
weight-layer f r p q recs top = refl
weight-layer f r p q recs bot = refl
weight-layer f r p q recs (arrow a b) = omega arith
weight-layer f r p q recs (join a b) =
    weight-two f r (weight f r a) (weight f r b) (layer p q recs a) (layer (p + here a) (q + under a) recs b) (node.Join (id (stands p recs a)) (id (stands (p + here a) recs b)))
    (weight-layer f r p q recs a) (weight-layer f r (p + here a) (q + under a) recs b) refl
weight-layer f r p q recs (meet a b) =
    weight-two f r (weight f r a) (weight f r b) (layer p q recs a) (layer (p + here a) (q + under a) recs b) (node.Meet (id (stands p recs a)) (id (stands (p + here a) recs b)))
    (weight-layer f r p q recs a) (weight-layer f r (p + here a) (q + under a) recs b) refl
weight-layer f r p q recs (fields all) = omega arith
weight-layer f r p q recs (rec a) = weight-layer f r p q (stands p (0 ∷ recs) a ∷ recs) a

-- where all together weigh one at most, one of them alone does
weight-some : (f r : ℕ) (xs : List Node) (i : ℕ) → i < length xs → node_weight f r (node_at xs i) ≤ nodes_weight f r xs
weight-some f r [] i low = absurd (omega arith)
weight-some f r (x ∷ rest) zero low = omega arith
weight-some f r (x ∷ rest) (suc i) low = let later = weight-some f r rest i (omega arith) in omega arith

weight-one : (f r : ℕ) (xs : List Node) (i j : ℕ) → nodes_weight f r xs ≤ 1 → i < length xs → j < length xs → node_weight f r (node_at xs i) ≡ 1 → node_weight f r (node_at xs j) ≡ 1 → i ≡ j
weight-one f r [] i j few low low' is is' = absurd (omega arith)
weight-one f r (x ∷ rest) zero zero few low low' is is' = refl
weight-one f r (x ∷ rest) zero (suc j) few low low' is is' = let later = weight-some f r rest j (omega arith) in absurd (omega arith)
weight-one f r (x ∷ rest) (suc i) zero few low low' is is' = let later = weight-some f r rest i (omega arith) in absurd (omega arith)
weight-one f r (x ∷ rest) (suc i) (suc j) few low low' is is' = ap suc (weight-one f r rest i j (omega arith) (omega arith) (omega arith) is is')

-- the operands of a join or meet stand between these numbers
abbrev IsInside : (lo hi : ℕ) → Node → Type 0
IsInside lo hi (node.Join j k) = ((lo ≤ j.0) × (j.0 < hi)) × ((lo ≤ k.0) × (k.0 < hi))
IsInside lo hi (node.Meet j k) = ((lo ≤ j.0) × (j.0 < hi)) × ((lo ≤ k.0) × (k.0 < hi))
IsInside lo hi _ = Unit {0}

inside-more : (lo hi lo' hi' : ℕ) → lo' ≤ lo → hi ≤ hi' → (x : Node) → IsInside lo hi x → IsInside lo' hi' x
inside-more lo hi lo' hi' less more node.Bot it = tt
inside-more lo hi lo' hi' less more node.Top it = tt
inside-more lo hi lo' hi' less more (node.Var v) it = tt
inside-more lo hi lo' hi' less more node.Bool it = tt
inside-more lo hi lo' hi' less more node.Int it = tt
inside-more lo hi lo' hi' less more (node.Arrow j k) it = tt
inside-more lo hi lo' hi' less more (node.Rcd all) it = tt
inside-more lo hi lo' hi' less more (node.Join j k) it = ((omega arith, omega arith), (omega arith, omega arith))
inside-more lo hi lo' hi' less more (node.Meet j k) it = ((omega arith, omega arith), (omega arith, omega arith))

abbrev AreInside : (lo hi a : ℕ) → List Node → Type 0
AreInside lo hi = AllFrom (λ i x. IsInside lo hi x)

are-more : (lo hi lo' hi' a : ℕ) (xs : List Node) → lo' ≤ lo → hi ≤ hi' → AreInside lo hi a xs → AreInside lo' hi' a xs
are-more lo hi lo' hi' a xs less more all i low = inside-more lo hi lo' hi' less more (node_at xs i) (all i low)

no_more : (G : ℕ → Node → Type 0) (a : ℕ) → AllFrom G a []
no_more G a i low = absurd (omega arith)

-- the node of a type without a recursive name stands in its layer
stands-inside : (p : ℕ) (recs : List ℕ) (a : Ty) → IsPlain a → (p ≤ stands p recs a) × (stands p recs a < p + here a)
unfolding stands here
stands-inside p recs (var x) it = (omega arith, omega arith)
stands-inside p recs (again k) it = absurd it
stands-inside p recs boolean it = (omega arith, omega arith)
stands-inside p recs integer it = (omega arith, omega arith)
stands-inside p recs top it = (omega arith, omega arith)
stands-inside p recs bot it = (omega arith, omega arith)
stands-inside p recs (arrow a b) it = (omega arith, omega arith)
stands-inside p recs (join a b) it = (omega arith, omega arith)
stands-inside p recs (meet a b) it = (omega arith, omega arith)
stands-inside p recs (fields all) it = (omega arith, omega arith)
stands-inside p recs (rec a) it = stands-inside p (0 ∷ recs) a it

-- an operator behind its operands
operator-inside : (p n m : ℕ) (xs ys : List Node) (x : Node) → length xs ≡ n → length ys ≡ m → AreInside p (p + n) p xs → AreInside (p + n) (p + n + m) (p + n) ys
    → IsInside p (p + suc (n + m)) x → AreInside p (p + suc (n + m)) p ((xs ++ ys) ++ x ∷ [])
operator-inside p n m xs ys x is is' first second last =
    let hi : ℕ = p + suc (n + m) in
    let G : ℕ → Node → Type 0 = λ i x. IsInside p hi x in
    AllFrom-append G p (xs ++ ys) (x ∷ [])
    (AllFrom-append G p xs ys (are-more p (p + n) p hi p xs (omega arith) (omega arith) first)
    (subst (λ k. AreInside p hi (p + k) ys) (sym is) (are-more (p + n) (p + n + m) p hi (p + n) ys (omega arith) (omega arith) second)))
    (AllFrom-one G (p + length (xs ++ ys)) x last)

layer-inside : (p q : ℕ) (recs : List ℕ) (a : Ty) → IsPlain a → AreInside p (p + here a) p (layer p q recs a)
unfolding layer here
layer-inside p q recs (var x) it = AllFrom-one (λ i x. IsInside p (p + 1) x) p (node.Var x) tt
layer-inside p q recs (again k) it = absurd it
layer-inside p q recs boolean it = AllFrom-one (λ i x. IsInside p (p + 1) x) p node.Bool tt
layer-inside p q recs integer it = AllFrom-one (λ i x. IsInside p (p + 1) x) p node.Int tt
layer-inside p q recs top it = AllFrom-one (λ i x. IsInside p (p + 1) x) p node.Top tt
layer-inside p q recs bot it = AllFrom-one (λ i x. IsInside p (p + 1) x) p node.Bot tt
layer-inside p q recs (arrow a b) it = AllFrom-one (λ i x. IsInside p (p + 1) x) p (node.Arrow (id (stands q recs a)) (id (stands (q + (here a + under a)) recs b))) tt
layer-inside p q recs (join a b) it =
    let first = stands-inside p recs a it.0 in
    let second = stands-inside (p + here a) recs b it.1 in
    operator-inside p (here a) (here b) (layer p q recs a) (layer (p + here a) (q + under a) recs b) (node.Join (id (stands p recs a)) (id (stands (p + here a) recs b)))
    (length-layer p q recs a) (length-layer (p + here a) (q + under a) recs b) (layer-inside p q recs a it.0) (layer-inside (p + here a) (q + under a) recs b it.1)
    ((omega arith, omega arith), (omega arith, omega arith))
layer-inside p q recs (meet a b) it =
    let first = stands-inside p recs a it.0 in
    let second = stands-inside (p + here a) recs b it.1 in
    operator-inside p (here a) (here b) (layer p q recs a) (layer (p + here a) (q + under a) recs b) (node.Meet (id (stands p recs a)) (id (stands (p + here a) recs b)))
    (length-layer p q recs a) (length-layer (p + here a) (q + under a) recs b) (layer-inside p q recs a it.0) (layer-inside (p + here a) (q + under a) recs b it.1)
    ((omega arith, omega arith), (omega arith, omega arith))
layer-inside p q recs (fields all) it = AllFrom-one (λ i x. IsInside p (p + 1) x) p (node.Rcd (field_nodes q recs all)) tt
layer-inside p q recs (rec a) it = layer-inside p q (stands p (0 ∷ recs) a ∷ recs) a it

-- a node that is such weighs one
function-weight : (x : Node) → is_function x ≡ true → node_weight 1 0 x ≡ 1
function-weight (node.Arrow j k) is = refl
function-weight node.Bot is = absurd (cc)
function-weight node.Top is = absurd (cc)
function-weight (node.Var v) is = absurd (cc)
function-weight node.Bool is = absurd (cc)
function-weight node.Int is = absurd (cc)
function-weight (node.Rcd all) is = absurd (cc)
function-weight (node.Join j k) is = absurd (cc)
function-weight (node.Meet j k) is = absurd (cc)

record-weight : (x : Node) → is_record x ≡ true → node_weight 0 1 x ≡ 1
record-weight (node.Rcd all) is = refl
record-weight node.Bot is = absurd (cc)
record-weight node.Top is = absurd (cc)
record-weight (node.Var v) is = absurd (cc)
record-weight node.Bool is = absurd (cc)
record-weight node.Int is = absurd (cc)
record-weight (node.Arrow j k) is = absurd (cc)
record-weight (node.Join j k) is = absurd (cc)
record-weight (node.Meet j k) is = absurd (cc)

module _ (nodes : List Node) where
  -- one node at most between these numbers is such
  abbrev IsOneIn : (Node → Bool) → (lo hi : ℕ) → Type 0
  IsOneIn is_such lo hi = (i j : ℕ) → lo ≤ i → i < hi → lo ≤ j → j < hi → is_such (node_at nodes i) ≡ true → is_such (node_at nodes j) ≡ true → i ≡ j

  -- the nodes between these numbers are those of a layer: their operands stand there too
  record IsSegment (lo hi : ℕ) : Type 0 where
    inside : (i : ℕ) → lo ≤ i → i < hi → IsInside lo hi (node_at nodes i)
    function : IsOneIn is_function lo hi
    fields : IsOneIn is_record lo hi

  abbrev IsCovered : ℕ → Type 0
  IsCovered i = (lo hi : ℕ) × (lo ≤ i) × (i < hi) × IsSegment lo hi

  -- so many nodes from this number on stand in layers
  abbrev AreCovered : (q n : ℕ) → Type 0
  AreCovered q n = (i : ℕ) → q ≤ i → i < q + n → IsCovered i

  covered-none : (q : ℕ) → AreCovered q 0
  covered-none q i from low = absurd (omega arith)

  covered-append : (q n m : ℕ) → AreCovered q n → AreCovered (q + n) m → AreCovered q (n + m)
  covered-append q n m first second i from low = elim (below_or_more i (q + n)) [
    | inl before ↦ first i from before
    | inr behind ↦ let is : i ≡ q + n + behind.0 = behind.1 in second i (omega arith) (omega arith)
  ]

  -- a node of a list that stands in the book
  at : (p : ℕ) (xs : List Node) (n i : ℕ) → Stand nodes p xs → length xs ≡ n → p ≤ i → i < p + n → (k : ℕ) × (k < length xs) × (i ≡ p + k) × (node_at nodes i ≡ node_at xs k)
  at p xs n i stand is from low =
      let same : i ≡ p + (i - p) = omega arith in
      let inside : i - p < length xs = omega arith in
      (i - p, inside, same, ap (node_at nodes) same ∙ stand (i - p) inside)

  one_of : (is_such : Node → Bool) (f r : ℕ) → ((x : Node) → is_such x ≡ true → node_weight f r x ≡ 1) → (p n : ℕ) (xs : List Node) → Stand nodes p xs → length xs ≡ n → nodes_weight f r xs ≤ 1 → IsOneIn is_such p (p + n)
  one_of is_such f r weighs p n xs stand is few i j from low from' low' such such' =
      let first = at p xs n i stand is from low in
      let second = at p xs n j stand is from' low' in
      let same : first.0 ≡ second.0 =
      weight-one f r xs first.0 second.0 few first.1 second.1
      (weighs (node_at xs first.0) (ap is_such (sym first.3) ∙ such))
      (weighs (node_at xs second.0) (ap is_such (sym second.3) ∙ such')) in
      first.2 ∙ (ap (λ k. p + k) same ∙ sym second.2)

  layer-segment : (p q : ℕ) (recs : List ℕ) (a : Ty) → IsPlain a → weight 1 0 a ≤ 1 → weight 0 1 a ≤ 1 → Stand nodes p (layer p q recs a) → IsSegment p (p + here a)
  layer-segment p q recs a is_plain functions records stand =
      let xs : List Node = layer p q recs a in
      let size : length xs ≡ here a = length-layer p q recs a in
      let first : nodes_weight 1 0 xs ≡ weight 1 0 a = weight-layer 1 0 p q recs a in
      let second : nodes_weight 0 1 xs ≡ weight 0 1 a = weight-layer 0 1 p q recs a in
      record {
        inside =
            λ i from low.
            let it = at p xs (here a) i stand size from low in
            subst (IsInside p (p + here a)) (sym it.3) (layer-inside p q recs a is_plain it.0 it.1);
        function = one_of is_function 1 0 function-weight p (here a) xs stand size (omega arith);
        fields = one_of is_record 0 1 record-weight p (here a) xs stand size (omega arith);
      }

  layer-covered : (p q : ℕ) (recs : List ℕ) (a : Ty) → IsOneLayer a → Stand nodes p (layer p q recs a) → AreCovered p (here a)
  unfolding here
  layer-covered p q recs a (alone k) stand = covered-none p
  layer-covered p q recs a (plain is_plain functions records) stand = λ i from low. (p, p + here a, from, low, layer-segment p q recs a is_plain functions records stand)

  -- a row of nodes, the second part at a number that is known
  row-covered : (q n m : ℕ) (xs ys : List Node) → length xs ≡ n → (Stand nodes q xs → AreCovered q n) → (Stand nodes (q + n) ys → AreCovered (q + n) m) → Stand nodes q (xs ++ ys) → AreCovered q (n + m)
  row-covered q n m xs ys is first second stand =
      covered-append q n m (first (AllFrom-first (λ i x. node_at nodes i ≡ x) q xs ys stand))
      (second (subst (λ k. Stand nodes (q + k) ys) is (AllFrom-second (λ i x. node_at nodes i ≡ x) q xs ys stand)))

  block-covered : (q : ℕ) (recs : List ℕ) (a : Ty) → IsOneLayer a → (Stand nodes (q + here a) (below q (q + here a) recs a) → AreCovered (q + here a) (under a)) → Stand nodes q (block q recs a) → AreCovered q (here a + under a)
  block-covered q recs a it later stand =
      row-covered q (here a) (under a) (layer q (q + here a) recs a) (below q (q + here a) recs a) (length-layer q (q + here a) recs a)
      (layer-covered q (q + here a) recs a it) later stand

  mutual
    unfolding under below

    below-covered : (p q : ℕ) (recs : List ℕ) (a : Ty) → HasOneBelow a → Stand nodes q (below p q recs a) → AreCovered q (under a)
    below-covered p q recs (var x) it stand = covered-none q
    below-covered p q recs (again k) it stand = covered-none q
    below-covered p q recs boolean it stand = covered-none q
    below-covered p q recs integer it stand = covered-none q
    below-covered p q recs top it stand = covered-none q
    below-covered p q recs bot it stand = covered-none q
    below-covered p q recs (arrow a b) it stand =
        row-covered q (here a + under a) (here b + under b) (block q recs a) (block (q + (here a + under a)) recs b) (length-block q recs a)
        (block-covered q recs a it.0.0 (below-covered q (q + here a) recs a it.0.1))
        (block-covered (q + (here a + under a)) recs b it.1.0 (below-covered (q + (here a + under a)) ((q + (here a + under a)) + here b) recs b it.1.1)) stand
    below-covered p q recs (join a b) it stand =
        row-covered q (under a) (under b) (below p q recs a) (below (p + here a) (q + under a) recs b) (length-below p q recs a)
        (below-covered p q recs a it.0) (below-covered (p + here a) (q + under a) recs b it.1) stand
    below-covered p q recs (meet a b) it stand =
        row-covered q (under a) (under b) (below p q recs a) (below (p + here a) (q + under a) recs b) (length-below p q recs a)
        (below-covered p q recs a it.0) (below-covered (p + here a) (q + under a) recs b it.1) stand
    below-covered p q recs (fields all) it stand = fields-covered q recs all it stand
    below-covered p q recs (rec a) it stand = below-covered p q (stands p (0 ∷ recs) a ∷ recs) a it stand

    fields-covered : (q : ℕ) (recs : List ℕ) (all : TyFields) → HaveOneBelow all → Stand nodes q (below_fields q recs all) → AreCovered q (under_fields all)
    fields-covered q recs none it stand = covered-none q
    fields-covered q recs (one label a rest) it stand =
        row-covered q (here a + under a) (under_fields rest) (block q recs a) (below_fields (q + (here a + under a)) recs rest) (length-block q recs a)
        (block-covered q recs a it.0.0 (below-covered q (q + here a) recs a it.0.1)) (fields-covered (q + (here a + under a)) recs rest it.1) stand

  -- the atoms of a node of a layer stand in it
  abbrev HasAtomsIn : (lo hi d : ℕ) → Type 0
  HasAtomsIn lo hi d = (i : ℕ) → lo ≤ i → i < hi → (j : ℕ) → Contains (atoms_below nodes d i) j → (lo ≤ j) × (j < hi)

  step-inside : (lo hi d i : ℕ) → lo ≤ i → i < hi → HasAtomsIn lo hi d → (j : ℕ) (x : Node) → IsInside lo hi x → Contains (atoms_step (atoms_below nodes d) i x) j → (lo ≤ j) × (j < hi)
  step-inside lo hi d i from low earlier j = go
    where
      alone : Contains (i ∷ []) j → (lo ≤ j) × (j < hi)
      alone there = elim (Contains-cases i [] j there) [
        | inl same ↦ (omega (arith, same), omega (arith, same))
        | inr later ↦ let none : later.0 < 0 = later.1 in absurd (omega arith)
      ]

      two : (k l : ℕ) → (lo ≤ k) × (k < hi) → (lo ≤ l) × (l < hi) → Contains (atoms_below nodes d k ++ atoms_below nodes d l) j → (lo ≤ j) × (j < hi)
      two k l first second there = elim (Contains-append_cases (atoms_below nodes d k) (atoms_below nodes d l) j there) [
        | inl left ↦ earlier k first.0 first.1 j left
        | inr right ↦ earlier l second.0 second.1 j right
      ]

      go : (x : Node) → IsInside lo hi x → Contains (atoms_step (atoms_below nodes d) i x) j → (lo ≤ j) × (j < hi)
      go node.Bot inside there = alone there
      go node.Top inside there = alone there
      go (node.Var v) inside there = alone there
      go node.Bool inside there = alone there
      go node.Int inside there = alone there
      go (node.Arrow k l) inside there = alone there
      go (node.Rcd all) inside there = alone there
      go (node.Join k l) inside there = two k.0 l.0 inside.0 inside.1 there
      go (node.Meet k l) inside there = two k.0 l.0 inside.0 inside.1 there

  atoms-inside : (lo hi : ℕ) → IsSegment lo hi → (d : ℕ) → HasAtomsIn lo hi d
  atoms-inside lo hi it zero i from low j there = let none : there.0 < 0 = there.1 in absurd (omega arith)
  atoms-inside lo hi it (suc d) i from low j there =
      step-inside lo hi d i from low (atoms-inside lo hi it d) j (node_at nodes i) (it.inside i from low) there

  covered-has_one : (i : ℕ) → IsCovered i → HasOneEach nodes i
  covered-has_one i (lo, hi, from, low, it) =
      let inside : (j : ℕ) → Contains (atoms nodes i) j → (lo ≤ j) × (j < hi) = atoms-inside lo hi it (suc i) i from low in
      record {
        function = λ j k there there' is is'. it.function j k (inside j there).0 (inside j there).1 (inside k there').0 (inside k there').1 is is';
        fields = λ j k there there' is is'. it.fields j k (inside j there).0 (inside j there).1 (inside k there').0 (inside k there').1 is is';
      }

pub book_has_one : (a : Ty) → HasOneLayers a → (i : ℕ) → i < length (book_of a) → HasOneEach (book_of a) i
unfolding book_of
book_has_one a it i low =
    let nodes : List Node = layer 0 (here a) [] a ++ below 0 (here a) [] a in
    let start : 0 + here a ≡ here a = omega arith in
    let size : length nodes ≡ here a + under a = length-book_of a in
    let stand : Stand nodes 0 nodes = λ k lower. let same : 0 + k ≡ k = omega arith in ap (node_at nodes) same in
    covered-has_one nodes i
    (row-covered nodes 0 (here a) (under a) (layer 0 (here a) [] a) (below 0 (here a) [] a) (length-layer 0 (here a) [] a)
    (layer-covered nodes 0 (here a) [] a it.0)
    (subst (λ q. Stand nodes q (below 0 (here a) [] a) → AreCovered nodes q (under a)) (sym start) (below-covered nodes 0 (here a) [] a it.1)) stand i (omega arith) (omega arith))
