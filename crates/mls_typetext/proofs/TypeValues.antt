-- The node that a type stands for passes what the type passes.
use Rattle.std.proofs.Common.{◌≡◌, ℕ, zero, suc, ◌+◌, ◌<◌, Bool, true, false, List, [], ◌∷◌, ◌++◌, map, length, refl, sym, ap, ◌∙◌, subst, arith, length-append, Some}
use Rattle.std.specs.Prelude.{cond, bytes_eq, Option, option_map}
use Rattle.mls_book.specs.declared.book.Node.{Node}
use Rattle.mls_book.specs.declared.book.Node.TheVariants as node
use Rattle.mls_book.specs.declared.book.NodeId.{NodeId}
use Rattle.mls_book.specs.Books.{node_at, field_at, IsBook}
use Rattle.mls_book.specs.Predicates.{Predicate}
use Rattle.mls_book.specs.Passes.{passes_by, field_values}
use Rattle.mls_book.proofs.Table.{value-bot, value-top, value-var, value-bool, value-int, value-arrow, value-rcd, value-join, value-meet}
use Rattle.mls_book.proofs.LongerBooks.{Stand, AllFrom-first, AllFrom-second}
use Rattle.mls_typetext.specs.Books.{Ty, var, again, boolean, integer, top, bot, arrow, join, meet, fields, rec, TyFields, none, one, here, under, node_in, stands, id, field_nodes, layer, below, below_fields, book_of, root_of}
use Rattle.mls_typetext.specs.Values.{value_in, HasValue, HaveValues}
use Rattle.mls_typetext.proofs.FieldOrder.{field_at-placed}
use Rattle.mls_typetext.proofs.Fit.{IsFit, AreFit, length-layer, length-below, length-block, block, stands-rec}
use Rattle.mls_typetext.proofs.FitBooks.{book_of-closed}

-- a part that stands behind one of a known size
second_part : (b : List Node) (a n : ℕ) (xs ys : List Node) → length xs ≡ n → Stand b a (xs ++ ys) → Stand b (a + n) ys
second_part b a n xs ys is stand = subst (λ n. Stand b (a + n) ys) is (AllFrom-second (λ i x. node_at b i ≡ x) a xs ys stand)

first_part : (b : List Node) (a : ℕ) (xs ys : List Node) → Stand b a (xs ++ ys) → Stand b a xs
first_part b a xs ys stand = AllFrom-first (λ i x. node_at b i ≡ x) a xs ys stand

-- one node stands there
at_one : (b : List Node) (a n : ℕ) (x : Node) → n ≡ a → Stand b a (x ∷ []) → node_at b n ≡ x
at_one b a n x is stand =
    let at : n ≡ a + 0 = omega arith in
    ap (node_at b) at ∙ stand 0 (omega arith)

-- an operator behind its operands
last_part : (b : List Node) (a n m : ℕ) (xs ys : List Node) (x : Node) → length xs ≡ n → length ys ≡ m → Stand b a ((xs ++ ys) ++ x ∷ []) → node_at b (a + (n + m)) ≡ x
last_part b a n m xs ys x is is' stand =
    at_one b (a + (n + m)) (a + (n + m)) x refl
    (second_part b a (n + m) (xs ++ ys) (x ∷ []) (length-append xs ys ∙ (λ i. is i + is' i)) stand)

-- what the nodes of the `rec`s pass
value_in-map : (f : ℕ → Predicate) (nodes : List ℕ) (k : ℕ) → k < length nodes → value_in (map f nodes) k ≡ f (node_in nodes k)
value_in-map f [] k low = absurd (omega arith)
value_in-map f (n ∷ nodes) zero low = refl
value_in-map f (n ∷ nodes) (suc k) low = value_in-map f nodes k (omega arith)

value_of-cond : (value : ℕ → Predicate) (b : Bool) (n : NodeId) (o : Option NodeId) → option_map (λ id. value id.0) (cond b (Some n) o) ≡ cond b (Some (value n.0)) (option_map (λ id. value id.0) o)
value_of-cond value true n o = refl
value_of-cond value false n o = refl

-- a layer, and what lies below it
split_block : (b : List Node) (q : ℕ) (nodes : List ℕ) (a : Ty) → Stand b q (block q nodes a) → Stand b q (layer q (q + here a) nodes a) × Stand b (q + here a) (below q (q + here a) nodes a)
split_block b q nodes a stand = (
  first_part b q (layer q (q + here a) nodes a) (below q (q + here a) nodes a) stand,
  second_part b q (here a) (layer q (q + here a) nodes a) (below q (q + here a) nodes a) (length-layer q (q + here a) nodes a) stand,
)

module _ (v : ℕ → Predicate) (b : List Node) (book : IsBook b) (vars : ℕ) where
  value : ℕ → Predicate
  value = passes_by v b

  abbrev values : List ℕ → List Predicate
  values nodes = map (passes_by v b) nodes

  mutual
    unfolding here under stands layer below field_nodes

    layer-value : (m p q : ℕ) (nodes : List ℕ) (a : Ty) → IsFit vars m (length nodes) a → Stand b p (layer p q nodes a) → Stand b q (below p q nodes a) → HasValue v (values nodes) a (passes_by v b (stands p nodes a))
    layer-value m p q nodes (var x) fit layered lower = value-var v b book p x (at_one b p p (node.Var x) refl layered)
    layer-value m p q nodes (again k) fit layered lower = sym (value_in-map (passes_by v b) nodes k fit.1)
    layer-value m p q nodes boolean fit layered lower = value-bool v b book p (at_one b p p node.Bool refl layered)
    layer-value m p q nodes integer fit layered lower = value-int v b book p (at_one b p p node.Int refl layered)
    layer-value m p q nodes top fit layered lower = value-top v b book p (at_one b p p node.Top refl layered)
    layer-value m p q nodes bot fit layered lower = value-bot v b book p (at_one b p p node.Bot refl layered)
    layer-value m p q nodes (arrow x y) fit layered lower =
        let r : ℕ = q + (here x + under x) in
        let first = split_block b q nodes x (first_part b q (block q nodes x) (block r nodes y) lower) in
        let second = split_block b r nodes y (second_part b q (here x + under x) (block q nodes x) (block r nodes y) (length-block q nodes x) lower) in (
          passes_by v b (stands q nodes x),
          passes_by v b (stands r nodes y),
          layer-value 0 q (q + here x) nodes x fit.0 first.0 first.1,
          layer-value 0 r (r + here y) nodes y fit.1 second.0 second.1,
          value-arrow v b book p (id (stands q nodes x)) (id (stands r nodes y)) (at_one b p p (node.Arrow (id (stands q nodes x)) (id (stands r nodes y))) refl layered),
        )
    layer-value m p q nodes (join x y) fit layered lower =
        let xs : List Node = layer p q nodes x in
        let ys : List Node = layer (p + here x) (q + under x) nodes y in
        let last : Node = node.Join (id (stands p nodes x)) (id (stands (p + here x) nodes y)) in
        let operands : Stand b p (xs ++ ys) = first_part b p (xs ++ ys) (last ∷ []) layered in (
          passes_by v b (stands p nodes x),
          passes_by v b (stands (p + here x) nodes y),
          layer-value m p q nodes x fit.0 (first_part b p xs ys operands) (first_part b q (below p q nodes x) (below (p + here x) (q + under x) nodes y) lower),
          layer-value m (p + here x) (q + under x) nodes y fit.1 (second_part b p (here x) xs ys (length-layer p q nodes x) operands) (second_part b q (under x) (below p q nodes x) (below (p + here x) (q + under x) nodes y) (length-below p q nodes x) lower),
          value-join v b book (p + (here x + here y)) (id (stands p nodes x)) (id (stands (p + here x) nodes y)) (last_part b p (here x) (here y) xs ys last (length-layer p q nodes x) (length-layer (p + here x) (q + under x) nodes y) layered),
        )
    layer-value m p q nodes (meet x y) fit layered lower =
        let xs : List Node = layer p q nodes x in
        let ys : List Node = layer (p + here x) (q + under x) nodes y in
        let last : Node = node.Meet (id (stands p nodes x)) (id (stands (p + here x) nodes y)) in
        let operands : Stand b p (xs ++ ys) = first_part b p (xs ++ ys) (last ∷ []) layered in (
          passes_by v b (stands p nodes x),
          passes_by v b (stands (p + here x) nodes y),
          layer-value m p q nodes x fit.0 (first_part b p xs ys operands) (first_part b q (below p q nodes x) (below (p + here x) (q + under x) nodes y) lower),
          layer-value m (p + here x) (q + under x) nodes y fit.1 (second_part b p (here x) xs ys (length-layer p q nodes x) operands) (second_part b q (under x) (below p q nodes x) (below (p + here x) (q + under x) nodes y) (length-below p q nodes x) lower),
          value-meet v b book (p + (here x + here y)) (id (stands p nodes x)) (id (stands (p + here x) nodes y)) (last_part b p (here x) (here y) xs ys last (length-layer p q nodes x) (length-layer (p + here x) (q + under x) nodes y) layered),
        )
    layer-value m p q nodes (fields all) fit layered lower = (
      field_values (passes_by v b) (field_nodes q nodes all),
      fields-value q nodes all fit lower,
      value-rcd v b book p (field_nodes q nodes all) (at_one b p p (node.Rcd (field_nodes q nodes all)) refl layered),
    )
    layer-value m p q nodes (rec x) fit layered lower =
        let s : ℕ = stands p (0 ∷ nodes) x in
        let same : stands p (s ∷ nodes) x ≡ s = stands-rec vars m (length nodes) p s 0 nodes x fit in
        subst (λ i. HasValue v (values (s ∷ nodes)) x (passes_by v b i)) same
        (layer-value (suc m) p q (s ∷ nodes) x fit layered lower)

    fields-value : (q : ℕ) (nodes : List ℕ) (all : TyFields) → AreFit vars (length nodes) all → Stand b q (below_fields q nodes all) → HaveValues v (values nodes) all (field_values (passes_by v b) (field_nodes q nodes all))
    fields-value q nodes none fit lower = refl
    fields-value q nodes (one label x rest) fit lower =
        let r : ℕ = q + (here x + under x) in
        let first = split_block b q nodes x (first_part b q (block q nodes x) (below_fields r nodes rest) lower) in (
          passes_by v b (stands q nodes x),
          field_values (passes_by v b) (field_nodes r nodes rest),
          layer-value 0 q (q + here x) nodes x fit.1 first.0 first.1,
          fields-value r nodes rest fit.2 (second_part b q (here x + under x) (block q nodes x) (below_fields r nodes rest) (length-block q nodes x) lower),
          λ i y.
              (ap (option_map (λ id. passes_by v b id.0)) (field_at-placed y (record { label = label; node = id (stands q nodes x) }) (field_nodes r nodes rest))
              ∙ value_of-cond (passes_by v b) (bytes_eq label y) (id (stands q nodes x)) (field_at y (field_nodes r nodes rest))) i,
        )

-- the root of the book of a fit type passes what the type passes, for every reading of variables
pub book_of-value : (vars : ℕ) (a : Ty) → IsFit vars 0 0 a → (v : ℕ → Predicate) → HasValue v [] a (passes_by v (book_of a) (root_of a))
unfolding book_of root_of
book_of-value vars a fit v =
    let whole : Stand (book_of a) 0 (book_of a) = λ i low. ap (node_at (book_of a)) (let at : 0 + i ≡ i = omega arith in at) in
    let at : 0 + here a ≡ here a = omega arith in
    layer-value v (book_of a) (book_of-closed vars a fit).book vars 0 0 (here a) [] a fit
    (first_part (book_of a) 0 (layer 0 (here a) [] a) (below 0 (here a) [] a) whole)
    (subst (λ q. Stand (book_of a) q (below 0 (here a) [] a)) at
    (second_part (book_of a) 0 (here a) (layer 0 (here a) [] a) (below 0 (here a) [] a) (length-layer 0 (here a) [] a) whole))
