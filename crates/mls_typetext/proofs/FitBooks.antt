-- The books of fit types are closed.
use Rattle.std.proofs.Common.{◌≡◌, ℕ, suc, ◌+◌, ◌<◌, ◌≤◌, Bool, true, false, List, [], ◌∷◌, ◌++◌, length, refl, sym, ◌∙◌, subst, arith, length-append}
use Rattle.std.specs.Prelude.{All, cond, bytes_eq}
use Rattle.std.proofs.lemmas.List.Elements.{All-nil}
use Rattle.mls_book.specs.declared.book.Field.{Field}
use Rattle.mls_book.specs.declared.book.Node.{Node}
use Rattle.mls_book.specs.declared.book.Node.TheVariants as node
use Rattle.mls_book.specs.Books.{node_at, AreRising, IsOrdered, HasChildrenBelow, IsClosedBook}
use Rattle.mls_book.proofs.LongerBooks.{AllFrom, AllFrom-append, AllFrom-one, closed_from}
use Rattle.mls_typetext.specs.Books.{Ty, var, again, boolean, integer, top, bot, arrow, join, meet, fields, rec, TyFields, none, one, is_in, here, under, under_fields, stands, id, field_nodes, layer, below, below_fields, book_of, root_of}
use Rattle.mls_typetext.proofs.FieldOrder.{All-placed, AreRising-placed}
use Rattle.mls_typetext.proofs.Fit.{labels_of, IsFit, AreFit, length-layer, length-below, length-block, length-book_of, block, AreBelow, AreBelow-more, AreBelow-rec, AreBelow-all, stands-below}

-- the fields of a record lie in range
fields-below : (vars recs q n : ℕ) (nodes : List ℕ) (all : TyFields) → AreFit vars recs all → AreBelow q 0 recs nodes → q + under_fields all ≤ n → All (λ (field : Field). field.node.0 < n) (field_nodes q nodes all)
unfolding field_nodes under
fields-below vars recs q n nodes none fit low le = All-nil (λ (field : Field). field.node.0 < n)
fields-below vars recs q n nodes (one label a rest) fit low le =
    let at : stands q nodes a < q + here a = stands-below vars 0 recs q nodes a fit.1 low in
    All-placed (λ (field : Field). field.node.0 < n) (record { label = label; node = id (stands q nodes a) }) (field_nodes (q + (here a + under a)) nodes rest)
    (omega arith)
    (fields-below vars recs (q + (here a + under a)) n nodes rest fit.2
    (AreBelow-more q (q + (here a + under a)) 0 recs nodes (omega arith) low)
    (omega arith))

-- a label that is not there is no field's label
is_in-parts : (b c : Bool) → cond b true c ≡ false → (b ≡ false) × (c ≡ false)
is_in-parts true c e = absurd (cc)
is_in-parts false c e = (refl, e)

fields-unlike : (q : ℕ) (nodes : List ℕ) (x : List ℕ) (all : TyFields) → is_in (labels_of all) x ≡ false → All (λ (field : Field). bytes_eq field.label x ≡ false) (field_nodes q nodes all)
unfolding field_nodes
fields-unlike q nodes x none e = All-nil (λ (field : Field). bytes_eq field.label x ≡ false)
fields-unlike q nodes x (one label a rest) e =
    let parts = is_in-parts (bytes_eq label x) (is_in (labels_of rest) x) e in
    All-placed (λ (field : Field). bytes_eq field.label x ≡ false) (record { label = label; node = id (stands q nodes a) }) (field_nodes (q + (here a + under a)) nodes rest)
    parts.0
    (fields-unlike (q + (here a + under a)) nodes x rest parts.1)

fields-rising : (vars recs q : ℕ) (nodes : List ℕ) (all : TyFields) → AreFit vars recs all → AreRising (field_nodes q nodes all)
unfolding field_nodes
fields-rising vars recs q nodes none fit = tt
fields-rising vars recs q nodes (one label a rest) fit =
    AreRising-placed (record { label = label; node = id (stands q nodes a) }) (field_nodes (q + (here a + under a)) nodes rest)
    (fields-rising vars recs (q + (here a + under a)) nodes rest fit.2)
    (fields-unlike (q + (here a + under a)) nodes label rest fit.0)

-- lists in a row, the second at a number that is known
in_a_row : (G : ℕ → Node → Type 0) (a n : ℕ) (xs ys : List Node) → length xs ≡ n → AllFrom G a xs → AllFrom G (a + n) ys → AllFrom G a (xs ++ ys)
in_a_row G a n xs ys is first second = AllFrom-append G a xs ys first (subst (λ n. AllFrom G (a + n) ys) (sym is) second)

-- an operator after its operands
after_operands : (G : ℕ → Node → Type 0) (a n m : ℕ) (xs ys : List Node) (x : Node) → length xs ≡ n → length ys ≡ m → AllFrom G a xs → AllFrom G (a + n) ys → G (a + (n + m)) x → AllFrom G a ((xs ++ ys) ++ x ∷ [])
after_operands G a n m xs ys x is is' first second last =
    let both : length (xs ++ ys) ≡ n + m = length-append xs ys ∙ (λ i. is i + is' i) in
    in_a_row G a (n + m) (xs ++ ys) (x ∷ []) both (in_a_row G a n xs ys is first second) (AllFrom-one G (a + (n + m)) x last)

no_more : (G : ℕ → Node → Type 0) (a : ℕ) → AllFrom G a []
no_more G a i low = absurd (omega arith)

-- a variable of a node is below this number
abbrev pub HasVariablesBelow : ℕ → Node → Type 0
HasVariablesBelow vars (node.Var x) = x < vars
HasVariablesBelow vars _ = Unit {0}

-- what a closed book of n nodes asks of a node, and of its variable
pub record IsFine (vars n i : ℕ) (x : Node) : Type 0 where
  pub ordered : IsOrdered i x
  pub below : HasChildrenBelow n x
  pub variable : HasVariablesBelow vars x

-- the nodes of a layer are good, in a book of n nodes
pub layer-good : (vars m recs p q n : ℕ) (nodes : List ℕ) (a : Ty) → IsFit vars m recs a → AreBelow p m recs nodes → AreBelow q 0 recs nodes → p + here a ≤ q → q + under a ≤ n → AllFrom (IsFine vars n) p (layer p q nodes a)
unfolding here under layer
layer-good vars m recs p q n nodes (var x) fit inner outer le le' = AllFrom-one (IsFine vars n) p (node.Var x) (record { ordered = tt; below = tt; variable = fit })
layer-good vars m recs p q n nodes (again k) fit inner outer le le' = no_more (IsFine vars n) p
layer-good vars m recs p q n nodes boolean fit inner outer le le' = AllFrom-one (IsFine vars n) p node.Bool (record { ordered = tt; below = tt; variable = tt })
layer-good vars m recs p q n nodes integer fit inner outer le le' = AllFrom-one (IsFine vars n) p node.Int (record { ordered = tt; below = tt; variable = tt })
layer-good vars m recs p q n nodes top fit inner outer le le' = AllFrom-one (IsFine vars n) p node.Top (record { ordered = tt; below = tt; variable = tt })
layer-good vars m recs p q n nodes bot fit inner outer le le' = AllFrom-one (IsFine vars n) p node.Bot (record { ordered = tt; below = tt; variable = tt })
layer-good vars m recs p q n nodes (arrow a b) fit inner outer le le' =
    let r : ℕ = q + (here a + under a) in
    let first : stands q nodes a < q + here a = stands-below vars 0 recs q nodes a fit.0 outer in
    let second : stands r nodes b < r + here b = stands-below vars 0 recs r nodes b fit.1 (AreBelow-more q r 0 recs nodes (omega arith) outer) in
    AllFrom-one (IsFine vars n) p (node.Arrow (id (stands q nodes a)) (id (stands r nodes b)))
    (record { ordered = tt; below = (omega arith, omega arith); variable = tt })
layer-good vars m recs p q n nodes (join a b) fit inner outer le le' =
    let first : stands p nodes a < p + here a = stands-below vars m recs p nodes a fit.0 inner in
    let inner' : AreBelow (p + here a) m recs nodes = AreBelow-more p (p + here a) m recs nodes (omega arith) inner in
    let second : stands (p + here a) nodes b < p + here a + here b = stands-below vars m recs (p + here a) nodes b fit.1 inner' in
    after_operands (IsFine vars n) p (here a) (here b) (layer p q nodes a) (layer (p + here a) (q + under a) nodes b)
    (node.Join (id (stands p nodes a)) (id (stands (p + here a) nodes b)))
    (length-layer p q nodes a) (length-layer (p + here a) (q + under a) nodes b)
    (layer-good vars m recs p q n nodes a fit.0 inner outer (omega arith) (omega arith))
    (layer-good vars m recs (p + here a) (q + under a) n nodes b fit.1 inner' (AreBelow-more q (q + under a) 0 recs nodes (omega arith) outer) (omega arith) (omega arith))
    (record { ordered = (omega arith, omega arith); below = (omega arith, omega arith); variable = tt })
layer-good vars m recs p q n nodes (meet a b) fit inner outer le le' =
    let first : stands p nodes a < p + here a = stands-below vars m recs p nodes a fit.0 inner in
    let inner' : AreBelow (p + here a) m recs nodes = AreBelow-more p (p + here a) m recs nodes (omega arith) inner in
    let second : stands (p + here a) nodes b < p + here a + here b = stands-below vars m recs (p + here a) nodes b fit.1 inner' in
    after_operands (IsFine vars n) p (here a) (here b) (layer p q nodes a) (layer (p + here a) (q + under a) nodes b)
    (node.Meet (id (stands p nodes a)) (id (stands (p + here a) nodes b)))
    (length-layer p q nodes a) (length-layer (p + here a) (q + under a) nodes b)
    (layer-good vars m recs p q n nodes a fit.0 inner outer (omega arith) (omega arith))
    (layer-good vars m recs (p + here a) (q + under a) n nodes b fit.1 inner' (AreBelow-more q (q + under a) 0 recs nodes (omega arith) outer) (omega arith) (omega arith))
    (record { ordered = (omega arith, omega arith); below = (omega arith, omega arith); variable = tt })
layer-good vars m recs p q n nodes (fields all) fit inner outer le le' =
    AllFrom-one (IsFine vars n) p (node.Rcd (field_nodes q nodes all))
    (record { ordered = fields-rising vars recs q nodes all fit; below = fields-below vars recs q n nodes all fit outer le'; variable = tt })
layer-good vars m recs p q n nodes (rec a) fit inner outer le le' =
    let s : ℕ = stands p (0 ∷ nodes) a in
    let at : s < p + here a = stands-below vars (suc m) (suc recs) p (0 ∷ nodes) a fit (AreBelow-rec p m recs 0 nodes inner) in
    layer-good vars (suc m) (suc recs) p q n (s ∷ nodes) a fit (AreBelow-rec p m recs s nodes inner) (AreBelow-all q recs s nodes (omega arith) outer) le le'

-- and so are all below it
mutual
  unfolding here under layer below

  pub below-good : (vars m recs p q n : ℕ) (nodes : List ℕ) (a : Ty) → IsFit vars m recs a → AreBelow p m recs nodes → AreBelow q 0 recs nodes → p + here a ≤ q → q + under a ≤ n → AllFrom (IsFine vars n) q (below p q nodes a)
  below-good vars m recs p q n nodes (var x) fit inner outer le le' = no_more (IsFine vars n) q
  below-good vars m recs p q n nodes (again k) fit inner outer le le' = no_more (IsFine vars n) q
  below-good vars m recs p q n nodes boolean fit inner outer le le' = no_more (IsFine vars n) q
  below-good vars m recs p q n nodes integer fit inner outer le le' = no_more (IsFine vars n) q
  below-good vars m recs p q n nodes top fit inner outer le le' = no_more (IsFine vars n) q
  below-good vars m recs p q n nodes bot fit inner outer le le' = no_more (IsFine vars n) q
  below-good vars m recs p q n nodes (arrow a b) fit inner outer le le' =
      let r : ℕ = q + (here a + under a) in
      let outer' : AreBelow r 0 recs nodes = AreBelow-more q r 0 recs nodes (omega arith) outer in
      in_a_row (IsFine vars n) q (here a + under a) (block q nodes a) (block r nodes b) (length-block q nodes a)
      (in_a_row (IsFine vars n) q (here a) (layer q (q + here a) nodes a) (below q (q + here a) nodes a) (length-layer q (q + here a) nodes a)
      (layer-good vars 0 recs q (q + here a) n nodes a fit.0 outer (AreBelow-more q (q + here a) 0 recs nodes (omega arith) outer) (omega arith) (omega arith))
      (below-good vars 0 recs q (q + here a) n nodes a fit.0 outer (AreBelow-more q (q + here a) 0 recs nodes (omega arith) outer) (omega arith) (omega arith)))
      (in_a_row (IsFine vars n) r (here b) (layer r (r + here b) nodes b) (below r (r + here b) nodes b) (length-layer r (r + here b) nodes b)
      (layer-good vars 0 recs r (r + here b) n nodes b fit.1 outer' (AreBelow-more r (r + here b) 0 recs nodes (omega arith) outer') (omega arith) (omega arith))
      (below-good vars 0 recs r (r + here b) n nodes b fit.1 outer' (AreBelow-more r (r + here b) 0 recs nodes (omega arith) outer') (omega arith) (omega arith)))
  below-good vars m recs p q n nodes (join a b) fit inner outer le le' =
      in_a_row (IsFine vars n) q (under a) (below p q nodes a) (below (p + here a) (q + under a) nodes b) (length-below p q nodes a)
      (below-good vars m recs p q n nodes a fit.0 inner outer (omega arith) (omega arith))
      (below-good vars m recs (p + here a) (q + under a) n nodes b fit.1 (AreBelow-more p (p + here a) m recs nodes (omega arith) inner) (AreBelow-more q (q + under a) 0 recs nodes (omega arith) outer) (omega arith) (omega arith))
  below-good vars m recs p q n nodes (meet a b) fit inner outer le le' =
      in_a_row (IsFine vars n) q (under a) (below p q nodes a) (below (p + here a) (q + under a) nodes b) (length-below p q nodes a)
      (below-good vars m recs p q n nodes a fit.0 inner outer (omega arith) (omega arith))
      (below-good vars m recs (p + here a) (q + under a) n nodes b fit.1 (AreBelow-more p (p + here a) m recs nodes (omega arith) inner) (AreBelow-more q (q + under a) 0 recs nodes (omega arith) outer) (omega arith) (omega arith))
  below-good vars m recs p q n nodes (fields all) fit inner outer le le' = below_fields-good vars recs q n nodes all fit outer le'
  below-good vars m recs p q n nodes (rec a) fit inner outer le le' =
      let s : ℕ = stands p (0 ∷ nodes) a in
      let at : s < p + here a = stands-below vars (suc m) (suc recs) p (0 ∷ nodes) a fit (AreBelow-rec p m recs 0 nodes inner) in
      below-good vars (suc m) (suc recs) p q n (s ∷ nodes) a fit (AreBelow-rec p m recs s nodes inner) (AreBelow-all q recs s nodes (omega arith) outer) le le'

  pub below_fields-good : (vars recs q n : ℕ) (nodes : List ℕ) (all : TyFields) → AreFit vars recs all → AreBelow q 0 recs nodes → q + under_fields all ≤ n → AllFrom (IsFine vars n) q (below_fields q nodes all)
  below_fields-good vars recs q n nodes none fit outer le = no_more (IsFine vars n) q
  below_fields-good vars recs q n nodes (one label a rest) fit outer le =
      let r : ℕ = q + (here a + under a) in
      in_a_row (IsFine vars n) q (here a + under a) (block q nodes a) (below_fields r nodes rest) (length-block q nodes a)
      (in_a_row (IsFine vars n) q (here a) (layer q (q + here a) nodes a) (below q (q + here a) nodes a) (length-layer q (q + here a) nodes a)
      (layer-good vars 0 recs q (q + here a) n nodes a fit.1 outer (AreBelow-more q (q + here a) 0 recs nodes (omega arith) outer) (omega arith) (omega arith))
      (below-good vars 0 recs q (q + here a) n nodes a fit.1 outer (AreBelow-more q (q + here a) 0 recs nodes (omega arith) outer) (omega arith) (omega arith)))
      (below_fields-good vars recs r n nodes rest fit.2 (AreBelow-more q r 0 recs nodes (omega arith) outer) (omega arith))

-- under no `rec` nothing is asked
nothing_around : (n m : ℕ) → AreBelow n m 0 []
nothing_around n m k first last = absurd (omega arith)

-- so are all nodes of the book of a fit type
book_of-fine : (vars : ℕ) (a : Ty) → IsFit vars 0 0 a → AllFrom (IsFine vars (length (book_of a))) 0 (book_of a)
unfolding book_of
book_of-fine vars a fit =
    let size : length (book_of a) ≡ here a + under a = length-book_of a in
    subst (λ n. AllFrom (IsFine vars n) 0 (book_of a)) (sym size)
    (in_a_row (IsFine vars (here a + under a)) 0 (here a) (layer 0 (here a) [] a) (below 0 (here a) [] a) (length-layer 0 (here a) [] a)
    (layer-good vars 0 0 0 (here a) (here a + under a) [] a fit (nothing_around 0 0) (nothing_around (here a) 0) (omega arith) (omega arith))
    (let at : here a ≡ 0 + here a = omega arith in
    subst (λ q. AllFrom (IsFine vars (here a + under a)) q (below 0 (here a) [] a)) at
    (below-good vars 0 0 0 (here a) (here a + under a) [] a fit (nothing_around 0 0) (nothing_around (here a) 0) (omega arith) (omega arith))))

-- so the book is closed
pub book_of-closed : (vars : ℕ) (a : Ty) → IsFit vars 0 0 a → IsClosedBook (book_of a)
book_of-closed vars a fit =
    closed_from (book_of a)
    (λ i low. let fine = book_of-fine vars a fit i low in record { ordered = fine.ordered; below = fine.below })

-- its variables are those of the type
pub book_of-variables : (vars : ℕ) (a : Ty) → IsFit vars 0 0 a → (i x : ℕ) → i < length (book_of a) → node_at (book_of a) i ≡ node.Var x → x < vars
book_of-variables vars a fit i x low is =
    let variable : HasVariablesBelow vars (node_at (book_of a) i) = (book_of-fine vars a fit i low).variable in
    subst (HasVariablesBelow vars) is variable

-- and it has the node that the type stands for
pub root_of-below : (vars : ℕ) (a : Ty) → IsFit vars 0 0 a → root_of a < length (book_of a)
unfolding root_of
root_of-below vars a fit =
    let size : length (book_of a) ≡ here a + under a = length-book_of a in
    let at : stands 0 [] a < 0 + here a = stands-below vars 0 0 0 [] a fit (nothing_around 0 0) in
    omega arith
