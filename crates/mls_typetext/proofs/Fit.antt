-- Types whose names and variables are there, and the sizes of their books.
use Rattle.std.proofs.Common.{◌≡◌, ℕ, zero, suc, ◌+◌, ◌<◌, ◌≤◌, false, List, [], ◌∷◌, ◌++◌, length, refl, ◌∙◌, arith, length-append}
use Rattle.mls_book.specs.declared.book.Node.{Node}
use Rattle.mls_typetext.specs.Books.{Ty, var, again, boolean, integer, top, bot, arrow, join, meet, fields, rec, TyFields, none, one, is_in, here, under, under_fields, node_in, stands, layer, below, below_fields, book_of}

-- the labels of fields
abbrev pub labels_of : TyFields → List (List ℕ)
labels_of none = []
labels_of (one label a rest) = label ∷ labels_of rest

-- A type with so many variables, under so many `rec`s, the nearest m of them in its own layer: a recursive name is one of the others,
-- and the labels of a record differ.
abbrev mutual
  pub IsFit : (vars m recs : ℕ) → Ty → Type 0
  IsFit vars m recs (var x) = x < vars
  IsFit vars m recs (again k) = (m ≤ k) × (k < recs)
  IsFit vars m recs boolean = Unit {0}
  IsFit vars m recs integer = Unit {0}
  IsFit vars m recs top = Unit {0}
  IsFit vars m recs bot = Unit {0}
  IsFit vars m recs (arrow a b) = IsFit vars 0 recs a × IsFit vars 0 recs b
  IsFit vars m recs (join a b) = IsFit vars m recs a × IsFit vars m recs b
  IsFit vars m recs (meet a b) = IsFit vars m recs a × IsFit vars m recs b
  IsFit vars m recs (fields all) = AreFit vars recs all
  IsFit vars m recs (rec a) = IsFit vars (suc m) (suc recs) a

  pub AreFit : (vars recs : ℕ) → TyFields → Type 0
  AreFit vars recs none = Unit {0}
  AreFit vars recs (one label a rest) = (is_in (labels_of rest) label ≡ false) × IsFit vars 0 recs a × AreFit vars recs rest

length-two : (xs ys : List Node) (n m : ℕ) → length xs ≡ n → length ys ≡ m → length (xs ++ ys) ≡ n + m
length-two xs ys n m is is' = length-append xs ys ∙ (λ i. is i + is' i)

-- three parts in a row have their sizes together
length-three : (xs ys : List Node) (x : Node) (n m : ℕ) → length xs ≡ n → length ys ≡ m → length ((xs ++ ys) ++ x ∷ []) ≡ suc (n + m)
length-three xs ys x n m is is' =
    let all : length ((xs ++ ys) ++ x ∷ []) ≡ n + m + 1 = length-two (xs ++ ys) (x ∷ []) (n + m) 1 (length-two xs ys n m is is') refl in
    omega arith

-- a layer has the size that is counted
pub length-layer : (p q : ℕ) (recs : List ℕ) (a : Ty) → length (layer p q recs a) ≡ here a
unfolding here layer
length-layer p q recs (var x) = refl
length-layer p q recs (again k) = refl
length-layer p q recs boolean = refl
length-layer p q recs integer = refl
length-layer p q recs top = refl
length-layer p q recs bot = refl
length-layer p q recs (arrow a b) = refl
length-layer p q recs (join a b) = length-three _ _ _ (here a) (here b) (length-layer p q recs a) (length-layer (p + here a) (q + under a) recs b)
length-layer p q recs (meet a b) = length-three _ _ _ (here a) (here b) (length-layer p q recs a) (length-layer (p + here a) (q + under a) recs b)
length-layer p q recs (fields all) = refl
length-layer p q recs (rec a) = length-layer p q (stands p (0 ∷ recs) a ∷ recs) a

-- and so has what lies below it
mutual
  unfolding under below

  pub length-below : (p q : ℕ) (recs : List ℕ) (a : Ty) → length (below p q recs a) ≡ under a
  length-below p q recs (var x) = refl
  length-below p q recs (again k) = refl
  length-below p q recs boolean = refl
  length-below p q recs integer = refl
  length-below p q recs top = refl
  length-below p q recs bot = refl
  length-below p q recs (arrow a b) =
      let r : ℕ = q + (here a + under a) in
      length-two _ _ (here a + under a) (here b + under b)
      (length-two _ _ (here a) (under a) (length-layer q (q + here a) recs a) (length-below q (q + here a) recs a))
      (length-two _ _ (here b) (under b) (length-layer r (r + here b) recs b) (length-below r (r + here b) recs b))
  length-below p q recs (join a b) = length-two _ _ (under a) (under b) (length-below p q recs a) (length-below (p + here a) (q + under a) recs b)
  length-below p q recs (meet a b) = length-two _ _ (under a) (under b) (length-below p q recs a) (length-below (p + here a) (q + under a) recs b)
  length-below p q recs (fields all) = length-below_fields q recs all
  length-below p q recs (rec a) = length-below p q (stands p (0 ∷ recs) a ∷ recs) a

  pub length-below_fields : (q : ℕ) (recs : List ℕ) (all : TyFields) → length (below_fields q recs all) ≡ under_fields all
  length-below_fields q recs none = refl
  length-below_fields q recs (one label a rest) =
      length-two _ _ (here a + under a) (under_fields rest)
      (length-two _ _ (here a) (under a) (length-layer q (q + here a) recs a) (length-below q (q + here a) recs a))
      (length-below_fields (q + (here a + under a)) recs rest)

-- a layer with all that lies below it
abbrev pub block : ℕ → List ℕ → Ty → List Node
block q recs a = layer q (q + here a) recs a ++ below q (q + here a) recs a

pub length-block : (q : ℕ) (recs : List ℕ) (a : Ty) → length (block q recs a) ≡ here a + under a
length-block q recs a = length-two _ _ (here a) (under a) (length-layer q (q + here a) recs a) (length-below q (q + here a) recs a)

pub length-book_of : (a : Ty) → length (book_of a) ≡ here a + under a
unfolding book_of
length-book_of a = length-two _ _ (here a) (under a) (length-layer 0 (here a) [] a) (length-below 0 (here a) [] a)

-- the nodes of the `rec`s outside the layer lie below a number
abbrev pub AreBelow : (n m recs : ℕ) → List ℕ → Type 0
AreBelow n m recs nodes = (k : ℕ) → m ≤ k → k < recs → node_in nodes k < n

pub AreBelow-more : (n n' m recs : ℕ) (nodes : List ℕ) → n ≤ n' → AreBelow n m recs nodes → AreBelow n' m recs nodes
AreBelow-more n n' m recs nodes le all k first last = let one : node_in nodes k < n = all k first last in omega arith

-- a further `rec` of the layer changes nothing
pub AreBelow-rec : (n m recs i : ℕ) (nodes : List ℕ) → AreBelow n m recs nodes → AreBelow n (suc m) (suc recs) (i ∷ nodes)
AreBelow-rec n m recs i nodes all zero first last = absurd (omega arith)
AreBelow-rec n m recs i nodes all (suc k) first last = all k (omega arith) (omega arith)

-- and counts where all do
pub AreBelow-all : (n recs i : ℕ) (nodes : List ℕ) → i < n → AreBelow n 0 recs nodes → AreBelow n 0 (suc recs) (i ∷ nodes)
AreBelow-all n recs i nodes low all zero first last = low
AreBelow-all n recs i nodes low all (suc k) first last = all k (omega arith) (omega arith)

-- the node that a type stands for comes before the layer's end
pub stands-below : (vars m recs p : ℕ) (nodes : List ℕ) (a : Ty) → IsFit vars m recs a → AreBelow p m recs nodes → stands p nodes a < p + here a
unfolding here stands
stands-below vars m recs p nodes (var x) fit all = omega arith
stands-below vars m recs p nodes (again k) fit all = let one : node_in nodes k < p = all k fit.0 fit.1 in omega arith
stands-below vars m recs p nodes boolean fit all = omega arith
stands-below vars m recs p nodes integer fit all = omega arith
stands-below vars m recs p nodes top fit all = omega arith
stands-below vars m recs p nodes bot fit all = omega arith
stands-below vars m recs p nodes (arrow a b) fit all = omega arith
stands-below vars m recs p nodes (join a b) fit all = omega arith
stands-below vars m recs p nodes (meet a b) fit all = omega arith
stands-below vars m recs p nodes (fields all) fit low = omega arith
stands-below vars m recs p nodes (rec a) fit all = stands-below vars (suc m) (suc recs) p (0 ∷ nodes) a fit (AreBelow-rec p m recs 0 nodes all)

-- the `rec`s of its own layer do not count for it
abbrev pub AreSame : (m recs : ℕ) → List ℕ → List ℕ → Type 0
AreSame m recs nodes others = (k : ℕ) → m ≤ k → k < recs → node_in nodes k ≡ node_in others k

AreSame-rec : (m recs i j : ℕ) (nodes others : List ℕ) → AreSame m recs nodes others → AreSame (suc m) (suc recs) (i ∷ nodes) (j ∷ others)
AreSame-rec m recs i j nodes others all zero first last = absurd (omega arith)
AreSame-rec m recs i j nodes others all (suc k) first last = all k (omega arith) (omega arith)

pub stands-same : (vars m recs p : ℕ) (nodes others : List ℕ) (a : Ty) → IsFit vars m recs a → AreSame m recs nodes others → stands p nodes a ≡ stands p others a
unfolding stands
stands-same vars m recs p nodes others (var x) fit all = refl
stands-same vars m recs p nodes others (again k) fit all = all k fit.0 fit.1
stands-same vars m recs p nodes others boolean fit all = refl
stands-same vars m recs p nodes others integer fit all = refl
stands-same vars m recs p nodes others top fit all = refl
stands-same vars m recs p nodes others bot fit all = refl
stands-same vars m recs p nodes others (arrow a b) fit all = refl
stands-same vars m recs p nodes others (join a b) fit all = refl
stands-same vars m recs p nodes others (meet a b) fit all = refl
stands-same vars m recs p nodes others (fields all) fit same = refl
stands-same vars m recs p nodes others (rec a) fit all = stands-same vars (suc m) (suc recs) p (0 ∷ nodes) (0 ∷ others) a fit (AreSame-rec m recs 0 0 nodes others all)

-- so the body of a `rec` stands for one node, whatever the `rec` stands for
pub stands-rec : (vars m recs p i j : ℕ) (nodes : List ℕ) (a : Ty) → IsFit vars (suc m) (suc recs) a → stands p (i ∷ nodes) a ≡ stands p (j ∷ nodes) a
stands-rec vars m recs p i j nodes a fit = stands-same vars (suc m) (suc recs) p (i ∷ nodes) (j ∷ nodes) a fit (AreSame-rec m recs i j nodes nodes (λ k first last. refl))
