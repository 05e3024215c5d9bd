-- What the machine lays out is the book of the type.
use Rattle.std.proofs.Common.{◌≡◌, ℕ, zero, suc, ◌+◌, ◌-◌, ◌<◌, ◌≤◌, List, [], ◌∷◌, ◌++◌, length, drop, reverse, get_or, refl, sym, ap, ◌∙◌, arith, Some, None, append-nil}
use Rattle.std.specs.Prelude.{Option}
use Rattle.std.proofs.lemmas.List.{append_assoc, reverse-append, get_or-reverse, length-reverse}
use Rattle.std.proofs.Math.Seq.{take-append_seam}
use Rattle.mls_book.specs.declared.book.Field.{Field}
use Rattle.mls_book.specs.declared.book.Node.{Node}
use Rattle.mls_book.specs.declared.book.Node.TheVariants as node
use Rattle.mls_typetext.specs.declared.piece.Size.{Size}
use Rattle.mls_typetext.specs.declared.piece.Member.{Member}
use Rattle.mls_typetext.specs.declared.piece.Member.TheVariants as member
use Rattle.mls_typetext.specs.declared.lay_out.LayoutPlace.{LayoutPlace}
use Rattle.mls_typetext.specs.declared.lay_out.LayoutPlace.TheVariants.{Part, Block, Fields}
use Rattle.mls_typetext.specs.declared.lay_out.LayoutTask.{LayoutTask}
use Rattle.mls_typetext.specs.declared.lay_out.LayoutTask.TheVariants.{At, Leave, End}
use Rattle.mls_typetext.specs.Books.{Ty, var, again, boolean, integer, top, bot, arrow, join, meet, fields, rec, TyFields, none, one, here, under, node_in, stands, id, placed, field_nodes, layer, below, below_fields, book_of}
use Rattle.mls_typetext.specs.steps.Members.{outer, stands_for, size_of, members, field_members}
use Rattle.mls_typetext.specs.steps.Laying.{State, stand_by, stand, in_order, closed_by, closed, at_place, lay_next, lay_all}
use Rattle.mls_typetext.proofs.Fit.{block}

outer-some : (o : Option ℕ) (k n : ℕ) → ((j : ℕ) → o ≡ Some j → n ≡ 0) → outer o ≡ Some k → n ≡ 0
outer-some None k n empty e = absurd (cc)
outer-some (Some j) k n empty e = empty j refl

-- a type without a node of its own has an empty layer
stands_for-here : (a : Ty) (k : ℕ) → stands_for a ≡ Some k → here a ≡ 0
unfolding here
stands_for-here (var x) k e = absurd (cc)
stands_for-here (again j) k e = refl
stands_for-here boolean k e = absurd (cc)
stands_for-here integer k e = absurd (cc)
stands_for-here top k e = absurd (cc)
stands_for-here bot k e = absurd (cc)
stands_for-here (arrow a b) k e = absurd (cc)
stands_for-here (join a b) k e = absurd (cc)
stands_for-here (meet a b) k e = absurd (cc)
stands_for-here (fields all) k e = absurd (cc)
stands_for-here (rec a) k e = outer-some (stands_for a) k (here a) (stands_for-here a) e

-- the node that is found for a size is the one that the type stands for
stand-rec : (p : ℕ) (recs : List ℕ) (n : ℕ) (o : Option ℕ) → ((k : ℕ) → o ≡ Some k → n ≡ 0) → stand_by p (0 ∷ recs) n o ≡ stand_by p recs n (outer o)
stand-rec p recs zero None empty = refl
stand-rec p recs (suc n) None empty = refl
stand-rec p recs zero (Some zero) empty = refl
stand-rec p recs (suc n) (Some zero) empty = let no : suc n ≡ 0 = empty 0 refl in absurd (cc)
stand-rec p recs n (Some (suc k)) empty = refl

add-zero : (p : ℕ) → p + 0 ≡ p
add-zero p = omega arith

pub stands-is : (p : ℕ) (recs : List ℕ) (a : Ty) → stands p recs a ≡ stand p recs (size_of a)
unfolding stands here
stands-is p recs (var x) = sym (add-zero p)
stands-is p recs (again k) = refl
stands-is p recs boolean = sym (add-zero p)
stands-is p recs integer = sym (add-zero p)
stands-is p recs top = sym (add-zero p)
stands-is p recs bot = sym (add-zero p)
stands-is p recs (arrow a b) = sym (add-zero p)
stands-is p recs (join a b) = refl
stands-is p recs (meet a b) = refl
stands-is p recs (fields all) = sym (add-zero p)
stands-is p recs (rec a) = stands-is p (0 ∷ recs) a ∙ stand-rec p recs (here a) (stands_for a) (stands_for-here a)

-- a node of the `rec`s around, of which the nearest is kept last
node_in-get_or : (ns : List ℕ) (k d : ℕ) → k < length ns → node_in ns k ≡ get_or ns k d
node_in-get_or [] k d low = absurd (omega arith)
node_in-get_or (n ∷ ns) zero d low = refl
node_in-get_or (n ∷ ns) (suc k) d low = node_in-get_or ns k d (omega arith)

pub node_in-last : (ns : List ℕ) (k d : ℕ) → k < length ns → get_or ns (length ns - 1 - k) d ≡ node_in (reverse ns) k
node_in-last ns k d low =
    let same : length (reverse ns) ≡ length ns = length-reverse ns in
    sym (node_in-get_or (reverse ns) k d (omega arith) ∙ get_or-reverse ns k d low)

node_in-beyond : (ns : List ℕ) (k : ℕ) → length ns ≤ k → node_in ns k ≡ 0
node_in-beyond [] k high = refl
node_in-beyond (n ∷ ns) zero high = absurd (omega arith)
node_in-beyond (n ∷ ns) (suc k) high = node_in-beyond ns k (omega arith)

pub node_in-past : (ns : List ℕ) (k : ℕ) → length ns ≤ k → node_in (reverse ns) k ≡ 0
node_in-past ns k high = let same : length (reverse ns) ≡ length ns = length-reverse ns in node_in-beyond (reverse ns) k (omega arith)

-- lists, from their last elements
module _ {A : Type 0} where
  reverse-last : (xs : List A) (x : A) (rest : List A) → reverse (xs ++ x ∷ []) ++ rest ≡ x ∷ (reverse xs ++ rest)
  reverse-last xs x rest = ap (λ ys. ys ++ rest) (reverse-append xs (x ∷ []))

  reverse-two : (xs ys : List A) (x : A) (rest : List A) → reverse (xs ++ (ys ++ x ∷ [])) ++ rest ≡ x ∷ (reverse ys ++ (reverse xs ++ rest))
  reverse-two xs ys x rest =
      ap (λ zs. reverse zs ++ rest) (sym (append_assoc xs ys (x ∷ [])))
      ∙ (reverse-last (xs ++ ys) x rest
      ∙ ap (λ zs. x ∷ zs) (ap (λ zs. zs ++ rest) (reverse-append xs ys) ∙ append_assoc (reverse ys) (reverse xs) rest))

  -- what is put behind a list in two steps
  back-two : (out xs ys : List A) → (out ++ reverse ys) ++ reverse xs ≡ out ++ reverse (xs ++ ys)
  back-two out xs ys = append_assoc out (reverse ys) (reverse xs) ∙ ap (λ zs. out ++ zs) (sym (reverse-append xs ys))

  back-three : (out xs ys : List A) (x : A) → ((out ++ x ∷ []) ++ reverse ys) ++ reverse xs ≡ out ++ reverse ((xs ++ ys) ++ x ∷ [])
  back-three out xs ys x = back-two (out ++ x ∷ []) xs ys ∙ back-two out (xs ++ ys) (x ∷ [])

  drop-append_seam : (xs ys : List A) → drop (length xs) (xs ++ ys) ≡ ys
  drop-append_seam [] ys = refl
  drop-append_seam (x ∷ xs) ys = drop-append_seam xs ys

-- the machine from a state in which nothing is over
abbrev pub from : List LayoutTask → List ℕ → List Node → List Field → List Node → List Member → List Node
from tasks recs held fs nodes ms = lay_all (closed_by tasks recs held fs nodes) ms

-- a part of a layer adds its nodes to the layer, and what lies below it to the nodes that are laid out
abbrev pub LaysPart : Ty → Type 0
LaysPart a = (p q : ℕ) (recs : List ℕ) (held nodes : List Node) (st : List LayoutTask) (rest : List Member)
    → from (At (Part p q (size_of a)) ∷ st) recs held [] nodes (reverse (members a) ++ rest)
    ≡ from st recs (held ++ reverse (layer p q recs a)) [] (nodes ++ reverse (below p q recs a)) rest

-- a layer of its own adds all its nodes to those that are laid out
abbrev pub LaysBlock : Ty → Type 0
LaysBlock a = (p : ℕ) (recs : List ℕ) (held nodes : List Node) (st : List LayoutTask) (rest : List Member)
    → from (At (Block p (size_of a)) ∷ st) recs held [] nodes (reverse (members a) ++ rest)
    ≡ from st recs held [] (nodes ++ reverse (block p recs a)) rest

-- the fields of a record as they stand in the text
abbrev pub raw : ℕ → List ℕ → TyFields → List Field
raw q recs none = []
raw q recs (one label a rest) = record { label = label; node = id (stands q recs a) } ∷ raw (q + (here a + under a)) recs rest

abbrev pub LaysFields : TyFields → Type 0
LaysFields all = (q : ℕ) (recs : List ℕ) (held nodes : List Node) (fs : List Field) (st : List LayoutTask) (rest : List Member)
    → from (At (Fields q) ∷ st) recs held fs nodes (reverse (field_members all) ++ rest)
    ≡ from st recs (held ++ node.Rcd (in_order (fs ++ raw q recs all)) ∷ []) [] (nodes ++ reverse (below_fields q recs all)) rest

raw-in_order : (q : ℕ) (recs : List ℕ) (all : TyFields) → in_order (raw q recs all) ≡ field_nodes q recs all
unfolding in_order field_nodes
raw-in_order q recs none = refl
raw-in_order q recs (one label a rest) = ap (placed (record { label = label; node = id (stands q recs a) })) (raw-in_order (q + (here a + under a)) recs rest)

-- a layer of its own is a part of a layer that ends behind it
block-part : (p : ℕ) (size : Size) (recs : List ℕ) (held nodes : List Node) (st : List LayoutTask) (ms : List Member)
    → from (At (Block p size) ∷ st) recs held [] nodes ms ≡ from (At (Part p (p + size.here) size) ∷ End (length held) ∷ st) recs held [] nodes ms
unfolding lay_all
block-part p size recs held nodes st [] = refl
block-part p size recs held nodes st (m ∷ ms) = refl

part-block : (a : Ty) → LaysPart a → LaysBlock a
part-block a part p recs held nodes st rest =
    block-part p (size_of a) recs held nodes st (reverse (members a) ++ rest)
    ∙ (part p (p + here a) recs held nodes (End (length held) ∷ st) rest
    ∙ ((λ i. from st recs (take-append_seam held (reverse (layer p (p + here a) recs a)) i) [] ((nodes ++ reverse (below p (p + here a) recs a)) ++ drop-append_seam held (reverse (layer p (p + here a) recs a)) i) rest)
    ∙ ap (λ out. from st recs held [] out rest) (back-two nodes (layer p (p + here a) recs a) (below p (p + here a) recs a))))

part-leaf : (recs : List ℕ) (held nodes : List Node) (st : List LayoutTask) (rest : List Member) → from st recs held [] nodes rest ≡ from st recs held [] (nodes ++ []) rest
part-leaf recs held nodes st rest = ap (λ out. from st recs held [] out rest) (sym (append-nil nodes))

part-arrow : (a b : Ty) → LaysBlock a → LaysBlock b → LaysPart (arrow a b)
unfolding lay_all layer below
part-arrow a b block-a block-b p q recs held nodes st rest =
    let r : ℕ = q + (here a + under a) in
    let more : List Node = held ++ node.Arrow (id (stand q recs (size_of a))) (id (stand r recs (size_of b))) ∷ [] in
    ap (from (At (Part p q (size_of (arrow a b))) ∷ st) recs held [] nodes) (reverse-two (members a) (members b) (member.Arrow (size_of a) (size_of b)) rest)
    ∙ (block-b r recs more nodes (At (Block q (size_of a)) ∷ st) (reverse (members a) ++ rest)
    ∙ (block-a q recs more (nodes ++ reverse (block r recs b)) st rest
    ∙ (λ i. from st recs (held ++ node.Arrow (id (sym (stands-is q recs a) i)) (id (sym (stands-is r recs b) i)) ∷ []) [] (back-two nodes (block q recs a) (block r recs b) i) rest)))

part-join : (a b : Ty) → LaysPart a → LaysPart b → LaysPart (join a b)
unfolding lay_all layer below
part-join a b part-a part-b p q recs held nodes st rest =
    let r : ℕ = p + here a in
    let s : ℕ = q + under a in
    let more : List Node = held ++ node.Join (id (stand p recs (size_of a))) (id (stand r recs (size_of b))) ∷ [] in
    ap (from (At (Part p q (size_of (join a b))) ∷ st) recs held [] nodes) (reverse-two (members a) (members b) (member.Join (size_of a) (size_of b)) rest)
    ∙ (part-b r s recs more nodes (At (Part p q (size_of a)) ∷ st) (reverse (members a) ++ rest)
    ∙ (part-a p q recs (more ++ reverse (layer r s recs b)) (nodes ++ reverse (below r s recs b)) st rest
    ∙ ((λ i. from st recs (((held ++ node.Join (id (sym (stands-is p recs a) i)) (id (sym (stands-is r recs b) i)) ∷ []) ++ reverse (layer r s recs b)) ++ reverse (layer p q recs a)) [] (back-two nodes (below p q recs a) (below r s recs b) i) rest)
    ∙ ap (λ held. from st recs held [] (nodes ++ reverse (below p q recs a ++ below r s recs b)) rest) (back-three held (layer p q recs a) (layer r s recs b) (node.Join (id (stands p recs a)) (id (stands r recs b)))))))

part-meet : (a b : Ty) → LaysPart a → LaysPart b → LaysPart (meet a b)
unfolding lay_all layer below
part-meet a b part-a part-b p q recs held nodes st rest =
    let r : ℕ = p + here a in
    let s : ℕ = q + under a in
    let more : List Node = held ++ node.Meet (id (stand p recs (size_of a))) (id (stand r recs (size_of b))) ∷ [] in
    ap (from (At (Part p q (size_of (meet a b))) ∷ st) recs held [] nodes) (reverse-two (members a) (members b) (member.Meet (size_of a) (size_of b)) rest)
    ∙ (part-b r s recs more nodes (At (Part p q (size_of a)) ∷ st) (reverse (members a) ++ rest)
    ∙ (part-a p q recs (more ++ reverse (layer r s recs b)) (nodes ++ reverse (below r s recs b)) st rest
    ∙ ((λ i. from st recs (((held ++ node.Meet (id (sym (stands-is p recs a) i)) (id (sym (stands-is r recs b) i)) ∷ []) ++ reverse (layer r s recs b)) ++ reverse (layer p q recs a)) [] (back-two nodes (below p q recs a) (below r s recs b) i) rest)
    ∙ ap (λ held. from st recs held [] (nodes ++ reverse (below p q recs a ++ below r s recs b)) rest) (back-three held (layer p q recs a) (layer r s recs b) (node.Meet (id (stands p recs a)) (id (stands r recs b)))))))

part-rec : (a : Ty) → LaysPart a → LaysPart (rec a)
unfolding lay_all layer below stands here under
part-rec a part p q recs held nodes st rest =
    let n : ℕ = stand p recs (size_of (rec a)) in
    let e : n ≡ stands p (0 ∷ recs) a = sym (stands-is p recs (rec a)) in
    ap (from (At (Part p q (size_of (rec a))) ∷ st) recs held [] nodes) (reverse-last (members a) (member.Rec (size_of a)) rest)
    ∙ (part p q (n ∷ recs) held nodes (Leave ∷ st) rest
    ∙ ap (λ k. from st recs (held ++ reverse (layer p q (k ∷ recs) a)) [] (nodes ++ reverse (below p q (k ∷ recs) a)) rest) e)

part-fields : (all : TyFields) → LaysFields all → LaysPart (fields all)
unfolding lay_all layer below
part-fields all lays p q recs held nodes st rest =
    ap (from (At (Part p q (size_of (fields all))) ∷ st) recs held [] nodes) (reverse-last (field_members all) member.Record rest)
    ∙ (lays q recs held nodes [] st rest
    ∙ ap (λ fs. from st recs (held ++ node.Rcd fs ∷ []) [] (nodes ++ reverse (below_fields q recs all)) rest) (raw-in_order q recs all))

fields-none : LaysFields none
unfolding lay_all below
fields-none q recs held nodes fs st rest =
    (λ i. from st recs (held ++ node.Rcd (in_order (sym (append-nil fs) i)) ∷ []) [] (sym (append-nil nodes) i) rest)

fields-one : (label : List ℕ) (a : Ty) (later : TyFields) → LaysBlock a → LaysFields later → LaysFields (one label a later)
unfolding lay_all below
fields-one label a later block-a lays q recs held nodes fs st rest =
    let r : ℕ = q + (here a + under a) in
    let found : Field = record { label = label; node = id (stand q recs (size_of a)) } in
    let field : Field = record { label = label; node = id (stands q recs a) } in
    ap (from (At (Fields q) ∷ st) recs held fs nodes) (reverse-two (members a) (field_members later) (member.Field label (size_of a)) rest)
    ∙ (lays r recs held nodes (fs ++ found ∷ []) (At (Block q (size_of a)) ∷ st) (reverse (members a) ++ rest)
    ∙ (block-a q recs (held ++ node.Rcd (in_order ((fs ++ found ∷ []) ++ raw r recs later)) ∷ []) (nodes ++ reverse (below_fields r recs later)) st rest
    ∙ ((λ i. from st recs (held ++ node.Rcd (in_order ((fs ++ record { label = label; node = id (sym (stands-is q recs a) i) } ∷ []) ++ raw r recs later)) ∷ []) [] (back-two nodes (block q recs a) (below_fields r recs later) i) rest)
    ∙ ap (λ fs. from st recs (held ++ node.Rcd (in_order fs) ∷ []) [] (nodes ++ reverse (block q recs a ++ below_fields r recs later)) rest) (append_assoc fs (field ∷ []) (raw r recs later)))))

mutual
  unfolding lay_all layer below here under

  pub lays-part : (a : Ty) → LaysPart a
  lays-part (var x) p q recs held nodes st rest = part-leaf recs (held ++ node.Var x ∷ []) nodes st rest
  lays-part (again k) p q recs held nodes st rest = (λ i. from st recs (sym (append-nil held) i) [] (sym (append-nil nodes) i) rest)
  lays-part boolean p q recs held nodes st rest = part-leaf recs (held ++ node.Bool ∷ []) nodes st rest
  lays-part integer p q recs held nodes st rest = part-leaf recs (held ++ node.Int ∷ []) nodes st rest
  lays-part top p q recs held nodes st rest = part-leaf recs (held ++ node.Top ∷ []) nodes st rest
  lays-part bot p q recs held nodes st rest = part-leaf recs (held ++ node.Bot ∷ []) nodes st rest
  lays-part (arrow a b) p q recs held nodes st rest = part-arrow a b (part-block a (lays-part a)) (part-block b (lays-part b)) p q recs held nodes st rest
  lays-part (join a b) p q recs held nodes st rest = part-join a b (lays-part a) (lays-part b) p q recs held nodes st rest
  lays-part (meet a b) p q recs held nodes st rest = part-meet a b (lays-part a) (lays-part b) p q recs held nodes st rest
  lays-part (fields all) p q recs held nodes st rest = part-fields all (lays-fields all) p q recs held nodes st rest
  lays-part (rec a) p q recs held nodes st rest = part-rec a (lays-part a) p q recs held nodes st rest

  pub lays-fields : (all : TyFields) → LaysFields all
  lays-fields none q recs held nodes fs st rest = fields-none q recs held nodes fs st rest
  lays-fields (one label a later) q recs held nodes fs st rest =
      fields-one label a later (part-block a (lays-part a)) (lays-fields later) q recs held nodes fs st rest

-- so from the start the machine lays out the book
pub lays-book : (a : Ty) → lay_all (closed_by (At (Block 0 (size_of a)) ∷ []) [] [] [] []) (reverse (members a)) ≡ reverse (book_of a)
unfolding lay_all book_of
lays-book a =
    let same : 0 + here a ≡ here a = omega arith in
    ap (from (At (Block 0 (size_of a)) ∷ []) [] [] [] []) (sym (append-nil (reverse (members a))))
    ∙ (part-block a (lays-part a) 0 [] [] [] [] []
    ∙ ap (λ q. reverse (layer 0 q [] a ++ below 0 q [] a)) same)

-- the machine takes one piece after another from the end of the pieces
pub lay-step : (s s' : State) (m : Member) (ms ms' : List Member) (all : List Node) → ms ≡ ms' ++ m ∷ [] → s' ≡ lay_next m (closed s)
    → all ≡ lay_all (closed s) (reverse ms) → all ≡ lay_all (closed s') (reverse ms')
unfolding lay_all
lay-step s s' m ms ms' all e step is =
    is ∙ (ap (λ ms. lay_all (closed s) (reverse ms)) e
    ∙ (ap (lay_all (closed s)) (reverse-append ms' (m ∷ []))
    ∙ ap (λ s. lay_all (closed s) (reverse ms')) (sym step)))

nodes-at : (place : Option LayoutPlace) (s : State) → (at_place place s).nodes ≡ s.nodes
nodes-at None s = refl
nodes-at (Some place) s = refl

pub lay-end : (s s' : State) (place : Option LayoutPlace) (ms : List Member) (all : List Node) → ms ≡ [] → closed s ≡ at_place place s'
    → all ≡ lay_all (closed s) (reverse ms) → s'.nodes ≡ all
unfolding lay_all
lay-end s s' place ms all e closes is =
    sym (is ∙ (ap (λ ms. lay_all (closed s) (reverse ms)) e
    ∙ (ap (λ s. s.nodes) closes
    ∙ nodes-at place s')))
