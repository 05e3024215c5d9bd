-- A list grows by pairs of nodes of the book, where the book is closed.
--     all_there       what holds of each pair of a list
--     needs_inside    the pairs that are gathered for a pair of nodes of the book
--     part_inside     a list whose pairs are all in such a one
use Rattle.std.proofs.Common.{◌≡◌, ℕ, ◌<◌, Bool, true, false, List, [], ◌∷◌, ◌++◌, length, refl, Option, Some, None, cond}
use Rattle.std.specs.Prelude.{◌==◌, All, Contains, IfSome, map}
use Rattle.std.specs.List.{flat_map}
use Rattle.std.proofs.lemmas.List.Elements.{All-nil, All-cons, All-head, All-tail, All-append, All-contains, Contains-append_right}
use Rattle.mls_book.specs.declared.book.Field.{Field}
use Rattle.mls_book.specs.declared.book.NodeId.{NodeId}
use Rattle.mls_book.specs.declared.book.Node.{Node}
use Rattle.mls_book.specs.declared.book.Node.TheVariants as node
use Rattle.mls_book.specs.Books.{node_at, field_at, IsClosed}
use Rattle.mls_book.proofs.Children.{HasChildrenIn, at_found, closed_children}
use Rattle.mls_deriv.specs.declared.derivation.Mode.{Mode}
use Rattle.mls_deriv.specs.declared.derivation.Mode.TheVariants.{Lr, Rl, Pp}
use Rattle.mls_deriv.specs.declared.claim.Pair.{Pair}
use Rattle.mls_deriv.specs.Pairs.{exchanged}
use Rattle.mls_deriv.specs.inner.PairRules.{left_node, right_node}
use Rattle.mls_pairs.specs.PairLists.{pair_of, IsInside, StaysInside}
use Rattle.mls_pairs.specs.steps.Needs.{read_as, left_needs, right_needs, label_needs, field_needs, both_needs, node_needs, needs_of, self_needs, is_member, has_member, member_needs, own_needs_at, own_needs, or_else, needs_by}
use Rattle.mls_pairs.proofs.Needed.{head_there}

-- all pairs of a list
pub all_there : (P : Pair → Type 0) (pairs : List Pair) → ((pair : Pair) → Contains pairs pair → P pair) → All P pairs
all_there P [] h = All-nil P
all_there P (pair ∷ rest) h = All-cons P pair rest (h pair (head_there pair rest)) (all_there P rest (λ other there. h other (Contains-append_right (pair ∷ []) rest other there)))

-- below this number
module _ (n : ℕ) where
  abbrev Inside : Pair → Type 0
  Inside = IsInside n

  abbrev HasChildren : Node → Type 0
  HasChildren = HasChildrenIn (λ k. k < n)

  one : (pair : Pair) → Inside pair → All Inside (pair ∷ [])
  one pair it = All-cons Inside pair [] it (All-nil Inside)

  two : (first second : Pair) → Inside first → Inside second → All Inside (first ∷ second ∷ [])
  two first second it other = All-cons Inside first (second ∷ []) it (one second other)

  label_inside : (mode : Mode) (o : Option NodeId) (k : NodeId) → ((m : NodeId) → o ≡ Some m → m.0 < n) → k.0 < n → All Inside (label_needs mode o k)
  label_inside mode None k low k_low = All-nil Inside
  label_inside mode (Some m) k low k_low = one (pair_of mode m.0 k.0) (low m refl, k_low)

  fields_inside : (mode : Mode) (fields others : List Field) → All (λ field. field.node.0 < n) fields → All (λ field. field.node.0 < n) others → All Inside (flat_map (field_needs mode fields) others)
  fields_inside mode fields [] low others_low = All-nil Inside
  fields_inside mode fields (other ∷ rest) low others_low =
      All-append Inside (field_needs mode fields other) (flat_map (field_needs mode fields) rest)
      (label_inside mode (field_at other.label fields) other.node (at_found (λ k. k < n) other.label fields low) (All-head (λ (f : Field). f.node.0 < n) other rest others_low))
      (fields_inside mode fields rest low (All-tail (λ (f : Field). f.node.0 < n) other rest others_low))

  both_inside : (mode : Mode) (v w : Node) → HasChildren v → HasChildren w → All Inside (both_needs mode v w)
  both_inside mode (node.Arrow a b) (node.Arrow c d) v_low w_low = two (pair_of (exchanged mode) c.0 a.0) (pair_of mode b.0 d.0) (w_low.0, v_low.0) (v_low.1, w_low.1)
  both_inside mode (node.Rcd fields) (node.Rcd others) v_low w_low = fields_inside mode fields others v_low w_low
  both_inside mode _ _ v_low w_low = All-nil Inside

  selves_inside : (mode : Mode) (fields : List Field) → All (λ field. field.node.0 < n) fields → All Inside (map (λ (field : Field). pair_of mode field.node.0 field.node.0) fields)
  selves_inside mode [] low = All-nil Inside
  selves_inside mode (field ∷ rest) low =
      let first = All-head (λ (f : Field). f.node.0 < n) field rest low in
      All-cons Inside (pair_of mode field.node.0 field.node.0) (map (λ (f : Field). pair_of mode f.node.0 f.node.0) rest) (first, first)
      (selves_inside mode rest (All-tail (λ (f : Field). f.node.0 < n) field rest low))

  self_inside : (mode : Mode) (i : ℕ) (v : Node) → i < n → HasChildren v → All Inside (self_needs mode i v)
  self_inside mode i (node.Join l r) i_low low = two (pair_of mode l.0 i) (pair_of mode r.0 i) (low.0, i_low) (low.1, i_low)
  self_inside mode i (node.Meet l r) i_low low = two (pair_of mode i l.0) (pair_of mode i r.0) (i_low, low.0) (i_low, low.1)
  self_inside mode i (node.Arrow a b) i_low low = two (pair_of (exchanged mode) a.0 a.0) (pair_of mode b.0 b.0) (low.0, low.0) (low.1, low.1)
  self_inside mode i (node.Rcd fields) i_low low = selves_inside mode fields low
  self_inside mode i _ i_low low = All-nil Inside

  either_inside : (b : Bool) (first second : Option (List Pair)) → IfSome first (All Inside) → IfSome second (All Inside) → IfSome (cond b first second) (All Inside)
  either_inside true first second it other = it
  either_inside false first second it other = other

  own_inside : (pair : Pair) (v w : Node) → Inside pair → HasChildren v → IfSome (own_needs_at pair v w) (All Inside)
  own_inside pair v w it low =
      let mode = pair.mode in
      either_inside (pair.left == pair.right) (Some (self_needs mode pair.left v)) (member_needs mode pair.left pair.right v w)
      (self_inside mode pair.left v it.0 low)
      (either_inside (is_member w pair.left) (Some (pair_of mode pair.left pair.left ∷ [])) (cond (has_member v pair.right) (Some (pair_of mode pair.right pair.right ∷ [])) None)
      (one (pair_of mode pair.left pair.left) (it.0, it.0))
      (either_inside (has_member v pair.right) (Some (pair_of mode pair.right pair.right ∷ [])) None (one (pair_of mode pair.right pair.right) (it.1, it.1)) tt))

  or_inside : (o : Option (List Pair)) (others : List Pair) → IfSome o (All Inside) → All Inside others → All Inside (or_else o others)
  or_inside None others it all = all
  or_inside (Some own) others it all = it

  -- where variables stand for such nodes
  module _ (put : ℕ → Option ℕ) (low : (x m : ℕ) → put x ≡ Some m → m < n) where
    read_inside : (pair : ℕ → Pair) (o : Option ℕ) → ((m : ℕ) → m < n → Inside (pair m)) → ((m : ℕ) → o ≡ Some m → m < n) → All Inside (read_as pair o)
    read_inside pair None such known = All-nil Inside
    read_inside pair (Some m) such known = one (pair m) (such m (known m refl))

    left_low : (mode : Mode) (x m : ℕ) → left_node mode put x ≡ Some m → m < n
    left_low Lr x m e = low x m e
    left_low Rl x m e = absurd (cc)
    left_low Pp x m e = absurd (cc)

    right_low : (mode : Mode) (x m : ℕ) → right_node mode put x ≡ Some m → m < n
    right_low Lr x m e = absurd (cc)
    right_low Rl x m e = low x m e
    right_low Pp x m e = absurd (cc)

    left_inside : (mode : Mode) (j : ℕ) (v : Node) → j < n → HasChildren v → All Inside (left_needs put mode j v)
    left_inside mode j (node.Join l r) j_low v_low = two (pair_of mode l.0 j) (pair_of mode r.0 j) (v_low.0, j_low) (v_low.1, j_low)
    left_inside mode j (node.Meet l r) j_low v_low = two (pair_of mode l.0 j) (pair_of mode r.0 j) (v_low.0, j_low) (v_low.1, j_low)
    left_inside mode j (node.Var x) j_low v_low = read_inside (λ m. pair_of Pp m j) (left_node mode put x) (λ m m_low. (m_low, j_low)) (left_low mode x)
    left_inside mode j _ j_low v_low = All-nil Inside

    right_inside : (mode : Mode) (i : ℕ) (v : Node) → i < n → HasChildren v → All Inside (right_needs put mode i v)
    right_inside mode i (node.Join l r) i_low v_low = two (pair_of mode i l.0) (pair_of mode i r.0) (i_low, v_low.0) (i_low, v_low.1)
    right_inside mode i (node.Meet l r) i_low v_low = two (pair_of mode i l.0) (pair_of mode i r.0) (i_low, v_low.0) (i_low, v_low.1)
    right_inside mode i (node.Var x) i_low v_low = read_inside (λ m. pair_of Pp i m) (right_node mode put x) (λ m m_low. (i_low, m_low)) (right_low mode x)
    right_inside mode i _ i_low v_low = All-nil Inside

    nodes_inside : (pair : Pair) (v w : Node) → Inside pair → HasChildren v → HasChildren w → All Inside (node_needs put pair v w)
    nodes_inside pair v w it v_low w_low =
        All-append Inside (left_needs put pair.mode pair.right v) (right_needs put pair.mode pair.left w ++ both_needs pair.mode v w) (left_inside pair.mode pair.right v it.1 v_low)
        (All-append Inside (right_needs put pair.mode pair.left w) (both_needs pair.mode v w) (right_inside pair.mode pair.left w it.0 w_low) (both_inside pair.mode v w v_low w_low))

module _ (book : List Node) (put : ℕ → Option ℕ) (closed : IsClosed book) (low : (x m : ℕ) → put x ≡ Some m → m < length book) (pair : Pair) (it : IsInside (length book) pair) where
  -- what the rules name for a pair of nodes of a closed book
  rules_inside : All (IsInside (length book)) (needs_of book put pair)
  rules_inside =
      nodes_inside (length book) put low pair (node_at book pair.left) (node_at book pair.right) it (closed_children book closed pair.left it.0) (closed_children book closed pair.right it.1)

  -- what is gathered for it
  pub needs_inside : (alone : Bool) → All (IsInside (length book)) (needs_by alone book put pair)
  needs_inside false = rules_inside
  needs_inside true =
      or_inside (length book) (own_needs book pair) (needs_of book put pair)
      (own_inside (length book) pair (node_at book pair.left) (node_at book pair.right) it (closed_children book closed pair.left it.0)) rules_inside

-- a part of a list
pub part_inside : (book : List Node) (put : ℕ → Option ℕ) (wanted pairs part : List Pair) → ((pair : Pair) → Contains part pair → Contains pairs pair) → StaysInside book put wanted pairs
    → StaysInside book put wanted part
part_inside book put wanted pairs part within inside closed low wanted_low =
    all_there (IsInside (length book)) part (λ pair there. All-contains (IsInside (length book)) pairs pair (inside closed low wanted_low) (within pair there))
