-- A justified pair is justified by pairs that the rules name for it.
--     by_needs
use Rattle.std.proofs.Common.{◌≡◌, ℕ, Bool, true, false, List, [], ◌∷◌, ◌++◌, refl, sym, ◌∙◌, subst, arith, Option, Some, cond, bytes_eq}
use Rattle.std.specs.Prelude.{Contains, option_map, find}
use Rattle.std.specs.List.{flat_map}
use Rattle.std.proofs.lemmas.List.Elements.{Contains-append_left, Contains-append_right}
use Rattle.std.proofs.lemmas.Slice.Eq.{bytes_eq-Decides}
use Rattle.mls_book.specs.declared.book.Field.{Field}
use Rattle.mls_book.specs.declared.book.NodeId.{NodeId}
use Rattle.mls_book.specs.declared.book.Node.{Node}
use Rattle.mls_book.specs.declared.book.Node.TheVariants as node
use Rattle.mls_book.specs.Books.{node_at, field_at}
use Rattle.mls_deriv.specs.declared.derivation.Mode.{Mode}
use Rattle.mls_deriv.specs.declared.derivation.Mode.TheVariants.{Lr, Rl, Pp}
use Rattle.mls_deriv.specs.declared.claim.Pair.{Pair}
use Rattle.mls_deriv.specs.declared.claim.Put.{Put}
use Rattle.mls_deriv.specs.Pairs.{put_at, left_put, right_put, exchanged, IsJustified, bot_below, below_top, join_below, below_meet, first_below, second_below, below_first, below_second, same_bool, same_int, same_variable, functions, records, left_variable, right_variable, same_node}
use Rattle.mls_deriv.specs.inner.PairRules.{left_node, right_node}
use Rattle.mls_pairs.specs.PairLists.{pair_of}
use Rattle.mls_pairs.specs.steps.Needs.{read_as, left_needs, right_needs, label_needs, field_needs, both_needs, needs_of}

pub head_there : (x : Pair) (xs : List Pair) → Contains (x ∷ xs) x
head_there x xs = (0, omega arith, refl)

pub next_there : (x y : Pair) → Contains (x ∷ y ∷ []) y
next_there x y = (1, omega arith, refl)

pub two_there : (x y : Pair) (xs : List Pair) → xs ≡ x ∷ y ∷ [] → Contains xs x × Contains xs y
two_there x y xs is = subst (λ l. Contains l x × Contains l y) (sym is) (head_there x (y ∷ []), next_there x y)

read_there : (pair : ℕ → Pair) (o : Option ℕ) (n : ℕ) → o ≡ Some n → Contains (read_as pair o) (pair n)
read_there pair o n e = subst (λ o. Contains (read_as pair o) (pair n)) (sym e) (head_there (pair n) [])

left_is : (mode : Mode) (puts : List Put) (x : ℕ) → left_node mode (put_at puts) x ≡ left_put mode puts x
left_is Lr puts x = refl
left_is Rl puts x = refl
left_is Pp puts x = refl

right_is : (mode : Mode) (puts : List Put) (x : ℕ) → right_node mode (put_at puts) x ≡ right_put mode puts x
right_is Lr puts x = refl
right_is Rl puts x = refl
right_is Pp puts x = refl

-- the fields of one label are named
label_there : (mode : Mode) (fields : List Field) (label : List ℕ) (other : Field) (k m : NodeId) → label ≡ other.label → other.node ≡ k → field_at label fields ≡ Some m
    → Contains (field_needs mode fields other) (pair_of mode m.0 k.0)
label_there mode fields label other k m same is found =
    let at : field_at other.label fields ≡ Some m = subst (λ l. field_at l fields ≡ Some m) same found in
    subst (λ (z : NodeId). Contains (field_needs mode fields other) (pair_of mode m.0 z.0)) is
    (subst (λ o. Contains (label_needs mode o other.node) (pair_of mode m.0 other.node.0)) (sym at) (head_there (pair_of mode m.0 other.node.0) []))

pub field_there : (mode : Mode) (fields others : List Field) (label : List ℕ) (k m : NodeId) → field_at label others ≡ Some k → field_at label fields ≡ Some m
    → Contains (flat_map (field_needs mode fields) others) (pair_of mode m.0 k.0)
field_there mode fields [] label k m found at = absurd (cc)
field_there mode fields (other ∷ rest) label k m found at = go (bytes_eq other.label label) refl (λ found. field_there mode fields rest label k m found at) found
  where
    go : (t : Bool) → bytes_eq other.label label ≡ t → (field_at label rest ≡ Some k → Contains (flat_map (field_needs mode fields) rest) (pair_of mode m.0 k.0))
        → option_map (λ (f : Field). f.node) (cond t (Some other) (find (λ (f : Field). bytes_eq f.label label) rest)) ≡ Some k
        → Contains (flat_map (field_needs mode fields) (other ∷ rest)) (pair_of mode m.0 k.0)
    go true is later found =
        Contains-append_left (field_needs mode fields other) (flat_map (field_needs mode fields) rest) (pair_of mode m.0 k.0)
        (label_there mode fields label other k m (sym ((bytes_eq-Decides other.label label).0 is)) (let same : other.node ≡ k = cc in same) at)
    go false is later found =
        Contains-append_right (field_needs mode fields other) (flat_map (field_needs mode fields) rest) (pair_of mode m.0 k.0) (later found)

module _ (book : List Node) (puts : List Put) (claims : Mode → ℕ → ℕ → Type 0) (mode : Mode) (i j : ℕ) where
  abbrev Needs : List Pair
  Needs = needs_of book (put_at puts) (pair_of mode i j)

  abbrev L : Node → List Pair
  L v = left_needs (put_at puts) mode j v

  abbrev R : Node → List Pair
  R v = right_needs (put_at puts) mode i v

  in_left : (v : Node) → node_at book i ≡ v → (p : Pair) → Contains (L v) p → Contains Needs p
  in_left v e p h =
      Contains-append_left (L (node_at book i)) (R (node_at book j) ++ both_needs mode (node_at book i) (node_at book j)) p
      (subst (λ v. Contains (L v) p) (sym e) h)

  in_right : (v : Node) → node_at book j ≡ v → (p : Pair) → Contains (R v) p → Contains Needs p
  in_right v e p h =
      Contains-append_right (L (node_at book i)) (R (node_at book j) ++ both_needs mode (node_at book i) (node_at book j)) p
      (Contains-append_left (R (node_at book j)) (both_needs mode (node_at book i) (node_at book j)) p (subst (λ v. Contains (R v) p) (sym e) h))

  in_both : (v w : Node) → node_at book i ≡ v → node_at book j ≡ w → (p : Pair) → Contains (both_needs mode v w) p → Contains Needs p
  in_both v w e f p h =
      Contains-append_right (L (node_at book i)) (R (node_at book j) ++ both_needs mode (node_at book i) (node_at book j)) p
      (Contains-append_right (R (node_at book j)) (both_needs mode (node_at book i) (node_at book j)) p
      (subst (λ v. Contains (both_needs mode v (node_at book j)) p) (sym e) (subst (λ w. Contains (both_needs mode v w) p) (sym f) h)))

  -- claims that the rules name for the pair
  abbrev pub Named : Mode → ℕ → ℕ → Type 0
  Named m k l = claims m k l × Contains Needs (pair_of m k l)

  pub by_needs : IsJustified book puts claims mode i j → IsJustified book puts Named mode i j
  by_needs (bot_below e) = bot_below e
  by_needs (below_top e) = below_top e
  by_needs (join_below l r e h k) =
      join_below l r e (h, in_left (node.Join l r) e (pair_of mode l.0 j) (head_there (pair_of mode l.0 j) (pair_of mode r.0 j ∷ []))) (k, in_left (node.Join l r) e (pair_of mode r.0 j) (next_there (pair_of mode l.0 j) (pair_of mode r.0 j)))
  by_needs (below_meet l r e h k) =
      below_meet l r e (h, in_right (node.Meet l r) e (pair_of mode i l.0) (head_there (pair_of mode i l.0) (pair_of mode i r.0 ∷ []))) (k, in_right (node.Meet l r) e (pair_of mode i r.0) (next_there (pair_of mode i l.0) (pair_of mode i r.0)))
  by_needs (first_below l r e h) = first_below l r e (h, in_left (node.Meet l r) e (pair_of mode l.0 j) (head_there (pair_of mode l.0 j) (pair_of mode r.0 j ∷ [])))
  by_needs (second_below l r e h) = second_below l r e (h, in_left (node.Meet l r) e (pair_of mode r.0 j) (next_there (pair_of mode l.0 j) (pair_of mode r.0 j)))
  by_needs (below_first l r e h) = below_first l r e (h, in_right (node.Join l r) e (pair_of mode i l.0) (head_there (pair_of mode i l.0) (pair_of mode i r.0 ∷ [])))
  by_needs (below_second l r e h) = below_second l r e (h, in_right (node.Join l r) e (pair_of mode i r.0) (next_there (pair_of mode i l.0) (pair_of mode i r.0)))
  by_needs (same_bool e f) = same_bool e f
  by_needs (same_int e f) = same_int e f
  by_needs (same_variable x e f g h) = same_variable x e f g h
  by_needs (functions a b c d e f h k) =
      functions a b c d e f
      (h, in_both (node.Arrow a b) (node.Arrow c d) e f (pair_of (exchanged mode) c.0 a.0) (head_there (pair_of (exchanged mode) c.0 a.0) (pair_of mode b.0 d.0 ∷ [])))
      (k, in_both (node.Arrow a b) (node.Arrow c d) e f (pair_of mode b.0 d.0) (next_there (pair_of (exchanged mode) c.0 a.0) (pair_of mode b.0 d.0)))
  by_needs (records fields others e f each) =
      records fields others e f
      (λ label k found.
      let m = each label k found in
      (m.0, m.1, (m.2, in_both (node.Rcd fields) (node.Rcd others) e f (pair_of mode m.0.0 k.0) (field_there mode fields others label k m.0 found m.1))))
  by_needs (left_variable x n e p h) =
      left_variable x n e p
      (h, in_left (node.Var x) e (pair_of Pp n j) (read_there (λ n. pair_of Pp n j) (left_node mode (put_at puts) x) n (left_is mode puts x ∙ p)))
  by_needs (right_variable x n e p h) =
      right_variable x n e p
      (h, in_right (node.Var x) e (pair_of Pp i n) (read_there (λ n. pair_of Pp i n) (right_node mode (put_at puts) x) n (right_is mode puts x ∙ p)))
  by_needs (same_node e f) = same_node e f
