-- Two relations that justify themselves, one after the other, justify themselves: what is between them goes away.
--     composed        the pair of the outer nodes is justified
use Rattle.std.proofs.Common.{◌≡◌, ◌⊎◌, inl, inr, ℕ, zero, suc, ◌<◌, List, sym, ◌∙◌, subst, arith, Some, None}
use Rattle.mls_book.specs.declared.book.Field.{Field}
use Rattle.mls_book.specs.declared.book.NodeId.{NodeId}
use Rattle.mls_book.specs.declared.book.Node.{Node}
use Rattle.mls_book.specs.declared.book.Node.TheVariants as node
use Rattle.mls_book.specs.Books.{node_at, field_at, IsOrdered, IsBook}
use Rattle.mls_deriv.specs.declared.derivation.Mode.{Mode}
use Rattle.mls_deriv.specs.declared.derivation.Mode.TheVariants.{Pp}
use Rattle.mls_deriv.specs.declared.claim.Put.{Put}
use Rattle.mls_deriv.specs.Pairs.{left_put, right_put, exchanged, IsJustified, bot_below, below_top, join_below, below_meet, first_below, second_below, below_first, below_second, same_bool, same_int, same_variable, functions, records, left_variable, right_variable, same_node}

-- The first relation goes from the left nodes to those between, where variables on the left may stand for others, and the second goes from
-- there to the right nodes, where variables on the right may.
module _ (book : List Node) (is_book : IsBook book) (mode : Mode) (puts first_puts second_puts : List Put) (First Second Both : Mode → ℕ → ℕ → Type 0)
    (first_justified : (i j : ℕ) → First mode i j → IsJustified book first_puts First mode i j)
    (second_justified : (i j : ℕ) → Second mode i j → IsJustified book second_puts Second mode i j)
    (left_same : (x : ℕ) → left_put mode puts x ≡ left_put mode first_puts x) (right_same : (x : ℕ) → right_put mode puts x ≡ right_put mode second_puts x)
    (first_plain : (x : ℕ) → right_put mode first_puts x ≡ None) (second_plain : (x : ℕ) → left_put mode second_puts x ≡ None)
    (not_plain : mode ≡ Pp → ⊥)
    (both : (i k j : ℕ) → First mode i k → Second mode k j → Both mode i j)
    (turned : (i k j : ℕ) → Second (exchanged mode) i k → First (exchanged mode) k j → Both (exchanged mode) i j)
    (from_left : (x n k j : ℕ) → left_put mode first_puts x ≡ Some n → First Pp n k → Second mode k j → Both Pp n j)
    (to_right : (x n i k : ℕ) → right_put mode second_puts x ≡ Some n → First mode i k → Second Pp k n → Both Pp i n) where
  abbrev Justified : ℕ → ℕ → Type 0
  Justified i j = IsJustified book puts Both mode i j

  -- what shows that node i is below such a node
  abbrev IsUnder : ℕ → Node → Type 0
  IsUnder i node.Bot = ⊥
  IsUnder i node.Top = Unit {0}
  IsUnder i (node.Var x) = (node_at book i ≡ node.Var x) × (left_put mode first_puts x ≡ None)
  IsUnder i node.Bool = node_at book i ≡ node.Bool
  IsUnder i node.Int = node_at book i ≡ node.Int
  IsUnder i (node.Arrow c d) = (a b : NodeId) × (node_at book i ≡ node.Arrow a b) × First (exchanged mode) c.0 a.0 × First mode b.0 d.0
  IsUnder i (node.Rcd others) =
      (fields : List Field) × (node_at book i ≡ node.Rcd fields)
      × ((label : List ℕ) (k : NodeId) → field_at label others ≡ Some k → (m : NodeId) × (field_at label fields ≡ Some m) × First mode m.0 k.0)
  IsUnder i (node.Join l r) = First mode i l.0 ⊎ First mode i r.0
  IsUnder i (node.Meet l r) = First mode i l.0 × First mode i r.0

  -- what shows that node j is above such a node
  abbrev IsOver : ℕ → Node → Type 0
  IsOver j node.Bot = Unit {0}
  IsOver j node.Top = ⊥
  IsOver j (node.Var x) = (node_at book j ≡ node.Var x) × (right_put mode second_puts x ≡ None)
  IsOver j node.Bool = node_at book j ≡ node.Bool
  IsOver j node.Int = node_at book j ≡ node.Int
  IsOver j (node.Arrow a b) = (c d : NodeId) × (node_at book j ≡ node.Arrow c d) × Second (exchanged mode) c.0 a.0 × Second mode b.0 d.0
  IsOver j (node.Rcd fields) =
      (others : List Field) × (node_at book j ≡ node.Rcd others)
      × ((label : List ℕ) (k : NodeId) → field_at label others ≡ Some k → (m : NodeId) × (field_at label fields ≡ Some m) × Second mode m.0 k.0)
  IsOver j (node.Join l r) = Second mode l.0 j × Second mode r.0 j
  IsOver j (node.Meet l r) = Second mode l.0 j ⊎ Second mode r.0 j

  -- a rule for the left node is a rule for both, and another one tells what is under the node between
  by_first : (i k j : ℕ) → IsJustified book first_puts First mode i k → Second mode k j → Justified i j ⊎ IsUnder i (node_at book k)
  by_first i k j (bot_below e) s = inl (bot_below e)
  by_first i k j (below_top e) s = inr (subst (IsUnder i) (sym e) tt)
  by_first i k j (join_below l r e h h') s = inl (join_below l r e (both l.0 k j h s) (both r.0 k j h' s))
  by_first i k j (below_meet l r e h h') s = inr (subst (IsUnder i) (sym e) (h, h'))
  by_first i k j (first_below l r e h) s = inl (first_below l r e (both l.0 k j h s))
  by_first i k j (second_below l r e h) s = inl (second_below l r e (both r.0 k j h s))
  by_first i k j (below_first l r e h) s = inr (subst (IsUnder i) (sym e) (inl h))
  by_first i k j (below_second l r e h) s = inr (subst (IsUnder i) (sym e) (inr h))
  by_first i k j (same_bool e f) s = inr (subst (IsUnder i) (sym f) e)
  by_first i k j (same_int e f) s = inr (subst (IsUnder i) (sym f) e)
  by_first i k j (same_variable x e f p q) s = inr (subst (IsUnder i) (sym f) (e, p))
  by_first i k j (functions a b c d e f h h') s = inr (subst (IsUnder i) (sym f) (a, b, e, h, h'))
  by_first i k j (records fields others e f each) s = inr (subst (IsUnder i) (sym f) (fields, e, each))
  by_first i k j (left_variable x n e p h) s = inl (left_variable x n e (left_same x ∙ p) (from_left x n k j p h s))
  by_first i k j (right_variable x n e p h) s = let none : right_put mode first_puts x ≡ None = first_plain x in absurd (cc)
  by_first i k j (same_node e f) s = absurd (not_plain e)

  by_second : (i k j : ℕ) → First mode i k → IsJustified book second_puts Second mode k j → Justified i j ⊎ IsOver j (node_at book k)
  by_second i k j s (bot_below e) = inr (subst (IsOver j) (sym e) tt)
  by_second i k j s (below_top e) = inl (below_top e)
  by_second i k j s (join_below l r e h h') = inr (subst (IsOver j) (sym e) (h, h'))
  by_second i k j s (below_meet l r e h h') = inl (below_meet l r e (both i k l.0 s h) (both i k r.0 s h'))
  by_second i k j s (first_below l r e h) = inr (subst (IsOver j) (sym e) (inl h))
  by_second i k j s (second_below l r e h) = inr (subst (IsOver j) (sym e) (inr h))
  by_second i k j s (below_first l r e h) = inl (below_first l r e (both i k l.0 s h))
  by_second i k j s (below_second l r e h) = inl (below_second l r e (both i k r.0 s h))
  by_second i k j s (same_bool e f) = inr (subst (IsOver j) (sym e) f)
  by_second i k j s (same_int e f) = inr (subst (IsOver j) (sym e) f)
  by_second i k j s (same_variable x e f p q) = inr (subst (IsOver j) (sym e) (f, q))
  by_second i k j s (functions a b c d e f h h') = inr (subst (IsOver j) (sym e) (c, d, f, h, h'))
  by_second i k j s (records fields others e f each) = inr (subst (IsOver j) (sym e) (others, f, each))
  by_second i k j s (left_variable x n e p h) = let none : left_put mode second_puts x ≡ None = second_plain x in absurd (cc)
  by_second i k j s (right_variable x n e p h) = inl (right_variable x n e (right_same x ∙ p) (to_right x n i k p s h))
  by_second i k j s (same_node e f) = absurd (not_plain e)

  by_views : (i k j : ℕ) → Justified i j ⊎ IsUnder i (node_at book k) → Justified i j ⊎ IsOver j (node_at book k)
      → (IsUnder i (node_at book k) → IsOver j (node_at book k) → Justified i j) → Justified i j
  by_views i k j (inl h) other through = h
  by_views i k j (inr under) (inl h) through = h
  by_views i k j (inr under) (inr over) through = through under over

  -- by the node between: under and over a join or a meet the pairs go through one of its members
  by_node : (i k j : ℕ) → ((l : ℕ) → l < k → First mode i l → Second mode l j → Justified i j) → (n : Node) → IsOrdered k n → IsUnder i n → IsOver j n → Justified i j
  by_node i k j through node.Bot ordered under over = absurd under
  by_node i k j through node.Top ordered under over = absurd over
  by_node i k j through (node.Var x) ordered under over = same_variable x under.0 over.0 (left_same x ∙ under.1) (right_same x ∙ over.1)
  by_node i k j through node.Bool ordered under over = same_bool under over
  by_node i k j through node.Int ordered under over = same_int under over
  by_node i k j through (node.Arrow m n) ordered under over =
      functions under.0 under.1 over.0 over.1 under.2 over.2 (turned over.0.0 m.0 under.0.0 over.3 under.3) (both under.1.0 n.0 over.1.0 under.4 over.4)
  by_node i k j through (node.Rcd between) ordered under over =
      records under.0 over.0 under.1 over.1
      (λ label l found.
      let right = over.2 label l found in
      let left = under.2 label right.0 right.1 in
      (left.0, left.1, both left.0.0 right.0.0 l.0 left.2 right.2))
  by_node i k j through (node.Join l r) ordered (inl h) over = through l.0 ordered.0 h over.0
  by_node i k j through (node.Join l r) ordered (inr h) over = through r.0 ordered.1 h over.1
  by_node i k j through (node.Meet l r) ordered under (inl h) = through l.0 ordered.0 under.0 h
  by_node i k j through (node.Meet l r) ordered under (inr h) = through r.0 ordered.1 under.1 h

  -- by induction over a bound of the node between
  within : (bound i k j : ℕ) → k < bound → First mode i k → Second mode k j → Justified i j
  within zero i k j low f s = absurd (omega arith)
  within (suc bound) i k j low f s =
      by_views i k j (by_first i k j (first_justified i k f) s) (by_second i k j f (second_justified k j s))
      (λ under over. by_node i k j (λ l less f' s'. within bound i l j (omega (arith, low, less)) f' s') (node_at book k) (is_book k) under over)

  pub composed : (i k j : ℕ) → First mode i k → Second mode k j → IsJustified book puts Both mode i j
  composed i k j f s = within (suc k) i k j (omega arith) f s
