-- A pair is justified exactly where one of its nodes, or both, show it.
use Rattle.std.proofs.Common.{◌≡◌, ◌↔◌, inl, inr, ℕ, suc, ◌<◌, Bool, true, false, List, [], ◌∷◌, length, refl, sym, ap, ◌∙◌, subst, arith, Option, Some, None, cond, bytes_eq}
use Rattle.mls_book.specs.declared.book.Node.{Node}
use Rattle.mls_book.specs.declared.book.Node.TheVariants as node
use Rattle.mls_book.specs.Books.{node_at, field_at}
use Rattle.mls_deriv.specs.declared.derivation.Mode.{Mode}
use Rattle.mls_deriv.specs.declared.derivation.Mode.TheVariants.{Lr, Rl, Pp}
use Rattle.mls_deriv.specs.Pairs.{Put, put_at, left_put, right_put, IsJustified, bot_below, below_top, join_below, below_meet, first_below, second_below, below_first, below_second, same_bool, same_int, same_variable, functions, records, left_variable, right_variable, same_node}
use Rattle.std.specs.Prelude.{All, Contains, option_map, find, get_or}
use Rattle.std.proofs.lemmas.List.Elements.{All-contains}
use Rattle.std.proofs.lemmas.Slice.Eq.{bytes_eq-Decides}
use Rattle.mls_book.specs.declared.book.Field.{Field}
use Rattle.mls_book.specs.declared.book.NodeId.{NodeId}
use Rattle.mls_deriv.specs.inner.PairRules.{LabelFits, IsReadAs, left_node, right_node, ByLeft, ByRight, ByBoth, ByNodes}

-- the node that a variable reads as
left_is : (mode : Mode) (puts : List Put) (x : ℕ) → left_node mode (put_at puts) x ≡ left_put mode puts x
left_is Lr puts x = refl
left_is Rl puts x = refl
left_is Pp puts x = refl

right_is : (mode : Mode) (puts : List Put) (x : ℕ) → right_node mode (put_at puts) x ≡ right_put mode puts x
right_is Lr puts x = refl
right_is Rl puts x = refl
right_is Pp puts x = refl

module _ (book : List Node) (puts : List Put) (claims : Mode → ℕ → ℕ → Type 0) (mode : Mode) (i j : ℕ) where
  abbrev put : ℕ → Option ℕ
  put = put_at puts

  abbrev Left : Node → Type 0
  Left v = ByLeft put claims mode j v

  abbrev Right : Node → Type 0
  Right v = ByRight put claims mode i v

  by_left : (v : Node) → node_at book i ≡ v → Left v → ByNodes put claims mode i j (node_at book i) (node_at book j)
  by_left v e h = inl (inl (subst (λ v. ByLeft put claims mode j v) (sym e) h))

  by_right : (v : Node) → node_at book j ≡ v → Right v → ByNodes put claims mode i j (node_at book i) (node_at book j)
  by_right v e h = inl (inr (subst (λ v. ByRight put claims mode i v) (sym e) h))

  by_both : (v w : Node) → node_at book i ≡ v → node_at book j ≡ w → ByBoth put claims mode v w → ByNodes put claims mode i j (node_at book i) (node_at book j)
  by_both v w e e' h = inr (inl (subst (λ v. ByBoth put claims mode v (node_at book j)) (sym e) (subst (λ w. ByBoth put claims mode v w) (sym e') h)))

  -- a justified pair is shown by its nodes
  pub by_nodes : IsJustified book puts claims mode i j → ByNodes put claims mode i j (node_at book i) (node_at book j)
  by_nodes (bot_below e) = by_left node.Bot e tt
  by_nodes (below_top e) = by_right node.Top e tt
  by_nodes (join_below l r e h k) = by_left (node.Join l r) e (h, k)
  by_nodes (below_meet l r e h k) = by_right (node.Meet l r) e (h, k)
  by_nodes (first_below l r e h) = by_left (node.Meet l r) e (inl h)
  by_nodes (second_below l r e h) = by_left (node.Meet l r) e (inr h)
  by_nodes (below_first l r e h) = by_right (node.Join l r) e (inl h)
  by_nodes (below_second l r e h) = by_right (node.Join l r) e (inr h)
  by_nodes (same_bool e e') = by_both node.Bool node.Bool e e' tt
  by_nodes (same_int e e') = by_both node.Int node.Int e e' tt
  by_nodes (same_variable x e e' p q) = by_both (node.Var x) (node.Var x) e e' (refl, left_is mode puts x ∙ p, right_is mode puts x ∙ q)
  by_nodes (functions a b c d e e' h k) = by_both (node.Arrow a b) (node.Arrow c d) e e' (h, k)
  by_nodes (records fields others e e' each) = by_both (node.Rcd fields) (node.Rcd others) e e' each
  by_nodes (left_variable x n e p h) = by_left (node.Var x) e (subst (IsReadAs (λ n. claims Pp n j)) (sym (left_is mode puts x ∙ p)) h)
  by_nodes (right_variable x n e p h) = by_right (node.Var x) e (subst (IsReadAs (λ n. claims Pp i n)) (sym (right_is mode puts x ∙ p)) h)
  by_nodes (same_node e e') = inr (inr (e, e'))

  from_left : (v : Node) → node_at book i ≡ v → Left v → IsJustified book puts claims mode i j
  from_left node.Bot e h = bot_below e
  from_left node.Top e h = absurd h
  from_left (node.Var x) e h = go (left_put mode puts x) refl (subst (IsReadAs (λ n. claims Pp n j)) (left_is mode puts x) h)
    where
      go : (o : Option ℕ) → left_put mode puts x ≡ o → IsReadAs (λ n. claims Pp n j) o → IsJustified book puts claims mode i j
      go None p h = absurd h
      go (Some n) p h = left_variable x n e p h
  from_left node.Bool e h = absurd h
  from_left node.Int e h = absurd h
  from_left (node.Arrow a b) e h = absurd h
  from_left (node.Rcd fields) e h = absurd h
  from_left (node.Join l r) e h = join_below l r e h.0 h.1
  from_left (node.Meet l r) e (inl h) = first_below l r e h
  from_left (node.Meet l r) e (inr h) = second_below l r e h

  from_right : (v : Node) → node_at book j ≡ v → Right v → IsJustified book puts claims mode i j
  from_right node.Bot e h = absurd h
  from_right node.Top e h = below_top e
  from_right (node.Var x) e h = go (right_put mode puts x) refl (subst (IsReadAs (λ n. claims Pp i n)) (right_is mode puts x) h)
    where
      go : (o : Option ℕ) → right_put mode puts x ≡ o → IsReadAs (λ n. claims Pp i n) o → IsJustified book puts claims mode i j
      go None p h = absurd h
      go (Some n) p h = right_variable x n e p h
  from_right node.Bool e h = absurd h
  from_right node.Int e h = absurd h
  from_right (node.Arrow a b) e h = absurd h
  from_right (node.Rcd fields) e h = absurd h
  from_right (node.Join l r) e (inl h) = below_first l r e h
  from_right (node.Join l r) e (inr h) = below_second l r e h
  from_right (node.Meet l r) e h = below_meet l r e h.0 h.1

  from_both : (v w : Node) → node_at book i ≡ v → node_at book j ≡ w → ByBoth put claims mode v w → IsJustified book puts claims mode i j
  from_both node.Bot node.Bot e e' h = absurd h
  from_both node.Bot node.Top e e' h = absurd h
  from_both node.Bot (node.Var y) e e' h = absurd h
  from_both node.Bot node.Bool e e' h = absurd h
  from_both node.Bot node.Int e e' h = absurd h
  from_both node.Bot (node.Arrow c d) e e' h = absurd h
  from_both node.Bot (node.Rcd others) e e' h = absurd h
  from_both node.Bot (node.Join l' r') e e' h = absurd h
  from_both node.Bot (node.Meet l' r') e e' h = absurd h
  from_both node.Top node.Bot e e' h = absurd h
  from_both node.Top node.Top e e' h = absurd h
  from_both node.Top (node.Var y) e e' h = absurd h
  from_both node.Top node.Bool e e' h = absurd h
  from_both node.Top node.Int e e' h = absurd h
  from_both node.Top (node.Arrow c d) e e' h = absurd h
  from_both node.Top (node.Rcd others) e e' h = absurd h
  from_both node.Top (node.Join l' r') e e' h = absurd h
  from_both node.Top (node.Meet l' r') e e' h = absurd h
  from_both (node.Var x) node.Bot e e' h = absurd h
  from_both (node.Var x) node.Top e e' h = absurd h
  from_both (node.Var x) (node.Var y) e e' h = same_variable x e (e' ∙ ap node.Var (sym h.0)) (sym (left_is mode puts x) ∙ h.1) (sym (right_is mode puts x) ∙ h.2)
  from_both (node.Var x) node.Bool e e' h = absurd h
  from_both (node.Var x) node.Int e e' h = absurd h
  from_both (node.Var x) (node.Arrow c d) e e' h = absurd h
  from_both (node.Var x) (node.Rcd others) e e' h = absurd h
  from_both (node.Var x) (node.Join l' r') e e' h = absurd h
  from_both (node.Var x) (node.Meet l' r') e e' h = absurd h
  from_both node.Bool node.Bot e e' h = absurd h
  from_both node.Bool node.Top e e' h = absurd h
  from_both node.Bool (node.Var y) e e' h = absurd h
  from_both node.Bool node.Bool e e' h = same_bool e e'
  from_both node.Bool node.Int e e' h = absurd h
  from_both node.Bool (node.Arrow c d) e e' h = absurd h
  from_both node.Bool (node.Rcd others) e e' h = absurd h
  from_both node.Bool (node.Join l' r') e e' h = absurd h
  from_both node.Bool (node.Meet l' r') e e' h = absurd h
  from_both node.Int node.Bot e e' h = absurd h
  from_both node.Int node.Top e e' h = absurd h
  from_both node.Int (node.Var y) e e' h = absurd h
  from_both node.Int node.Bool e e' h = absurd h
  from_both node.Int node.Int e e' h = same_int e e'
  from_both node.Int (node.Arrow c d) e e' h = absurd h
  from_both node.Int (node.Rcd others) e e' h = absurd h
  from_both node.Int (node.Join l' r') e e' h = absurd h
  from_both node.Int (node.Meet l' r') e e' h = absurd h
  from_both (node.Arrow a b) node.Bot e e' h = absurd h
  from_both (node.Arrow a b) node.Top e e' h = absurd h
  from_both (node.Arrow a b) (node.Var y) e e' h = absurd h
  from_both (node.Arrow a b) node.Bool e e' h = absurd h
  from_both (node.Arrow a b) node.Int e e' h = absurd h
  from_both (node.Arrow a b) (node.Arrow c d) e e' h = functions a b c d e e' h.0 h.1
  from_both (node.Arrow a b) (node.Rcd others) e e' h = absurd h
  from_both (node.Arrow a b) (node.Join l' r') e e' h = absurd h
  from_both (node.Arrow a b) (node.Meet l' r') e e' h = absurd h
  from_both (node.Rcd fields) node.Bot e e' h = absurd h
  from_both (node.Rcd fields) node.Top e e' h = absurd h
  from_both (node.Rcd fields) (node.Var y) e e' h = absurd h
  from_both (node.Rcd fields) node.Bool e e' h = absurd h
  from_both (node.Rcd fields) node.Int e e' h = absurd h
  from_both (node.Rcd fields) (node.Arrow c d) e e' h = absurd h
  from_both (node.Rcd fields) (node.Rcd others) e e' h = records fields others e e' h
  from_both (node.Rcd fields) (node.Join l' r') e e' h = absurd h
  from_both (node.Rcd fields) (node.Meet l' r') e e' h = absurd h
  from_both (node.Join l r) node.Bot e e' h = absurd h
  from_both (node.Join l r) node.Top e e' h = absurd h
  from_both (node.Join l r) (node.Var y) e e' h = absurd h
  from_both (node.Join l r) node.Bool e e' h = absurd h
  from_both (node.Join l r) node.Int e e' h = absurd h
  from_both (node.Join l r) (node.Arrow c d) e e' h = absurd h
  from_both (node.Join l r) (node.Rcd others) e e' h = absurd h
  from_both (node.Join l r) (node.Join l' r') e e' h = absurd h
  from_both (node.Join l r) (node.Meet l' r') e e' h = absurd h
  from_both (node.Meet l r) node.Bot e e' h = absurd h
  from_both (node.Meet l r) node.Top e e' h = absurd h
  from_both (node.Meet l r) (node.Var y) e e' h = absurd h
  from_both (node.Meet l r) node.Bool e e' h = absurd h
  from_both (node.Meet l r) node.Int e e' h = absurd h
  from_both (node.Meet l r) (node.Arrow c d) e e' h = absurd h
  from_both (node.Meet l r) (node.Rcd others) e e' h = absurd h
  from_both (node.Meet l r) (node.Join l' r') e e' h = absurd h
  from_both (node.Meet l r) (node.Meet l' r') e e' h = absurd h

  -- and the other way round
  pub from_nodes : ByNodes put claims mode i j (node_at book i) (node_at book j) → IsJustified book puts claims mode i j
  from_nodes (inl (inl h)) = from_left (node_at book i) refl h
  from_nodes (inl (inr h)) = from_right (node_at book j) refl h
  from_nodes (inr (inl h)) = from_both (node_at book i) (node_at book j) refl refl h
  from_nodes (inr (inr h)) = same_node h.0 h.1

-- the field of a label is one of the list
pub field_there : (label : List ℕ) (k : NodeId) (fields : List Field) → field_at label fields ≡ Some k → (f : Field) × Contains fields f × (f.label ≡ label)
field_there label k [] e = absurd (cc)
field_there label k (field ∷ rest) e = go (bytes_eq field.label label) refl (field_there label k rest) e
  where
    go : (t : Bool) → bytes_eq field.label label ≡ t → (field_at label rest ≡ Some k → (f : Field) × Contains rest f × (f.label ≡ label)) → option_map (λ (f : Field). f.node) (cond t (Some field) (find (λ (f : Field). bytes_eq f.label label) rest)) ≡ Some k → (f : Field) × Contains (field ∷ rest) f × (f.label ≡ label)
    go true is later e = (field, (0, omega arith, refl), (bytes_eq-Decides field.label label).0 is)
    go false is later e =
        let it = later e in
        let low : it.1.0 < length rest = it.1.1 in
        (it.0, (suc it.1.0, omega arith, it.1.2), it.2)

-- it is enough to look at the labels of the fields
pub all_labels : (claims : Mode → ℕ → ℕ → Type 0) (mode : Mode) (fields others : List Field) → All (λ field. LabelFits claims mode fields others field.label) others ↔ ((label : List ℕ) → LabelFits claims mode fields others label)
all_labels claims mode fields others = (
  λ all label k found.
      let it = field_there label k others found in
      subst (λ label. LabelFits claims mode fields others label) it.2 (All-contains (λ field. LabelFits claims mode fields others field.label) others it.0 all it.1) k found,
  λ each i d low. each (get_or others i d).label,
)
