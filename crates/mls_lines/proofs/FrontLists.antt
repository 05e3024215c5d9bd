-- A list of pairs for a front of a book that is closed is one for the whole book, where its pairs have nodes of the front.
--     front_list
use Rattle.std.proofs.Common.{◌≡◌, ◌⊎◌, inl, inr, ℕ, ◌<◌, Bool, true, false, List, ◌++◌, length, refl, sym, ◌∙◌, subst, Some}
use Rattle.std.specs.Prelude.{All, Contains, ◌&&◌}
use Rattle.std.specs.List.{filter}
use Rattle.std.proofs.Math.Dec.{ltb}
use Rattle.std.proofs.lemmas.Bool.Decides.{Decides-ltb}
use Rattle.std.proofs.lemmas.List.{get_or_append_left}
use Rattle.std.proofs.lemmas.List.Elements.{All-contains}
use Rattle.mls_book.specs.declared.book.Node.{Node}
use Rattle.mls_book.specs.declared.book.Node.TheVariants as node
use Rattle.mls_book.specs.Books.{node_at, IsClosedBook}
use Rattle.mls_book.proofs.Children.{HasChildrenIn, at_found, closed_children}
use Rattle.mls_automaton.proofs.Lists.{Contains-filter, Contains-filtered, passes-filtered}
use Rattle.mls_deriv.specs.declared.derivation.Mode.{Mode}
use Rattle.mls_deriv.specs.declared.derivation.Mode.TheVariants.{Lr, Rl, Pp}
use Rattle.mls_deriv.specs.declared.claim.Pair.{Pair}
use Rattle.mls_deriv.specs.declared.claim.Put.{Put}
use Rattle.mls_deriv.specs.Pairs.{put_at, left_put, right_put, Claims, exchanged, IsJustified, bot_below, below_top, join_below, below_meet, first_below, second_below, below_first, below_second, same_bool, same_int, same_variable, functions, records, left_variable, right_variable, same_node}
use Rattle.mls_pairs.specs.PairLists.{pair_of, IsInside, IsOutside, IsRefuted, refuted, IsPairList}
use Rattle.mls_pairs.proofs.Inside.{all_there}

-- two books with the same nodes below a number, whose children are below it too
module _ (n : ℕ) (first second : List Node) (same : (i : ℕ) → i < n → node_at second i ≡ node_at first i) (children : (i : ℕ) → i < n → HasChildrenIn (λ k. k < n) (node_at first i))
    (puts : List Put) (low : (x m : ℕ) → put_at puts x ≡ Some m → m < n)
    (claims more : Mode → ℕ → ℕ → Type 0) (within : (mode : Mode) (i j : ℕ) → i < n → j < n → claims mode i j → more mode i j) where
  left_low : (mode : Mode) (x m : ℕ) → left_put mode puts x ≡ Some m → m < n
  left_low Lr x m e = low x m e
  left_low Rl x m e = absurd (cc)
  left_low Pp x m e = absurd (cc)

  right_low : (mode : Mode) (x m : ℕ) → right_put mode puts x ≡ Some m → m < n
  right_low Lr x m e = absurd (cc)
  right_low Rl x m e = low x m e
  right_low Pp x m e = absurd (cc)

  children_of : (i : ℕ) (v : Node) → i < n → node_at first i ≡ v → HasChildrenIn (λ k. k < n) v
  children_of i v i_low e = subst (HasChildrenIn (λ k. k < n)) e (children i i_low)

  between : (mode : Mode) (i j : ℕ) → i < n → j < n → IsJustified first puts claims mode i j → IsJustified second puts more mode i j
  between mode i j i_low j_low (bot_below e) = bot_below (same i i_low ∙ e)
  between mode i j i_low j_low (below_top e) = below_top (same j j_low ∙ e)
  between mode i j i_low j_low (join_below l r e h k) =
      let c = children_of i (node.Join l r) i_low e in
      join_below l r (same i i_low ∙ e) (within mode l.0 j c.0 j_low h) (within mode r.0 j c.1 j_low k)
  between mode i j i_low j_low (below_meet l r e h k) =
      let c = children_of j (node.Meet l r) j_low e in
      below_meet l r (same j j_low ∙ e) (within mode i l.0 i_low c.0 h) (within mode i r.0 i_low c.1 k)
  between mode i j i_low j_low (first_below l r e h) = first_below l r (same i i_low ∙ e) (within mode l.0 j (children_of i (node.Meet l r) i_low e).0 j_low h)
  between mode i j i_low j_low (second_below l r e h) = second_below l r (same i i_low ∙ e) (within mode r.0 j (children_of i (node.Meet l r) i_low e).1 j_low h)
  between mode i j i_low j_low (below_first l r e h) = below_first l r (same j j_low ∙ e) (within mode i l.0 i_low (children_of j (node.Join l r) j_low e).0 h)
  between mode i j i_low j_low (below_second l r e h) = below_second l r (same j j_low ∙ e) (within mode i r.0 i_low (children_of j (node.Join l r) j_low e).1 h)
  between mode i j i_low j_low (same_bool e f) = same_bool (same i i_low ∙ e) (same j j_low ∙ f)
  between mode i j i_low j_low (same_int e f) = same_int (same i i_low ∙ e) (same j j_low ∙ f)
  between mode i j i_low j_low (same_variable x e f p q) = same_variable x (same i i_low ∙ e) (same j j_low ∙ f) p q
  between mode i j i_low j_low (functions a b c d e f h k) =
      let left = children_of i (node.Arrow a b) i_low e in
      let right = children_of j (node.Arrow c d) j_low f in
      functions a b c d (same i i_low ∙ e) (same j j_low ∙ f) (within (exchanged mode) c.0 a.0 right.0 left.0 h) (within mode b.0 d.0 left.1 right.1 k)
  between mode i j i_low j_low (records fields others e f each) =
      records fields others (same i i_low ∙ e) (same j j_low ∙ f)
      (λ label k found.
      let it = each label k found in (
        it.0,
        it.1,
        within mode it.0.0 k.0 (at_found (λ z. z < n) label fields (children_of i (node.Rcd fields) i_low e) it.0 it.1) (at_found (λ z. z < n) label others (children_of j (node.Rcd others) j_low f) k found) it.2,
      ))
  between mode i j i_low j_low (left_variable x m e p h) = left_variable x m (same i i_low ∙ e) p (within Pp m j (left_low mode x m p) j_low h)
  between mode i j i_low j_low (right_variable x m e p h) = right_variable x m (same j j_low ∙ e) p (within Pp i m i_low (right_low mode x m p) h)
  between mode i j i_low j_low (same_node e f) = same_node e f

module _ (book more : List Node) (closed : IsClosedBook book) (puts : List Put) (low : (x m : ℕ) → put_at puts x ≡ Some m → m < length book) where
  abbrev whole : List Node
  whole = book ++ more

  abbrev Within : Pair → Type 0
  Within = IsInside (length book)

  same : (i : ℕ) → i < length book → node_at whole i ≡ node_at book i
  same i i_low = get_or_append_left book more node.Bot i i_low

  children : (i : ℕ) → i < length book → HasChildrenIn (λ k. k < length book) (node_at book i)
  children i i_low = closed_children book closed.closed i i_low

  abbrev is_within : Pair → Bool
  is_within pair = ltb pair.left (length book) && ltb pair.right (length book)

  both_true : (s t : Bool) → s ≡ true → t ≡ true → (s && t) ≡ true
  both_true true true e f = refl
  both_true true false e f = absurd (cc)
  both_true false t e f = absurd (cc)

  true_both : (s t : Bool) → (s && t) ≡ true → (s ≡ true) × (t ≡ true)
  true_both true true e = (refl, refl)
  true_both true false e = absurd (cc)
  true_both false t e = absurd (cc)

  tested : (pair : Pair) → Within pair → is_within pair ≡ true
  tested pair it =
      both_true (ltb pair.left (length book)) (ltb pair.right (length book)) ((Decides-ltb pair.left (length book)).1 it.0) ((Decides-ltb pair.right (length book)).1 it.1)

  told : (pair : Pair) → is_within pair ≡ true → Within pair
  told pair e =
      let it = true_both (ltb pair.left (length book)) (ltb pair.right (length book)) e in
      ((Decides-ltb pair.left (length book)).0 it.0, (Decides-ltb pair.right (length book)).0 it.1)

  -- a refuted pair stays refuted: a rule in the whole book names pairs of the front
  pub front_refuted : (pair : Pair) → Within pair → IsRefuted book puts pair → IsRefuted whole puts pair
  front_refuted pair inside (refuted others all none) =
      refuted (filter is_within others)
      (λ other there. front_refuted other (told other (passes-filtered is_within others other there)) (all other (Contains-filtered is_within others other there)))
      (λ justified.
      none
      (between (length book) whole book (λ i i_low. sym (same i i_low)) (λ i i_low. subst (HasChildrenIn (λ k. k < length book)) (sym (same i i_low)) (children i i_low)) puts low
      (IsOutside (filter is_within others)) (IsOutside others)
      (λ mode i j i_low j_low outside there. outside (Contains-filter is_within others (pair_of mode i j) there (tested (pair_of mode i j) (i_low, j_low))))
      pair.mode pair.left pair.right inside.0 inside.1 justified))

  pub front_list : (wanted pairs : List Pair) → All Within wanted → All Within pairs → IsPairList book puts wanted pairs → IsPairList whole puts wanted pairs
  front_list wanted pairs wanted_low pairs_low list = record {
    justified =
        all_there (λ (p : Pair). IsJustified whole puts (Claims pairs) p.mode p.left p.right) pairs
        (λ pair there.
        let inside = All-contains Within pairs pair pairs_low there in
        between (length book) book whole same children puts low (Claims pairs) (Claims pairs) (λ mode i j i_low j_low h. h) pair.mode pair.left pair.right inside.0 inside.1
        (All-contains (λ (p : Pair). IsJustified book puts (Claims pairs) p.mode p.left p.right) pairs pair list.justified there));
    has = λ pair there. go pair (All-contains Within wanted pair wanted_low there) (list.has pair there);
  }
    where
      go : (pair : Pair) → Within pair → Contains pairs pair ⊎ IsRefuted book puts pair → Contains pairs pair ⊎ IsRefuted whole puts pair
      go pair inside (inl h) = inl h
      go pair inside (inr h) = inr (front_refuted pair inside h)
