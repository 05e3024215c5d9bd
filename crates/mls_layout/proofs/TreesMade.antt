-- Trees that are made one node after another.
--     two_low             the children of a join or a meet
--     tree_same           a tree of the same members in other words
--     tree_kept           a tree of a book is one in a longer book
--     last_at             the last node
--     book_pushed, two_ordered        a node more
--     tree_none           the tree of no member
--     chain_first         the tree of one member
--     chain_next          a tree with one member more
--     no_trees, trees_next, members_kept      trees that are made one after another
use Rattle.std.proofs.Common.{◌≡◌, ◌⊎◌, inl, inr, ℕ, zero, suc, ◌+◌, ◌<◌, List, [], ◌∷◌, ◌++◌, length, refl, sym, ap, ◌∙◌, subst, arith, append-nil, append_assoc, length-append}
use Rattle.std.specs.Prelude.{◌↔◌, Contains, get_or}
use Rattle.std.proofs.Math.ListN.{get_or-append}
use Rattle.std.proofs.lemmas.List.{get_or_past}
use Rattle.std.proofs.lemmas.List.Elements.{All-nil, All-append, Contains-append_left, Contains-push, Contains-push_cases}
use Rattle.mls_automaton.proofs.Lists.{All-one}
use Rattle.mls_book.specs.declared.book.NodeId.{NodeId}
use Rattle.mls_book.specs.declared.book.Node.{Node}
use Rattle.mls_book.specs.declared.book.Node.TheVariants as node
use Rattle.mls_book.specs.Books.{node_at, IsBook, IsOrdered}
use Rattle.mls_book.proofs.LongerBooks.{below_or_more}
use Rattle.mls_automaton.specs.declared.automaton.Polarity.{Polarity}
use Rattle.mls_automaton.specs.declared.automaton.Polarity.TheVariants.{Positive, Negative}
use Rattle.mls_layout.specs.declared.tree.PlannedTree.{PlannedTree}
use Rattle.mls_layout.specs.Trees.{none_node, two_node, HasOnly, member, none, two, HasMember, here, first, second, IsTree, IsNodeIn, IsOfTree, tree_root, AddsTree, AreTrees, HasMembersIn, AddsTrees}

-- the children of a join or a meet come before it
pub two_low : (nodes : List Node) → IsBook nodes → (p : Polarity) (i : ℕ) (l r : NodeId) → node_at nodes i ≡ two_node p l r → (l.0 < i) × (r.0 < i)
two_low nodes book Positive i l r e = subst (IsOrdered i) e (book i)
two_low nodes book Negative i l r e = subst (IsOrdered i) e (book i)

-- the other members are of the first kind too
more_only : (nodes : List Node) (p : Polarity) (M N : ℕ → Type 0) → ((i : ℕ) → M i → N i) → (i : ℕ) → HasOnly nodes p M i → HasOnly nodes p N i
more_only nodes p M N within i (member it) = member (within i it)
more_only nodes p M N within i (none e) = none e
more_only nodes p M N within i (two l r e h k) = two l r e (more_only nodes p M N within l.0 h) (more_only nodes p M N within r.0 k)

-- the same members in other words
pub tree_same : (nodes : List Node) (p : Polarity) (M N : ℕ → Type 0) → ((j : ℕ) → M j ↔ N j) → (i : ℕ) → IsTree nodes p M i → IsTree nodes p N i
tree_same nodes p M N same i tree = record { only = more_only nodes p M N (λ j. (same j).0) i tree.only; each = λ j it. tree.each j ((same j).1 it) }

module _ (nodes more : List Node) (book : IsBook nodes) (p : Polarity) where
  same_node : (i : ℕ) (n : Node) → i < length nodes → node_at nodes i ≡ n → node_at (nodes ++ more) i ≡ n
  same_node i n low e = get_or-append nodes more node.Bot i low ∙ e

  only_kept : (M : ℕ → Type 0) (i : ℕ) → i < length nodes → HasOnly nodes p M i → HasOnly (nodes ++ more) p M i
  only_kept M i low (member it) = member it
  only_kept M i low (none e) = none (same_node i (none_node p) low e)
  only_kept M i low (two l r e h k) =
      let below : (l.0 < i) × (r.0 < i) = two_low nodes book p i l r e in
      let l_low : l.0 < i = below.0 in
      let r_low : r.0 < i = below.1 in
      two l r (same_node i (two_node p l r) low e) (only_kept M l.0 (omega arith) h) (only_kept M r.0 (omega arith) k)

  member_kept : (j i : ℕ) → i < length nodes → HasMember nodes p j i → HasMember (nodes ++ more) p j i
  member_kept j i low (here e) = here e
  member_kept j i low (first l r e h) =
      let below : (l.0 < i) × (r.0 < i) = two_low nodes book p i l r e in
      let l_low : l.0 < i = below.0 in
      first l r (same_node i (two_node p l r) low e) (member_kept j l.0 (omega arith) h)
  member_kept j i low (second l r e h) =
      let below : (l.0 < i) × (r.0 < i) = two_low nodes book p i l r e in
      let r_low : r.0 < i = below.1 in
      second l r (same_node i (two_node p l r) low e) (member_kept j r.0 (omega arith) h)

  pub tree_kept : (M : ℕ → Type 0) (i : ℕ) → i < length nodes → IsTree nodes p M i → IsTree (nodes ++ more) p M i
  tree_kept M i low tree = record {
    only = only_kept M i low tree.only;
    each = λ j it. member_kept j i low (tree.each j it);
  }

-- the last node of a book
pub last_at : (nodes : List Node) (n : Node) → node_at (nodes ++ n ∷ []) (length nodes) ≡ n
last_at [] n = refl
last_at (x ∷ nodes) n = last_at nodes n

last_low : (nodes : List Node) (n : Node) → length nodes < length (nodes ++ n ∷ [])
last_low nodes n = let all : length (nodes ++ n ∷ []) ≡ length nodes + 1 = length-append nodes (n ∷ []) in omega arith

-- a node more
pub book_pushed : (nodes : List Node) (n : Node) → IsBook nodes → IsOrdered (length nodes) n → IsBook (nodes ++ n ∷ [])
book_pushed nodes n book ordered i = go (below_or_more i (length nodes))
  where
    at_end : (j : ℕ) → i ≡ length nodes + j → IsOrdered i (node_at (nodes ++ n ∷ []) i)
    at_end zero same =
        let at : i ≡ length nodes = omega (arith, same) in
        subst (λ k. IsOrdered k (node_at (nodes ++ n ∷ []) k)) (sym at) (subst (IsOrdered (length nodes)) (sym (last_at nodes n)) ordered)
    at_end (suc j) same =
        let all : length (nodes ++ n ∷ []) ≡ length nodes + 1 = length-append nodes (n ∷ []) in
        subst (IsOrdered i) (sym (get_or_past (nodes ++ n ∷ []) i node.Bot (omega (arith, same, all)))) tt

    go : (i < length nodes) ⊎ ((j : ℕ) × (i ≡ length nodes + j)) → IsOrdered i (node_at (nodes ++ n ∷ []) i)
    go (inl low) = subst (IsOrdered i) (sym (get_or-append nodes (n ∷ []) node.Bot i low)) (book i)
    go (inr (j, same)) = at_end j same

none_ordered : (p : Polarity) (i : ℕ) → IsOrdered i (none_node p)
none_ordered Positive i = tt
none_ordered Negative i = tt

pub two_ordered : (p : Polarity) (i : ℕ) (l r : NodeId) → l.0 < i → r.0 < i → IsOrdered i (two_node p l r)
two_ordered Positive i l r h k = (h, k)
two_ordered Negative i l r h k = (h, k)

none_of_tree : (p : Polarity) → IsOfTree (none_node p)
none_of_tree Positive = tt
none_of_tree Negative = tt

two_of_tree : (p : Polarity) (l r : NodeId) → IsOfTree (two_node p l r)
two_of_tree Positive l r = tt
two_of_tree Negative l r = tt

-- no member
no_member : (p : Polarity) (old new : List Node) (i : ℕ) → new ≡ old ++ none_node p ∷ [] → i ≡ length old → AddsTree p [] old new i
no_member p old new i is at = record {
  more = none_node p ∷ [];
  longer = is;
  are = All-one IsOfTree (none_node p) (none_of_tree p);
  size = refl;
  root = at;
  is_book = λ book. subst IsBook (sym is) (book_pushed old (none_node p) book (none_ordered p (length old)));
  inside = subst (λ k. k < length new) (sym at) (subst (λ (b : List Node). length old < length b) (sym is) (last_low old (none_node p)));
  tree = record {
    only = none (ap (node_at new) at ∙ (ap (λ b. node_at b (length old)) is ∙ last_at old (none_node p)));
    each = λ j it. absurd (let low : it.0 < 0 = it.1 in omega arith);
  };
}

none_there : (members : List NodeId) → length members ≡ 0 → [] ≡ members
none_there [] none_is = refl
none_there (id ∷ members) none_is = absurd (let e : suc (length members) ≡ 0 = none_is in omega arith)

pub tree_none : (p : Polarity) (members : List NodeId) (old new : List Node) (i : ℕ) → length members ≡ 0 → new ≡ old ++ none_node p ∷ [] → i ≡ length old → AddsTree p members old new i
tree_none p members old new i none_is is at = subst (λ (ms : List NodeId). AddsTree p ms old new i) (none_there members none_is) (no_member p old new i is at)

-- one member
pub chain_first : (p : Polarity) (book : List Node) (id : NodeId) → id.0 < length book → AddsTree p (id ∷ []) book book id.0
chain_first p book id low = record {
  more = [];
  longer = sym (append-nil book);
  are = All-nil IsOfTree;
  size = refl;
  root = refl;
  is_book = λ is. is;
  inside = low;
  tree = record {
    only = member there;
    each = λ j it. here (ap (λ (k : NodeId). k.0) (only_one j it));
  };
}
  where
    there : IsNodeIn (id ∷ []) id.0
    there = (0, omega arith, refl)

    only_one : (j : ℕ) → IsNodeIn (id ∷ []) j → id ≡ record { 0 = j }
    only_one j it = go (Contains-push_cases [] id (record { 0 = j }) it)
      where
        go : Contains {X = NodeId} [] (record { 0 = j }) ⊎ (id ≡ record { 0 = j }) → id ≡ record { 0 = j }
        go (inl h) = absurd (let low : h.0 < 0 = h.1 in omega arith)
        go (inr e) = e

-- the number of a tree with one member more
pushed_root : (start : ℕ) (one : NodeId) (rest : List NodeId) (id : NodeId) → tree_root start (one ∷ (rest ++ id ∷ [])) ≡ start + length rest
pushed_root start one [] id = refl
pushed_root start one (other ∷ rest) id = let all : length (rest ++ id ∷ []) ≡ length rest + 1 = length-append rest (id ∷ []) in omega (arith, all)

-- one member more
pub chain_next : (p : Polarity) (one : NodeId) (rest : List NodeId) (old now new : List Node) (root id next : NodeId) → IsBook now → IsBook new
    → AddsTree p (one ∷ rest) old now root.0 → new ≡ now ++ two_node p root id ∷ [] → next.0 ≡ length now
    → AddsTree p (one ∷ (rest ++ id ∷ [])) old new next.0
chain_next p one rest old now new root id next book is_new it is at = record {
  more = it.more ++ two_node p root id ∷ [];
  longer = is ∙ (ap (λ b. b ++ two_node p root id ∷ []) it.longer ∙ append_assoc old it.more (two_node p root id ∷ []));
  are = All-append IsOfTree it.more (two_node p root id ∷ []) it.are (All-one IsOfTree (two_node p root id) (two_of_tree p root id));
  size =
      let first_size : length it.more ≡ length rest = it.size in
      let more_size : length (it.more ++ two_node p root id ∷ []) ≡ length it.more + 1 = length-append it.more (two_node p root id ∷ []) in
      let ids : length (rest ++ id ∷ []) ≡ length rest + 1 = length-append rest (id ∷ []) in
      omega (arith, first_size, more_size, ids);
  root =
      let first_size : length it.more ≡ length rest = it.size in
      let all : length now ≡ length old + length it.more = ap length it.longer ∙ length-append old it.more in
      let is_root : next.0 ≡ length old + length rest = omega (arith, at, all, first_size) in
      is_root ∙ sym (pushed_root (length old) one rest id);
  is_book = λ first_is. is_new;
  inside = subst (λ k. k < length new) (sym at) (subst (λ (b : List Node). length now < length b) (sym is) (last_low now (two_node p root id)));
  tree = subst (λ b. IsTree b p (IsNodeIn (members ++ id ∷ [])) next.0) (sym is) (record {
    only =
        two root id is_two
        (more_only now' p (IsNodeIn members) (IsNodeIn (members ++ id ∷ [])) (λ k there. Contains-append_left members (id ∷ []) (record { 0 = k }) there) root.0 kept.only)
        (member (Contains-push members id));
    each = λ j there. go j (Contains-push_cases members id (record { 0 = j }) there);
  });
}
  where
    members : List NodeId
    members = one ∷ rest

    now' : List Node
    now' = now ++ two_node p root id ∷ []

    kept : IsTree now' p (IsNodeIn members) root.0
    kept = tree_kept now (two_node p root id ∷ []) book p (IsNodeIn members) root.0 it.inside it.tree

    is_two : node_at now' next.0 ≡ two_node p root id
    is_two = ap (node_at now') at ∙ last_at now (two_node p root id)

    go : (j : ℕ) → IsNodeIn members j ⊎ (id ≡ record { 0 = j }) → HasMember now' p j next.0
    go j (inl there) = first root id is_two (kept.each j there)
    go j (inr e) = second root id is_two (here (ap (λ (k : NodeId). k.0) e))

-- trees of a book are trees of a longer one
trees_kept : (nodes more : List Node) → IsBook nodes → (trees : List PlannedTree) (ids : List NodeId) → AreTrees nodes trees ids → AreTrees (nodes ++ more) trees ids
trees_kept nodes more book [] [] are = tt
trees_kept nodes more book [] (id ∷ ids) are = absurd are
trees_kept nodes more book (tree ∷ trees) [] are = absurd are
trees_kept nodes more book (tree ∷ trees) (id ∷ ids) are =
    let low : id.0 < length nodes = are.0.0 in
    let all : length (nodes ++ more) ≡ length nodes + length more = length-append nodes more in (
      (omega (arith, low, all), tree_kept nodes more book tree.polarity (IsNodeIn tree.members) id.0 low are.0.1),
      trees_kept nodes more book trees ids are.1,
    )

trees_pushed : (book : List Node) (trees : List PlannedTree) (ids : List NodeId) (tree : PlannedTree) (id : NodeId) → AreTrees book trees ids
    → id.0 < length book → IsTree book tree.polarity (IsNodeIn tree.members) id.0 → AreTrees book (trees ++ tree ∷ []) (ids ++ id ∷ [])
trees_pushed book [] [] tree id are low it = ((low, it), tt)
trees_pushed book [] (root ∷ ids) tree id are low it = absurd are
trees_pushed book (one ∷ trees) [] tree id are low it = absurd are
trees_pushed book (one ∷ trees) (root ∷ ids) tree id are low it = (are.0, trees_pushed book trees ids tree id are.1 low it)

-- no tree
pub no_trees : (book : List Node) → AddsTrees [] book book []
no_trees book = record { more = []; longer = sym (append-nil book); is_book = λ is. is; are = λ is. tt }

-- one tree more
pub trees_next : (trees : List PlannedTree) (old now new : List Node) (ids new_ids : List NodeId) (tree : PlannedTree) (id : NodeId) → AddsTrees trees old now ids
    → AddsTree tree.polarity tree.members now new id.0 → new_ids ≡ ids ++ id ∷ [] → AddsTrees (trees ++ tree ∷ []) old new new_ids
trees_next trees old now new ids new_ids tree id it next are = subst (AddsTrees (trees ++ tree ∷ []) old new) (sym are) (record {
  more = it.more ++ next.more;
  longer = next.longer ∙ (ap (λ (b : List Node). b ++ next.more) it.longer ∙ append_assoc old it.more next.more);
  is_book = λ book. next.is_book (it.is_book book);
  are =
      λ book.
      trees_pushed new trees ids tree id
      (subst (λ (b : List Node). AreTrees b trees ids) (sym next.longer) (trees_kept now next.more (it.is_book book) trees ids (it.are book)))
      next.inside next.tree;
})

-- members of the first book are in the longer one
pub members_kept : (trees : List PlannedTree) (old now : List Node) (ids : List NodeId) (tree : PlannedTree) → AddsTrees trees old now ids → HasMembersIn old tree → HasMembersIn now tree
members_kept trees old now ids tree it all =
    λ k d h.
    let low : (get_or tree.members k d).0 < length old = all k d h in
    let longer : length now ≡ length old + length it.more = ap length it.longer ∙ length-append old it.more in
    omega (arith, low, longer)
