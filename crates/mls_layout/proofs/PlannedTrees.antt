-- Trees that are planned.
--     low_pushed                              a tree more keeps the members low
--     root_pushed, root_low                   its number
--     known_none, known_more, known_next      the numbers that are found by sums
--     known_is, last_of                       a tree that is found, and the last one
--     extends_none, extends_then, extends_one more trees behind
--     tree_made, tree_more, tree_as           a planned tree, where there are more trees, and in other words
--     low_at                                  the members of a tree come before it
--     planned_none, planned_next              pushing them one after another
--     planned_is                              the planned trees stand in the book
--     counted_next, root_next, low_next       the parts of planned trees
--     trees_none, trees_next, trees_more      the trees of the first states
use Rattle.std.proofs.Common.{◌≡◌, ◌⊎◌, inl, inr, ℕ, zero, suc, ◌+◌, ◌<◌, ◌≤◌, List, [], ◌∷◌, ◌++◌, length, take, refl, sym, ap, ◌∙◌, subst, arith, append-nil, append_assoc, length-append}
use Rattle.std.specs.Prelude.{◌≢◌, All, get_or, ◌↔◌, Some, None, slice_get}
use Rattle.std.specs.BTreeMap.{BTreeMap, get}
use Rattle.std.specs.Ordering.{nat_cmp}
use Rattle.std.proofs.lemmas.Bool.{cases_eq}
use Rattle.std.proofs.lemmas.Option.{slice_get_within, slice_get-get_or, get_or_from_slice_get}
use Rattle.std.proofs.Math.ListN.{get_or-append}
use Rattle.std.proofs.lemmas.List.{get_or_push}
use Rattle.std.proofs.lemmas.List.Elements.{All-nil, All-append, All-contains}
use Rattle.mls_book.specs.declared.book.NodeId.{NodeId}
use Rattle.mls_book.specs.declared.book.Node.{Node}
use Rattle.mls_book.specs.Books.{IsBook}
use Rattle.mls_book.proofs.LongerBooks.{below_or_more}
use Rattle.mls_automaton.specs.declared.automaton.Polarity.{Polarity}
use Rattle.mls_automaton.proofs.Lists.{All-contained}
use Rattle.mls_layout.specs.declared.tree.PlannedTree.{PlannedTree}
use Rattle.mls_layout.specs.Trees.{IsTree, member, IsNodeIn, IsOfTree, AddsTree, tree_size, tree_root}
use Rattle.mls_layout.specs.Trees as shape
use Rattle.mls_layout.specs.steps.Planned.{Planned, sizes, end_of, planned_tree, with_tree, AreLow, IsCounted, IsRootIn, IsRoot, IsNumberOf, AreKnown, HasTree, IsOne, IsPlaced, Extends, AddsPlanned}
use Rattle.mls_layout.specs.steps.Owned.{HaveTrees}
use Rattle.mls_layout.proofs.TreesMade.{tree_kept, tree_same}

sizes-append : (xs ys : List PlannedTree) → sizes (xs ++ ys) ≡ sizes xs + sizes ys
sizes-append [] ys = omega arith
sizes-append (tree ∷ xs) ys = let rest : sizes (xs ++ ys) ≡ sizes xs + sizes ys = sizes-append xs ys in omega (arith, rest)

-- the members of one tree more
pub low_pushed : (start at : ℕ) (trees : List PlannedTree) (tree : PlannedTree) → at ≡ start + sizes trees → AreLow start trees → All (λ (id : NodeId). id.0 < at) tree.members → AreLow start (trees ++ tree ∷ [])
low_pushed start at [] tree e low all = (subst (λ n. All (λ (id : NodeId). id.0 < n) tree.members) (omega (arith, e)) all, tt)
low_pushed start at (one ∷ trees) tree e low all = (low.0, low_pushed (start + tree_size one.members) at trees tree (omega (arith, e)) low.1 all)

pub low_at : (start at : ℕ) (trees : List PlannedTree) (k : ℕ) (d : PlannedTree) → k < length trees → at ≡ start + sizes (take k trees) → AreLow start trees → All (λ (id : NodeId). id.0 < at) (get_or trees k d).members
low_at start at [] k d h e low = absurd (omega arith)
low_at start at (one ∷ trees) zero d h e low = subst (λ n. All (λ (id : NodeId). id.0 < n) one.members) (omega (arith, e)) low.0
low_at start at (one ∷ trees) (suc k) d h e low = low_at (start + tree_size one.members) at trees k d (omega arith) (omega (arith, e)) low.1

root_kept : (start : ℕ) (trees more : List PlannedTree) (p : Polarity) (members : List NodeId) (i : ℕ) → IsRootIn start trees p members i → IsRootIn start (trees ++ more) p members i
root_kept start [] more p members i it = absurd it
root_kept start (one ∷ trees) more p members i (inl it) = inl it
root_kept start (one ∷ trees) more p members i (inr it) = inr (root_kept (start + tree_size one.members) trees more p members i it)

pub root_pushed : (start at : ℕ) (trees : List PlannedTree) (p : Polarity) (members : List NodeId) → at ≡ start + sizes trees → IsRootIn start (trees ++ planned_tree p members ∷ []) p members (tree_root at members)
root_pushed start at [] p members e = let same : at ≡ start = omega (arith, e) in inl (refl, ap (λ n. tree_root n members) same)
root_pushed start at (one ∷ trees) p members e = inr (root_pushed (start + tree_size one.members) at trees p members (omega (arith, e)))

root_cases : (start at : ℕ) (trees : List PlannedTree) (tree : PlannedTree) (p : Polarity) (members : List NodeId) (i : ℕ) → at ≡ start + sizes trees → IsRootIn start (trees ++ tree ∷ []) p members i
    → IsRootIn start trees p members i ⊎ ((planned_tree p members ≡ tree) × (i ≡ tree_root at members))
root_cases start at [] tree p members i e (inl it) = let same : start ≡ at = omega (arith, e) in inr (it.0, it.1 ∙ ap (λ n. tree_root n members) same)
root_cases start at [] tree p members i e (inr it) = absurd it
root_cases start at (one ∷ trees) tree p members i e (inl it) = inl (inl it)
root_cases start at (one ∷ trees) tree p members i e (inr it) =
    elim (root_cases (start + tree_size one.members) at trees tree p members i (omega (arith, e)) it) [
      | inl before ↦ inl (inr before)
      | inr last ↦ inr last
    ]

-- the numbers that are found by sums
pub known_none : (start end : ℕ) (trees : List PlannedTree) (known : BTreeMap ℕ (ℕ × NodeId)) → ((sum : ℕ) → get nat_cmp known sum ≡ None) → AreKnown start end trees known
known_none start end trees known none sum found is = let not_so : get nat_cmp known sum ≡ None = none sum in absurd (cc)

number_more : (start end next : ℕ) (trees more : List PlannedTree) (found : ℕ × NodeId) → end ≤ next → IsNumberOf start end trees found → IsNumberOf start next (trees ++ more) found
number_more start end next trees more found le it = record {
  tree = it.tree;
  there =
      let low : found.0 < length trees = slice_get_within trees found.0 it.tree it.there in
      let all : length (trees ++ more) ≡ length trees + length more = length-append trees more in
      slice_get-get_or (trees ++ more) found.0 it.tree (omega (arith, low, all))
      ∙ ap (λ (tree : PlannedTree). Some tree) (get_or-append trees more it.tree found.0 low ∙ get_or_from_slice_get trees found.0 it.tree it.tree it.there);
  root = root_kept start trees more it.tree.polarity it.tree.members found.1.0 it.root;
  low = let low : found.1.0 < end = it.low in omega (arith, low, le);
}

pub known_more : (start end next : ℕ) (trees more new : List PlannedTree) (known : BTreeMap ℕ (ℕ × NodeId)) → end ≤ next → new ≡ trees ++ more → AreKnown start end trees known → AreKnown start next new known
known_more start end next trees more new known le is all sum found there =
    subst (λ (ts : List PlannedTree). IsNumberOf start next ts found) (sym is) (number_more start end next trees more found le (all sum found there))

-- one more of them
pub known_next : (start end : ℕ) (trees : List PlannedTree) (old new : BTreeMap ℕ (ℕ × NodeId)) (sum : ℕ) (found : ℕ × NodeId) → AreKnown start end trees old → get nat_cmp new sum ≡ Some found
    → ((k : ℕ) → k ≢ sum → get nat_cmp new k ≡ get nat_cmp old k) → IsNumberOf start end trees found → AreKnown start end trees new
known_next start end trees old new sum found all here others one k other e = go (cases_eq k sum)
  where
    go : (k ≡ sum) ⊎ (k ≢ sum) → IsNumberOf start end trees other
    go (inl same) =
        let both : Some found ≡ Some other = sym here ∙ (ap (get nat_cmp new) (sym same) ∙ e) in
        let at : found ≡ other = cc in
        subst (IsNumberOf start end trees) at one
    go (inr apart) = all k other (sym (others k apart) ∙ e)

-- a tree that is found
pub known_is : (plan : Planned) (end : ℕ) (found : ℕ × NodeId) (p : Polarity) (members : List NodeId) (tree : PlannedTree) → end ≡ end_of plan → IsNumberOf plan.start end plan.trees found
    → get_or plan.trees found.0 tree ≡ tree → tree ≡ planned_tree p members → IsRoot plan p members found.1.0 × (found.1.0 < end_of plan)
known_is plan end found p members tree e it there is =
    let same : it.tree ≡ tree = sym (get_or_from_slice_get plan.trees found.0 it.tree tree it.there) ∙ there in
    let low : found.1.0 < end = it.low in (
      subst (λ (t : PlannedTree). IsRootIn plan.start plan.trees t.polarity t.members found.1.0) (same ∙ is) it.root,
      omega (arith, low, e),
    )

-- the number of a tree of low members is below the end
pub root_low : (start : ℕ) (members : List NodeId) → All (λ (id : NodeId). id.0 < start) members → tree_root start members < start + tree_size members
root_low start [] all = omega arith
root_low start (one ∷ []) all = let low : one.0 < start = all 0 one (omega arith) in omega (arith, low)
root_low start (one ∷ other ∷ rest) all = omega arith

-- the last of the trees
pub last_of : (old new : Planned) (end : ℕ) (p : Polarity) (members : List NodeId) (place : ℕ) (id : NodeId) → place ≡ length old.trees → new ≡ with_tree old p members → IsCounted new.start end new.trees
    → IsRoot new p members id.0 → id.0 < end_of new → IsNumberOf new.start end new.trees (place, id)
last_of old new end p members place id at is counted root low = record {
  tree = planned_tree p members;
  there =
      let trees : new.trees ≡ old.trees ++ planned_tree p members ∷ [] = ap (λ (plan : Planned). plan.trees) is in
      let all : length (old.trees ++ planned_tree p members ∷ []) ≡ length old.trees + 1 = length-append old.trees (planned_tree p members ∷ []) in
      ap (λ (ts : List PlannedTree). slice_get ts place) trees
      ∙ (slice_get-get_or (old.trees ++ planned_tree p members ∷ []) place (planned_tree p members) (omega (arith, at, all))
      ∙ ap (λ (tree : PlannedTree). Some tree) (get_or_push old.trees (planned_tree p members) (planned_tree p members) place (sym at)));
  root = root;
  low = let e : end ≡ new.start + sizes new.trees = counted.counted in omega (arith, low, e);
}

-- more trees behind
pub extends_none : (plan : Planned) → Extends plan plan
extends_none plan = record { start = refl; more = []; trees = sym (append-nil plan.trees) }

pub extends_then : (old now new : Planned) → Extends old now → Extends now new → Extends old new
extends_then old now new one two = record {
  start = two.start ∙ one.start;
  more = one.more ++ two.more;
  trees = two.trees ∙ (ap (λ (ts : List PlannedTree). ts ++ two.more) one.trees ∙ append_assoc old.trees one.more two.more);
}

pub extends_one : (old new : Planned) (p : Polarity) (members : List NodeId) → new ≡ with_tree old p members → Extends old new
extends_one old new p members is = record { start = ap (λ (plan : Planned). plan.start) is; more = planned_tree p members ∷ []; trees = ap (λ (plan : Planned). plan.trees) is }

pub end_more : (old new : Planned) → Extends old new → end_of old ≤ end_of new
end_more old new it =
    let all : sizes new.trees ≡ sizes old.trees + sizes it.more = ap sizes it.trees ∙ sizes-append old.trees it.more in
    let start : new.start ≡ old.start = it.start in
    omega (arith, all, start)

-- a tree that is planned
pub tree_made : (plan : Planned) (p : Polarity) (members : List NodeId) (M : ℕ → Type 0) (i : ℕ) → IsPlaced plan p members i → i < end_of plan → ((j : ℕ) → IsNodeIn members j ↔ M j) → HasTree plan p M i
tree_made plan p members M i root low same = record { members = members; root = root; low = low; same = same }

pub tree_more : (old new : Planned) (p : Polarity) (M : ℕ → Type 0) (i : ℕ) → Extends old new → HasTree old p M i → HasTree new p M i
tree_more old new p M i more it = record {
  members = it.members;
  root = go it.root;
  low = let low : i < end_of old = it.low in let le : end_of old ≤ end_of new = end_more old new more in omega (arith, low, le);
  same = it.same;
}
  where
    go : IsPlaced old p it.members i → IsPlaced new p it.members i
    go (inl one) = inl one
    go (inr root) = inr (
        subst (λ n. IsRootIn n new.trees p it.members i) (sym more.start)
        (subst (λ (ts : List PlannedTree). IsRootIn old.start ts p it.members i) (sym more.trees) (root_kept old.start old.trees more.more p it.members i root)))

-- the same members in other words
pub tree_as : (plan : Planned) (p : Polarity) (M P : ℕ → Type 0) (i : ℕ) → HasTree plan p M i → ((j : ℕ) → M j ↔ P j) → HasTree plan p P i
tree_as plan p M P i it same = record {
  members = it.members;
  root = it.root;
  low = it.low;
  same = λ j. (λ there. (same j).0 ((it.same j).0 there), λ there. (it.same j).1 ((same j).1 there));
}

-- the members of a list, all of which are low
pub members_low : (members : List NodeId) (M : ℕ → Type 0) (n : ℕ) → ((j : ℕ) → IsNodeIn members j ↔ M j) → ((j : ℕ) → M j → j < n) → All (λ (id : NodeId). id.0 < n) members
members_low members M n same low = All-contained (λ (id : NodeId). id.0 < n) members (λ id there. low id.0 ((same id.0).0 there))

-- pushing
abbrev pub first_trees : ℕ → List PlannedTree → Planned
first_trees start trees = record { start = start; trees = trees }

pub planned_none : (start : ℕ) (book : List Node) → start ≡ length book → AddsPlanned (first_trees start []) book book
planned_none start book e = record {
  more = [];
  longer = sym (append-nil book);
  are = All-nil IsOfTree;
  size = omega (arith, e);
  is_book = λ is. is;
  roots = λ is p members i it. absurd it;
}

pub planned_next : (start : ℕ) (trees : List PlannedTree) (tree : PlannedTree) (old now new : List Node) (j : ℕ) → AddsPlanned (first_trees start trees) old now → AddsTree tree.polarity tree.members now new j
    → AddsPlanned (first_trees start (trees ++ tree ∷ [])) old new
planned_next start trees tree old now new j it next = record {
  more = it.more ++ next.more;
  longer = next.longer ∙ (ap (λ (b : List Node). b ++ next.more) it.longer ∙ append_assoc old it.more next.more);
  are = All-append IsOfTree it.more next.more it.are next.are;
  size =
      let longer : length new ≡ length now + length next.more = ap length next.longer ∙ length-append now next.more in
      let more : length next.more ≡ tree_size tree.members = next.size in
      let first : length now ≡ start + sizes trees = it.size in
      let all : sizes (trees ++ tree ∷ []) ≡ sizes trees + sizes (tree ∷ []) = sizes-append trees (tree ∷ []) in
      omega (arith, longer, more, first, all);
  is_book = λ is. next.is_book (it.is_book is);
  roots = λ is p members i root. go is p members i (root_cases start (length now) trees tree p members i it.size root);
}
  where
    Result : Polarity → List NodeId → ℕ → Type 0
    Result p members i = (i < length new) × IsTree new p (IsNodeIn members) i

    go : IsBook old → (p : Polarity) (members : List NodeId) (i : ℕ) → IsRootIn start trees p members i ⊎ ((planned_tree p members ≡ tree) × (i ≡ tree_root (length now) members)) → Result p members i
    go is p members i (inl root) =
        let there = it.roots is p members i root in
        let low : i < length now = there.0 in
        let longer : length new ≡ length now + length next.more = ap length next.longer ∙ length-append now next.more in
        (omega (arith, low, longer), subst (λ (b : List Node). IsTree b p (IsNodeIn members) i) (sym next.longer) (tree_kept now next.more (it.is_book is) p (IsNodeIn members) i low there.1))
    go is p members i (inr last) =
        let that : AddsTree p members now new j = subst (λ (t : PlannedTree). AddsTree t.polarity t.members now new j) (sym last.0) next in
        subst (Result p members) (that.root ∙ sym last.1) (that.inside, that.tree)

-- an only member is its own tree
one_low : (members : List NodeId) (n i : ℕ) → IsOne members i → All (λ (id : NodeId). id.0 < n) members → i < n
one_low [] n i one all = absurd one
one_low (one ∷ []) n i is all = let low : one.0 < n = all 0 one (omega arith) in omega (arith, low, is)
one_low (one ∷ other ∷ rest) n i is all = absurd is

pub only_low : (plan : Planned) (members : List NodeId) (i : ℕ) → IsOne members i → All (λ (id : NodeId). id.0 < end_of plan) members → i < end_of plan
only_low plan members i one all = one_low members (end_of plan) i one all

one_is : (one : NodeId) (j : ℕ) → IsNodeIn (one ∷ []) j → one.0 ≡ j
one_is one j (zero, low, is) = ap (λ (id : NodeId). id.0) is
one_is one j (suc k, low, is) = absurd (let low' : suc k < 1 = low in omega arith)

one_tree : (book : List Node) (p : Polarity) (members : List NodeId) (i : ℕ) → IsOne members i → IsTree book p (IsNodeIn members) i
one_tree book p [] i one = absurd one
one_tree book p (one ∷ []) i is = record {
  only = member (0, omega arith, λ n. record { 0 = sym is n });
  each = λ j there. shape.here (is ∙ one_is one j there);
}
one_tree book p (one ∷ other ∷ rest) i is = absurd is

-- the planned trees are there
pub planned_is : (plan : Planned) (old new : List Node) → IsBook old → AddsPlanned plan old new → (p : Polarity) (M : ℕ → Type 0) (i : ℕ) → HasTree plan p M i → (i < length new) × IsTree new p M i
planned_is plan old new is it p M i tree =
    let there = go tree.root in
    (there.0, tree_same new p (IsNodeIn tree.members) M tree.same i there.1)
  where
    go : IsPlaced plan p tree.members i → (i < length new) × IsTree new p (IsNodeIn tree.members) i
    go (inl one) = let low : i < end_of plan = tree.low in let size : length new ≡ end_of plan = it.size in (omega (arith, low, size), one_tree new p tree.members i one)
    go (inr root) = it.roots is p tree.members i root

-- the parts of planned trees, with one tree more
pub counted_next : (start end next size : ℕ) (trees new : List PlannedTree) (p : Polarity) (members : List NodeId) → IsCounted start end trees → size ≡ tree_size members → next ≡ end + size → new ≡ trees ++ planned_tree p members ∷ []
    → All (λ (id : NodeId). id.0 < start + sizes trees) members → IsCounted start next new
counted_next start end next size trees new p members it of_size at is low = subst (IsCounted start next) (sym is) (record {
  counted =
      let all : sizes (trees ++ planned_tree p members ∷ []) ≡ sizes trees + sizes (planned_tree p members ∷ []) = sizes-append trees (planned_tree p members ∷ []) in
      let first : end ≡ start + sizes trees = it.counted in
      omega (arith, all, first, of_size, at);
  low = low_pushed start (start + sizes trees) trees (planned_tree p members) refl it.low low;
})

pub root_next : (start end : ℕ) (trees new : List PlannedTree) (p : Polarity) (members : List NodeId) (root : ℕ) → IsCounted start end trees → root ≡ tree_root end members → new ≡ trees ++ planned_tree p members ∷ [] → IsRootIn start new p members root
root_next start end trees new p members root it at is =
    subst (λ (ts : List PlannedTree). IsRootIn start ts p members root) (sym is)
    (subst (IsRootIn start (trees ++ planned_tree p members ∷ []) p members) (sym at) (root_pushed start end trees p members it.counted))

pub low_next : (start end : ℕ) (trees new : List PlannedTree) (p : Polarity) (members : List NodeId) (root : ℕ) → IsCounted start end trees → root ≡ tree_root end members → new ≡ trees ++ planned_tree p members ∷ []
    → All (λ (id : NodeId). id.0 < start + sizes trees) members → root < start + sizes new
low_next start end trees new p members root it at is low =
    let first : end ≡ start + sizes trees = it.counted in
    let below : tree_root end members < end + tree_size members = root_low end members (subst (λ n. All (λ (id : NodeId). id.0 < n) members) (sym first) low) in
    let all : sizes (trees ++ planned_tree p members ∷ []) ≡ sizes trees + sizes (planned_tree p members ∷ []) = sizes-append trees (planned_tree p members ∷ []) in
    let same : sizes new ≡ sizes (trees ++ planned_tree p members ∷ []) = ap sizes is in
    omega (arith, first, below, all, same, at)

-- one more of the states has its tree
pub trees_none : (plan : Planned) (sign : ℕ → Polarity) (M : ℕ → ℕ → Type 0) (nodes : List NodeId) → nodes ≡ [] → HaveTrees plan sign M 0 nodes
trees_none plan sign M nodes is = record { size = ap length is; tree = λ s low d. absurd (omega (arith, low)) }

pub trees_next : (old new : Planned) (sign : ℕ → Polarity) (M : ℕ → ℕ → Type 0) (n : ℕ) (nodes more : List NodeId) (id : NodeId) → HaveTrees old sign M n nodes → Extends old new → HasTree new (sign n) (M n) id.0
    → more ≡ nodes ++ id ∷ [] → HaveTrees new sign M (n + 1) more
trees_next old new sign M n nodes more id it longer tree is = subst (HaveTrees new sign M (n + 1)) (sym is) (record {
  size = let first : length nodes ≡ n = it.size in let all : length (nodes ++ id ∷ []) ≡ length nodes + 1 = length-append nodes (id ∷ []) in omega (arith, first, all);
  tree = λ s low d. go s low d (below_or_more s n);
})
  where
    go : (s : ℕ) → s < n + 1 → (d : NodeId) → (s < n) ⊎ ((j : ℕ) × (s ≡ n + j)) → HasTree new (sign s) (M s) (get_or (nodes ++ id ∷ []) s d).0
    go s low d (inl before) =
        let first : length nodes ≡ n = it.size in
        subst (λ (m : NodeId). HasTree new (sign s) (M s) m.0) (sym (get_or-append nodes (id ∷ []) d s (omega (arith, first, before))))
        (tree_more old new (sign s) (M s) (get_or nodes s d).0 longer (it.tree s before d))
    go s low d (inr (j, at)) =
        let same : n ≡ s = omega (arith, low, at) in
        let first : length nodes ≡ n = it.size in
        subst (λ (m : NodeId). HasTree new (sign s) (M s) m.0) (sym (get_or_push nodes id d s (first ∙ same)))
        (subst (λ k. HasTree new (sign k) (M k) id.0) same tree)

pub trees_more : (old new : Planned) (sign : ℕ → Polarity) (M : ℕ → ℕ → Type 0) (n : ℕ) (nodes : List NodeId) → Extends old new → HaveTrees old sign M n nodes → HaveTrees new sign M n nodes
trees_more old new sign M n nodes longer it = record { size = it.size; tree = λ s low d. tree_more old new (sign s) (M s) (get_or nodes s d).0 longer (it.tree s low d) }

-- what stands before the first tree stands before the end
pub start_low : (old new : Planned) → Extends old new → old.start ≤ end_of new
start_low old new longer = let start : new.start ≡ old.start = longer.start in omega (arith, start)

pub all_members : (members : List NodeId) (n : ℕ) → All (λ (id : NodeId). id.0 < n) members → (i : ℕ) → IsNodeIn members i → i < n
all_members members n all i it = All-contains (λ (id : NodeId). id.0 < n) members (record { 0 = i }) all it
