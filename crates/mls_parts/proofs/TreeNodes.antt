-- The nodes of a tree in postorder: each but the root is a child of just one node.
--     root_node               the root of a tree
--     node_with, node_in      of each node a tree of which it is the root
--     tree_nodes, term_nodes  the nodes of a whole term, and of each term of a module
use Rattle.std.proofs.Common.{◌≡◌, ◌⊎◌, inl, inr, ℕ, zero, suc, ◌+◌, ◌<◌, ◌≤◌, List, [], ◌∷◌, map, length, refl, sym, ap, ◌∙◌, subst, arith, Contains, slice_get, Option, Some, None}
use Rattle.std.specs.Prelude.{option_map}
use Rattle.std.proofs.lemmas.Option.{slice_get_within}
use Rattle.mls_book.proofs.LongerBooks.{below_or_more}
use Rattle.mls_term.specs.declared.term.Part.{Part}
use Rattle.mls_term.specs.declared.term.TermForm.{TermForm}
use Rattle.mls_term.specs.declared.term.TermForm.TheVariants as form
use Rattle.mls_term.specs.declared.term.TermNode.{TermNode}
use Rattle.mls_term.specs.Terms.{TermTree, TermFields, bound, inner, global, number, truth, fun, apply, make, project, choice, local, fix, no_field, a_field, before, field_nodes, field_roots, postorder}
use Rattle.mls_term.specs.WellFormed.{field_parts}
use Rattle.mls_typing.proofs.Lists.{Contains-here, Contains-later, Contains-cases, nothing_in}
use Rattle.mls_typing.proofs.PartNodes.{length-postorder}
use Rattle.mls_term.specs.declared.term.ResolvedBinding.{ResolvedBinding}
use Rattle.mls_deriv.specs.Laws.{AreTerms}
use Rattle.mls_deriv.specs.Steps.{form_at}
use Rattle.mls_parts.specs.NumberedNodes.{behind, IsNumbered, AreNumbered}
use Rattle.mls_parts.specs.TreeNodes.{children_of, AreTreeNodes}
use Rattle.mls_parts.proofs.NumberedNodes.{numbered_whole}

-- the children of a tree, each with the number of its first node, where that of the tree is n
abbrev pub kids : ℕ → TermTree → List (ℕ × TermTree)
kids n (bound at x) = []
kids n (inner at k) = []
kids n (global at g) = []
kids n (number at value) = []
kids n (truth at value) = []
kids n (fun at x e) = (n, e) ∷ []
kids n (apply at e f) = (n, e) ∷ (behind n e, f) ∷ []
kids n (make at fields) = field_parts n fields
kids n (project at e label) = (n, e) ∷ []
kids n (choice at c e f) = (n, c) ∷ (behind n c, e) ∷ (behind (behind n c) e, f) ∷ []
kids n (local at k e f) = (n, e) ∷ (behind n e, f) ∷ []
kids n (fix at x e) = (n, e) ∷ []

-- the number of the root of a numbered tree
abbrev pub root_of : ℕ × TermTree → ℕ
root_of kid = kid.0 + before kid.1

-- numbered trees that follow one another, from the one number up to the other
abbrev pub Follow : ℕ → List (ℕ × TermTree) → ℕ → Type 0
Follow n [] m = n ≡ m
Follow n (kid ∷ rest) m = (kid.0 ≡ n) × Follow (behind kid.0 kid.1) rest m

-- the number is that of a node of the tree
abbrev pub IsWithin : ℕ × TermTree → ℕ → Type 0
IsWithin kid x = (kid.0 ≤ x) × (x < behind kid.0 kid.1)

module _ (n : ℕ) where
  followed : (kid : ℕ × TermTree) (rest : List (ℕ × TermTree)) (m : ℕ) → Follow n (kid ∷ rest) m → kid.0 ≡ n
  followed kid rest m it = it.0

pub follow_up : (n : ℕ) (ks : List (ℕ × TermTree)) (m : ℕ) → Follow n ks m → n ≤ m
follow_up n [] m it = let same : n ≡ m = it in omega arith
follow_up n (kid ∷ rest) m it =
    let same : kid.0 ≡ n = it.0 in
    let up : behind kid.0 kid.1 ≤ m = follow_up (behind kid.0 kid.1) rest m it.1 in
    omega arith

-- each node has its tree
pub locate : (n : ℕ) (ks : List (ℕ × TermTree)) (m : ℕ) → Follow n ks m → (x : ℕ) → n ≤ x → x < m → (kid : ℕ × TermTree) × Contains ks kid × IsWithin kid x
locate n [] m it x low high = let same : n ≡ m = it in absurd (omega arith)
locate n (kid ∷ rest) m it x low high =
    let same : kid.0 ≡ n = it.0 in
    elim (below_or_more x (behind kid.0 kid.1)) [
      | inl less ↦ (kid, Contains-here kid rest, (omega arith, less))
      | inr more ↦ (
          let at : x ≡ behind kid.0 kid.1 + more.0 = more.1 in
          let found = locate (behind kid.0 kid.1) rest m it.1 x (omega arith) high in
          (found.0, Contains-later kid rest found.0 found.1, found.2)
          )
    ]

pub within : (n : ℕ) (ks : List (ℕ × TermTree)) (m : ℕ) → Follow n ks m → (kid : ℕ × TermTree) → Contains ks kid → (n ≤ kid.0) × (behind kid.0 kid.1 ≤ m)
within n [] m it kid there = absurd (nothing_in kid there)
within n (first ∷ rest) m it kid there = go (λ later. within (behind first.0 first.1) rest m it.1 kid later) (Contains-cases first rest kid there)
  where
    go : (Contains rest kid → (behind first.0 first.1 ≤ kid.0) × (behind kid.0 kid.1 ≤ m)) → (first ≡ kid) ⊎ Contains rest kid → (n ≤ kid.0) × (behind kid.0 kid.1 ≤ m)
    go next (inl same) =
        let at : first.0 ≡ n = it.0 in
        let up : behind first.0 first.1 ≤ m = follow_up (behind first.0 first.1) rest m it.1 in
        let P : ℕ × TermTree → Type 0 = λ k. (n ≤ k.0) × (behind k.0 k.1 ≤ m) in
        let here : P first = (omega arith, up) in
        subst P same here
    go next (inr later) =
        let at : first.0 ≡ n = it.0 in
        let low : behind first.0 first.1 ≤ kid.0 = (next later).0 in
        (omega arith, (next later).1)

-- and just one
same_kid : (n : ℕ) (ks : List (ℕ × TermTree)) (m : ℕ) → Follow n ks m → (one two : ℕ × TermTree) → Contains ks one → Contains ks two → (x : ℕ) → IsWithin one x → IsWithin two x → one ≡ two
same_kid n [] m it one two in_one in_two x first second = absurd (nothing_in one in_one)
same_kid n (kid ∷ rest) m it one two in_one in_two x first second =
    go (λ later also. same_kid (behind kid.0 kid.1) rest m it.1 one two later also x first second) (Contains-cases kid rest one in_one) (Contains-cases kid rest two in_two)
  where
    apart : (other : ℕ × TermTree) → Contains rest other → IsWithin kid x → IsWithin other x → ⊥
    apart other there here then =
        let more = within (behind kid.0 kid.1) rest m it.1 other there in
        let low : behind kid.0 kid.1 ≤ other.0 = more.0 in
        let less : x < behind kid.0 kid.1 = here.1 in
        let up : other.0 ≤ x = then.0 in
        omega arith

    go : (Contains rest one → Contains rest two → one ≡ two) → (kid ≡ one) ⊎ Contains rest one → (kid ≡ two) ⊎ Contains rest two → one ≡ two
    go next (inl same) (inl also) = sym same ∙ also
    go next (inl same) (inr later) = absurd (apart two later (let P : ℕ × TermTree → Type 0 = λ k. IsWithin k x in subst P (sym same) first) second)
    go next (inr later) (inl also) = absurd (apart one later (let P : ℕ × TermTree → Type 0 = λ k. IsWithin k x in subst P (sym also) second) first)
    go next (inr later) (inr also) = next later also

root_in : (ks : List (ℕ × TermTree)) (kid : ℕ × TermTree) → Contains ks kid → Contains (map root_of ks) (root_of kid)
root_in [] kid there = absurd (nothing_in kid there)
root_in (first ∷ rest) kid there = go (root_in rest kid) (Contains-cases first rest kid there)
  where
    go : (Contains rest kid → Contains (map root_of rest) (root_of kid)) → (first ≡ kid) ⊎ Contains rest kid → Contains (map root_of (first ∷ rest)) (root_of kid)
    go next (inl same) = let P : ℕ × TermTree → Type 0 = λ k. Contains (map root_of (first ∷ rest)) (root_of k) in subst P same (Contains-here (root_of first) (map root_of rest))
    go next (inr later) = Contains-later (root_of first) (map root_of rest) (root_of kid) (next later)

root_back : (ks : List (ℕ × TermTree)) (j : ℕ) → Contains (map root_of ks) j → (kid : ℕ × TermTree) × Contains ks kid × (root_of kid ≡ j)
root_back [] j there = absurd (nothing_in j there)
root_back (first ∷ rest) j there = go (root_back rest j) (Contains-cases (root_of first) (map root_of rest) j there)
  where
    go : (Contains (map root_of rest) j → (kid : ℕ × TermTree) × Contains rest kid × (root_of kid ≡ j)) → (root_of first ≡ j) ⊎ Contains (map root_of rest) j → (kid : ℕ × TermTree) × Contains (first ∷ rest) kid × (root_of kid ≡ j)
    go next (inl same) = (first, Contains-here first rest, same)
    go next (inr later) = let found = next later in (found.0, Contains-later first rest found.0 found.1, found.2)

-- two trees that follow one another
two_rise : (n : ℕ) (ks : List (ℕ × TermTree)) (m j l : ℕ) → Follow n ks m → map root_of ks ≡ j ∷ l ∷ [] → j < l
two_rise n [] m j l it same = absurd (cc)
two_rise n (one ∷ []) m j l it same = absurd (cc)
two_rise n (one ∷ two ∷ []) m j l it same =
    let at : two.0 ≡ behind one.0 one.1 = it.1.0 in
    let first : root_of one ≡ j = cc in
    let second : root_of two ≡ l = cc in
    omega arith
two_rise n (one ∷ two ∷ three ∷ rest) m j l it same = absurd (cc)

module _ (nodes : List TermNode) where
  abbrev pub AllNumbered : List (ℕ × TermTree) → Type 0
  AllNumbered [] = Unit {0}
  AllNumbered (kid ∷ rest) = IsNumbered nodes kid.0 kid.1 × AllNumbered rest

  numbered_in : (ks : List (ℕ × TermTree)) → AllNumbered ks → (kid : ℕ × TermTree) → Contains ks kid → IsNumbered nodes kid.0 kid.1
  numbered_in [] all kid there = absurd (nothing_in kid there)
  numbered_in (first ∷ rest) all kid there = go (numbered_in rest all.1 kid) (Contains-cases first rest kid there)
    where
      go : (Contains rest kid → IsNumbered nodes kid.0 kid.1) → (first ≡ kid) ⊎ Contains rest kid → IsNumbered nodes kid.0 kid.1
      go next (inl same) = let P : ℕ × TermTree → Type 0 = λ k. IsNumbered nodes k.0 k.1 in subst P same all.0
      go next (inr later) = next later

  -- the root of a tree, whose form names the roots of its children
  pub record IsJoint (n : ℕ) (t : TermTree) : Type 0 where
    pub form : TermForm
    pub is : form_at nodes (n + before t) ≡ Some form
    pub children : children_of form ≡ map root_of (kids n t)
    pub follow : Follow n (kids n t) (n + before t)
    pub numbered : AllNumbered (kids n t)

  field_children : (fields : TermFields) (n : ℕ) → map (λ (part : Part). part.child) (field_roots n fields) ≡ map root_of (field_parts n fields)
  unfolding field_roots
  field_children no_field n = refl
  field_children (a_field label e rest) n = ap (λ xs. (n + before e) ∷ xs) (field_children rest (behind n e))

  field_follow : (fields : TermFields) (n m : ℕ) → m ≡ n + field_nodes fields → Follow n (field_parts n fields) m
  unfolding before
  field_follow no_field n m is = let same : n ≡ m = omega (arith, is) in same
  field_follow (a_field label e rest) n m is = (refl, field_follow rest (behind n e) m (omega (arith, is)))

  field_numbered : (fields : TermFields) (n : ℕ) → AreNumbered nodes n fields → AllNumbered (field_parts n fields)
  field_numbered no_field n it = tt
  field_numbered (a_field label e rest) n it = (it.0, field_numbered rest (behind n e) it.1)

  pub root_node : (t : TermTree) (n : ℕ) → IsNumbered nodes n t → IsJoint n t
  unfolding before
  root_node (bound at x) n it = record { form = form.Bound x; is = it; children = refl; follow = let same : n ≡ n + 0 = omega arith in same; numbered = tt }
  root_node (inner at k) n it = record { form = form.Inner k; is = it; children = refl; follow = let same : n ≡ n + 0 = omega arith in same; numbered = tt }
  root_node (global at g) n it = record { form = form.Global g; is = it; children = refl; follow = let same : n ≡ n + 0 = omega arith in same; numbered = tt }
  root_node (number at value) n it = record { form = form.Number value; is = it; children = refl; follow = let same : n ≡ n + 0 = omega arith in same; numbered = tt }
  root_node (truth at value) n it = record { form = form.Truth value; is = it; children = refl; follow = let same : n ≡ n + 0 = omega arith in same; numbered = tt }
  root_node (fun at x e) n it = record { form = form.Fun x (n + before e); is = it.0; children = refl; follow = (refl, refl); numbered = (it.1, tt) }
  root_node (fix at x e) n it = record { form = form.Rec x (n + before e); is = it.0; children = refl; follow = (refl, refl); numbered = (it.1, tt) }
  root_node (project at e label) n it = record { form = form.Project (n + before e) label; is = it.0; children = refl; follow = (refl, refl); numbered = (it.1, tt) }
  root_node (apply at e f) n it = record {
    form = form.Apply (n + before e) (behind n e + before f);
    is = it.0;
    children = refl;
    follow = (refl, (refl, let end : behind (behind n e) f ≡ n + (suc (before e) + suc (before f)) = omega arith in end));
    numbered = (it.1, (it.2, tt));
  }
  root_node (local at k e f) n it = record {
    form = form.Let k (n + before e) (behind n e + before f);
    is = it.0;
    children = refl;
    follow = (refl, (refl, let end : behind (behind n e) f ≡ n + (suc (before e) + suc (before f)) = omega arith in end));
    numbered = (it.1, (it.2, tt));
  }
  root_node (choice at c e f) n it = record {
    form = form.If (n + before c) (behind n c + before e) (behind (behind n c) e + before f);
    is = it.0;
    children = refl;
    follow = (refl, (refl, (refl, let end : behind (behind (behind n c) e) f ≡ n + (suc (before c) + suc (before e) + suc (before f)) = omega arith in end)));
    numbered = (it.1, (it.2, (it.3, tt)));
  }
  root_node (make at fields) n it = record {
    form = form.Make (field_roots n fields);
    is = it.0;
    children = field_children fields n;
    follow = field_follow fields n (n + field_nodes fields) refl;
    numbered = field_numbered fields n it.1;
  }

  pub one_form : (i : ℕ) (f g : TermForm) → form_at nodes i ≡ Some f → form_at nodes i ≡ Some g → f ≡ g
  one_form i f g e e' = let same : Some f ≡ Some g = sym e ∙ e' in cc

  -- a child of the root is the root of a child
  child_back : (n : ℕ) (t : TermTree) (it : IsJoint n t) (f : TermForm) → form_at nodes (n + before t) ≡ Some f → (j : ℕ) → Contains (children_of f) j → (kid : ℕ × TermTree) × Contains (kids n t) kid × (root_of kid ≡ j)
  child_back n t it f e j there =
      let same : children_of f ≡ map root_of (kids n t) = ap children_of (one_form (n + before t) f it.form e it.is) ∙ it.children in
      root_back (kids n t) j (subst (λ (js : List ℕ). Contains js j) same there)

  child_there : (n : ℕ) (t : TermTree) (it : IsJoint n t) (kid : ℕ × TermTree) → Contains (kids n t) kid → Contains (children_of it.form) (root_of kid)
  child_there n t it kid there = subst (λ (js : List ℕ). Contains js (root_of kid)) (sym it.children) (root_in (kids n t) kid there)

  -- the node is the root of a tree, whose nodes have the numbers from `first` on
  pub record HasNode (n i : ℕ) : Type 0 where
    pub first : ℕ
    pub tree : TermTree
    pub root : i ≡ first + before tree
    pub low : n ≤ first
    pub numbers : IsNumbered nodes first tree

  smaller : (n : ℕ) (t : TermTree) (it : IsJoint n t) (fuel : ℕ) → before t < suc fuel → (kid : ℕ × TermTree) → Contains (kids n t) kid → before kid.1 < fuel
  smaller n t it fuel enough kid there =
      let inside = within n (kids n t) (n + before t) it.follow kid there in
      let low : n ≤ kid.0 = inside.0 in
      let high : behind kid.0 kid.1 ≤ n + before t = inside.1 in
      omega arith

  -- of each node of a tree a tree of which it is the root, with what the children of a tree have where the tree has it
  module _ (P : ℕ → TermTree → Type 0) (step : (n : ℕ) (t : TermTree) → IsNumbered nodes n t → P n t → (kid : ℕ × TermTree) → Contains (kids n t) kid → P kid.0 kid.1) where
    pub record HasNodeWith (n i : ℕ) : Type 0 where
      pub node : HasNode n i
      pub holds : P node.first node.tree

    node_within : (fuel : ℕ) (t : TermTree) (n : ℕ) → before t < fuel → IsNumbered nodes n t → P n t → (i : ℕ) → n ≤ i → i < behind n t → HasNodeWith n i
    node_within zero t n enough it has i low high = absurd (omega (arith, enough))
    node_within (suc fuel) t n enough it has i low high = elim (below_or_more i (n + before t)) [
      | inl less ↦ (
          let at : IsJoint n t = root_node t n it in
          let found = locate n (kids n t) (n + before t) at.follow i low less in
          let kid : ℕ × TermTree = found.0 in
          let inside = within n (kids n t) (n + before t) at.follow kid found.1 in
          let lower : n ≤ kid.0 = inside.0 in
          let more : HasNodeWith kid.0 i = node_within fuel kid.1 kid.0 (smaller n t at fuel enough kid found.1) (numbered_in (kids n t) at.numbered kid found.1) (step n t it has kid found.1) i found.2.0 found.2.1 in
          let above : kid.0 ≤ more.node.first = more.node.low in
          record { node = record { first = more.node.first; tree = more.node.tree; root = more.node.root; low = omega arith; numbers = more.node.numbers }; holds = more.holds }
          )
      | inr more ↦ (
          let at : i ≡ n + before t + more.0 = more.1 in
          record { node = record { first = n; tree = t; root = omega arith; low = omega arith; numbers = it }; holds = has }
          )
    ]

    pub node_with : (t : TermTree) (n : ℕ) → IsNumbered nodes n t → P n t → (i : ℕ) → n ≤ i → i < behind n t → HasNodeWith n i
    node_with t n it has i low high = node_within (suc (before t)) t n (omega arith) it has i low high

  pub node_in : (t : TermTree) (n : ℕ) → IsNumbered nodes n t → (i : ℕ) → n ≤ i → i < behind n t → HasNode n i
  node_in t n it i low high = (node_with (λ m u. Unit {0}) (λ m u is has kid there. tt) t n it tt i low high).node

  -- its children are there, and before it
  pub child_below : (n i : ℕ) → HasNode n i → (f : TermForm) → form_at nodes i ≡ Some f → (j : ℕ) → Contains (children_of f) j → (n ≤ j) × (j < i)
  child_below n i at f e j there =
      let joint : IsJoint at.first at.tree = root_node at.tree at.first at.numbers in
      let is : i ≡ at.first + before at.tree = at.root in
      let found = child_back at.first at.tree joint f (subst (λ k. form_at nodes k ≡ Some f) is e) j there in
      let kid : ℕ × TermTree = found.0 in
      let inside = within at.first (kids at.first at.tree) (at.first + before at.tree) joint.follow kid found.1 in
      let low : at.first ≤ kid.0 = inside.0 in
      let high : behind kid.0 kid.1 ≤ at.first + before at.tree = inside.1 in
      let same : root_of kid ≡ j = found.2 in
      let above : n ≤ at.first = at.low in
      (omega arith, omega arith)

  pub record HasParent (j : ℕ) : Type 0 where
    pub node : ℕ
    pub form : TermForm
    pub is : form_at nodes node ≡ Some form
    pub child : Contains (children_of form) j

  parent_within : (fuel : ℕ) (t : TermTree) (n : ℕ) → before t < fuel → IsNumbered nodes n t → (j : ℕ) → n ≤ j → j < n + before t → HasParent j
  parent_within zero t n enough it j low high = absurd (omega (arith, enough))
  parent_within (suc fuel) t n enough it j low high = elim (below_or_more j (root_of kid)) [
    | inl less ↦ parent_within fuel kid.1 kid.0 (smaller n t at fuel enough kid found.1) (numbered_in (kids n t) at.numbered kid found.1) j found.2.0 less
    | inr more ↦ (
        let is : j ≡ root_of kid + more.0 = more.1 in
        let high' : j < behind kid.0 kid.1 = found.2.1 in
        let same : root_of kid ≡ j = omega arith in
        record { node = n + before t; form = at.form; is = at.is; child = subst (Contains (children_of at.form)) same (child_there n t at kid found.1) }
        )
  ]
    where
      at : IsJoint n t
      at = root_node t n it

      found : (kid : ℕ × TermTree) × Contains (kids n t) kid × IsWithin kid j
      found = locate n (kids n t) (n + before t) at.follow j low high

      kid : ℕ × TermTree
      kid = found.0

  one_within : (fuel : ℕ) (t : TermTree) (n : ℕ) → before t < fuel → IsNumbered nodes n t → (i k j : ℕ) (f g : TermForm) → n ≤ i → i < behind n t → n ≤ k → k < behind n t
      → form_at nodes i ≡ Some f → form_at nodes k ≡ Some g → Contains (children_of f) j → Contains (children_of g) j → i ≡ k
  one_within zero t n enough it i k j f g low high low' high' e e' there there' = absurd (omega (arith, enough))
  one_within (suc fuel) t n enough it i k j f g low high low' high' e e' there there' =
      go (λ kid inside low i_in k_in. one_within fuel kid.1 kid.0 low (tree_of kid inside) i k j f g i_in.0 i_in.1 k_in.0 k_in.1 e e' there there') (below_or_more i (n + before t)) (below_or_more k (n + before t))
    where
      at : IsJoint n t
      at = root_node t n it

      Found : ℕ → Type 0
      Found x = (kid : ℕ × TermTree) × Contains (kids n t) kid × IsWithin kid x

      found : (x : ℕ) → n ≤ x → x < n + before t → Found x
      found x above less = locate n (kids n t) (n + before t) at.follow x above less

      tree_of : (kid : ℕ × TermTree) → Contains (kids n t) kid → IsNumbered nodes kid.0 kid.1
      tree_of kid inside = numbered_in (kids n t) at.numbered kid inside

      below_kid : (x : ℕ) (h : TermForm) (kid : ℕ × TermTree) → Contains (kids n t) kid → IsWithin kid x → form_at nodes x ≡ Some h → Contains (children_of h) j → (kid.0 ≤ j) × (j < x)
      below_kid x h kid inside which is has = child_below kid.0 x (node_in kid.1 kid.0 (tree_of kid inside) x which.0 which.1) h is j has

      at_root : (x : ℕ) → (more : (d : ℕ) × (x ≡ n + before t + d)) → x < behind n t → n + before t ≡ x
      at_root x more less = let is : x ≡ n + before t + more.0 = more.1 in omega arith

      -- no node of a child has the root of a child as its child
      wrong : (x : ℕ) (h : TermForm) → Found x → form_at nodes x ≡ Some h → Contains (children_of h) j → (kid : ℕ × TermTree) → Contains (kids n t) kid → root_of kid ≡ j → ⊥
      wrong x h here is has kid inside root =
          let lower = below_kid x h here.0 here.1 here.2 is has in
          let down : here.0.0 ≤ j = lower.0 in
          let less : j < x = lower.1 in
          let up : x < behind here.0.0 here.0.1 = here.2.1 in
          let same : here.0 ≡ kid = same_kid n (kids n t) (n + before t) at.follow here.0 kid here.1 inside j (down, omega arith) (omega arith, omega arith) in
          let root' : root_of here.0 ≡ j = ap root_of same ∙ root in
          omega arith

      Next : Type 0
      Next = (kid : ℕ × TermTree) → Contains (kids n t) kid → before kid.1 < fuel → IsWithin kid i → IsWithin kid k → i ≡ k

      go : Next → (i < n + before t) ⊎ ((d : ℕ) × (i ≡ n + before t + d)) → (k < n + before t) ⊎ ((d : ℕ) × (k ≡ n + before t + d)) → i ≡ k
      go next (inr last) (inr also) = sym (at_root i last high) ∙ at_root k also high'
      go next (inr last) (inl less) =
          let back = child_back n t at f (subst (λ x. form_at nodes x ≡ Some f) (sym (at_root i last high)) e) j there in
          absurd (wrong k g (found k low' less) e' there' back.0 back.1 back.2)
      go next (inl less) (inr last) =
          let back = child_back n t at g (subst (λ x. form_at nodes x ≡ Some g) (sym (at_root k last high')) e') j there' in
          absurd (wrong i f (found i low less) e there back.0 back.1 back.2)
      go next (inl less) (inl less') =
          let one : Found i = found i low less in
          let two : Found k = found k low' less' in
          let first = below_kid i f one.0 one.1 one.2 e there in
          let second = below_kid k g two.0 two.1 two.2 e' there' in
          let down : one.0.0 ≤ j = first.0 in
          let before_i : j < i = first.1 in
          let up : i < behind one.0.0 one.0.1 = one.2.1 in
          let down' : two.0.0 ≤ j = second.0 in
          let before_k : j < k = second.1 in
          let up' : k < behind two.0.0 two.0.1 = two.2.1 in
          let same : one.0 ≡ two.0 = same_kid n (kids n t) (n + before t) at.follow one.0 two.0 one.1 two.1 j (down, omega arith) (down', omega arith) in
          let P : ℕ × TermTree → Type 0 = λ kid. IsWithin kid k in
          let inside : IsWithin one.0 k = subst P (sym same) two.2 in
          next one.0 one.1 (smaller n t at fuel enough one.0 one.1) one.2 inside

  let_apart : (n i : ℕ) → HasNode n i → (k j l : ℕ) → form_at nodes i ≡ Some (form.Let k j l) → j < l
  let_apart n i at k j l e =
      let joint : IsJoint at.first at.tree = root_node at.tree at.first at.numbers in
      let e' : form_at nodes (at.first + before at.tree) ≡ Some (form.Let k j l) = subst (λ x. form_at nodes x ≡ Some (form.Let k j l)) at.root e in
      let same : map root_of (kids at.first at.tree) ≡ j ∷ l ∷ [] = sym joint.children ∙ ap children_of (one_form (at.first + before at.tree) joint.form (form.Let k j l) joint.is e') in
      two_rise at.first (kids at.first at.tree) (at.first + before at.tree) j l joint.follow same

  pub form_low : (i : ℕ) (f : TermForm) → form_at nodes i ≡ Some f → i < length nodes
  form_low i f e = go (slice_get nodes i) refl e
    where
      go : (o : Option TermNode) → slice_get nodes i ≡ o → option_map (λ node. node.form) o ≡ Some f → i < length nodes
      go None is wrong = absurd (cc)
      go (Some x) is right = slice_get_within nodes i x is

-- the nodes of a whole term
pub tree_nodes : (nodes : List TermNode) (t : TermTree) → nodes ≡ postorder 0 t → AreTreeNodes nodes
tree_nodes nodes t is = record {
  below = λ i j f e there. (child_below nodes 0 i (at i f e) f e j there).1;
  parent = λ j less.
      let it : HasParent nodes j = parent_within nodes (suc (before t)) t 0 (omega arith) numbered j (omega arith) (omega (arith, many, less)) in
      (it.node, it.form, it.is, it.child);
  one = λ i k j f g e e' there there'.
      one_within nodes (suc (before t)) t 0 (omega arith) numbered i k j f g (omega arith) (omega (arith, many, form_low nodes i f e)) (omega arith) (omega (arith, many, form_low nodes k g e')) e e' there there';
  apart = λ i k j l e. let_apart nodes 0 i (at i (form.Let k j l) e) k j l e;
}
  where
    numbered : IsNumbered nodes 0 t
    numbered = numbered_whole nodes t is

    many : length nodes ≡ suc (before t)
    many = ap length is ∙ length-postorder t 0

    at : (i : ℕ) (f : TermForm) → form_at nodes i ≡ Some f → HasNode nodes 0 i
    at i f e = node_in nodes t 0 numbered i (omega arith) (omega (arith, many, form_low nodes i f e))

-- and of each term of a module
pub term_nodes : (count : ℕ) (bindings : List ResolvedBinding) → AreTerms count bindings → (k : ℕ) (b : ResolvedBinding) → slice_get bindings k ≡ Some b → AreTreeNodes b.term.nodes
term_nodes count [] all k b is = absurd (cc)
term_nodes count (first ∷ rest) all zero b is = let same : first ≡ b = cc in subst (λ (c : ResolvedBinding). AreTreeNodes c.term.nodes) same (tree_nodes first.term.nodes all.0.tree all.0.nodes_are)
term_nodes count (first ∷ rest) all (suc k) b is = term_nodes (suc count) rest all.1 k b is
