-- The nodes of a part stand in one piece among those of the whole term, from the number of the part on.
--     part_nodes      the nodes of a part
use Rattle.std.proofs.Common.{◌≡◌, ◌⊎◌, inl, inr, ℕ, suc, ◌+◌, List, [], ◌∷◌, ◌++◌, length, refl, sym, ap, ◌∙◌, subst, arith, Contains, length-append, append_assoc, append-nil}
use Rattle.mls_book.specs.Schemes.{Scheme}
use Rattle.mls_typing.proofs.Lists.{Contains-cases}
use Rattle.mls_term.specs.declared.term.TermNode.{TermNode}
use Rattle.mls_term.specs.declared.term.TermForm.TheVariants as form
use Rattle.mls_term.specs.Terms.{TermTree, TermFields, bound, inner, global, number, truth, fun, apply, make, project, choice, local, fix, no_field, a_field, before, field_nodes, field_roots, postorder, field_postorder}
use Rattle.mls_term.specs.Derivations.{Known}
use Rattle.mls_term.specs.WellFormed.{early_parts, field_parts, IsPartOf, at_root, in_part, in_second}
use Rattle.mls_typing.proofs.Lists.{nothing_in}

-- how many nodes there are
mutual
  unfolding postorder before field_roots

  pub length-postorder : (t : TermTree) (n : ℕ) → length (postorder n t) ≡ suc (before t)
  length-postorder (bound at x) n = refl
  length-postorder (inner at k) n = refl
  length-postorder (global at g) n = refl
  length-postorder (number at value) n = refl
  length-postorder (truth at value) n = refl
  length-postorder (fun at x e) n = omega (arith, length-append (postorder n e) (record { at = at; form = form.Fun x (n + before e) } ∷ []), length-postorder e n)
  length-postorder (fix at x e) n = omega (arith, length-append (postorder n e) (record { at = at; form = form.Rec x (n + before e) } ∷ []), length-postorder e n)
  length-postorder (project at e label) n = omega (arith, length-append (postorder n e) (record { at = at; form = form.Project (n + before e) label } ∷ []), length-postorder e n)
  length-postorder (apply at e f) n =
      let m = n + suc (before e) in
      omega (arith, length-append (postorder n e ++ postorder m f) (record { at = at; form = form.Apply (n + before e) (m + before f) } ∷ []), length-append (postorder n e) (postorder m f), length-postorder e n, length-postorder f m)
  length-postorder (local at k e f) n =
      let m = n + suc (before e) in
      omega (arith, length-append (postorder n e ++ postorder m f) (record { at = at; form = form.Let k (n + before e) (m + before f) } ∷ []), length-append (postorder n e) (postorder m f), length-postorder e n, length-postorder f m)
  length-postorder (choice at c e f) n =
      let m = n + suc (before c) in
      let l = m + suc (before e) in
      omega (arith, length-append (postorder n c ++ postorder m e ++ postorder l f) (record { at = at; form = form.If (n + before c) (m + before e) (l + before f) } ∷ []), length-append (postorder n c ++ postorder m e) (postorder l f), length-append (postorder n c) (postorder m e), length-postorder c n, length-postorder e m, length-postorder f l)
  length-postorder (make at fields) n = omega (arith, length-append (field_postorder n fields) (record { at = at; form = form.Make (field_roots n fields) } ∷ []), length-field_postorder fields n)

  pub length-field_postorder : (fields : TermFields) (n : ℕ) → length (field_postorder n fields) ≡ field_nodes fields
  length-field_postorder no_field n = refl
  length-field_postorder (a_field label e rest) n =
      omega (arith, length-append (postorder n e) (field_postorder (n + suc (before e)) rest), length-postorder e n, length-field_postorder rest (n + suc (before e)))

-- in a list whose first element has the number n the nodes of this tree stand from m on
pub record NodesAt (nodes : List TermNode) (n m : ℕ) (t : TermTree) : Type 0 where
  pub front : List TermNode
  pub back : List TermNode
  pub nodes_are : nodes ≡ front ++ (postorder m t ++ back)
  pub number_is : n + length front ≡ m

-- behind other nodes, and before others
behind : (front nodes : List TermNode) (n k m : ℕ) (t : TermTree) → n + length front ≡ k → NodesAt nodes k m t → NodesAt (front ++ nodes) n m t
behind front nodes n k m t at it = record {
  front = front ++ it.front;
  back = it.back;
  nodes_are = ap (λ xs. front ++ xs) it.nodes_are ∙ sym (append_assoc front it.front (postorder m t ++ it.back));
  number_is = let all : length (front ++ it.front) ≡ length front + length it.front = length-append front it.front in let there : k + length it.front ≡ m = it.number_is in omega arith;
}

in_front : (nodes back : List TermNode) (n m : ℕ) (t : TermTree) → NodesAt nodes n m t → NodesAt (nodes ++ back) n m t
in_front nodes back n m t it = record {
  front = it.front;
  back = it.back ++ back;
  nodes_are =
      ap (λ xs. xs ++ back) it.nodes_are
      ∙ (append_assoc it.front (postorder m t ++ it.back) back
      ∙ ap (λ xs. it.front ++ xs) (append_assoc (postorder m t) it.back back));
  number_is = it.number_is;
}

alone : (n : ℕ) (t : TermTree) → NodesAt (postorder n t) n n t
alone n t = record { front = []; back = []; nodes_are = sym (append-nil (postorder n t)); number_is = let at : n + 0 ≡ n = omega arith in at }

abbrev a_pair : ℕ → TermTree → ℕ × TermTree
a_pair n t = (n, t)

abbrev no_parts : List (ℕ × TermTree)
no_parts = []

-- of the parts of a record
field_nodes_at : (parts : TermFields) (n m : ℕ) (e : TermTree) → Contains (field_parts n parts) (m, e) → NodesAt (field_postorder n parts) n m e
unfolding postorder
field_nodes_at no_field n m e inside = absurd (nothing_in (m, e) inside)
field_nodes_at (a_field label e' rest) n m e inside =
    by_case (Contains-cases (n, e') (field_parts (n + suc (before e')) rest) (m, e) inside) (field_nodes_at rest (n + suc (before e')) m e)
  where
    by_case : (a_pair n e' ≡ a_pair m e) ⊎ Contains (field_parts (n + suc (before e')) rest) (m, e) → (Contains (field_parts (n + suc (before e')) rest) (m, e) → NodesAt (field_postorder (n + suc (before e')) rest) (n + suc (before e')) m e) → NodesAt (postorder n e' ++ field_postorder (n + suc (before e')) rest) n m e
    by_case (inl same) later =
        let P : ℕ × TermTree → Type 0 = λ p. NodesAt (postorder n e' ++ field_postorder (n + suc (before e')) rest) n p.0 p.1 in
        subst P same (in_front (postorder n e') (field_postorder (n + suc (before e')) rest) n n e' (alone n e'))
    by_case (inr there) later =
        behind (postorder n e') (field_postorder (n + suc (before e')) rest) n (n + suc (before e')) m e (let size : length (postorder n e') ≡ suc (before e') = length-postorder e' n in omega arith) (later there)

-- two expressions and a last node
module _ (n : ℕ) (e f : TermTree) (last : List TermNode) where
  abbrev next : ℕ
  next = n + suc (before e)

  first_at : NodesAt (postorder n e ++ postorder next f ++ last) n n e
  first_at = in_front (postorder n e ++ postorder next f) last n n e (in_front (postorder n e) (postorder next f) n n e (alone n e))

  second_at : NodesAt (postorder n e ++ postorder next f ++ last) n next f
  second_at =
      in_front (postorder n e ++ postorder next f) last n next f
      (behind (postorder n e) (postorder next f) n next next f (let size : length (postorder n e) ≡ suc (before e) = length-postorder e n in omega arith) (alone next f))

one_of : (n m : ℕ) (e e' : TermTree) (nodes : List TermNode) → NodesAt nodes n n e → Contains (a_pair n e ∷ no_parts) (m, e') → NodesAt nodes n m e'
one_of n m e e' nodes at inside = by_case (Contains-cases (n, e) no_parts (m, e') inside)
  where
    by_case : (a_pair n e ≡ a_pair m e') ⊎ Contains no_parts (m, e') → NodesAt nodes n m e'
    by_case (inl same) = let P : ℕ × TermTree → Type 0 = λ p. NodesAt nodes n p.0 p.1 in subst P same at
    by_case (inr none) = absurd (nothing_in (m, e') none)

more_of : (n k m : ℕ) (e e' : TermTree) (rest : List (ℕ × TermTree)) (nodes : List TermNode) → NodesAt nodes n k e → (Contains rest (m, e') → NodesAt nodes n m e') → Contains ((k, e) ∷ rest) (m, e') → NodesAt nodes n m e'
more_of n k m e e' rest nodes at others inside = by_case (Contains-cases (k, e) rest (m, e') inside)
  where
    by_case : (a_pair k e ≡ a_pair m e') ⊎ Contains rest (m, e') → NodesAt nodes n m e'
    by_case (inl same) = let P : ℕ × TermTree → Type 0 = λ p. NodesAt nodes n p.0 p.1 in subst P same at
    by_case (inr there) = others there

-- the nodes of a part of an expression
early_nodes : (n m : ℕ) (t e : TermTree) → Contains (early_parts n t) (m, e) → NodesAt (postorder n t) n m e
unfolding postorder
early_nodes n m (bound at x) e inside = absurd (nothing_in (m, e) inside)
early_nodes n m (inner at k) e inside = absurd (nothing_in (m, e) inside)
early_nodes n m (global at g) e inside = absurd (nothing_in (m, e) inside)
early_nodes n m (number at value) e inside = absurd (nothing_in (m, e) inside)
early_nodes n m (truth at value) e inside = absurd (nothing_in (m, e) inside)
early_nodes n m (fun at x b) e inside = one_of n m b e (postorder n b ++ record { at = at; form = form.Fun x (n + before b) } ∷ []) (in_front (postorder n b) (record { at = at; form = form.Fun x (n + before b) } ∷ []) n n b (alone n b)) inside
early_nodes n m (fix at x b) e inside = one_of n m b e (postorder n b ++ record { at = at; form = form.Rec x (n + before b) } ∷ []) (in_front (postorder n b) (record { at = at; form = form.Rec x (n + before b) } ∷ []) n n b (alone n b)) inside
early_nodes n m (project at b label) e inside = one_of n m b e (postorder n b ++ record { at = at; form = form.Project (n + before b) label } ∷ []) (in_front (postorder n b) (record { at = at; form = form.Project (n + before b) label } ∷ []) n n b (alone n b)) inside
early_nodes n m (apply at a b) e inside =
    let k = n + suc (before a) in
    let last = record { at = at; form = form.Apply (n + before a) (k + before b) } ∷ [] in
    let nodes = postorder n a ++ postorder k b ++ last in
    more_of n n m a e ((k, b) ∷ []) nodes (first_at n a b last) (more_of n k m b e [] nodes (second_at n a b last) (λ none. absurd (nothing_in (m, e) none))) inside
early_nodes n m (local at x a b) e inside =
    let k = n + suc (before a) in
    let last = record { at = at; form = form.Let x (n + before a) (k + before b) } ∷ [] in
    one_of n m a e (postorder n a ++ postorder k b ++ last) (first_at n a b last) inside
early_nodes n m (make at parts) e inside = in_front (field_postorder n parts) (record { at = at; form = form.Make (field_roots n parts) } ∷ []) n m e (field_nodes_at parts n m e inside)
early_nodes n m (choice at c a b) e inside =
    let k : ℕ = n + suc (before c) in
    let l : ℕ = k + suc (before a) in
    let last : List TermNode = record { at = at; form = form.If (n + before c) (k + before a) (l + before b) } ∷ [] in
    let two : List TermNode = postorder n c ++ postorder k a in
    let nodes : List TermNode = two ++ postorder l b ++ last in
    let third : NodesAt nodes n l b = in_front (two ++ postorder l b) last n l b (behind two (postorder l b) n l l b (let size : length (postorder n c) ≡ suc (before c) = length-postorder c n in let size' : length (postorder k a) ≡ suc (before a) = length-postorder a k in let both : length two ≡ length (postorder n c) + length (postorder k a) = length-append (postorder n c) (postorder k a) in omega arith) (alone l b)) in
    more_of n n m c e ((k, a) ∷ (l, b) ∷ []) nodes (in_front (two ++ postorder l b) last n n c (first_at n c a (postorder l b)))
    (more_of n k m a e ((l, b) ∷ []) nodes (in_front (two ++ postorder l b) last n k a (second_at n c a (postorder l b)))
    (more_of n l m b e [] nodes third (λ none. absurd (nothing_in (m, e) none)))) inside

-- and of the second part of a let
second_nodes : (at k m : ℕ) (first t : TermTree) → NodesAt (postorder m (local at k first t)) m (m + suc (before first)) t
unfolding postorder
second_nodes at k m first t = second_at m first t (record { at = at; form = form.Let k (m + before first) (m + suc (before first) + before t) } ∷ [])

-- a piece of a piece
within_piece : (nodes : List TermNode) (n k m : ℕ) (t e : TermTree) → NodesAt nodes n k t → NodesAt (postorder k t) k m e → NodesAt nodes n m e
within_piece nodes n k m t e outer piece =
    let P : List TermNode → Type 0 = λ xs. NodesAt xs n m e in
    subst P (sym outer.nodes_are) (behind outer.front (postorder k t ++ outer.back) n k m e outer.number_is (in_front (postorder k t) outer.back k m e piece))

-- the nodes of each part of a term stand among those of the term, from its number on
pub part_nodes : (globals : List Scheme) (whole : TermTree) (n : ℕ) (t : TermTree) (known : Known) → IsPartOf globals whole n t known → NodesAt (postorder 0 whole) 0 n t
part_nodes globals whole n t known (at_root n_is t_is known_is) =
    let T : TermTree → Type 0 = λ t. NodesAt (postorder 0 whole) 0 0 t in
    let N : ℕ → Type 0 = λ n. NodesAt (postorder 0 whole) 0 n t in
    subst N (sym n_is) (subst T (sym t_is) (alone 0 whole))
part_nodes globals whole n t known (in_part m outer part inside) =
    within_piece (postorder 0 whole) 0 m n outer t (part_nodes globals whole m outer known part) (early_nodes m n outer t inside)
part_nodes globals whole n t known (in_second m outer at k first s part n_is best known_is) =
    let N : ℕ → Type 0 = λ n. NodesAt (postorder 0 whole) 0 n t in
    subst N (sym n_is)
    (within_piece (postorder 0 whole) 0 m (m + suc (before first)) (local at k first t) t (part_nodes globals whole m (local at k first t) outer part) (second_nodes at k m first t))
