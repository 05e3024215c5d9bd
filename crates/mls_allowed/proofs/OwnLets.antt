-- No two lets of a term have one number.
--     lets_at                 the lets of a tree with the numbers of their nodes
--     own_lets
use Rattle.std.proofs.Common.{◌≡◌, ◌⊎◌, inl, inr, ℕ, suc, ◌+◌, arith, List, [], ◌∷◌, ◌++◌, length, map, refl, sym, ap, ◌∙◌, subst, Contains, Some}
use Rattle.std.proofs.lemmas.List.Elements.{Contains-append_left, Contains-append_right}
use Rattle.mls_automaton.proofs.Lists.{Contains-map}
use Rattle.mls_term.specs.declared.term.TermForm.TheVariants as form
use Rattle.mls_term.specs.declared.term.TermNode.{TermNode}
use Rattle.mls_term.specs.Terms.{TermTree, TermFields, bound, inner, global, number, truth, fun, apply, make, project, choice, local, fix, no_field, a_field, before}
use Rattle.mls_term.specs.WellFormed.{IsTerm, field_lets_of, field_parts, lets_of}
use Rattle.mls_typing.proofs.Lists.{Contains-here, Contains-later, Contains-cases, nothing_in}
use Rattle.mls_typing.proofs.PartNodes.{length-postorder}
use Rattle.mls_deriv.specs.Steps.{form_at}
use Rattle.mls_parts.specs.NumberedNodes.{behind, IsNumbered}
use Rattle.mls_parts.proofs.NumberedNodes.{numbered_whole}
use Rattle.mls_parts.proofs.TreeNodes.{kids, node_with, form_low, one_form}
use Rattle.mls_allowed.specs.FirstTypes.{HaveOwnLets}
use Rattle.mls_allowed.proofs.DistinctLists.{AreDistinct, distinct_first, distinct_rest}

-- the lets of a tree, each with the number of its node
abbrev mutual
  pub lets_at : ℕ → TermTree → List (ℕ × ℕ)
  lets_at n (bound at x) = []
  lets_at n (inner at k) = []
  lets_at n (global at g) = []
  lets_at n (number at value) = []
  lets_at n (truth at value) = []
  lets_at n (fun at x e) = lets_at n e
  lets_at n (apply at e f) = lets_at n e ++ lets_at (behind n e) f
  lets_at n (make at fields) = field_lets_at n fields
  lets_at n (project at e label) = lets_at n e
  lets_at n (choice at c e f) = lets_at n c ++ lets_at (behind n c) e ++ lets_at (behind (behind n c) e) f
  lets_at n (local at k e f) = (k, n + before (local at k e f)) ∷ (lets_at n e ++ lets_at (behind n e) f)
  lets_at n (fix at x e) = lets_at n e

  pub field_lets_at : ℕ → TermFields → List (ℕ × ℕ)
  field_lets_at n no_field = []
  field_lets_at n (a_field label e rest) = lets_at n e ++ field_lets_at (n + suc (before e)) rest

abbrev numbers : List (ℕ × ℕ) → List ℕ
numbers ps = map (λ (p : ℕ × ℕ). p.0) ps

numbers-append : (xs ys : List (ℕ × ℕ)) → numbers (xs ++ ys) ≡ numbers xs ++ numbers ys
numbers-append [] ys = refl
numbers-append (x ∷ xs) ys = ap (λ (zs : List ℕ). x.0 ∷ zs) (numbers-append xs ys)

numbers-both : (xs ys : List (ℕ × ℕ)) (ms ns : List ℕ) → numbers xs ≡ ms → numbers ys ≡ ns → numbers (xs ++ ys) ≡ ms ++ ns
numbers-both xs ys ms ns left right = numbers-append xs ys ∙ (λ i. left i ++ right i)

mutual
  numbers_are : (t : TermTree) (n : ℕ) → numbers (lets_at n t) ≡ lets_of t
  numbers_are (bound at x) n = refl
  numbers_are (inner at k) n = refl
  numbers_are (global at g) n = refl
  numbers_are (number at value) n = refl
  numbers_are (truth at value) n = refl
  numbers_are (fun at x e) n = numbers_are e n
  numbers_are (fix at x e) n = numbers_are e n
  numbers_are (project at e label) n = numbers_are e n
  numbers_are (apply at e f) n = numbers-both (lets_at n e) (lets_at (behind n e) f) (lets_of e) (lets_of f) (numbers_are e n) (numbers_are f (behind n e))
  numbers_are (make at fields) n = field_numbers_are fields n
  numbers_are (choice at c e f) n =
      numbers-both (lets_at n c ++ lets_at (behind n c) e) (lets_at (behind (behind n c) e) f) (lets_of c ++ lets_of e) (lets_of f)
      (numbers-both (lets_at n c) (lets_at (behind n c) e) (lets_of c) (lets_of e) (numbers_are c n) (numbers_are e (behind n c)))
      (numbers_are f (behind (behind n c) e))
  numbers_are (local at k e f) n = ap (λ (zs : List ℕ). k ∷ zs) (numbers-both (lets_at n e) (lets_at (behind n e) f) (lets_of e) (lets_of f) (numbers_are e n) (numbers_are f (behind n e)))

  field_numbers_are : (fields : TermFields) (n : ℕ) → numbers (field_lets_at n fields) ≡ field_lets_of fields
  field_numbers_are no_field n = refl
  field_numbers_are (a_field label e rest) n =
      numbers-both (lets_at n e) (field_lets_at (n + suc (before e)) rest) (lets_of e) (field_lets_of rest) (numbers_are e n) (field_numbers_are rest (n + suc (before e)))

-- where no number stands twice, it has one node
one_node : (ps : List (ℕ × ℕ)) → AreDistinct (numbers ps) → (k i h : ℕ) → Contains ps (k, i) → Contains ps (k, h) → i ≡ h
one_node [] distinct k i h there also = absurd (nothing_in (k, i) there)
one_node (p ∷ rest) distinct k i h there also = go (Contains-cases p rest (k, i) there) (Contains-cases p rest (k, h) also) (one_node rest (distinct_rest p.0 (numbers rest) distinct) k i h)
  where
    twice : (j : ℕ) → p.0 ≡ k → Contains rest (k, j) → ⊥
    twice j same later = distinct_first p.0 (numbers rest) distinct (subst (Contains (numbers rest)) (sym same) (Contains-map (λ (q : ℕ × ℕ). q.0) rest (k, j) later))

    go : (p ≡ (k, i)) ⊎ Contains rest (k, i) → (p ≡ (k, h)) ⊎ Contains rest (k, h) → (Contains rest (k, i) → Contains rest (k, h) → i ≡ h) → i ≡ h
    go (inl one) (inl two) next = sym (ap (λ (q : ℕ × ℕ). q.1) one) ∙ ap (λ (q : ℕ × ℕ). q.1) two
    go (inl one) (inr later) next = absurd (twice h (ap (λ (q : ℕ × ℕ). q.0) one) later)
    go (inr later) (inl two) next = absurd (twice i (ap (λ (q : ℕ × ℕ). q.0) two) later)
    go (inr one) (inr two) next = next one two

module _ (nodes : List TermNode) (whole : List (ℕ × ℕ)) where
  -- the lets of a tree are among these
  abbrev IsWithin : ℕ → TermTree → Type 0
  IsWithin n t = (p : ℕ × ℕ) → Contains (lets_at n t) p → Contains whole p

  abbrev AllWithin : List (ℕ × TermTree) → Type 0
  AllWithin ks = (kid : ℕ × TermTree) → Contains ks kid → IsWithin kid.0 kid.1

  none_within : AllWithin []
  none_within kid there = absurd (nothing_in kid there)

  more_within : (n : ℕ) (t : TermTree) (rest : List (ℕ × TermTree)) → IsWithin n t → AllWithin rest → AllWithin ((n, t) ∷ rest)
  more_within n t rest it all kid there = elim (Contains-cases (n, t) rest kid there) [
    | inl same ↦ (let P : ℕ × TermTree → Type 0 = λ k. IsWithin k.0 k.1 in subst P same it)
    | inr later ↦ all kid later
  ]

  fields_within : (fields : TermFields) (n : ℕ) → ((p : ℕ × ℕ) → Contains (field_lets_at n fields) p → Contains whole p) → AllWithin (field_parts n fields)
  fields_within no_field n it = none_within
  fields_within (a_field label e rest) n it =
      more_within n e (field_parts (n + suc (before e)) rest) (λ p there. it p (Contains-append_left (lets_at n e) (field_lets_at (n + suc (before e)) rest) p there))
      (fields_within rest (n + suc (before e)) (λ p there. it p (Contains-append_right (lets_at n e) (field_lets_at (n + suc (before e)) rest) p there)))

  kids_within : (t : TermTree) (n : ℕ) → IsWithin n t → AllWithin (kids n t)
  kids_within (bound at x) n it = none_within
  kids_within (inner at k) n it = none_within
  kids_within (global at g) n it = none_within
  kids_within (number at value) n it = none_within
  kids_within (truth at value) n it = none_within
  kids_within (fun at x e) n it = more_within n e [] it none_within
  kids_within (fix at x e) n it = more_within n e [] it none_within
  kids_within (project at e label) n it = more_within n e [] it none_within
  kids_within (apply at e f) n it =
      more_within n e ((behind n e, f) ∷ []) (λ p there. it p (Contains-append_left (lets_at n e) (lets_at (behind n e) f) p there))
      (more_within (behind n e) f [] (λ p there. it p (Contains-append_right (lets_at n e) (lets_at (behind n e) f) p there)) none_within)
  kids_within (choice at c e f) n it =
      let front : (p : ℕ × ℕ) → Contains (lets_at n c ++ lets_at (behind n c) e) p → Contains whole p = λ p there. it p (Contains-append_left (lets_at n c ++ lets_at (behind n c) e) (lets_at (behind (behind n c) e) f) p there) in
      more_within n c ((behind n c, e) ∷ (behind (behind n c) e, f) ∷ []) (λ p there. front p (Contains-append_left (lets_at n c) (lets_at (behind n c) e) p there))
      (more_within (behind n c) e ((behind (behind n c) e, f) ∷ []) (λ p there. front p (Contains-append_right (lets_at n c) (lets_at (behind n c) e) p there))
      (more_within (behind (behind n c) e) f [] (λ p there. it p (Contains-append_right (lets_at n c ++ lets_at (behind n c) e) (lets_at (behind (behind n c) e) f) p there)) none_within))
  kids_within (make at fields) n it = fields_within fields n it
  kids_within (local at k e f) n it =
      let inside : (p : ℕ × ℕ) → Contains (lets_at n e ++ lets_at (behind n e) f) p → Contains whole p = λ p there. it p (Contains-later (k, n + before (local at k e f)) (lets_at n e ++ lets_at (behind n e) f) p there) in
      more_within n e ((behind n e, f) ∷ []) (λ p there. inside p (Contains-append_left (lets_at n e) (lets_at (behind n e) f) p there))
      (more_within (behind n e) f [] (λ p there. inside p (Contains-append_right (lets_at n e) (lets_at (behind n e) f) p there)) none_within)

  step_within : (n : ℕ) (t : TermTree) → IsNumbered nodes n t → IsWithin n t → (kid : ℕ × TermTree) → Contains (kids n t) kid → IsWithin kid.0 kid.1
  step_within n t numbers it kid there = kids_within t n it kid there

  -- a let is one of its own tree
  own_let : (t : TermTree) (n k j l : ℕ) → IsNumbered nodes n t → form_at nodes (n + before t) ≡ Some (form.Let k j l) → Contains (lets_at n t) (k, n + before t)
  own_let (bound at x) n k j l numbers e = absurd (let same : form.Bound x ≡ form.Let k j l = one_form nodes (n + before (bound at x)) (form.Bound x) (form.Let k j l) numbers e in cc)
  own_let (inner at q) n k j l numbers e = absurd (let same : form.Inner q ≡ form.Let k j l = one_form nodes (n + before (inner at q)) (form.Inner q) (form.Let k j l) numbers e in cc)
  own_let (global at g) n k j l numbers e = absurd (let same : form.Global g ≡ form.Let k j l = one_form nodes (n + before (global at g)) (form.Global g) (form.Let k j l) numbers e in cc)
  own_let (number at value) n k j l numbers e = absurd (let same : form.Number value ≡ form.Let k j l = one_form nodes (n + before (number at value)) (form.Number value) (form.Let k j l) numbers e in cc)
  own_let (truth at value) n k j l numbers e = absurd (let same : form.Truth value ≡ form.Let k j l = one_form nodes (n + before (truth at value)) (form.Truth value) (form.Let k j l) numbers e in cc)
  own_let (fun at x b) n k j l numbers e = absurd (let same = one_form nodes (n + before (fun at x b)) _ (form.Let k j l) numbers.0 e in cc)
  own_let (fix at x b) n k j l numbers e = absurd (let same = one_form nodes (n + before (fix at x b)) _ (form.Let k j l) numbers.0 e in cc)
  own_let (project at b label) n k j l numbers e = absurd (let same = one_form nodes (n + before (project at b label)) _ (form.Let k j l) numbers.0 e in cc)
  own_let (apply at b c) n k j l numbers e = absurd (let same = one_form nodes (n + before (apply at b c)) _ (form.Let k j l) numbers.0 e in cc)
  own_let (choice at b c d) n k j l numbers e = absurd (let same = one_form nodes (n + before (choice at b c d)) _ (form.Let k j l) numbers.0 e in cc)
  own_let (make at fields) n k j l numbers e = absurd (let same = one_form nodes (n + before (make at fields)) _ (form.Let k j l) numbers.0 e in cc)
  own_let (local at q b c) n k j l numbers e =
      let root : ℕ = n + before (local at q b c) in
      let same : form.Let q (n + before b) (behind n b + before c) ≡ form.Let k j l = one_form nodes root (form.Let q (n + before b) (behind n b + before c)) (form.Let k j l) numbers.0 e in
      let number : q ≡ k = cc in
      subst (λ m. Contains (lets_at n (local at q b c)) (m, root)) number (Contains-here (q, root) (lets_at n b ++ lets_at (behind n b) c))

pub own_lets : (globals : ℕ) (nodes : List TermNode) (binders lets : ℕ) → IsTerm globals nodes binders lets → HaveOwnLets nodes
own_lets globals nodes binders lets term i h k j l m o e e' = one_node (lets_at 0 term.tree) (subst AreDistinct (sym (numbers_are term.tree 0)) term.let_numbers.distinct) k i h (there i j l e) (there h m o e')
  where
    there : (x y z : ℕ) → form_at nodes x ≡ Some (form.Let k y z) → Contains (lets_at 0 term.tree) (k, x)
    there x y z is =
        let many : length nodes ≡ suc (before term.tree) = ap length term.nodes_are ∙ length-postorder term.tree 0 in
        let it =
        node_with nodes (IsWithin nodes (lets_at 0 term.tree)) (step_within nodes (lets_at 0 term.tree)) term.tree 0 (numbered_whole nodes term.tree term.nodes_are) (λ p at. at) x (omega arith) (omega (arith, many, form_low nodes x (form.Let k y z) is)) in
        let own : Contains (lets_at it.node.first it.node.tree) (k, it.node.first + before it.node.tree) =
        own_let nodes (lets_at 0 term.tree) it.node.tree it.node.first k y z it.node.numbers (subst (λ q. form_at nodes q ≡ Some (form.Let k y z)) it.node.root is) in
        subst (λ q. Contains (lets_at 0 term.tree) (k, q)) {x = it.node.first + before it.node.tree} (sym it.node.root) (it.holds (k, it.node.first + before it.node.tree) own)
