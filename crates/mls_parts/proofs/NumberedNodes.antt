-- The nodes of a tree where they stand among those of a term: each has its number and its form.
--     before-fun, .., nodes-a_field      how many nodes come before the root, form by form
--     numbered                           where the postorder of a tree stands, its nodes are numbered
--     numbered_whole                     so are those of a whole term
use Rattle.std.proofs.Common.{◌≡◌, ℕ, suc, ◌+◌, List, [], ◌∷◌, ◌++◌, length, refl, ap, ◌∙◌, subst, arith, slice_get, append_assoc, Some}
use Rattle.std.specs.Prelude.{option_map}
use Rattle.std.proofs.lemmas.Option.{slice_get_within}
use Rattle.std.proofs.iter.runs.Lists.{nth_left, nth_right}
use Rattle.mls_term.specs.declared.term.TermNode.{TermNode}
use Rattle.mls_term.specs.Terms.{TermTree, TermFields, bound, inner, global, number, truth, fun, apply, make, project, choice, local, fix, no_field, a_field, before, field_nodes, field_roots, postorder, field_postorder}
use Rattle.mls_typing.proofs.PartNodes.{length-postorder, length-field_postorder}
use Rattle.mls_deriv.specs.Steps.{form_at}
use Rattle.mls_parts.specs.NumberedNodes.{behind, IsNumbered, AreNumbered}

-- how many nodes come before the root
pub before-fun : (at x : ℕ) (e : TermTree) → before (fun at x e) ≡ suc (before e)
unfolding before
before-fun at x e = refl

pub before-fix : (at x : ℕ) (e : TermTree) → before (fix at x e) ≡ suc (before e)
unfolding before
before-fix at x e = refl

pub before-project : (at : ℕ) (e : TermTree) (label : List ℕ) → before (project at e label) ≡ suc (before e)
unfolding before
before-project at e label = refl

pub before-apply : (at : ℕ) (e f : TermTree) → before (apply at e f) ≡ suc (before e) + suc (before f)
unfolding before
before-apply at e f = refl

pub before-local : (at k : ℕ) (e f : TermTree) → before (local at k e f) ≡ suc (before e) + suc (before f)
unfolding before
before-local at k e f = refl

pub before-choice : (at : ℕ) (c e f : TermTree) → before (choice at c e f) ≡ suc (before c) + suc (before e) + suc (before f)
unfolding before
before-choice at c e f = refl

pub before-make : (at : ℕ) (parts : TermFields) → before (make at parts) ≡ field_nodes parts
unfolding before
before-make at parts = refl

pub nodes-a_field : (label : List ℕ) (e : TermTree) (rest : TermFields) → field_nodes (a_field label e rest) ≡ suc (before e) + field_nodes rest
unfolding before
nodes-a_field label e rest = refl

module _ (nodes : List TermNode) where
  -- these nodes stand from the number n on
  abbrev pub StandFrom : ℕ → List TermNode → Type 0
  StandFrom n xs = (i : ℕ) (x : TermNode) → slice_get xs i ≡ Some x → slice_get nodes (n + i) ≡ Some x

  stand_left : (n : ℕ) (xs ys : List TermNode) → StandFrom n (xs ++ ys) → StandFrom n xs
  stand_left n xs ys h i x e = h i x (nth_left xs ys i (slice_get_within xs i x e) ∙ e)

  stand_right : (n m : ℕ) (xs ys : List TermNode) → n + length xs ≡ m → StandFrom n (xs ++ ys) → StandFrom m ys
  stand_right n m xs ys is h i x e =
      let at : n + (length xs + i) ≡ m + i = omega arith in
      subst (λ k. slice_get nodes k ≡ Some x) at (h (length xs + i) x (nth_right xs ys i ∙ e))

  stands : (n m : ℕ) (x : TermNode) → n ≡ m → StandFrom n (x ∷ []) → form_at nodes m ≡ Some x.form
  stands n m x is h =
      let at : n + 0 ≡ m = omega arith in
      ap (option_map (λ node. node.form)) (subst (λ k. slice_get nodes k ≡ Some x) at (h 0 x refl))

  -- a tree, and nodes behind it
  tree_left : (n : ℕ) (e : TermTree) (ys : List TermNode) → StandFrom n (postorder n e ++ ys) → StandFrom n (postorder n e)
  tree_left n e ys h = stand_left n (postorder n e) ys h

  tree_right : (n : ℕ) (e : TermTree) (ys : List TermNode) → StandFrom n (postorder n e ++ ys) → StandFrom (behind n e) ys
  tree_right n e ys h = stand_right n (behind n e) (postorder n e) ys (ap (λ k. n + k) (length-postorder e n)) h

  -- two trees, and nodes behind them
  front : (n : ℕ) (e f : TermTree) (ys : List TermNode) → StandFrom n (postorder n e ++ postorder (behind n e) f ++ ys) → StandFrom n (postorder n e ++ (postorder (behind n e) f ++ ys))
  front n e f ys h = subst (StandFrom n) (append_assoc (postorder n e) (postorder (behind n e) f) ys) h

  mutual
    unfolding postorder before field_roots

    pub numbered : (t : TermTree) (n : ℕ) → StandFrom n (postorder n t) → IsNumbered nodes n t
    numbered (bound at x) n h = stands n (n + 0) _ (omega arith) h
    numbered (inner at k) n h = stands n (n + 0) _ (omega arith) h
    numbered (global at g) n h = stands n (n + 0) _ (omega arith) h
    numbered (number at value) n h = stands n (n + 0) _ (omega arith) h
    numbered (truth at value) n h = stands n (n + 0) _ (omega arith) h
    numbered (fun at x e) n h = (stands (behind n e) (behind n e) _ refl (tree_right n e _ h), numbered e n (tree_left n e _ h))
    numbered (fix at x e) n h = (stands (behind n e) (behind n e) _ refl (tree_right n e _ h), numbered e n (tree_left n e _ h))
    numbered (project at e label) n h = (stands (behind n e) (behind n e) _ refl (tree_right n e _ h), numbered e n (tree_left n e _ h))
    numbered (apply at e f) n h = (
      stands (behind (behind n e) f) (n + (suc (before e) + suc (before f))) _ (omega arith) (tree_right (behind n e) f _ (tree_right n e _ (front n e f _ h))),
      numbered e n (tree_left n e _ (front n e f _ h)),
      numbered f (behind n e) (tree_left (behind n e) f _ (tree_right n e _ (front n e f _ h))),
    )
    numbered (local at k e f) n h = (
      stands (behind (behind n e) f) (n + (suc (before e) + suc (before f))) _ (omega arith) (tree_right (behind n e) f _ (tree_right n e _ (front n e f _ h))),
      numbered e n (tree_left n e _ (front n e f _ h)),
      numbered f (behind n e) (tree_left (behind n e) f _ (tree_right n e _ (front n e f _ h))),
    )
    numbered (choice at c e f) n h =
        let m : ℕ = behind n c in
        let l : ℕ = behind m e in
        let two : StandFrom n (postorder n c ++ postorder m e ++ (postorder l f ++ _)) = subst (StandFrom n) (append_assoc (postorder n c ++ postorder m e) (postorder l f) _) h in
        let rest : StandFrom m (postorder m e ++ (postorder l f ++ _)) = tree_right n c _ (front n c e _ two) in (
          stands (behind l f) (n + (suc (before c) + suc (before e) + suc (before f))) _ (omega arith) (tree_right l f _ (tree_right m e _ rest)),
          numbered c n (tree_left n c _ (front n c e _ two)),
          numbered e m (tree_left m e _ rest),
          numbered f l (tree_left l f _ (tree_right m e _ rest)),
        )
    numbered (make at fields) n h = (
      stands (n + field_nodes fields) (n + field_nodes fields) _ refl (stand_right n (n + field_nodes fields) (field_postorder n fields) _ (ap (λ k. n + k) (length-field_postorder fields n)) h),
      all_numbered fields n (stand_left n (field_postorder n fields) _ h),
    )

    pub all_numbered : (fields : TermFields) (n : ℕ) → StandFrom n (field_postorder n fields) → AreNumbered nodes n fields
    all_numbered no_field n h = tt
    all_numbered (a_field label e rest) n h = (numbered e n (tree_left n e _ h), all_numbered rest (behind n e) (tree_right n e _ h))

-- the nodes of a whole term
pub numbered_whole : (nodes : List TermNode) (t : TermTree) → nodes ≡ postorder 0 t → IsNumbered nodes 0 t
numbered_whole nodes t is =
    numbered nodes t 0 (λ i x e.
    let at : i ≡ 0 + i = omega arith in
    subst (λ k. slice_get nodes k ≡ Some x) at (ap (λ ns. slice_get ns i) is ∙ e))
