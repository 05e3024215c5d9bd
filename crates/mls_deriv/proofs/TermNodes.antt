-- The nodes of a term and its tree: which tree a node is the root of.
--     IsTreeAt            the nodes from this one down are this tree
--     made_of             so the tree is as the form of the node says
--     root_tree           the last node of a term is the root of its tree
use Rattle.std.proofs.Common.{◌≡◌, ℕ, suc, ◌+◌, List, [], ◌∷◌, ◌++◌, length, refl, sym, ap, ◌∙◌, subst, arith, slice_get, length-append, Option, Some, None}
use Rattle.std.specs.Prelude.{option_map}
use Rattle.std.proofs.lemmas.Option.{slice_get_within}
use Rattle.std.proofs.iter.runs.Lists.{nth_left, nth_right}
use Rattle.mls_term.specs.declared.term.Part.{Part}
use Rattle.mls_term.specs.declared.term.TermNode.{TermNode}
use Rattle.mls_term.specs.declared.term.TermForm.{TermForm}
use Rattle.mls_term.specs.declared.term.TermForm.TheVariants as form
use Rattle.mls_term.specs.Terms.{TermTree, TermFields, bound, inner, global, number, truth, fun, apply, make, project, choice, local, fix, no_field, a_field, before, field_nodes, field_roots, postorder, field_postorder}
use Rattle.mls_deriv.specs.Steps.{form_at}

-- how many nodes there are
mutual
  unfolding postorder before field_roots

  pub length-postorder : (t : TermTree) (n : ℕ) → length (postorder n t) ≡ suc (before t)
  length-postorder (bound at x) n = refl
  length-postorder (inner at k) n = refl
  length-postorder (global at g) n = refl
  length-postorder (number at value) n = refl
  length-postorder (truth at value) n = refl
  length-postorder (fun at x e) n = omega (arith, length-append (postorder n e) (record { at = at; form = form.Fun x (n + before e) } ∷ []), length-postorder e n)
  length-postorder (fix at x e) n = omega (arith, length-append (postorder n e) (record { at = at; form = form.Rec x (n + before e) } ∷ []), length-postorder e n)
  length-postorder (project at e label) n = omega (arith, length-append (postorder n e) (record { at = at; form = form.Project (n + before e) label } ∷ []), length-postorder e n)
  length-postorder (apply at e f) n =
      let m = n + suc (before e) in
      omega (arith, length-append (postorder n e ++ postorder m f) (record { at = at; form = form.Apply (n + before e) (m + before f) } ∷ []), length-append (postorder n e) (postorder m f), length-postorder e n, length-postorder f m)
  length-postorder (local at k e f) n =
      let m = n + suc (before e) in
      omega (arith, length-append (postorder n e ++ postorder m f) (record { at = at; form = form.Let k (n + before e) (m + before f) } ∷ []), length-append (postorder n e) (postorder m f), length-postorder e n, length-postorder f m)
  length-postorder (choice at c e f) n =
      let m = n + suc (before c) in
      let l = m + suc (before e) in
      omega (arith, length-append (postorder n c ++ postorder m e ++ postorder l f) (record { at = at; form = form.If (n + before c) (m + before e) (l + before f) } ∷ []), length-append (postorder n c ++ postorder m e) (postorder l f), length-append (postorder n c) (postorder m e), length-postorder c n, length-postorder e m, length-postorder f l)
  length-postorder (make at fields) n = omega (arith, length-append (field_postorder n fields) (record { at = at; form = form.Make (field_roots n fields) } ∷ []), length-field_postorder fields n)

  pub length-field_postorder : (fields : TermFields) (n : ℕ) → length (field_postorder n fields) ≡ field_nodes fields
  length-field_postorder no_field n = refl
  length-field_postorder (a_field label e rest) n =
      omega (arith, length-append (postorder n e) (field_postorder (n + suc (before e)) rest), length-postorder e n, length-field_postorder rest (n + suc (before e)))

module _ (nodes : List TermNode) where
  -- the node of this number and those that it names are this tree
  abbrev mutual
    pub IsTreeAt : ℕ → TermTree → Type 0
    IsTreeAt i (bound at x) = form_at nodes i ≡ Some (form.Bound x)
    IsTreeAt i (inner at k) = form_at nodes i ≡ Some (form.Inner k)
    IsTreeAt i (global at g) = form_at nodes i ≡ Some (form.Global g)
    IsTreeAt i (number at value) = form_at nodes i ≡ Some (form.Number value)
    IsTreeAt i (truth at value) = form_at nodes i ≡ Some (form.Truth value)
    IsTreeAt i (fun at x e) = (j : ℕ) × (form_at nodes i ≡ Some (form.Fun x j)) × IsTreeAt j e
    IsTreeAt i (apply at e f) = (j k : ℕ) × (form_at nodes i ≡ Some (form.Apply j k)) × IsTreeAt j e × IsTreeAt k f
    IsTreeAt i (make at fields) = (parts : List Part) × (form_at nodes i ≡ Some (form.Make parts)) × AreTreesAt parts fields
    IsTreeAt i (project at e label) = (j : ℕ) × (form_at nodes i ≡ Some (form.Project j label)) × IsTreeAt j e
    IsTreeAt i (choice at c e f) = (j k l : ℕ) × (form_at nodes i ≡ Some (form.If j k l)) × IsTreeAt j c × IsTreeAt k e × IsTreeAt l f
    IsTreeAt i (local at k e f) = (j l : ℕ) × (form_at nodes i ≡ Some (form.Let k j l)) × IsTreeAt j e × IsTreeAt l f
    IsTreeAt i (fix at x e) = (j : ℕ) × (form_at nodes i ≡ Some (form.Rec x j)) × IsTreeAt j e

    pub AreTreesAt : List Part → TermFields → Type 0
    AreTreesAt parts no_field = parts ≡ []
    AreTreesAt parts (a_field label e rest) = (j : ℕ) × (others : List Part) × (parts ≡ record { label = label; child = j } ∷ others) × IsTreeAt j e × AreTreesAt others rest

  -- a tree whose root has this form
  abbrev pub IsMadeOf : Option TermForm → TermTree → Type 0
  IsMadeOf None t = ⊥
  IsMadeOf (Some (form.Bound x)) t = (at : ℕ) × (t ≡ bound at x)
  IsMadeOf (Some (form.Inner k)) t = (at : ℕ) × (t ≡ inner at k)
  IsMadeOf (Some (form.Global g)) t = (at : ℕ) × (t ≡ global at g)
  IsMadeOf (Some (form.Number value)) t = (at : ℕ) × (t ≡ number at value)
  IsMadeOf (Some (form.Truth value)) t = (at : ℕ) × (t ≡ truth at value)
  IsMadeOf (Some (form.Fun x j)) t = (at : ℕ) × (e : TermTree) × (t ≡ fun at x e) × IsTreeAt j e
  IsMadeOf (Some (form.Apply j k)) t = (at : ℕ) × (e f : TermTree) × (t ≡ apply at e f) × IsTreeAt j e × IsTreeAt k f
  IsMadeOf (Some (form.Make parts)) t = (at : ℕ) × (fields : TermFields) × (t ≡ make at fields) × AreTreesAt parts fields
  IsMadeOf (Some (form.Project j label)) t = (at : ℕ) × (e : TermTree) × (t ≡ project at e label) × IsTreeAt j e
  IsMadeOf (Some (form.If j k l)) t = (at : ℕ) × (c e f : TermTree) × (t ≡ choice at c e f) × IsTreeAt j c × IsTreeAt k e × IsTreeAt l f
  IsMadeOf (Some (form.Let k j l)) t = (at : ℕ) × (e f : TermTree) × (t ≡ local at k e f) × IsTreeAt j e × IsTreeAt l f
  IsMadeOf (Some (form.Rec x j)) t = (at : ℕ) × (e : TermTree) × (t ≡ fix at x e) × IsTreeAt j e

  made_at : (t : TermTree) (o p : Option TermForm) → o ≡ p → IsMadeOf p t → IsMadeOf o t
  made_at t o p e h = subst (λ o. IsMadeOf o t) (sym e) h

  made : (i : ℕ) (t : TermTree) → IsTreeAt i t → IsMadeOf (form_at nodes i) t
  made i (bound at x) h = made_at (bound at x) _ _ h (at, refl)
  made i (inner at k) h = made_at (inner at k) _ _ h (at, refl)
  made i (global at g) h = made_at (global at g) _ _ h (at, refl)
  made i (number at value) h = made_at (number at value) _ _ h (at, refl)
  made i (truth at value) h = made_at (truth at value) _ _ h (at, refl)
  made i (fun at x e) h = made_at (fun at x e) _ _ h.1 (at, e, refl, h.2)
  made i (apply at e f) h = made_at (apply at e f) _ _ h.2 (at, e, f, refl, h.3, h.4)
  made i (make at fields) h = made_at (make at fields) _ _ h.1 (at, fields, refl, h.2)
  made i (project at e label) h = made_at (project at e label) _ _ h.1 (at, e, refl, h.2)
  made i (choice at c e f) h = made_at (choice at c e f) _ _ h.3 (at, c, e, f, refl, h.4, h.5, h.6)
  made i (local at k e f) h = made_at (local at k e f) _ _ h.2 (at, e, f, refl, h.3, h.4)
  made i (fix at x e) h = made_at (fix at x e) _ _ h.1 (at, e, refl, h.2)

  -- the tree is as the form of the node says
  pub made_of : (i : ℕ) (t : TermTree) (form : TermForm) → IsTreeAt i t → form_at nodes i ≡ Some form → IsMadeOf (Some form) t
  made_of i t form h e = subst (λ o. IsMadeOf o t) e (made i t h)

  -- these nodes stand from the number n on
  abbrev StandFrom : ℕ → List TermNode → Type 0
  StandFrom n xs = (i : ℕ) (x : TermNode) → slice_get xs i ≡ Some x → slice_get nodes (n + i) ≡ Some x

  stand_left : (n : ℕ) (xs ys : List TermNode) → StandFrom n (xs ++ ys) → StandFrom n xs
  stand_left n xs ys h i x e = h i x (nth_left xs ys i (slice_get_within xs i x e) ∙ e)

  stand_right : (n m : ℕ) (xs ys : List TermNode) → n + length xs ≡ m → StandFrom n (xs ++ ys) → StandFrom m ys
  stand_right n m xs ys is h i x e =
      let at : n + (length xs + i) ≡ m + i = omega arith in
      subst (λ k. slice_get nodes k ≡ Some x) at (h (length xs + i) x (nth_right xs ys i ∙ e))

  stands : (n m : ℕ) (x : TermNode) → n ≡ m → StandFrom n (x ∷ []) → form_at nodes m ≡ Some x.form
  stands n m x is h =
      let at : n + 0 ≡ m = omega arith in
      ap (option_map (λ node. node.form)) (subst (λ k. slice_get nodes k ≡ Some x) at (h 0 x refl))

  -- the nodes of a tree in postorder are the tree
  mutual
    unfolding postorder before field_roots

    pub tree_at : (t : TermTree) (n i : ℕ) → i ≡ n + before t → StandFrom n (postorder n t) → IsTreeAt i t
    tree_at (bound at x) n i is h = stands n i _ (omega arith) h
    tree_at (inner at k) n i is h = stands n i _ (omega arith) h
    tree_at (global at g) n i is h = stands n i _ (omega arith) h
    tree_at (number at value) n i is h = stands n i _ (omega arith) h
    tree_at (truth at value) n i is h = stands n i _ (omega arith) h
    tree_at (fun at x e) n i is h = (
      n + before e,
      stands (n + suc (before e)) i _ (omega arith) (stand_right n (n + suc (before e)) (postorder n e) _ (ap (λ k. n + k) (length-postorder e n)) h),
      tree_at e n (n + before e) refl (stand_left n (postorder n e) _ h),
    )
    tree_at (fix at x e) n i is h = (
      n + before e,
      stands (n + suc (before e)) i _ (omega arith) (stand_right n (n + suc (before e)) (postorder n e) _ (ap (λ k. n + k) (length-postorder e n)) h),
      tree_at e n (n + before e) refl (stand_left n (postorder n e) _ h),
    )
    tree_at (project at e label) n i is h = (
      n + before e,
      stands (n + suc (before e)) i _ (omega arith) (stand_right n (n + suc (before e)) (postorder n e) _ (ap (λ k. n + k) (length-postorder e n)) h),
      tree_at e n (n + before e) refl (stand_left n (postorder n e) _ h),
    )
    tree_at (apply at e f) n i is h =
        let m : ℕ = n + suc (before e) in
        let l : ℕ = m + suc (before f) in
        let both : StandFrom n (postorder n e ++ postorder m f) = stand_left n (postorder n e ++ postorder m f) _ h in
        let all : length (postorder n e ++ postorder m f) ≡ suc (before e) + suc (before f) = length-append (postorder n e) (postorder m f) ∙ (λ k. length-postorder e n k + length-postorder f m k) in (
          n + before e,
          m + before f,
          stands l i _ (omega arith) (stand_right n l (postorder n e ++ postorder m f) _ (omega arith) h),
          tree_at e n (n + before e) refl (stand_left n (postorder n e) _ both),
          tree_at f m (m + before f) refl (stand_right n m (postorder n e) _ (ap (λ k. n + k) (length-postorder e n)) both),
        )
    tree_at (local at k e f) n i is h =
        let m : ℕ = n + suc (before e) in
        let l : ℕ = m + suc (before f) in
        let both : StandFrom n (postorder n e ++ postorder m f) = stand_left n (postorder n e ++ postorder m f) _ h in
        let all : length (postorder n e ++ postorder m f) ≡ suc (before e) + suc (before f) = length-append (postorder n e) (postorder m f) ∙ (λ k. length-postorder e n k + length-postorder f m k) in (
          n + before e,
          m + before f,
          stands l i _ (omega arith) (stand_right n l (postorder n e ++ postorder m f) _ (omega arith) h),
          tree_at e n (n + before e) refl (stand_left n (postorder n e) _ both),
          tree_at f m (m + before f) refl (stand_right n m (postorder n e) _ (ap (λ k. n + k) (length-postorder e n)) both),
        )
    tree_at (choice at c e f) n i is h =
        let m : ℕ = n + suc (before c) in
        let l : ℕ = m + suc (before e) in
        let o : ℕ = l + suc (before f) in
        let three : StandFrom n (postorder n c ++ postorder m e ++ postorder l f) = stand_left n (postorder n c ++ postorder m e ++ postorder l f) _ h in
        let two : StandFrom n (postorder n c ++ postorder m e) = stand_left n (postorder n c ++ postorder m e) _ three in
        let some : length (postorder n c ++ postorder m e) ≡ suc (before c) + suc (before e) = length-append (postorder n c) (postorder m e) ∙ (λ k. length-postorder c n k + length-postorder e m k) in
        let all : length (postorder n c ++ postorder m e ++ postorder l f) ≡ suc (before c) + suc (before e) + suc (before f) = length-append (postorder n c ++ postorder m e) (postorder l f) ∙ (λ k. some k + length-postorder f l k) in (
          n + before c,
          m + before e,
          l + before f,
          stands o i _ (omega arith) (stand_right n o (postorder n c ++ postorder m e ++ postorder l f) _ (omega arith) h),
          tree_at c n (n + before c) refl (stand_left n (postorder n c) _ two),
          tree_at e m (m + before e) refl (stand_right n m (postorder n c) _ (ap (λ k. n + k) (length-postorder c n)) two),
          tree_at f l (l + before f) refl (stand_right n l (postorder n c ++ postorder m e) _ (omega arith) three),
        )
    tree_at (make at fields) n i is h = (
      field_roots n fields,
      stands (n + field_nodes fields) i _ (omega arith) (stand_right n (n + field_nodes fields) (field_postorder n fields) _ (ap (λ k. n + k) (length-field_postorder fields n)) h),
      trees_at fields n (stand_left n (field_postorder n fields) _ h),
    )

    pub trees_at : (fields : TermFields) (n : ℕ) → StandFrom n (field_postorder n fields) → AreTreesAt (field_roots n fields) fields
    trees_at no_field n h = refl
    trees_at (a_field label e rest) n h =
        let m : ℕ = n + suc (before e) in (
          n + before e,
          field_roots m rest,
          refl,
          tree_at e n (n + before e) refl (stand_left n (postorder n e) _ h),
          trees_at rest m (stand_right n m (postorder n e) _ (ap (λ k. n + k) (length-postorder e n)) h),
        )

-- the last node of a term is the root of its tree
pub root_tree : (t : TermTree) (nodes : List TermNode) (i : ℕ) → nodes ≡ postorder 0 t → suc i ≡ length nodes → IsTreeAt nodes i t
root_tree t nodes i is last =
    let all : length nodes ≡ suc (before t) = ap length is ∙ length-postorder t 0 in
    tree_at nodes t 0 i (omega arith)
    (λ j x e.
    let same : slice_get nodes j ≡ slice_get (postorder 0 t) j = ap (λ ns. slice_get ns j) is in
    let at : j ≡ 0 + j = omega arith in
    subst (λ k. slice_get nodes k ≡ Some x) at (same ∙ e))
