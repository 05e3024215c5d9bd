-- The tree that nodes in postorder have, so that a term is that of one tree.
use Rattle.std.proofs.Common.{◌≡◌, ℕ, suc, ◌+◌, List, [], ◌∷◌, ◌++◌, refl, sym, ap, ◌∙◌}
use Rattle.mls_term.specs.declared.term.Part.{Part}
use Rattle.mls_term.specs.declared.term.TermForm.{TermForm}
use Rattle.mls_term.specs.declared.term.TermForm.TheVariants as form
use Rattle.mls_term.specs.declared.term.TermNode.{TermNode}
use Rattle.mls_term.specs.Terms.{TermTree, TermFields, bound, inner, global, number, truth, fun, apply, make, project, choice, local, fix, no_field, a_field, before, field_roots, postorder, field_postorder}
use Rattle.mls_term.specs.TypingLaws.{OneTermTree}

-- the last of some trees is the body of a field
abbrev with_field : List ℕ → TermFields × List TermTree → TermFields × List TermTree
with_field label (fields, []) = (fields, [])
with_field label (fields, t ∷ ts) = (a_field label t fields, ts)

-- fields with these labels are made of the last trees
abbrev fields_of : List Part → List TermTree → TermFields × List TermTree
fields_of [] ts = (no_field, ts)
fields_of (part ∷ parts) ts = with_field part.label (fields_of parts ts)

abbrev made : ℕ → TermFields × List TermTree → List TermTree
made at (fields, ts) = make at fields ∷ ts

-- a node takes its parts from the trees before it, the last one first, and is itself the last one then
abbrev with_node : ℕ → TermForm → List TermTree → List TermTree
with_node at (form.Bound x) ts = bound at x ∷ ts
with_node at (form.Inner k) ts = inner at k ∷ ts
with_node at (form.Global g) ts = global at g ∷ ts
with_node at (form.Number value) ts = number at value ∷ ts
with_node at (form.Truth value) ts = truth at value ∷ ts
with_node at (form.Fun x e) (t ∷ ts) = fun at x t ∷ ts
with_node at (form.Rec x e) (t ∷ ts) = fix at x t ∷ ts
with_node at (form.Let k e f) (u ∷ t ∷ ts) = local at k t u ∷ ts
with_node at (form.If c e f) (v ∷ u ∷ t ∷ ts) = choice at t u v ∷ ts
with_node at (form.Apply f a) (u ∷ t ∷ ts) = apply at t u ∷ ts
with_node at (form.Make parts) ts = made at (fields_of parts ts)
with_node at (form.Project e label) (t ∷ ts) = project at t label ∷ ts
with_node at f ts = ts

abbrev trees_of : List TermNode → List TermTree → List TermTree
trees_of [] ts = ts
trees_of (node ∷ nodes) ts = trees_of nodes (with_node node.at node.form ts)

trees_of-append : (xs ys : List TermNode) (ts : List TermTree) → trees_of (xs ++ ys) ts ≡ trees_of ys (trees_of xs ts)
trees_of-append [] ys ts = refl
trees_of-append (x ∷ xs) ys ts = trees_of-append xs ys (with_node x.at x.form ts)

-- the bodies of fields, the last one first
abbrev with_bodies : TermFields → List TermTree → List TermTree
with_bodies no_field ts = ts
with_bodies (a_field label e rest) ts = with_bodies rest (e ∷ ts)

fields_are : (fields : TermFields) (n : ℕ) (ts : List TermTree) → fields_of (field_roots n fields) (with_bodies fields ts) ≡ (fields, ts)
unfolding field_roots
fields_are no_field n ts = refl
fields_are (a_field label e rest) n ts = ap (with_field label) (fields_are rest (n + suc (before e)) (e ∷ ts))

mutual
  unfolding postorder

  trees_are : (t : TermTree) (n : ℕ) (ts : List TermTree) → trees_of (postorder n t) ts ≡ t ∷ ts
  trees_are (bound at x) n ts = refl
  trees_are (inner at k) n ts = refl
  trees_are (global at g) n ts = refl
  trees_are (number at value) n ts = refl
  trees_are (truth at value) n ts = refl
  trees_are (fun at x e) n ts =
      let node : TermNode = record { at = at; form = form.Fun x (n + before e) } in
      trees_of-append (postorder n e) (node ∷ []) ts ∙ ap (trees_of (node ∷ [])) (trees_are e n ts)
  trees_are (fix at x e) n ts =
      let node : TermNode = record { at = at; form = form.Rec x (n + before e) } in
      trees_of-append (postorder n e) (node ∷ []) ts ∙ ap (trees_of (node ∷ [])) (trees_are e n ts)
  trees_are (project at e label) n ts =
      let node : TermNode = record { at = at; form = form.Project (n + before e) label } in
      trees_of-append (postorder n e) (node ∷ []) ts ∙ ap (trees_of (node ∷ [])) (trees_are e n ts)
  trees_are (local at k e f) n ts =
      let m = n + suc (before e) in
      let node : TermNode = record { at = at; form = form.Let k (n + before e) (m + before f) } in
      trees_of-append (postorder n e ++ postorder m f) (node ∷ []) ts
      ∙ ap (trees_of (node ∷ [])) (trees_of-append (postorder n e) (postorder m f) ts ∙ ap (trees_of (postorder m f)) (trees_are e n ts) ∙ trees_are f m (e ∷ ts))
  trees_are (apply at e f) n ts =
      let m = n + suc (before e) in
      let node : TermNode = record { at = at; form = form.Apply (n + before e) (m + before f) } in
      trees_of-append (postorder n e ++ postorder m f) (node ∷ []) ts
      ∙ ap (trees_of (node ∷ [])) (trees_of-append (postorder n e) (postorder m f) ts ∙ ap (trees_of (postorder m f)) (trees_are e n ts) ∙ trees_are f m (e ∷ ts))
  trees_are (choice at c e f) n ts =
      let m = n + suc (before c) in
      let l = m + suc (before e) in
      let node : TermNode = record { at = at; form = form.If (n + before c) (m + before e) (l + before f) } in
      trees_of-append (postorder n c ++ postorder m e ++ postorder l f) (node ∷ []) ts
      ∙ ap (trees_of (node ∷ []))
      (trees_of-append (postorder n c ++ postorder m e) (postorder l f) ts
      ∙ ap (trees_of (postorder l f)) (trees_of-append (postorder n c) (postorder m e) ts ∙ ap (trees_of (postorder m e)) (trees_are c n ts) ∙ trees_are e m (c ∷ ts))
      ∙ trees_are f l (e ∷ c ∷ ts))
  trees_are (make at fields) n ts =
      let node : TermNode = record { at = at; form = form.Make (field_roots n fields) } in
      trees_of-append (field_postorder n fields) (node ∷ []) ts
      ∙ ap (trees_of (node ∷ [])) (bodies_are fields n ts)
      ∙ ap (made at) (fields_are fields n ts)

  bodies_are : (fields : TermFields) (n : ℕ) (ts : List TermTree) → trees_of (field_postorder n fields) ts ≡ with_bodies fields ts
  bodies_are no_field n ts = refl
  bodies_are (a_field label e rest) n ts =
      let m = n + suc (before e) in
      trees_of-append (postorder n e) (field_postorder m rest) ts ∙ ap (trees_of (field_postorder m rest)) (trees_are e n ts) ∙ bodies_are rest m (e ∷ ts)

-- the tree that they have
abbrev one_of : List TermTree → TermTree
one_of [] = number 0 0
one_of (t ∷ ts) = t

pub one_term_tree : OneTermTree
one_term_tree t u same = ap one_of (sym (trees_are t 0 []) ∙ ap (λ nodes. trees_of nodes []) same ∙ trees_are u 0 [])
