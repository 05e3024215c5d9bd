-- The tree that nodes in postorder have, so that a module is that of one tree.
use Rattle.std.proofs.Common.{◌≡◌, ℕ, suc, ◌+◌, List, [], ◌∷◌, ◌++◌, map, refl, sym, ap, ◌∙◌}
use Rattle.mls_grammar.specs.declared.module.Binding.{Binding}
use Rattle.mls_grammar.specs.declared.module.ExprNode.{ExprNode}
use Rattle.mls_grammar.specs.declared.module.Form.{Form}
use Rattle.mls_grammar.specs.declared.module.Form.TheVariants as form
use Rattle.mls_grammar.specs.declared.module.Import.{Import}
use Rattle.mls_grammar.specs.declared.module.Module.{Module}
use Rattle.mls_term.specs.declared.term.Part.{Part}
use Rattle.mls_grammar.specs.Trees.{Tree, a_name, an_operator, a_number, a_truth, a_fun, a_fix, a_let, an_if, an_apply, a_make, a_project, Fields, no_field, a_field, ImportTree, BindingTree, SourceTree, before, field_roots, postorder, field_postorder}
use Rattle.mls_grammar.specs.Modules.{import_of, binding_of, module_of}

-- the last of some trees is the body of a field
abbrev with_field : List ℕ → Fields × List Tree → Fields × List Tree
with_field label (fields, []) = (fields, [])
with_field label (fields, t ∷ ts) = (a_field label t fields, ts)

-- fields with these labels are made of the last trees
abbrev fields_of : List Part → List Tree → Fields × List Tree
fields_of [] ts = (no_field, ts)
fields_of (part ∷ parts) ts = with_field part.label (fields_of parts ts)

abbrev made : ℕ → Fields × List Tree → List Tree
made at (fields, ts) = a_make at fields ∷ ts

-- a node takes its parts from the trees before it, the last one first, and is itself the last one then
abbrev with_node : ℕ → Form → List Tree → List Tree
with_node at (form.Var x) ts = a_name at x ∷ ts
with_node at (form.Operator o) ts = an_operator at o ∷ ts
with_node at (form.Number value) ts = a_number at value ∷ ts
with_node at (form.Truth value) ts = a_truth at value ∷ ts
with_node at (form.Fun x e) (t ∷ ts) = a_fun at x t ∷ ts
with_node at (form.Rec x e) (t ∷ ts) = a_fix at x t ∷ ts
with_node at (form.Let x e f) (u ∷ t ∷ ts) = a_let at x t u ∷ ts
with_node at (form.If c e f) (v ∷ u ∷ t ∷ ts) = an_if at t u v ∷ ts
with_node at (form.Apply f a) (u ∷ t ∷ ts) = an_apply at t u ∷ ts
with_node at (form.Make parts) ts = made at (fields_of parts ts)
with_node at (form.Project e label) (t ∷ ts) = a_project at t label ∷ ts
with_node at f ts = ts

abbrev trees_of : List ExprNode → List Tree → List Tree
trees_of [] ts = ts
trees_of (node ∷ nodes) ts = trees_of nodes (with_node node.at node.form ts)

trees_of-append : (xs ys : List ExprNode) (ts : List Tree) → trees_of (xs ++ ys) ts ≡ trees_of ys (trees_of xs ts)
trees_of-append [] ys ts = refl
trees_of-append (x ∷ xs) ys ts = trees_of-append xs ys (with_node x.at x.form ts)

-- the bodies of fields, the last one first
abbrev with_bodies : Fields → List Tree → List Tree
with_bodies no_field ts = ts
with_bodies (a_field label e rest) ts = with_bodies rest (e ∷ ts)

fields_are : (fields : Fields) (n : ℕ) (ts : List Tree) → fields_of (field_roots n fields) (with_bodies fields ts) ≡ (fields, ts)
unfolding field_roots
fields_are no_field n ts = refl
fields_are (a_field label e rest) n ts = ap (with_field label) (fields_are rest (n + suc (before e)) (e ∷ ts))

mutual
  unfolding postorder

  trees_are : (t : Tree) (n : ℕ) (ts : List Tree) → trees_of (postorder n t) ts ≡ t ∷ ts
  trees_are (a_name at x) n ts = refl
  trees_are (an_operator at o) n ts = refl
  trees_are (a_number at value) n ts = refl
  trees_are (a_truth at value) n ts = refl
  trees_are (a_fun at x e) n ts =
      let node : ExprNode = record { at = at; form = form.Fun x (n + before e) } in
      trees_of-append (postorder n e) (node ∷ []) ts ∙ ap (trees_of (node ∷ [])) (trees_are e n ts)
  trees_are (a_fix at x e) n ts =
      let node : ExprNode = record { at = at; form = form.Rec x (n + before e) } in
      trees_of-append (postorder n e) (node ∷ []) ts ∙ ap (trees_of (node ∷ [])) (trees_are e n ts)
  trees_are (a_project at e label) n ts =
      let node : ExprNode = record { at = at; form = form.Project (n + before e) label } in
      trees_of-append (postorder n e) (node ∷ []) ts ∙ ap (trees_of (node ∷ [])) (trees_are e n ts)
  trees_are (a_let at x e f) n ts =
      let m = n + suc (before e) in
      let node : ExprNode = record { at = at; form = form.Let x (n + before e) (m + before f) } in
      trees_of-append (postorder n e ++ postorder m f) (node ∷ []) ts
      ∙ ap (trees_of (node ∷ [])) (trees_of-append (postorder n e) (postorder m f) ts ∙ ap (trees_of (postorder m f)) (trees_are e n ts) ∙ trees_are f m (e ∷ ts))
  trees_are (an_apply at e f) n ts =
      let m = n + suc (before e) in
      let node : ExprNode = record { at = at; form = form.Apply (n + before e) (m + before f) } in
      trees_of-append (postorder n e ++ postorder m f) (node ∷ []) ts
      ∙ ap (trees_of (node ∷ [])) (trees_of-append (postorder n e) (postorder m f) ts ∙ ap (trees_of (postorder m f)) (trees_are e n ts) ∙ trees_are f m (e ∷ ts))
  trees_are (an_if at c e f) n ts =
      let m = n + suc (before c) in
      let l = m + suc (before e) in
      let node : ExprNode = record { at = at; form = form.If (n + before c) (m + before e) (l + before f) } in
      trees_of-append (postorder n c ++ postorder m e ++ postorder l f) (node ∷ []) ts
      ∙ ap (trees_of (node ∷ []))
      (trees_of-append (postorder n c ++ postorder m e) (postorder l f) ts
      ∙ ap (trees_of (postorder l f)) (trees_of-append (postorder n c) (postorder m e) ts ∙ ap (trees_of (postorder m e)) (trees_are c n ts) ∙ trees_are e m (c ∷ ts))
      ∙ trees_are f l (e ∷ c ∷ ts))
  trees_are (a_make at fields) n ts =
      let node : ExprNode = record { at = at; form = form.Make (field_roots n fields) } in
      trees_of-append (field_postorder n fields) (node ∷ []) ts
      ∙ ap (trees_of (node ∷ [])) (bodies_are fields n ts)
      ∙ ap (made at) (fields_are fields n ts)

  bodies_are : (fields : Fields) (n : ℕ) (ts : List Tree) → trees_of (field_postorder n fields) ts ≡ with_bodies fields ts
  bodies_are no_field n ts = refl
  bodies_are (a_field label e rest) n ts =
      let m = n + suc (before e) in
      trees_of-append (postorder n e) (field_postorder m rest) ts ∙ ap (trees_of (field_postorder m rest)) (trees_are e n ts) ∙ bodies_are rest m (e ∷ ts)

-- the tree of a module
abbrev one_of : List Tree → Tree
one_of [] = a_number 0 0
one_of (t ∷ ts) = t

abbrev tree_of : Binding → BindingTree
tree_of b = record { x = b.name; at = b.at; body = one_of (trees_of b.expr.nodes []) }

abbrev import_back : Import → ImportTree
import_back i = record { x = i.name; at = i.at }

abbrev source_of : Module → SourceTree
source_of m = record { imported = map import_back m.imports; bound = map tree_of m.bindings }

imports_back : (is : List ImportTree) → map import_back (map import_of is) ≡ is
imports_back [] = refl
imports_back (i ∷ is) = ap (λ (js : List ImportTree). i ∷ js) (imports_back is)

bindings_back : (bs : List BindingTree) → map tree_of (map binding_of bs) ≡ bs
bindings_back [] = refl
bindings_back (b ∷ bs) = λ i. record { x = b.x; at = b.at; body = one_of (trees_are b.body 0 [] i) } ∷ bindings_back bs i

source_is : (m : Module) (tree : SourceTree) → m ≡ module_of tree → source_of m ≡ tree
source_is m tree is = ap source_of is ∙ (λ i. record { imported = imports_back tree.imported i; bound = bindings_back tree.bound i })

-- a module is that of one tree
pub one_source : (m : Module) (t u : SourceTree) → m ≡ module_of t → m ≡ module_of u → t ≡ u
one_source m t u is also = sym (source_is m t is) ∙ source_is m u also
