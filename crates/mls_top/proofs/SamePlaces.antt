-- A term has the places of the expression that it stands for: the node of a binding's term stands where the node of the
-- same number of the module's binding stands.
use Rattle.std.proofs.Common.{◌≡◌, ℕ, zero, suc, ◌+◌, ◌<◌, List, [], ◌∷◌, ◌++◌, length, map, refl, sym, ap, ◌∙◌, subst, arith, length-append}
use Rattle.std.proofs.lemmas.List.{map-append}
use Rattle.std.proofs.lemmas.Option.{slice_get-map}
use Rattle.std.specs.Prelude.{slice_get, option_map, Option, Some, None}
use Rattle.mls_book.specs.Schemes.{Scheme}
use Rattle.mls_term.specs.declared.term.ResolvedBinding.{ResolvedBinding}
use Rattle.mls_term.specs.declared.term.TermNode.{TermNode}
use Rattle.mls_term.specs.Terms.{TermTree, TermFields, before}
use Rattle.mls_term.specs.Terms as term
use Rattle.mls_term.specs.WellFormed.{IsFirstNone}
use Rattle.mls_typing.proofs.PartNodes.{length-postorder, part_nodes}
use Rattle.mls_grammar.specs.declared.module.Binding.{Binding}
use Rattle.mls_grammar.specs.declared.module.ExprNode.{ExprNode}
use Rattle.mls_grammar.specs.declared.module.Module.{Module}
use Rattle.mls_grammar.specs.Trees.{Tree, a_name, an_operator, a_number, a_truth, a_fun, a_fix, a_let, an_if, an_apply, a_make, a_project, Fields, no_field, a_field, BindingTree}
use Rattle.mls_grammar.specs.Trees as tree
use Rattle.mls_grammar.specs.Modules.{binding_of}
use Rattle.mls_names.specs.Resolution.{Scope, Meant, binder, let_number, scheme, use_of, Means, MeanFields, AreTermsOf, scope_after}
use Rattle.mls_iface.specs.declared.interface.Interface.{Interface}
use Rattle.mls_modules.specs.Environments.{declared_names, known_after}
use Rattle.mls_modules.specs.ModuleFaults.{IsWithoutScheme}

abbrev term_places : List TermNode → List ℕ
term_places nodes = map (λ (n : TermNode). n.at) nodes

abbrev places : List ExprNode → List ℕ
places nodes = map (λ (n : ExprNode). n.at) nodes

both : (xs ys : List TermNode) (us vs : List ExprNode) → term_places xs ≡ places us → term_places ys ≡ places vs → term_places (xs ++ ys) ≡ places (us ++ vs)
both xs ys us vs h h' = map-append (λ (n : TermNode). n.at) xs ys ∙ ((λ i. h i ++ h' i) ∙ sym (map-append (λ (n : ExprNode). n.at) us vs))

-- a node behind others
behind : (xs : List TermNode) (us : List ExprNode) (x : TermNode) (u : ExprNode) → term_places xs ≡ places us → x.at ≡ u.at → term_places (xs ++ x ∷ []) ≡ places (us ++ u ∷ [])
behind xs us x u h is = both xs (x ∷ []) us (u ∷ []) h (ap (λ at. at ∷ []) is)

use_places : (k at : ℕ) (m : Meant) → term_places (term.postorder k (use_of at m)) ≡ at ∷ []
unfolding term.postorder
use_places k at (binder x) = refl
use_places k at (let_number l) = refl
use_places k at (scheme g) = refl

mutual
  unfolding term.postorder tree.postorder

  same_places : (n k : ℕ) (scope : Scope) (b l : ℕ) (t : Tree) (u : TermTree) → Means scope b l t u → term_places (term.postorder k u) ≡ places (tree.postorder n t)
  same_places n k scope b l (a_name at x) u means = ap (λ u. term_places (term.postorder k u)) means.2 ∙ use_places k at means.0
  same_places n k scope b l (an_operator at o) u means = ap (λ u. term_places (term.postorder k u)) means
  same_places n k scope b l (a_number at value) u means = ap (λ u. term_places (term.postorder k u)) means
  same_places n k scope b l (a_truth at value) u means = ap (λ u. term_places (term.postorder k u)) means
  same_places n k scope b l (a_fun at x e) u means =
      ap (λ u. term_places (term.postorder k u)) means.2
      ∙ behind (term.postorder k means.0) (tree.postorder n e) _ _ (same_places n k _ _ _ e means.0 means.1) refl
  same_places n k scope b l (a_fix at x e) u means =
      ap (λ u. term_places (term.postorder k u)) means.2
      ∙ behind (term.postorder k means.0) (tree.postorder n e) _ _ (same_places n k _ _ _ e means.0 means.1) refl
  same_places n k scope b l (a_let at x e f) u means =
      ap (λ u. term_places (term.postorder k u)) means.4
      ∙ behind (term.postorder k means.0 ++ term.postorder (k + suc (before means.0)) means.1) (tree.postorder n e ++ tree.postorder (n + suc (tree.before e)) f) _ _
      (both (term.postorder k means.0) (term.postorder (k + suc (before means.0)) means.1) (tree.postorder n e) (tree.postorder (n + suc (tree.before e)) f)
      (same_places n k _ _ _ e means.0 means.2) (same_places (n + suc (tree.before e)) (k + suc (before means.0)) _ _ _ f means.1 means.3))
      refl
  same_places n k scope b l (an_if at c e f) u means =
      let k' = k + suc (before means.0) in
      let k'' = k' + suc (before means.1) in
      let n' = n + suc (tree.before c) in
      let n'' = n' + suc (tree.before e) in
      ap (λ u. term_places (term.postorder k u)) means.6
      ∙ behind ((term.postorder k means.0 ++ term.postorder k' means.1) ++ term.postorder k'' means.2) ((tree.postorder n c ++ tree.postorder n' e) ++ tree.postorder n'' f) _ _
      (both (term.postorder k means.0 ++ term.postorder k' means.1) (term.postorder k'' means.2) (tree.postorder n c ++ tree.postorder n' e) (tree.postorder n'' f)
      (both (term.postorder k means.0) (term.postorder k' means.1) (tree.postorder n c) (tree.postorder n' e)
      (same_places n k _ _ _ c means.0 means.3) (same_places n' k' _ _ _ e means.1 means.4))
      (same_places n'' k'' _ _ _ f means.2 means.5))
      refl
  same_places n k scope b l (an_apply at f a) u means =
      ap (λ u. term_places (term.postorder k u)) means.4
      ∙ behind (term.postorder k means.0 ++ term.postorder (k + suc (before means.0)) means.1) (tree.postorder n f ++ tree.postorder (n + suc (tree.before f)) a) _ _
      (both (term.postorder k means.0) (term.postorder (k + suc (before means.0)) means.1) (tree.postorder n f) (tree.postorder (n + suc (tree.before f)) a)
      (same_places n k _ _ _ f means.0 means.2) (same_places (n + suc (tree.before f)) (k + suc (before means.0)) _ _ _ a means.1 means.3))
      refl
  same_places n k scope b l (a_make at fields) u means =
      ap (λ u. term_places (term.postorder k u)) means.2
      ∙ behind (term.field_postorder k means.0) (tree.field_postorder n fields) _ _ (same_field_places n k _ _ _ fields means.0 means.1) refl
  same_places n k scope b l (a_project at e label) u means =
      ap (λ u. term_places (term.postorder k u)) means.2
      ∙ behind (term.postorder k means.0) (tree.postorder n e) _ _ (same_places n k _ _ _ e means.0 means.1) refl

  same_field_places : (n k : ℕ) (scope : Scope) (b l : ℕ) (fields : Fields) (us : TermFields) → MeanFields scope b l fields us
      → term_places (term.field_postorder k us) ≡ places (tree.field_postorder n fields)
  same_field_places n k scope b l no_field us means = ap (λ us. term_places (term.field_postorder k us)) means
  same_field_places n k scope b l (a_field label e rest) us means =
      ap (λ us. term_places (term.field_postorder k us)) means.4
      ∙ both (term.postorder k means.0) (term.field_postorder (k + suc (before means.0)) means.1) (tree.postorder n e) (tree.field_postorder (n + suc (tree.before e)) rest)
      (same_places n k _ _ _ e means.0 means.2) (same_field_places (n + suc (tree.before e)) (k + suc (before means.0)) _ _ _ rest means.1 means.3)

-- the tree of a binding has its name, and its nodes the places of those of its term
record IsTreeOf (b : BindingTree) (r : ResolvedBinding) : Type 0 where
  name : r.name ≡ b.x
  nodes : term_places r.term.nodes ≡ places (tree.postorder 0 b.body)

some_is : {X : Type 0} {x y : X} → Some x ≡ Some y → x ≡ y
some_is e = cc

tree_of : (declared : List (List (List ℕ))) (earlier : List (List ℕ)) (bs : List BindingTree) (rs : List ResolvedBinding) → AreTermsOf declared earlier bs rs
    → (k : ℕ) (r : ResolvedBinding) → slice_get rs k ≡ Some r → (b : BindingTree) × (slice_get bs k ≡ Some b) × IsTreeOf b r
tree_of declared earlier [] rs are k r e = let none : slice_get rs k ≡ None = ap (λ (rs : List ResolvedBinding). slice_get rs k) are in absurd (cc)
tree_of declared earlier (b ∷ bs) rs are zero r e =
    let same : are.0 ≡ r = some_is (sym (ap (λ (rs : List ResolvedBinding). slice_get rs 0) are.2) ∙ e) in
    let it : IsTreeOf b are.0 = record { name = are.3.name; nodes = ap term_places are.3.nodes ∙ same_places 0 0 (scope_after declared earlier) 0 0 b.body are.3.term_tree are.3.means } in
    (b, refl, subst (IsTreeOf b) same it)
tree_of declared earlier (b ∷ bs) rs are (suc k) r e =
    tree_of declared (earlier ++ b.x ∷ []) bs are.1 are.4 k r (sym (ap (λ (rs : List ResolvedBinding). slice_get rs (suc k)) are.2) ∙ e)

-- there is an element of each number below their count
one_at : {X : Type 0} (xs : List X) (k : ℕ) → k < length xs → (x : X) × (slice_get xs k ≡ Some x)
one_at [] k low = absurd (omega arith)
one_at (x ∷ xs) zero low = (x, refl)
one_at (x ∷ xs) (suc k) low = one_at xs k (omega arith)

-- what stands in a list whose image has this there
inverse_of : {X Y : Type 0} (f : X → Y) (o : Option X) (y : Y) → option_map f o ≡ Some y → (x : X) × (o ≡ Some x) × (f x ≡ y)
inverse_of f None y e = absurd (cc)
inverse_of f (Some x) y e = (x, refl, some_is e)

-- the first node without a scheme is a node
first_below : (globals : List Scheme) (t : TermTree) (i : ℕ) → IsFirstNone globals t i → i < length (term.postorder 0 t)
first_below globals t i it =
    let at = part_nodes globals t it.n it.t it.known it.part in
    let all : length (term.postorder 0 t) ≡ length (at.front ++ (term.postorder it.n it.t ++ at.back)) = ap length at.nodes_are in
    let one = length-append at.front (term.postorder it.n it.t ++ at.back) in
    let two = length-append (term.postorder it.n it.t) at.back in
    let own : length (term.postorder it.n it.t) ≡ suc (before it.t) = length-postorder it.t it.n in
    let number : i ≡ it.n + before it.t = it.number_is in
    let front : 0 + length at.front ≡ it.n = at.number_is in
    omega arith

-- the binding and the node of a module of which a fault speaks
pub record Stands (m : Module) (imports : List Interface) (k node : ℕ) (w : IsWithoutScheme m imports k node) : Type 0 where
  pub b : Binding
  pub n : ExprNode
  pub found : TermNode
  pub binding : slice_get m.bindings k ≡ Some b
  pub stands : slice_get b.expr.nodes node ≡ Some n
  pub found_stands : slice_get w.none.b.term.nodes node ≡ Some found
  pub name : b.name ≡ w.none.b.name
  pub at : n.at ≡ found.at

pub site_stands : (m : Module) (imports : List Interface) (k node : ℕ) (w : IsWithoutScheme m imports k node) → Stands m imports k node w
site_stands m imports k node w =
    let r : ResolvedBinding = w.none.b in
    let t = tree_of (declared_names imports) [] w.resolves.tree.bound w.resolved.bindings w.resolves.terms k r w.none.binding in
    let low : node < length (term.postorder 0 w.none.first.term_tree) = first_below (known_after imports w.none.entries).globals w.none.first.term_tree node w.none.first.first in
    let size : length r.term.nodes ≡ length (term.postorder 0 w.none.first.term_tree) = ap length w.none.first.nodes in
    let below : node < length r.term.nodes = omega arith in
    let found = one_at r.term.nodes node below in
    let there : option_map (λ (n : ExprNode). n.at) (slice_get (tree.postorder 0 t.0.body) node) ≡ Some found.0.at =
    sym (slice_get-map (λ (n : ExprNode). n.at) (tree.postorder 0 t.0.body) node)
    ∙ (ap (λ l. slice_get l node) (sym t.2.nodes)
    ∙ (slice_get-map (λ (n : TermNode). n.at) r.term.nodes node ∙ ap (λ o. option_map (λ (n : TermNode). n.at) o) found.1)) in
    let own = inverse_of (λ (n : ExprNode). n.at) (slice_get (tree.postorder 0 t.0.body) node) found.0.at there in
    record {
      b = binding_of t.0;
      n = own.0;
      found = found.0;
      binding =
          ap (λ (m : Module). slice_get m.bindings k) w.resolves.nodes
          ∙ (slice_get-map binding_of w.resolves.tree.bound k ∙ ap (λ o. option_map binding_of o) t.1);
      stands = own.1;
      found_stands = found.1;
      name = sym t.2.name;
      at = own.2;
    }
