-- The binders of a resolved module rise inwards.
--     numbers_higher      the numbers from one on are higher than a lower one
--     means_rising        the binders of what a tree means rise
--     resolved_rise       so do those of each binding
use Rattle.std.proofs.Common.{ℕ, zero, suc, ◌+◌, ◌<◌, List, [], ◌∷◌, ◌++◌, sym, ◌∙◌, subst, arith}
use Rattle.std.specs.Prelude.{All}
use Rattle.std.proofs.lemmas.List.Elements.{All-cons, All-nil}
use Rattle.mls_grammar.specs.declared.module.Module.{Module}
use Rattle.mls_grammar.specs.Trees.{Tree, a_name, an_operator, a_number, a_truth, a_fun, a_fix, a_let, an_if, an_apply, a_make, a_project, Fields, no_field, a_field, BindingTree}
use Rattle.mls_term.specs.declared.term.Resolved.{Resolved}
use Rattle.mls_term.specs.declared.term.ResolvedBinding.{ResolvedBinding}
use Rattle.mls_term.specs.Terms.{TermTree, TermFields}
use Rattle.mls_term.specs.WellFormed.{binders_of, HasRisingBinders, HaveRisingBinders, HasRisingTree}
use Rattle.mls_term.proofs.TreesOfTerms.{one_term_tree}
use Rattle.mls_names.specs.Resolution.{Meant, binder, let_number, scheme, Scope, use_of, binders, lets, Means, MeanFields, AreTermsOf, IsTermOf, scope_after, Resolves}
use Rattle.mls_names.proofs.NumberedTerms.{numbers_from, means_binders}

numbers_higher : (n m k : ℕ) → n < m → All (λ x. n < x) (numbers_from m k)
numbers_higher n m zero low = All-nil (λ x. n < x)
numbers_higher n m (suc k) low = All-cons (λ x. n < x) m (numbers_from (suc m) k) low (numbers_higher n (suc m) k (omega arith))

-- the binders in a body come from the one behind its own
body_higher : (e : Tree) (x : List ℕ) (scope : Scope) (b l : ℕ) (f : TermTree) → Means ((x, binder b) ∷ scope) (suc b) l e f → All (λ y. b < y) (binders_of f)
body_higher e x scope b l f h =
    subst (λ (ns : List ℕ). All (λ y. b < y) ns) (sym (means_binders e ((x, binder b) ∷ scope) (suc b) l f h)) (numbers_higher b (suc b) (binders e) (omega arith))

mutual
  means_rising : (e : Tree) (scope : Scope) (b l : ℕ) (t : TermTree) → Means scope b l e t → HasRisingBinders t
  means_rising (a_name at x) scope b l t (m, found, is) = subst HasRisingBinders (sym is) (go m)
    where
      go : (m : Meant) → HasRisingBinders (use_of at m)
      go (binder y) = tt
      go (let_number k) = tt
      go (scheme g) = tt
  means_rising (an_operator at o) scope b l t is = subst HasRisingBinders (sym is) tt
  means_rising (a_number at value) scope b l t is = subst HasRisingBinders (sym is) tt
  means_rising (a_truth at value) scope b l t is = subst HasRisingBinders (sym is) tt
  means_rising (a_fun at x e) scope b l t (f, h, is) =
      subst HasRisingBinders (sym is) (body_higher e x scope b l f h, means_rising e ((x, binder b) ∷ scope) (suc b) l f h)
  means_rising (a_fix at x e) scope b l t (f, h, is) =
      subst HasRisingBinders (sym is) (body_higher e x scope b l f h, means_rising e ((x, binder b) ∷ scope) (suc b) l f h)
  means_rising (a_let at x e f) scope b l t (c, d, h, k, is) =
      subst HasRisingBinders (sym is) (
        means_rising e scope b (suc l) c h,
        means_rising f ((x, let_number l) ∷ scope) (b + binders e) (suc l + lets e) d k,
      )
  means_rising (an_if at e f g) scope b l t (c, d, r, h, k, m, is) =
      subst HasRisingBinders (sym is) (
        means_rising e scope b l c h,
        means_rising f scope (b + binders e) (l + lets e) d k,
        means_rising g scope (b + binders e + binders f) (l + lets e + lets f) r m,
      )
  means_rising (an_apply at e f) scope b l t (c, d, h, k, is) =
      subst HasRisingBinders (sym is) (means_rising e scope b l c h, means_rising f scope (b + binders e) (l + lets e) d k)
  means_rising (a_make at fields) scope b l t (parts, h, is) = subst HasRisingBinders (sym is) (fields_rising fields scope b l parts h)
  means_rising (a_project at e label) scope b l t (f, h, is) = subst HasRisingBinders (sym is) (means_rising e scope b l f h)

  fields_rising : (fields : Fields) (scope : Scope) (b l : ℕ) (ts : TermFields) → MeanFields scope b l fields ts → HaveRisingBinders ts
  fields_rising no_field scope b l ts is = subst HaveRisingBinders (sym is) tt
  fields_rising (a_field label e rest) scope b l ts (f, others, h, k, is) =
      subst HaveRisingBinders (sym is) (means_rising e scope b l f h, fields_rising rest scope (b + binders e) (l + lets e) others k)

abbrev Rises : ResolvedBinding → Type 0
Rises b = HasRisingTree b.term.nodes

-- nodes are the postorder of one tree
binding_rises : (scope : Scope) (tree : BindingTree) (b : ResolvedBinding) → IsTermOf scope tree b → Rises b
binding_rises scope tree b term t are =
    subst HasRisingBinders (one_term_tree term.term_tree t (sym term.nodes ∙ are)) (means_rising tree.body scope 0 0 term.term_tree term.means)

bindings_rise : (declared : List (List (List ℕ))) (earlier : List (List ℕ)) (trees : List BindingTree) (bindings : List ResolvedBinding) → AreTermsOf declared earlier trees bindings → All Rises bindings
bindings_rise declared earlier [] bindings is = subst (All Rises) (sym is) (All-nil Rises)
bindings_rise declared earlier (tree ∷ trees) bindings (first, rest, is, term, terms) =
    subst (All Rises) (sym is)
    (All-cons Rises first rest (binding_rises (scope_after declared earlier) tree first term) (bindings_rise declared (earlier ++ tree.x ∷ []) trees rest terms))

pub resolved_rise : (m : Module) (declared : List (List (List ℕ))) (r : Resolved) → Resolves m declared r → All (λ (b : ResolvedBinding). HasRisingTree b.term.nodes) r.bindings
resolved_rise m declared r is = bindings_rise declared [] is.tree.bound r.bindings is.terms
