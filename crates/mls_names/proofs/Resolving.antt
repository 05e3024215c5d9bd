-- Bindings are resolved one after another.
use Rattle.std.proofs.Common.{◌≡◌, ℕ, zero, suc, ◌+◌, ◌<◌, ◌≤◌, List, [], ◌∷◌, ◌++◌, length, map, take, get_or, refl, sym, ap, subst, ◌∙◌, arith}
use Rattle.std.proofs.lemmas.List.{append_assoc, append-nil, take_all, take-map, length-map}
use Rattle.mls_grammar.specs.declared.module.Binding.{Binding}
use Rattle.mls_grammar.specs.declared.module.Module.{Module}
use Rattle.mls_grammar.specs.declared.fault.Fault.{Fault}
use Rattle.mls_names.specs.declared.resolver.Resolver.{Resolver}
use Rattle.mls_term.specs.declared.term.ResolvedBinding.{ResolvedBinding}
use Rattle.mls_grammar.specs.Trees.{BindingTree}
use Rattle.mls_grammar.specs.Trees as tree
use Rattle.mls_grammar.specs.Modules.{binding_of, IsModule}
use Rattle.mls_names.specs.Resolution.{Scope, scheme, names_of, unknowns, scope_after, schemes_from, declared_from, declared_count, unknown_names, AreTermsOf, Resolves, HasUnknownName}
use Rattle.mls_names.specs.steps.Meanings.{IsExpression, binding_in, bindings_in}
use Rattle.mls_names.specs.steps.Walks.{IsReady, IsIdle, HasTerm, HasUnknown}
use Rattle.mls_names.proofs.Meant.{are_terms}
use Rattle.mls_names.proofs.Scopes.{ready_more}

abbrev pub names : List BindingTree → List (List ℕ)
names bs = map (λ (b : BindingTree). b.x) bs

-- the first k bindings are resolved
pub record IsSoFar (declared : List (List (List ℕ))) (bs : List BindingTree) (k : ℕ) (r : Resolver) (schemes : ℕ) (rs : List ResolvedBinding) : Type 0 where
  pub terms : rs ≡ bindings_in declared [] (take k bs)
  pub all_known : unknown_names declared [] (take k bs) ≡ []
  pub ready : IsReady r (scope_after declared (names (take k bs)))
  pub next : schemes ≡ 5 + declared_count declared + k

-- one of some bindings, and those before it and behind it
record Split (bs : List BindingTree) (k : ℕ) : Type 0 where
  b : BindingTree
  behind : List BindingTree
  whole : bs ≡ take k bs ++ b ∷ behind
  more : take (k + 1) bs ≡ take k bs ++ b ∷ []
  item : (d : Binding) → get_or (map binding_of bs) k d ≡ binding_of b
  name : (d : List ℕ) → get_or (names bs) k d ≡ b.x

split : (bs : List BindingTree) (k : ℕ) → k < length bs → Split bs k
split [] k h = absurd (omega arith)
split (b ∷ bs) zero h = record { b = b; behind = bs; whole = refl; more = refl; item = λ d. refl; name = λ d. refl }
split (b ∷ bs) (suc k) h =
    let s = split bs k (omega arith) in
    let e : suc k + 1 ≡ suc (k + 1) = omega arith in
    record {
      b = s.b;
      behind = s.behind;
      whole = ap (λ (cs : List BindingTree). b ∷ cs) s.whole;
      more = ap (λ n. take n (b ∷ bs)) e ∙ ap (λ (cs : List BindingTree). b ∷ cs) s.more;
      item = s.item;
      name = s.name;
    }

module _ (declared : List (List (List ℕ))) where
  bindings_append : (earlier : List (List ℕ)) (xs ys : List BindingTree) → bindings_in declared earlier (xs ++ ys) ≡ bindings_in declared earlier xs ++ bindings_in declared (earlier ++ names xs) ys
  bindings_append earlier [] ys = ap (λ es. bindings_in declared es ys) (sym (append-nil earlier))
  bindings_append earlier (b ∷ bs) ys =
      ap (λ rs. binding_in (scope_after declared earlier) b ∷ rs)
      (bindings_append (earlier ++ b.x ∷ []) bs ys ∙ ap (λ es. bindings_in declared (earlier ++ b.x ∷ []) bs ++ bindings_in declared es ys) (append_assoc earlier (b.x ∷ []) (names bs)))

  unknown_append : (earlier : List (List ℕ)) (xs ys : List BindingTree) → unknown_names declared earlier (xs ++ ys) ≡ unknown_names declared earlier xs ++ unknown_names declared (earlier ++ names xs) ys
  unknown_append earlier [] ys = ap (λ es. unknown_names declared es ys) (sym (append-nil earlier))
  unknown_append earlier (b ∷ bs) ys =
      let here = unknowns (names_of (scope_after declared earlier)) b.body in
      ap (λ ps. here ++ ps) (unknown_append (earlier ++ b.x ∷ []) bs ys ∙ ap (λ es. unknown_names declared (earlier ++ b.x ∷ []) bs ++ unknown_names declared es ys) (append_assoc earlier (b.x ∷ []) (names bs)))
      ∙ sym (append_assoc here (unknown_names declared (earlier ++ b.x ∷ []) bs) (unknown_names declared (earlier ++ names (b ∷ bs)) ys))

module _ (m : Module) (declared : List (List (List ℕ))) (p : IsModule m) where
  bindings_are : m.bindings ≡ map binding_of p.tree.bound
  bindings_are = ap (λ (n : Module). n.bindings) p.nodes

  -- at the first binding
  pub so_far_first : (r : Resolver) (schemes : ℕ) (rs : List ResolvedBinding) → IsReady r (declared_from 5 declared) → schemes ≡ 5 + declared_count declared → rs ≡ [] → IsSoFar declared p.tree.bound 0 r schemes rs
  so_far_first r schemes rs ready next none = record { terms = none; all_known = refl; ready = ready; next = omega arith }

  -- at a binding
  module _ (items : List Binding) (k : ℕ) (item : Binding) (same : items ≡ m.bindings) (inside : k < length items) (is : item ≡ get_or items k item)
      (r : Resolver) (schemes : ℕ) (rs : List ResolvedBinding) (far : IsSoFar declared p.tree.bound k r schemes rs) where
    abbrev bs : List BindingTree
    bs = p.tree.bound

    bound_inside : k < length bs
    bound_inside = omega (arith, ap length (same ∙ bindings_are), length-map bs binding_of)

    abbrev s : Split bs k
    s = split bs k bound_inside

    abbrev scope : Scope
    scope = scope_after declared (names (take k bs))

    item_is : item ≡ binding_of s.b
    item_is = is ∙ ap (λ (is : List Binding). get_or is k item) (same ∙ bindings_are) ∙ s.item item

    nodes_are : item.expr.nodes ≡ tree.postorder 0 s.b.body
    nodes_are = ap (λ (b : Binding). b.expr.nodes) item_is

    pub is_expression : IsExpression item.expr.nodes
    is_expression = (s.b.body, nodes_are)

    pub is_idle : IsIdle r
    is_idle = (scope, far.ready)

    pub has_unknown_name : (fault : Fault) → HasUnknown r item.expr.nodes fault → HasUnknownName m declared fault
    has_unknown_name fault h =
        let it = h scope s.b.body nodes_are far.ready in
        let rest = unknown_names declared (names (take k bs) ++ s.b.x ∷ []) s.behind in
        record {
          tree = p.tree;
          nodes = p.nodes;
          place = it.0;
          later = it.1 ++ rest;
          first =
              ap (unknown_names declared []) s.whole
              ∙ unknown_append declared [] (take k bs) (s.b ∷ s.behind)
              ∙ (λ i. far.all_known i ++ (it.2 i ++ rest));
          fault_is = it.3;
        }

    pub so_far_more : (middle new : Resolver) (result : ResolvedBinding) (next : ℕ) (more : List ResolvedBinding)
        → result.name ≡ item.name → result.at ≡ item.at → HasTerm r middle item.expr.nodes result.term → more ≡ rs ++ result ∷ []
        → ((outer : Scope) → IsReady middle outer → IsReady new ((item.name, scheme schemes) ∷ outer)) → next ≡ schemes + 1
        → IsSoFar declared bs (k + 1) new next more
    so_far_more middle new result next more name at has pushed declares next_is =
        let it = has scope s.b.body nodes_are far.ready in
        let result_is : result ≡ binding_in scope s.b =
        λ i. record { name = (name ∙ ap (λ (b : Binding). b.name) item_is) i; at = (at ∙ ap (λ (b : Binding). b.at) item_is) i; term = it.0 i } in
        let named : item.name ≡ get_or (names bs) k item.name = ap (λ (b : Binding). b.name) item_is ∙ sym (s.name item.name) in
        let before : names (take k bs) ≡ take k (names bs) = sym (take-map (λ (b : BindingTree). b.x) k bs) in
        let behind : take (k + 1) (names bs) ≡ names (take (k + 1) bs) = take-map (λ (b : BindingTree). b.x) (k + 1) bs in
        let g = 5 + declared_count declared in
        record {
          terms =
              pushed ∙ (λ i. far.terms i ++ result_is i ∷ [])
              ∙ sym (ap (bindings_in declared []) s.more ∙ bindings_append declared [] (take k bs) (s.b ∷ []));
          all_known =
              ap (unknown_names declared []) s.more
              ∙ unknown_append declared [] (take k bs) (s.b ∷ [])
              ∙ (λ i. far.all_known i ++ (it.1 i ++ []));
          ready =
              subst (λ ns. IsReady new (schemes_from g ns ++ declared_from 5 declared)) behind
              (ready_more g (names bs) p.no_doubles.bound k (omega (arith, bound_inside, length-map bs (λ (b : BindingTree). b.x))) item.name named new (declared_from 5 declared)
              (subst (λ ns. IsReady new ((item.name, scheme (g + k)) ∷ (schemes_from g ns ++ declared_from 5 declared))) before
              (subst (λ n. IsReady new ((item.name, scheme n) ∷ scope)) far.next (declares scope it.2))));
          next = omega (arith, far.next);
        }

  -- behind the last binding
  pub resolves : (items : List Binding) (k : ℕ) (r : Resolver) (schemes : ℕ) (rs : List ResolvedBinding) → items ≡ m.bindings → length items ≤ k → IsSoFar declared p.tree.bound k r schemes rs
      → Resolves m declared (record { bindings = rs })
  resolves items k r schemes rs same past far =
      let all : take k p.tree.bound ≡ p.tree.bound = take_all k p.tree.bound (omega (arith, ap length (same ∙ bindings_are), length-map p.tree.bound binding_of)) in
      record {
        tree = p.tree;
        nodes = p.nodes;
        terms =
            subst (AreTermsOf declared [] p.tree.bound) (sym (far.terms ∙ ap (bindings_in declared []) all))
            (are_terms declared [] p.tree.bound (sym (ap (unknown_names declared []) all) ∙ far.all_known));
      }
