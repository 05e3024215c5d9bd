-- The places of names without a meaning, and of the nodes of terms, lie within the text.
use Rattle.std.proofs.Common.{◌≡◌, ℕ, zero, suc, ◌≤◌, Bool, true, false, if◌then◌else◌, List, [], ◌∷◌, ◌++◌, length, map, sym, subst}
use Rattle.std.specs.Prelude.{slice_get, Some}
use Rattle.mls_grammar.specs.declared.module.Module.{Module}
use Rattle.mls_grammar.specs.declared.module.Import.{Import}
use Rattle.mls_grammar.specs.declared.fault.Fault.{Fault}
use Rattle.mls_term.specs.declared.term.Resolved.{Resolved}
use Rattle.mls_term.specs.declared.term.ResolvedBinding.{ResolvedBinding}
use Rattle.mls_term.specs.declared.term.TermNode.{TermNode}
use Rattle.mls_grammar.specs.Trees.{Tree, a_name, an_operator, a_number, a_truth, a_fun, a_fix, a_let, an_if, an_apply, a_make, a_project, Fields, no_field, a_field, ImportTree, BindingTree, SourceTree}
use Rattle.mls_grammar.specs.Modules.{import_of, module_of, IsModuleText, IsModule}
use Rattle.mls_term.specs.Terms.{TermTree, TermFields, postorder, field_postorder}
use Rattle.mls_names.specs.Resolution.{Scope, Meant, binder, let_number, scheme, use_of, Means, MeanFields, AreTermsOf, Resolves, scope_after, is_known, names_of, unknowns, field_unknowns, unknown_names, HasUnknownName}
use Rattle.mls_grammar.specs.Faults.{fault_place}
use Rattle.mls_grammar.proofs.PlacesWithin.{TreeWithin, FieldsWithin, ImportsWithin, BindingsWithin}
use Rattle.mls_grammar.proofs.FaultsWithin.{SourceWithin, text-within}
use Rattle.mls_grammar.proofs.TreesOfNodes.{one_source}

-- all of these are at most n
abbrev AllWithin : ℕ → List ℕ → Type 0
AllWithin n [] = Unit {0}
AllWithin n (at ∷ ats) = (at ≤ n) × AllWithin n ats

within-append : (n : ℕ) (xs ys : List ℕ) → AllWithin n xs → AllWithin n ys → AllWithin n (xs ++ ys)
within-append n [] ys h h' = h'
within-append n (x ∷ xs) ys h h' = (h.0, within-append n xs ys h.1 h')

place-unless : (n at : ℕ) (b : Bool) → at ≤ n → AllWithin n (if b then [] else at ∷ [])
place-unless n at true h = tt
place-unless n at false h = (h, tt)

mutual
  unknowns-within : (n : ℕ) (known : List (List ℕ)) (t : Tree) → TreeWithin n t → AllWithin n (unknowns known t)
  unknowns-within n known (a_name at x) h = place-unless n at (is_known known x) h
  unknowns-within n known (an_operator at o) h = tt
  unknowns-within n known (a_number at value) h = tt
  unknowns-within n known (a_truth at value) h = tt
  unknowns-within n known (a_fun at x e) h = unknowns-within n (x ∷ known) e h.1
  unknowns-within n known (a_fix at x e) h = unknowns-within n (x ∷ known) e h.1
  unknowns-within n known (a_let at x e f) h = within-append n (unknowns known e) (unknowns (x ∷ known) f) (unknowns-within n known e h.1) (unknowns-within n (x ∷ known) f h.2)
  unknowns-within n known (an_if at c e f) h =
      within-append n (unknowns known c ++ unknowns known e) (unknowns known f)
      (within-append n (unknowns known c) (unknowns known e) (unknowns-within n known c h.1) (unknowns-within n known e h.2))
      (unknowns-within n known f h.3)
  unknowns-within n known (an_apply at f a) h = within-append n (unknowns known f) (unknowns known a) (unknowns-within n known f h.1) (unknowns-within n known a h.2)
  unknowns-within n known (a_make at fields) h = field_unknowns-within n known fields h.1
  unknowns-within n known (a_project at e label) h = unknowns-within n known e h.1

  field_unknowns-within : (n : ℕ) (known : List (List ℕ)) (fields : Fields) → FieldsWithin n fields → AllWithin n (field_unknowns known fields)
  field_unknowns-within n known no_field h = tt
  field_unknowns-within n known (a_field label e rest) h = within-append n (unknowns known e) (field_unknowns known rest) (unknowns-within n known e h.0) (field_unknowns-within n known rest h.1)

unknown_names-within : (n : ℕ) (declared : List (List (List ℕ))) (earlier : List (List ℕ)) (bs : List BindingTree) → BindingsWithin n bs → AllWithin n (unknown_names declared earlier bs)
unknown_names-within n declared earlier [] h = tt
unknown_names-within n declared earlier (b ∷ bs) h =
    within-append n (unknowns (names_of (scope_after declared earlier)) b.body) (unknown_names declared (earlier ++ b.x ∷ []) bs)
    (unknowns-within n (names_of (scope_after declared earlier)) b.body h.1)
    (unknown_names-within n declared (earlier ++ b.x ∷ []) bs h.2)

-- the tree of a module of a text lies within it
module-within : (text : List ℕ) (m : Module) (tree : SourceTree) → IsModuleText text m → m ≡ module_of tree → SourceWithin (length text) tree
module-within text m tree is nodes = subst (SourceWithin (length text)) (one_source m is.tree tree is.nodes nodes) (text-within text is.tree is.text_of)

pub unknown-within : (text : List ℕ) (m : Module) (declared : List (List (List ℕ))) (fault : Fault) → IsModuleText text m → HasUnknownName m declared fault → fault_place (length text) fault ≤ length text
unknown-within text m declared fault is has =
    let n = length text in
    let all = module-within text m has.tree is has.nodes in
    let first = (subst (AllWithin n) has.first (unknown_names-within n declared [] has.tree.bound all.bound)).0 in
    subst (λ f. fault_place n f ≤ n) (sym has.fault_is) first

-- the places of the nodes of a term
abbrev NodesWithin : ℕ → List TermNode → Type 0
NodesWithin n [] = Unit {0}
NodesWithin n (node ∷ nodes) = (node.at ≤ n) × NodesWithin n nodes

nodes-append : (n : ℕ) (xs ys : List TermNode) → NodesWithin n xs → NodesWithin n ys → NodesWithin n (xs ++ ys)
nodes-append n [] ys h h' = h'
nodes-append n (x ∷ xs) ys h h' = (h.0, nodes-append n xs ys h.1 h')

use-within : (n at k : ℕ) (m : Meant) → at ≤ n → NodesWithin n (postorder k (use_of at m))
unfolding postorder
use-within n at k (binder x) h = (h, tt)
use-within n at k (let_number l) h = (h, tt)
use-within n at k (scheme g) h = (h, tt)

-- two lists and a node behind them
two-nodes : (n : ℕ) (xs ys : List TermNode) (node : TermNode) → NodesWithin n xs → NodesWithin n ys → node.at ≤ n → NodesWithin n ((xs ++ ys) ++ node ∷ [])
two-nodes n xs ys node h h' low = nodes-append n (xs ++ ys) (node ∷ []) (nodes-append n xs ys h h') (low, tt)

mutual
  unfolding postorder

  nodes-within : (n k : ℕ) (scope : Scope) (b l : ℕ) (t : Tree) (u : TermTree) → TreeWithin n t → Means scope b l t u → NodesWithin n (postorder k u)
  nodes-within n k scope b l (a_name at x) u h means = subst (λ u. NodesWithin n (postorder k u)) (sym means.2) (use-within n at k means.0 h)
  nodes-within n k scope b l (an_operator at o) u h means = subst (λ u. NodesWithin n (postorder k u)) (sym means) (h, tt)
  nodes-within n k scope b l (a_number at value) u h means = subst (λ u. NodesWithin n (postorder k u)) (sym means) (h, tt)
  nodes-within n k scope b l (a_truth at value) u h means = subst (λ u. NodesWithin n (postorder k u)) (sym means) (h, tt)
  nodes-within n k scope b l (a_fun at x e) u h means =
      subst (λ u. NodesWithin n (postorder k u)) (sym means.2)
      (nodes-append n (postorder k means.0) (_ ∷ []) (nodes-within n k _ _ _ e means.0 h.1 means.1) (h.0, tt))
  nodes-within n k scope b l (a_fix at x e) u h means =
      subst (λ u. NodesWithin n (postorder k u)) (sym means.2)
      (nodes-append n (postorder k means.0) (_ ∷ []) (nodes-within n k _ _ _ e means.0 h.1 means.1) (h.0, tt))
  nodes-within n k scope b l (a_let at x e f) u h means =
      subst (λ u. NodesWithin n (postorder k u)) (sym means.4)
      (two-nodes n (postorder k means.0) (postorder _ means.1) _ (nodes-within n k _ _ _ e means.0 h.1 means.2) (nodes-within n _ _ _ _ f means.1 h.2 means.3) h.0)
  nodes-within n k scope b l (an_if at c e f) u h means =
      subst (λ u. NodesWithin n (postorder k u)) (sym means.6)
      (two-nodes n (postorder k means.0 ++ postorder _ means.1) (postorder _ means.2) _
      (nodes-append n (postorder k means.0) (postorder _ means.1) (nodes-within n k _ _ _ c means.0 h.1 means.3) (nodes-within n _ _ _ _ e means.1 h.2 means.4))
      (nodes-within n _ _ _ _ f means.2 h.3 means.5) h.0)
  nodes-within n k scope b l (an_apply at f a) u h means =
      subst (λ u. NodesWithin n (postorder k u)) (sym means.4)
      (two-nodes n (postorder k means.0) (postorder _ means.1) _ (nodes-within n k _ _ _ f means.0 h.1 means.2) (nodes-within n _ _ _ _ a means.1 h.2 means.3) h.0)
  nodes-within n k scope b l (a_make at fields) u h means =
      subst (λ u. NodesWithin n (postorder k u)) (sym means.2)
      (nodes-append n (field_postorder k means.0) (_ ∷ []) (fields-within n k _ _ _ fields means.0 h.1 means.1) (h.0, tt))
  nodes-within n k scope b l (a_project at e label) u h means =
      subst (λ u. NodesWithin n (postorder k u)) (sym means.2)
      (nodes-append n (postorder k means.0) (_ ∷ []) (nodes-within n k _ _ _ e means.0 h.1 means.1) (h.0, tt))

  fields-within : (n k : ℕ) (scope : Scope) (b l : ℕ) (fields : Fields) (us : TermFields) → FieldsWithin n fields → MeanFields scope b l fields us → NodesWithin n (field_postorder k us)
  fields-within n k scope b l no_field us h means = subst (λ us. NodesWithin n (field_postorder k us)) (sym means) tt
  fields-within n k scope b l (a_field label e rest) us h means =
      subst (λ us. NodesWithin n (field_postorder k us)) (sym means.4)
      (nodes-append n (postorder k means.0) (field_postorder _ means.1) (nodes-within n k _ _ _ e means.0 h.0 means.2) (fields-within n _ _ _ _ rest means.1 h.1 means.3))

abbrev TermsWithin : ℕ → List ResolvedBinding → Type 0
TermsWithin n [] = Unit {0}
TermsWithin n (r ∷ rs) = NodesWithin n r.term.nodes × TermsWithin n rs

terms-within : (n : ℕ) (declared : List (List (List ℕ))) (earlier : List (List ℕ)) (bs : List BindingTree) (rs : List ResolvedBinding) → BindingsWithin n bs → AreTermsOf declared earlier bs rs → TermsWithin n rs
terms-within n declared earlier [] rs h are = subst (TermsWithin n) (sym are) tt
terms-within n declared earlier (b ∷ bs) rs h are =
    let it = are.3 in
    subst (TermsWithin n) (sym are.2) (
      subst (NodesWithin n) (sym it.nodes) (nodes-within n 0 (scope_after declared earlier) 0 0 b.body it.term_tree h.1 it.means),
      terms-within n declared (earlier ++ b.x ∷ []) bs are.1 h.2 are.4,
    )

-- a node of a term, by the numbers of its binding and of the node
one-within : (n : ℕ) (nodes : List TermNode) (i : ℕ) (node : TermNode) → NodesWithin n nodes → slice_get nodes i ≡ Some node → node.at ≤ n
one-within n [] i node h e = absurd (cc)
one-within n (first ∷ nodes) zero node h e = let same : first ≡ node = cc in subst (λ (node : TermNode). node.at ≤ n) same h.0
one-within n (first ∷ nodes) (suc i) node h e = one-within n nodes i node h.1 e

term-within : (n : ℕ) (rs : List ResolvedBinding) (k : ℕ) (r : ResolvedBinding) → TermsWithin n rs → slice_get rs k ≡ Some r → NodesWithin n r.term.nodes
term-within n [] k r h e = absurd (cc)
term-within n (first ∷ rs) zero r h e = let same : first ≡ r = cc in subst (λ (r : ResolvedBinding). NodesWithin n r.term.nodes) same h.0
term-within n (first ∷ rs) (suc k) r h e = term-within n rs k r h.1 e

pub node-within : (text : List ℕ) (m : Module) (declared : List (List (List ℕ))) (r : Resolved) (k i : ℕ) (b : ResolvedBinding) (node : TermNode) → IsModuleText text m → Resolves m declared r
    → slice_get r.bindings k ≡ Some b → slice_get b.term.nodes i ≡ Some node → node.at ≤ length text
node-within text m declared r k i b node is resolves at at' =
    let n = length text in
    let all = module-within text m resolves.tree is resolves.nodes in
    one-within n b.term.nodes i node (term-within n r.bindings k b (terms-within n declared [] resolves.tree.bound r.bindings all.bound resolves.terms) at) at'

first-within : (n : ℕ) (trees : List ImportTree) (i : Import) (rest : List Import) → ImportsWithin n trees → map import_of trees ≡ i ∷ rest → i.at ≤ n
first-within n [] i rest h e = absurd (cc)
first-within n (t ∷ trees) i rest h e = let same : import_of t ≡ i = cc in subst (λ (i : Import). i.at ≤ n) same h.0

pub import-within : (text : List ℕ) (m : Module) (i : Import) (rest : List Import) → IsModuleText text m → m.imports ≡ i ∷ rest → i.at ≤ length text
import-within text m i rest is e =
    first-within (length text) is.tree.imported i rest (text-within text is.tree is.text_of).imported
    (subst (λ (m : Module). m.imports ≡ i ∷ rest) is.nodes e)

-- the module of a text is one whose names can be looked up
pub text_is_module : (text : List ℕ) (m : Module) → IsModuleText text m → IsModule m
text_is_module text m is = record { tree = is.tree; no_doubles = is.text_of.no_doubles; nodes = is.nodes }
