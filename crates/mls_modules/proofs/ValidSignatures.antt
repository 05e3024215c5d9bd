-- A signature of a module has an entry with a name of its own for each binding.
use Rattle.std.proofs.Common.{◌≡◌, ℕ, suc, ◌<◌, List, [], ◌∷◌, ◌++◌, length, map, get_or, refl, sym, ap, ◌∙◌, subst, Some, arith}
use Rattle.std.specs.Prelude.{slice_get}
use Rattle.std.proofs.lemmas.Option.{slice_get-get_or}
use Rattle.mls_grammar.specs.declared.module.Module.{Module}
use Rattle.mls_grammar.specs.declared.module.Binding.{Binding}
use Rattle.mls_grammar.specs.Trees.{BindingTree}
use Rattle.mls_grammar.specs.Modules.{AreDistinct, binding_of}
use Rattle.mls_term.specs.declared.term.ResolvedBinding.{ResolvedBinding}
use Rattle.mls_names.specs.Resolution.{AreTermsOf}
use Rattle.mls_iface.specs.declared.signature.SigEntry.{SigEntry}
use Rattle.mls_modules.specs.Environments.{declared_names}
use Rattle.mls_modules.specs.Laws.{SignaturesAreValid}
use Rattle.mls_modules.proofs.SameEntries.{stands}

abbrev names_of_trees : List BindingTree → List (List ℕ)
names_of_trees trees = map (λ (b : BindingTree). b.x) trees

abbrev names_of_bindings : List Binding → List (List ℕ)
names_of_bindings bs = map (λ (b : Binding). b.name) bs

abbrev names_of_terms : List ResolvedBinding → List (List ℕ)
names_of_terms bs = map (λ (b : ResolvedBinding). b.name) bs

abbrev names_of_entries : List SigEntry → List (List ℕ)
names_of_entries es = map (λ (e : SigEntry). e.name) es

bound_names : (trees : List BindingTree) → names_of_bindings (map binding_of trees) ≡ names_of_trees trees
bound_names [] = refl
bound_names (b ∷ trees) = ap (λ l. b.x ∷ l) (bound_names trees)

term_names : (declared : List (List (List ℕ))) (earlier : List (List ℕ)) (trees : List BindingTree) (bs : List ResolvedBinding) → AreTermsOf declared earlier trees bs → names_of_terms bs ≡ names_of_trees trees
term_names declared earlier [] bs are = ap names_of_terms are
term_names declared earlier (b ∷ trees) bs (first, rest, is, term, more) =
    ap names_of_terms is ∙ (λ i. term.name i ∷ term_names declared (earlier ++ b.x ∷ []) trees rest more i)

entry_names : (bs : List ResolvedBinding) (es : List SigEntry) → length es ≡ length bs
    → ((k : ℕ) (b : ResolvedBinding) (e : SigEntry) → slice_get bs k ≡ Some b → slice_get es k ≡ Some e → e.name ≡ b.name)
    → names_of_entries es ≡ names_of_terms bs
entry_names [] [] same each = refl
entry_names [] (e ∷ es) same each = absurd (omega arith)
entry_names (b ∷ bs) [] same each = absurd (omega arith)
entry_names (b ∷ bs) (e ∷ es) same each = λ i. each 0 b e refl refl i ∷ entry_names bs es (omega arith) (λ k. each (suc k)) i

pub signatures_are_valid : SignaturesAreValid
signatures_are_valid m imports s is it = record {
  each = λ k d low.
      let b = stands it.resolved.bindings k (subst (λ n. k < n) it.entries.count low) in
      (it.entries.are_entries k b.0 (get_or s.entries k d) b.1 (slice_get-get_or s.entries k d low)).is_entry;
  distinct =
      let own : names_of_entries s.entries ≡ names_of_terms it.resolved.bindings =
      entry_names it.resolved.bindings s.entries it.entries.count (λ k b e at_b at_e. (it.entries.are_entries k b e at_b at_e).name) in
      let terms : names_of_terms it.resolved.bindings ≡ names_of_trees it.resolves.tree.bound =
      term_names (declared_names imports) [] it.resolves.tree.bound it.resolved.bindings it.resolves.terms in
      let trees : names_of_trees is.tree.bound ≡ names_of_trees it.resolves.tree.bound =
      sym (bound_names is.tree.bound) ∙ ap (λ (m : Module). names_of_bindings m.bindings) (sym is.nodes ∙ it.resolves.nodes) ∙ bound_names it.resolves.tree.bound in
      subst AreDistinct (trees ∙ sym (own ∙ terms)) is.no_doubles.bound;
}
