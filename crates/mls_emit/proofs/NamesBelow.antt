-- The names of the environment in a term are among those that were read, whose number is known.
--     reads_count         how many names were read
--     names_of_term       the names among the nodes of a term
--     terms_at            each term of a module, over the names before it
use Rattle.std.proofs.Common.{◌≡◌, ℕ, zero, suc, ◌+◌, ◌<◌, List, [], ◌∷◌, ◌++◌, length, map, take, sym, subst, arith, slice_get, Some}
use Rattle.std.specs.Prelude.{All}
use Rattle.std.proofs.lemmas.List.{length-append, length-map, length-take-le}
use Rattle.std.proofs.lemmas.List.Elements.{All-append, All-cons, All-nil}
use Rattle.mls_term.specs.declared.term.ResolvedBinding.{ResolvedBinding}
use Rattle.mls_term.specs.declared.term.TermForm.{TermForm}
use Rattle.mls_term.specs.declared.term.TermForm.TheVariants as form
use Rattle.mls_term.specs.declared.term.TermNode.{TermNode}
use Rattle.mls_term.specs.Terms.{TermTree, TermFields, bound, inner, global, number, truth, fun, apply, make, project, choice, local, fix, no_field, a_field, before, field_roots, postorder, field_postorder}
use Rattle.mls_term.specs.WellFormed.{AreScoped, IsScoped, IsTerm}
use Rattle.mls_typetext.specs.declared.scheme.ReadScheme.{ReadScheme}
use Rattle.mls_deriv.specs.Laws.{AreTerms}
use Rattle.mls_iface.specs.declared.signature.SigEntry.{SigEntry}
use Rattle.mls_emit.specs.Derivable.{names_read}
use Rattle.mls_emit.specs.Drafts.{NamesOnly, NameOnly}

-- how many names were read
pub reads_count : (declared : List ReadScheme) (entries : List SigEntry) → length (names_read declared entries) ≡ length declared + length entries
reads_count declared entries =
    let both : length (names_read declared entries) ≡ length declared + length (map (λ (entry : SigEntry). entry.scheme) entries) = length-append declared (map (λ (entry : SigEntry). entry.scheme) entries) in
    let many : length (map (λ (entry : SigEntry). entry.scheme) entries) ≡ length entries = length-map entries (λ (entry : SigEntry). entry.scheme) in
    omega (arith, both, many)

-- the names among the nodes of a tree
module _ (reads : List ReadScheme) where
  abbrev Only : TermNode → Type 0
  Only node = NamesOnly reads node.form

  -- a last node, which is no name
  with_last : (nodes : List TermNode) (at : ℕ) (f : TermForm) → All Only nodes → ((g : ℕ) → f ≡ form.Global g → ⊥) → All Only (nodes ++ record { at = at; form = f } ∷ [])
  with_last nodes at f all none = All-append Only nodes (record { at = at; form = f } ∷ []) all (All-cons Only (record { at = at; form = f }) [] (λ g is. absurd (none g is)) (All-nil Only))

  alone : (at : ℕ) (f : TermForm) → NamesOnly reads f → All Only (record { at = at; form = f } ∷ [])
  alone at f only = All-cons Only (record { at = at; form = f }) [] only (All-nil Only)

  mutual
    unfolding postorder before field_roots

    tree_names : (binders lets : List ℕ) (t : TermTree) (n : ℕ) → IsScoped binders lets (length reads) t → All Only (postorder n t)
    tree_names binders lets (bound at x) n scoped = alone at (form.Bound x) (λ g is. absurd (cc))
    tree_names binders lets (inner at k) n scoped = alone at (form.Inner k) (λ g is. absurd (cc))
    tree_names binders lets (global at h) n scoped = alone at (form.Global h) (λ g is. (let same : h ≡ g = cc in subst (λ m. m < length reads) same scoped))
    tree_names binders lets (number at value) n scoped = alone at (form.Number value) (λ g is. absurd (cc))
    tree_names binders lets (truth at value) n scoped = alone at (form.Truth value) (λ g is. absurd (cc))
    tree_names binders lets (fun at x e) n scoped = with_last (postorder n e) at (form.Fun x (n + before e)) (tree_names (x ∷ binders) lets e n scoped) (λ g is. (cc))
    tree_names binders lets (fix at x e) n scoped = with_last (postorder n e) at (form.Rec x (n + before e)) (tree_names (x ∷ binders) lets e n scoped) (λ g is. (cc))
    tree_names binders lets (project at e label) n scoped = with_last (postorder n e) at (form.Project (n + before e) label) (tree_names binders lets e n scoped) (λ g is. (cc))
    tree_names binders lets (apply at e f) n scoped =
        let m = n + suc (before e) in
        with_last (postorder n e ++ postorder m f) at (form.Apply (n + before e) (m + before f))
        (All-append Only (postorder n e) (postorder m f) (tree_names binders lets e n scoped.0) (tree_names binders lets f m scoped.1)) (λ g is. (cc))
    tree_names binders lets (local at k e f) n scoped =
        let m = n + suc (before e) in
        with_last (postorder n e ++ postorder m f) at (form.Let k (n + before e) (m + before f))
        (All-append Only (postorder n e) (postorder m f) (tree_names binders lets e n scoped.0) (tree_names binders (k ∷ lets) f m scoped.1)) (λ g is. (cc))
    tree_names binders lets (choice at c e f) n scoped =
        let m = n + suc (before c) in
        let l = m + suc (before e) in
        with_last (postorder n c ++ postorder m e ++ postorder l f) at (form.If (n + before c) (m + before e) (l + before f))
        (All-append Only (postorder n c ++ postorder m e) (postorder l f)
        (All-append Only (postorder n c) (postorder m e) (tree_names binders lets c n scoped.0) (tree_names binders lets e m scoped.1)) (tree_names binders lets f l scoped.2)) (λ g is. (cc))
    tree_names binders lets (make at fields) n scoped = with_last (field_postorder n fields) at (form.Make (field_roots n fields)) (field_names binders lets fields n scoped.1) (λ g is. (cc))

    field_names : (binders lets : List ℕ) (fields : TermFields) (n : ℕ) → AreScoped binders lets (length reads) fields → All Only (field_postorder n fields)
    field_names binders lets no_field n scoped = All-nil Only
    field_names binders lets (a_field label e rest) n scoped =
        All-append Only (postorder n e) (field_postorder (n + suc (before e)) rest) (tree_names binders lets e n scoped.0) (field_names binders lets rest (n + suc (before e)) scoped.1)

  -- so it is with the nodes of a term
  pub names_of_term : (nodes : List TermNode) (binders lets : ℕ) → IsTerm (length reads) nodes binders lets → NameOnly reads nodes
  names_of_term nodes binders lets term = subst (All Only) (sym term.nodes_are) (tree_names [] [] term.tree 0 term.scoped)

-- each term of a module, over what is declared and the entries before
term_at : (count : ℕ) (bindings : List ResolvedBinding) → AreTerms count bindings → (k : ℕ) (b : ResolvedBinding) → slice_get bindings k ≡ Some b → IsTerm (count + k) b.term.nodes b.term.binders b.term.lets
term_at count [] all k b is = absurd (cc)
term_at count (first ∷ rest) all zero b is =
    let same : first ≡ b = cc in
    let many : count ≡ count + 0 = omega arith in
    subst (λ m. IsTerm m b.term.nodes b.term.binders b.term.lets) many (subst (λ (c : ResolvedBinding). IsTerm count c.term.nodes c.term.binders c.term.lets) same all.0)
term_at count (first ∷ rest) all (suc k) b is =
    let many : suc count + k ≡ count + suc k = omega arith in
    subst (λ m. IsTerm m b.term.nodes b.term.binders b.term.lets) many (term_at (suc count) rest all.1 k b is)

pub terms_at : (declared : List ReadScheme) (entries : List SigEntry) (bindings : List ResolvedBinding) → AreTerms (length declared) bindings → (k : ℕ) (b : ResolvedBinding) → k < length entries → slice_get bindings k ≡ Some b
    → IsTerm (length (names_read declared (take k entries))) b.term.nodes b.term.binders b.term.lets
terms_at declared entries bindings all k b low is =
    let before_it : length (take k entries) ≡ k = length-take-le k entries (omega (arith, low)) in
    let read : length (names_read declared (take k entries)) ≡ length declared + length (take k entries) = reads_count declared (take k entries) in
    let many : length declared + k ≡ length (names_read declared (take k entries)) = omega (arith, before_it, read) in
    subst (λ m. IsTerm m b.term.nodes b.term.binders b.term.lets) many (term_at (length declared) bindings all k b is)
