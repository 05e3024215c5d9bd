-- What the machine makes of the pieces of a tree, in the order of its nodes, is the nodes of the tree.
use Rattle.std.proofs.Common.{◌≡◌, ℕ, suc, ◌+◌, List, [], ◌∷◌, ◌++◌, length, map, reverse, refl, sym, ap, ◌∙◌, arith, length-append, add_assoc}
use Rattle.std.proofs.lemmas.List.{reverse-append, reverse-reverse, append_assoc, append-nil}
use Rattle.mls_grammar.specs.declared.module.Module.{Module}
use Rattle.mls_grammar.specs.declared.module.Import.{Import}
use Rattle.mls_grammar.specs.declared.module.Binding.{Binding}
use Rattle.mls_grammar.specs.declared.module.ExprNode.{ExprNode}
use Rattle.mls_grammar.specs.declared.module.Form.{Form}
use Rattle.mls_grammar.specs.declared.module.Form.TheVariants as form
use Rattle.mls_term.specs.declared.term.Part.{Part}
use Rattle.mls_reader.specs.declared.piece.Piece.{Piece}
use Rattle.mls_reader.specs.declared.piece.Piece.TheVariants as piece
use Rattle.mls_reader.specs.steps.Linking.{Linked, link_start, grown, joined, linked, module_linked}
use Rattle.mls_grammar.specs.Modules.{import_of, binding_of, module_of}
use Rattle.mls_reader.specs.steps.Told.{arranged, arranged_fields, arranged_bindings, arranged_source}
use Rattle.mls_grammar.specs.Trees.{Tree, a_name, an_operator, a_number, a_truth, a_fun, a_fix, a_let, an_if, an_apply, a_make, a_project, Fields, no_field, a_field, ImportTree, BindingTree, SourceTree, before, field_nodes, field_roots, postorder, field_postorder}
use Rattle.mls_reader.proofs.LaterSteps.{reverse-last}

-- what was made, and these besides
abbrev with_more : List ExprNode → List ℕ → List (List Part) → Linked → Linked
with_more nodes roots records s = record s { nodes = s.nodes ++ nodes; roots = roots ++ s.roots; records = records ++ s.records }

-- behind n nodes, these pieces make these nodes, of which there are k, and these roots and parts of records
record Makes (n : ℕ) (out : List Piece) (nodes : List ExprNode) (k : ℕ) (roots : List ℕ) (records : List (List Part)) : Type 0 where
  pub count : length nodes ≡ k
  pub turns : (s : Linked) (rest : List Piece) → length s.nodes ≡ n → linked s (out ++ rest) ≡ linked (with_more nodes roots records s) rest

-- the same behind as many nodes
makes-there : {n m : ℕ} {out : List Piece} {nodes : List ExprNode} {k : ℕ} {roots : List ℕ} {records : List (List Part)} → n ≡ m → Makes m out nodes k roots records → Makes n out nodes k roots records
makes-there e it = record { count = it.count; turns = λ s rest h. it.turns s rest (h ∙ e) }

-- and for equal parts
makes-parts : {n : ℕ} {out : List Piece} {nodes : List ExprNode} {k : ℕ} {roots : List ℕ} {parts others : List Part} → others ≡ parts → Makes n out nodes k roots (others ∷ []) → Makes n out nodes k roots (parts ∷ [])
makes-parts {n} {out} {nodes} {k} {roots} e it = record {
  count = it.count;
  turns = λ s rest h. it.turns s rest h ∙ ap (λ parts. linked (with_more nodes roots (parts ∷ []) s) rest) e;
}

-- nothing
makes-nothing : (n : ℕ) → Makes n [] [] 0 [] []
makes-nothing n = record { count = refl; turns = λ s rest e. ap (λ l. linked (record s { nodes = l }) rest) (sym (append-nil s.nodes)) }

-- pieces that are equal make equal nodes
makes-same : {n : ℕ} {out out' : List Piece} {nodes : List ExprNode} {k : ℕ} {roots : List ℕ} {records : List (List Part)} → out ≡ out' → Makes n out' nodes k roots records → Makes n out nodes k roots records
makes-same e it = record { count = it.count; turns = λ s rest h. ap (λ l. linked s (l ++ rest)) e ∙ it.turns s rest h }

length-both : (a b : List ExprNode) (j k : ℕ) → length a ≡ j → length b ≡ k → length (a ++ b) ≡ j + k
length-both a b j k e f = length-append a b ∙ (λ i. e i + f i)

-- pieces behind others
makes-both : {n : ℕ} {a b : List Piece} {first second : List ExprNode} {j k : ℕ} {roots others : List ℕ} {records inner : List (List Part)}
    → Makes n a first j roots records → Makes (n + j) b second k others inner → Makes n (a ++ b) (first ++ second) (j + k) (others ++ roots) (inner ++ records)
makes-both {n} {a} {b} {first} {second} {j} {k} {roots} {others} {records} {inner} it later = record {
  count = length-both first second j k it.count later.count;
  turns = λ s rest e.
      ap (linked s) (append_assoc a b rest)
      ∙ (it.turns s (b ++ rest) e
      ∙ (later.turns (with_more first roots records s) rest (length-both s.nodes first n j e it.count)
      ∙ (λ i. linked (record s {
        nodes = append_assoc s.nodes first second i;
        roots = sym (append_assoc others roots s.roots) i;
        records = sym (append_assoc inner records s.records) i;
      }) rest)));
}

-- a node behind its children
makes-node : {n : ℕ} {out : List Piece} {nodes : List ExprNode} {k : ℕ} {roots : List ℕ} {records : List (List Part)} (p : Piece) (at : ℕ) (it : Form)
    → Makes n out nodes k roots records
    → ((s : Linked) → joined p (record s { roots = roots ++ s.roots; records = records ++ s.records }) ≡ grown at it s)
    → Makes n (out ++ p ∷ []) (nodes ++ record { at = at; form = it } ∷ []) (suc k) ((n + k) ∷ []) []
unfolding linked
makes-node {n} {out} {nodes} {k} {roots} {records} p at it children joins =
    let node : ExprNode = record { at = at; form = it } in
    record {
      count = omega (arith, length-append nodes (node ∷ []), children.count);
      turns = λ s rest e.
          ap (linked s) (append_assoc out (p ∷ []) rest)
          ∙ (children.turns s (p ∷ rest) e
          ∙ (ap (λ made. linked made rest) (joins (record s { nodes = s.nodes ++ nodes }))
          ∙ (λ i. linked (record s {
            nodes = append_assoc s.nodes nodes (node ∷ []) i;
            roots = length-both s.nodes nodes n k e children.count i ∷ s.roots;
          }) rest)));
    }

-- the end of the parts of a record
makes-last : (n : ℕ) → Makes n (piece.Last ∷ []) [] 0 [] ([] ∷ [])
unfolding linked
makes-last n = record { count = refl; turns = λ s rest e. ap (λ l. linked (record s { nodes = l; records = [] ∷ s.records }) rest) (sym (append-nil s.nodes)) }

-- a part behind its expression and the later parts
makes-part : {n : ℕ} {out : List Piece} {nodes : List ExprNode} {k root : ℕ} {parts : List Part} (label : List ℕ)
    → Makes n out nodes k (root ∷ []) (parts ∷ []) → Makes n (out ++ piece.Field label ∷ []) nodes k [] ((parts ++ record { label = label; child = root } ∷ []) ∷ [])
unfolding linked
makes-part {n} {out} {nodes} {k} {root} {parts} label it = record {
  count = it.count;
  turns = λ s rest e. ap (linked s) (append_assoc out (piece.Field label ∷ []) rest) ∙ it.turns s (piece.Field label ∷ rest) e;
}

mutual
  unfolding before postorder field_roots

  makes-tree : (n : ℕ) (t : Tree) → Makes n (arranged t) (postorder n t) (suc (before t)) ((n + before t) ∷ []) []
  makes-tree n (a_name at x) = makes-node (piece.Name at x) at (form.Var x) (makes-nothing n) (λ s. refl)
  makes-tree n (an_operator at o) = makes-node (piece.Operator at o) at (form.Operator o) (makes-nothing n) (λ s. refl)
  makes-tree n (a_number at value) = makes-node (piece.Number at value) at (form.Number value) (makes-nothing n) (λ s. refl)
  makes-tree n (a_truth at value) = makes-node (piece.Truth at value) at (form.Truth value) (makes-nothing n) (λ s. refl)
  makes-tree n (a_fun at x e) = makes-node (piece.Fun at x) at (form.Fun x (n + before e)) (makes-tree n e) (λ s. refl)
  makes-tree n (a_fix at x e) = makes-node (piece.Rec at x) at (form.Rec x (n + before e)) (makes-tree n e) (λ s. refl)
  makes-tree n (a_let at x e f) =
      let m = n + suc (before e) in
      makes-same (sym (append_assoc (arranged e) (arranged f) (piece.Let at x ∷ [])))
      (makes-node (piece.Let at x) at (form.Let x (n + before e) (m + before f)) (makes-both (makes-tree n e) (makes-tree m f)) (λ s. refl))
  makes-tree n (an_if at c e f) =
      let m = n + suc (before c) in
      let l = m + suc (before e) in
      makes-same (sym (append_assoc (arranged c) (arranged e) (arranged f ++ piece.If at ∷ [])) ∙ sym (append_assoc (arranged c ++ arranged e) (arranged f) (piece.If at ∷ [])))
      (makes-node (piece.If at) at (form.If (n + before c) (m + before e) (l + before f))
      (makes-both (makes-both (makes-tree n c) (makes-tree m e)) (makes-there (sym (add_assoc n (suc (before c)) (suc (before e)))) (makes-tree l f))) (λ s. refl))
  makes-tree n (an_apply at f a) =
      let m = n + suc (before f) in
      makes-same (sym (append_assoc (arranged f) (arranged a) (piece.Apply at ∷ [])))
      (makes-node (piece.Apply at) at (form.Apply (n + before f) (m + before a)) (makes-both (makes-tree n f) (makes-tree m a)) (λ s. refl))
  makes-tree n (a_make at fields) =
      makes-node (piece.Make at) at (form.Make (field_roots n fields)) (makes-fields n fields)
      (λ s. ap (λ parts. grown at (form.Make parts) s) (reverse-reverse (field_roots n fields)))
  makes-tree n (a_project at e label) = makes-node (piece.Project at label) at (form.Project (n + before e) label) (makes-tree n e) (λ s. refl)

  makes-fields : (n : ℕ) (fields : Fields) → Makes n (arranged_fields fields) (field_postorder n fields) (field_nodes fields) [] (reverse (field_roots n fields) ∷ [])
  makes-fields n no_field = makes-last n
  makes-fields n (a_field label e rest) =
      let m = n + suc (before e) in
      makes-parts (sym (reverse-append (record { label = label; child = n + before e } ∷ []) (field_roots m rest)))
      (makes-same (sym (append_assoc (arranged e) (arranged_fields rest) (piece.Field label ∷ [])))
      (makes-part label (makes-both (makes-tree n e) (makes-fields m rest))))

-- imports, where nothing else was made
abbrev only : List Import → List Binding → Linked
only imports bindings = record { imports = imports; bindings = bindings; nodes = []; roots = []; records = [] }

linked-imports : (imported : List ImportTree) (imports : List Import) (rest : List Piece)
    → linked (only imports []) (map (λ i. piece.Import i.at i.x) imported ++ rest) ≡ linked (only (imports ++ map import_of imported) []) rest
unfolding linked
linked-imports [] imports rest = ap (λ l. linked (only l []) rest) (sym (append-nil imports))
linked-imports (i ∷ imported) imports rest =
    linked-imports imported (imports ++ import_of i ∷ []) rest ∙ ap (λ l. linked (only l []) rest) (append_assoc imports (import_of i ∷ []) (map import_of imported))

-- bindings
linked-bindings : (bs : List BindingTree) (imports : List Import) (bindings : List Binding)
    → linked (only imports bindings) (arranged_bindings bs) ≡ only imports (bindings ++ map binding_of bs)
unfolding linked
linked-bindings [] imports bindings = ap (only imports) (sym (append-nil bindings))
linked-bindings (b ∷ bs) imports bindings =
    (makes-tree 0 b.body).turns (only imports bindings) (piece.Binding b.at b.x ∷ arranged_bindings bs) refl
    ∙ (linked-bindings bs imports (bindings ++ binding_of b ∷ [])
    ∙ ap (only imports) (append_assoc bindings (binding_of b ∷ []) (map binding_of bs)))

-- a module
pub linked-source : (tree : SourceTree) → module_linked (linked link_start (arranged_source tree)) ≡ module_of tree
linked-source tree = ap module_linked (linked-imports tree.imported [] (arranged_bindings tree.bound) ∙ linked-bindings tree.bound (map import_of tree.imported) [])

-- one piece
pub linked-step : (old new made : Linked) (pieces rest : List Piece) (p : Piece) → pieces ≡ p ∷ rest → new ≡ joined p old
    → made ≡ linked old pieces → made ≡ linked new rest
unfolding linked
linked-step old new made pieces rest p e f same = same ∙ (ap (linked old) e ∙ ap (λ s. linked s rest) (sym f))

pub linked-end : (last made : Linked) (m : Module) (pieces : List Piece) → pieces ≡ [] → m ≡ module_linked last → made ≡ linked last pieces → m ≡ module_linked made
unfolding linked
linked-end last made m pieces e f same = f ∙ ap module_linked (sym (same ∙ ap (linked last) e))

-- the same from the last piece to the first
pub linked-step-back : (old new made : Linked) (pieces rest : List Piece) (p : Piece) → pieces ≡ rest ++ p ∷ [] → new ≡ joined p old
    → linked old (reverse pieces) ≡ made → linked new (reverse rest) ≡ made
unfolding linked
linked-step-back old new made pieces rest p e f same =
    ap (λ s. linked s (reverse rest)) f ∙ (sym (ap (linked old) (reverse-last rest pieces p e)) ∙ same)

pub linked-end-back : (last made : Linked) (m : Module) (pieces : List Piece) → pieces ≡ [] → m ≡ module_linked last → linked last (reverse pieces) ≡ made → m ≡ module_linked made
unfolding linked
linked-end-back last made m pieces e f same = f ∙ ap module_linked (ap (λ l. linked last (reverse l)) (sym e) ∙ same)
