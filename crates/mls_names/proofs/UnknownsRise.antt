-- Names without a meaning come in the order of the text.
use Rattle.std.proofs.Common.{◌≡◌, ℕ, ◌+◌, ◌<◌, ◌≤◌, Bool, true, false, if◌then◌else◌, List, [], ◌∷◌, ◌++◌, refl, sym, ap, ◌∙◌, subst, arith}
use Rattle.mls_lexer.proofs.TextOrder.{places_rise, Rises, rises-low, rises-high, rises-append, rises-least}
use Rattle.mls_grammar.specs.Phrases.{Sort, source, imports, bindings, bind_rest, expr, let_rest, compare_tail, sum, sum_tail, product, product_tail, apply, arguments, post, dots, atom, parts, more_parts, Phrase, whole, no_import, importing, no_binding, binding, simple, recursive, fun, fix, local, choice, plain, simple_in, recursive_in, no_compare, less, equal, summed, no_sum, plus, minus, multiplied, no_product, times, applied, no_argument, argument, posted, no_dot, dot, variable, literal, truth, parens, braces, no_part, first_part, last_part, next_part, width}
use Rattle.mls_grammar.specs.Trees.{Tree, a_fix, an_apply, Fields, BindingTree, SourceTree, Meaning, meaning, binary, a_project}
use Rattle.mls_grammar.specs.declared.module.Op.{Op}
use Rattle.mls_grammar.specs.declared.module.Op.TheVariants as op
use Rattle.mls_lexer.specs.Tokens.{place_of}
use Rattle.mls_names.specs.Resolution.{is_known, names_of, scope_after, unknowns, field_unknowns, unknown_names}
use Rattle.mls_names.specs.ResolutionLaws.{FirstUnknownIsLeast}
use Rattle.mls_grammar.proofs.Widths.{width-terminals}
use Rattle.mls_grammar.proofs.TreesOfNodes.{one_source}

abbrev itself : ℕ → ℕ
itself at = at

module _ (place : ℕ → ℕ) where
  abbrev Up : ℕ → ℕ → List ℕ → Type 0
  Up = Rises itself place

  -- the names of a tree without a meaning stand at tokens from number `low` on and before number `high`, whatever has a meaning
  abbrev TreeRises : ℕ → ℕ → Tree → Type 0
  TreeRises low high t = (known : List (List ℕ)) → Up low high (unknowns known t)

  abbrev FieldsRise : ℕ → ℕ → Fields → Type 0
  FieldsRise low high fields = (known : List (List ℕ)) → Up low high (field_unknowns known fields)

  abbrev BindingsRise : ℕ → ℕ → List BindingTree → Type 0
  BindingsRise low high bs = (declared : List (List (List ℕ))) (earlier : List (List ℕ)) → Up low high (unknown_names declared earlier bs)

  -- a tail makes such a tree of one before it
  abbrev TailRises : ℕ → ℕ → (Tree → Tree) → Type 0
  TailRises low high f = (first : ℕ) (left : Tree) → TreeRises first low left → TreeRises first high (f left)

  abbrev SortRises : (low high : ℕ) (s : Sort) → Meaning s → Type 0
  SortRises low high source t = BindingsRise low high t.bound
  SortRises low high imports t = low ≤ high
  SortRises low high bindings t = BindingsRise low high t
  SortRises low high bind_rest t = BindingsRise low high t
  SortRises low high expr t = TreeRises low high t
  SortRises low high let_rest f = (at : ℕ) → TreeRises low high (f at)
  SortRises low high compare_tail f = TailRises low high f
  SortRises low high sum t = TreeRises low high t
  SortRises low high sum_tail f = TailRises low high f
  SortRises low high product t = TreeRises low high t
  SortRises low high product_tail f = TailRises low high f
  SortRises low high apply t = TreeRises low high t
  SortRises low high arguments f = (at : ℕ) → TailRises low high (f at)
  SortRises low high post t = TreeRises low high t
  SortRises low high dots f = TailRises low high f
  SortRises low high atom t = TreeRises low high t
  SortRises low high parts t = FieldsRise low high t
  SortRises low high more_parts t = FieldsRise low high t

  from : (low other high : ℕ) (t : Tree) → low ≤ other → TreeRises other high t → TreeRises low high t
  from low other high t le h known = rises-low itself place low other high (unknowns known t) le (h known)

  up_to : (low high other : ℕ) (t : Tree) → high ≤ other → TreeRises low high t → TreeRises low other t
  up_to low high other t le h known = rises-high itself place low high other (unknowns known t) le (h known)

  both : (low mid high : ℕ) (xs ys : List ℕ) → Up low mid xs → Up mid high ys → Up low high (xs ++ ys)
  both = rises-append itself place

  name-rises : (k high : ℕ) (b : Bool) → k < high → Up k high (if b then [] else place k ∷ [])
  name-rises k high true below = omega arith
  name-rises k high false below = (k, omega arith, refl, omega arith)

  -- two parts of a tree, one after the other
  applied-rises : (low mid high at : ℕ) (f a : Tree) → TreeRises low mid f → TreeRises mid high a → TreeRises low high (an_apply at f a)
  applied-rises low mid high at f a h h' known = both low mid high _ _ (h known) (h' known)

  -- an operator between them
  binary-rises : (low mid high at : ℕ) (o : Op) (left right : Tree) → TreeRises low mid left → TreeRises mid high right → TreeRises low high (binary at o left right)
  binary-rises low mid high at o left right h h' known = both low mid high _ _ (h known) (h' known)

  binding-rises : (low mid high : ℕ) (b : BindingTree) (bs : List BindingTree) → TreeRises low mid b.body → BindingsRise mid high bs → BindingsRise low high (b ∷ bs)
  binding-rises low mid high b bs h h' declared earlier =
      both low mid high _ _ (h (names_of (scope_after declared earlier))) (h' declared (earlier ++ b.x ∷ []))

  pub meaning-rises : {s : Sort} (k high : ℕ) (p : Phrase s) → k + width p ≤ high → SortRises k high s (meaning place k p)
  unfolding meaning width
  meaning-rises k high (whole i b) le = λ declared earlier.
      rises-low itself place k (k + width i) high _ (omega arith) (meaning-rises (k + width i) high b (omega arith) declared earlier)
  meaning-rises k high no_import le = omega arith
  meaning-rises k high (importing x i) le = omega arith
  meaning-rises k high no_binding le = λ declared earlier. omega arith
  meaning-rises k high (binding r) le = λ declared earlier.
      rises-low itself place k (k + 1) high _ (omega arith) (meaning-rises (k + 1) high r (omega arith) declared earlier)
  meaning-rises k high (simple x e b) le =
      binding-rises k (k + 2 + width e) high (record { x = x; at = place k; body = meaning place (k + 2) e }) (meaning place (k + 2 + width e) b)
      (from k (k + 2) (k + 2 + width e) (meaning place (k + 2) e) (omega arith) (meaning-rises (k + 2) (k + 2 + width e) e (omega arith)))
      (meaning-rises (k + 2 + width e) high b (omega arith))
  meaning-rises k high (recursive x e b) le =
      binding-rises k (k + 3 + width e) high (record { x = x; at = place (k + 1); body = a_fix (place k) x (meaning place (k + 3) e) })
      (meaning place (k + 3 + width e) b)
      (λ known. rises-low itself place k (k + 3) (k + 3 + width e) _ (omega arith) (meaning-rises (k + 3) (k + 3 + width e) e (omega arith) (x ∷ known)))
      (meaning-rises (k + 3 + width e) high b (omega arith))
  meaning-rises k high (fun x e) le = λ known. rises-low itself place k (k + 3) high _ (omega arith) (meaning-rises (k + 3) high e (omega arith) (x ∷ known))
  meaning-rises k high (fix x e) le = λ known. rises-low itself place k (k + 3) high _ (omega arith) (meaning-rises (k + 3) high e (omega arith) (x ∷ known))
  meaning-rises k high (local r) le = λ known. rises-low itself place k (k + 1) high _ (omega arith) (meaning-rises (k + 1) high r (omega arith) (place k) known)
  meaning-rises k high (choice c e f) le = λ known.
      both k (k + 3 + width c + width e) high _ _
      (both k (k + 2 + width c) (k + 3 + width c + width e) _ _
      (rises-low itself place k (k + 1) (k + 2 + width c) _ (omega arith) (meaning-rises (k + 1) (k + 2 + width c) c (omega arith) known))
      (meaning-rises (k + 2 + width c) (k + 3 + width c + width e) e (omega arith) known))
      (meaning-rises (k + 3 + width c + width e) high f (omega arith) known)
  meaning-rises k high (plain s t) le = meaning-rises (k + width s) high t (omega arith) k (meaning place k s) (meaning-rises k (k + width s) s (omega arith))
  meaning-rises k high (simple_in x e f) le = λ at known.
      both k (k + 3 + width e) high _ _
      (rises-low itself place k (k + 2) (k + 3 + width e) _ (omega arith) (meaning-rises (k + 2) (k + 3 + width e) e (omega arith) known))
      (meaning-rises (k + 3 + width e) high f (omega arith) (x ∷ known))
  meaning-rises k high (recursive_in x e f) le = λ at known.
      both k (k + 4 + width e) high _ _
      (rises-low itself place k (k + 3) (k + 4 + width e) _ (omega arith) (meaning-rises (k + 3) (k + 4 + width e) e (omega arith) (x ∷ known)))
      (meaning-rises (k + 4 + width e) high f (omega arith) (x ∷ known))
  meaning-rises k high no_compare le = λ first left h. up_to first k high left (omega arith) h
  meaning-rises k high (less s) le = λ first left h.
      binary-rises first (k + 1) high (place k) op.Less left (meaning place (k + 1) s) (up_to first k (k + 1) left (omega arith) h) (meaning-rises (k + 1) high s (omega arith))
  meaning-rises k high (equal s) le = λ first left h.
      binary-rises first (k + 1) high (place k) op.Equal left (meaning place (k + 1) s) (up_to first k (k + 1) left (omega arith) h) (meaning-rises (k + 1) high s (omega arith))
  meaning-rises k high (summed p t) le = meaning-rises (k + width p) high t (omega arith) k (meaning place k p) (meaning-rises k (k + width p) p (omega arith))
  meaning-rises k high no_sum le = λ first left h. up_to first k high left (omega arith) h
  meaning-rises k high (plus p t) le = λ first left h.
      meaning-rises (k + 1 + width p) high t (omega arith) first (binary (place k) op.Plus left (meaning place (k + 1) p))
      (binary-rises first (k + 1) (k + 1 + width p) (place k) op.Plus left (meaning place (k + 1) p) (up_to first k (k + 1) left (omega arith) h) (meaning-rises (k + 1) (k + 1 + width p) p (omega arith)))
  meaning-rises k high (minus p t) le = λ first left h.
      meaning-rises (k + 1 + width p) high t (omega arith) first (binary (place k) op.Minus left (meaning place (k + 1) p))
      (binary-rises first (k + 1) (k + 1 + width p) (place k) op.Minus left (meaning place (k + 1) p) (up_to first k (k + 1) left (omega arith) h) (meaning-rises (k + 1) (k + 1 + width p) p (omega arith)))
  meaning-rises k high (multiplied p t) le = meaning-rises (k + width p) high t (omega arith) k (meaning place k p) (meaning-rises k (k + width p) p (omega arith))
  meaning-rises k high no_product le = λ first left h. up_to first k high left (omega arith) h
  meaning-rises k high (times p t) le = λ first left h.
      meaning-rises (k + 1 + width p) high t (omega arith) first (binary (place k) op.Times left (meaning place (k + 1) p))
      (binary-rises first (k + 1) (k + 1 + width p) (place k) op.Times left (meaning place (k + 1) p) (up_to first k (k + 1) left (omega arith) h) (meaning-rises (k + 1) (k + 1 + width p) p (omega arith)))
  meaning-rises k high (applied p m) le = meaning-rises (k + width p) high m (omega arith) (place k) k (meaning place k p) (meaning-rises k (k + width p) p (omega arith))
  meaning-rises k high no_argument le = λ at first left h. up_to first k high left (omega arith) h
  meaning-rises k high (argument p m) le = λ at first left h.
      meaning-rises (k + width p) high m (omega arith) at first (an_apply at left (meaning place k p))
      (applied-rises first k (k + width p) at left (meaning place k p) h (meaning-rises k (k + width p) p (omega arith)))
  meaning-rises k high (posted x d) le = meaning-rises (k + width x) high d (omega arith) k (meaning place k x) (meaning-rises k (k + width x) x (omega arith))
  meaning-rises k high no_dot le = λ first left h. up_to first k high left (omega arith) h
  meaning-rises k high (dot label d) le = λ first left h.
      meaning-rises (k + 2) high d (omega arith) first (a_project (place (k + 1)) left label) (λ known. rises-high itself place first k (k + 2) (unknowns known left) (omega arith) (h known))
  meaning-rises k high (variable x) le = λ known. name-rises k high (is_known known x) (omega arith)
  meaning-rises k high (literal value) le = λ known. omega arith
  meaning-rises k high (truth value) le = λ known. omega arith
  meaning-rises k high (parens e) le = from k (k + 1) high (meaning place (k + 1) e) (omega arith) (meaning-rises (k + 1) high e (omega arith))
  meaning-rises k high (braces p) le = λ known. rises-low itself place k (k + 1) high _ (omega arith) (meaning-rises (k + 1) high p (omega arith) known)
  meaning-rises k high no_part le = λ known. omega arith
  meaning-rises k high (first_part label e p) le = λ known.
      both k (k + 2 + width e) high _ _
      (rises-low itself place k (k + 2) (k + 2 + width e) _ (omega arith) (meaning-rises (k + 2) (k + 2 + width e) e (omega arith) known))
      (meaning-rises (k + 2 + width e) high p (omega arith) known)
  meaning-rises k high last_part le = λ known. omega arith
  meaning-rises k high (next_part label e p) le = λ known.
      both k (k + 3 + width e) high _ _
      (rises-low itself place k (k + 3) (k + 3 + width e) _ (omega arith) (meaning-rises (k + 3) (k + 3 + width e) e (omega arith) known))
      (meaning-rises (k + 3 + width e) high p (omega arith) known)

pub first_unknown_is_least : FirstUnknownIsLeast
first_unknown_is_least text m declared fault is it =
    let t = is.text_of in
    let same : it.tree ≡ meaning (place_of t.tokens) 0 t.phrase = one_source m it.tree is.tree it.nodes is.nodes ∙ t.meant in
    let first : unknown_names declared [] (meaning (place_of t.tokens) 0 t.phrase).bound ≡ it.place ∷ it.later =
    ap (λ (tree : SourceTree). unknown_names declared [] tree.bound) (sym same) ∙ it.first in
    rises-least itself (place_of t.tokens) 0 (width t.phrase) it.place it.later
    (subst (Rises itself (place_of t.tokens) 0 (width t.phrase)) first
    (meaning-rises (place_of t.tokens) 0 (width t.phrase) t.phrase (omega arith) declared []))
    (λ i j first_low below low. places_rise text t.tokens t.has_tokens i j below (let all = width-terminals text t.tokens t.phrase t.spelled in omega arith))
