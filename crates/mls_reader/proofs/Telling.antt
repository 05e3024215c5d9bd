-- What a phrase emits tells the tree that the phrase stands for.
use Rattle.std.proofs.Common.{◌≡◌, ℕ, ◌+◌, List, [], ◌∷◌, ◌++◌, map, refl, sym, ap, ◌∙◌, subst, append-nil}
use Rattle.std.proofs.lemmas.List.{append_assoc}
use Rattle.mls_grammar.specs.declared.module.Op.{Op}
use Rattle.mls_grammar.specs.declared.module.Op.TheVariants as op
use Rattle.mls_reader.specs.declared.piece.Piece.{Piece}
use Rattle.mls_reader.specs.declared.piece.Piece.TheVariants as piece
use Rattle.mls_grammar.specs.Phrases.{Sort, source, imports, bindings, bind_rest, expr, let_rest, compare_tail, sum, sum_tail, product, product_tail, apply, arguments, post, dots, atom, parts, more_parts, Phrase, whole, no_import, importing, no_binding, binding, simple, recursive, fun, fix, local, choice, plain, simple_in, recursive_in, no_compare, less, equal, summed, no_sum, plus, minus, multiplied, no_product, times, applied, no_argument, argument, posted, no_dot, dot, variable, literal, truth, parens, braces, no_part, first_part, last_part, next_part, width}
use Rattle.mls_grammar.specs.Trees.{Tree, an_apply, a_project, a_fix, binary, Meaning, meaning}
use Rattle.mls_reader.specs.steps.Pieces.{emitted}
use Rattle.mls_reader.specs.steps.Told.{Tells, tells_name, tells_number, tells_truth, tells_fun, tells_fix, tells_let, tells_if, tells_apply, tells_binary, tells_make, tells_project, TellFields, tells_none, tells_part, TellBindings, TellsSource}

-- these pieces, behind those of what stands before a tail, tell what the tail makes of it
abbrev TellBehind : (Tree → Tree) → List Piece → Type 0
TellBehind f out = (left : Tree) (front : List Piece) → Tells front left → Tells (front ++ out) (f left)

-- these pieces tell what a phrase of the sort stands for, where its application or its `let` stands at the place
abbrev pub TellMeaning : (s : Sort) → ℕ → Meaning s → List Piece → Type 0
TellMeaning source at tree out = TellsSource out tree
TellMeaning imports at trees out = out ≡ map (λ i. piece.Import i.at i.x) trees
TellMeaning bindings at trees out = TellBindings out trees
TellMeaning bind_rest at trees out = TellBindings out trees
TellMeaning expr at t out = Tells out t
TellMeaning let_rest at f out = Tells out (f at)
TellMeaning compare_tail at f out = TellBehind f out
TellMeaning sum at t out = Tells out t
TellMeaning sum_tail at f out = TellBehind f out
TellMeaning product at t out = Tells out t
TellMeaning product_tail at f out = TellBehind f out
TellMeaning apply at t out = Tells out t
TellMeaning arguments at f out = TellBehind (f at) out
TellMeaning post at t out = Tells out t
TellMeaning dots at f out = TellBehind f out
TellMeaning atom at t out = Tells out t
TellMeaning parts at fields out = TellFields out fields
TellMeaning more_parts at fields out = TellFields out fields

-- no tail
none_behind : TellBehind (λ left. left) []
none_behind left front h = subst (λ out. Tells out left) (sym (append-nil front)) h

-- an operand with its operator, before the tail that follows them
operand_behind : (at : ℕ) (o : Op) (right : Tree) (f : Tree → Tree) (told later : List Piece) → Tells told right → TellBehind f later
    → TellBehind (λ left. f (binary at o left right)) (told ++ (piece.Binary at o ∷ later))
operand_behind at o right f told later h rest left front before =
    let all = rest (binary at o left right) (front ++ (told ++ piece.Binary at o ∷ [])) (tells_binary at o left right front told before h refl refl) in
    let same = append_assoc front (told ++ piece.Binary at o ∷ []) later ∙ ap (λ out. front ++ out) (append_assoc told (piece.Binary at o ∷ []) later) in
    subst (λ out. Tells out (f (binary at o left right))) same all

-- an argument, before those that follow it
argument_behind : (at : ℕ) (right : Tree) (f : Tree → Tree) (told later : List Piece) → Tells told right → TellBehind f later
    → TellBehind (λ left. f (an_apply at left right)) (told ++ (piece.Apply at ∷ later))
argument_behind at right f told later h rest left front before =
    let all = rest (an_apply at left right) (front ++ (told ++ piece.Apply at ∷ [])) (tells_apply at left right front told before h refl refl) in
    let same = append_assoc front (told ++ piece.Apply at ∷ []) later ∙ ap (λ out. front ++ out) (append_assoc told (piece.Apply at ∷ []) later) in
    subst (λ out. Tells out (f (an_apply at left right))) same all

-- a label, before those that follow it
label_behind : (at : ℕ) (label : List ℕ) (f : Tree → Tree) (later : List Piece) → TellBehind f later
    → TellBehind (λ left. f (a_project at left label)) (piece.Project at label ∷ later)
label_behind at label f later rest left front before =
    let all = rest (a_project at left label) (front ++ piece.Project at label ∷ []) (tells_project at left label front before refl refl) in
    subst (λ out. Tells out (f (a_project at left label))) (append_assoc front (piece.Project at label ∷ []) later) all

pub emitted-meaning : (place : ℕ → ℕ) {s : Sort} (at k : ℕ) (p : Phrase s) → TellMeaning s at (meaning place k p) (emitted place at k p)
unfolding emitted meaning
emitted-meaning place at k (whole i b) = record {
  rest = emitted place at (k + width i) b;
  bound = emitted-meaning place at (k + width i) b;
  all = ap (λ out. out ++ emitted place at (k + width i) b) (emitted-meaning place at k i);
}
emitted-meaning place at k no_import = refl
emitted-meaning place at k (importing x i) = ap (λ out. piece.Import (place (k + 1)) x ∷ out) (emitted-meaning place at (k + 2) i)
emitted-meaning place at k no_binding = refl
emitted-meaning place at k (binding r) = emitted-meaning place at (k + 1) r
emitted-meaning place at k (simple x e b) = (
  emitted place at (k + 2) e,
  emitted place at (k + 2 + width e) b,
  emitted-meaning place at (k + 2) e,
  emitted-meaning place at (k + 2 + width e) b,
  refl,
)
emitted-meaning place at k (recursive x e b) = (
  emitted place at (k + 3) e ++ piece.Rec (place k) x ∷ [],
  emitted place at (k + 3 + width e) b,
  tells_fix (place k) x (meaning place (k + 3) e) (emitted place at (k + 3) e) (emitted-meaning place at (k + 3) e) refl refl,
  emitted-meaning place at (k + 3 + width e) b,
  sym (append_assoc (emitted place at (k + 3) e) (piece.Rec (place k) x ∷ []) (piece.Binding (place (k + 1)) x ∷ emitted place at (k + 3 + width e) b)),
)
emitted-meaning place at k (fun x e) = tells_fun (place k) x (meaning place (k + 3) e) (emitted place at (k + 3) e) (emitted-meaning place at (k + 3) e) refl refl
emitted-meaning place at k (fix x e) = tells_fix (place k) x (meaning place (k + 3) e) (emitted place at (k + 3) e) (emitted-meaning place at (k + 3) e) refl refl
emitted-meaning place at k (local r) = emitted-meaning place (place k) (k + 1) r
emitted-meaning place at k (choice c e f) =
    let m = k + 2 + width c in
    let n = k + 3 + width c + width e in
    tells_if (place k) (meaning place (k + 1) c) (meaning place m e) (meaning place n f) (emitted place at (k + 1) c) (emitted place at m e) (emitted place at n f)
    (emitted-meaning place at (k + 1) c) (emitted-meaning place at m e) (emitted-meaning place at n f) refl refl
emitted-meaning place at k (plain s t) = emitted-meaning place at (k + width s) t (meaning place k s) (emitted place at k s) (emitted-meaning place at k s)
emitted-meaning place at k (simple_in x e f) =
    let n = k + 3 + width e in
    tells_let at x (meaning place (k + 2) e) (meaning place n f) (emitted place at (k + 2) e) (emitted place at n f)
    (emitted-meaning place at (k + 2) e) (emitted-meaning place at n f) refl refl
emitted-meaning place at k (recursive_in x e f) =
    let n = k + 4 + width e in
    let first = emitted place at (k + 3) e in
    tells_let at x (a_fix (place k) x (meaning place (k + 3) e)) (meaning place n f) (first ++ piece.Rec (place k) x ∷ []) (emitted place at n f)
    (tells_fix (place k) x (meaning place (k + 3) e) first (emitted-meaning place at (k + 3) e) refl refl) (emitted-meaning place at n f)
    (sym (append_assoc first (piece.Rec (place k) x ∷ []) (emitted place at n f ++ piece.Let at x ∷ []))) refl
emitted-meaning place at k no_compare = none_behind
emitted-meaning place at k (less s) = operand_behind (place k) op.Less (meaning place (k + 1) s) (λ left. left) (emitted place at (k + 1) s) [] (emitted-meaning place at (k + 1) s) none_behind
emitted-meaning place at k (equal s) = operand_behind (place k) op.Equal (meaning place (k + 1) s) (λ left. left) (emitted place at (k + 1) s) [] (emitted-meaning place at (k + 1) s) none_behind
emitted-meaning place at k (summed p t) = emitted-meaning place at (k + width p) t (meaning place k p) (emitted place at k p) (emitted-meaning place at k p)
emitted-meaning place at k no_sum = none_behind
emitted-meaning place at k (plus p t) =
    let n = k + 1 + width p in
    operand_behind (place k) op.Plus (meaning place (k + 1) p) (meaning place n t) (emitted place at (k + 1) p) (emitted place at n t)
    (emitted-meaning place at (k + 1) p) (emitted-meaning place at n t)
emitted-meaning place at k (minus p t) =
    let n = k + 1 + width p in
    operand_behind (place k) op.Minus (meaning place (k + 1) p) (meaning place n t) (emitted place at (k + 1) p) (emitted place at n t)
    (emitted-meaning place at (k + 1) p) (emitted-meaning place at n t)
emitted-meaning place at k (multiplied p t) = emitted-meaning place at (k + width p) t (meaning place k p) (emitted place at k p) (emitted-meaning place at k p)
emitted-meaning place at k no_product = none_behind
emitted-meaning place at k (times p t) =
    let n = k + 1 + width p in
    operand_behind (place k) op.Times (meaning place (k + 1) p) (meaning place n t) (emitted place at (k + 1) p) (emitted place at n t)
    (emitted-meaning place at (k + 1) p) (emitted-meaning place at n t)
emitted-meaning place at k (applied p m) =
    emitted-meaning place (place k) (k + width p) m (meaning place k p) (emitted place at k p) (emitted-meaning place at k p)
emitted-meaning place at k no_argument = none_behind
emitted-meaning place at k (argument p m) =
    let n = k + width p in
    argument_behind at (meaning place k p) (meaning place n m at) (emitted place at k p) (emitted place at n m) (emitted-meaning place at k p) (emitted-meaning place at n m)
emitted-meaning place at k (posted x d) = emitted-meaning place at (k + width x) d (meaning place k x) (emitted place at k x) (emitted-meaning place at k x)
emitted-meaning place at k no_dot = none_behind
emitted-meaning place at k (dot label d) = label_behind (place (k + 1)) label (meaning place (k + 2) d) (emitted place at (k + 2) d) (emitted-meaning place at (k + 2) d)
emitted-meaning place at k (variable x) = tells_name (place k) x refl refl
emitted-meaning place at k (literal value) = tells_number (place k) value refl refl
emitted-meaning place at k (truth value) = tells_truth (place k) value refl refl
emitted-meaning place at k (parens e) = emitted-meaning place at (k + 1) e
emitted-meaning place at k (braces p) = tells_make (place k) (meaning place (k + 1) p) (emitted place at (k + 1) p) (emitted-meaning place at (k + 1) p) refl refl
emitted-meaning place at k no_part = tells_none refl refl
emitted-meaning place at k (first_part label e p) =
    let n = k + 2 + width e in
    tells_part label (meaning place (k + 2) e) (meaning place n p) (emitted place at (k + 2) e) (emitted place at n p)
    (emitted-meaning place at (k + 2) e) (emitted-meaning place at n p) refl refl
emitted-meaning place at k last_part = tells_none refl refl
emitted-meaning place at k (next_part label e p) =
    let n = k + 3 + width e in
    tells_part label (meaning place (k + 3) e) (meaning place n p) (emitted place at (k + 3) e) (emitted place at n p)
    (emitted-meaning place at (k + 3) e) (emitted-meaning place at n p) refl refl

-- so the pieces of a module tell its tree
pub emitted-tells : (place : ℕ → ℕ) (at : ℕ) (p : Phrase source) → TellsSource (emitted place at 0 p) (meaning place 0 p)
emitted-tells place at p = emitted-meaning place at 0 p
