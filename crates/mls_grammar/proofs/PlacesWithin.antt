-- All places of a module lie within its text.
pub use Rattle.mls_lexer.proofs.TokensWithin.{place-within}
use Rattle.std.proofs.Common.{ℕ, ◌+◌, ◌≤◌, Bool, true, false, if◌then◌else◌, List, [], ◌∷◌, ◌++◌}
use Rattle.std.specs.Prelude.{bytes_eq}
use Rattle.std.specs.List.{list_any}
use Rattle.mls_grammar.specs.declared.fault.Fault.{Fault}
use Rattle.mls_grammar.specs.declared.fault.Fault.TheVariants.{DuplicateBinding, DuplicateLabel, DuplicateImport}
use Rattle.mls_grammar.specs.Phrases.{Sort, source, imports, bindings, bind_rest, expr, let_rest, compare_tail, sum, sum_tail, product, product_tail, apply, arguments, post, dots, atom, parts, more_parts, Phrase, whole, no_import, importing, no_binding, binding, simple, recursive, fun, fix, local, choice, plain, simple_in, recursive_in, no_compare, less, equal, summed, no_sum, plus, minus, multiplied, no_product, times, applied, no_argument, argument, posted, no_dot, dot, variable, literal, truth, parens, braces, no_part, first_part, last_part, next_part, width}
use Rattle.mls_grammar.specs.Trees.{Tree, a_name, an_operator, a_number, a_truth, a_fun, a_fix, a_let, an_if, an_apply, a_make, a_project, Fields, no_field, a_field, ImportTree, BindingTree, Meaning, meaning}
use Rattle.mls_grammar.specs.Doubles.{if_seen, doubles}
use Rattle.mls_grammar.specs.Faults.{fault_place}

-- all places of a tree are at most n
abbrev mutual
  pub TreeWithin : ℕ → Tree → Type 0
  TreeWithin n (a_name at x) = at ≤ n
  TreeWithin n (an_operator at o) = at ≤ n
  TreeWithin n (a_number at value) = at ≤ n
  TreeWithin n (a_truth at value) = at ≤ n
  TreeWithin n (a_fun at x e) = (at ≤ n) × TreeWithin n e
  TreeWithin n (a_fix at x e) = (at ≤ n) × TreeWithin n e
  TreeWithin n (a_let at x e f) = (at ≤ n) × TreeWithin n e × TreeWithin n f
  TreeWithin n (an_if at c e f) = (at ≤ n) × TreeWithin n c × TreeWithin n e × TreeWithin n f
  TreeWithin n (an_apply at f a) = (at ≤ n) × TreeWithin n f × TreeWithin n a
  TreeWithin n (a_make at fields) = (at ≤ n) × FieldsWithin n fields
  TreeWithin n (a_project at e label) = (at ≤ n) × TreeWithin n e

  pub FieldsWithin : ℕ → Fields → Type 0
  FieldsWithin n no_field = Unit {0}
  FieldsWithin n (a_field label e rest) = TreeWithin n e × FieldsWithin n rest

abbrev pub ImportsWithin : ℕ → List ImportTree → Type 0
ImportsWithin n [] = Unit {0}
ImportsWithin n (i ∷ is) = (i.at ≤ n) × ImportsWithin n is

abbrev pub BindingsWithin : ℕ → List BindingTree → Type 0
BindingsWithin n [] = Unit {0}
BindingsWithin n (b ∷ bs) = (b.at ≤ n) × TreeWithin n b.body × BindingsWithin n bs

abbrev pub FaultsWithin : ℕ → List Fault → Type 0
FaultsWithin n [] = Unit {0}
FaultsWithin n (f ∷ fs) = (fault_place n f ≤ n) × FaultsWithin n fs

faults-append : (n : ℕ) (xs ys : List Fault) → FaultsWithin n xs → FaultsWithin n ys → FaultsWithin n (xs ++ ys)
faults-append n [] ys h h' = h'
faults-append n (x ∷ xs) ys h h' = (h.0, faults-append n xs ys h.1 h')

if_seen-within : (n : ℕ) (b : Bool) (fault : Fault) → fault_place n fault ≤ n → FaultsWithin n (if b then fault ∷ [] else [])
if_seen-within n true fault h = (h, tt)
if_seen-within n false fault h = tt

module _ (n : ℕ) (place : ℕ → ℕ) (low : (k : ℕ) → place k ≤ n) where
  -- what a phrase stands for has places within; a tail makes such a tree of one
  abbrev Within : (s : Sort) → Meaning s → Type 0
  Within source t = ImportsWithin n t.imported × BindingsWithin n t.bound
  Within imports t = ImportsWithin n t
  Within bindings t = BindingsWithin n t
  Within bind_rest t = BindingsWithin n t
  Within expr t = TreeWithin n t
  Within let_rest f = (at : ℕ) → at ≤ n → TreeWithin n (f at)
  Within compare_tail f = (left : Tree) → TreeWithin n left → TreeWithin n (f left)
  Within sum t = TreeWithin n t
  Within sum_tail f = (left : Tree) → TreeWithin n left → TreeWithin n (f left)
  Within product t = TreeWithin n t
  Within product_tail f = (left : Tree) → TreeWithin n left → TreeWithin n (f left)
  Within apply t = TreeWithin n t
  Within arguments f = (at : ℕ) → at ≤ n → (left : Tree) → TreeWithin n left → TreeWithin n (f at left)
  Within post t = TreeWithin n t
  Within dots f = (left : Tree) → TreeWithin n left → TreeWithin n (f left)
  Within atom t = TreeWithin n t
  Within parts t = FieldsWithin n t
  Within more_parts t = FieldsWithin n t

  pub meaning-within : {s : Sort} (k : ℕ) (p : Phrase s) → Within s (meaning place k p)
  unfolding meaning
  meaning-within k (whole i b) = (meaning-within k i, meaning-within (k + width i) b)
  meaning-within k no_import = tt
  meaning-within k (importing x i) = (low (k + 1), meaning-within (k + 2) i)
  meaning-within k no_binding = tt
  meaning-within k (binding r) = meaning-within (k + 1) r
  meaning-within k (simple x e b) = (low k, meaning-within (k + 2) e, meaning-within (k + 2 + width e) b)
  meaning-within k (recursive x e b) = (low (k + 1), (low k, meaning-within (k + 3) e), meaning-within (k + 3 + width e) b)
  meaning-within k (fun x e) = (low k, meaning-within (k + 3) e)
  meaning-within k (fix x e) = (low k, meaning-within (k + 3) e)
  meaning-within k (local r) = meaning-within (k + 1) r (place k) (low k)
  meaning-within k (choice c e f) = (low k, meaning-within (k + 1) c, meaning-within (k + 2 + width c) e, meaning-within (k + 3 + width c + width e) f)
  meaning-within k (plain s t) = meaning-within (k + width s) t (meaning place k s) (meaning-within k s)
  meaning-within k (simple_in x e f) = λ at h. (h, meaning-within (k + 2) e, meaning-within (k + 3 + width e) f)
  meaning-within k (recursive_in x e f) = λ at h. (h, (low k, meaning-within (k + 3) e), meaning-within (k + 4 + width e) f)
  meaning-within k no_compare = λ left h. h
  meaning-within k (less s) = λ left h. (low k, (low k, low k, h), meaning-within (k + 1) s)
  meaning-within k (equal s) = λ left h. (low k, (low k, low k, h), meaning-within (k + 1) s)
  meaning-within k (summed p t) = meaning-within (k + width p) t (meaning place k p) (meaning-within k p)
  meaning-within k no_sum = λ left h. h
  meaning-within k (plus p t) = λ left h. meaning-within (k + 1 + width p) t _ (low k, (low k, low k, h), meaning-within (k + 1) p)
  meaning-within k (minus p t) = λ left h. meaning-within (k + 1 + width p) t _ (low k, (low k, low k, h), meaning-within (k + 1) p)
  meaning-within k (multiplied p t) = meaning-within (k + width p) t (meaning place k p) (meaning-within k p)
  meaning-within k no_product = λ left h. h
  meaning-within k (times p t) = λ left h. meaning-within (k + 1 + width p) t _ (low k, (low k, low k, h), meaning-within (k + 1) p)
  meaning-within k (applied p m) = meaning-within (k + width p) m (place k) (low k) (meaning place k p) (meaning-within k p)
  meaning-within k no_argument = λ at h left h'. h'
  meaning-within k (argument p m) = λ at h left h'. meaning-within (k + width p) m at h _ (h, h', meaning-within k p)
  meaning-within k (posted x d) = meaning-within (k + width x) d (meaning place k x) (meaning-within k x)
  meaning-within k no_dot = λ left h. h
  meaning-within k (dot label d) = λ left h. meaning-within (k + 2) d _ (low (k + 1), h)
  meaning-within k (variable x) = low k
  meaning-within k (literal value) = low k
  meaning-within k (truth value) = low k
  meaning-within k (parens e) = meaning-within (k + 1) e
  meaning-within k (braces p) = (low k, meaning-within (k + 1) p)
  meaning-within k no_part = tt
  meaning-within k (first_part label e p) = (meaning-within (k + 2) e, meaning-within (k + 2 + width e) p)
  meaning-within k last_part = tt
  meaning-within k (next_part label e p) = (meaning-within (k + 3) e, meaning-within (k + 3 + width e) p)

  both : (xs ys : List Fault) → FaultsWithin n xs → FaultsWithin n ys → FaultsWithin n (xs ++ ys)
  both = faults-append n

  seen-within : (seen : List (List ℕ)) (x : List ℕ) (fault : Fault) → fault_place n fault ≤ n → FaultsWithin n (if_seen seen x fault)
  seen-within seen x fault h = if_seen-within n (list_any (bytes_eq x) seen) fault h

  pub doubles-within : {s : Sort} (seen : List (List ℕ)) (k : ℕ) (p : Phrase s) → FaultsWithin n (doubles place seen k p)
  unfolding doubles
  doubles-within seen k (whole i b) = both _ _ (doubles-within [] k i) (doubles-within [] (k + width i) b)
  doubles-within seen k no_import = tt
  doubles-within seen k (importing x i) = both _ _ (seen-within seen x (DuplicateImport (place (k + 1))) (low (k + 1))) (doubles-within (x ∷ seen) (k + 2) i)
  doubles-within seen k no_binding = tt
  doubles-within seen k (binding r) = doubles-within seen (k + 1) r
  doubles-within seen k (simple x e b) =
      both _ _ (seen-within seen x (DuplicateBinding (place k)) (low k)) (both _ _ (doubles-within [] (k + 2) e) (doubles-within (x ∷ seen) (k + 2 + width e) b))
  doubles-within seen k (recursive x e b) =
      both _ _ (seen-within seen x (DuplicateBinding (place (k + 1))) (low (k + 1))) (both _ _ (doubles-within [] (k + 3) e) (doubles-within (x ∷ seen) (k + 3 + width e) b))
  doubles-within seen k (fun x e) = doubles-within [] (k + 3) e
  doubles-within seen k (fix x e) = doubles-within [] (k + 3) e
  doubles-within seen k (local r) = doubles-within [] (k + 1) r
  doubles-within seen k (choice c e f) = both _ _ (doubles-within [] (k + 1) c) (both _ _ (doubles-within [] (k + 2 + width c) e) (doubles-within [] (k + 3 + width c + width e) f))
  doubles-within seen k (plain s t) = both _ _ (doubles-within [] k s) (doubles-within [] (k + width s) t)
  doubles-within seen k (simple_in x e f) = both _ _ (doubles-within [] (k + 2) e) (doubles-within [] (k + 3 + width e) f)
  doubles-within seen k (recursive_in x e f) = both _ _ (doubles-within [] (k + 3) e) (doubles-within [] (k + 4 + width e) f)
  doubles-within seen k no_compare = tt
  doubles-within seen k (less s) = doubles-within [] (k + 1) s
  doubles-within seen k (equal s) = doubles-within [] (k + 1) s
  doubles-within seen k (summed p t) = both _ _ (doubles-within [] k p) (doubles-within [] (k + width p) t)
  doubles-within seen k no_sum = tt
  doubles-within seen k (plus p t) = both _ _ (doubles-within [] (k + 1) p) (doubles-within [] (k + 1 + width p) t)
  doubles-within seen k (minus p t) = both _ _ (doubles-within [] (k + 1) p) (doubles-within [] (k + 1 + width p) t)
  doubles-within seen k (multiplied p t) = both _ _ (doubles-within [] k p) (doubles-within [] (k + width p) t)
  doubles-within seen k no_product = tt
  doubles-within seen k (times p t) = both _ _ (doubles-within [] (k + 1) p) (doubles-within [] (k + 1 + width p) t)
  doubles-within seen k (applied p m) = both _ _ (doubles-within [] k p) (doubles-within [] (k + width p) m)
  doubles-within seen k no_argument = tt
  doubles-within seen k (argument p m) = both _ _ (doubles-within [] k p) (doubles-within [] (k + width p) m)
  doubles-within seen k (posted x d) = both _ _ (doubles-within [] k x) (doubles-within [] (k + width x) d)
  doubles-within seen k no_dot = tt
  doubles-within seen k (dot label d) = doubles-within [] (k + 2) d
  doubles-within seen k (variable x) = tt
  doubles-within seen k (literal value) = tt
  doubles-within seen k (truth value) = tt
  doubles-within seen k (parens e) = doubles-within [] (k + 1) e
  doubles-within seen k (braces p) = doubles-within [] (k + 1) p
  doubles-within seen k no_part = tt
  doubles-within seen k (first_part label e p) =
      both _ _ (seen-within seen label (DuplicateLabel (place k)) (low k)) (both _ _ (doubles-within [] (k + 2) e) (doubles-within (label ∷ seen) (k + 2 + width e) p))
  doubles-within seen k last_part = tt
  doubles-within seen k (next_part label e p) =
      both _ _ (seen-within seen label (DuplicateLabel (place (k + 1))) (low (k + 1))) (both _ _ (doubles-within [] (k + 3) e) (doubles-within (label ∷ seen) (k + 3 + width e) p))
