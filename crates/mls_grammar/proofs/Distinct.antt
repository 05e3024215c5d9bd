-- In a tree without doubles nothing is given twice.
use Rattle.std.proofs.Common.{◌≡◌, ◌≢◌, ℕ, zero, suc, ◌+◌, Bool, true, false, if◌then◌else◌, List, [], ◌∷◌, ◌++◌, map, refl, sym, ap, ◌∙◌, arith, Contains}
use Rattle.std.specs.Prelude.{◌||◌, bytes_eq}
use Rattle.std.specs.List.{list_any}
use Rattle.std.proofs.lemmas.Slice.Eq.{bytes_eq-Decides}
use Rattle.std.proofs.lemmas.List.Elements.{Contains-get_or, Contains-append_right}
use Rattle.mls_grammar.specs.declared.fault.Fault.{Fault}
use Rattle.mls_grammar.specs.declared.module.Op.TheVariants as op
use Rattle.mls_grammar.specs.Phrases.{Sort, source, imports, bindings, bind_rest, expr, let_rest, compare_tail, sum, sum_tail, product, product_tail, apply, arguments, post, dots, atom, parts, more_parts, Phrase, whole, no_import, importing, no_binding, binding, simple, recursive, fun, fix, local, choice, plain, simple_in, recursive_in, no_compare, less, equal, summed, no_sum, plus, minus, multiplied, no_product, times, applied, no_argument, argument, posted, no_dot, dot, variable, literal, truth, parens, braces, no_part, first_part, last_part, next_part, width}
use Rattle.mls_grammar.specs.Trees.{Tree, a_fix, an_apply, a_project, binary, BindingTree, meaning}
use Rattle.mls_grammar.specs.Modules.{AreDistinct, labels_of, HasDistinctLabels, HaveDistinctLabels, HasNoDoubles}
use Rattle.mls_grammar.specs.Doubles.{if_seen, doubles}

-- the name is none of these
abbrev pub Apart : List ℕ → List (List ℕ) → Type 0
Apart x [] = Unit {0}
Apart x (y ∷ ys) = (x ≢ y) × Apart x ys

-- none of these names is one of those, nor given twice
abbrev pub Fresh : List (List ℕ) → List (List ℕ) → Type 0
Fresh seen [] = Unit {0}
Fresh seen (x ∷ xs) = (list_any (bytes_eq x) seen ≡ false) × Fresh seen xs

rest-distinct : (x : List ℕ) (xs : List (List ℕ)) → AreDistinct (x ∷ xs) → AreDistinct xs
rest-distinct x xs h = λ i j d low high. h (suc i) (suc j) d (omega arith) (omega arith)

first-apart : (x : List ℕ) (xs : List (List ℕ)) → AreDistinct (x ∷ xs) → Apart x xs
first-apart x [] h = tt
first-apart x (y ∷ ys) h = (h 0 1 x (omega arith) (omega arith), first-apart x ys (drop-second h))
  where
    drop-second : AreDistinct (x ∷ y ∷ ys) → AreDistinct (x ∷ ys)
    drop-second h zero zero d low high = absurd (omega arith)
    drop-second h zero (suc j) d low high = h 0 (suc (suc j)) d (omega arith) (omega arith)
    drop-second h (suc i) zero d low high = absurd (omega arith)
    drop-second h (suc i) (suc j) d low high = h (suc (suc i)) (suc (suc j)) d (omega arith) (omega arith)

false_of : (b : Bool) → (b ≡ true → ⊥) → b ≡ false
false_of true h = absurd (h refl)
false_of false h = refl

or-false : (b c : Bool) → b ≡ false → c ≡ false → (b || c) ≡ false
or-false true c e e' = absurd (cc)
or-false false c e e' = e'

fresh-next : (seen : List (List ℕ)) (x : List ℕ) (xs : List (List ℕ)) → Fresh seen xs → Apart x xs → Fresh (x ∷ seen) xs
fresh-next seen x [] fresh apart = tt
fresh-next seen x (y ∷ ys) fresh apart =
    let other : bytes_eq y x ≡ false = false_of (bytes_eq y x) (λ e. apart.0 (sym ((bytes_eq-Decides y x).0 e))) in
    (or-false (bytes_eq y x) (list_any (bytes_eq y) seen) other fresh.0, fresh-next seen x ys fresh.1 apart.1)

fresh-nothing : (xs : List (List ℕ)) → Fresh [] xs
fresh-nothing [] = tt
fresh-nothing (x ∷ xs) = (refl, fresh-nothing xs)

fresh-fault : (seen : List (List ℕ)) (x : List ℕ) (fault : Fault) → list_any (bytes_eq x) seen ≡ false → if_seen seen x fault ≡ []
fresh-fault seen x fault e = ap (λ b. if b then fault ∷ [] else []) e

none : (xs ys : List Fault) → xs ≡ [] → ys ≡ [] → xs ++ ys ≡ []
none xs ys e e' = ap (λ zs. zs ++ ys) e ∙ e'

module _ (place : ℕ → ℕ) where
  -- a phrase of a tree without doubles has none; what a tail makes of a tree has none only if the tree has none
  abbrev Claim : (s : Sort) → List (List ℕ) → ℕ → Phrase s → Type 0
  Claim source seen k p = HasNoDoubles (meaning place k p) → doubles place seen k p ≡ []
  Claim imports seen k p = AreDistinct (map (λ i. i.x) (meaning place k p)) → Fresh seen (map (λ i. i.x) (meaning place k p)) → doubles place seen k p ≡ []
  Claim bindings seen k p =
      AreDistinct (map (λ b. b.x) (meaning place k p)) → Fresh seen (map (λ b. b.x) (meaning place k p))
      → ((b : BindingTree) → Contains (meaning place k p) b → HasDistinctLabels b.body) → doubles place seen k p ≡ []
  Claim bind_rest seen k p =
      AreDistinct (map (λ b. b.x) (meaning place k p)) → Fresh seen (map (λ b. b.x) (meaning place k p))
      → ((b : BindingTree) → Contains (meaning place k p) b → HasDistinctLabels b.body) → doubles place seen k p ≡ []
  Claim expr seen k p = HasDistinctLabels (meaning place k p) → doubles place seen k p ≡ []
  Claim let_rest seen k p = (at : ℕ) → HasDistinctLabels (meaning place k p at) → doubles place seen k p ≡ []
  Claim compare_tail seen k p = (left : Tree) → HasDistinctLabels (meaning place k p left) → (doubles place seen k p ≡ []) × HasDistinctLabels left
  Claim sum seen k p = HasDistinctLabels (meaning place k p) → doubles place seen k p ≡ []
  Claim sum_tail seen k p = (left : Tree) → HasDistinctLabels (meaning place k p left) → (doubles place seen k p ≡ []) × HasDistinctLabels left
  Claim product seen k p = HasDistinctLabels (meaning place k p) → doubles place seen k p ≡ []
  Claim product_tail seen k p = (left : Tree) → HasDistinctLabels (meaning place k p left) → (doubles place seen k p ≡ []) × HasDistinctLabels left
  Claim apply seen k p = HasDistinctLabels (meaning place k p) → doubles place seen k p ≡ []
  Claim arguments seen k p = (at : ℕ) (left : Tree) → HasDistinctLabels (meaning place k p at left) → (doubles place seen k p ≡ []) × HasDistinctLabels left
  Claim post seen k p = HasDistinctLabels (meaning place k p) → doubles place seen k p ≡ []
  Claim dots seen k p = (left : Tree) → HasDistinctLabels (meaning place k p left) → (doubles place seen k p ≡ []) × HasDistinctLabels left
  Claim atom seen k p = HasDistinctLabels (meaning place k p) → doubles place seen k p ≡ []
  Claim parts seen k p = AreDistinct (labels_of (meaning place k p)) → Fresh seen (labels_of (meaning place k p)) → HaveDistinctLabels (meaning place k p) → doubles place seen k p ≡ []
  Claim more_parts seen k p = AreDistinct (labels_of (meaning place k p)) → Fresh seen (labels_of (meaning place k p)) → HaveDistinctLabels (meaning place k p) → doubles place seen k p ≡ []

  pub clean : {s : Sort} (p : Phrase s) (seen : List (List ℕ)) (k : ℕ) → Claim s seen k p
  unfolding meaning doubles
  clean (whole i b) seen k = λ h. none _ _ (clean i [] k h.imported (fresh-nothing _)) (clean b [] (k + width i) h.bound (fresh-nothing _) h.labels)
  clean no_import seen k = λ d f. refl
  clean (importing x i) seen k = λ d f.
      let xs : List (List ℕ) = map (λ i. i.x) (meaning place (k + 2) i) in
      none _ _ (fresh-fault seen x _ f.0) (clean i (x ∷ seen) (k + 2) (rest-distinct x xs d) (fresh-next seen x xs f.1 (first-apart x xs d)))
  clean no_binding seen k = λ d f l. refl
  clean (binding r) seen k = λ d f l. clean r seen (k + 1) d f l
  clean (simple x e b) seen k = λ d f l.
      let later : List BindingTree = meaning place (k + 2 + width e) b in
      let first : BindingTree = record { x = x; at = place k; body = meaning place (k + 2) e } in
      let xs : List (List ℕ) = map (λ b. b.x) later in
      none _ _ (fresh-fault seen x _ f.0)
      (none _ _ (clean e [] (k + 2) (l first (Contains-get_or (first ∷ later) 0 first (omega arith))))
      (clean b (x ∷ seen) (k + 2 + width e) (rest-distinct x xs d) (fresh-next seen x xs f.1 (first-apart x xs d)) (λ t c. l t (Contains-append_right (first ∷ []) later t c))))
  clean (recursive x e b) seen k = λ d f l.
      let later : List BindingTree = meaning place (k + 3 + width e) b in
      let first : BindingTree = record { x = x; at = place (k + 1); body = a_fix (place k) x (meaning place (k + 3) e) } in
      let xs : List (List ℕ) = map (λ b. b.x) later in
      none _ _ (fresh-fault seen x _ f.0)
      (none _ _ (clean e [] (k + 3) (l first (Contains-get_or (first ∷ later) 0 first (omega arith))))
      (clean b (x ∷ seen) (k + 3 + width e) (rest-distinct x xs d) (fresh-next seen x xs f.1 (first-apart x xs d)) (λ t c. l t (Contains-append_right (first ∷ []) later t c))))
  clean (fun x e) seen k = λ h. clean e [] (k + 3) h
  clean (fix x e) seen k = λ h. clean e [] (k + 3) h
  clean (local r) seen k = λ h. clean r [] (k + 1) (place k) h
  clean (choice c e f) seen k = λ h. none _ _ (clean c [] (k + 1) h.0) (none _ _ (clean e [] (k + 2 + width c) h.1) (clean f [] (k + 3 + width c + width e) h.2))
  clean (plain s t) seen k = λ h. let tail = clean t [] (k + width s) (meaning place k s) h in none _ _ (clean s [] k tail.1) tail.0
  clean (simple_in x e f) seen k = λ at h. none _ _ (clean e [] (k + 2) h.0) (clean f [] (k + 3 + width e) h.1)
  clean (recursive_in x e f) seen k = λ at h. none _ _ (clean e [] (k + 3) h.0) (clean f [] (k + 4 + width e) h.1)
  clean no_compare seen k = λ left h. (refl, h)
  clean (less s) seen k = λ left h. (clean s [] (k + 1) h.1, h.0.1)
  clean (equal s) seen k = λ left h. (clean s [] (k + 1) h.1, h.0.1)
  clean (summed p t) seen k = λ h. let tail = clean t [] (k + width p) (meaning place k p) h in none _ _ (clean p [] k tail.1) tail.0
  clean no_sum seen k = λ left h. (refl, h)
  clean (plus p t) seen k = λ left h.
      let tail = clean t [] (k + 1 + width p) (binary (place k) op.Plus left (meaning place (k + 1) p)) h in
      (none _ _ (clean p [] (k + 1) tail.1.1) tail.0, tail.1.0.1)
  clean (minus p t) seen k = λ left h.
      let tail = clean t [] (k + 1 + width p) (binary (place k) op.Minus left (meaning place (k + 1) p)) h in
      (none _ _ (clean p [] (k + 1) tail.1.1) tail.0, tail.1.0.1)
  clean (multiplied p t) seen k = λ h. let tail = clean t [] (k + width p) (meaning place k p) h in none _ _ (clean p [] k tail.1) tail.0
  clean no_product seen k = λ left h. (refl, h)
  clean (times p t) seen k = λ left h.
      let tail = clean t [] (k + 1 + width p) (binary (place k) op.Times left (meaning place (k + 1) p)) h in
      (none _ _ (clean p [] (k + 1) tail.1.1) tail.0, tail.1.0.1)
  clean (applied p m) seen k = λ h. let tail = clean m [] (k + width p) (place k) (meaning place k p) h in none _ _ (clean p [] k tail.1) tail.0
  clean no_argument seen k = λ at left h. (refl, h)
  clean (argument p m) seen k = λ at left h.
      let tail = clean m [] (k + width p) at (an_apply at left (meaning place k p)) h in
      (none _ _ (clean p [] k tail.1.1) tail.0, tail.1.0)
  clean (posted x d) seen k = λ h. let tail = clean d [] (k + width x) (meaning place k x) h in none _ _ (clean x [] k tail.1) tail.0
  clean no_dot seen k = λ left h. (refl, h)
  clean (dot label d) seen k = λ left h. clean d [] (k + 2) (a_project (place (k + 1)) left label) h
  clean (variable x) seen k = λ h. refl
  clean (literal value) seen k = λ h. refl
  clean (truth value) seen k = λ h. refl
  clean (parens e) seen k = λ h. clean e [] (k + 1) h
  clean (braces p) seen k = λ h. clean p [] (k + 1) h.0 (fresh-nothing _) h.1
  clean no_part seen k = λ d f l. refl
  clean (first_part label e p) seen k = λ d f l.
      let xs : List (List ℕ) = labels_of (meaning place (k + 2 + width e) p) in
      none _ _ (fresh-fault seen label _ f.0)
      (none _ _ (clean e [] (k + 2) l.0)
      (clean p (label ∷ seen) (k + 2 + width e) (rest-distinct label xs d) (fresh-next seen label xs f.1 (first-apart label xs d)) l.1))
  clean last_part seen k = λ d f l. refl
  clean (next_part label e p) seen k = λ d f l.
      let xs : List (List ℕ) = labels_of (meaning place (k + 3 + width e) p) in
      none _ _ (fresh-fault seen label _ f.0)
      (none _ _ (clean e [] (k + 3) l.0)
      (clean p (label ∷ seen) (k + 3 + width e) (rest-distinct label xs d) (fresh-next seen label xs f.1 (first-apart label xs d)) l.1))
