-- A phrase in which nothing is given twice stands for a tree without doubles.
use Rattle.std.proofs.Common.{◌≡◌, ◌≢◌, ℕ, zero, suc, ◌+◌, ◌<◌, Bool, true, false, if◌then◌else◌, List, [], ◌∷◌, ◌++◌, map, length, sym, subst, arith, Contains}
use Rattle.std.specs.Prelude.{◌||◌, bytes_eq, slice_index_or}
use Rattle.std.specs.List.{list_any, All}
use Rattle.std.proofs.lemmas.Slice.Eq.{bytes_eq-Decides}
use Rattle.std.proofs.lemmas.List.Elements.{All-nil, All-cons}
use Rattle.std.proofs.lemmas.List.Kept.{AllPairs-cons}
use Rattle.mls_grammar.specs.declared.fault.Fault.{Fault}
use Rattle.mls_grammar.specs.declared.module.Op.TheVariants as op
use Rattle.mls_grammar.specs.Phrases.{Sort, source, imports, bindings, bind_rest, expr, let_rest, compare_tail, sum, sum_tail, product, product_tail, apply, arguments, post, dots, atom, parts, more_parts, Phrase, whole, no_import, importing, no_binding, binding, simple, recursive, fun, fix, local, choice, plain, simple_in, recursive_in, no_compare, less, equal, summed, no_sum, plus, minus, multiplied, no_product, times, applied, no_argument, argument, posted, no_dot, dot, variable, literal, truth, parens, braces, no_part, first_part, last_part, next_part, width}
use Rattle.mls_grammar.specs.Trees.{Tree, a_fix, an_apply, a_project, binary, BindingTree, meaning}
use Rattle.mls_grammar.specs.Modules.{AreDistinct, labels_of, HasDistinctLabels, HaveDistinctLabels, HasNoDoubles}
use Rattle.mls_grammar.specs.Doubles.{if_seen, doubles}
use Rattle.mls_grammar.proofs.Distinct.{Fresh}

no-left : (xs ys : List Fault) → xs ++ ys ≡ [] → xs ≡ []
no-left [] ys e = λ i. []
no-left (x ∷ xs) ys e = absurd (cc)

no-right : (xs ys : List Fault) → xs ++ ys ≡ [] → ys ≡ []
no-right [] ys e = e
no-right (x ∷ xs) ys e = absurd (cc)

or-left : (b c : Bool) → (b || c) ≡ false → b ≡ false
or-left true c e = absurd (cc)
or-left false c e = λ i. false

or-right : (b c : Bool) → (b || c) ≡ false → c ≡ false
or-right true c e = absurd (cc)
or-right false c e = e

unseen : (b : Bool) (fault : Fault) → (if b then fault ∷ [] else []) ≡ [] → b ≡ false
unseen true fault e = absurd (cc)
unseen false fault e = λ i. false

other_name : (x y : List ℕ) → bytes_eq y x ≡ false → x ≢ y
other_name x y e same = let yes : bytes_eq y x ≡ true = (bytes_eq-Decides y x).1 (sym same) in cc

all-apart : (seen : List (List ℕ)) (x : List ℕ) (xs : List (List ℕ)) → Fresh (x ∷ seen) xs → All (λ y. x ≢ y) xs
all-apart seen x [] fresh = All-nil (λ y. x ≢ y)
all-apart seen x (y ∷ ys) fresh = All-cons (λ y. x ≢ y) y ys (other_name x y (or-left (bytes_eq y x) (list_any (bytes_eq y) seen) fresh.0)) (all-apart seen x ys fresh.1)

fresh-before : (seen : List (List ℕ)) (x : List ℕ) (xs : List (List ℕ)) → Fresh (x ∷ seen) xs → Fresh seen xs
fresh-before seen x [] fresh = tt
fresh-before seen x (y ∷ ys) fresh = (or-right (bytes_eq y x) (list_any (bytes_eq y) seen) fresh.0, fresh-before seen x ys fresh.1)

-- names of which none is given twice, nor is one of those
abbrev IsGood : List (List ℕ) → List (List ℕ) → Type 0
IsGood seen xs = AreDistinct xs × Fresh seen xs

good-nil : (seen : List (List ℕ)) → IsGood seen []
good-nil seen = (λ i j d low high. absurd (omega arith), tt)

good-cons : (seen : List (List ℕ)) (x : List ℕ) (xs : List (List ℕ)) (fault : Fault) → if_seen seen x fault ≡ [] → IsGood (x ∷ seen) xs → IsGood seen (x ∷ xs)
good-cons seen x xs fault e good = (
  AllPairs-cons (λ x y. x ≢ y) x xs (all-apart seen x xs good.1) good.0,
  (unseen (list_any (bytes_eq x) seen) fault e, fresh-before seen x xs good.1),
)

abbrev Bodies : List BindingTree → Type 0
Bodies bs = (b : BindingTree) → Contains bs b → HasDistinctLabels b.body

bodies-cons : (first : BindingTree) (later : List BindingTree) → HasDistinctLabels first.body → Bodies later → Bodies (first ∷ later)
bodies-cons first later here rest b c = go c.0 c.1 c.2
  where
    go : (k : ℕ) → k < length (first ∷ later) → slice_index_or (first ∷ later) k b ≡ b → HasDistinctLabels b.body
    go zero low e = subst (λ b. HasDistinctLabels b.body) e here
    go (suc k) low e = rest b (k, omega arith, e)

module _ (place : ℕ → ℕ) where
  -- what a phrase without doubles stands for; a tail makes a tree without doubles of one without
  abbrev Claim : (s : Sort) → List (List ℕ) → ℕ → Phrase s → Type 0
  Claim source seen k p = HasNoDoubles (meaning place k p)
  Claim imports seen k p = IsGood seen (map (λ i. i.x) (meaning place k p))
  Claim bindings seen k p = IsGood seen (map (λ b. b.x) (meaning place k p)) × Bodies (meaning place k p)
  Claim bind_rest seen k p = IsGood seen (map (λ b. b.x) (meaning place k p)) × Bodies (meaning place k p)
  Claim expr seen k p = HasDistinctLabels (meaning place k p)
  Claim let_rest seen k p = (at : ℕ) → HasDistinctLabels (meaning place k p at)
  Claim compare_tail seen k p = (left : Tree) → HasDistinctLabels left → HasDistinctLabels (meaning place k p left)
  Claim sum seen k p = HasDistinctLabels (meaning place k p)
  Claim sum_tail seen k p = (left : Tree) → HasDistinctLabels left → HasDistinctLabels (meaning place k p left)
  Claim product seen k p = HasDistinctLabels (meaning place k p)
  Claim product_tail seen k p = (left : Tree) → HasDistinctLabels left → HasDistinctLabels (meaning place k p left)
  Claim apply seen k p = HasDistinctLabels (meaning place k p)
  Claim arguments seen k p = (at : ℕ) (left : Tree) → HasDistinctLabels left → HasDistinctLabels (meaning place k p at left)
  Claim post seen k p = HasDistinctLabels (meaning place k p)
  Claim dots seen k p = (left : Tree) → HasDistinctLabels left → HasDistinctLabels (meaning place k p left)
  Claim atom seen k p = HasDistinctLabels (meaning place k p)
  Claim parts seen k p = IsGood seen (labels_of (meaning place k p)) × HaveDistinctLabels (meaning place k p)
  Claim more_parts seen k p = IsGood seen (labels_of (meaning place k p)) × HaveDistinctLabels (meaning place k p)

  pub undoubled : {s : Sort} (p : Phrase s) (seen : List (List ℕ)) (k : ℕ) → doubles place seen k p ≡ [] → Claim s seen k p
  unfolding meaning doubles
  undoubled (whole i b) seen k e =
      let first = undoubled i [] k (no-left _ _ e) in
      let second = undoubled b [] (k + width i) (no-right (doubles place [] k i) _ e) in
      record { imported = first.0; bound = second.0.0; labels = second.1 }
  undoubled no_import seen k e = good-nil seen
  undoubled (importing x i) seen k e = good-cons seen x _ _ (no-left _ _ e) (undoubled i (x ∷ seen) (k + 2) (no-right (if_seen seen x _) _ e))
  undoubled no_binding seen k e = (good-nil seen, λ b c. absurd (none c.1))
    where
      none : {n : ℕ} → n < 0 → ⊥
      none low = absurd (omega arith)
  undoubled (binding r) seen k e = undoubled r seen (k + 1) e
  undoubled (simple x p b) seen k e =
      let more = no-right (if_seen seen x _) _ e in
      let body = undoubled p [] (k + 2) (no-left _ _ more) in
      let later = undoubled b (x ∷ seen) (k + 2 + width p) (no-right (doubles place [] (k + 2) p) _ more) in
      (good-cons seen x _ _ (no-left _ _ e) later.0, bodies-cons (record { x = x; at = place k; body = meaning place (k + 2) p }) (meaning place (k + 2 + width p) b) body later.1)
  undoubled (recursive x p b) seen k e =
      let more = no-right (if_seen seen x _) _ e in
      let body = undoubled p [] (k + 3) (no-left _ _ more) in
      let later = undoubled b (x ∷ seen) (k + 3 + width p) (no-right (doubles place [] (k + 3) p) _ more) in (
        good-cons seen x _ _ (no-left _ _ e) later.0,
        bodies-cons (record { x = x; at = place (k + 1); body = a_fix (place k) x (meaning place (k + 3) p) }) (meaning place (k + 3 + width p) b) body later.1,
      )
  undoubled (fun x p) seen k e = undoubled p [] (k + 3) e
  undoubled (fix x p) seen k e = undoubled p [] (k + 3) e
  undoubled (local r) seen k e = undoubled r [] (k + 1) e (place k)
  undoubled (choice c p q) seen k e =
      let more = no-right (doubles place [] (k + 1) c) _ e in
      (undoubled c [] (k + 1) (no-left _ _ e), undoubled p [] (k + 2 + width c) (no-left _ _ more), undoubled q [] (k + 3 + width c + width p) (no-right (doubles place [] (k + 2 + width c) p) _ more))
  undoubled (plain s t) seen k e = undoubled t [] (k + width s) (no-right (doubles place [] k s) _ e) (meaning place k s) (undoubled s [] k (no-left _ _ e))
  undoubled (simple_in x p q) seen k e = λ at. (undoubled p [] (k + 2) (no-left _ _ e), undoubled q [] (k + 3 + width p) (no-right (doubles place [] (k + 2) p) _ e))
  undoubled (recursive_in x p q) seen k e = λ at. (undoubled p [] (k + 3) (no-left _ _ e), undoubled q [] (k + 4 + width p) (no-right (doubles place [] (k + 3) p) _ e))
  undoubled no_compare seen k e = λ left h. h
  undoubled (less s) seen k e = λ left h. ((tt, h), undoubled s [] (k + 1) e)
  undoubled (equal s) seen k e = λ left h. ((tt, h), undoubled s [] (k + 1) e)
  undoubled (summed p t) seen k e = undoubled t [] (k + width p) (no-right (doubles place [] k p) _ e) (meaning place k p) (undoubled p [] k (no-left _ _ e))
  undoubled no_sum seen k e = λ left h. h
  undoubled (plus p t) seen k e = λ left h.
      undoubled t [] (k + 1 + width p) (no-right (doubles place [] (k + 1) p) _ e) (binary (place k) op.Plus left (meaning place (k + 1) p)) ((tt, h), undoubled p [] (k + 1) (no-left _ _ e))
  undoubled (minus p t) seen k e = λ left h.
      undoubled t [] (k + 1 + width p) (no-right (doubles place [] (k + 1) p) _ e) (binary (place k) op.Minus left (meaning place (k + 1) p)) ((tt, h), undoubled p [] (k + 1) (no-left _ _ e))
  undoubled (multiplied p t) seen k e = undoubled t [] (k + width p) (no-right (doubles place [] k p) _ e) (meaning place k p) (undoubled p [] k (no-left _ _ e))
  undoubled no_product seen k e = λ left h. h
  undoubled (times p t) seen k e = λ left h.
      undoubled t [] (k + 1 + width p) (no-right (doubles place [] (k + 1) p) _ e) (binary (place k) op.Times left (meaning place (k + 1) p)) ((tt, h), undoubled p [] (k + 1) (no-left _ _ e))
  undoubled (applied p m) seen k e = undoubled m [] (k + width p) (no-right (doubles place [] k p) _ e) (place k) (meaning place k p) (undoubled p [] k (no-left _ _ e))
  undoubled no_argument seen k e = λ at left h. h
  undoubled (argument p m) seen k e = λ at left h.
      undoubled m [] (k + width p) (no-right (doubles place [] k p) _ e) at (an_apply at left (meaning place k p)) (h, undoubled p [] k (no-left _ _ e))
  undoubled (posted x d) seen k e = undoubled d [] (k + width x) (no-right (doubles place [] k x) _ e) (meaning place k x) (undoubled x [] k (no-left _ _ e))
  undoubled no_dot seen k e = λ left h. h
  undoubled (dot label d) seen k e = λ left h. undoubled d [] (k + 2) e (a_project (place (k + 1)) left label) h
  undoubled (variable x) seen k e = tt
  undoubled (literal value) seen k e = tt
  undoubled (truth value) seen k e = tt
  undoubled (parens p) seen k e = undoubled p [] (k + 1) e
  undoubled (braces p) seen k e = let it = undoubled p [] (k + 1) e in (it.0.0, it.1)
  undoubled no_part seen k e = (good-nil seen, tt)
  undoubled (first_part label p q) seen k e =
      let more = no-right (if_seen seen label _) _ e in
      let later = undoubled q (label ∷ seen) (k + 2 + width p) (no-right (doubles place [] (k + 2) p) _ more) in
      (good-cons seen label _ _ (no-left _ _ e) later.0, (undoubled p [] (k + 2) (no-left _ _ more), later.1))
  undoubled last_part seen k e = (good-nil seen, tt)
  undoubled (next_part label p q) seen k e =
      let more = no-right (if_seen seen label _) _ e in
      let later = undoubled q (label ∷ seen) (k + 3 + width p) (no-right (doubles place [] (k + 3) p) _ more) in
      (good-cons seen label _ _ (no-left _ _ e) later.0, (undoubled p [] (k + 3) (no-left _ _ more), later.1))
