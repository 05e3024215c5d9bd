-- Names that are declared one after another.
use Rattle.std.proofs.Common.{◌≡◌, ◌≢◌, ℕ, suc, ◌+◌, ◌<◌, true, false, Bool, cond, List, [], ◌∷◌, ◌++◌, length, get_or, take, refl, sym, ap, ◌∙◌, Some, None, bytes_eq, arith}
use Rattle.std.proofs.lemmas.Bool.{false≢true}
use Rattle.std.specs.Prelude.{Option, option_map, find}
use Rattle.std.proofs.lemmas.List.{append_assoc, append-nil, get_or-take, length-take, take_more}
use Rattle.std.proofs.lemmas.List.Sums.{sum_by-append}
use Rattle.std.proofs.lemmas.Slice.Eq.{bytes_eq-Decides}
use Rattle.mls_names.specs.declared.resolver.Resolver.{Resolver}
use Rattle.mls_grammar.specs.Modules.{AreDistinct}
use Rattle.mls_names.specs.Resolution.{Meant, scheme, Scope, meant_by, schemes_from, declared_from, declared_count}
use Rattle.mls_names.specs.steps.Walks.{IsReady}

-- one name more
pub schemes_push : (g : ℕ) (xs : List (List ℕ)) (x : List ℕ) → schemes_from g (xs ++ x ∷ []) ≡ schemes_from g xs ++ (x, scheme (g + length xs)) ∷ []
schemes_push g [] x = let e : g ≡ g + 0 = omega arith in (λ i. (x, scheme (e i)) ∷ [])
schemes_push g (y ∷ ys) x =
    let e : suc g + length ys ≡ g + suc (length ys) = omega arith in
    ap (λ (s : Scope). (y, scheme g) ∷ s) (schemes_push (suc g) ys x ∙ (λ i. schemes_from (suc g) ys ++ (x, scheme (e i)) ∷ []))

-- names of one import more
pub declared_push : (g : ℕ) (xs : List (List (List ℕ))) (ns : List (List ℕ)) → declared_from g (xs ++ ns ∷ []) ≡ schemes_from (g + declared_count xs) ns ++ declared_from g xs
declared_push g [] ns = let e : g ≡ g + 0 = omega arith in (λ i. schemes_from (e i) ns) ∙ sym (append-nil (schemes_from (g + 0) ns))
declared_push g (y ∷ ys) ns =
    let e : g + length y + declared_count ys ≡ g + declared_count (y ∷ ys) = omega (arith, sum_by-append (length {A = List ℕ}) (y ∷ []) ys) in
    ap (λ (s : Scope). s ++ schemes_from g y) (declared_push (g + length y) ys ns)
    ∙ append_assoc (schemes_from (g + length y + declared_count ys) ns) (declared_from (g + length y) ys) (schemes_from g y)
    ∙ (λ i. schemes_from (e i) ns ++ (declared_from (g + length y) ys ++ schemes_from g y))

pub declared_count_push : (xs : List (List (List ℕ))) (ns : List (List ℕ)) → declared_count (xs ++ ns ∷ []) ≡ declared_count xs + length ns
declared_count_push xs ns = omega (arith, sum_by-append (length {A = List ℕ}) xs (ns ∷ []))

-- a name that is none of these means nothing among them
absent : (g : ℕ) (xs : List (List ℕ)) (x : List ℕ) → ((k : ℕ) → k < length xs → get_or xs k x ≢ x) → meant_by (schemes_from g xs) x ≡ None
absent g [] x h = refl
absent g (y ∷ ys) x h = by (bytes_eq y x) refl (absent (suc g) ys x (λ k inside. h (suc k) (omega arith)))
  where
    by : (b : Bool) → bytes_eq y x ≡ b → meant_by (schemes_from (suc g) ys) x ≡ None
        → option_map (λ (entry : List ℕ × Meant). entry.1) (cond b (Some (y, scheme g)) (find (λ (entry : List ℕ × Meant). bytes_eq entry.0 x) (schemes_from (suc g) ys))) ≡ None
    by true e rest = absurd (h 0 (omega arith) ((bytes_eq-Decides y x).0 e))
    by false e rest = rest

abbrev pick : Bool → (List ℕ × Meant) → Option (List ℕ × Meant) → Option Meant
pick b entry rest = option_map (λ (entry : List ℕ × Meant). entry.1) (cond b (Some entry) rest)

-- it means the same in front of them and behind them
swap : (s d : Scope) (x : List ℕ) (m : Meant) (y : List ℕ) → meant_by s x ≡ None → meant_by ((s ++ (x, m) ∷ []) ++ d) y ≡ meant_by ((x, m) ∷ (s ++ d)) y
swap [] d x m y h = refl
swap (e ∷ s) d x m y h = by (bytes_eq e.0 x) (bytes_eq e.0 y) (bytes_eq x y) refl refl refl h (swap s d x m y)
  where
    by : (a b c : Bool) → bytes_eq e.0 x ≡ a → bytes_eq e.0 y ≡ b → bytes_eq x y ≡ c
        → pick a e (find (λ (entry : List ℕ × Meant). bytes_eq entry.0 x) s) ≡ None
        → (meant_by s x ≡ None → meant_by ((s ++ (x, m) ∷ []) ++ d) y ≡ pick c (x, m) (find (λ (entry : List ℕ × Meant). bytes_eq entry.0 y) (s ++ d)))
        → pick b e (find (λ (entry : List ℕ × Meant). bytes_eq entry.0 y) ((s ++ (x, m) ∷ []) ++ d))
        ≡ pick c (x, m) (cond b (Some e) (find (λ (entry : List ℕ × Meant). bytes_eq entry.0 y) (s ++ d)))
    by true b c p q r none rest = absurd (cc)
    by false true true p q r none rest =
        absurd (false≢true (sym p ∙ (bytes_eq-Decides e.0 x).1 ((bytes_eq-Decides e.0 y).0 q ∙ sym ((bytes_eq-Decides x y).0 r))))
    by false true false p q r none rest = refl
    by false false c p q r none rest = rest none

-- one name more among distinct names
module _ (g : ℕ) (xs : List (List ℕ)) (distinct : AreDistinct xs) (k : ℕ) (inside : k < length xs) (x : List ℕ) (is : x ≡ get_or xs k x) where
  absent_before : meant_by (schemes_from g (take k xs)) x ≡ None
  absent_before = absent g (take k xs) x (λ j low.
      let lower : j < k = omega (arith, length-take k xs) in
      λ e. distinct j k x lower inside (sym (get_or-take k xs j x lower) ∙ e ∙ is))

  pub ready_more : (r : Resolver) (scope : Scope) → IsReady r ((x, scheme (g + k)) ∷ (schemes_from g (take k xs) ++ scope)) → IsReady r (schemes_from g (take (k + 1) xs) ++ scope)
  ready_more r scope h =
      let len : length (take k xs) ≡ k = omega (arith, length-take k xs) in
      let more : schemes_from g (take (k + 1) xs) ≡ schemes_from g (take k xs) ++ (x, scheme (g + k)) ∷ [] =
      ap (schemes_from g) (take_more xs k x inside ∙ (λ i. take k xs ++ sym is i ∷ []))
      ∙ schemes_push g (take k xs) x
      ∙ (λ i. schemes_from g (take k xs) ++ (x, scheme (g + len i)) ∷ []) in
      (h.0, λ y. h.1 y ∙ sym (swap (schemes_from g (take k xs)) scope x (scheme (g + k)) y absent_before) ∙ (λ i. meant_by (sym more i ++ scope) y))
