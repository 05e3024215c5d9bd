-- What a phrase gives has the doubles of the phrase.
use Rattle.std.proofs.Common.{◌≡◌, ℕ, ◌+◌, List, [], ◌∷◌, ◌++◌, refl, sym, ap, ◌∙◌}
use Rattle.std.proofs.lemmas.List.{append_assoc}
use Rattle.mls_grammar.specs.declared.fault.Fault.{Fault}
use Rattle.mls_grammar.specs.declared.fault.Fault.TheVariants.{DuplicateBinding, DuplicateLabel, DuplicateImport}
use Rattle.mls_reader.specs.declared.piece.Event.{Event}
use Rattle.mls_grammar.specs.Phrases.{Sort, source, imports, bindings, bind_rest, parts, more_parts, Phrase, whole, no_import, importing, no_binding, binding, simple, recursive, fun, fix, local, choice, plain, simple_in, recursive_in, no_compare, less, equal, summed, no_sum, plus, minus, multiplied, no_product, times, applied, no_argument, argument, posted, no_dot, dot, variable, literal, truth, parens, braces, no_part, first_part, last_part, next_part, width}
use Rattle.mls_reader.specs.steps.Pieces.{given}
use Rattle.mls_grammar.specs.Doubles.{if_seen, doubles}
use Rattle.mls_reader.specs.steps.GivenTwice.{doubles_in}

-- these events tell these faults, and change nothing for those behind them
abbrev Tell : (List Event → List Fault) → List Event → List Fault → Type 0
Tell later es faults = (rest : List Event) → later (es ++ rest) ≡ faults ++ later rest

tell_both : (later : List Event → List Fault) (es fs : List Event) (xs ys : List Fault) → Tell later es xs → Tell later fs ys → Tell later (es ++ fs) (xs ++ ys)
tell_both later es fs xs ys h h' = λ rest.
    ap later (append_assoc es fs rest)
    ∙ (h (fs ++ rest)
    ∙ (ap (λ zs. xs ++ zs) (h' rest)
    ∙ sym (append_assoc xs ys (later rest))))

-- the same where what follows is told otherwise
tell_then : (later : List Event → List Fault) (es fs : List Event) (xs ys : List Fault) (rest : List Event) (end : List Fault) → Tell later es xs → later (fs ++ rest) ≡ ys ++ end → later ((es ++ fs) ++ rest) ≡ (xs ++ ys) ++ end
tell_then later es fs xs ys rest end h h' =
    ap later (append_assoc es fs rest)
    ∙ (h (fs ++ rest)
    ∙ (ap (λ zs. xs ++ zs) h'
    ∙ sym (append_assoc xs ys end)))

behind : (first more end later : List Fault) → later ≡ more ++ end → first ++ later ≡ (first ++ more) ++ end
behind first more end later e = ap (λ zs. first ++ zs) e ∙ sym (append_assoc first more end)

module _ (place : ℕ → ℕ) where
  abbrev Claim : (s : Sort) → ℕ → Phrase s → Type 0
  Claim source k p = doubles_in [] [] [] (given place k p) ≡ doubles place [] k p
  Claim imports k p = (is bs : List (List ℕ)) → (is' : List (List ℕ)) × ((rest : List Event) → doubles_in is bs [] (given place k p ++ rest) ≡ doubles place is k p ++ doubles_in is' bs [] rest)
  Claim bindings k p = (is bs : List (List ℕ)) → doubles_in is bs [] (given place k p) ≡ doubles place bs k p
  Claim bind_rest k p = (is bs : List (List ℕ)) → doubles_in is bs [] (given place k p) ≡ doubles place bs k p
  Claim parts k p =
      (labels is bs : List (List ℕ)) (rs : List (List (List ℕ))) (rest : List Event)
      → doubles_in is bs (labels ∷ rs) (given place k p ++ rest) ≡ doubles place labels k p ++ doubles_in is bs rs rest
  Claim more_parts k p =
      (labels is bs : List (List ℕ)) (rs : List (List (List ℕ))) (rest : List Event)
      → doubles_in is bs (labels ∷ rs) (given place k p ++ rest) ≡ doubles place labels k p ++ doubles_in is bs rs rest
  Claim _ k p = (is bs : List (List ℕ)) (rs : List (List (List ℕ))) → Tell (doubles_in is bs rs) (given place k p) (doubles place [] k p)

  two : (is bs : List (List ℕ)) (rs : List (List (List ℕ))) (es fs : List Event) (xs ys : List Fault) → Tell (doubles_in is bs rs) es xs → Tell (doubles_in is bs rs) fs ys → Tell (doubles_in is bs rs) (es ++ fs) (xs ++ ys)
  two is bs rs = tell_both (doubles_in is bs rs)

  pub given-doubles : {s : Sort} (k : ℕ) (p : Phrase s) → Claim s k p
  unfolding given doubles
  given-doubles k (whole i b) =
      let it = given-doubles k i [] [] in
      it.1 (given place (k + width i) b) ∙ ap (λ zs. doubles place [] k i ++ zs) (given-doubles (k + width i) b it.0 [])
  given-doubles k no_import = λ is bs. (is, λ rest. refl)
  given-doubles k (importing x i) = λ is bs.
      let it = given-doubles (k + 2) i (x ∷ is) bs in
      (it.0, λ rest. behind (if_seen is x (DuplicateImport (place (k + 1)))) (doubles place (x ∷ is) (k + 2) i) (doubles_in it.0 bs [] rest) _ (it.1 rest))
  given-doubles k no_binding = λ is bs. refl
  given-doubles k (binding r) = λ is bs. given-doubles (k + 1) r is bs
  given-doubles k (simple x e b) = λ is bs.
      ap (λ zs. if_seen bs x (DuplicateBinding (place k)) ++ zs)
      (given-doubles (k + 2) e is (x ∷ bs) [] (given place (k + 2 + width e) b)
      ∙ ap (λ zs. doubles place [] (k + 2) e ++ zs) (given-doubles (k + 2 + width e) b is (x ∷ bs)))
  given-doubles k (recursive x e b) = λ is bs.
      ap (λ zs. if_seen bs x (DuplicateBinding (place (k + 1))) ++ zs)
      (given-doubles (k + 3) e is (x ∷ bs) [] (given place (k + 3 + width e) b)
      ∙ ap (λ zs. doubles place [] (k + 3) e ++ zs) (given-doubles (k + 3 + width e) b is (x ∷ bs)))
  given-doubles k (fun x e) = given-doubles (k + 3) e
  given-doubles k (fix x e) = given-doubles (k + 3) e
  given-doubles k (local r) = given-doubles (k + 1) r
  given-doubles k (choice c e f) = λ is bs rs.
      two is bs rs (given place (k + 1) c) _ (doubles place [] (k + 1) c) _ (given-doubles (k + 1) c is bs rs)
      (two is bs rs (given place (k + 2 + width c) e) _ (doubles place [] (k + 2 + width c) e) _ (given-doubles (k + 2 + width c) e is bs rs)
      (given-doubles (k + 3 + width c + width e) f is bs rs))
  given-doubles k (plain s t) = λ is bs rs. two is bs rs (given place k s) _ (doubles place [] k s) _ (given-doubles k s is bs rs) (given-doubles (k + width s) t is bs rs)
  given-doubles k (simple_in x e f) = λ is bs rs. two is bs rs (given place (k + 2) e) _ (doubles place [] (k + 2) e) _ (given-doubles (k + 2) e is bs rs) (given-doubles (k + 3 + width e) f is bs rs)
  given-doubles k (recursive_in x e f) = λ is bs rs. two is bs rs (given place (k + 3) e) _ (doubles place [] (k + 3) e) _ (given-doubles (k + 3) e is bs rs) (given-doubles (k + 4 + width e) f is bs rs)
  given-doubles k no_compare = λ is bs rs rest. refl
  given-doubles k (less s) = given-doubles (k + 1) s
  given-doubles k (equal s) = given-doubles (k + 1) s
  given-doubles k (summed p t) = λ is bs rs. two is bs rs (given place k p) _ (doubles place [] k p) _ (given-doubles k p is bs rs) (given-doubles (k + width p) t is bs rs)
  given-doubles k no_sum = λ is bs rs rest. refl
  given-doubles k (plus p t) = λ is bs rs. two is bs rs (given place (k + 1) p) _ (doubles place [] (k + 1) p) _ (given-doubles (k + 1) p is bs rs) (given-doubles (k + 1 + width p) t is bs rs)
  given-doubles k (minus p t) = λ is bs rs. two is bs rs (given place (k + 1) p) _ (doubles place [] (k + 1) p) _ (given-doubles (k + 1) p is bs rs) (given-doubles (k + 1 + width p) t is bs rs)
  given-doubles k (multiplied p t) = λ is bs rs. two is bs rs (given place k p) _ (doubles place [] k p) _ (given-doubles k p is bs rs) (given-doubles (k + width p) t is bs rs)
  given-doubles k no_product = λ is bs rs rest. refl
  given-doubles k (times p t) = λ is bs rs. two is bs rs (given place (k + 1) p) _ (doubles place [] (k + 1) p) _ (given-doubles (k + 1) p is bs rs) (given-doubles (k + 1 + width p) t is bs rs)
  given-doubles k (applied p m) = λ is bs rs. two is bs rs (given place k p) _ (doubles place [] k p) _ (given-doubles k p is bs rs) (given-doubles (k + width p) m is bs rs)
  given-doubles k no_argument = λ is bs rs rest. refl
  given-doubles k (argument p m) = λ is bs rs. two is bs rs (given place k p) _ (doubles place [] k p) _ (given-doubles k p is bs rs) (given-doubles (k + width p) m is bs rs)
  given-doubles k (posted x d) = λ is bs rs. two is bs rs (given place k x) _ (doubles place [] k x) _ (given-doubles k x is bs rs) (given-doubles (k + width x) d is bs rs)
  given-doubles k no_dot = λ is bs rs rest. refl
  given-doubles k (dot label d) = given-doubles (k + 2) d
  given-doubles k (variable x) = λ is bs rs rest. refl
  given-doubles k (literal value) = λ is bs rs rest. refl
  given-doubles k (truth value) = λ is bs rs rest. refl
  given-doubles k (parens e) = given-doubles (k + 1) e
  given-doubles k (braces p) = λ is bs rs rest. given-doubles (k + 1) p [] is bs rs rest
  given-doubles k no_part = λ labels is bs rs rest. refl
  given-doubles k (first_part label e p) = λ labels is bs rs rest.
      behind (if_seen labels label (DuplicateLabel (place k))) (doubles place [] (k + 2) e ++ doubles place (label ∷ labels) (k + 2 + width e) p) (doubles_in is bs rs rest) _
      (tell_then (doubles_in is bs ((label ∷ labels) ∷ rs)) (given place (k + 2) e) (given place (k + 2 + width e) p) (doubles place [] (k + 2) e) (doubles place (label ∷ labels) (k + 2 + width e) p) rest (doubles_in is bs rs rest)
      (given-doubles (k + 2) e is bs ((label ∷ labels) ∷ rs)) (given-doubles (k + 2 + width e) p (label ∷ labels) is bs rs rest))
  given-doubles k last_part = λ labels is bs rs rest. refl
  given-doubles k (next_part label e p) = λ labels is bs rs rest.
      behind (if_seen labels label (DuplicateLabel (place (k + 1)))) (doubles place [] (k + 3) e ++ doubles place (label ∷ labels) (k + 3 + width e) p) (doubles_in is bs rs rest) _
      (tell_then (doubles_in is bs ((label ∷ labels) ∷ rs)) (given place (k + 3) e) (given place (k + 3 + width e) p) (doubles place [] (k + 3) e) (doubles place (label ∷ labels) (k + 3 + width e) p) rest (doubles_in is bs rs rest)
      (given-doubles (k + 3) e is bs ((label ∷ labels) ∷ rs)) (given-doubles (k + 3 + width e) p (label ∷ labels) is bs rs rest))
