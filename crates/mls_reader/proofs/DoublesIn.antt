-- The faults of what is given depend on which names were given before, not on their order.
use Rattle.std.proofs.Common.{◌≡◌, ℕ, Bool, true, false, if◌then◌else◌, List, [], ◌∷◌, ◌++◌, refl, sym, ap, ◌∙◌}
use Rattle.std.specs.Prelude.{◌||◌, not, bytes_eq}
use Rattle.std.specs.List.{list_any}
use Rattle.mls_grammar.specs.declared.fault.Fault.{Fault}
use Rattle.mls_grammar.specs.declared.fault.Fault.TheVariants.{DuplicateBinding, DuplicateLabel, DuplicateImport}
use Rattle.mls_reader.specs.declared.piece.Event.{Event}
use Rattle.mls_reader.specs.declared.piece.Event.TheVariants as event
use Rattle.mls_grammar.specs.Doubles.{if_seen}
use Rattle.mls_reader.specs.steps.GivenTwice.{doubles_in, fault_before, fault_unless, HasSameNames, AddsLabel}

abbrev pub AllSame : List (List (List ℕ)) → List (List (List ℕ)) → Type 0
AllSame [] [] = Unit {0}
AllSame (xs ∷ xss) (ys ∷ yss) = HasSameNames xs ys × AllSame xss yss
AllSame _ _ = ⊥

same : (xs : List (List ℕ)) → HasSameNames xs xs
same xs = λ x. refl

all_same : (xss : List (List (List ℕ))) → AllSame xss xss
all_same [] = tt
all_same (xs ∷ xss) = (same xs, all_same xss)

same-more : (x : List ℕ) (xs ys : List (List ℕ)) → HasSameNames xs ys → HasSameNames (x ∷ xs) (x ∷ ys)
same-more x xs ys h = λ y. ap (λ b. bytes_eq y x || b) (h y)

if_seen-same : (x : List ℕ) (fault : Fault) (xs ys : List (List ℕ)) → HasSameNames xs ys → if_seen xs x fault ≡ if_seen ys x fault
if_seen-same x fault xs ys h = ap (λ b. if b then fault ∷ [] else []) (h x)

both : (xs ys : List Fault) (vs ws : List Fault) → xs ≡ ys → vs ≡ ws → xs ++ vs ≡ ys ++ ws
both xs ys vs ws e e' = λ i. e i ++ e' i

pub alike : (es : List Event) (is is' bs bs' : List (List ℕ)) (rs rs' : List (List (List ℕ))) → HasSameNames is is' → HasSameNames bs bs' → AllSame rs rs' → doubles_in is bs rs es ≡ doubles_in is' bs' rs' es
alike [] is is' bs bs' rs rs' i b r = refl
alike (event.Import at x ∷ es) is is' bs bs' rs rs' i b r =
    both _ _ _ _ (if_seen-same x (DuplicateImport at) is is' i) (alike es (x ∷ is) (x ∷ is') bs bs' rs rs' (same-more x is is' i) b r)
alike (event.Binding at x ∷ es) is is' bs bs' rs rs' i b r =
    both _ _ _ _ (if_seen-same x (DuplicateBinding at) bs bs' b) (alike es is is' (x ∷ bs) (x ∷ bs') rs rs' i (same-more x bs bs' b) r)
alike (event.Open ∷ es) is is' bs bs' rs rs' i b r = alike es is is' bs bs' ([] ∷ rs) ([] ∷ rs') i b (same [], r)
alike (event.Label at x ∷ es) is is' bs bs' [] [] i b r = alike es is is' bs bs' [] [] i b r
alike (event.Label at x ∷ es) is is' bs bs' [] (ys ∷ yss) i b r = absurd r
alike (event.Label at x ∷ es) is is' bs bs' (xs ∷ xss) [] i b r = absurd r
alike (event.Label at x ∷ es) is is' bs bs' (xs ∷ xss) (ys ∷ yss) i b r =
    both _ _ _ _ (if_seen-same x (DuplicateLabel at) xs ys r.0) (alike es is is' bs bs' ((x ∷ xs) ∷ xss) ((x ∷ ys) ∷ yss) i b (same-more x xs ys r.0, r.1))
alike (event.Close ∷ es) is is' bs bs' [] [] i b r = alike es is is' bs bs' [] [] i b r
alike (event.Close ∷ es) is is' bs bs' [] (ys ∷ yss) i b r = absurd r
alike (event.Close ∷ es) is is' bs bs' (xs ∷ xss) [] i b r = absurd r
alike (event.Close ∷ es) is is' bs bs' (xs ∷ xss) (ys ∷ yss) i b r = alike es is is' bs bs' xss yss i b r.1

-- a fault is the one before the others
one_fault : (b : Bool) (fault : Fault) (later : List Fault) → (if b then fault ∷ [] else []) ++ later ≡ fault_before (fault_unless (not b) fault) later
one_fault true fault later = refl
one_fault false fault later = refl

told : (seen : List (List ℕ)) (x : List ℕ) (fault : Fault) (new : Bool) (faults later : List Fault) → new ≡ not (list_any (bytes_eq x) seen) → faults ≡ later
    → if_seen seen x fault ++ faults ≡ fault_before (fault_unless new fault) later
told seen x fault new faults later e e' =
    one_fault (list_any (bytes_eq x) seen) fault faults
    ∙ (λ i. fault_before (fault_unless (sym e i) fault) (e' i))

pub import_taken : (at : ℕ) (x : List ℕ) (is bs is' : List (List ℕ)) (rs : List (List (List ℕ))) (new : Bool) (es : List Event)
    → new ≡ not (list_any (bytes_eq x) is) → HasSameNames (x ∷ is) is'
    → doubles_in is bs rs (event.Import at x ∷ es) ≡ fault_before (fault_unless new (DuplicateImport at)) (doubles_in is' bs rs es)
import_taken at x is bs is' rs new es e added =
    told is x (DuplicateImport at) new _ _ e (alike es (x ∷ is) is' bs bs rs rs added (same bs) (all_same rs))

pub binding_taken : (at : ℕ) (x : List ℕ) (is bs bs' : List (List ℕ)) (rs : List (List (List ℕ))) (new : Bool) (es : List Event)
    → new ≡ not (list_any (bytes_eq x) bs) → HasSameNames (x ∷ bs) bs'
    → doubles_in is bs rs (event.Binding at x ∷ es) ≡ fault_before (fault_unless new (DuplicateBinding at)) (doubles_in is bs' rs es)
binding_taken at x is bs bs' rs new es e added =
    told bs x (DuplicateBinding at) new _ _ e (alike es is is (x ∷ bs) bs' rs rs (same is) added (all_same rs))

pub label_taken : (at : ℕ) (x : List ℕ) (is bs : List (List ℕ)) (rs rs' : List (List (List ℕ))) (new : Bool) (es : List Event)
    → AddsLabel x rs rs' new
    → doubles_in is bs rs (event.Label at x ∷ es) ≡ fault_before (fault_unless new (DuplicateLabel at)) (doubles_in is bs rs' es)
label_taken at x is bs [] rs' new es added = λ i. fault_before (fault_unless (sym added.1 i) (DuplicateLabel at)) (doubles_in is bs (sym added.0 i) es)
label_taken at x is bs (labels ∷ rs) rs' new es added =
    told labels x (DuplicateLabel at) new _ _ added.3
    (alike es is is bs bs ((x ∷ labels) ∷ rs) (added.0 ∷ rs) (same is) (same bs) (added.2, all_same rs)
    ∙ ap (λ rs. doubles_in is bs rs es) (sym added.1))
