-- States under other numbers.
use Rattle.std.proofs.Common.{◌≡◌, ℕ, ◌<◌, ◌+◌, Option, Some, None, List, map, take, sym, ap, ◌∙◌, subst, arith, length, get_or, All}
use Rattle.std.proofs.lemmas.List.{get_or_default, length-map, length-take-le, get_or-take}
use Rattle.std.proofs.Math.ListN.{get_or-map}
use Rattle.std.proofs.lemmas.List.Elements.{Contains-get_or}
use Rattle.mls_automaton.specs.declared.automaton.Arms.{Arms}
use Rattle.mls_automaton.specs.declared.automaton.FieldSet.{FieldSet}
use Rattle.mls_automaton.specs.declared.automaton.Head.{Head}
use Rattle.mls_automaton.specs.Sets.{Rises}
use Rattle.mls_automaton.specs.steps.Numbers.{KeepsOrder, KeepsOrderInArms, KeepsOrderInFields, KeepsOrderInHead}

-- what holds of each element holds of the one that was taken
pub at-item : {X : Type 0} (P : X → Type 0) (xs : List X) (x : X) (i : ℕ) → All P xs → x ≡ get_or xs i x → i < length xs → P x
at-item P xs x i all is low = subst P (sym is) (all i x low)

-- the new number of a member is above those of the members before it
pub numbers-rise : (place : ℕ → ℕ) (set list : List ℕ) (i number : ℕ) (renamed : List ℕ) → KeepsOrder place set → Rises set → list ≡ set → i < length list → renamed ≡ map place (take i list) → number ≡ place (get_or list i 0) → All (λ j. j < number) renamed
numbers-rise place set list i number renamed order rises same low is number-is = rw (is, number-is, same) go
  where
    go : All (λ j. j < place (get_or set i 0)) (map place (take i set))
    go k d in_list =
        let low' : i < length set = subst (λ (xs : List ℕ). i < length xs) same low in
        let size : length (map place (take i set)) ≡ length (take i set) = length-map (take i set) place in
        let size' : length (take i set) ≡ i = length-take-le i set (omega arith) in
        let before : k < i = omega arith in
        let is : get_or (map place (take i set)) k d ≡ place (get_or set k 0) =
        get_or_default (map place (take i set)) k d (place 0) in_list ∙ (get_or-map place (take i set) k 0 ∙ ap place (get_or-take i set k 0 before)) in
        rw is (order (get_or set k 0) (get_or set i 0) (Contains-get_or set k 0 (omega arith)) (Contains-get_or set i 0 low') (rises k i before low'))

-- the fields of a record that is there
pub fields-order : (place : ℕ → ℕ) (o : Option (List FieldSet)) (fields list : List FieldSet) → o ≡ Some fields → list ≡ fields → KeepsOrderInFields place o → All (λ (field : FieldSet). KeepsOrder place field.set) list
fields-order place o fields list is same order = rw same (rw is at order)

-- numbers that all go up by the same keep every order
pub raised-order : (n : ℕ) (h : Head) → KeepsOrderInHead (λ s. n + s) h
raised-order n h = (arms h.function, fields h.fields)
  where
    set : (xs : List ℕ) → KeepsOrder (λ s. n + s) xs
    set xs i j here there less = omega arith

    arms : (o : Option Arms) → KeepsOrderInArms (λ s. n + s) o
    arms None = tt
    arms (Some a) = (set a.domain, set a.codomain)

    fields : (o : Option (List FieldSet)) → KeepsOrderInFields (λ s. n + s) o
    fields None = tt
    fields (Some fs) = λ k d low. set (get_or fs k d).set
