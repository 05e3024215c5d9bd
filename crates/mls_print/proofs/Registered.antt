-- How sets get their numbers.
--     adds_none, adds_then, adds_wider      more sets, one after the other
--     set_kept                              sets that are there keep their numbers
--     found_number, new_number, registered  a set that has a number, and one that gets the next
use Rattle.std.proofs.Common.{◌≡◌, ◌⊎◌, inl, inr, ℕ, ◌+◌, ◌<◌, ◌≤◌, Bool, true, false, List, [], ◌∷◌, ◌++◌, map, refl, sym, ap, ◌∙◌, subst, arith, length, All, Some, None, append-nil, append_assoc}
use Rattle.std.specs.Prelude.{Option, cond, bytes_eq}
use Rattle.std.specs.BTreeMap.{Updates}
use Rattle.std.specs.Ordering.{nat_cmp}
use Rattle.std.specs.Cmp.Lexicographic.{slice_cmp}
use Rattle.std.proofs.lemmas.Map.Text.{is_eq-slice_cmp}
use Rattle.std.proofs.lemmas.Slice.Eq.{bytes_eq-Decides}
use Rattle.std.proofs.lemmas.List.{get_or_append_left, length-append, map-append}
use Rattle.std.proofs.Math.Nat.{eq-or-lt_of_le}
use Rattle.std.proofs.Math.Seq.{get_or-append_seam}
use Rattle.std.proofs.lemmas.List.Elements.{All-append, All-push, All-contains, All-head, All-tail, Contains-append_left, Contains-push}
use Rattle.mls_automaton.specs.declared.automaton.Arms.{Arms}
use Rattle.mls_automaton.specs.Heads.{IsSameSet}
use Rattle.mls_automaton.proofs.Lists.{All-contained, All-one}
use Rattle.mls_print.specs.declared.register.Register.{Register}
use Rattle.mls_print.specs.declared.row.RowArms.{RowArms}
use Rattle.mls_print.specs.declared.row.RowField.{RowField}
use Rattle.mls_print.specs.steps.Printing.{LabelledSet}
use Rattle.mls_print.specs.steps.Rising.{AreRisingNumbers}
use Rattle.mls_print.specs.steps.Tables.{arms_of, labelled, HasArmsBelow}
use Rattle.mls_print.specs.steps.Registers.{sets_in, set_of, number_in, IsRegister, Adds, Numbers, IsArm, NumbersArms, IsSetOfField, AreSameFields, NumbersFields}

-- more sets
pub adds_none : (P : List ℕ → Type 0) (sets : List (List ℕ)) → Adds P sets sets
adds_none P sets = record { more = []; grown = sym (append-nil sets); such = λ k d low. absurd (omega arith) }

pub adds_then : (P : List ℕ → Type 0) (first second third : List (List ℕ)) → Adds P first second → Adds P second third → Adds P first third
adds_then P first second third one two = record {
  more = one.more ++ two.more;
  grown = two.grown ∙ (ap (λ sets. sets ++ two.more) one.grown ∙ append_assoc first one.more two.more);
  such = All-append P one.more two.more one.such two.such;
}

pub all_wider : {X : Type 0} (P Q : X → Type 0) → ((x : X) → P x → Q x) → (xs : List X) → All P xs → All Q xs
all_wider P Q wider xs each = All-contained Q xs (λ x it. wider x (All-contains P xs x each it))

pub adds_wider : (P Q : List ℕ → Type 0) → ((set : List ℕ) → P set → Q set) → (old new : List (List ℕ)) → Adds P old new → Adds Q old new
adds_wider P Q wider old new it = record { more = it.more; grown = it.grown; such = all_wider P Q wider it.more it.such }

module _ (P : List ℕ → Type 0) (old new : List (List ℕ)) (it : Adds P old new) where
  pub set_kept : (n : ℕ) → n < length old → set_of new n ≡ set_of old n
  set_kept n low = ap (λ sets. set_of sets n) it.grown ∙ get_or_append_left old it.more [] n low

  pub not_fewer : length old ≤ length new
  not_fewer = let e : length new ≡ length old + length it.more = ap length it.grown ∙ length-append old it.more in omega arith

-- a register that has a set, and one to which it is added
pub found_number : (register : Register) → IsRegister register → (states members : List ℕ) → IsSameSet states members → (n : ℕ) → number_in register members ≡ Some n → Numbers states (sets_in register) (sets_in register) n
found_number register is states members same n e =
    let found = is.found members n e in
    record { adds = adds_none (λ set. IsSameSet states set) (sets_in register); below = found.0; same = subst (IsSameSet states) (sym found.1) same }

module _ (old new : Register) (is : IsRegister old) (members : List ℕ) (grown : sets_in new ≡ sets_in old ++ members ∷ []) where
  last_set : set_of (sets_in new) (length (sets_in old)) ≡ members
  last_set = ap (λ sets. set_of sets (length (sets_in old))) grown ∙ get_or-append_seam (sets_in old) members [] []

  one_more : length (sets_in new) ≡ length (sets_in old) + 1
  one_more = ap length grown ∙ length-append (sets_in old) (members ∷ [])

  pub new_number : (states : List ℕ) → IsSameSet states members → Numbers states (sets_in old) (sets_in new) (length (sets_in old))
  new_number states same = record {
    adds = record { more = members ∷ []; grown = grown; such = All-one (λ set. IsSameSet states set) members same };
    below = let e = one_more in omega arith;
    same = subst (IsSameSet states) (sym last_set) same;
  }

  module _ (rises : AreRisingNumbers members) (unknown : number_in old members ≡ None) (updates : Updates (slice_cmp nat_cmp) old.numbers new.numbers members (Some (length (sets_in old)))) where
    read : (set : List ℕ) → number_in new set ≡ cond (bytes_eq members set) (Some (length (sets_in old))) (number_in old set)
    read set = updates.0 set ∙ ap (λ b. cond b (Some (length (sets_in old))) (number_in old set)) (is_eq-slice_cmp members set)

    numbered : (n : ℕ) → n < length (sets_in new) → number_in new (set_of (sets_in new) n) ≡ Some n
    numbered n low = let size = one_more in go (eq-or-lt_of_le (omega arith))
      where
        last : Option ℕ
        last = Some (length (sets_in old))

        here : number_in new (set_of (sets_in new) (length (sets_in old))) ≡ last
        here =
            ap (number_in new) last_set ∙ (read members ∙ ap (λ b. cond b last (number_in old members)) ((bytes_eq-Decides members members).1 refl))

        early : (n : ℕ) → n < length (sets_in old) → number_in new (set_of (sets_in old) n) ≡ Some n
        early n low = read (set_of (sets_in old) n) ∙ by (bytes_eq members (set_of (sets_in old) n)) refl
          where
            by : (b : Bool) → bytes_eq members (set_of (sets_in old) n) ≡ b → cond b last (number_in old (set_of (sets_in old) n)) ≡ Some n
            by false e = is.numbered n low
            by true e =
                let equal : members ≡ set_of (sets_in old) n = (bytes_eq-Decides members (set_of (sets_in old) n)).0 e in
                let known : number_in old members ≡ Some n = ap (number_in old) equal ∙ is.numbered n low in
                absurd (cc)

        go : (n ≡ length (sets_in old)) ⊎ (n < length (sets_in old)) → number_in new (set_of (sets_in new) n) ≡ Some n
        go (inl e) = subst (λ n. number_in new (set_of (sets_in new) n) ≡ Some n) (sym e) here
        go (inr less) = ap (number_in new) (ap (λ sets. set_of sets n) grown ∙ get_or_append_left (sets_in old) (members ∷ []) [] n less) ∙ early n less

    found_in : (set : List ℕ) (n : ℕ) → number_in new set ≡ Some n → (n < length (sets_in new)) × (set_of (sets_in new) n ≡ set)
    found_in set n e = go (bytes_eq members set) refl (sym (read set) ∙ e)
      where
        go : (b : Bool) → bytes_eq members set ≡ b → cond b (Some (length (sets_in old))) (number_in old set) ≡ Some n → (n < length (sets_in new)) × (set_of (sets_in new) n ≡ set)
        go true e is =
            let equal : members ≡ set = (bytes_eq-Decides members set).0 e in
            let last : length (sets_in old) ≡ n = cc in
            let size = one_more in
            (omega arith, ap (set_of (sets_in new)) (sym last) ∙ (last_set ∙ equal))
        go false e is' =
            let found = is.found set n is' in
            let size = one_more in
            let low : n < length (sets_in old) = found.0 in
            (omega arith, ap (λ sets. set_of sets n) grown ∙ (get_or_append_left (sets_in old) (members ∷ []) [] n low ∙ found.1))

    pub registered : IsRegister new
    registered = record {
      rising = subst (All AreRisingNumbers) (sym grown) (All-push AreRisingNumbers (sets_in old) members is.rising rises);
      numbered = numbered;
      found = found_in;
    }

-- the sets of a function
pub two_numbers : (arms : Arms) (first second third : List (List ℕ)) (d c : ℕ) → Numbers arms.domain first second d → Numbers arms.codomain second third c → NumbersArms (Some arms) first third (Some (record { domain = d; codomain = c }))
two_numbers arms first second third d c one two =
    let Is : List ℕ → List ℕ → Type 0 = IsSameSet in
    let kept : set_of third d ≡ set_of second d = set_kept (Is arms.codomain) second third two.adds d one.below in
    let more = not_fewer (Is arms.codomain) second third two.adds in
    let low = one.below in
    record {
      adds = adds_then (IsArm (Some arms)) first second third (adds_wider (Is arms.domain) (IsArm (Some arms)) (λ set it. inl it) first second one.adds) (adds_wider (Is arms.codomain) (IsArm (Some arms)) (λ set it. inr it) second third two.adds);
      below = (omega arith, two.below);
      same = (subst (IsSameSet arms.domain) (sym kept) one.same, two.same);
    }

-- the sets of fields, one after the other
pub no_fields : (sets : List (List ℕ)) → NumbersFields [] sets sets []
no_fields sets = record { adds = adds_none (IsSetOfField []) sets; below = λ k d low. absurd (omega arith); same = tt }

same_kept : (IsSuch : List ℕ → Type 0) (old new : List (List ℕ)) → Adds IsSuch old new → (fields : List LabelledSet) (row : List RowField) → All (λ f. f.set < length old) row → AreSameFields fields (map (labelled (set_of old)) row) → AreSameFields fields (map (labelled (set_of new)) row)
same_kept IsSuch old new adds [] [] low same = tt
same_kept IsSuch old new adds [] (g ∷ row) low same = same
same_kept IsSuch old new adds (f ∷ fields) [] low same = same
same_kept IsSuch old new adds (f ∷ fields) (g ∷ row) low same = (
  same.0,
  subst (IsSameSet f.set) (sym (set_kept IsSuch old new adds g.set (All-head (λ (f : RowField). f.set < length old) g row low))) same.1,
  same_kept IsSuch old new adds fields row (All-tail (λ (f : RowField). f.set < length old) g row low) same.2,
)

same_more : (fields others : List LabelledSet) (f g : LabelledSet) → AreSameFields fields others → f.label ≡ g.label → IsSameSet f.set g.set → AreSameFields (fields ++ f ∷ []) (others ++ g ∷ [])
same_more [] [] f g same label set = (label, set, tt)
same_more [] (h ∷ others) f g same label set = absurd same
same_more (h ∷ fields) [] f g same label set = absurd same
same_more (h ∷ fields) (i ∷ others) f g same label set = (same.0, same.1, same_more fields others f g same.2 label set)

pub field_more : (fields : List LabelledSet) (first second third : List (List ℕ)) (row : List RowField) (f : LabelledSet) (g : RowField) → NumbersFields fields first second row → Numbers f.set second third g.set → f.label ≡ g.label.now → NumbersFields (fields ++ f ∷ []) first third (row ++ g ∷ [])
field_more fields first second third row f g one two label =
    let IsSuch : List ℕ → Type 0 = λ set. IsSameSet f.set set in
    let more = not_fewer IsSuch second third two.adds in
    record {
      adds = adds_then (IsSetOfField (fields ++ f ∷ [])) first second third
          (adds_wider (IsSetOfField fields) (IsSetOfField (fields ++ f ∷ [])) (λ set it. (it.0, Contains-append_left fields (f ∷ []) it.0 it.1, it.2)) first second one.adds)
          (adds_wider IsSuch (IsSetOfField (fields ++ f ∷ [])) (λ set it. (f, Contains-push fields f, it)) second third two.adds);
      below = All-push (λ (f : RowField). f.set < length third) row g (all_wider (λ (f : RowField). f.set < length second) (λ (f : RowField). f.set < length third) (λ f low. omega arith) row one.below) two.below;
      same = subst (AreSameFields (fields ++ f ∷ [])) (sym (map-append (labelled (set_of third)) row (g ∷ [])))
          (same_more fields (map (labelled (set_of third)) row) f (labelled (set_of third) g) (same_kept IsSuch second third two.adds fields row one.below one.same) label two.same);
    }

-- a row keeps what it shows, where more sets are there
pub arms_kept : (IsSuch : List ℕ → Type 0) (old new : List (List ℕ)) → Adds IsSuch old new → (row : Option RowArms) → HasArmsBelow (length old) row → arms_of (set_of new) row ≡ arms_of (set_of old) row
arms_kept IsSuch old new adds None below = refl
arms_kept IsSuch old new adds (Some arms) below = λ i. Some (record { domain = set_kept IsSuch old new adds arms.domain below.0 i; codomain = set_kept IsSuch old new adds arms.codomain below.1 i })

pub fields_kept : (IsSuch : List ℕ → Type 0) (old new : List (List ℕ)) → Adds IsSuch old new → (row : List RowField) → All (λ f. f.set < length old) row → map (labelled (set_of new)) row ≡ map (labelled (set_of old)) row
fields_kept IsSuch old new adds [] below = refl
fields_kept IsSuch old new adds (f ∷ row) below = λ i.
    record { label = f.label.now; set = set_kept IsSuch old new adds f.set (All-head (λ (f : RowField). f.set < length old) f row below) i }
    ∷ fields_kept IsSuch old new adds row (All-tail (λ (f : RowField). f.set < length old) f row below) i
