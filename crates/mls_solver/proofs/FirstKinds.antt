-- The kind that is found is the first in which two heads clash.
use Rattle.std.proofs.Common.{◌≡◌, inl, inr, ℕ, ◌<◌, ◌≤◌, ◌&&◌, Bool, true, false, List, [], refl, sym, ap, ◌∙◌, subst, arith, length, get_or, Some, None}
use Rattle.std.specs.Prelude.{IsTrue, Option, MatchOption, is_some, is_none, not, nat_lt, position, cond}
use Rattle.std.specs.List.{position_or_len}
use Rattle.std.specs.Ordering.{nat_cmp, is_le}
use Rattle.std.specs.declared.cmp.Ordering.TheVariants.{Equal}
use Rattle.std.specs.Cmp.Lexicographic.{slice_cmp}
use Rattle.std.proofs.lemmas.Bool.{ltb-true, ltb-false}
use Rattle.std.proofs.lemmas.Option.{slice_get-get_or, get_or_from_slice_get}
use Rattle.std.proofs.lemmas.List.Quantifiers.{position-Some}
use Rattle.std.proofs.lemmas.List.Sums.{fails_before_first}
use Rattle.mls_automaton.specs.declared.automaton.FieldSet.{FieldSet}
use Rattle.mls_automaton.specs.declared.automaton.Head.{Head}
use Rattle.mls_automaton.specs.declared.automaton.HeadKind.{HeadKind}
use Rattle.mls_automaton.specs.declared.automaton.HeadKind.TheVariants as kind
use Rattle.mls_automaton.specs.Automata.{has_kind}
use Rattle.mls_automaton.specs.Heads.{set_at}
use Rattle.mls_automaton.specs.Models.{HasRisingLabels}
use Rattle.mls_solver.specs.declared.goal.ClashKind.{ClashKind}
use Rattle.mls_solver.specs.declared.goal.ClashKind.TheVariants.{Unlike, Lacks}
use Rattle.mls_solver.specs.Clashes.{IsFirstKind, LacksField, Clashes, label_of, rank, kind_key}
use Rattle.mls_solver.specs.steps.Kinds.{first_kind, other_kind, is_unlike, unlike_kind, lacks}
use Rattle.mls_solver.proofs.PartKinds.{same_kind, same_kind-is, same_kind-self}
use Rattle.mls_solver.proofs.KeyOrder.{at_most-then, labels-at_most, slice_get-below}

-- the first kind that passes
abbrev pub first_of : (HeadKind → Bool) → Option HeadKind
first_of p = first_kind (p kind.Bool) (p kind.Int) (p kind.Function) (p kind.Rcd)

pub record IsFirst (p : HeadKind → Bool) (k : HeadKind) : Type 0 where
  pub passes : p k ≡ true
  pub first : (j : HeadKind) → p j ≡ true → rank k ≤ rank j

abbrev FirstAnswer : (HeadKind → Bool) → Option HeadKind → Type 0
FirstAnswer p None = (j : HeadKind) → p j ≡ false
FirstAnswer p (Some k) = IsFirst p k

first_answer : (p : HeadKind → Bool) → FirstAnswer p (first_of p)
first_answer p = go (p kind.Bool) (p kind.Int) (p kind.Function) (p kind.Rcd) refl refl refl refl
  where
    go : (b i f r : Bool) → p kind.Bool ≡ b → p kind.Int ≡ i → p kind.Function ≡ f → p kind.Rcd ≡ r → FirstAnswer p (first_kind b i f r)
    go true i f r eb ei ef er = record { passes = eb; first = λ j e. omega arith }
    go false true f r eb ei ef er = record { passes = ei; first = second }
      where
        second : (j : HeadKind) → p j ≡ true → 1 ≤ rank j
        second kind.Bool e = absurd (cc)
        second kind.Int e = omega arith
        second kind.Function e = omega arith
        second kind.Rcd e = omega arith
    go false false true r eb ei ef er = record { passes = ef; first = third }
      where
        third : (j : HeadKind) → p j ≡ true → 2 ≤ rank j
        third kind.Bool e = absurd (cc)
        third kind.Int e = absurd (cc)
        third kind.Function e = omega arith
        third kind.Rcd e = omega arith
    go false false false true eb ei ef er = record { passes = er; first = fourth }
      where
        fourth : (j : HeadKind) → p j ≡ true → 3 ≤ rank j
        fourth kind.Bool e = absurd (cc)
        fourth kind.Int e = absurd (cc)
        fourth kind.Function e = absurd (cc)
        fourth kind.Rcd e = omega arith
    go false false false false eb ei ef er = none
      where
        none : (j : HeadKind) → p j ≡ false
        none kind.Bool = eb
        none kind.Int = ei
        none kind.Function = ef
        none kind.Rcd = er

pub first_found : (p : HeadKind → Bool) (k : HeadKind) → first_of p ≡ Some k → IsFirst p k
first_found p k e = subst (FirstAnswer p) e (first_answer p)

pub first_none : (p : HeadKind → Bool) → first_of p ≡ None → (j : HeadKind) → p j ≡ false
first_none p e = subst (FirstAnswer p) e (first_answer p)

rank-same : (k j : HeadKind) → rank k ≡ rank j → k ≡ j
rank-same k j e =
    elim (same_kind-is k j) [
      | inl same ↦ same
      | inr apart ↦ absurd (by k j apart.0 e)
    ]
  where
    by : (k j : HeadKind) → same_kind k j ≡ false → rank k ≡ rank j → ⊥
    by kind.Bool kind.Bool e is = cc
    by kind.Bool kind.Int e is = omega arith
    by kind.Bool kind.Function e is = omega arith
    by kind.Bool kind.Rcd e is = omega arith
    by kind.Int kind.Bool e is = omega arith
    by kind.Int kind.Int e is = cc
    by kind.Int kind.Function e is = omega arith
    by kind.Int kind.Rcd e is = omega arith
    by kind.Function kind.Bool e is = omega arith
    by kind.Function kind.Int e is = omega arith
    by kind.Function kind.Function e is = cc
    by kind.Function kind.Rcd e is = omega arith
    by kind.Rcd kind.Bool e is = omega arith
    by kind.Rcd kind.Int e is = omega arith
    by kind.Rcd kind.Function e is = omega arith
    by kind.Rcd kind.Rcd e is = cc

-- the parts of a head that are of another kind
abbrev is_other : Head → HeadKind → HeadKind → Bool
is_other h k j = not (same_kind k j) && has_kind j h

other_kind-is : (h : Head) (k : HeadKind) → other_kind h k ≡ first_of (is_other h k)
other_kind-is h kind.Bool = refl
other_kind-is h kind.Int = refl
other_kind-is h kind.Function = refl
other_kind-is h kind.Rcd = refl

other-true : (h : Head) (k j : HeadKind) → has_kind j h ≡ true → (k ≡ j → ⊥) → is_other h k j ≡ true
other-true h k j has apart =
    elim (same_kind-is k j) [
      | inl same ↦ absurd (apart same)
      | inr other ↦ λ i. not (other.0 i) && has i
    ]

other-has : (h : Head) (k j : HeadKind) → is_other h k j ≡ true → (has_kind j h ≡ true) × (k ≡ j → ⊥)
other-has h k j e = go (same_kind k j) (has_kind j h) refl refl e
  where
    go : (s b : Bool) → same_kind k j ≡ s → has_kind j h ≡ b → (not s && b) ≡ true → (has_kind j h ≡ true) × (k ≡ j → ⊥)
    go true b es eb it = absurd (cc)
    go false b es eb it = (eb ∙ it, λ same. let yes : same_kind k j ≡ true = ap (same_kind k) (sym same) ∙ same_kind-self k in absurd (cc))

module _ (h k : Head) where
  -- the two heads have unlike parts, the first of this kind
  unlike-has : (first second : HeadKind) → has_kind first h ≡ true → has_kind second k ≡ true → (first ≡ second → ⊥) → is_unlike h k first ≡ true
  unlike-has first second has_first has_second apart = go (other_kind k first) refl
    where
      go : (o : Option HeadKind) → other_kind k first ≡ o → (has_kind first h && is_some (other_kind k first)) ≡ true
      go None e =
          let none : is_other k first second ≡ false = first_none (is_other k first) (sym (other_kind-is k first) ∙ e) second in
          let some : is_other k first second ≡ true = other-true k first second has_second apart in
          absurd (cc)
      go (Some j) e = λ i. has_first i && is_some (e i)

  has-first : (first : HeadKind) → is_unlike h k first ≡ true → has_kind first h ≡ true
  has-first first e = go (has_kind first h) e
    where
      go : (b : Bool) → (b && is_some (other_kind k first)) ≡ true → b ≡ true
      go true e = refl
      go false e = e

  pub no_unlike : unlike_kind h k ≡ None → (first second : HeadKind) → Clashes h k (Unlike first second) → ⊥
  no_unlike none first second it =
      let no : is_unlike h k first ≡ false = first_none (is_unlike h k) none first in
      let yes : is_unlike h k first ≡ true = unlike-has first second it.0 it.1 it.2 in
      absurd (cc)

  pub unlike_other : (first : HeadKind) → unlike_kind h k ≡ Some first → other_kind k first ≡ None → ⊥
  unlike_other first found none =
      let passes : is_unlike h k first ≡ true = (first_found (is_unlike h k) first found).passes in
      let fails : is_unlike h k first ≡ false = (λ i. has_kind first h && is_some (none i)) ∙ and_false (has_kind first h) in
      absurd (cc)
    where
      and_false : (b : Bool) → (b && false) ≡ false
      and_false true = refl
      and_false false = refl

  pub unlike_first : (first second : HeadKind) → unlike_kind h k ≡ Some first → other_kind k first ≡ Some second → IsFirstKind h k (Some (Unlike first second))
  unlike_first first second found next =
      let one : IsFirst (is_unlike h k) first = first_found (is_unlike h k) first found in
      let two : IsFirst (is_other k first) second = first_found (is_other k first) second (sym (other_kind-is k first) ∙ next) in
      let has = other-has k first second two.passes in
      ((has-first first one.passes, has.0, has.1), least)
    where
      least : (other : ClashKind) → Clashes h k other → IsTrue (is_le (slice_cmp nat_cmp (kind_key k (Unlike first second)) (kind_key k other)))
      least (Lacks i) it = refl
      least (Unlike third fourth) it =
          let one : IsFirst (is_unlike h k) first = first_found (is_unlike h k) first found in
          let two : IsFirst (is_other k first) second = first_found (is_other k first) second (sym (other_kind-is k first) ∙ next) in
          at_most-then (rank first) (rank third) _ (one.first third (unlike-has third fourth it.0 it.1 it.2))
          (λ same.
          let third_is : first ≡ third = rank-same first third same in
          at_most-then (rank second) (rank fourth) Equal (two.first fourth (other-true k first fourth it.1 (λ e. it.2 (sym third_is ∙ e)))) (λ e. refl))

-- fields that are lacking
abbrev pub HasLeast : Option (List FieldSet) → Option (List FieldSet) → Option ℕ → Type 0
HasLeast o o' r = MatchOption r ((i : ℕ) → LacksField o o' i → ⊥) (λ i. LacksField o o' i × ((j : ℕ) → LacksField o o' j → i ≤ j))

no_field : FieldSet
no_field = record { label = []; set = [] }

lacks-none : (fields : List FieldSet) (other : FieldSet) → lacks fields other ≡ true → set_at fields other.label ≡ None
lacks-none fields other e = go (set_at fields other.label) e
  where
    go : (o : Option (List ℕ)) → is_none o ≡ true → o ≡ None
    go None e = refl
    go (Some set) e = absurd (cc)

none-lacks : (fields : List FieldSet) (other : FieldSet) → set_at fields other.label ≡ None → lacks fields other ≡ true
none-lacks fields other e = ap is_none e

module _ (fields others : List FieldSet) where
  abbrev p : FieldSet → Bool
  p = lacks fields

  passes_at : (j : ℕ) → LacksField (Some fields) (Some others) j → (j < length others) × (p (get_or others j no_field) ≡ true)
  passes_at j it = (
    slice_get-below others j it.0 it.1,
    subst (λ (f : FieldSet). p f ≡ true) (sym (get_or_from_slice_get others j it.0 no_field it.1)) (none-lacks fields it.0 it.2),
  )

  found : (r : Option ℕ) → position p others ≡ r → HasLeast (Some fields) (Some others) r
  found (Some i) e =
      let it = position-Some p others i no_field e in (
        (get_or others i no_field, slice_get-get_or others i no_field it.0, lacks-none fields (get_or others i no_field) it.1),
        λ j lacking. at_least j lacking (nat_lt j i) refl (it.2 j),
      )
    where
      at_least : (j : ℕ) → LacksField (Some fields) (Some others) j → (b : Bool) → nat_lt j i ≡ b → (j < i → p (get_or others j no_field) ≡ false) → i ≤ j
      at_least j lacking true less fails =
          let no : p (get_or others j no_field) ≡ false = fails (ltb-true j i less) in
          let yes : p (get_or others j no_field) ≡ true = (passes_at j lacking).1 in
          absurd (cc)
      at_least j lacking false more fails = ltb-false j i more
  found None e = λ j lacking. none_at j lacking
    where
      go : (j : ℕ) → LacksField (Some fields) (Some others) j → (b : Bool) → nat_lt (position_or_len p others) (length others) ≡ b → cond b (Some (position_or_len p others)) None ≡ None → ⊥
      go j lacking true is e = cc
      go j lacking false is e =
          let all : length others ≤ position_or_len p others = ltb-false (position_or_len p others) (length others) is in
          let low : j < length others = (passes_at j lacking).0 in
          let no : p (get_or others j no_field) ≡ false = fails_before_first p others j no_field (omega arith) in
          let yes : p (get_or others j no_field) ≡ true = (passes_at j lacking).1 in
          absurd (cc)

      none_at : (j : ℕ) → LacksField (Some fields) (Some others) j → ⊥
      none_at j lacking = go j lacking (nat_lt (position_or_len p others) (length others)) refl e

pub lacking_found : (o o' : Option (List FieldSet)) (fields others slice : List FieldSet) → o ≡ Some fields → o' ≡ Some others → slice ≡ others → (r : Option ℕ) → r ≡ position (lacks fields) slice → HasLeast o o' r
lacking_found o o' fields others slice e e' is r found_at =
    subst (λ s. HasLeast s o' r) (sym e)
    (subst (λ s. HasLeast (Some fields) s r) (sym e')
    (found fields others r (sym (found_at ∙ ap (position (lacks fields)) is))))

module _ (h k : Head) (rising : HasRisingLabels k.fields) (none : unlike_kind h k ≡ None) where
  pub lacks_none : ((i : ℕ) → LacksField h.fields k.fields i → ⊥) → IsFirstKind h k None
  lacks_none full (Unlike first second) it = no_unlike h k none first second it
  lacks_none full (Lacks i) it = full i it

  pub lacks_first : (i : ℕ) → LacksField h.fields k.fields i → ((j : ℕ) → LacksField h.fields k.fields j → i ≤ j) → IsFirstKind h k (Some (Lacks i))
  lacks_first i it least = (it, first)
    where
      labels : (o o' : Option (List FieldSet)) → HasRisingLabels o' → (i j : ℕ) → i ≤ j → LacksField o o' i → LacksField o o' j → IsTrue (is_le (slice_cmp nat_cmp (label_of o' i) (label_of o' j)))
      labels None o' rising i j low one two = absurd one
      labels (Some fields) None rising i j low one two = absurd one
      labels (Some fields) (Some others) rising i j low one two =
          let at : label_of (Some others) i ≡ one.0.label = λ s. elim (one.1 s) [ Some field ↦ field.label | None ↦ [] ] in
          let at' : label_of (Some others) j ≡ two.0.label = λ s. elim (two.1 s) [ Some field ↦ field.label | None ↦ [] ] in
          (λ s. is_le (slice_cmp nat_cmp (at s) (at' s))) ∙ labels-at_most others rising i j one.0 two.0 low one.1 two.1

      first : (other : ClashKind) → Clashes h k other → IsTrue (is_le (slice_cmp nat_cmp (kind_key k (Lacks i)) (kind_key k other)))
      first (Unlike one two) clash = absurd (no_unlike h k none one two clash)
      first (Lacks j) clash = labels h.fields k.fields rising i j (least j clash) it clash
