-- A tree without faults has a fit type.
use Rattle.std.proofs.Common.{◌≡◌, ℕ, zero, suc, ◌<◌, ◌≤◌, Bool, true, false, not, ◌||◌, List, [], ◌∷◌, ◌++◌, length, refl, ap, ◌∙◌, subst, arith, Some}
use Rattle.std.specs.Prelude.{cond, bytes_eq, find, filter, ◌==◌}
use Rattle.std.specs.List.{list_any}
use Rattle.std.proofs.lemmas.Bool.Decides.{nat_tests}
use Rattle.mls_typetext.specs.declared.scheme.TypeFault.{TypeFault}
use Rattle.mls_typetext.specs.declared.scheme.TypeFault.TheVariants.{NotPolar, Unguarded, Contravariant, DuplicateLabel}
use Rattle.mls_typetext.specs.Trees.{TypeTree, a_name, a_bool, an_int, a_top, a_bot, an_arrow, a_record, a_join, a_meet, a_rec, TypeFields, no_field, a_field}
use Rattle.mls_typetext.specs.Faults.{Around, nearest, same, name_faults, faults, field_faults}
use Rattle.mls_typetext.specs.Books.{again, var, is_in, place_in, first_places, variables_in, field_variables, variables, numbered, numbered_fields, type_of}
use Rattle.mls_typetext.proofs.FieldOrder.{bytes_eq-same, bytes_eq-self, bytes_eq-swap}
use Rattle.mls_typetext.proofs.Fit.{labels_of, IsFit, AreFit}

-- two lists without elements in a row
both_empty : {A : Type 0} (xs ys : List A) → xs ++ ys ≡ [] → (xs ≡ []) × (ys ≡ [])
both_empty [] ys e = (refl, e)
both_empty (x ∷ xs) ys e = absurd (cc)

-- names in lists
is_in-first : (b c : Bool) → b ≡ true → cond b true c ≡ true
is_in-first true c e = refl
is_in-first false c e = absurd (cc)

pub is_in-left : (x : List ℕ) (xs ys : List (List ℕ)) → is_in xs x ≡ true → is_in (xs ++ ys) x ≡ true
is_in-left x [] ys e = absurd (cc)
is_in-left x (y ∷ xs) ys e =
    elim (bytes_eq y x) as (λ b. cond b true (is_in xs x) ≡ true → cond b true (is_in (xs ++ ys) x) ≡ true) [
      | true ↦ λ e. refl
      | false ↦ λ e. is_in-left x xs ys e
    ] e

pub is_in-right : (x : List ℕ) (xs ys : List (List ℕ)) → is_in ys x ≡ true → is_in (xs ++ ys) x ≡ true
is_in-right x [] ys e = e
is_in-right x (y ∷ xs) ys e =
    elim (bytes_eq y x) as (λ b. cond b true (is_in (xs ++ ys) x) ≡ true) [
      | true ↦ refl
      | false ↦ is_in-right x xs ys e
    ]

-- a name that is there has a place there
pub place_in-below : (x : List ℕ) (xs : List (List ℕ)) → is_in xs x ≡ true → place_in xs x < length xs
place_in-below x [] e = absurd (cc)
place_in-below x (y ∷ xs) e =
    elim (bytes_eq y x) as (λ b. cond b true (is_in xs x) ≡ true → cond b 0 (suc (place_in xs x)) < suc (length xs)) [
      | true ↦ λ e. omega arith
      | false ↦ λ e. let later : place_in xs x < length xs = place_in-below x xs e in omega arith
    ] e

-- taking away another name
is_in-filter : (x y : List ℕ) (zs : List (List ℕ)) → bytes_eq y x ≡ false → is_in zs x ≡ true → is_in (filter (λ z. not (bytes_eq z y)) zs) x ≡ true
is_in-filter x y [] other e = absurd (cc)
is_in-filter x y (z ∷ zs) other e = go (bytes_eq z y) refl (bytes_eq z x) refl e (is_in-filter x y zs other)
  where
    go : (b : Bool) → bytes_eq z y ≡ b → (c : Bool) → bytes_eq z x ≡ c → cond c true (is_in zs x) ≡ true → (is_in zs x ≡ true → is_in (filter (λ z. not (bytes_eq z y)) zs) x ≡ true) → is_in (cond (not b) (z ∷ filter (λ z. not (bytes_eq z y)) zs) (filter (λ z. not (bytes_eq z y)) zs)) x ≡ true
    go true is true is' e later =
        let same : z ≡ x = bytes_eq-same z x is' in
        let here : bytes_eq y x ≡ true = subst (λ w. bytes_eq y w ≡ true) same (bytes_eq-swap z y is) in
        absurd (cc)
    go true is false is' e later = later e
    go false is true is' e later = is_in-first (bytes_eq z x) (is_in (filter (λ z. not (bytes_eq z y)) zs) x) is'
    go false is false is' e later =
        let rest : is_in (filter (λ z. not (bytes_eq z y)) zs) x ≡ true = later e in
        ap (λ b. cond b true (is_in (filter (λ z. not (bytes_eq z y)) zs) x)) is' ∙ rest

-- each name of a list is among the first places
pub is_in-first_places : (x : List ℕ) (xs : List (List ℕ)) → is_in xs x ≡ true → is_in (first_places xs) x ≡ true
is_in-first_places x [] e = absurd (cc)
is_in-first_places x (y ∷ xs) e = go (bytes_eq y x) refl e (is_in-first_places x xs)
  where
    go : (b : Bool) → bytes_eq y x ≡ b → cond b true (is_in xs x) ≡ true → (is_in xs x ≡ true → is_in (first_places xs) x ≡ true) → cond b true (is_in (filter (λ z. not (bytes_eq z y)) (first_places xs)) x) ≡ true
    go true is e later = refl
    go false is e later = is_in-filter x y (first_places xs) is (later e)

-- the first list has all names of the second
abbrev Covers : List (List ℕ) → List (List ℕ) → Type 0
Covers vars xs = (x : List ℕ) → is_in xs x ≡ true → is_in vars x ≡ true

-- the names of `rec`s
abbrev pub names_of : List Around → List (List ℕ)
names_of [] = []
names_of (r ∷ around) = r.x ∷ names_of around

-- the nearest m `rec`s have just so many functions and records around them
abbrev AreHere : ℕ → ℕ → List Around → Type 0
AreHere guards zero around = Unit {0}
AreHere guards (suc m) [] = ⊥
AreHere guards (suc m) (r ∷ around) = (r.guards ≡ guards) × AreHere guards m around

unguarded_fault : (is_positive : Bool) (guards place : ℕ) (r : Around) → r.guards ≡ guards → name_faults is_positive guards place (Some r) ≡ [] → ⊥
unguarded_fault is_positive guards place r is e = go (r.guards == guards) yes e
  where
    yes : (r.guards == guards) ≡ true
    yes = grind (arith, nat_tests)

    go : (b : Bool) → b ≡ true → cond b (Unguarded place ∷ []) (cond (same r.is_positive is_positive) [] (Contravariant place ∷ [])) ≡ [] → ⊥
    go true is e = cc
    go false is e = cc

-- so a recursive name without a fault is another
name-fit : (is_positive : Bool) (guards place m : ℕ) (around : List Around) (x : List ℕ) → AreHere guards m around → is_in (names_of around) x ≡ true → name_faults is_positive guards place (nearest around x) ≡ [] → (m ≤ place_in (names_of around) x) × (place_in (names_of around) x < length around)
name-fit is_positive guards place m [] x here there e = absurd (cc)
name-fit is_positive guards place zero (r ∷ around) x here there e =
    elim (bytes_eq r.x x) as (λ b. cond b true (is_in (names_of around) x) ≡ true → name_faults is_positive guards place (cond b (Some r) (find (λ r. bytes_eq r.x x) around)) ≡ [] → (0 ≤ cond b 0 (suc (place_in (names_of around) x))) × (cond b 0 (suc (place_in (names_of around) x)) < suc (length around))) [
      | true ↦ λ there e. (omega arith, omega arith)
      | false ↦ λ there e.
          let later = name-fit is_positive guards place 0 around x tt there e in
          let low : place_in (names_of around) x < length around = later.1 in
          (omega arith, omega arith)
    ] there e
name-fit is_positive guards place (suc m) (r ∷ around) x here there e =
    elim (bytes_eq r.x x) as (λ b. cond b true (is_in (names_of around) x) ≡ true → name_faults is_positive guards place (cond b (Some r) (find (λ r. bytes_eq r.x x) around)) ≡ [] → (suc m ≤ cond b 0 (suc (place_in (names_of around) x))) × (cond b 0 (suc (place_in (names_of around) x)) < suc (length around))) [
      | true ↦ λ there e. absurd (unguarded_fault is_positive guards place r here.0 e)
      | false ↦ λ there e.
          let later = name-fit is_positive guards place m around x here.1 there e in
          let high : m ≤ place_in (names_of around) x = later.0 in
          let low : place_in (names_of around) x < length around = later.1 in
          (omega arith, omega arith)
    ] there e

-- a label that another field has is no later field's without a fault
other_label : (label l : List ℕ) (labels : List (List ℕ)) → is_in labels l ≡ true → list_any (bytes_eq label) labels ≡ false → bytes_eq label l ≡ false
other_label label l [] there e = absurd (cc)
other_label label l (y ∷ labels) there e = go (bytes_eq y l) refl (bytes_eq label y) refl there e (other_label label l labels)
  where
    go : (b : Bool) → bytes_eq y l ≡ b → (c : Bool) → bytes_eq label y ≡ c → cond b true (is_in labels l) ≡ true → (c || list_any (bytes_eq label) labels) ≡ false → (is_in labels l ≡ true → list_any (bytes_eq label) labels ≡ false → bytes_eq label l ≡ false) → bytes_eq label l ≡ false
    go b is true is' there e later = absurd (cc)
    go true is false is' there e later = subst (λ z. bytes_eq label z ≡ false) (bytes_eq-same y l is) is'
    go false is false is' there e later = later there e

no_duplicate : (b : Bool) (place : ℕ) → cond b (DuplicateLabel place ∷ []) [] ≡ [] → b ≡ false
no_duplicate true place e = absurd (cc)
no_duplicate false place e = refl

unseen : (vars recs : List (List ℕ)) (is_positive : Bool) (around : List Around) (guards : ℕ) (labels : List (List ℕ)) (all : TypeFields) (l : List ℕ) → field_faults is_positive around guards labels all ≡ [] → is_in labels l ≡ true → is_in (labels_of (numbered_fields vars recs all)) l ≡ false
unseen vars recs is_positive around guards labels no_field l e there = refl
unseen vars recs is_positive around guards labels (a_field place label t rest) l e there =
    let dup : List TypeFault = cond (list_any (bytes_eq label) labels) (DuplicateLabel place ∷ []) [] in
    let parts = both_empty (dup ++ faults is_positive around guards t) (field_faults is_positive around guards (label ∷ labels) rest) e in
    let first = both_empty dup (faults is_positive around guards t) parts.0 in
    let other : bytes_eq label l ≡ false = other_label label l labels there (no_duplicate (list_any (bytes_eq label) labels) place first.0) in
    let later : is_in (labels_of (numbered_fields vars recs rest)) l ≡ false =
    unseen vars recs is_positive around guards (label ∷ labels) rest l parts.1 (is_in-right l (label ∷ []) labels there) in
    ap (λ b. cond b true (is_in (labels_of (numbered_fields vars recs rest)) l)) other ∙ later

mutual
  tree-fit : (vars : List (List ℕ)) (is_positive : Bool) (around : List Around) (guards m : ℕ) (t : TypeTree) → AreHere guards m around → faults is_positive around guards t ≡ [] → Covers vars (variables_in (names_of around) t) → IsFit (length vars) m (length around) (numbered vars (names_of around) t)
  tree-fit vars is_positive around guards m (a_name place x) here e cover =
      let recs : List (List ℕ) = names_of around in
      elim (is_in recs x) as (λ b. (is_in recs x ≡ b) → Covers vars (cond b [] (x ∷ [])) → IsFit (length vars) m (length around) (cond b (again (place_in recs x)) (var (place_in vars x)))) [
        | true ↦ λ is cover. name-fit is_positive guards place m around x here is e
        | false ↦ λ is cover. place_in-below x vars (cover x (is_in-first (bytes_eq x x) false (bytes_eq-self x)))
      ] refl cover
  tree-fit vars is_positive around guards m a_bool here e cover = tt
  tree-fit vars is_positive around guards m an_int here e cover = tt
  tree-fit vars is_positive around guards m (a_top place) here e cover = tt
  tree-fit vars is_positive around guards m (a_bot place) here e cover = tt
  tree-fit vars is_positive around guards m (an_arrow from to) here e cover =
      let parts = both_empty (faults (not is_positive) around (suc guards) from) (faults is_positive around (suc guards) to) e in
      let recs : List (List ℕ) = names_of around in (
        tree-fit vars (not is_positive) around (suc guards) 0 from tt parts.0 (λ x h. cover x (is_in-left x (variables_in recs from) (variables_in recs to) h)),
        tree-fit vars is_positive around (suc guards) 0 to tt parts.1 (λ x h. cover x (is_in-right x (variables_in recs from) (variables_in recs to) h)),
      )
  tree-fit vars is_positive around guards m (a_record all) here e cover = fields-fit vars is_positive around (suc guards) [] all e cover
  tree-fit vars is_positive around guards m (a_join left place right) here e cover =
      let mid : List TypeFault = cond is_positive [] (NotPolar place ∷ []) in
      let parts = both_empty (faults is_positive around guards left ++ mid) (faults is_positive around guards right) e in
      let first = both_empty (faults is_positive around guards left) mid parts.0 in
      let recs : List (List ℕ) = names_of around in (
        tree-fit vars is_positive around guards m left here first.0 (λ x h. cover x (is_in-left x (variables_in recs left) (variables_in recs right) h)),
        tree-fit vars is_positive around guards m right here parts.1 (λ x h. cover x (is_in-right x (variables_in recs left) (variables_in recs right) h)),
      )
  tree-fit vars is_positive around guards m (a_meet left place right) here e cover =
      let mid : List TypeFault = cond is_positive (NotPolar place ∷ []) [] in
      let parts = both_empty (faults is_positive around guards left ++ mid) (faults is_positive around guards right) e in
      let first = both_empty (faults is_positive around guards left) mid parts.0 in
      let recs : List (List ℕ) = names_of around in (
        tree-fit vars is_positive around guards m left here first.0 (λ x h. cover x (is_in-left x (variables_in recs left) (variables_in recs right) h)),
        tree-fit vars is_positive around guards m right here parts.1 (λ x h. cover x (is_in-right x (variables_in recs left) (variables_in recs right) h)),
      )
  tree-fit vars is_positive around guards m (a_rec x t) here e cover =
      tree-fit vars is_positive (record { x = x; is_positive = is_positive; guards = guards } ∷ around) guards (suc m) t (refl, here) e cover

  fields-fit : (vars : List (List ℕ)) (is_positive : Bool) (around : List Around) (guards : ℕ) (labels : List (List ℕ)) (all : TypeFields) → field_faults is_positive around guards labels all ≡ [] → Covers vars (field_variables (names_of around) all) → AreFit (length vars) (length around) (numbered_fields vars (names_of around) all)
  fields-fit vars is_positive around guards labels no_field e cover = tt
  fields-fit vars is_positive around guards labels (a_field place label t rest) e cover =
      let dup : List TypeFault = cond (list_any (bytes_eq label) labels) (DuplicateLabel place ∷ []) [] in
      let parts = both_empty (dup ++ faults is_positive around guards t) (field_faults is_positive around guards (label ∷ labels) rest) e in
      let first = both_empty dup (faults is_positive around guards t) parts.0 in
      let recs : List (List ℕ) = names_of around in (
        unseen vars recs is_positive around guards (label ∷ labels) rest label parts.1 (is_in-first (bytes_eq label label) (is_in labels label) (bytes_eq-self label)),
        tree-fit vars is_positive around guards 0 t tt first.1 (λ x h. cover x (is_in-left x (variables_in recs t) (field_variables recs rest) h)),
        fields-fit vars is_positive around guards (label ∷ labels) rest parts.1 (λ x h. cover x (is_in-right x (variables_in recs t) (field_variables recs rest) h)),
      )

-- the type of a tree without faults is fit
pub type_of-fit : (tree : TypeTree) → faults true [] 0 tree ≡ [] → IsFit (length (variables tree)) 0 0 (type_of tree)
type_of-fit tree e = tree-fit (variables tree) true [] 0 0 tree tt e (λ x h. is_in-first_places x (variables_in [] tree) h)
