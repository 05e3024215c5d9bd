-- Sets of the same members are shown by the same trees.
--     shows_same, function_same, fields_same      a tree shows each of two sets of the same members
use Rattle.std.proofs.Common.{◌≡◌, ℕ, zero, suc, Bool, true, false, ◌&&◌, ◌==◌, List, [], ◌∷◌, refl, ap, ◌∙◌, subst, Some, None}
use Rattle.std.specs.Prelude.{Option, is_some}
use Rattle.std.specs.List.{list_any}
use Rattle.std.proofs.lemmas.List.Elements.{All-nil, All-cons, All-head, All-tail, filter_agree}
use Rattle.mls_automaton.specs.declared.automaton.Polarity.{Polarity}
use Rattle.mls_automaton.specs.declared.automaton.Polarity.TheVariants.{Positive, Negative}
use Rattle.mls_automaton.specs.declared.automaton.Arms.{Arms}
use Rattle.mls_automaton.specs.declared.automaton.Flow.{Flow}
use Rattle.mls_automaton.specs.Automata.{Automaton, opposite}
use Rattle.mls_automaton.specs.Heads.{IsSameSet, IsSameOption}
use Rattle.mls_print.specs.Walks.{is_member, flows_into, holders, shown_variables}
use Rattle.mls_print.specs.Shown.{Shown, again, a_set, ShownFunction, no_function, function, ShownRecord, no_record, fields, ShownFields, no_more, field, set_head, IsAround, IsNew, Shows, ShowsFunction, ShowsRecord, ShowsFields}
use Rattle.mls_print.proofs.SetValues.{member-contains, contains-member}
use Rattle.mls_print.proofs.FlatHeads.{same_boolean, same_integer, same_function, same_fields}

abbrev Sets : Type 0
Sets = List ℕ → Option (List ℕ)

pub set-self : (xs : List ℕ) → IsSameSet xs xs
set-self xs = ((λ s it. it), (λ s it. it))

pub set-swap : (xs ys : List ℕ) → IsSameSet xs ys → IsSameSet ys xs
set-swap xs ys same = (same.1, same.0)

pub set-trans : (xs ys zs : List ℕ) → IsSameSet xs ys → IsSameSet ys zs → IsSameSet xs zs
set-trans xs ys zs first second = (λ s it. second.0 s (first.0 s it), λ s it. first.1 s (second.1 s it))

-- sets with the same members, one by one
abbrev pub AllSame : List (List ℕ) → List (List ℕ) → Type 0
AllSame [] [] = Unit {0}
AllSame (x ∷ xs) (y ∷ ys) = IsSameSet x y × AllSame xs ys
AllSame _ _ = ⊥

pub all-self : (xs : List (List ℕ)) → AllSame xs xs
all-self [] = tt
all-self (x ∷ xs) = (set-self x, all-self xs)

around-same : (xs ys : List (List ℕ)) (set other : List ℕ) (k : ℕ) → AllSame xs ys → IsSameSet set other → IsAround xs set k → IsAround ys other k
around-same [] [] set other k all same it = it
around-same [] (y ∷ ys) set other k all same it = absurd all
around-same (x ∷ xs) [] set other k all same it = absurd all
around-same (x ∷ xs) (y ∷ ys) set other zero all same it = set-trans y x other (set-swap x y all.0) (set-trans x set other it same)
around-same (x ∷ xs) (y ∷ ys) set other (suc k) all same it = (
  λ here. it.0 (set-trans x y set all.0 (set-trans y other set here (set-swap set other same))),
  around-same xs ys set other k all.1 same it.1,
)

new-same : (xs ys : List (List ℕ)) (set other : List ℕ) → AllSame xs ys → IsSameSet set other → IsNew xs set → IsNew ys other
new-same [] [] set other all same it = All-nil (λ near. IsSameSet near other → ⊥)
new-same [] (y ∷ ys) set other all same it = absurd all
new-same (x ∷ xs) [] set other all same it = absurd all
new-same (x ∷ xs) (y ∷ ys) set other all same it =
    All-cons (λ near. IsSameSet near other → ⊥) y ys
    (λ here. All-head (λ near. IsSameSet near set → ⊥) x xs it (set-trans x y set all.0 (set-trans y other set here (set-swap set other same))))
    (new-same xs ys set other all.1 same (All-tail (λ near. IsSameSet near set → ⊥) x xs it))

member-same : (xs ys : List ℕ) → IsSameSet xs ys → (s : ℕ) → is_member xs s ≡ is_member ys s
member-same xs ys same s = go (is_member xs s) refl (is_member ys s) refl
  where
    go : (b : Bool) → is_member xs s ≡ b → (c : Bool) → is_member ys s ≡ c → b ≡ c
    go true e true e' = refl
    go false e false e' = refl
    go true e false e' = let yes : is_member ys s ≡ true = contains-member ys s (same.0 s (member-contains xs s e)) in absurd (cc)
    go false e true e' = let yes : is_member xs s ≡ true = contains-member xs s (same.1 s (member-contains ys s e')) in absurd (cc)

module _ (a : Automaton) (order : List ℕ) where
  variables-same : (p : Polarity) (xs ys : List ℕ) → IsSameSet xs ys → shown_variables a order p xs ≡ shown_variables a order p ys
  variables-same Positive xs ys same =
      filter_agree (flows_into a xs) (flows_into a ys)
      (λ n i. list_any (λ (f : Flow). (f.negative.0 == n) && member-same xs ys same f.positive.0 i) a.flows)
      (holders a order)
  variables-same Negative xs ys same = filter_agree (is_member xs) (is_member ys) (member-same xs ys same) (holders a order)

  some-back : (o other : Option (List ℕ)) → IsSameOption IsSameSet o other → is_some other ≡ true → is_some o ≡ true
  some-back None None same e = e
  some-back None (Some ys) same e = absurd same
  some-back (Some xs) None same e = absurd same
  some-back (Some xs) (Some ys) same e = refl

  set-there : (o other : Option (List ℕ)) → IsSameOption IsSameSet o other → (set : List ℕ) → o ≡ Some set → (found : List ℕ) × (other ≡ Some found) × IsSameSet set found
  set-there None other same set e = let no : false ≡ true = ap (λ (o : Option (List ℕ)). is_some o) e in absurd (cc)
  set-there (Some xs) None same set e = absurd same
  set-there (Some xs) (Some ys) same set e = let is : xs ≡ set = cc in (ys, refl, subst (λ xs. IsSameSet xs ys) is same)

  mutual
    pub shows_same : (xs ys : List (List ℕ)) → AllSame xs ys → (p : Polarity) (set other : List ℕ) → IsSameSet set other → (t : Shown) → Shows a order xs p set t → Shows a order ys p other t
    shows_same xs ys all p set other same (again k) it = around-same xs ys set other k all same it
    shows_same xs ys all p set other same (a_set q vs b i f r) it = (
      record {
        new = new-same xs ys set other all same it.0.new;
        polarity = it.0.polarity;
        variables = it.0.variables ∙ variables-same p set other same;
        boolean = it.0.boolean ∙ same_boolean a p set other same;
        integer = it.0.integer ∙ same_integer a p set other same;
      },
      function_same (set ∷ xs) (other ∷ ys) (same, all) p (set_head a p set).function (set_head a p other).function (same_function a p set other same) f it.1,
      record_same (set ∷ xs) (other ∷ ys) (same, all) p (set_head a p set).fields (set_head a p other).fields (same_fields a p set other same) r it.2,
    )

    pub function_same : (xs ys : List (List ℕ)) → AllSame xs ys → (p : Polarity) (o other : Option Arms) → IsSameOption (λ (f : Arms) g. IsSameSet f.domain g.domain × IsSameSet f.codomain g.codomain) o other → (f : ShownFunction) → ShowsFunction a order xs p o f → ShowsFunction a order ys p other f
    function_same xs ys all p None None same no_function it = tt
    function_same xs ys all p None None same (function d c) it = absurd it
    function_same xs ys all p None (Some g) same f it = absurd same
    function_same xs ys all p (Some f) None same g it = absurd same
    function_same xs ys all p (Some f) (Some g) same no_function it = absurd it
    function_same xs ys all p (Some f) (Some g) same (function d c) it = (
      shows_same xs ys all (opposite p) f.domain g.domain same.0 d it.0,
      shows_same xs ys all p f.codomain g.codomain same.1 c it.1,
    )

    pub record_same : (xs ys : List (List ℕ)) → AllSame xs ys → (p : Polarity) (o other : Option Sets) → IsSameOption (λ (f g : Sets). (label : List ℕ) → IsSameOption IsSameSet (f label) (g label)) o other → (r : ShownRecord) → ShowsRecord a order xs p o r → ShowsRecord a order ys p other r
    record_same xs ys all p None None same no_record it = tt
    record_same xs ys all p None None same (fields shown) it = absurd it
    record_same xs ys all p None (Some g) same r it = absurd same
    record_same xs ys all p (Some f) None same r it = absurd same
    record_same xs ys all p (Some f) (Some g) same no_record it = absurd it
    record_same xs ys all p (Some f) (Some g) same (fields shown) it = (
      it.0,
      (λ label some. it.1 label (some-back (f label) (g label) (same label) some)),
      fields_same xs ys all p f g same shown it.2,
    )

    fields_same : (xs ys : List (List ℕ)) → AllSame xs ys → (p : Polarity) (f g : Sets) → ((label : List ℕ) → IsSameOption IsSameSet (f label) (g label)) → (shown : ShownFields) → ShowsFields a order xs p f shown → ShowsFields a order ys p g shown
    fields_same xs ys all p f g same no_more it = tt
    fields_same xs ys all p f g same (field label t rest) it =
        let there = set-there (f label) (g label) (same label) it.0 it.1 in
        (there.0, there.1, shows_same xs ys all p it.0 there.0 there.2 t it.2, fields_same xs ys all p f g same rest it.3)
