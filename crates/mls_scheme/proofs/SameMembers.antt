-- The combined head of a list depends on its members alone.
use Rattle.std.proofs.Common.{inl, inr, ◌≡◌, ◌<◌, ℕ, Bool, true, false, ◌||◌, List, [], ◌∷◌, ◌++◌, map, refl, sym, subst, arith, Contains, Some, None}
use Rattle.std.specs.Prelude.{Option}
use Rattle.std.proofs.lemmas.List.Elements.{Contains-append_cases, Contains-append_left, Contains-append_right}
use Rattle.mls_automaton.specs.declared.automaton.Polarity.{Polarity}
use Rattle.mls_automaton.specs.declared.automaton.Polarity.TheVariants.{Positive, Negative}
use Rattle.mls_automaton.specs.declared.automaton.Arms.{Arms}
use Rattle.mls_automaton.specs.Heads.{combined, combined_functions, combined_records, combined_sets, combined_two, IsSameOption, IsSameParts, IsSameSet, Parts}
use Rattle.mls_automaton.proofs.Lists.{Contains-cases, Contains-here, Contains-later}
use Rattle.mls_scheme.proofs.CombinedAll.{option-refl, same-refl, same-trans, set-refl, two-assoc, two-same, SameArms, SameSets, Sets}

or-swap : (a b : Bool) → (a || b) ≡ (b || a)
or-swap true true = refl
or-swap true false = refl
or-swap false true = refl
or-swap false false = refl

or-twice : (a : Bool) → (a || a) ≡ a
or-twice true = refl
or-twice false = refl

set-swap : (xs ys : List ℕ) → IsSameSet (xs ++ ys) (ys ++ xs)
set-swap xs ys = (go xs ys, go ys xs)
  where
    go : (xs ys : List ℕ) → (s : ℕ) → Contains (xs ++ ys) s → Contains (ys ++ xs) s
    go xs ys s it = elim (Contains-append_cases xs ys s it) [
      | inl first ↦ Contains-append_right ys xs s first
      | inr second ↦ Contains-append_left ys xs s second
    ]

set-twice : (xs : List ℕ) → IsSameSet (xs ++ xs) xs
set-twice xs = (
  λ s it. elim (Contains-append_cases xs xs s it) [ inl first ↦ first | inr second ↦ second ],
  λ s it. Contains-append_left xs xs s it,
)

arms-refl : (o : Option Arms) → IsSameOption SameArms o o
arms-refl = option-refl SameArms (λ f. (set-refl f.domain, set-refl f.codomain))

sets-refl : (o : Option (List ℕ)) → IsSameOption IsSameSet o o
sets-refl = option-refl IsSameSet set-refl

records-refl : (o : Option Sets) → IsSameOption SameSets o o
records-refl = option-refl SameSets (λ f label. sets-refl (f label))

option-back : {X : Type 0} (Same : X → X → Type 0) → ((x y : X) → Same x y → Same y x) → (o m : Option X) → IsSameOption Same o m → IsSameOption Same m o
option-back Same each None None same = tt
option-back Same each None (Some y) same = absurd same
option-back Same each (Some x) None same = absurd same
option-back Same each (Some x) (Some y) same = each x y same

set-back : (xs ys : List ℕ) → IsSameSet xs ys → IsSameSet ys xs
set-back xs ys same = (same.1, same.0)

same-back : (h k : Parts) → IsSameParts h k → IsSameParts k h
same-back h k same = record {
  boolean = sym same.boolean;
  integer = sym same.integer;
  function = option-back SameArms (λ f g same. (set-back f.domain g.domain same.0, set-back f.codomain g.codomain same.1)) h.function k.function same.function;
  fields = option-back SameSets (λ f g same label. option-back IsSameSet set-back (f label) (g label) (same label)) h.fields k.fields same.fields;
}

-- two heads in either order
functions-swap : (o m : Option Arms) → IsSameOption SameArms (combined_functions o m) (combined_functions m o)
functions-swap None None = tt
functions-swap None (Some g) = arms-refl (Some g)
functions-swap (Some f) None = arms-refl (Some f)
functions-swap (Some f) (Some g) = (set-swap f.domain g.domain, set-swap f.codomain g.codomain)

sets-swap : (p : Polarity) (o m : Option (List ℕ)) → IsSameOption IsSameSet (combined_sets p o m) (combined_sets p m o)
sets-swap p (Some xs) (Some ys) = set-swap xs ys
sets-swap Positive (Some xs) None = tt
sets-swap Positive None None = tt
sets-swap Positive None (Some ys) = tt
sets-swap Negative (Some xs) None = set-refl xs
sets-swap Negative None None = tt
sets-swap Negative None (Some ys) = set-refl ys

fields-swap : (p : Polarity) (o m : Option Sets) → IsSameOption SameSets (combined_records p o m) (combined_records p m o)
fields-swap p None None = tt
fields-swap p None (Some g) = records-refl (Some g)
fields-swap p (Some f) None = records-refl (Some f)
fields-swap p (Some f) (Some g) = λ label. sets-swap p (f label) (g label)

two-swap : (p : Polarity) (h k : Parts) → IsSameParts (combined_two p h k) (combined_two p k h)
two-swap p h k = record {
  boolean = or-swap h.boolean k.boolean;
  integer = or-swap h.integer k.integer;
  function = functions-swap h.function k.function;
  fields = fields-swap p h.fields k.fields;
}

-- one head twice
functions-twice : (o : Option Arms) → IsSameOption SameArms (combined_functions o o) o
functions-twice None = tt
functions-twice (Some f) = (set-twice f.domain, set-twice f.codomain)

sets-twice : (p : Polarity) (o : Option (List ℕ)) → IsSameOption IsSameSet (combined_sets p o o) o
sets-twice p (Some xs) = set-twice xs
sets-twice Positive None = tt
sets-twice Negative None = tt

fields-twice : (p : Polarity) (o : Option Sets) → IsSameOption SameSets (combined_records p o o) o
fields-twice p None = tt
fields-twice p (Some f) = λ label. sets-twice p (f label)

two-twice : (p : Polarity) (h : Parts) → IsSameParts (combined_two p h h) h
two-twice p h = record {
  boolean = or-twice h.boolean;
  integer = or-twice h.integer;
  function = functions-twice h.function;
  fields = fields-twice p h.fields;
}

module _ (p : Polarity) (parts : ℕ → Parts) where
  abbrev all : List ℕ → Parts
  all xs = combined p (map parts xs)

  -- a head that is there already
  member : (x : ℕ) (xs : List ℕ) → Contains xs x → IsSameParts (combined_two p (parts x) (all xs)) (all xs)
  member x [] it = let none : it.0 < 0 = it.1 in absurd (omega arith)
  member x (y ∷ rest) it =
      elim (Contains-cases y rest x it) [
        | inl same ↦ subst (λ z. IsSameParts (combined_two p (parts z) (all (y ∷ rest))) (all (y ∷ rest))) same first
        | inr later ↦ behind (member x rest later)
      ]
    where
      first : IsSameParts (combined_two p (parts y) (combined_two p (parts y) (all rest))) (combined_two p (parts y) (all rest))
      first =
          subst (λ (h : Parts). IsSameParts h (combined_two p (parts y) (all rest))) (sym (two-assoc p (parts y) (parts y) (all rest)))
          (two-same p (combined_two p (parts y) (parts y)) (all rest) (parts y) (all rest) (two-twice p (parts y)) (same-refl (all rest)))

      behind : IsSameParts (combined_two p (parts x) (all rest)) (all rest) → IsSameParts (combined_two p (parts x) (combined_two p (parts y) (all rest))) (combined_two p (parts y) (all rest))
      behind there =
          same-trans (combined_two p (parts x) (combined_two p (parts y) (all rest))) (combined_two p (parts y) (combined_two p (parts x) (all rest))) (combined_two p (parts y) (all rest))
          (subst (λ (h : Parts). IsSameParts h (combined_two p (parts y) (combined_two p (parts x) (all rest)))) (sym (two-assoc p (parts x) (parts y) (all rest)))
          (subst (IsSameParts (combined_two p (combined_two p (parts x) (parts y)) (all rest))) (sym (two-assoc p (parts y) (parts x) (all rest)))
          (two-same p (combined_two p (parts x) (parts y)) (all rest) (combined_two p (parts y) (parts x)) (all rest) (two-swap p (parts x) (parts y)) (same-refl (all rest)))))
          (two-same p (parts y) (combined_two p (parts x) (all rest)) (parts y) (all rest) (same-refl (parts y)) there)

  -- heads that are there already
  members : (xs ys : List ℕ) → ((x : ℕ) → Contains xs x → Contains ys x) → IsSameParts (combined_two p (all xs) (all ys)) (all ys)
  members [] ys within = same-refl (all ys)
  members (x ∷ rest) ys within =
      same-trans (combined_two p (combined_two p (parts x) (all rest)) (all ys)) (combined_two p (parts x) (all ys)) (all ys)
      (subst (λ (h : Parts). IsSameParts h (combined_two p (parts x) (all ys))) (two-assoc p (parts x) (all rest) (all ys))
      (two-same p (parts x) (combined_two p (all rest) (all ys)) (parts x) (all ys) (same-refl (parts x))
      (members rest ys (λ y it. within y (Contains-later x rest y it)))))
      (member x ys (within x (Contains-here x rest)))

  pub same-members : (xs ys : List ℕ) → IsSameSet xs ys → IsSameParts (all xs) (all ys)
  same-members xs ys same =
      same-trans (all xs) (combined_two p (all ys) (all xs)) (all ys)
      (same-back (combined_two p (all ys) (all xs)) (all xs) (members ys xs same.1))
      (same-trans (combined_two p (all ys) (all xs)) (combined_two p (all xs) (all ys)) (all ys)
      (two-swap p (all ys) (all xs))
      (members xs ys same.0))
