-- Combined heads are put together from the combined heads of parts of a list.
--     combined-append     the combined head of two lists, one behind the other
--     same_parts-halves   what is put together of the heads of a front and of the rest has the same as the head of all
--     front-nothing, back-nothing   a front and a rest whose heads have nothing add nothing
use Rattle.std.proofs.Common.{◌≡◌, inl, inr, ℕ, ◌-◌, ◌||◌, arith, length, suc, All, Bool, true, false, List, [], ◌∷◌, ◌++◌, map, take, drop, refl, sym, ap, ◌∙◌, subst, append_assoc, Some, None, Contains}
use Rattle.std.specs.Prelude.{Option, Result, Ok, Err, IfOk}
use Rattle.std.proofs.Math.Seq.{take-length}
use Rattle.std.proofs.lemmas.List.{length-drop, map-append, take-append-drop}
use Rattle.std.proofs.lemmas.List.Elements.{Contains-append_left, Contains-append_right, Contains-append_cases}
use Rattle.mls_automaton.specs.declared.automaton.Polarity.{Polarity}
use Rattle.mls_automaton.specs.declared.automaton.Polarity.TheVariants.{Positive, Negative}
use Rattle.mls_automaton.specs.declared.automaton.Arms.{Arms}
use Rattle.mls_automaton.specs.declared.automaton.Head.{Head}
use Rattle.mls_automaton.specs.Heads.{Parts, parts_of, combined, combined_two, combined_functions, combined_records, combined_sets, no_parts, IsSameSet, IsSameOption, IsSameParts}

abbrev Sets : Type 0
Sets = List ℕ → Option (List ℕ)

or-assoc : (a b c : Bool) → (a || b) || c ≡ a || (b || c)
or-assoc true b c = refl
or-assoc false b c = refl

functions-assoc : (f g h : Option Arms) → combined_functions (combined_functions f g) h ≡ combined_functions f (combined_functions g h)
functions-assoc None g h = refl
functions-assoc (Some f) None h = refl
functions-assoc (Some f) (Some g) None = refl
functions-assoc (Some f) (Some g) (Some h) = λ i. Some (record { domain = append_assoc f.domain g.domain h.domain i; codomain = append_assoc f.codomain g.codomain h.codomain i })

sets-assoc : (p : Polarity) (f g h : Option (List ℕ)) → combined_sets p (combined_sets p f g) h ≡ combined_sets p f (combined_sets p g h)
sets-assoc p (Some f) (Some g) (Some h) = λ i. Some (append_assoc f g h i)
sets-assoc Positive None None None = refl
sets-assoc Positive None None (Some h) = refl
sets-assoc Positive None (Some g) None = refl
sets-assoc Positive None (Some g) (Some h) = refl
sets-assoc Positive (Some f) None None = refl
sets-assoc Positive (Some f) None (Some h) = refl
sets-assoc Positive (Some f) (Some g) None = refl
sets-assoc Negative None None None = refl
sets-assoc Negative None None (Some h) = refl
sets-assoc Negative None (Some g) None = refl
sets-assoc Negative None (Some g) (Some h) = refl
sets-assoc Negative (Some f) None None = refl
sets-assoc Negative (Some f) None (Some h) = refl
sets-assoc Negative (Some f) (Some g) None = refl

records-assoc : (p : Polarity) (f g h : Option Sets) → combined_records p (combined_records p f g) h ≡ combined_records p f (combined_records p g h)
records-assoc p None g h = refl
records-assoc p (Some f) None h = refl
records-assoc p (Some f) (Some g) None = refl
records-assoc p (Some f) (Some g) (Some h) = λ i. Some (λ label. sets-assoc p (f label) (g label) (h label) i)

two-assoc : (p : Polarity) (f g h : Parts) → combined_two p (combined_two p f g) h ≡ combined_two p f (combined_two p g h)
two-assoc p f g h = λ i. record {
  boolean = or-assoc f.boolean g.boolean h.boolean i;
  integer = or-assoc f.integer g.integer h.integer i;
  function = functions-assoc f.function g.function h.function i;
  fields = records-assoc p f.fields g.fields h.fields i;
}

none-two : (p : Polarity) (h : Parts) → combined_two p no_parts h ≡ h
none-two p h = refl

pub combined-append : (p : Polarity) (hs ks : List Parts) → combined p (hs ++ ks) ≡ combined_two p (combined p hs) (combined p ks)
combined-append p [] ks = sym (none-two p (combined p ks))
combined-append p (h ∷ hs) ks = ap (combined_two p h) (combined-append p hs ks) ∙ sym (two-assoc p h (combined p hs) (combined p ks))

-- heads that have the same
same_set-trans : (xs ys zs : List ℕ) → IsSameSet xs ys → IsSameSet ys zs → IsSameSet xs zs
same_set-trans xs ys zs one two = (λ s it. two.0 s (one.0 s it), λ s it. one.1 s (two.1 s it))

within-append : (xs ys xs' ys' : List ℕ) → ((s : ℕ) → Contains xs s → Contains xs' s) → ((s : ℕ) → Contains ys s → Contains ys' s) → (s : ℕ) → Contains (xs ++ ys) s → Contains (xs' ++ ys') s
within-append xs ys xs' ys' first second s it =
    elim (Contains-append_cases xs ys s it) [
      | inl before ↦ Contains-append_left xs' ys' s (first s before)
      | inr behind ↦ Contains-append_right xs' ys' s (second s behind)
    ]

same_set-append : (xs ys xs' ys' : List ℕ) → IsSameSet xs xs' → IsSameSet ys ys' → IsSameSet (xs ++ ys) (xs' ++ ys')
same_set-append xs ys xs' ys' first second = (within-append xs ys xs' ys' first.0 second.0, within-append xs' ys' xs ys first.1 second.1)

abbrev SameArms : Arms → Arms → Type 0
SameArms f g = IsSameSet f.domain g.domain × IsSameSet f.codomain g.codomain

abbrev SameSets : Sets → Sets → Type 0
SameSets f g = (label : List ℕ) → IsSameOption IsSameSet (f label) (g label)

option-trans : {X : Type 0} (Same : X → X → Type 0) → ((x y z : X) → Same x y → Same y z → Same x z) → (f g h : Option X) → IsSameOption Same f g → IsSameOption Same g h → IsSameOption Same f h
option-trans Same trans None None None one two = tt
option-trans Same trans None None (Some h) one two = absurd two
option-trans Same trans None (Some g) h one two = absurd one
option-trans Same trans (Some f) None h one two = absurd one
option-trans Same trans (Some f) (Some g) None one two = absurd two
option-trans Same trans (Some f) (Some g) (Some h) one two = trans f g h one two

same_arms-trans : (f g h : Arms) → SameArms f g → SameArms g h → SameArms f h
same_arms-trans f g h one two = (same_set-trans f.domain g.domain h.domain one.0 two.0, same_set-trans f.codomain g.codomain h.codomain one.1 two.1)

same_sets-trans : (f g h : Sets) → SameSets f g → SameSets g h → SameSets f h
same_sets-trans f g h one two = λ label. option-trans IsSameSet same_set-trans (f label) (g label) (h label) (one label) (two label)

pub same_parts-trans : (f g h : Parts) → IsSameParts f g → IsSameParts g h → IsSameParts f h
same_parts-trans f g h one two = record {
  boolean = one.boolean ∙ two.boolean;
  integer = one.integer ∙ two.integer;
  function = option-trans SameArms same_arms-trans f.function g.function h.function one.function two.function;
  fields = option-trans SameSets same_sets-trans f.fields g.fields h.fields one.fields two.fields;
}

same_set-self : (xs : List ℕ) → IsSameSet xs xs
same_set-self xs = (λ s it. it, λ s it. it)

option-self : {X : Type 0} (Same : X → X → Type 0) → ((x : X) → Same x x) → (f : Option X) → IsSameOption Same f f
option-self Same self None = tt
option-self Same self (Some f) = self f

pub same_parts-self : (f : Parts) → IsSameParts f f
same_parts-self f = record {
  boolean = refl;
  integer = refl;
  function = option-self SameArms (λ g. (same_set-self g.domain, same_set-self g.codomain)) f.function;
  fields = option-self SameSets (λ g label. option-self IsSameSet same_set-self (g label)) f.fields;
}

-- what is combined of heads that have the same has the same
functions-same : (f g f' g' : Option Arms) → IsSameOption SameArms f f' → IsSameOption SameArms g g' → IsSameOption SameArms (combined_functions f g) (combined_functions f' g')
functions-same None g None g' one two = two
functions-same None g (Some f') g' one two = absurd one
functions-same (Some f) g None g' one two = absurd one
functions-same (Some f) None (Some f') None one two = one
functions-same (Some f) None (Some f') (Some g') one two = absurd two
functions-same (Some f) (Some g) (Some f') None one two = absurd two
functions-same (Some f) (Some g) (Some f') (Some g') one two = (
  same_set-append f.domain g.domain f'.domain g'.domain one.0 two.0,
  same_set-append f.codomain g.codomain f'.codomain g'.codomain one.1 two.1,
)

sets-same : (p : Polarity) (f g f' g' : Option (List ℕ)) → IsSameOption IsSameSet f f' → IsSameOption IsSameSet g g' → IsSameOption IsSameSet (combined_sets p f g) (combined_sets p f' g')
sets-same p (Some f) (Some g) (Some f') (Some g') one two = same_set-append f g f' g' one two
sets-same p None g (Some f') g' one two = absurd one
sets-same p (Some f) g None g' one two = absurd one
sets-same p f None f' (Some g') one two = absurd two
sets-same p f (Some g) f' None one two = absurd two
sets-same Positive None None None None one two = tt
sets-same Positive None (Some g) None (Some g') one two = tt
sets-same Positive (Some f) None (Some f') None one two = tt
sets-same Negative None None None None one two = tt
sets-same Negative None (Some g) None (Some g') one two = two
sets-same Negative (Some f) None (Some f') None one two = one

records-same : (p : Polarity) (f g f' g' : Option Sets) → IsSameOption SameSets f f' → IsSameOption SameSets g g' → IsSameOption SameSets (combined_records p f g) (combined_records p f' g')
records-same p None g None g' one two = two
records-same p None g (Some f') g' one two = absurd one
records-same p (Some f) g None g' one two = absurd one
records-same p (Some f) None (Some f') None one two = one
records-same p (Some f) None (Some f') (Some g') one two = absurd two
records-same p (Some f) (Some g) (Some f') None one two = absurd two
records-same p (Some f) (Some g) (Some f') (Some g') one two = λ label. sets-same p (f label) (g label) (f' label) (g' label) (one label) (two label)

pub same_parts-two : (p : Polarity) (f g f' g' : Parts) → IsSameParts f f' → IsSameParts g g' → IsSameParts (combined_two p f g) (combined_two p f' g')
same_parts-two p f g f' g' one two = record {
  boolean = λ i. one.boolean i || two.boolean i;
  integer = λ i. one.integer i || two.integer i;
  function = functions-same f.function g.function f'.function g'.function one.function two.function;
  fields = records-same p f.fields g.fields f'.fields g'.fields one.fields two.fields;
}

-- a front and the rest
pub same_parts-halves : {X : Type 0} (p : Polarity) (parts : X → Parts) (n : ℕ) (xs : List X) (first second both : Parts)
    → IsSameParts first (combined p (map parts (take n xs)))
    → IsSameParts second (combined p (map parts (drop n xs)))
    → IsSameParts both (combined_two p first second)
    → IsSameParts both (combined p (map parts xs))
same_parts-halves p parts n xs first second both one two it =
    let front = map parts (take n xs) in
    let rest = map parts (drop n xs) in
    let whole : combined_two p (combined p front) (combined p rest) ≡ combined p (map parts xs) =
    sym (combined-append p front rest) ∙ ap (combined p) (sym (map-append parts (take n xs) (drop n xs)) ∙ ap (map parts) (take-append-drop n xs)) in
    subst (IsSameParts both) whole
    (same_parts-trans both (combined_two p first second) (combined_two p (combined p front) (combined p rest)) it
    (same_parts-two p first second (combined p front) (combined p rest) one two))

-- the same of a call that may lack memory, the rest as a slice to the end
rest-slice : (n : ℕ) (xs : List ℕ) → take (length xs - n) (drop n xs) ≡ drop n xs
rest-slice n xs = ap (λ k. take k (drop n xs)) (sym (length-drop n xs)) ∙ take-length (drop n xs)

pub halves_ok : {E : Type 0} (p : Polarity) (parts : ℕ → Parts) (n : ℕ) (xs : List ℕ) (first second : Parts) (result : Result Head E)
    → IsSameParts first (combined p (map parts (take n xs)))
    → IsSameParts second (combined p (map parts (take (length xs - n) (drop n xs))))
    → IfOk result (λ head. IsSameParts (parts_of head) (combined_two p first second))
    → IfOk result (λ head. IsSameParts (parts_of head) (combined p (map parts xs)))
halves_ok p parts n xs first second (Ok head) one two it =
    same_parts-halves p parts n xs first second (parts_of head) one (subst (λ ys. IsSameParts second (combined p (map parts ys))) (rest-slice n xs) two) it
halves_ok p parts n xs first second (Err e) one two it = tt

-- heads that have nothing
module _ {X : Type 0} (p : Polarity) (parts : X → Parts) where
  -- the first of a list has nothing, and so have the others
  first-nothing : (x : X) (xs : List X) → All (λ x. parts x ≡ no_parts) (x ∷ xs) → parts x ≡ no_parts
  first-nothing x xs all = all 0 x (omega arith)

  rest-nothing : (x : X) (xs : List X) → All (λ x. parts x ≡ no_parts) (x ∷ xs) → All (λ x. parts x ≡ no_parts) xs
  rest-nothing x xs all k d low = all (suc k) d (omega arith)

  combined-nothing : (xs : List X) → All (λ x. parts x ≡ no_parts) xs → combined p (map parts xs) ≡ no_parts
  combined-nothing [] all = refl
  combined-nothing (x ∷ xs) all =
      ap (λ h. combined_two p h (combined p (map parts xs))) (first-nothing x xs all) ∙ combined-nothing xs (rest-nothing x xs all)

  pub front-nothing : (xs ys : List X) → All (λ x. parts x ≡ no_parts) xs → combined p (map parts (xs ++ ys)) ≡ combined p (map parts ys)
  front-nothing [] ys all = refl
  front-nothing (x ∷ xs) ys all =
      ap (λ h. combined_two p h (combined p (map parts (xs ++ ys)))) (first-nothing x xs all) ∙ front-nothing xs ys (rest-nothing x xs all)

  pub back-nothing : (xs ys : List X) → All (λ x. parts x ≡ no_parts) ys → combined p (map parts (xs ++ ys)) ≡ combined p (map parts xs)
  back-nothing [] ys all = combined-nothing ys all
  back-nothing (x ∷ xs) ys all = ap (λ h. combined_two p (parts x) h) (back-nothing xs ys all)

-- the same of a call that may lack memory, for the rest as a slice to the end and for the front
pub rest_ok : {E : Type 0} (p : Polarity) (parts : ℕ → Parts) (n : ℕ) (xs : List ℕ) (result : Result Head E)
    → All (λ x. parts x ≡ no_parts) (take n xs)
    → IfOk result (λ head. IsSameParts (parts_of head) (combined p (map parts (take (length xs - n) (drop n xs)))))
    → IfOk result (λ head. IsSameParts (parts_of head) (combined p (map parts xs)))
rest_ok p parts n xs (Ok head) none it =
    subst (IsSameParts (parts_of head))
    (ap (λ ys. combined p (map parts ys)) (rest-slice n xs)
    ∙ sym (front-nothing p parts (take n xs) (drop n xs) none)
    ∙ ap (λ ys. combined p (map parts ys)) (take-append-drop n xs)) it
rest_ok p parts n xs (Err e) none it = tt

pub front_ok : {E : Type 0} (p : Polarity) (parts : ℕ → Parts) (n : ℕ) (xs : List ℕ) (result : Result Head E)
    → All (λ x. parts x ≡ no_parts) (take (length xs - n) (drop n xs))
    → IfOk result (λ head. IsSameParts (parts_of head) (combined p (map parts (take n xs))))
    → IfOk result (λ head. IsSameParts (parts_of head) (combined p (map parts xs)))
front_ok p parts n xs (Ok head) none it =
    subst (IsSameParts (parts_of head))
    (sym (back-nothing p parts (take n xs) (drop n xs) (subst (All (λ x. parts x ≡ no_parts)) (rest-slice n xs) none))
    ∙ ap (λ ys. combined p (map parts ys)) (take-append-drop n xs)) it
front_ok p parts n xs (Err e) none it = tt
