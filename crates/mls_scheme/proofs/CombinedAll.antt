-- The combined head of many, two by two.
--     same-refl, same-trans     heads that have the same
--     combined-append           of two lists
--     pairs-next, pairs-all     round by round
use Rattle.std.proofs.Common.{inl, inr, ◌≡◌, ℕ, zero, suc, ◌+◌, ◌<◌, ◌≤◌, Bool, true, false, ◌||◌, List, [], ◌∷◌, ◌++◌, map, take, drop, refl, sym, ap, ◌∙◌, subst, arith, length, get_or, All, Contains, Some, None}
use Rattle.std.specs.Prelude.{Option}
use Rattle.std.proofs.lemmas.List.{length-append, map-append, take_all}
use Rattle.std.proofs.lemmas.List.Elements.{Contains-append_cases, Contains-append_left, Contains-append_right, All-append}
use Rattle.mls_automaton.specs.declared.automaton.Polarity.{Polarity}
use Rattle.mls_automaton.specs.declared.automaton.Polarity.TheVariants.{Positive, Negative}
use Rattle.mls_automaton.specs.declared.automaton.Arms.{Arms}
use Rattle.mls_automaton.specs.declared.automaton.Head.{Head}
use Rattle.mls_automaton.specs.Heads.{combined, combined_functions, combined_records, combined_sets, combined_two, no_parts, parts_of, IsSameOption, IsSameParts, IsSameSet, Parts}
use Rattle.mls_automaton.specs.Models.{HasRisingLabels}
use Rattle.mls_automaton.proofs.Lists.{All-one}
use Rattle.mls_scheme.proofs.MetStates.{combined-none}
use Rattle.mls_scheme.specs.steps.Heads.{HasOneHead}

abbrev pub SameArms : Arms → Arms → Type 0
SameArms f g = IsSameSet f.domain g.domain × IsSameSet f.codomain g.codomain

abbrev pub Sets : Type 0
Sets = List ℕ → Option (List ℕ)

abbrev pub SameSets : Sets → Sets → Type 0
SameSets f g = (label : List ℕ) → IsSameOption IsSameSet (f label) (g label)

pub set-refl : (xs : List ℕ) → IsSameSet xs xs
set-refl xs = (λ s it. it, λ s it. it)

set-trans : (xs ys zs : List ℕ) → IsSameSet xs ys → IsSameSet ys zs → IsSameSet xs zs
set-trans xs ys zs first second = (λ s it. second.0 s (first.0 s it), λ s it. first.1 s (second.1 s it))

set-append : (xs ys xs' ys' : List ℕ) → IsSameSet xs xs' → IsSameSet ys ys' → IsSameSet (xs ++ ys) (xs' ++ ys')
set-append xs ys xs' ys' first second = (go xs ys xs' ys' first.0 second.0, go xs' ys' xs ys first.1 second.1)
  where
    go : (xs ys cs ds : List ℕ) → ((s : ℕ) → Contains xs s → Contains cs s) → ((s : ℕ) → Contains ys s → Contains ds s) → (s : ℕ) → Contains (xs ++ ys) s → Contains (cs ++ ds) s
    go xs ys cs ds one other s it = elim (Contains-append_cases xs ys s it) [
      | inl h ↦ Contains-append_left cs ds s (one s h)
      | inr h ↦ Contains-append_right cs ds s (other s h)
    ]

pub option-refl : {X : Type 0} (Same : X → X → Type 0) → ((x : X) → Same x x) → (o : Option X) → IsSameOption Same o o
option-refl Same each None = tt
option-refl Same each (Some x) = each x

option-trans : {X : Type 0} (Same : X → X → Type 0) → ((x y z : X) → Same x y → Same y z → Same x z) → (o m n : Option X) → IsSameOption Same o m → IsSameOption Same m n → IsSameOption Same o n
option-trans Same each None None None first second = tt
option-trans Same each None None (Some z) first second = second
option-trans Same each None (Some y) n first second = absurd first
option-trans Same each (Some x) None n first second = absurd first
option-trans Same each (Some x) (Some y) None first second = second
option-trans Same each (Some x) (Some y) (Some z) first second = each x y z first second

pub same-refl : (h : Parts) → IsSameParts h h
same-refl h = record {
  boolean = refl;
  integer = refl;
  function = option-refl SameArms (λ f. (set-refl f.domain, set-refl f.codomain)) h.function;
  fields = option-refl SameSets (λ f label. option-refl IsSameSet set-refl (f label)) h.fields;
}

pub same-trans : (h k l : Parts) → IsSameParts h k → IsSameParts k l → IsSameParts h l
same-trans h k l first second = record {
  boolean = first.boolean ∙ second.boolean;
  integer = first.integer ∙ second.integer;
  function = option-trans SameArms (λ f g i one other. (set-trans f.domain g.domain i.domain one.0 other.0, set-trans f.codomain g.codomain i.codomain one.1 other.1)) h.function k.function l.function first.function second.function;
  fields = option-trans SameSets (λ f g i one other label. option-trans IsSameSet set-trans (f label) (g label) (i label) (one label) (other label)) h.fields k.fields l.fields first.fields second.fields;
}

-- combined heads of heads that have the same
functions-same : (o m o' m' : Option Arms) → IsSameOption SameArms o o' → IsSameOption SameArms m m' → IsSameOption SameArms (combined_functions o m) (combined_functions o' m')
functions-same None m None m' first second = second
functions-same None m (Some g) m' first second = absurd first
functions-same (Some f) m None m' first second = absurd first
functions-same (Some f) None (Some g) None first second = first
functions-same (Some f) None (Some g) (Some g') first second = absurd second
functions-same (Some f) (Some f') (Some g) None first second = absurd second
functions-same (Some f) (Some f') (Some g) (Some g') first second = (set-append f.domain f'.domain g.domain g'.domain first.0 second.0, set-append f.codomain f'.codomain g.codomain g'.codomain first.1 second.1)

sets-same : (p : Polarity) (o m o' m' : Option (List ℕ)) → IsSameOption IsSameSet o o' → IsSameOption IsSameSet m m' → IsSameOption IsSameSet (combined_sets p o m) (combined_sets p o' m')
sets-same p (Some xs) (Some ys) (Some xs') (Some ys') first second = set-append xs ys xs' ys' first second
sets-same p (Some xs) m None m' first second = absurd first
sets-same p None m (Some xs') m' first second = absurd first
sets-same p (Some xs) None (Some xs') (Some ys') first second = absurd second
sets-same p (Some xs) (Some ys) (Some xs') None first second = absurd second
sets-same Positive (Some xs) None (Some xs') None first second = tt
sets-same Negative (Some xs) None (Some xs') None first second = first
sets-same Positive None None None None first second = tt
sets-same Positive None (Some ys) None (Some ys') first second = tt
sets-same p None None None (Some ys') first second = absurd second
sets-same p None (Some ys) None None first second = absurd second
sets-same Negative None None None None first second = tt
sets-same Negative None (Some ys) None (Some ys') first second = second

records-same : (p : Polarity) (o m o' m' : Option Sets) → IsSameOption SameSets o o' → IsSameOption SameSets m m' → IsSameOption SameSets (combined_records p o m) (combined_records p o' m')
records-same p None m None m' first second = second
records-same p None m (Some g) m' first second = absurd first
records-same p (Some f) m None m' first second = absurd first
records-same p (Some f) None (Some g) None first second = first
records-same p (Some f) None (Some g) (Some g') first second = absurd second
records-same p (Some f) (Some f') (Some g) None first second = absurd second
records-same p (Some f) (Some f') (Some g) (Some g') first second = λ label. sets-same p (f label) (f' label) (g label) (g' label) (first label) (second label)

pub two-same : (p : Polarity) (h k h' k' : Parts) → IsSameParts h h' → IsSameParts k k' → IsSameParts (combined_two p h k) (combined_two p h' k')
two-same p h k h' k' first second = record {
  boolean = λ i. first.boolean i || second.boolean i;
  integer = λ i. first.integer i || second.integer i;
  function = functions-same h.function k.function h'.function k'.function first.function second.function;
  fields = records-same p h.fields k.fields h'.fields k'.fields first.fields second.fields;
}

-- one after another
or-assoc : (a b c : Bool) → (a || (b || c)) ≡ ((a || b) || c)
or-assoc true b c = refl
or-assoc false b c = refl

append-assoc : (xs ys zs : List ℕ) → xs ++ (ys ++ zs) ≡ (xs ++ ys) ++ zs
append-assoc [] ys zs = refl
append-assoc (x ∷ rest) ys zs = ap (λ ws. x ∷ ws) (append-assoc rest ys zs)

functions-assoc : (o m n : Option Arms) → combined_functions o (combined_functions m n) ≡ combined_functions (combined_functions o m) n
functions-assoc None m n = refl
functions-assoc (Some f) None n = refl
functions-assoc (Some f) (Some g) None = refl
functions-assoc (Some f) (Some g) (Some k) = λ i. Some (record { domain = append-assoc f.domain g.domain k.domain i; codomain = append-assoc f.codomain g.codomain k.codomain i })

sets-assoc : (p : Polarity) (o m n : Option (List ℕ)) → combined_sets p o (combined_sets p m n) ≡ combined_sets p (combined_sets p o m) n
sets-assoc Positive None None None = refl
sets-assoc Positive None None (Some zs) = refl
sets-assoc Positive None (Some ys) None = refl
sets-assoc Positive None (Some ys) (Some zs) = refl
sets-assoc Positive (Some xs) None None = refl
sets-assoc Positive (Some xs) None (Some zs) = refl
sets-assoc Positive (Some xs) (Some ys) None = refl
sets-assoc Positive (Some xs) (Some ys) (Some zs) = ap Some (append-assoc xs ys zs)
sets-assoc Negative None None None = refl
sets-assoc Negative None None (Some zs) = refl
sets-assoc Negative None (Some ys) None = refl
sets-assoc Negative None (Some ys) (Some zs) = refl
sets-assoc Negative (Some xs) None None = refl
sets-assoc Negative (Some xs) None (Some zs) = refl
sets-assoc Negative (Some xs) (Some ys) None = refl
sets-assoc Negative (Some xs) (Some ys) (Some zs) = ap Some (append-assoc xs ys zs)

records-assoc : (p : Polarity) (o m n : Option Sets) → combined_records p o (combined_records p m n) ≡ combined_records p (combined_records p o m) n
records-assoc p None m n = refl
records-assoc p (Some f) None n = refl
records-assoc p (Some f) (Some g) None = refl
records-assoc p (Some f) (Some g) (Some k) = λ i. Some (λ label. sets-assoc p (f label) (g label) (k label) i)

pub two-assoc : (p : Polarity) (h k l : Parts) → combined_two p h (combined_two p k l) ≡ combined_two p (combined_two p h k) l
two-assoc p h k l = λ i. record {
  boolean = or-assoc h.boolean k.boolean l.boolean i;
  integer = or-assoc h.integer k.integer l.integer i;
  function = functions-assoc h.function k.function l.function i;
  fields = records-assoc p h.fields k.fields l.fields i;
}

pub combined-append : (p : Polarity) (xs ys : List Parts) → combined p (xs ++ ys) ≡ combined_two p (combined p xs) (combined p ys)
combined-append p [] ys = refl
combined-append p (x ∷ rest) ys = ap (combined_two p x) (combined-append p rest ys) ∙ two-assoc p x (combined p rest) (combined p ys)

abbrev pub HasLabels : Head → Type 0
HasLabels h = HasRisingLabels h.fields

abbrev pub all_parts : Polarity → List Head → Parts
all_parts p heads = combined p (map parts_of heads)

pub parts-append : (p : Polarity) (xs ys : List Head) → all_parts p (xs ++ ys) ≡ combined_two p (all_parts p xs) (all_parts p ys)
parts-append p xs ys = ap (combined p) (map-append parts_of xs ys) ∙ combined-append p (map parts_of xs) (map parts_of ys)

take-none : (n : ℕ) → take {A = Head} n [] ≡ []
take-none zero = refl
take-none (suc n) = refl

take-two : (heads : List Head) (i : ℕ) → take (i + 2) heads ≡ take i heads ++ take 2 (drop i heads)
take-two heads zero = refl
take-two [] (suc i) = take-none (suc i + 2)
take-two (h ∷ rest) (suc i) = ap (λ xs. take xs (h ∷ rest)) (let e : suc i + 2 ≡ suc (i + 2) = omega arith in e) ∙ ap (λ xs. h ∷ xs) (take-two rest i)

take-one : (heads : List Head) (i : ℕ) (d : Head) → i < length heads → length heads ≤ i + 1 → take 2 (drop i heads) ≡ get_or heads i d ∷ []
take-one [] i d low all = absurd (omega arith)
take-one (h ∷ []) zero d low all = refl
take-one (h ∷ k ∷ rest) zero d low all = absurd (omega arith)
take-one (h ∷ rest) (suc i) d low all = take-one rest i d (omega arith) (omega arith)

take-both : (heads : List Head) (i : ℕ) (d d' : Head) → i + 1 < length heads → take 2 (drop i heads) ≡ get_or heads i d ∷ get_or heads (i + 1) d' ∷ []
take-both [] i d d' low = absurd (omega arith)
take-both (h ∷ []) zero d d' low = absurd (omega arith)
take-both (h ∷ k ∷ rest) zero d d' low = refl
take-both (h ∷ rest) (suc i) d d' low = take-both rest i d d' (omega arith) ∙ ap (λ j. get_or rest i d ∷ get_or (h ∷ rest) j d' ∷ []) (let e : suc (i + 1) ≡ suc i + 1 = omega arith in e)

pub one-head : (p : Polarity) (heads : List Head) (i : ℕ) (d h : Head) → All HasLabels heads → i < length heads → length heads ≤ i + 1 → h ≡ get_or heads i d → HasOneHead p heads i h
one-head p heads i d h labels low all is = record {
  same =
      subst (λ (hs : List Head). IsSameParts (parts_of h) (combined p (map parts_of hs))) (sym (take-one heads i d low all))
      (subst (λ (g : Head). IsSameParts (parts_of h) (combined_two p (parts_of g) no_parts)) is
      (subst (IsSameParts (parts_of h)) (sym (combined-none p (parts_of h))) (same-refl (parts_of h))));
  labels = subst HasLabels (sym is) (labels i d low);
}

pub two-heads : (p : Polarity) (heads : List Head) (i : ℕ) (d d' h : Head) → i + 1 < length heads → IsSameParts (parts_of h) (combined_two p (parts_of (get_or heads i d)) (parts_of (get_or heads (i + 1) d'))) → HasLabels h → HasOneHead p heads i h
two-heads p heads i d d' h low same labels = record {
  same =
      subst (λ (hs : List Head). IsSameParts (parts_of h) (combined p (map parts_of hs))) (sym (take-both heads i d d' low))
      (subst (λ (k : Parts). IsSameParts (parts_of h) (combined_two p (parts_of (get_or heads i d)) k)) (sym (combined-none p (parts_of (get_or heads (i + 1) d')))) same);
  labels = labels;
}

-- the heads so far
pub record AreHalf (p : Polarity) (heads : List Head) (i : ℕ) (half : List Head) : Type 0 where
  pub same : IsSameParts (all_parts p half) (all_parts p (take i heads))
  pub labels : All HasLabels half
  pub size : length half + length half ≡ i
  pub low : i ≤ length heads + 1

pub half-none : (p : Polarity) (heads : List Head) → AreHalf p heads 0 []
half-none p heads = record { same = same-refl (all_parts p []); labels = λ k d low. absurd (omega arith); size = refl; low = omega arith }

pub half-next : (p : Polarity) (heads : List Head) (i : ℕ) (half new : List Head) (h : Head) → AreHalf p heads i half → i < length heads → HasOneHead p heads i h → new ≡ half ++ h ∷ [] → AreHalf p heads (i + 2) new
half-next p heads i half new h are low one more =
    rw more
    record {
      same =
          subst (λ (g : Parts). IsSameParts g (all_parts p (take (i + 2) heads))) (sym (parts-append p half (h ∷ [])))
          (subst (IsSameParts (combined_two p (all_parts p half) (all_parts p (h ∷ [])))) (sym (ap (all_parts p) (take-two heads i) ∙ parts-append p (take i heads) (take 2 (drop i heads))))
          (two-same p (all_parts p half) (all_parts p (h ∷ [])) (all_parts p (take i heads)) (all_parts p (take 2 (drop i heads))) are.same
          (subst (λ (g : Parts). IsSameParts g (all_parts p (take 2 (drop i heads)))) (sym (combined-none p (parts_of h))) one.same)));
      labels = All-append HasLabels half (h ∷ []) are.labels (All-one HasLabels h one.labels);
      size = let e : length (half ++ h ∷ []) ≡ length half + 1 = length-append half (h ∷ []) in let f : length half + length half ≡ i = are.size in omega arith;
      low = omega arith;
    }

pub half-all : (p : Polarity) (heads : List Head) (i : ℕ) (half : List Head) → AreHalf p heads i half → length heads ≤ i → IsSameParts (all_parts p half) (all_parts p heads)
half-all p heads i half are all = subst (λ (hs : List Head). IsSameParts (all_parts p half) (all_parts p hs)) (take_all i heads all) are.same
