-- The parts of a combined head come from the heads. Where all functions of the heads are the same, so is its function, and so with records.
--     combined_has                     each of its kinds is one of a head
--     combined_function, combined_fields      where all functions are the same, and all records
--     kind_same                        two heads that have the same
use Rattle.std.proofs.Common.{◌≡◌, ◌⊎◌, inl, inr, ℕ, List, [], ◌∷◌, ◌++◌, map, Contains, refl, sym, subst, ◌∙◌, Some, None}
use Rattle.std.specs.Prelude.{Option}
use Rattle.std.proofs.lemmas.List.Elements.{Contains-append_left, Contains-append_cases}
use Rattle.mls_book.proofs.Lattice.{or_cases}
use Rattle.mls_automaton.specs.declared.automaton.Polarity.{Polarity}
use Rattle.mls_automaton.specs.declared.automaton.Polarity.TheVariants.{Positive, Negative}
use Rattle.mls_automaton.specs.declared.automaton.Arms.{Arms}
use Rattle.mls_automaton.specs.declared.automaton.HeadKind.{HeadKind}
use Rattle.mls_automaton.specs.declared.automaton.HeadKind.TheVariants as kind
use Rattle.mls_automaton.specs.Heads.{Parts, combined_functions, combined_sets, combined_records, combined, IsSameSet, IsSameOption, IsSameParts}
use Rattle.mls_automaton.proofs.Lists.{Contains-here, Contains-later}
use Rattle.mls_flow.specs.Simulations.{IsFunctionWithin, IsRecordWithin}
use Rattle.mls_flow.proofs.HeadsWithin.{Same, within-combined}
use Rattle.mls_layout.specs.Heads.{HasKind}

abbrev pub Sets : Type 0
Sets = List ℕ → Option (List ℕ)

abbrev pub IsSameArms : Arms → Arms → Type 0
IsSameArms f g = IsSameSet f.domain g.domain × IsSameSet f.codomain g.codomain

abbrev pub AreSameSets : Sets → Sets → Type 0
AreSameSets f g = (label : List ℕ) → IsSameOption IsSameSet (f label) (g label)

pub same_set_self : (xs : List ℕ) → IsSameSet xs xs
same_set_self xs = ((λ s there. there), (λ s there. there))

-- one more set with the same members
same_twice : (xs ys : List ℕ) → IsSameSet ys xs → IsSameSet (xs ++ ys) xs
same_twice xs ys same = (
  (λ s there. elim (Contains-append_cases xs ys s there) [ inl first ↦ first | inr second ↦ same.0 s second ]),
  (λ s there. Contains-append_left xs ys s there),
)

same_option_self : (o : Option (List ℕ)) → IsSameOption IsSameSet o o
same_option_self None = tt
same_option_self (Some xs) = same_set_self xs

-- nothing, or this
abbrev pub IsAtMost : {X : Type 0} → X → Option X → Type 0
IsAtMost x o = (o ≡ None) ⊎ (o ≡ Some x)

-- nothing, or the same
abbrev IsLike : {X : Type 0} → (X → X → Type 0) → X → Option X → Type 0
IsLike Same x o = (o ≡ None) ⊎ IsSameOption Same o (Some x)

functions_alike : (arms : Arms) (o other : Option Arms) → IsAtMost arms o → IsLike IsSameArms arms other → IsLike IsSameArms arms (combined_functions o other)
functions_alike arms None other first second = second
functions_alike arms (Some f) None (inl e) second = absurd (cc)
functions_alike arms (Some f) None (inr e) second = let same : f ≡ arms = cc in inr (subst (λ g. IsSameArms g arms) (sym same) (same_set_self arms.domain, same_set_self arms.codomain))
functions_alike arms (Some f) (Some g) (inl e) second = absurd (cc)
functions_alike arms (Some f) (Some g) (inr e) (inl none) = absurd (cc)
functions_alike arms (Some f) (Some g) (inr e) (inr is) =
    let same : f ≡ arms = cc in
    inr (subst (λ (h : Arms). IsSameArms (record { domain = h.domain ++ g.domain; codomain = h.codomain ++ g.codomain }) arms) (sym same) (same_twice arms.domain g.domain is.0, same_twice arms.codomain g.codomain is.1))

sets_alike : (p : Polarity) (o other : Option (List ℕ)) → IsSameOption IsSameSet other o → IsSameOption IsSameSet (combined_sets p o other) o
sets_alike p (Some xs) (Some ys) same = same_twice xs ys same
sets_alike p (Some xs) None same = absurd same
sets_alike p None (Some ys) same = absurd same
sets_alike Positive None None same = tt
sets_alike Negative None None same = tt

records_alike : (p : Polarity) (sets : Sets) (o other : Option Sets) → IsAtMost sets o → IsLike AreSameSets sets other → IsLike AreSameSets sets (combined_records p o other)
records_alike p sets None other first second = second
records_alike p sets (Some f) None (inl e) second = absurd (cc)
records_alike p sets (Some f) None (inr e) second = let same : f ≡ sets = cc in inr (subst (λ g. AreSameSets g sets) (sym same) (λ label. same_option_self (sets label)))
records_alike p sets (Some f) (Some g) (inl e) second = absurd (cc)
records_alike p sets (Some f) (Some g) (inr e) (inl none) = absurd (cc)
records_alike p sets (Some f) (Some g) (inr e) (inr is) =
    let same : f ≡ sets = cc in
    inr (subst (λ (h : Sets). AreSameSets (λ label. combined_sets p (h label) (g label)) sets) (sym same) (λ label. sets_alike p (sets label) (g label) (is label)))

module _ {X : Type 0} (p : Polarity) (f : X → Parts) where
  abbrev all : List X → Parts
  all xs = combined p (map f xs)

  function_alike : (arms : Arms) (xs : List X) → ((x : X) → Contains xs x → IsAtMost arms (f x).function) → IsLike IsSameArms arms (all xs).function
  function_alike arms [] each = inl refl
  function_alike arms (x ∷ rest) each =
      functions_alike arms (f x).function (all rest).function (each x (Contains-here x rest))
      (function_alike arms rest (λ y there. each y (Contains-later x rest y there)))

  fields_alike : (sets : Sets) (xs : List X) → ((x : X) → Contains xs x → IsAtMost sets (f x).fields) → IsLike AreSameSets sets (all xs).fields
  fields_alike sets [] each = inl refl
  fields_alike sets (x ∷ rest) each =
      records_alike p sets (f x).fields (all rest).fields (each x (Contains-here x rest))
      (fields_alike sets rest (λ y there. each y (Contains-later x rest y there)))

  -- one of these has the kind
  abbrev IsAmong : List X → HeadKind → Type 0
  IsAmong xs k = (x : X) × Contains xs x × HasKind (f x) k

  among_later : (x : X) (rest : List X) (k : HeadKind) → IsAmong rest k → IsAmong (x ∷ rest) k
  among_later x rest k it = (it.0, Contains-later x rest it.0 it.1, it.2)

  pub combined_has : (xs : List X) (k : HeadKind) → HasKind (all xs) k → (x : X) × Contains xs x × HasKind (f x) k
  combined_has [] kind.Bool e = absurd (cc)
  combined_has [] kind.Int e = absurd (cc)
  combined_has [] kind.Function it = let e = it.1 in absurd (cc)
  combined_has [] kind.Rcd it = let e = it.1 in absurd (cc)
  combined_has (x ∷ rest) kind.Bool e = elim (or_cases (f x).boolean (all rest).boolean e) [
    | inl here ↦ (x, Contains-here x rest, here)
    | inr later ↦ among_later x rest kind.Bool (combined_has rest kind.Bool later)
  ]
  combined_has (x ∷ rest) kind.Int e = elim (or_cases (f x).integer (all rest).integer e) [
    | inl here ↦ (x, Contains-here x rest, here)
    | inr later ↦ among_later x rest kind.Int (combined_has rest kind.Int later)
  ]
  combined_has (x ∷ rest) kind.Function it = go (f x).function refl it.1 (combined_has rest kind.Function)
    where
      go : (o : Option Arms) → (f x).function ≡ o → combined_functions o (all rest).function ≡ Some it.0 → (HasKind (all rest) kind.Function → IsAmong rest kind.Function) → IsAmong (x ∷ rest) kind.Function
      go None is e later = among_later x rest kind.Function (later (it.0, e))
      go (Some arms) is e later = (x, Contains-here x rest, (arms, is))
  combined_has (x ∷ rest) kind.Rcd it = go (f x).fields refl it.1 (combined_has rest kind.Rcd)
    where
      go : (o : Option Sets) → (f x).fields ≡ o → combined_records p o (all rest).fields ≡ Some it.0 → (HasKind (all rest) kind.Rcd → IsAmong rest kind.Rcd) → IsAmong (x ∷ rest) kind.Rcd
      go None is e later = among_later x rest kind.Rcd (later (it.0, e))
      go (Some sets) is e later = (x, Contains-here x rest, (sets, is))

-- where two heads have the same, they have the same kinds
pub kind_same : (h k : Parts) → IsSameParts h k → (kind : HeadKind) → HasKind h kind → HasKind k kind
kind_same h k same kind.Bool e = sym same.boolean ∙ e
kind_same h k same kind.Int e = sym same.integer ∙ e
kind_same h k same kind.Function it = go h.function k.function same.function it.0 it.1
  where
    go : (o other : Option Arms) → IsSameOption IsSameArms o other → (arms : Arms) → o ≡ Some arms → (found : Arms) × (other ≡ Some found)
    go (Some f) (Some g) is arms e = (g, refl)
    go (Some f) None is arms e = absurd is
    go None other is arms e = absurd (cc)
kind_same h k same kind.Rcd it = go h.fields k.fields same.fields it.0 it.1
  where
    go : (o other : Option Sets) → IsSameOption AreSameSets o other → (sets : Sets) → o ≡ Some sets → (found : Sets) × (other ≡ Some found)
    go (Some f) (Some g) is sets e = (g, refl)
    go (Some f) None is sets e = absurd is
    go None other is sets e = absurd (cc)

-- one after the other
same_set_trans : (xs ys zs : List ℕ) → IsSameSet xs ys → IsSameSet ys zs → IsSameSet xs zs
same_set_trans xs ys zs first second = ((λ s there. second.0 s (first.0 s there)), (λ s there. first.1 s (second.1 s there)))

same_option_trans : (x y z : Option (List ℕ)) → IsSameOption IsSameSet x y → IsSameOption IsSameSet y z → IsSameOption IsSameSet x z
same_option_trans None None z first second = second
same_option_trans None (Some ys) z first second = absurd first
same_option_trans (Some xs) None z first second = absurd first
same_option_trans (Some xs) (Some ys) None first second = absurd second
same_option_trans (Some xs) (Some ys) (Some zs) first second = same_set_trans xs ys zs first second

-- A head that has the same as the combined head of some heads, one of which has this function, or this record, and no other has another.
module _ {X : Type 0} (p : Polarity) (f : X → Parts) (xs : List X) (h : Parts) (same : IsSameParts h (combined p (map f xs))) (x : X) (there : Contains xs x) where
  pub combined_function : (arms : Arms) → (f x).function ≡ Some arms → ((y : X) → Contains xs y → IsAtMost arms (f y).function) → (found : Arms) × (h.function ≡ Some found) × IsSameArms found arms
  combined_function arms is each =
      go h.function (combined p (map f xs)).function refl same.function (function_alike p f arms xs each)
      (subst (λ o. IsFunctionWithin Same o (combined p (map f xs)).function) is (within-combined p f xs x there).function)
    where
      go : (o other : Option Arms) → h.function ≡ o → IsSameOption IsSameArms o other → IsLike IsSameArms arms other → IsFunctionWithin Same (Some arms) other → (found : Arms) × (h.function ≡ Some found) × IsSameArms found arms
      go o None e first like within = absurd within
      go None (Some g) e first like within = absurd first
      go (Some k) (Some g) e first (inl free) within = absurd (cc)
      go (Some k) (Some g) e first (inr second) within =
          (k, e, (same_set_trans k.domain g.domain arms.domain first.0 second.0, same_set_trans k.codomain g.codomain arms.codomain first.1 second.1))

  pub combined_fields : (sets : Sets) → (f x).fields ≡ Some sets → ((y : X) → Contains xs y → IsAtMost sets (f y).fields) → (found : Sets) × (h.fields ≡ Some found) × AreSameSets found sets
  combined_fields sets is each =
      go h.fields (combined p (map f xs)).fields refl same.fields (fields_alike p f sets xs each)
      (subst (λ o. IsRecordWithin Same p o (combined p (map f xs)).fields) is (within-combined p f xs x there).fields)
    where
      go : (o other : Option Sets) → h.fields ≡ o → IsSameOption AreSameSets o other → IsLike AreSameSets sets other → IsRecordWithin Same p (Some sets) other → (found : Sets) × (h.fields ≡ Some found) × AreSameSets found sets
      go o None e first like within = absurd within
      go None (Some g) e first like within = absurd first
      go (Some k) (Some g) e first (inl free) within = absurd (cc)
      go (Some k) (Some g) e first (inr second) within = (k, e, (λ label. same_option_trans (k label) (g label) (sets label) (first label) (second label)))
