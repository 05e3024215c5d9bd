-- The numbers of sets of one state, and of other sets.
--     one_key, many_key       the number of the key of a set
--     one_rises               one number
--     gets_one, gets_many     one more set with a number
--     stays_same              a number that a key has once more
--     longer                  one more state without a number
use Rattle.std.proofs.Common.{◌≡◌, ◌≢◌, ℕ, zero, suc, Bool, true, false, List, [], ◌∷◌, ◌++◌, refl, sym, ap, ◌∙◌, arith, length, get_or, Some, None}
use Rattle.std.specs.Prelude.{Option, cond, bytes_eq}
use Rattle.std.specs.BTreeMap.{get, Updates}
use Rattle.std.specs.Ordering.{nat_cmp}
use Rattle.std.specs.Cmp.Lexicographic.{slice_cmp}
use Rattle.std.proofs.lemmas.Map.Text.{is_eq-slice_cmp}
use Rattle.std.proofs.lemmas.Slice.Eq.{bytes_eq-Decides}
use Rattle.mls_automaton.specs.declared.automaton.Polarity.{Polarity}
use Rattle.mls_automaton.specs.declared.automaton.Polarity.TheVariants.{Positive, Negative}
use Rattle.mls_automaton.specs.Sets.{Rises}
use Rattle.mls_shape.specs.declared.register.Register.{Register}
use Rattle.mls_shape.specs.steps.Registers.{key_of, number_in, single_in, PutsSingle}
use Rattle.mls_shape.proofs.Registered.{GetsNumber}

pub one_key : (register : Register) (p : Polarity) (s : ℕ) → number_in register (key_of p (s ∷ [])) ≡ single_in register p s
one_key register Positive s = refl
one_key register Negative s = refl

-- one number rises
pub one_rises : (s : ℕ) → Rises (s ∷ [])
one_rises s i j less low = absurd (omega (arith, less, low))

pub many_key : (register : Register) (p : Polarity) (members : List ℕ) → length members ≢ 1 → number_in register (key_of p members) ≡ get (slice_cmp nat_cmp) register.numbers (key_of p members)
many_key register Positive [] many = refl
many_key register Negative [] many = refl
many_key register p (s ∷ []) many = absurd (many refl)
many_key register Positive (s ∷ t ∷ members) many = refl
many_key register Negative (s ∷ t ∷ members) many = refl

-- Keys of a kind have the numbers that they had, where those of single states have, and those in the map.
kept : (old new : Register) (IsSuch : List ℕ → Type 0) → ((q : Polarity) (t : ℕ) → IsSuch (key_of q (t ∷ [])) → single_in new q t ≡ single_in old q t)
    → ((other : List ℕ) → IsSuch other → get (slice_cmp nat_cmp) new.numbers other ≡ get (slice_cmp nat_cmp) old.numbers other)
    → (other : List ℕ) → IsSuch other → number_in new other ≡ number_in old other
kept old new IsSuch single many [] is = many [] is
kept old new IsSuch single many (zero ∷ []) is = many (zero ∷ []) is
kept old new IsSuch single many (suc zero ∷ []) is = many (suc zero ∷ []) is
kept old new IsSuch single many (suc (suc q) ∷ []) is = many (suc (suc q) ∷ []) is
kept old new IsSuch single many (zero ∷ t ∷ []) is = single Positive t is
kept old new IsSuch single many (suc zero ∷ t ∷ []) is = single Negative t is
kept old new IsSuch single many (suc (suc q) ∷ t ∷ []) is = many (suc (suc q) ∷ t ∷ []) is
kept old new IsSuch single many (zero ∷ t ∷ u ∷ rest) is = many (zero ∷ t ∷ u ∷ rest) is
kept old new IsSuch single many (suc zero ∷ t ∷ u ∷ rest) is = many (suc zero ∷ t ∷ u ∷ rest) is
kept old new IsSuch single many (suc (suc q) ∷ t ∷ u ∷ rest) is = many (suc (suc q) ∷ t ∷ u ∷ rest) is

-- a set of one state more, in a register that has the numbers of the one before
pub gets_one : (old now new : Register) (p : Polarity) (s number : ℕ) → now.positive ≡ old.positive → now.negative ≡ old.negative → now.numbers ≡ old.numbers
    → PutsSingle p s number now new → GetsNumber old new (key_of p (s ∷ [])) number
gets_one old now new p s number positive negative numbers puts = record {
  here = one_key new p s ∙ puts.here;
  others = kept old new (λ other. other ≢ key_of p (s ∷ []))
      (λ q t apart. puts.others q t (λ same_p same_t. apart (λ i. key_of (same_p i) (same_t i ∷ []))) ∙ same q t)
      (λ other apart. ap (λ map. get (slice_cmp nat_cmp) map other) (puts.numbers ∙ numbers));
}
  where
    same : (q : Polarity) (t : ℕ) → single_in now q t ≡ single_in old q t
    same Positive t = ap (λ singles. get_or singles t None) positive
    same Negative t = ap (λ singles. get_or singles t None) negative

-- another set more
pub gets_many : (old new : Register) (p : Polarity) (members : List ℕ) (number : ℕ) → length members ≢ 1
    → new.positive ≡ old.positive → new.negative ≡ old.negative → Updates (slice_cmp nat_cmp) old.numbers new.numbers (key_of p members) (Some number)
    → GetsNumber old new (key_of p members) number
gets_many old new p members number many positive negative updates = record {
  here = many_key new p members many ∙ updates.1;
  others = kept old new (λ other. other ≢ key) (λ q t apart. single q t) (λ other apart. updates.0 other ∙ ap (λ b. cond b (Some number) (get (slice_cmp nat_cmp) old.numbers other)) (is_eq-slice_cmp key other ∙ differ other apart (bytes_eq key other) refl));
}
  where
    key : List ℕ
    key = key_of p members

    single : (q : Polarity) (t : ℕ) → single_in new q t ≡ single_in old q t
    single Positive t = ap (λ numbers. get_or numbers t None) positive
    single Negative t = ap (λ numbers. get_or numbers t None) negative

    differ : (other : List ℕ) → other ≢ key → (b : Bool) → bytes_eq key other ≡ b → b ≡ false
    differ other apart true e = absurd (apart (sym ((bytes_eq-Decides key other).0 e)))
    differ other apart false e = refl

-- a number that a key has once more
pub stays_same : (old new : Register) (key : List ℕ) (number : ℕ) → new.positive ≡ old.positive → new.negative ≡ old.negative → get (slice_cmp nat_cmp) old.numbers key ≡ Some number
    → Updates (slice_cmp nat_cmp) old.numbers new.numbers key (Some number) → (other : List ℕ) → number_in new other ≡ number_in old other
stays_same old new key number positive negative known updates other = kept old new (λ other. Unit {0}) (λ q t is. single q t) (λ other is. same other (bytes_eq key other) refl) other tt
  where
    single : (q : Polarity) (t : ℕ) → single_in new q t ≡ single_in old q t
    single Positive t = ap (λ singles. get_or singles t None) positive
    single Negative t = ap (λ singles. get_or singles t None) negative

    same : (other : List ℕ) (b : Bool) → bytes_eq key other ≡ b → get (slice_cmp nat_cmp) new.numbers other ≡ get (slice_cmp nat_cmp) old.numbers other
    same other true e =
        let equal : key ≡ other = (bytes_eq-Decides key other).0 e in
        ap (get (slice_cmp nat_cmp) new.numbers) (sym equal) ∙ (updates.1 ∙ (sym known ∙ ap (get (slice_cmp nat_cmp) old.numbers) equal))
    same other false e = updates.0 other ∙ ap (λ b. cond b (Some number) (get (slice_cmp nat_cmp) old.numbers other)) (is_eq-slice_cmp key other ∙ e)

-- one more state without a number
pub longer : (numbers : List (Option ℕ)) (t : ℕ) → get_or (numbers ++ None ∷ []) t None ≡ get_or numbers t None
longer [] zero = refl
longer [] (suc t) = refl
longer (first ∷ numbers) zero = refl
longer (first ∷ numbers) (suc t) = longer numbers t
