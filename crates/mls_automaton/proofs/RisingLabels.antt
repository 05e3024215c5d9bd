-- Labels rise strictly where each is below the next one.
use Rattle.std.proofs.Common.{◌-◌, ◌≡◌, ℕ, zero, suc, ◌<◌, List, [], ◌∷◌, length, get_or, arith, ◌≤◌, false, is_lt, IsTrue, subst, true, ◌∙◌, ap}
use Rattle.std.specs.List.{All}
use Rattle.std.specs.Ordering.{nat_cmp}
use Rattle.std.specs.declared.cmp.Ordering.TheVariants.{Less}
use Rattle.std.specs.Cmp.Lexicographic.{slice_cmp}
use Rattle.std.proofs.lemmas.Cmp.{nat_list_cmp_total}
use Rattle.std.proofs.lemmas.List.{get_or_default}
use Rattle.mls_automaton.specs.declared.automaton.FieldSet.{FieldSet}
use Rattle.mls_automaton.specs.Heads.{AreRising}

abbrev pub IsLess : FieldSet → FieldSet → Type 0
IsLess first second = slice_cmp nat_cmp first.label second.label ≡ Less

pub IsLess-trans : (first second third : FieldSet) → IsLess first second → IsLess second third → IsLess first third
IsLess-trans first second third h k = nat_list_cmp_total.trans first.label second.label third.label h k

-- each field below this number has a lower label than the next
abbrev pub AreLess : List FieldSet → ℕ → Type 0
AreLess fields n = (k : ℕ) (d : FieldSet) → suc k < n → IsLess (get_or fields k d) (get_or fields (suc k) d)

pub AreRising-less : (fields : List FieldSet) → AreRising fields → AreLess fields (length fields)
AreRising-less [] rising k d low = absurd (omega arith)
AreRising-less (first ∷ rest) rising zero d low = rising.0 0 d (omega arith)
AreRising-less (first ∷ rest) rising (suc k) d low = AreRising-less rest rising.1 k d (omega arith)

above_first : (first : FieldSet) (rest : List FieldSet) → AreLess (first ∷ rest) (length (first ∷ rest)) → All (λ later. IsLess first later) rest
above_first first rest less zero d low = less 0 d (omega arith)
above_first first rest less (suc k) d low =
    IsLess-trans first (get_or rest k d) (get_or rest (suc k) d) (above_first first rest less k d (omega arith)) (less (suc k) d (omega arith))

pub AreLess-rising : (fields : List FieldSet) → AreLess fields (length fields) → AreRising fields
AreLess-rising [] less = tt
AreLess-rising (first ∷ rest) less = (above_first first rest less, AreLess-rising rest (λ k d low. less (suc k) d (omega arith)))

-- a field that is not below the next one
pub not_rising : (fields : List FieldSet) (i : ℕ) (d e : FieldSet) → 1 ≤ i → i < length fields → false ≡ is_lt (slice_cmp nat_cmp (get_or fields (i - 1) d).label (get_or fields i e).label) → AreRising fields → IsTrue false
not_rising fields zero d e some low is_not rising = absurd (omega arith)
not_rising fields (suc i) d e some low is_not rising =
    let same : suc i - 1 ≡ i = omega arith in
    let less : IsLess (get_or fields i d) (get_or fields (suc i) e) = subst (λ f. IsLess (get_or fields i d) f) (get_or_default fields (suc i) d e low) (AreRising-less fields rising i d low) in
    let is : is_lt (slice_cmp nat_cmp (get_or fields (suc i - 1) d).label (get_or fields (suc i) e).label) ≡ true = (λ k. is_lt (slice_cmp nat_cmp (get_or fields (same k) d).label (get_or fields (suc i) e).label)) ∙ ap is_lt less in
    absurd (cc)

-- where each of more fields than there are is below the next one, all are
pub all_less : (fields : List FieldSet) (n : ℕ) → length fields ≤ n → AreLess fields n → AreRising fields
all_less fields n le less = AreLess-rising fields (λ k d low. less k d (omega arith))
