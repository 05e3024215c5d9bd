-- The greatest set of claims of pairs is the set of the admissible pairs.
--     claims-among         the claims are about the pairs
--     claimed              a pair is marked exactly where it is admissible
--     marked-contains      the marked pairs
use Rattle.std.proofs.Common.{◌≡◌, ◌⊎◌, inl, inr, ℕ, zero, suc, ◌<◌, Bool, true, false, List, [], ◌∷◌, refl, sym, ◌∙◌, subst, arith, length, All, Contains, Some, None}
use Rattle.std.specs.Prelude.{◌↔◌, Option, map}
use Rattle.std.proofs.lemmas.List.{get_or_default}
use Rattle.std.proofs.lemmas.List.Elements.{All-contains, All-map}
use Rattle.mls_automaton.specs.declared.automaton.Flow.{Flow}
use Rattle.mls_automaton.specs.Automata.{Automaton, flow, head_at, HasFlow}
use Rattle.mls_automaton.specs.Models.{IsClosed, IsDeterministic}
use Rattle.mls_automaton.proofs.Lists.{All-contained, Contains-cases, Contains-here, Contains-later, Contains-map}
use Rattle.mls_flow.specs.declared.standing.Claim.{Claim}
use Rattle.mls_flow.specs.Admissible.{booleans, integers, functions, records, IsMatched, IsFlowRelation, Holds, IsAdmissible}
use Rattle.mls_flow.specs.Claims.{AllIn, IsAmong, IsGreatest, IsWayAmong, StandTogether, Stands, claim_at, kept_at, no_claim}
use Rattle.mls_flow.specs.Needs.{AreClaimsOf, AreNeedsMet, HasCommonBase, HoldsAtOnce, IsClaimOf, IsNumbered, IsPair, pair_at}
use Rattle.mls_flow.specs.Tables.{marked}
use Rattle.mls_flow.proofs.Fields.{has_pair, pair-contained, contained-pair}
use Rattle.mls_flow.proofs.Needed.{functions_by_needs, records_by_needs}

-- the lists of the claims
way-among : (list : List Flow) (o : Option (List ℕ)) (needs : Option (List Flow)) → IsNumbered list o needs → IsWayAmong (length list) o
way-among list None needs is = tt
way-among list (Some numbers) None is = absurd is
way-among list (Some numbers) (Some needs) is = is.0

pub claims-among : (a : Automaton) (list : List Flow) (claims : List Claim) → AreClaimsOf a list claims → length claims ≡ length list → All (IsAmong (length claims)) claims
claims-among a list claims are same = λ k d low.
    let is = are.each k low in
    let ways : IsAmong (length list) (claim_at claims k) = (way-among list (claim_at claims k).first _ is.first, way-among list (claim_at claims k).second _ is.second) in
    subst (IsAmong (length claims)) (sym (get_or_default claims k d no_claim low)) (subst (λ size. IsAmong size (claim_at claims k)) (sym same) ways)

-- the numbers that are kept, and the relation
module _ (R : ℕ → ℕ → Type 0) (kept : ℕ → Bool) (list : List Flow) where
  abbrev Met : Flow → Type 0
  Met f = R f.negative.0 f.positive.0

  pub kept-met : ((k : ℕ) → k < length list → kept k ≡ true → Met (pair_at list k)) → (o : Option (List ℕ)) (needs : Option (List Flow)) → IsNumbered list o needs → AllIn kept o → AreNeedsMet R needs
  kept-met to None needs is all = absurd all
  kept-met to (Some numbers) None is all = absurd is
  kept-met to (Some numbers) (Some needs) is all =
      subst (All Met) is.1 (All-map Met (pair_at list) numbers (All-contained (λ k. Met (pair_at list k)) numbers (λ k there.
      to k (All-contains (λ k. k < length list) numbers k is.0 there) (All-contains (λ k. kept k ≡ true) numbers k all there))))

  pub met-kept : ((k : ℕ) → k < length list → Met (pair_at list k) → kept k ≡ true) → (o : Option (List ℕ)) (needs : Option (List Flow)) → IsNumbered list o needs → AreNeedsMet R needs → AllIn kept o
  met-kept from None None is met = absurd met
  met-kept from None (Some needs) is met = absurd is
  met-kept from (Some numbers) None is met = absurd is
  met-kept from (Some numbers) (Some needs) is met =
      let all : All Met (map (pair_at list) numbers) = subst (All Met) (sym is.1) met in
      All-contained (λ k. kept k ≡ true) numbers (λ k there.
      from k (All-contains (λ k. k < length list) numbers k is.0 there) (All-contains Met (map (pair_at list) numbers) (pair_at list k) all (Contains-map (pair_at list) numbers k there)))

  module _ (a : Automaton) (closed : IsClosed a) (single : IsDeterministic a) (f : Flow) (c : Claim) (is : IsClaimOf a list f c) where
    at-once : HasCommonBase (head_at a f.negative.0) (head_at a f.positive.0) → IsMatched a R f.negative.0 f.positive.0
    at-once (inl both) = booleans both.0 both.1
    at-once (inr both) = integers both.0 both.1

    held : HoldsAtOnce a f.negative.0 f.positive.0 → HasFlow a f.negative.0 f.positive.0 ⊎ IsMatched a R f.negative.0 f.positive.0
    held (inl edge) = inl edge
    held (inr base) = inr (at-once base)

    pub stands-matched : ((k : ℕ) → k < length list → kept k ≡ true → Met (pair_at list k)) → Stands kept c → HasFlow a f.negative.0 f.positive.0 ⊎ IsMatched a R f.negative.0 f.positive.0
    stands-matched to (inl e) = held (is.holds.0 e)
    stands-matched to (inr (inl all)) =
        inr (functions ((functions_by_needs R (head_at a f.negative.0).function (head_at a f.positive.0).function (single f.negative.0).0 (single f.positive.0).0).0 (kept-met to c.first _ is.first all)))
    stands-matched to (inr (inr all)) =
        inr (records ((records_by_needs R (head_at a f.negative.0).fields (head_at a f.positive.0).fields (single f.negative.0).1 (single f.positive.0).1 (closed.labels f.positive.0)).0 (kept-met to c.second _ is.second all)))

    pub matched-stands : ((k : ℕ) → k < length list → Met (pair_at list k) → kept k ≡ true) → HasFlow a f.negative.0 f.positive.0 ⊎ IsMatched a R f.negative.0 f.positive.0 → Stands kept c
    matched-stands from (inl edge) = inl (is.holds.1 (inl edge))
    matched-stands from (inr (booleans e e')) = inl (is.holds.1 (inr (inl (e, e'))))
    matched-stands from (inr (integers e e')) = inl (is.holds.1 (inr (inr (e, e'))))
    matched-stands from (inr (functions it)) =
        inr (inl (met-kept from c.first _ is.first ((functions_by_needs R (head_at a f.negative.0).function (head_at a f.positive.0).function (single f.negative.0).0 (single f.positive.0).0).1 it)))
    matched-stands from (inr (records it)) =
        inr (inr (met-kept from c.second _ is.second ((records_by_needs R (head_at a f.negative.0).fields (head_at a f.positive.0).fields (single f.negative.0).1 (single f.positive.0).1 (closed.labels f.positive.0)).1 it)))

-- the marked pairs
abbrev pub IsMarkedAt : List Flow → List Bool → Flow → ℕ → Type 0
IsMarkedAt list marks f k = (k < length list) × (pair_at list k ≡ f) × (kept_at marks k ≡ true)

pub marked-at : (list : List Flow) (marks : List Bool) (f : Flow) → Contains (marked list marks) f → (k : ℕ) × IsMarkedAt list marks f k
marked-at [] marks f there = let low : there.0 < 0 = there.1 in absurd (omega arith)
marked-at (g ∷ list) [] f there = let low : there.0 < 0 = there.1 in absurd (omega arith)
marked-at (g ∷ list) (true ∷ marks) f there =
    elim (Contains-cases g (marked list marks) f there) [
      | inl same ↦ (0, (omega arith, same, refl))
      | inr later ↦ let it = marked-at list marks f later in let low : it.0 < length list = it.1.0 in (suc it.0, (omega arith, it.1.1, it.1.2))
    ]
marked-at (g ∷ list) (false ∷ marks) f there =
    let it = marked-at list marks f there in let low : it.0 < length list = it.1.0 in (suc it.0, (omega arith, it.1.1, it.1.2))

pub at-marked : (list : List Flow) (marks : List Bool) (k : ℕ) → k < length list → kept_at marks k ≡ true → Contains (marked list marks) (pair_at list k)
at-marked [] marks k low e = absurd (omega arith)
at-marked (g ∷ list) [] k low e = let no : false ≡ true = e in absurd (cc)
at-marked (g ∷ list) (true ∷ marks) zero low e = Contains-here g (marked list marks)
at-marked (g ∷ list) (true ∷ marks) (suc k) low e = Contains-later g (marked list marks) (pair_at list k) (at-marked list marks k (omega arith) e)
at-marked (g ∷ list) (false ∷ marks) zero low e = absurd (cc)
at-marked (g ∷ list) (false ∷ marks) (suc k) low e = at-marked list marks k (omega arith) e

module _ (a : Automaton) (closed : IsClosed a) (single : IsDeterministic a) (list : List Flow) (pairs : All (IsPair a) list) (claims : List Claim) (are : AreClaimsOf a list claims) (same : length claims ≡ length list)
    (marks : List Bool) (greatest : IsGreatest claims marks) where
  abbrev table : ℕ → ℕ → Bool
  table n p = has_pair (marked list marks) n p

  marked-table : (k : ℕ) → k < length list → kept_at marks k ≡ true → Holds table (pair_at list k).negative.0 (pair_at list k).positive.0
  marked-table k low e = contained-pair (marked list marks) (pair_at list k).negative.0 (pair_at list k).positive.0 (at-marked list marks k low e)

  among : (k : ℕ) → k < length list → k < length claims
  among k low = subst (λ size. k < size) (sym same) low

  table-flows : IsFlowRelation a (Holds table)
  table-flows n p is_n is_p e =
      let it = marked-at list marks (flow n p) (pair-contained (marked list marks) n p e) in
      let low = among it.0 it.1.0 in
      subst (λ f. HasFlow a f.negative.0 f.positive.0 ⊎ IsMatched a (Holds table) f.negative.0 f.positive.0) it.1.1
      (stands-matched (Holds table) (kept_at marks) list a closed single (pair_at list it.0) (claim_at claims it.0) (are.each it.0 low) marked-table (greatest.together it.0 low it.1.2))

  pub marked-admissible : (n p : ℕ) → Contains (marked list marks) (flow n p) → IsAdmissible a n p
  marked-admissible n p there = (table, table-flows, contained-pair (marked list marks) n p there)

  pub admissible-kept : (k : ℕ) → k < length list → IsAdmissible a (pair_at list k).negative.0 (pair_at list k).positive.0 → kept_at marks k ≡ true
  admissible-kept k low it = greatest.greatest kept together k (among k low) it.2
    where
      kept : ℕ → Bool
      kept j = it.0 (pair_at list j).negative.0 (pair_at list j).positive.0

      together : StandTogether claims kept
      together i low-i e =
          let low-list : i < length list = subst (λ size. i < size) same low-i in
          let pair : IsPair a (pair_at list i) = pairs i (flow 0 0) low-list in
          matched-stands (Holds it.0) kept list a closed single (pair_at list i) (claim_at claims i) (are.each i low-i) (λ j low-j h. h)
          (it.1 (pair_at list i).negative.0 (pair_at list i).positive.0 pair.0 pair.1 e)

  -- a pair of the list is marked exactly where it is admissible
  pub claimed : (n p : ℕ) → Contains list (flow n p) → Contains (marked list marks) (flow n p) ↔ IsAdmissible a n p
  claimed n p there = (marked-admissible n p, back)
    where
      is : pair_at list there.0 ≡ flow n p
      is = get_or_default list there.0 (flow 0 0) (flow n p) there.1 ∙ there.2

      back : IsAdmissible a n p → Contains (marked list marks) (flow n p)
      back it = subst (Contains (marked list marks)) is (at-marked list marks there.0 there.1 (admissible-kept there.0 there.1 (subst (λ (f : Flow). IsAdmissible a f.negative.0 f.positive.0) (sym is) it)))
