-- Lists of pairs that get longer: what is numbered keeps its numbers.
--     extends-refl, extends-trans, extends-wider, extends-one
--     numbers-kept, numbered-kept, claim-kept      what is said by numbers stays true
--     numbers-more, number-step                    one more number
--     claims-more                                  one more claim
--     function-pairs, record-pairs                 what a pair of states needs are pairs of states
use Rattle.std.proofs.Common.{◌≡◌, ◌≢◌, ◌⊎◌, inl, inr, ℕ, suc, ◌+◌, ◌<◌, ◌≤◌, Bool, true, false, List, [], ◌∷◌, ◌++◌, refl, sym, ap, ◌∙◌, subst, arith, length, get_or, take, All, Contains, Some, None}
use Rattle.std.specs.Prelude.{◌↔◌, Option, cond, map, is_some, unwrap_or}
use Rattle.std.proofs.Math.ListN.{get_or-append}
use Rattle.std.proofs.Math.Seq.{get_or-append_seam, take-suc}
use Rattle.std.proofs.lemmas.Bool.{cases_eq}
use Rattle.std.proofs.lemmas.List.{length-append, map-append, append_assoc, append-nil, get_or_default}
use Rattle.std.proofs.lemmas.List.Elements.{All-append, All-contains, Contains-get_or}
use Rattle.std.proofs.lemmas.List.Sums.{AllPass-from_list_all}
use Rattle.mls_automaton.specs.declared.automaton.Arms.{Arms}
use Rattle.mls_automaton.specs.declared.automaton.FieldSet.{FieldSet}
use Rattle.mls_automaton.specs.declared.automaton.Flow.{Flow}
use Rattle.mls_automaton.specs.declared.automaton.Head.{Head}
use Rattle.mls_automaton.specs.declared.automaton.Polarity.{Polarity}
use Rattle.mls_automaton.specs.declared.automaton.Polarity.TheVariants.{Positive, Negative}
use Rattle.mls_automaton.specs.Automata.{Automaton, flow, head_at, IsState}
use Rattle.mls_automaton.specs.Heads.{set_at}
use Rattle.mls_automaton.specs.Models.{HasArmsIn, HasFieldsIn, HasStatesIn, HasSingleArms, HasSingleFields, IsClosed, IsDeterministic, IsSingle}
use Rattle.mls_automaton.proofs.HeadOrder.{sets_found}
use Rattle.mls_automaton.proofs.Lists.{All-contained, All-one, Contains-cases, Contains-map_back, map-same}
use Rattle.mls_flow.specs.declared.standing.Claim.{Claim}
use Rattle.mls_flow.specs.Claims.{claim_at, no_claim}
use Rattle.mls_flow.specs.Needs.{AreClaimsOf, AreNumbers, Extends, HoldsAtOnce, IsClaimOf, IsNumbered, IsOneOf, IsPair, field_need, function_needs, has_all, only, pair_at, record_needs}
use Rattle.mls_flow.specs.Pairs.{IsAt}
use Rattle.mls_flow.proofs.Needed.{single-length, single-set}

pub none-all : (P : Flow → Type 0) → All P []
none-all P k d low = absurd (omega arith)

pub extends-refl : (P : Flow → Type 0) (list : List Flow) → Extends P list list
extends-refl P list = ([], sym (append-nil list), none-all P)

pub extends-trans : (P : Flow → Type 0) (old mid new : List Flow) → Extends P old mid → Extends P mid new → Extends P old new
extends-trans P old mid new it later = (
  it.0 ++ later.0,
  later.1 ∙ ap (λ xs. xs ++ later.0) it.1 ∙ append_assoc old it.0 later.0,
  All-append P it.0 later.0 it.2 later.2,
)

pub extends-wider : (P Q : Flow → Type 0) (old new : List Flow) → ((f : Flow) → P f → Q f) → Extends P old new → Extends Q old new
extends-wider P Q old new wider it = (it.0, it.1, All-contained Q it.0 (λ f there. wider f (All-contains P it.0 f it.2 there)))

pub extends-one : (P : Flow → Type 0) (old new : List Flow) (f : Flow) → P f → (new ≡ old) ⊎ (new ≡ old ++ f ∷ []) → Extends P old new
extends-one P old new f it (inl same) = subst (Extends P old) (sym same) (extends-refl P old)
extends-one P old new f it (inr longer) = (f ∷ [], longer, All-one P f it)

-- all pairs are such
pub extends-all : (P : Flow → Type 0) (old new : List Flow) → All P old → Extends P old new → All P new
extends-all P old new all it = subst (All P) (sym it.1) (All-append P old it.0 all it.2)

module _ (P : Flow → Type 0) (old new : List Flow) (it : Extends P old new) where
  pub kept-low : (k : ℕ) → k < length old → k < length new
  kept-low k low =
      let size : length new ≡ length old + length it.0 = ap length it.1 ∙ length-append old it.0 in
      omega arith

  pub kept-pair : (k : ℕ) → k < length old → pair_at new k ≡ pair_at old k
  kept-pair k low = ap (λ xs. pair_at xs k) it.1 ∙ get_or-append old it.0 (flow 0 0) k low

  pub numbers-kept : (numbers : List ℕ) (needs : List Flow) → AreNumbers old numbers needs → AreNumbers new numbers needs
  numbers-kept numbers needs are = (
    All-contained (λ k. k < length new) numbers (λ k there. kept-low k (All-contains (λ k. k < length old) numbers k are.0 there)),
    map-same (pair_at new) (pair_at old) numbers (All-contained (λ k. pair_at new k ≡ pair_at old k) numbers (λ k there. kept-pair k (All-contains (λ k. k < length old) numbers k are.0 there))) ∙ are.1,
  )

  pub numbered-kept : (numbers : Option (List ℕ)) (needs : Option (List Flow)) → IsNumbered old numbers needs → IsNumbered new numbers needs
  numbered-kept None None is = is
  numbered-kept None (Some needs) is = is
  numbered-kept (Some numbers) None is = is
  numbered-kept (Some numbers) (Some needs) is = numbers-kept numbers needs is

  pub claim-kept : (a : Automaton) (f : Flow) (c : Claim) → IsClaimOf a old f c → IsClaimOf a new f c
  claim-kept a f c is = record {
    holds = is.holds;
    first = numbered-kept c.first _ is.first;
    second = numbered-kept c.second _ is.second;
  }

-- one more pair is numbered
pub numbers-more : (old new : List Flow) (numbers : List ℕ) (needs : List Flow) (k : ℕ) (f : Flow) → AreNumbers old numbers needs → (new ≡ old) ⊎ (new ≡ old ++ f ∷ [])
    → IsAt new k f.negative.0 f.positive.0 → AreNumbers new (numbers ++ k ∷ []) (needs ++ f ∷ [])
numbers-more old new numbers needs k f are longer at =
    let longer' : Extends (λ g. g ≡ f) old new = extends-one (λ g. g ≡ f) old new f refl longer in
    let kept : AreNumbers new numbers needs = numbers-kept (λ g. g ≡ f) old new longer' numbers needs are in
    let last : pair_at new k ≡ f = sym (get_or_default new k f (flow 0 0) at.0) ∙ at.1 in (
      All-append (λ j. j < length new) numbers (k ∷ []) kept.0 (All-one (λ j. j < length new) k at.0),
      map-append (pair_at new) numbers (k ∷ []) ∙ ap (λ xs. xs ++ pair_at new k ∷ []) kept.1 ∙ ap (λ g. needs ++ g ∷ []) last,
    )

pub number-step : (first old new : List Flow) (needs : List Flow) (numbers numbers' : List ℕ) (i k : ℕ) (f : Flow) → i < length needs → f ≡ get_or needs i (flow 0 0)
    → Extends (Contains needs) first old → AreNumbers old numbers (take i needs)
    → (new ≡ old) ⊎ (new ≡ old ++ f ∷ []) → IsAt new k f.negative.0 f.positive.0 → numbers' ≡ numbers ++ k ∷ []
    → Extends (Contains needs) first new × AreNumbers new numbers' (take (i + 1) needs)
number-step first old new needs numbers numbers' i k f low is so-far are longer at added =
    let inside : Contains needs f = subst (Contains needs) (sym is) (Contains-get_or needs i (flow 0 0) low) in
    let taken : take i needs ++ f ∷ [] ≡ take (i + 1) needs =
    ap (λ g. take i needs ++ g ∷ []) is ∙ sym (take-suc needs i (flow 0 0) low) ∙ ap (λ j. take j needs) (let e : suc i ≡ i + 1 = omega arith in e) in (
      extends-trans (Contains needs) first old new so-far (extends-one (Contains needs) old new f inside longer),
      subst (λ ns. AreNumbers new ns (take (i + 1) needs)) (sym added)
          (subst (AreNumbers new (numbers ++ k ∷ [])) taken (numbers-more old new numbers (take i needs) k f are longer at)),
    )

-- one more claim
pub claims-more : (P : Flow → Type 0) (a : Automaton) (old new : List Flow) (claims claims' : List Claim) (f : Flow) (c : Claim) → Extends P old new → AreClaimsOf a old claims
    → length claims ≤ length old → IsAt old (length claims) f.negative.0 f.positive.0 → IsClaimOf a new f c → claims' ≡ claims ++ c ∷ [] → AreClaimsOf a new claims'
claims-more P a old new claims claims' f c longer are few at is added =
    subst (AreClaimsOf a new) (sym added) (record { each = λ k low. go k low (cases_eq k (length claims)) })
  where
    last : pair_at new (length claims) ≡ f
    last = kept-pair P old new longer (length claims) at.0 ∙ sym (get_or_default old (length claims) f (flow 0 0) at.0) ∙ at.1

    go : (k : ℕ) → k < length (claims ++ c ∷ []) → (k ≡ length claims) ⊎ (k ≢ length claims) → IsClaimOf a new (pair_at new k) (claim_at (claims ++ c ∷ []) k)
    go k low (inl same) =
        subst (λ j. IsClaimOf a new (pair_at new j) (claim_at (claims ++ c ∷ []) j)) (sym same)
        (subst (IsClaimOf a new (pair_at new (length claims))) (sym (get_or-append_seam claims c [] no_claim)) (subst (λ g. IsClaimOf a new g c) (sym last) is))
    go k low (inr other) =
        let size : length (claims ++ c ∷ []) ≡ length claims + 1 = length-append claims (c ∷ []) in
        let low-k : k < length claims + 1 = subst (λ s. k < s) size low in
        let inside : k < length claims = omega arith in
        let low-old : k < length old = omega arith in
        subst (IsClaimOf a new (pair_at new k)) (sym (get_or-append claims (c ∷ []) no_claim k inside))
        (subst (λ g. IsClaimOf a new g (claim_at claims k)) (sym (kept-pair P old new longer k low-old))
        (claim-kept P old new longer a (pair_at old k) (claim_at claims k) (are.each k inside)))

-- what a pair of states needs
only-state : (a : Automaton) (p : Polarity) (set : List ℕ) → IsSingle set → All (IsState a p) set → IsState a p (only set)
only-state a p set single all = all 0 0 (single-length set single)

functions-states : (a : Automaton) (o other : Option Arms) → HasArmsIn (IsState a) Negative o → HasArmsIn (IsState a) Positive other → HasSingleArms o → HasSingleArms other
    → (f : Flow) → IsOneOf (function_needs o other) f → IsPair a f
functions-states a None other each each' single single' f there = absurd there
functions-states a (Some x) None each each' single single' f there = absurd there
functions-states a (Some x) (Some y) each each' single single' f there =
    go (Contains-cases (flow (only y.domain) (only x.domain)) (flow (only x.codomain) (only y.codomain) ∷ []) f there)
  where
    codomains : IsPair a (flow (only x.codomain) (only y.codomain))
    codomains = (only-state a Negative x.codomain single.1 each.1, only-state a Positive y.codomain single'.1 each'.1)

    last : (flow (only x.codomain) (only y.codomain) ≡ f) ⊎ Contains [] f → IsPair a f
    last (inl same) = subst (IsPair a) same codomains
    last (inr none) = let low : none.0 < 0 = none.1 in absurd (omega arith)

    go : (flow (only y.domain) (only x.domain) ≡ f) ⊎ Contains (flow (only x.codomain) (only y.codomain) ∷ []) f → IsPair a f
    go (inl same) = subst (IsPair a) same (only-state a Negative y.domain single'.0 each'.0, only-state a Positive x.domain single.0 each.0)
    go (inr later) = last (Contains-cases (flow (only x.codomain) (only y.codomain)) [] f later)

first-state : (a : Automaton) (fs : List FieldSet) (other : FieldSet) (o : Option (List ℕ)) → set_at fs other.label ≡ o → HasFieldsIn (IsState a) Negative (Some fs) → HasSingleFields (Some fs) → is_some o ≡ true
    → IsState a Negative (only (unwrap_or o []))
first-state a fs other None e each single there = let no : false ≡ true = there in absurd (cc)
first-state a fs other (Some set) e each single there =
    only-state a Negative set (single-set fs other.label set single e) (sets_found (IsState a Negative) fs each other.label set e)

fields-states : (a : Automaton) (fs gs : List FieldSet) → HasFieldsIn (IsState a) Negative (Some fs) → HasFieldsIn (IsState a) Positive (Some gs) → HasSingleFields (Some fs) → HasSingleFields (Some gs)
    → (b : Bool) → has_all fs gs ≡ b → (f : Flow) → IsOneOf (cond b (Some (map (field_need fs) gs)) None) f → IsPair a f
fields-states a fs gs each each' single single' false e f there = absurd there
fields-states a fs gs each each' single single' true e f there =
    let from = Contains-map_back (field_need fs) gs f there in
    let other : FieldSet = from.0 in
    subst (IsPair a) from.2 (
      first-state a fs other (set_at fs other.label) refl each single (All-contains (λ (o : FieldSet). is_some (set_at fs o.label) ≡ true) gs other (AllPass-from_list_all (λ (o : FieldSet). is_some (set_at fs o.label)) gs e) from.1),
      only-state a Positive other.set (All-contains (λ (o : FieldSet). IsSingle o.set) gs other single' from.1) (All-contains (λ (o : FieldSet). All (IsState a Positive) o.set) gs other each' from.1),
    )

records-states : (a : Automaton) (o other : Option (List FieldSet)) → HasFieldsIn (IsState a) Negative o → HasFieldsIn (IsState a) Positive other → HasSingleFields o → HasSingleFields other
    → (f : Flow) → IsOneOf (record_needs o other) f → IsPair a f
records-states a None other each each' single single' f there = absurd there
records-states a (Some fs) None each each' single single' f there = absurd there
records-states a (Some fs) (Some gs) each each' single single' f there = fields-states a fs gs each each' single single' (has_all fs gs) refl f there

module _ (a : Automaton) (closed : IsClosed a) (single : IsDeterministic a) (n p : ℕ) (is_n : IsState a Negative n) (is_p : IsState a Positive p) where
  lower : HasStatesIn (IsState a) Negative (head_at a n)
  lower = subst (λ q. HasStatesIn (IsState a) q (head_at a n)) is_n.polarity (closed.heads n)

  upper : HasStatesIn (IsState a) Positive (head_at a p)
  upper = subst (λ q. HasStatesIn (IsState a) q (head_at a p)) is_p.polarity (closed.heads p)

  pub function-pairs : (f : Flow) → IsOneOf (function_needs (head_at a n).function (head_at a p).function) f → IsPair a f
  function-pairs = functions-states a (head_at a n).function (head_at a p).function lower.function upper.function (single n).0 (single p).0

  pub record-pairs : (f : Flow) → IsOneOf (record_needs (head_at a n).fields (head_at a p).fields) f → IsPair a f
  record-pairs = records-states a (head_at a n).fields (head_at a p).fields lower.fields upper.fields (single n).1 (single p).1

-- the claim of a pair, whose needs are numbered one list after the other
module _ (a : Automaton) (closed : IsClosed a) (single : IsDeterministic a) (f : Flow) (pair : IsPair a f) (lower upper : Head) (lower-is : lower ≡ head_at a f.negative.0) (upper-is : upper ≡ head_at a f.positive.0)
    (functions records : Option (List Flow)) (functions-are : functions ≡ function_needs lower.function upper.function) (records-are : records ≡ record_needs lower.fields upper.fields) where
  all-functions : functions ≡ function_needs (head_at a f.negative.0).function (head_at a f.positive.0).function
  all-functions =
      functions-are ∙ ap (λ (h : Head). function_needs h.function upper.function) lower-is
      ∙ ap (λ (h : Head). function_needs (head_at a f.negative.0).function h.function) upper-is

  all-records : records ≡ record_needs (head_at a f.negative.0).fields (head_at a f.positive.0).fields
  all-records =
      records-are ∙ ap (λ (h : Head). record_needs h.fields upper.fields) lower-is
      ∙ ap (λ (h : Head). record_needs (head_at a f.negative.0).fields h.fields) upper-is

  function-pair : (g : Flow) → IsOneOf functions g → IsPair a g
  function-pair g there = function-pairs a closed single f.negative.0 f.positive.0 pair.0 pair.1 g (subst (λ needs. IsOneOf needs g) all-functions there)

  pub record-pair : (g : Flow) → IsOneOf records g → IsPair a g
  record-pair g there = record-pairs a closed single f.negative.0 f.positive.0 pair.0 pair.1 g (subst (λ needs. IsOneOf needs g) all-records there)

  module _ (old mid new : List Flow) (first : Extends (IsOneOf functions) old mid) (second : Extends (IsOneOf records) mid new) where
    pub needs-extend : Extends (IsPair a) old new
    needs-extend =
        extends-trans (IsPair a) old mid new
        (extends-wider (IsOneOf functions) (IsPair a) old mid function-pair first)
        (extends-wider (IsOneOf records) (IsPair a) mid new record-pair second)

    pub claim-made : (c : Claim) → (c.holds ≡ true) ↔ HoldsAtOnce a f.negative.0 f.positive.0 → IsNumbered mid c.first functions → IsNumbered new c.second records → IsClaimOf a new f c
    claim-made c holds firsts seconds = record {
      holds = holds;
      first = subst (IsNumbered new c.first) all-functions (numbered-kept (IsOneOf records) mid new second c.first functions firsts);
      second = subst (IsNumbered new c.second) all-records seconds;
    }
